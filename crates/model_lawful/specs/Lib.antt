pub mod Growth
pub mod Lawful
pub mod Cliques
