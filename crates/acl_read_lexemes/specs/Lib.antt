pub mod Lexemes
pub mod Frames
pub mod Opening
