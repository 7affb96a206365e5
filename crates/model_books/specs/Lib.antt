pub mod Opening
pub mod Commands
pub mod Lines
pub mod ProgramWords
pub mod GeneratedBook
pub mod Output
