pub mod Built
pub mod Scanning
pub mod Tokens
