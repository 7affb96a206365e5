pub mod Token
pub mod Backquote
pub mod Parts
pub mod Next
pub mod Text
pub mod Spelling
