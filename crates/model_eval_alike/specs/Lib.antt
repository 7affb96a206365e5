pub mod Alike
pub mod FunctionLaws
pub mod Laws
