pub mod LogicFunctions
pub mod Logic
