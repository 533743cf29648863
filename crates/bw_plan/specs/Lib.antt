pub mod Checks
pub mod Costs
pub mod Operands
pub mod Plans
pub mod Selections
pub mod Sets
pub mod Targeting
