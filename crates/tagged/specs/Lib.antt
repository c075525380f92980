pub mod Rows
pub mod Walking
