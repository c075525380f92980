pub mod Hex
pub mod Desk
pub mod Served
pub mod Files
pub mod Kept
