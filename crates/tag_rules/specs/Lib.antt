pub mod Tags
pub mod Forms
pub mod Reading
pub mod Writing
pub mod Promises
