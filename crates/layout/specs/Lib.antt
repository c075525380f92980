pub mod Tables
pub mod Counters
pub mod Fields
pub mod Rules
pub mod Frames
