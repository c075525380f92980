pub mod LineLaws
pub mod CounterLaws
