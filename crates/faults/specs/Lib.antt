pub mod Look
