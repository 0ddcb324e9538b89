pub mod Adapter
