pub mod Before
pub mod Bytes
pub mod Grammar
