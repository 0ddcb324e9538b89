pub mod Clean
pub mod KeyInside
pub mod Kind
pub mod Pattern
