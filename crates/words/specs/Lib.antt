pub mod Put
pub mod Flat
pub mod Table
pub mod Words
pub mod Rows
pub mod Reader
pub mod Literal
pub mod Writer
