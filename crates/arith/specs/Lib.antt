pub mod Division
pub mod Gcd
pub mod Bezout
pub mod Products
pub mod Width
pub mod Figures
pub mod Binary
