pub mod Cells
pub mod Descents
pub mod Format
pub mod Headers
pub mod Lent
pub mod Planes
pub mod Reading
pub mod Table
