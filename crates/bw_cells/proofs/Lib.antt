pub mod Known
pub mod KnownEnds
