-- What the functions of the C library answer, and what becomes of the slices that they are lent.
pub mod Calls
