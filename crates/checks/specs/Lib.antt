-- What the functions of this crate compute on the way to the model's tests.
pub mod Apart
pub mod Network
pub mod Range
pub mod Sends
