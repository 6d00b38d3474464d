pub mod Signs
pub mod HalfUp
pub mod Law
