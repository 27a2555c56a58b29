pub mod HeldLaws
pub mod TypedHeldLaws
