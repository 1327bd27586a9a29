pub mod HeldOver
