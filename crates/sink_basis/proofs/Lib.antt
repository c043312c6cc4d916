pub mod BasisLaws
pub mod IdentitySteps
pub mod InvertedLaws
pub mod RenewalSteps
