pub mod CertificateLaws
pub mod CrossingSteps
pub mod LeastSteps
pub mod BatchSteps
pub mod BeginSteps
