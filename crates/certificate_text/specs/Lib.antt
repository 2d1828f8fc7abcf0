pub mod CertificateOf
pub mod Reading
pub mod Progress
pub mod Place
pub mod Outlines
pub mod StepSaid
pub mod Laws
