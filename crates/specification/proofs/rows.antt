-- The worked recordings, certificates and texts.
pub mod Recordings
pub mod Texts
pub mod Certificates
