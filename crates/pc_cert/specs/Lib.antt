pub mod CertificateText
pub mod Numbers
pub mod Reading
pub mod Cause
pub mod Laws
pub mod models
