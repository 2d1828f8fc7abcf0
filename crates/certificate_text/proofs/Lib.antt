pub mod Written
pub mod KindLines
pub mod StepLines
pub mod RowLines
pub mod FirstSteps
mod GoingOn
pub mod Begins
pub mod FirstFaults
pub mod OneCertificate
pub mod OneFault
pub mod EachText
-- Lemmas on certificates: lists in rising order, layers by distances, what texts can name, and the laws.
pub mod Rising
pub mod ExactLayers
pub mod Nameable
pub mod VerdictCertificates
pub mod TakingLines
pub mod RowForms
pub mod OutlineFaults
pub mod OutlineTexts
