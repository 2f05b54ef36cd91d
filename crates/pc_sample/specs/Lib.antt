pub mod Laws
pub mod SampleText
