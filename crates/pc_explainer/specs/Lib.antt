pub mod models
pub mod Explanations
pub mod Outside
pub mod Explainer
pub mod ExplainerLaws
