pub mod HeldLemmas
pub mod ShelfLemmas
pub mod StreamLemmas
