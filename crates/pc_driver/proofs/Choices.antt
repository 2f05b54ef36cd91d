-- One more choice after others.
use Rattle.std.proofs.Common.{◌⊎◌, inl, inr}

pub either_first : {A B C : Type 0} → A ⊎ B → A ⊎ B ⊎ C
either_first (inl a) = inl a
either_first (inr b) = inr (inl b)

pub third_first : {A B C D : Type 0} → A ⊎ B ⊎ C → A ⊎ B ⊎ C ⊎ D
third_first (inl a) = inl a
third_first (inr (inl b)) = inr (inl b)
third_first (inr (inr c)) = inr (inr (inl c))

pub last_first : {A B C D E F : Type 0} → A ⊎ B ⊎ C ⊎ (D × E) → A ⊎ B ⊎ C ⊎ (D × (E ⊎ F))
last_first (inl a) = inl a
last_first (inr (inl b)) = inr (inl b)
last_first (inr (inr (inl c))) = inr (inr (inl c))
last_first (inr (inr (inr d))) = inr (inr (inr (d.0, inl d.1)))
