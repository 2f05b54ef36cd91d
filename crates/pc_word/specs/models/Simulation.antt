-- Simulations: two programs whose states are related and meet again. No public clause cites them; they are how runs are
-- proved to agree.
use Rattle.std.specs.Prelude.{◌≡◌, ℕ, suc, ◌<◌, ◌⊎◌}
use Rattle.pc_word.specs.Run.{Step, Reached, At, Over, reach}

-- two places where the same was printed: both are ends, and alike, or both are states, and related
abbrev pub Meet : {S T : Type 0} → (S → T → Type 0) → Reached S → Reached T → Type 0
Meet Related (At p s) (At q t) = (p ≡ q) × Related s t
Meet Related (Over p d) (Over q e) = (p ≡ q) × (d ≡ e)
Meet Related (At p s) (Over q e) = ⊥
Meet Related (Over p d) (At q t) = ⊥

-- from two related states, one step or more of each meet again
pub record MeetsAgain {S T : Type 0} (f : S → Step S) (g : T → Step T) (Related : S → T → Type 0) (s : S) (t : T) : Type 0 where
  pub more_steps : ℕ
  pub other_steps : ℕ
  pub meet : Meet Related (reach f (suc more_steps) s) (reach g (suc other_steps) t)

-- whatever two related states are, they meet again
abbrev pub Simulates : {S T : Type 0} → (S → Step S) → (T → Step T) → (S → T → Type 0) → Type 0
Simulates {S} {T} f g Related = (s : S) (t : T) → Related s t → MeetsAgain f g Related s t

-- some steps of each, or none of one of them, lead two related states to meet where the rank is lower
pub record MeetsLower {S T : Type 0} (f : S → Step S) (g : T → Step T) (Related : S → T → Type 0) (rank : S → T → ℕ) (s : S) (t : T) : Type 0 where
  pub steps : ℕ
  pub other_steps : ℕ
  pub meet : Meet (λ x y. Related x y × (rank x y < rank s t)) (reach f steps s) (reach g other_steps t)

-- whatever two related states are, they meet again, or meet where the rank is lower: so one side may stand still while the other moves, but not for ever
abbrev pub SimulatesInTime : {S T : Type 0} → (S → Step S) → (T → Step T) → (S → T → Type 0) → (S → T → ℕ) → Type 0
SimulatesInTime {S} {T} f g Related rank = (s : S) (t : T) → Related s t → MeetsAgain f g Related s t ⊎ MeetsLower f g Related rank s t
