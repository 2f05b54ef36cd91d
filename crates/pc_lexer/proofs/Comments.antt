-- How far a comment reaches.
use Rattle.std.proofs.Common.{◌≡◌, ℕ, suc, ◌+◌, Option, Some, None, refl, ap, arith}
use Rattle.std.specs.Option.{option_map}

-- one byte further
pub comment_step : (at : ℕ) (found : Option ℕ) → option_map (λ n. at + n) (option_map suc found) ≡ option_map (λ n. at + 1 + n) found
comment_step at None = refl
comment_step at (Some n) = ap Some (omega arith)
