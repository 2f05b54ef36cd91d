-- The lesser of tags, one after another.
use Rattle.std.proofs.Common.{◌≡◌, ℕ, Option, Some, None, refl, ap, arith}
use Rattle.std.specs.Prelude.{min}
use Rattle.pc_window.specs.Unwinding.{lesser_tag}

-- none is above all
pub lesser_none : (a : Option ℕ) → lesser_tag a None ≡ a
lesser_none None = refl
lesser_none (Some a) = refl

-- two that come after another
pub lesser_lesser : (a b c : Option ℕ) → lesser_tag (lesser_tag a b) c ≡ lesser_tag a (lesser_tag b c)
lesser_lesser None b c = refl
lesser_lesser (Some a) None c = refl
lesser_lesser (Some a) (Some b) None = refl
lesser_lesser (Some a) (Some b) (Some c) = ap (λ (n : ℕ). Some n) (lesser_of a b c)
  where
    lesser_of : (a b c : ℕ) → min (min a b) c ≡ min a (min b c)
    lesser_of a b c = omega arith

pub ruleset tags = (lesser_none, lesser_lesser)
