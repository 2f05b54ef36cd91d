-- Parts of tests.
use Rattle.std.proofs.Common.{◌≡◌, Bool, true, false, ◌||◌, ◌&&◌, not, refl}

-- what is needed after an item and not written by it is needed before it
pub needed_above : (a w b : Bool) → w ≡ false → b ≡ true → (a || (not w && b)) ≡ true
needed_above true w b p q = refl
needed_above false true b p q = absurd (cc)
needed_above false false b p q = q
