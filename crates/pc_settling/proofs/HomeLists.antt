-- Homes of variables in a list.
use Rattle.std.proofs.Common.{◌≡◌, ℕ, Bool, false, true, suc, List, [], ◌∷◌, length, refl, ap}
use Rattle.std.specs.Prelude.{◌&&◌, nat_eq}
use Rattle.std.proofs.lemmas.Bool.{eq-eqb}
use Rattle.pc_window.specs.declared.home.Home.{Home}
use Rattle.pc_settling.specs.Begun.{are_homes_of}

-- as many or fewer homes are not of these variables
pub not_homes : (variables : List ℕ) (homes : List Home) → (length variables ≡ length homes → ⊥) → false ≡ are_homes_of variables homes
not_homes [] [] differ = absurd (differ refl)
not_homes [] (home ∷ homes) differ = refl
not_homes (variable ∷ variables) [] differ = refl
not_homes (variable ∷ variables) (home ∷ homes) differ =
    both (nat_eq home.variable variable) (are_homes_of variables homes) (not_homes variables homes (λ e. differ (ap suc e)))
  where
    both : (a b : Bool) → false ≡ b → false ≡ (a && b)
    both true b e = e
    both false b e = refl

-- where it is told by a test
pub other_count : (variables : List ℕ) (homes : List Home) → nat_eq (length variables) (length homes) ≡ false → false ≡ are_homes_of variables homes
other_count variables homes differ =
    not_homes variables homes (λ e. let same : nat_eq (length variables) (length homes) ≡ true = eq-eqb (length variables) (length homes) e in cc)

pub ruleset homes = (not_homes, other_count)
