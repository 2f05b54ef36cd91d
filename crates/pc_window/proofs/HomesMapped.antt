-- Homes that get other values one after another.
use Rattle.std.proofs.Common.{◌≡◌, ℕ, zero, suc, ◌+◌, List, [], ◌∷◌, ◌++◌, Some, length, take, drop, refl, sym, ◌∙◌, ap, arith}
use Rattle.std.specs.Prelude.{slice_get, slice_set}
use Rattle.pc_word.proofs.Lists.{set_length}
use Rattle.pc_word.specs.declared.item.Operand.{Operand}
use Rattle.pc_window.specs.declared.home.Home.{Home}
use Rattle.pc_window.specs.Rename.{Gives, map_homes}

-- the first homes have the values that a function gives, and the rest are as they were
pub record HomesSoFar (R : Operand → Operand → Type 0) (at : ℕ) (before now : List Home) : Type 0 where
  pub is : (f : Operand → Operand) → Gives R f → now ≡ map_homes f (take at before) ++ drop at before
  pub size : length now ≡ length before

pub none_mapped : (R : Operand → Operand → Type 0) (homes : List Home) → HomesSoFar R 0 homes homes
none_mapped R homes = record { is = λ f gives. refl; size = refl }

one_more : (f : Operand → Operand) (homes : List Home) (at : ℕ) (home : Home) → slice_get (map_homes f (take at homes) ++ drop at homes) at ≡ Some home
    → slice_set (map_homes f (take at homes) ++ drop at homes) at (record { variable = home.variable; value = f home.value }) ≡ map_homes f (take (suc at) homes) ++ drop (suc at) homes
one_more f [] zero home e = absurd (cc)
one_more f [] (suc at) home e = absurd (cc)
one_more f (h ∷ homes) zero home e = let same : home ≡ h = cc in ap (λ (it : Home). record { variable = it.variable; value = f it.value } ∷ homes) same
one_more f (h ∷ homes) (suc at) home e = ap (λ (rest : List Home). record { variable = h.variable; value = f h.value } ∷ rest) (one_more f homes at home e)

pub one_mapped : (R : Operand → Operand → Type 0) (at : ℕ) (before now : List Home) (home : Home) (value : Operand) → HomesSoFar R at before now → slice_get now at ≡ Some home
    → R home.value value → HomesSoFar R (at + 1) before (slice_set now at (record { variable = home.variable; value = value }))
one_mapped R at before now home value h e r =
    let step : suc at ≡ at + 1 = omega arith in
    record {
      is = λ f gives.
          ap (λ (o : Operand). slice_set now at (record { variable = home.variable; value = o })) (gives home.value value r)
          ∙ ap (λ (l : List Home). slice_set l at (record { variable = home.variable; value = f home.value })) (h.is f gives)
          ∙ one_more f before at home (ap (λ (l : List Home). slice_get l at) (sym (h.is f gives)) ∙ e)
          ∙ ap (λ (n : ℕ). map_homes f (take n before) ++ drop n before) step;
      size = set_length now at (record { variable = home.variable; value = value }) ∙ h.size;
    }

pub all_mapped : (R : Operand → Operand → Type 0) (at : ℕ) (before now : List Home) → HomesSoFar R at before now → at ≡ length before
    → (f : Operand → Operand) → Gives R f → now ≡ map_homes f before
all_mapped R at before now h e f gives = h.is f gives ∙ ap (λ (n : ℕ). map_homes f (take n before) ++ drop n before) e ∙ whole_list before
  where
    whole_list : (homes : List Home) → map_homes f (take (length homes) homes) ++ drop (length homes) homes ≡ map_homes f homes
    whole_list [] = refl
    whole_list (home ∷ homes) = ap (λ (rest : List Home). record { variable = home.variable; value = f home.value } ∷ rest) (whole_list homes)

pub ruleset mapping = (none_mapped)
