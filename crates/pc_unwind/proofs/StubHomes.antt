-- The homes of a stub, by variable.
use Rattle.std.proofs.Common.{inl, inr, ◌≡◌, ℕ, zero, suc, ◌+◌, ◌<◌, List, [], ◌∷◌, length, drop, refl, sym, ◌∙◌, ap, arith}
use Rattle.std.specs.Prelude.{◌⊎◌, ◌-◌, ◌≤◌, pos, Bool, true, false, if◌then◌else◌, nat_eq, replicate, slice_index_or, slice_set}
use Rattle.std.specs.List.{AllByRecursion}
use Rattle.std.proofs.Math.ListN.{length-set}
use Rattle.pc_word.specs.declared.item.Operand.{Operand}
use Rattle.pc_word.specs.declared.item.Operand.TheVariants.{Lit}
use Rattle.pc_window.specs.declared.home.Home.{Home}
use Rattle.pc_window.specs.Tree.{home_of}
use Rattle.pc_window.specs.Opening.{first_new, changed}
use Rattle.pc_window.specs.StoredWindow.{homes_in}
use Rattle.pc_window.proofs.HomesStored.{home_moved}

-- at first no variable has a home
pub no_homes : (n : ℕ) → homes_in (replicate n (Lit (pos 0))) ≡ home_of []
no_homes n = λ i x. at n x i
  where
    at : (n x : ℕ) → slice_index_or (replicate n (Lit (pos 0))) x (Lit (pos 0)) ≡ Lit (pos 0)
    at zero x = refl
    at (suc n) zero = refl
    at (suc n) (suc x) = at n x

-- nothing is behind the last home
pub none_left : (homes : List Home) → home_of [] ≡ home_of (drop (length homes) homes)
none_left [] = refl
none_left (home ∷ homes) = none_left homes

none_behind : (homes : List Home) (at : ℕ) → length homes ≤ at → home_of [] ≡ home_of (drop at homes)
none_behind [] zero end = refl
none_behind [] (suc at) end = refl
none_behind (home ∷ homes) zero end = absurd (omega (arith, end))
none_behind (home ∷ homes) (suc at) end = none_behind homes at (omega (arith, end))

-- the home at a place, and those behind it
home_before : (homes : List Home) (at : ℕ) (d : Home) → at < length homes → drop at homes ≡ slice_index_or homes at d ∷ drop (suc at) homes
home_before [] at d within = absurd (omega arith)
home_before (h ∷ homes) zero d within = refl
home_before (h ∷ homes) (suc at) d within = home_before homes at d (omega arith)

-- each home is of a variable
pub variable_there : (homes : List Home) (at : ℕ) (d : Home) → AllByRecursion (λ (h : Home). h.variable < first_new) homes → at < length homes → (slice_index_or homes at d).variable < first_new
variable_there [] at d all within = absurd (omega arith)
variable_there (h ∷ homes) zero d all within = all.0
variable_there (h ∷ homes) (suc at) d all within = variable_there homes at d all.1 (omega arith)

-- one home more
pub home_written : (by_variable : List Operand) (homes : List Home) (left : ℕ) (d : Home) → homes_in by_variable ≡ home_of (drop left homes) → left ≤ length homes → 0 < left
    → length by_variable ≡ first_new → AllByRecursion (λ (h : Home). h.variable < first_new) homes
    → homes_in (slice_set by_variable (slice_index_or homes (left - 1) d).variable (slice_index_or homes (left - 1) d).value) ≡ home_of (drop (left - 1) homes)
home_written by_variable homes left d is within some as_many all =
    let home = slice_index_or homes (left - 1) d in
    let next : suc (left - 1) ≡ left = omega arith in
    let before : left - 1 < length homes = omega arith in
    let variable = variable_there homes (left - 1) d all before in
    let there : home.variable < length by_variable = omega arith in
    home_moved by_variable home.variable home.value there
    ∙ ap (λ (f : ℕ → Operand). changed f home.variable home.value) (is ∙ ap (λ (n : ℕ). home_of (drop n homes)) (sym next))
    ∙ ap home_of (sym (home_before homes (left - 1) d before))

-- each variable still has its home, or none any more
abbrev pub AreCleared : List Operand → List Home → Type 0
AreCleared by_variable homes = (x : ℕ) → (homes_in by_variable x ≡ home_of homes x) ⊎ (homes_in by_variable x ≡ Lit (pos 0))

pub none_cleared : (by_variable : List Operand) (homes : List Home) → homes_in by_variable ≡ home_of homes → AreCleared by_variable homes
none_cleared by_variable homes is x = inl (ap (λ (f : ℕ → Operand). f x) is)

-- one home less
pub home_cleared : (by_variable : List Operand) (homes : List Home) (at : ℕ) (d : Home) → AreCleared by_variable (drop at homes) → at < length homes
    → length by_variable ≡ first_new → AllByRecursion (λ (h : Home). h.variable < first_new) homes
    → AreCleared (slice_set by_variable (slice_index_or homes at d).variable (Lit (pos 0))) (drop (at + 1) homes)
home_cleared by_variable homes at d cleared within as_many all x =
    let home = slice_index_or homes at d in
    let next : suc at ≡ at + 1 = omega arith in
    let variable = variable_there homes at d all within in
    let there : home.variable < length by_variable = omega arith in
    let moved = ap (λ (f : ℕ → Operand). f x) (home_moved by_variable home.variable (Lit (pos 0)) there) in
    let before : home_of (drop at homes) x ≡ (if nat_eq home.variable x then home.value else home_of (drop (at + 1) homes) x) =
    ap (λ (l : List Home). home_of l x) (home_before homes at d within ∙ ap (λ (n : ℕ). home ∷ drop n homes) next) in
    by (nat_eq home.variable x) home.value moved before (cleared x)
  where
    by : (b : Bool) → (value : Operand) → {now old rest given : Operand} → now ≡ (if b then Lit (pos 0) else old) → given ≡ (if b then value else rest)
        → (old ≡ given) ⊎ (old ≡ Lit (pos 0)) → (now ≡ rest) ⊎ (now ≡ Lit (pos 0))
    by true value moved before either = inr moved
    by false value moved before (inl same) = inl (moved ∙ same ∙ before)
    by false value moved before (inr none) = inr (moved ∙ none)

-- nothing is left
pub all_cleared : (by_variable : List Operand) (homes : List Home) (at : ℕ) → AreCleared by_variable (drop at homes) → length homes ≤ at → homes_in by_variable ≡ home_of []
all_cleared by_variable homes at cleared end = λ i x. none_at x i
  where
    none_at : (x : ℕ) → homes_in by_variable x ≡ Lit (pos 0)
    none_at x = by (cleared x)
      where
        by : (homes_in by_variable x ≡ home_of (drop at homes) x) ⊎ (homes_in by_variable x ≡ Lit (pos 0)) → homes_in by_variable x ≡ Lit (pos 0)
        by (inl same) = same ∙ ap (λ (f : ℕ → Operand). f x) (sym (none_behind homes at end))
        by (inr none) = none

-- a home that is written leaves as many
pub still_all : (by_variable : List Operand) (at : ℕ) (home : Operand) → length by_variable ≡ first_new → length (slice_set by_variable at home) ≡ first_new
still_all by_variable at home as_many = length-set by_variable at home ∙ as_many

pub ruleset homes = (variable_there, no_homes)
