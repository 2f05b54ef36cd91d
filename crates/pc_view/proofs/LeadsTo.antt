-- The rows that are listed as leading to a row are those that have a leaf to it, each once.
use Rattle.std.proofs.Common.{◌≡◌, ℕ, zero, suc, ◌+◌, ◌<◌, ◌≤◌, ◌||◌, Bool, true, false, cond, List, [], ◌∷◌}
use Rattle.std.proofs.Common.{Some, refl, sym, ◌∙◌, subst, arith, inl, inr}
use Rattle.std.specs.Prelude.{nat_eq, slice_get, Contains, ◌⊎◌}
use Rattle.std.specs.List.{AllByRecursion, list_any}
use Rattle.std.proofs.lemmas.Bool.Decides.{nat_tests}
use Rattle.pc_word.proofs.Lists.{all_imply}
use Rattle.pc_word.specs.Row.{leaves_of}
use Rattle.pc_machine.specs.declared.tree.Leaf.{Leaf}
use Rattle.pc_machine.specs.declared.tree.Leaf.TheVariants.{Goto, Stop, Trap}
use Rattle.pc_machine.specs.MachineCode.{CodeRow, is_goto}
use Rattle.pc_machine.specs.Reachable.{HasLeafTo}
use Rattle.pc_view.specs.Leading.{leads_to, rows_leading_to}
use Rattle.pc_view.specs.Laws.{LeadTo, Rise}
use Rattle.pc_word.proofs.Truth.{or_second}

-- ---- elements

contains_here : {X : Type 0} (x : X) (xs : List X) → Contains (x ∷ xs) x
contains_here x xs = (0, omega arith, refl)

contains_later : {X : Type 0} (x y : X) (xs : List X) → Contains xs y → Contains (x ∷ xs) y
contains_later x y xs (k, h, e) = (suc k, omega arith, e)

contains_either : {X : Type 0} (x y : X) (xs : List X) → Contains (x ∷ xs) y → (x ≡ y) ⊎ Contains xs y
contains_either x y xs (zero, h, e) = inl e
contains_either x y xs (suc k, h, e) = inr (k, omega arith, e)

contains_none : {X : Type 0} (y : X) → Contains [] y → ⊥
contains_none y (k, h, e) = omega arith

-- ---- one row

-- leaves of which the test finds one that leads there have it
has_leaf : (target : ℕ) (leaves : List Leaf) → list_any (is_goto target) leaves ≡ true → Contains leaves (Goto target)
has_leaf target [] e = absurd (cc)
has_leaf target (Goto row ∷ rest) e = by (nat_eq row target) refl e (has_leaf target rest)
  where
    by : (b : Bool) → nat_eq row target ≡ b → (b || list_any (is_goto target) rest) ≡ true
        → (list_any (is_goto target) rest ≡ true → Contains rest (Goto target)) → Contains (Goto row ∷ rest) (Goto target)
    by true is e f =
        let same : row ≡ target = grind (arith, nat_tests) in
        subst (λ r. Contains (Goto r ∷ rest) (Goto target)) (sym same) (contains_here (Goto target) rest)
    by false is e f = contains_later (Goto row) (Goto target) rest (f e)
has_leaf target (Stop ∷ rest) e = contains_later Stop (Goto target) rest (has_leaf target rest e)
has_leaf target (Trap kind line ∷ rest) e = contains_later (Trap kind line) (Goto target) rest (has_leaf target rest e)

-- and the test finds one that is there
finds_leaf : (target : ℕ) (leaves : List Leaf) → Contains leaves (Goto target) → list_any (is_goto target) leaves ≡ true
finds_leaf target [] h = absurd (contains_none (Goto target) h)
finds_leaf target (leaf ∷ rest) h = by (contains_either leaf (Goto target) rest h) (finds_leaf target rest)
  where
    here : is_goto target (Goto target) ≡ true
    here = grind (arith, nat_tests)

    by : (leaf ≡ Goto target) ⊎ Contains rest (Goto target) → (Contains rest (Goto target) → list_any (is_goto target) rest ≡ true)
        → list_any (is_goto target) (leaf ∷ rest) ≡ true
    by (inl same) f = rw (same, here) refl
    by (inr later) f = or_second (is_goto target leaf) (list_any (is_goto target) rest) (f later)

-- ---- the rows

-- a row that leads to another, at a place of a list that is numbered from `first` on
record Leads (target first : ℕ) (rows : List CodeRow) (number : ℕ) : Type 0 where
  pub place : ℕ
  pub is : number ≡ first + place
  pub row : CodeRow
  pub here : slice_get rows place ≡ Some row
  pub leaf : HasLeafTo row target

leads_later : (target first : ℕ) (row : CodeRow) (rest : List CodeRow) (number : ℕ) → Leads target (suc first) rest number
    → Leads target first (row ∷ rest) number
leads_later target first row rest number l = record { place = suc l.place; is = l.is ∙ omega arith; row = l.row; here = l.here; leaf = l.leaf }

listed_leads : (target first : ℕ) (rows : List CodeRow) (number : ℕ) → Contains (rows_leading_to target first rows) number
    → Leads target first rows number
listed_leads target first [] number h = absurd (contains_none number h)
listed_leads target first (row ∷ rest) number h = by (leads_to target row) refl h (listed_leads target (suc first) rest number)
  where
    by : (b : Bool) → leads_to target row ≡ b
        → Contains (cond b (first ∷ rows_leading_to target (suc first) rest) (rows_leading_to target (suc first) rest)) number
        → (Contains (rows_leading_to target (suc first) rest) number → Leads target (suc first) rest number) → Leads target first (row ∷ rest) number
    by true e h f = elim (contains_either first number (rows_leading_to target (suc first) rest) h) [
      | inl same ↦ record { place = 0; is = sym same ∙ omega arith; row = row; here = refl; leaf = has_leaf target (leaves_of row) e }
      | inr later ↦ leads_later target first row rest number (f later)
    ]
    by false e h f = leads_later target first row rest number (f h)

-- what is listed of all but the first row is listed
listed_later : (target first number : ℕ) (row : CodeRow) (rest : List CodeRow) → Contains (rows_leading_to target (suc first) rest) number
    → Contains (rows_leading_to target first (row ∷ rest)) number
listed_later target first number row rest h = by (leads_to target row)
  where
    by : (b : Bool) → Contains (cond b (first ∷ rows_leading_to target (suc first) rest) (rows_leading_to target (suc first) rest)) number
    by true = contains_later first number (rows_leading_to target (suc first) rest) h
    by false = h

some_same : (x y : CodeRow) → Some x ≡ Some y → x ≡ y
some_same x y e = cc

leads_listed : (target first place : ℕ) (rows : List CodeRow) (row : CodeRow) → slice_get rows place ≡ Some row → HasLeafTo row target
    → Contains (rows_leading_to target first rows) (first + place)
leads_listed target first place [] row e leaf = absurd (cc)
leads_listed target first zero (top ∷ rest) row e leaf =
    let leads : leads_to target top ≡ true =
    finds_leaf target (leaves_of top) (subst (λ (r : CodeRow). HasLeafTo r target) (sym (some_same top row e)) leaf) in
    let number : first ≡ first + 0 = omega arith in
    rw leads (subst (λ n. Contains (first ∷ rows_leading_to target (suc first) rest) n) number
    (contains_here first (rows_leading_to target (suc first) rest)))
leads_listed target first (suc place) (top ∷ rest) row e leaf =
    let number : suc first + place ≡ first + suc place = omega arith in
    listed_later target first (first + suc place) top rest
    (subst (λ n. Contains (rows_leading_to target (suc first) rest) n) number (leads_listed target (suc first) place rest row e leaf))

-- ---- they rise

listed_above : (target first : ℕ) (rows : List CodeRow) → AllByRecursion (λ n. first ≤ n) (rows_leading_to target first rows)
listed_above target first [] = tt
listed_above target first (row ∷ rest) =
    by (leads_to target row) (all_imply (λ n. suc first ≤ n) (λ n. first ≤ n) (rows_leading_to target (suc first) rest) (λ n h. omega arith)
    (listed_above target (suc first) rest))
  where
    by : (b : Bool) → AllByRecursion (λ n. first ≤ n) (rows_leading_to target (suc first) rest)
        → AllByRecursion (λ n. first ≤ n) (cond b (first ∷ rows_leading_to target (suc first) rest) (rows_leading_to target (suc first) rest))
    by true h = (omega arith, h)
    by false h = h

listed_rise : (target first : ℕ) (rows : List CodeRow) → Rise (rows_leading_to target first rows)
listed_rise target first [] = tt
listed_rise target first (row ∷ rest) =
    by (leads_to target row) (all_imply (λ n. suc first ≤ n) (λ n. first < n) (rows_leading_to target (suc first) rest) (λ n h. omega arith)
    (listed_above target (suc first) rest)) (listed_rise target (suc first) rest)
  where
    by : (b : Bool) → AllByRecursion (λ n. first < n) (rows_leading_to target (suc first) rest) → Rise (rows_leading_to target (suc first) rest)
        → Rise (cond b (first ∷ rows_leading_to target (suc first) rest) (rows_leading_to target (suc first) rest))
    by true h k = (h, k)
    by false h k = k

-- ---- the law

pub leading_rows-lead : (rows : List CodeRow) (target : ℕ) → LeadTo rows target (rows_leading_to target 0 rows)
leading_rows-lead rows target = record {
  each = λ number. (
    λ h. let l = listed_leads target 0 rows number h in
        let place : l.place ≡ number = sym (l.is ∙ omega arith) in
        (l.row, subst (λ k. slice_get rows k ≡ Some l.row) place l.here, l.leaf),
    λ (row, here, leaf).
        let is : 0 + number ≡ number = omega arith in
        subst (λ n. Contains (rows_leading_to target 0 rows) n) is (leads_listed target 0 number rows row here leaf),
  );
  rise = listed_rise target 0 rows;
}
