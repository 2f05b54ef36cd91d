-- The counts add up.
use Rattle.std.proofs.Common.{◌≡◌, ◌≢◌, ℕ, zero, suc, ◌+◌, ◌<◌, ◌≤◌, Bool, true, false, cond, ◌&&◌, List, [], ◌∷◌, length, Option}
use Rattle.std.proofs.Common.{Some, None, inl, inr, refl, ap, sym, ◌∙◌, subst, arith}
use Rattle.std.proofs.Math.Nat.{zero-add}
use Rattle.std.proofs.lemmas.Bool.Decides.{eqb_tells}
use Rattle.std.proofs.lemmas.List.Sums.{sum_by-cons}
use Rattle.std.specs.Prelude.{nat_eq, is_none, sum}
use Rattle.std.specs.List.{AllByRecursion}
use Rattle.pc_word.proofs.Lists.{count_more}
use Rattle.pc_word.specs.Row.{leaves_of}
use Rattle.pc_machine.specs.MachineCode.{CodeRow}
use Rattle.pc_count.specs.Passages.{Passage}
use Rattle.pc_count.specs.Counts.{begins_in, counts_of_leaves, each_numbered, is_leaf, leaf_counts, leaves_by, row_counts, times_left, times_run}
use Rattle.pc_count.specs.Laws.{faults_in, times_faulted}
use Rattle.pc_count.specs.models.Bounds.{all_counts}
use Rattle.pc_count.proofs.Counts.{other_number, same_number}

-- ---- sums of lists by number

-- the sum of a list with one element before it
pub sum-cons : (x : ℕ) (xs : List ℕ) → sum (x ∷ xs) ≡ x + sum xs
sum-cons x xs = sum_by-cons (λ n. n) x xs

-- the sum of what f gives of each number
abbrev sum_each : {X : Type 0} → (ℕ → X → ℕ) → ℕ → List X → ℕ
sum_each f number [] = 0
sum_each f number (x ∷ xs) = f number x + sum_each f (suc number) xs

pub sum-is : {X : Type 0} (f : ℕ → X → ℕ) (number : ℕ) (xs : List X) → sum (each_numbered f number xs) ≡ sum_each f number xs
sum-is f number [] = refl
sum-is f number (x ∷ xs) = sum-cons (f number x) (each_numbered f (suc number) xs) ∙ ap (λ k. f number x + k) (sum-is f (suc number) xs)

-- of zeros
sum-zero : {X : Type 0} (f : ℕ → X → ℕ) (number : ℕ) (xs : List X) → ((j : ℕ) (x : X) → number ≤ j → f j x ≡ 0) → sum_each f number xs ≡ 0
sum-zero f number [] none = refl
sum-zero f number (x ∷ xs) none =
    let here : f number x ≡ 0 = none number x (omega arith) in
    let rest = sum-zero f (suc number) xs (λ j y h. none j y (omega (arith, h))) in
    omega (arith, here, rest)

-- of two numbers at each
sum-plus : {X : Type 0} (f g h : ℕ → X → ℕ) (number : ℕ) (xs : List X) → ((j : ℕ) (x : X) → f j x ≡ g j x + h j x)
    → sum_each f number xs ≡ sum_each g number xs + sum_each h number xs
sum-plus f g h number [] same = refl
sum-plus f g h number (x ∷ xs) same =
    let here = same number x in
    let rest = sum-plus f g h (suc number) xs same in
    omega (arith, here, rest)

-- of one at one place
sum-one : {X : Type 0} (f : ℕ → X → ℕ) (number : ℕ) (xs : List X) (i : ℕ) → i < length xs → ((x : X) → f (number + i) x ≡ 1)
    → ((j : ℕ) (x : X) → j ≢ number + i → f j x ≡ 0) → sum_each f number xs ≡ 1
sum-one f number [] i h one none = absurd (omega (arith, h))
sum-one f number (x ∷ xs) zero h one none =
    let n : number + 0 ≡ number = omega arith in
    let here : f number x ≡ 1 = subst (λ k. f k x ≡ 1) n (one x) in
    let rest = sum-zero f (suc number) xs (λ j y above. none j y (λ bad. absurd (omega (arith, above, bad)))) in
    omega (arith, here, rest)
sum-one f number (x ∷ xs) (suc i) h one none =
    let n : number + suc i ≡ suc number + i = omega arith in
    let here : f number x ≡ 0 = none number x (λ bad. absurd (omega (arith, bad))) in
    let rest = sum-one f (suc number) xs i (omega (arith, h)) (λ y. subst (λ k. f k y ≡ 1) n (one y)) (λ j y other. none j y (λ bad. other (bad ∙ n))) in
    omega (arith, here, rest)

-- of one at one place at most
sum-few : {X : Type 0} (f : ℕ → X → ℕ) (number : ℕ) (xs : List X) (place : ℕ) → ((x : X) → f place x ≤ 1)
    → ((j : ℕ) (x : X) → j ≢ place → f j x ≡ 0) → sum_each f number xs ≤ 1
sum-few f number [] place one none = omega arith
sum-few f number (x ∷ xs) place one none =
    elim (eqb_tells number place) [
      | inl h ↦ (
          let here : f number x ≤ 1 = subst (λ k. f k x ≤ 1) (sym h.1) (one x) in
          let rest = sum-zero f (suc number) xs (λ j y above. none j y (λ bad. absurd (omega (arith, above, bad, h.1)))) in
          omega (arith, here, rest)
          )
      | inr h ↦ (
          let here : f number x ≡ 0 = none number x h.1 in
          let rest = sum-few f (suc number) xs place one none in
          omega (arith, here, rest)
          )
    ]

-- ---- rows

-- one cycle at a row
abbrev at_row : Passage → ℕ → ℕ
at_row cycle row = cond (begins_in row cycle) 1 0

at_own_row : (cycle : Passage) → at_row cycle cycle.row ≡ 1
at_own_row cycle = rw (same_number cycle.row) refl

at_other_row : (cycle : Passage) (row : ℕ) → row ≢ cycle.row → at_row cycle row ≡ 0
at_other_row cycle row h = rw (other_number cycle.row row (λ e. h (sym e))) refl

run-cons : (cycle : Passage) (cycles : List Passage) (row : ℕ) → times_run (cycle ∷ cycles) row ≡ at_row cycle row + times_run cycles row
run-cons cycle cycles row = count_more (begins_in row) cycle cycles

-- the rows' counts are no more than the cycles
runs-few : (rows : List CodeRow) (cycles : List Passage) → sum_each (λ number _. times_run cycles number) 0 rows ≤ length cycles
runs-few rows [] = let none = sum-zero (λ number _. times_run [] number) 0 rows (λ j _ _. refl) in omega (arith, none)
runs-few rows (cycle ∷ cycles) =
    let both = sum-plus (λ number _. times_run (cycle ∷ cycles) number) (λ number _. at_row cycle number) (λ number _. times_run cycles number) 0 rows
    (λ j _. run-cons cycle cycles j) in
    let one = sum-few (λ number _. at_row cycle number) 0 rows cycle.row (λ _. let is = at_own_row cycle in omega (arith, is)) (λ j _ h. at_other_row cycle j h) in
    omega (arith, both, one, runs-few rows cycles)

-- and are the cycles, where each began in a row that is there
runs-all : (rows : List CodeRow) (cycles : List Passage) → AllByRecursion (λ cycle. cycle.row < length rows) cycles
    → sum_each (λ number _. times_run cycles number) 0 rows ≡ length cycles
runs-all rows [] all = sum-zero (λ number _. times_run [] number) 0 rows (λ j _ _. refl)
runs-all rows (cycle ∷ cycles) all =
    let both = sum-plus (λ number _. times_run (cycle ∷ cycles) number) (λ number _. at_row cycle number) (λ number _. times_run cycles number) 0 rows
    (λ j _. run-cons cycle cycles j) in
    let zero_first : 0 + cycle.row ≡ cycle.row = zero-add cycle.row in
    let one = sum-one (λ number _. at_row cycle number) 0 rows cycle.row all.0
    (λ _. ap (at_row cycle) zero_first ∙ at_own_row cycle) (λ j _ h. at_other_row cycle j (λ e. h (e ∙ sym zero_first))) in
    omega (arith, both, one, runs-all rows cycles all.1)

-- ---- leaves

-- one cycle at a leaf of a row
abbrev at_leaf : Passage → ℕ → ℕ → ℕ
at_leaf cycle row leaf = cond (leaves_by row leaf cycle) 1 0

left-cons : (cycle : Passage) (cycles : List Passage) (row leaf : ℕ) → times_left (cycle ∷ cycles) row leaf ≡ at_leaf cycle row leaf + times_left cycles row leaf
left-cons cycle cycles row leaf = count_more (leaves_by row leaf) cycle cycles

-- one cycle that faulted in a row
abbrev at_fault : Passage → ℕ → ℕ
at_fault cycle row = cond (faults_in row cycle) 1 0

fault-cons : (cycle : Passage) (cycles : List Passage) (row : ℕ) → times_faulted (cycle ∷ cycles) row ≡ at_fault cycle row + times_faulted cycles row
fault-cons cycle cycles row = count_more (faults_in row) cycle cycles

-- where the leaf, if there is one, is one of these, a cycle is counted at its row once: at a leaf or as a fault
one-leaf : {X : Type 0} (leaves : List X) (begins : Bool) (left : Option ℕ) → (begins ≡ true → (leaf : ℕ) → left ≡ Some leaf → leaf < length leaves)
    → sum_each (λ leaf _. cond (begins && is_leaf leaf left) 1 0) 0 leaves + cond (begins && is_none left) 1 0 ≡ cond begins 1 0
one-leaf leaves false left within =
    let none = sum-zero (λ leaf _. cond (false && is_leaf leaf left) 1 0) 0 leaves (λ j _ _. refl) in omega (arith, none)
one-leaf leaves true None within =
    let none = sum-zero (λ leaf _. cond (true && is_leaf leaf None) 1 0) 0 leaves (λ j _ _. refl) in omega (arith, none)
one-leaf leaves true (Some taken) within =
    let first : 0 + taken ≡ taken = zero-add taken in
    let one = sum-one (λ leaf _. cond (true && is_leaf leaf (Some taken)) 1 0) 0 leaves taken (within refl taken refl)
    (λ _. rw (first, same_number taken) refl) (λ j _ h. rw (other_number taken j (λ e. h (sym e ∙ sym first))) refl) in
    omega (arith, one)

-- without that, at one leaf at most
few-leaves : {X : Type 0} (leaves : List X) (begins : Bool) (left : Option ℕ)
    → sum_each (λ leaf _. cond (begins && is_leaf leaf left) 1 0) 0 leaves ≤ cond begins 1 0
few-leaves leaves false left =
    let none = sum-zero (λ leaf _. cond (false && is_leaf leaf left) 1 0) 0 leaves (λ j _ _. refl) in omega (arith, none)
few-leaves leaves true None =
    let none = sum-zero (λ leaf _. cond (true && is_leaf leaf None) 1 0) 0 leaves (λ j _ _. refl) in omega (arith, none)
few-leaves leaves true (Some taken) =
    sum-few (λ leaf _. cond (true && is_leaf leaf (Some taken)) 1 0) 0 leaves taken
    (λ _. let is : ◌≡◌ {A = ℕ} (cond (nat_eq taken taken) 1 0) 1 = ap (λ b. cond b 1 0) (same_number taken) in omega (arith, is))
    (λ j _ h. ap (λ b. cond b 1 0) (other_number taken j (λ e. h (sym e))))

-- the counts of a row's leaves are no more than the row's
left-few : (row : CodeRow) (number : ℕ) (cycles : List Passage) → sum_each (λ leaf _. times_left cycles number leaf) 0 (leaves_of row) ≤ times_run cycles number
left-few row number [] = let none = sum-zero (λ leaf _. times_left [] number leaf) 0 (leaves_of row) (λ j _ _. refl) in omega (arith, none)
left-few row number (cycle ∷ cycles) =
    let both = sum-plus (λ leaf _. times_left (cycle ∷ cycles) number leaf) (λ leaf _. at_leaf cycle number leaf) (λ leaf _. times_left cycles number leaf) 0 (leaves_of row)
    (λ j _. left-cons cycle cycles number j) in
    omega (arith, both, few-leaves (leaves_of row) (begins_in number cycle) cycle.leaf, run-cons cycle cycles number, left-few row number cycles)

-- and with the cycles that faulted they are the row's
left-all : (row : CodeRow) (number : ℕ) (cycles : List Passage)
    → AllByRecursion (λ cycle. begins_in number cycle ≡ true → (leaf : ℕ) → cycle.leaf ≡ Some leaf → leaf < length (leaves_of row)) cycles
    → sum_each (λ leaf _. times_left cycles number leaf) 0 (leaves_of row) + times_faulted cycles number ≡ times_run cycles number
left-all row number [] all = let none = sum-zero (λ leaf _. times_left [] number leaf) 0 (leaves_of row) (λ j _ _. refl) in omega (arith, none)
left-all row number (cycle ∷ cycles) all =
    let both = sum-plus (λ leaf _. times_left (cycle ∷ cycles) number leaf) (λ leaf _. at_leaf cycle number leaf) (λ leaf _. times_left cycles number leaf) 0 (leaves_of row)
    (λ j _. left-cons cycle cycles number j) in
    omega (
      arith,
      both,
      one-leaf (leaves_of row) (begins_in number cycle) cycle.leaf all.0,
      run-cons cycle cycles number,
      fault-cons cycle cycles number,
      left-all row number cycles all.1,
    )

-- ---- the profile's counts

pub row_counts-sum : (rows : List CodeRow) (cycles : List Passage) → sum (row_counts rows cycles) ≤ length cycles
row_counts-sum rows cycles = omega (arith, sum-is (λ number _. times_run cycles number) 0 rows, runs-few rows cycles)

pub rows-add_up : (rows : List CodeRow) (cycles : List Passage) → AllByRecursion (λ cycle. cycle.row < length rows) cycles → sum (row_counts rows cycles) ≡ length cycles
rows-add_up rows cycles all = sum-is (λ number _. times_run cycles number) 0 rows ∙ runs-all rows cycles all

pub leaves-add_up : (row : CodeRow) (number : ℕ) (cycles : List Passage)
    → AllByRecursion (λ cycle. begins_in number cycle ≡ true → (leaf : ℕ) → cycle.leaf ≡ Some leaf → leaf < length (leaves_of row)) cycles
    → sum (counts_of_leaves cycles number row) + times_faulted cycles number ≡ times_run cycles number
leaves-add_up row number cycles all = ap (λ k. k + times_faulted cycles number) (sum-is (λ leaf _. times_left cycles number leaf) 0 (leaves_of row)) ∙ left-all row number cycles all

-- the counts of a row's leaves add up to no more than the row's
pub counts_of_leaves-sum : (row : CodeRow) (number : ℕ) (cycles : List Passage) → sum (counts_of_leaves cycles number row) ≤ times_run cycles number
counts_of_leaves-sum row number cycles = omega (arith, sum-is (λ leaf _. times_left cycles number leaf) 0 (leaves_of row), left-few row number cycles)

-- the sum of all leaves' counts
all-few : (number : ℕ) (rows : List CodeRow) (cycles : List Passage)
    → all_counts (each_numbered (counts_of_leaves cycles) number rows) ≤ sum_each (λ number _. times_run cycles number) number rows
all-few number [] cycles = omega arith
all-few number (row ∷ rows) cycles =
    omega (arith, sum-is (λ leaf _. times_left cycles number leaf) 0 (leaves_of row), left-few row number cycles, all-few (suc number) rows cycles)

pub leaf_counts-sum : (rows : List CodeRow) (cycles : List Passage) → all_counts (leaf_counts rows cycles) ≤ length cycles
leaf_counts-sum rows cycles = omega (arith, all-few 0 rows cycles, runs-few rows cycles)
