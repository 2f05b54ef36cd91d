-- The counts of one cycle more.
use Rattle.std.proofs.Common.{◌≡◌, ◌≢◌, ℕ, suc, ◌+◌, Bool, true, false, cond, ◌&&◌, List, [], ◌∷◌, ◌++◌, Some, None, refl, ap, sym, ◌∙◌, arith}
use Rattle.std.proofs.lemmas.Bool.{eq-eqb, ne_eqb}
use Rattle.std.specs.Prelude.{nat_eq, slice_get, slice_index_or, slice_set}
use Rattle.std.specs.List.{count_by}
use Rattle.pc_word.proofs.Lists.{count_both, count_more}
use Rattle.pc_word.specs.Row.{leaves_of}
use Rattle.pc_machine.specs.declared.tree.Leaf.{Leaf}
use Rattle.pc_machine.specs.MachineCode.{CodeRow}
use Rattle.pc_count.specs.Passages.{Passage}
use Rattle.pc_count.specs.Counts.{begins_in, counts_of_leaves, leaf_counts, leaves_by, row_counts, times_left, times_run}
use Rattle.pc_count.specs.models.Counting.{one_more, with_leaf}
use Rattle.pc_count.proofs.Numbered.{each-same, first-at, first-set}

-- one more where a test says so
count-more : (p : Passage → Bool) (cycles : List Passage) (cycle : Passage) → count_by p (cycles ++ cycle ∷ []) ≡ cond (p cycle) 1 0 + count_by p cycles
count-more p cycles cycle = omega (arith, count_both p cycles (cycle ∷ []), count_more p cycle [])

pub counted : (p : Passage → Bool) (cycles : List Passage) (cycle : Passage) → p cycle ≡ true → count_by p (cycles ++ cycle ∷ []) ≡ suc (count_by p cycles)
counted p cycles cycle is = let one : ◌≡◌ {A = ℕ} (cond (p cycle) 1 0) 1 = ap (λ b. cond b 1 0) is in omega (arith, count-more p cycles cycle, one)

pub not_counted : (p : Passage → Bool) (cycles : List Passage) (cycle : Passage) → p cycle ≡ false → count_by p (cycles ++ cycle ∷ []) ≡ count_by p cycles
not_counted p cycles cycle is = let none : ◌≡◌ {A = ℕ} (cond (p cycle) 1 0) 0 = ap (λ b. cond b 1 0) is in omega (arith, count-more p cycles cycle, none)

-- a number is itself, and no other
pub same_number : (n : ℕ) → nat_eq n n ≡ true
same_number n = eq-eqb n n refl

pub other_number : (n m : ℕ) → n ≢ m → nat_eq n m ≡ false
other_number n m h = ne_eqb n m h

-- ---- rows

pub row_counts-more : (rows : List CodeRow) (cycles : List Passage) (cycle : Passage) (row : CodeRow) → slice_get rows cycle.row ≡ Some row
    → row_counts rows (cycles ++ cycle ∷ []) ≡ one_more cycle.row (row_counts rows cycles)
row_counts-more rows cycles cycle row at =
    let all = cycles ++ cycle ∷ [] in
    let one : times_run all cycle.row ≡ suc (times_run cycles cycle.row) = counted (begins_in cycle.row) cycles cycle (same_number cycle.row) in
    let was : slice_index_or (row_counts rows cycles) cycle.row 0 ≡ times_run cycles cycle.row = first-at (λ number _. times_run cycles number) rows cycle.row row 0 at in
    first-set (λ number _. times_run cycles number) (λ number _. times_run all number) rows cycle.row row at
    (λ j _ h. not_counted (begins_in j) cycles cycle (other_number cycle.row j (λ e. h (sym e))))
    ∙ ap (slice_set (row_counts rows cycles) cycle.row) (one ∙ ap suc (sym was))

-- ---- leaves

-- a cycle that left by a leaf, at another
other_leaf : (cycle : Passage) (row leaf taken : ℕ) → cycle.leaf ≡ Some taken → leaf ≢ taken → leaves_by row leaf cycle ≡ false
other_leaf cycle row leaf taken is h = rw (is, other_number taken leaf (λ e. h (sym e))) (and_no (begins_in row cycle))
  where
    and_no : (b : Bool) → (b && false) ≡ false
    and_no true = refl
    and_no false = refl

-- at another row
other_row : (cycle : Passage) (row leaf : ℕ) → row ≢ cycle.row → leaves_by row leaf cycle ≡ false
other_row cycle row leaf h = rw (other_number cycle.row row (λ e. h (sym e))) refl

-- that faulted
no_leaf : (cycle : Passage) (row leaf : ℕ) → cycle.leaf ≡ None → leaves_by row leaf cycle ≡ false
no_leaf cycle row leaf is = rw is (and_no (begins_in row cycle))
  where
    and_no : (b : Bool) → (b && false) ≡ false
    and_no true = refl
    and_no false = refl

-- and at its own
own_leaf : (cycle : Passage) (taken : ℕ) → cycle.leaf ≡ Some taken → leaves_by cycle.row taken cycle ≡ true
own_leaf cycle taken is = rw (is, same_number cycle.row, same_number taken) refl

-- the counts of the row's leaves
leaves-more : (cycles : List Passage) (cycle : Passage) (row : CodeRow) (taken : ℕ) (leaf : Leaf) → slice_get (leaves_of row) taken ≡ Some leaf → cycle.leaf ≡ Some taken
    → counts_of_leaves (cycles ++ cycle ∷ []) cycle.row row ≡ one_more taken (counts_of_leaves cycles cycle.row row)
leaves-more cycles cycle row taken leaf at is =
    let all = cycles ++ cycle ∷ [] in
    let one : times_left all cycle.row taken ≡ suc (times_left cycles cycle.row taken) = counted (leaves_by cycle.row taken) cycles cycle (own_leaf cycle taken is) in
    let was : slice_index_or (counts_of_leaves cycles cycle.row row) taken 0 ≡ times_left cycles cycle.row taken =
    first-at (λ number _. times_left cycles cycle.row number) (leaves_of row) taken leaf 0 at in
    first-set (λ number _. times_left cycles cycle.row number) (λ number _. times_left all cycle.row number) (leaves_of row) taken leaf at
    (λ j _ h. not_counted (leaves_by cycle.row j) cycles cycle (other_leaf cycle cycle.row j taken is h))
    ∙ ap (slice_set (counts_of_leaves cycles cycle.row row) taken) (one ∙ ap suc (sym was))

-- those of another row
leaves-same : (cycles : List Passage) (cycle : Passage) (number : ℕ) (row : CodeRow) → ((leaf : ℕ) → leaves_by number leaf cycle ≡ false)
    → counts_of_leaves (cycles ++ cycle ∷ []) number row ≡ counts_of_leaves cycles number row
leaves-same cycles cycle number row other =
    each-same (λ leaf _. times_left cycles number leaf) (λ leaf _. times_left (cycles ++ cycle ∷ []) number leaf) 0 (leaves_of row)
    (λ j _ _. not_counted (leaves_by number j) cycles cycle (other j))

pub leaf_counts-more : (rows : List CodeRow) (cycles : List Passage) (cycle : Passage) (row : CodeRow) (taken : ℕ) (leaf : Leaf)
    → slice_get rows cycle.row ≡ Some row → slice_get (leaves_of row) taken ≡ Some leaf → cycle.leaf ≡ Some taken
    → leaf_counts rows (cycles ++ cycle ∷ []) ≡ with_leaf false cycle.row taken (leaf_counts rows cycles)
leaf_counts-more rows cycles cycle row taken leaf at leaf_at is =
    let was : slice_index_or (leaf_counts rows cycles) cycle.row [] ≡ counts_of_leaves cycles cycle.row row =
    first-at (counts_of_leaves cycles) rows cycle.row row [] at in
    first-set (counts_of_leaves cycles) (counts_of_leaves (cycles ++ cycle ∷ [])) rows cycle.row row at
    (λ j other h. leaves-same cycles cycle j other (λ number. other_row cycle j number h))
    ∙ ap (slice_set (leaf_counts rows cycles) cycle.row) (leaves-more cycles cycle row taken leaf leaf_at is ∙ ap (one_more taken) (sym was))

pub leaf_counts-same : (rows : List CodeRow) (cycles : List Passage) (cycle : Passage) → cycle.leaf ≡ None
    → leaf_counts rows (cycles ++ cycle ∷ []) ≡ leaf_counts rows cycles
leaf_counts-same rows cycles cycle is =
    each-same (counts_of_leaves cycles) (counts_of_leaves (cycles ++ cycle ∷ [])) 0 rows
    (λ j row _. leaves-same cycles cycle j row (λ leaf. no_leaf cycle j leaf is))
