-- What rows did is bounded by how often they ran, so that it fits a word of the host.
use Rattle.std.proofs.Common.{◌≡◌, ℕ, zero, suc, ◌+◌, ◌*◌, ◌<◌, ◌≤◌, Bool, true, false, List, [], ◌∷◌, ◌++◌, length}
use Rattle.std.proofs.Common.{drop, get_or, refl, ap, sym, ◌∙◌, subst, arith, length-append}
use Rattle.std.proofs.Math.Nat.{mul-add, suc-mul}
use Rattle.std.proofs.Math.Seq.{drop-cons}
use Rattle.std.proofs.lemmas.List.{drop-drop, length-drop}
use Rattle.std.specs.Prelude.{slice_index_or, sum}
use Rattle.pc_word.specs.declared.item.Item.{Item}
use Rattle.pc_word.specs.declared.item.Operand.{Operand}
use Rattle.pc_word.specs.Items.{is_memory}
use Rattle.pc_word.specs.MachineLimits.{most_cycles, most_ops, most_tests}
use Rattle.pc_word.specs.Row.{Then, Either, At_leaf, items_of, leaves_of, tests_of}
use Rattle.pc_word.specs.declared.row_tree.RowTree.{RowTree}
use Rattle.pc_machine.specs.declared.tree.Leaf.{Leaf}
use Rattle.pc_machine.specs.MachineCode.{CodeRow, row_of, rows_of}
use Rattle.pc_count.specs.Work.{both, is_print, is_read, more_where, row_work, work_besides, work_of}
use Rattle.pc_count.specs.declared.work.Work.{Work}
use Rattle.pc_count.specs.models.Bounds.{AreCounted, IsBounded, IsCounted, IsFew, all_counts}
use Rattle.pc_count.proofs.Sums.{sum-cons}

-- ---- cycles

-- one count and those behind it
first-sum : (counts : List ℕ) → slice_index_or counts 0 0 + sum (drop 1 counts) ≤ sum counts
first-sum [] = omega arith
first-sum (count ∷ counts) = omega (arith, sum-cons count counts)

-- the cycles of a row, and the counts behind its leaves
pub cycles-sum : (row : CodeRow) (counts : List ℕ) → (row_work row counts).cycles + sum (drop (length (leaves_of row)) counts) ≤ sum counts
cycles-sum (Then item rest) counts = cycles-sum rest counts
cycles-sum (Either on on_yes on_no) counts =
    let behind : sum (drop (length (leaves_of on_no)) (drop (length (leaves_of on_yes)) counts)) ≡ sum (drop (length (leaves_of on_yes ++ leaves_of on_no)) counts) =
    ap sum (drop-drop (length (leaves_of on_no)) (length (leaves_of on_yes)) counts)
    ∙ ap (λ k. sum (drop k counts)) (sym (length-append (leaves_of on_yes) (leaves_of on_no))) in
    omega (arith, cycles-sum on_yes counts, cycles-sum on_no (drop (length (leaves_of on_yes)) counts), behind)
cycles-sum (At_leaf leaf) counts = first-sum counts

-- ---- items and tests

pub items-few : (most : ℕ) (row : CodeRow) (counts : List ℕ) → length (items_of row) ≤ most → (row_work row counts).items ≤ most * (row_work row counts).cycles
items-few zero (Then item rest) counts few = absurd (omega (arith, few))
items-few (suc most) (Then item rest) counts few =
    omega (arith, items-few most rest counts (omega (arith, few)), suc-mul most (row_work rest counts).cycles)
items-few most (Either on on_yes on_no) counts few =
    let many = length-append (items_of on_yes) (items_of on_no) in
    let behind = drop (length (leaves_of on_yes)) counts in
    omega (
      arith,
      items-few most on_yes counts (omega (arith, few, many)),
      items-few most on_no behind (omega (arith, few, many)),
      mul-add most (row_work on_yes counts).cycles (row_work on_no behind).cycles,
    )
items-few most (At_leaf leaf) counts few = omega arith

pub tests-few : (most : ℕ) (row : CodeRow) (counts : List ℕ) → length (tests_of row) ≤ most → (row_work row counts).tests ≤ most * (row_work row counts).cycles
tests-few most (Then item rest) counts few = tests-few most rest counts few
tests-few zero (Either on on_yes on_no) counts few = absurd (omega (arith, few))
tests-few (suc most) (Either on on_yes on_no) counts few =
    let many = length-append (tests_of on_yes) (tests_of on_no) in
    let behind = drop (length (leaves_of on_yes)) counts in
    omega (
      arith,
      tests-few most on_yes counts (omega (arith, few, many)),
      tests-few most on_no behind (omega (arith, few, many)),
      mul-add most (row_work on_yes counts).cycles (row_work on_no behind).cycles,
      suc-mul most ((row_work on_yes counts).cycles + (row_work on_no behind).cycles),
    )
tests-few most (At_leaf leaf) counts few = omega arith

-- of the items so many are of a kind
more-few : (here : Bool) (more n most : ℕ) → n ≤ most → more_where here more n ≤ most + more
more-few true more n most few = omega (arith, few)
more-few false more n most few = omega (arith, few)

pub memory-few : (row : CodeRow) (counts : List ℕ) → (row_work row counts).memory ≤ (row_work row counts).items
memory-few (Then item rest) counts = more-few (is_memory item) _ _ _ (memory-few rest counts)
memory-few (Either on on_yes on_no) counts = omega (arith, memory-few on_yes counts, memory-few on_no (drop (length (leaves_of on_yes)) counts))
memory-few (At_leaf leaf) counts = omega arith

pub prints-few : (row : CodeRow) (counts : List ℕ) → (row_work row counts).prints ≤ (row_work row counts).items
prints-few (Then item rest) counts = more-few (is_print item) _ _ _ (prints-few rest counts)
prints-few (Either on on_yes on_no) counts = omega (arith, prints-few on_yes counts, prints-few on_no (drop (length (leaves_of on_yes)) counts))
prints-few (At_leaf leaf) counts = omega arith

pub reads-few : (row : CodeRow) (counts : List ℕ) → (row_work row counts).reads ≤ (row_work row counts).items
reads-few (Then item rest) counts = more-few (is_read item) _ _ _ (reads-few rest counts)
reads-few (Either on on_yes on_no) counts = omega (arith, reads-few on_yes counts, reads-few on_no (drop (length (leaves_of on_yes)) counts))
reads-few (At_leaf leaf) counts = omega arith

-- ---- a row that is counted

pub row-bounded : (row : CodeRow) (counts : List ℕ) → IsCounted row counts → IsBounded (row_work row counts)
row-bounded row counts is = record {
  items = items-few most_ops row counts is.ops;
  tests = tests-few most_tests row counts is.tests;
  memory = memory-few row counts;
  prints = prints-few row counts;
  reads = reads-few row counts;
}

-- what is bounded, in as many cycles as a run may take, is little
pub few-of : (work : Work) → IsBounded work → work.cycles ≤ most_cycles → IsFew work
few-of work is few = record {
  cycles = omega (arith, few);
  items = omega (arith, is.items, few);
  tests = omega (arith, is.tests, few);
  memory = omega (arith, is.memory, is.items, few);
  prints = omega (arith, is.prints, is.items, few);
  reads = omega (arith, is.reads, is.items, few);
}

pub row-few : (row : CodeRow) (counts : List ℕ) → IsCounted row counts → IsFew (row_work row counts)
row-few row counts is = few-of (row_work row counts) (row-bounded row counts is) (omega (arith, cycles-sum row counts, is.few))

-- ---- parts of a row that is counted

-- what is left of a list adds up to no more
sum-drop : (k : ℕ) (counts : List ℕ) → sum (drop k counts) ≤ sum counts
sum-drop zero counts = omega arith
sum-drop (suc k) [] = omega arith
sum-drop (suc k) (count ∷ counts) = omega (arith, sum-drop k counts, sum-cons count counts)

pub counted-rest : (item : Item) (rest : CodeRow) (counts : List ℕ) → IsCounted (Then item rest) counts → IsCounted rest counts
counted-rest item rest counts is = record { ops = omega (arith, is.ops); tests = is.tests; leaves = is.leaves; few = is.few }

pub counted-yes : (on : Operand) (on_yes on_no : CodeRow) (counts : List ℕ) → IsCounted (Either on on_yes on_no) counts → IsCounted on_yes counts
counted-yes on on_yes on_no counts is = record {
  ops = omega (arith, is.ops, length-append (items_of on_yes) (items_of on_no));
  tests = omega (arith, is.tests, length-append (tests_of on_yes) (tests_of on_no));
  leaves = omega (arith, is.leaves, length-append (leaves_of on_yes) (leaves_of on_no));
  few = is.few;
}

pub counted-no : (on : Operand) (on_yes on_no : CodeRow) (counts : List ℕ) → IsCounted (Either on on_yes on_no) counts
    → IsCounted on_no (drop (length (leaves_of on_yes)) counts)
counted-no on on_yes on_no counts is =
    let behind = length-drop (length (leaves_of on_yes)) counts in
    record {
      ops = omega (arith, is.ops, length-append (items_of on_yes) (items_of on_no));
      tests = omega (arith, is.tests, length-append (tests_of on_yes) (tests_of on_no));
      leaves = omega (arith, is.leaves, length-append (leaves_of on_yes) (leaves_of on_no), behind);
      few = omega (arith, is.few, sum-drop (length (leaves_of on_yes)) counts);
    }

-- both sides together
pub both-few : (on : Operand) (on_yes on_no : CodeRow) (counts : List ℕ) → IsCounted (Either on on_yes on_no) counts
    → IsFew (both (row_work on_yes counts) (row_work on_no (drop (length (leaves_of on_yes)) counts)))
both-few on on_yes on_no counts is =
    let few = row-few (Either on on_yes on_no) counts is in
    record { cycles = few.cycles; items = few.items; tests = omega (arith, few.tests); memory = few.memory; prints = few.prints; reads = few.reads }

-- how many items and tests a row has, which falls on the way down
abbrev pub row_size : CodeRow → ℕ
row_size row = length (items_of row) + length (tests_of row)

pub size-yes : (on : Operand) (on_yes on_no : CodeRow) → row_size on_yes < row_size (Either on on_yes on_no)
size-yes on on_yes on_no = omega (arith, length-append (items_of on_yes) (items_of on_no), length-append (tests_of on_yes) (tests_of on_no))

pub size-no : (on : Operand) (on_yes on_no : CodeRow) → row_size on_no < row_size (Either on on_yes on_no)
size-no on on_yes on_no = omega (arith, length-append (items_of on_yes) (items_of on_no), length-append (tests_of on_yes) (tests_of on_no))

-- ---- rows one after the other

-- a row and its counts stand before those that are left
pub record Next (trees : List (RowTree Leaf)) (taken : List (List ℕ)) (i : ℕ) (tree : RowTree Leaf) : Type 0 where
  pub there : i < length taken
  pub counts : List ℕ
  pub counts_are : drop i taken ≡ counts ∷ drop (i + 1) taken
  pub read : (d : List ℕ) → slice_index_or taken i d ≡ counts
  pub rows_are : rows_of (drop i trees) ≡ row_of tree ∷ rows_of (drop (i + 1) trees)
  pub is : IsCounted (row_of tree) counts
  pub rest : AreCounted (rows_of (drop (i + 1) trees)) (drop (i + 1) taken)

-- a list that is not empty from a place on
drop-first : (i : ℕ) (xs : List (List ℕ)) (x : List ℕ) (rest : List (List ℕ)) → drop i xs ≡ x ∷ rest
    → (i < length xs) × (rest ≡ drop (i + 1) xs) × ((d : List ℕ) → slice_index_or xs i d ≡ x)
drop-first i [] x rest e = absurd (nothing i e)
  where
    nothing : (i : ℕ) → drop i [] ≡ x ∷ rest → ⊥
    nothing zero e = cc
    nothing (suc i) e = cc
drop-first zero (y ∷ xs) x rest e =
    let head : y ≡ x = cc in
    let tail : xs ≡ rest = cc in
    (omega arith, sym tail, λ d. head)
drop-first (suc i) (y ∷ xs) x rest e =
    let below = drop-first i xs x rest e in
    let n : suc i + 1 ≡ suc (i + 1) = omega arith in
    (omega (arith, below.0), below.1 ∙ ap (λ k. drop k (y ∷ xs)) (sym n), below.2)

pub next-of : (trees : List (RowTree Leaf)) (taken : List (List ℕ)) (i : ℕ) (tree : RowTree Leaf) → i < length trees → tree ≡ get_or trees i tree
    → AreCounted (rows_of (drop i trees)) (drop i taken) → Next trees taken i tree
next-of trees taken i tree h read counted = by (drop i taken) refl (subst (λ (rows : List CodeRow). AreCounted rows (drop i taken)) rows counted)
  where
    n : suc i ≡ i + 1
    n = omega arith

    rows : rows_of (drop i trees) ≡ row_of tree ∷ rows_of (drop (i + 1) trees)
    rows = ap rows_of (drop-cons trees i tree h ∙ ap (λ (t : RowTree Leaf). t ∷ drop (suc i) trees) (sym read) ∙ ap (λ k. tree ∷ drop k trees) n)

    by : (left : List (List ℕ)) → drop i taken ≡ left → AreCounted (row_of tree ∷ rows_of (drop (i + 1) trees)) left → Next trees taken i tree
    by [] e are = absurd are
    by (counts ∷ left) e are =
        let first = drop-first i taken counts left e in
        record {
          there = first.0;
          counts = counts;
          counts_are = e ∙ ap (λ (ls : List (List ℕ)). counts ∷ ls) first.1;
          read = first.2;
          rows_are = rows;
          is = are.0;
          rest = subst (λ (ls : List (List ℕ)). AreCounted (rows_of (drop (i + 1) trees)) ls) first.1 are.1;
        }

-- what was done so far, and in how many of the cycles
pub record SoFar (trees : List (RowTree Leaf)) (taken : List (List ℕ)) (i : ℕ) (work : Work) : Type 0 where
  pub is : work_besides work (rows_of (drop i trees)) (drop i taken) ≡ work_of (rows_of trees) taken
  pub bound : IsBounded work
  pub cycles : work.cycles + all_counts (drop i taken) ≤ all_counts taken
  pub counted : AreCounted (rows_of (drop i trees)) (drop i taken)

module _ (trees : List (RowTree Leaf)) (taken : List (List ℕ)) (i : ℕ) (tree : RowTree Leaf) (work : Work)
    (so_far : SoFar trees taken i work) (next : Next trees taken i tree) where
  row_cycles : (row_work (row_of tree) next.counts).cycles ≤ sum next.counts
  row_cycles = omega (arith, cycles-sum (row_of tree) next.counts)

  left_cycles : all_counts (drop i taken) ≡ sum next.counts + all_counts (drop (i + 1) taken)
  left_cycles = ap all_counts next.counts_are

  -- a row more
  pub so_far-more : SoFar trees taken (i + 1) (both work (row_work (row_of tree) next.counts))
  so_far-more =
      let row = row-bounded (row_of tree) next.counts next.is in
      record {
        is = sym (ap (λ (ls : List (List ℕ)). work_besides work (rows_of (drop i trees)) ls) next.counts_are
            ∙ ap (λ (rows : List CodeRow). work_besides work rows (next.counts ∷ drop (i + 1) taken)) next.rows_are) ∙ so_far.is;
        bound = record {
          items = omega (arith, so_far.bound.items, row.items);
          tests = omega (arith, so_far.bound.tests, row.tests);
          memory = omega (arith, so_far.bound.memory, row.memory);
          prints = omega (arith, so_far.bound.prints, row.prints);
          reads = omega (arith, so_far.bound.reads, row.reads);
        };
        cycles = omega (arith, so_far.cycles, row_cycles, left_cycles);
        counted = next.rest;
      }

-- what was done so far is little
pub so_far-few : (trees : List (RowTree Leaf)) (taken : List (List ℕ)) (i : ℕ) (work : Work) → SoFar trees taken i work → all_counts taken ≤ most_cycles → IsFew work
so_far-few trees taken i work so_far few = few-of work so_far.bound (omega (arith, so_far.cycles, few))
