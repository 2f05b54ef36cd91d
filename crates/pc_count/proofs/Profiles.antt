-- The profile of a run: so many counters as it wants, and so few counts that they fit.
use Rattle.std.proofs.Common.{◌≡◌, ℕ, suc, ◌^◌, ◌<◌, ◌≤◌, List, [], ◌∷◌, length, map, replicate, refl, ap, ap₂, sym, ◌∙◌, subst, arith}
use Rattle.std.proofs.lemmas.List.{length-map}
use Rattle.std.proofs.lemmas.List.Elements.{All-from_recursion}
use Rattle.std.proofs.lemmas.List.Sums.{count_by-le-length}
use Rattle.std.specs.Prelude.{All, sum}
use Rattle.std.specs.List.{AllByRecursion}
use Rattle.pc_word.proofs.Lists.{all_imply, all_of_map}
use Rattle.pc_word.specs.declared.item.Limits.{Limits}
use Rattle.pc_word.specs.declared.row_tree.RowTree.{RowTree}
use Rattle.pc_word.specs.MachineLimits.{most_cycles}
use Rattle.pc_word.specs.Ranges.{AreLimits}
use Rattle.pc_word.specs.Row.{leaves_of}
use Rattle.pc_machine.specs.declared.code.Code.{Code}
use Rattle.pc_machine.specs.declared.tree.Leaf.{Leaf}
use Rattle.pc_machine.specs.MachineCode.{CodeRow, RowCode, code_of, row_of, rows_of}
use Rattle.pc_machine.specs.MachineRun.{Cycle}
use Rattle.pc_machine.specs.WellFormed.{IsRow, WellFormed}
use Rattle.pc_vm.proofs.Exits.{length-leaves_of}
use Rattle.pc_count.specs.Passages.{Passage, passages}
use Rattle.pc_count.specs.Counts.{RunProfile, begins_in, counts_of_leaves, each_numbered, leaf_counts, row_counts, run_profile, times_left, times_run}
use Rattle.pc_count.specs.Profiles.{IsProfileOf, IsWorkOf}
use Rattle.pc_count.specs.declared.work.Work.{Work}
use Rattle.pc_count.specs.models.Bounds.{AreCounted, IsBounded, all_counts}
use Rattle.pc_count.proofs.Least.{cycles-least}
use Rattle.pc_count.proofs.Numbered.{length-each}
use Rattle.pc_count.proofs.Sums.{counts_of_leaves-sum, leaf_counts-sum, row_counts-sum}

-- ---- before the first cycle

-- the rows of a well-formed code have few leaves
few_of_row : (limits : Limits) (registers arrays rows : ℕ) (row : CodeRow) → AreLimits limits → IsRow limits registers arrays rows row → length (leaves_of row) < 2 ^ 64
few_of_row limits registers arrays rows row are is = omega (arith, is.tests, are.tests.1, length-leaves_of row)

pub few_leaves : (code : Code) → WellFormed (code_of code) → All (λ tree. length (leaves_of (row_of tree)) < 2 ^ 64) code.rows
few_leaves code well =
    All-from_recursion (λ tree. length (leaves_of (row_of tree)) < 2 ^ 64) trees
    (all_imply (λ tree. Is (row_of tree)) (λ tree. length (leaves_of (row_of tree)) < 2 ^ 64) trees
    (λ tree is. few_of_row code.limits code.registers (length code.arrays) (length (rows_of trees)) (row_of tree) well.limits is) (all_of_map Is row_of trees well.rows))
  where
    trees : List (RowTree Leaf)
    trees = code.rows

    Is : CodeRow → Type 0
    Is row = IsRow code.limits code.registers (length code.arrays) (length (rows_of trees)) row

-- counts of no cycle are zeros
no-counts : {X : Type 0} (f : ℕ → X → ℕ) (number : ℕ) (xs : List X) → ((j : ℕ) (x : X) → f j x ≡ 0) → replicate (length xs) 0 ≡ each_numbered f number xs
no-counts f number [] none = refl
no-counts f number (x ∷ xs) none = ap₂ (λ (k : ℕ) ks. k ∷ ks) (sym (none number x)) (no-counts f (suc number) xs none)

pub no_rows : (trees : List (RowTree Leaf)) → replicate (length trees) 0 ≡ row_counts (rows_of trees) []
no_rows trees =
    ap (λ k. replicate k 0) (sym (length-map trees row_of)) ∙ no-counts (λ number _. times_run [] number) 0 (rows_of trees) (λ j row. refl)

pub no_leaves : (number : ℕ) (trees : List (RowTree Leaf))
    → map (λ tree. replicate (length (leaves_of (row_of tree))) 0) trees ≡ each_numbered (counts_of_leaves []) number (rows_of trees)
no_leaves number [] = refl
no_leaves number (tree ∷ trees) =
    ap₂ (λ (ks : List ℕ) kss. ks ∷ kss) (no-counts (λ leaf _. times_left [] number leaf) 0 (leaves_of (row_of tree)) (λ j leaf. refl)) (no_leaves (suc number) trees)

-- ---- after the last one

-- the profile of a run of a code that is well formed
pub profile-is : (first later : Code) (profile : RunProfile) (most : ℕ) (start : Cycle) → WellFormed (code_of first) → later ≡ first
    → profile ≡ run_profile (code_of first) most start → most ≤ most_cycles → IsProfileOf (code_of later) profile
profile-is first later profile most start well same is few =
    subst (λ (code : Code). IsProfileOf (code_of code) profile) (sym same) (record { well = well; most = most; start = start; few = few; is = is })

-- each row of a well-formed code with its counts
rows-counted : (limits : Limits) (registers arrays many : ℕ) (rows : List CodeRow) (number : ℕ) (cycles : List Passage) → AreLimits limits
    → AllByRecursion (IsRow limits registers arrays many) rows → length cycles ≤ most_cycles → AreCounted rows (each_numbered (counts_of_leaves cycles) number rows)
rows-counted limits registers arrays many [] number cycles are all few = tt
rows-counted limits registers arrays many (row ∷ rows) number cycles are all few = (
  record {
    ops = omega (arith, all.0.ops, are.ops.1);
    tests = omega (arith, all.0.tests, are.tests.1);
    leaves = let same = length-each (λ leaf _. times_left cycles number leaf) 0 (leaves_of row) in omega (arith, same);
    few = omega (arith, counts_of_leaves-sum row number cycles, count_by-le-length (begins_in number) cycles, few);
  },
  rows-counted limits registers arrays many rows (suc number) cycles are all.1 few,
)

module _ (code : RowCode) (profile : RunProfile) (is : IsProfileOf code profile) where
  abbrev run_cycles : List Passage
  run_cycles = passages code is.most is.start

  pub cycles-few : length run_cycles ≤ most_cycles
  cycles-few = omega (arith, (cycles-least code is.most is.start).few, is.few)

  cycles-are : profile.cycles ≡ length run_cycles
  cycles-are = ap (λ (p : RunProfile). p.cycles) is.is

  leaves-are : profile.leaves ≡ leaf_counts code.rows run_cycles
  leaves-are = ap (λ (p : RunProfile). p.leaves) is.is

  rows-are : profile.rows ≡ row_counts code.rows run_cycles
  rows-are = ap (λ (p : RunProfile). p.rows) is.is

  pub profile-cycles : profile.cycles ≤ most_cycles
  profile-cycles = omega (arith, cycles-are, cycles-few)

  pub profile-counted : AreCounted code.rows profile.leaves
  profile-counted =
      subst (λ (ls : List (List ℕ)). AreCounted code.rows ls) (sym leaves-are)
      (rows-counted code.limits code.registers (length code.arrays) (length code.rows) code.rows 0 run_cycles is.well.limits is.well.rows cycles-few)

  pub profile-leaves : all_counts profile.leaves ≤ profile.cycles
  profile-leaves = omega (arith, ap all_counts leaves-are, leaf_counts-sum code.rows run_cycles, cycles-are)

  pub profile-rows : sum profile.rows ≤ profile.cycles
  profile-rows = omega (arith, ap (λ (xs : List ℕ). sum xs) rows-are, row_counts-sum code.rows run_cycles, cycles-are)

  pub profile-each_row : length profile.rows ≡ length code.rows
  profile-each_row = ap (λ (xs : List ℕ). length xs) rows-are ∙ length-each (λ number _. times_run run_cycles number) 0 code.rows

  -- what is bounded by its cycles is bounded by the run's
  pub profile-work : (work : Work) → work.cycles ≤ all_counts profile.leaves → IsBounded work → IsWorkOf profile.cycles work
  profile-work work cycles bound = record {
    cycles = omega (arith, cycles, profile-leaves);
    items = omega (arith, cycles, profile-leaves, bound.items);
    tests = omega (arith, cycles, profile-leaves, bound.tests);
    memory = omega (arith, cycles, profile-leaves, bound.items, bound.memory);
    prints = omega (arith, cycles, profile-leaves, bound.items, bound.prints);
    reads = omega (arith, cycles, profile-leaves, bound.items, bound.reads);
  }
