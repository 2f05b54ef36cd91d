-- Cycles of two codes of which one does the other, and the runs that they make up.
use Rattle.std.proofs.Common.{◌≡◌, ℕ, zero, suc, ◌<◌, Bool, true, false, List, ◌∷◌, length, Option, Some, None, refl, sym, ◌∙◌, ap, subst}
use Rattle.std.specs.Prelude.{ℤ, if◌then◌else◌, drop, slice_get}
use Rattle.pc_word.specs.declared.item.Item.{Item}
use Rattle.pc_word.specs.declared.item.MachineFault.{MachineFault}
use Rattle.pc_word.specs.declared.item.End.{End}
use Rattle.pc_word.specs.Word as word
use Rattle.pc_word.specs.State.{State, start_state}
use Rattle.pc_word.specs.Items.{operand_value}
use Rattle.pc_word.specs.Commit.{Stored, stores_of, prints_of, reads_of, names_after, cells_after, fault_of, state_after}
use Rattle.pc_word.specs.Row.{path_of, leaf_of, commit_of, row_step}
use Rattle.pc_word.specs.Run.{Seen, Step, Goes, Stops, run_from, seen_of, after_printing}
use Rattle.pc_word.proofs.Places.{found_within}
use Rattle.pc_machine.specs.declared.tree.Leaf.{Leaf}
use Rattle.pc_machine.specs.declared.tree.Leaf.TheVariants.{Goto, Stop, Trap}
use Rattle.pc_machine.specs.MachineCode.{CodeRow, RowCode, target_of}
use Rattle.pc_machine.specs.MachineRun.{Cycle, follow_leaf, after_row, run_row, machine_step, machine_start, machine_run}
use Rattle.pc_renaming.specs.declared.kept.Kept.{Kept}
use Rattle.pc_renaming.specs.Renaming.{Renaming, all_before, none_written}
use Rattle.pc_renaming.specs.RowRenames.{ItemGoes, Unneeded, Copied, ItemStays, Writes_none, Writes_one, LeafRenames, Ends, Leads, RowRenames, Without, With, Both_sides, At_end}
use Rattle.pc_renaming.specs.IsRenamed.{IsRenamed}
use Rattle.pc_renaming.proofs.Alike.{Agrees, SamePaths, operand_same, stays_same, goes_same, fault_same}
use Rattle.pc_renaming.proofs.Standing.{or_else, given, given_names, Stands, goes_stands, stays_stands, stands_in}

-- ---- one row

-- two leaves end alike, or lead to rows of which the one does the other and finds in its registers the words that the other has
pub data LeavesMeet (rows : ℕ) (renaming : Renaming) (f g : ℕ → ℤ) : Leaf → Leaf → Type 0 where
  Both_end : {leaf : Leaf} → target_of leaf ≡ None → LeavesMeet rows renaming f g leaf leaf
  Both_lead : {target to : ℕ} → to < rows → renaming.origin to ≡ target
      → ((register place : ℕ) → renaming.holds to register ≡ Some place → f register ≡ g place)
      → LeavesMeet rows renaming f g (Goto target) (Goto to)

module _ (rows : ℕ) (renaming : Renaming) {home : ℕ → Option ℕ} (lengths : List ℕ) (old new : State) (agrees : Agrees home old new) where
  -- what two paths do, below paths that have given these words
  pub record Meet (before after : ℕ → Option ℤ) (xs ys : List Item) (leaf other : Leaf) : Type 0 where
    pub same : SamePaths lengths old new xs ys
    pub leaves : LeavesMeet rows renaming (λ register. or_else (before register) (names_after lengths old xs register)) (λ place. or_else (after place) (names_after lengths new ys place)) leaf other

  one_side : {before after : ℕ → Option ℤ} {xs ys us vs : List Item} {l m h k : Leaf} (b c : Bool) → b ≡ c → Meet before after xs ys l m → Meet before after us vs h k
      → Meet before after (if b then xs else us) (if c then ys else vs) (if b then l else h) (if c then m else k)
  one_side true true e on_yes on_no = on_yes
  one_side true false e on_yes on_no = absurd (cc)
  one_side false true e on_yes on_no = absurd (cc)
  one_side false false e on_yes on_no = on_no

  -- an item of the row before alone
  goes_meet : {kept then_kept : ℕ → Kept} {x : Item} {xs ys : List Item} → ItemGoes home kept x then_kept → SamePaths lengths old new xs ys → SamePaths lengths old new (x ∷ xs) ys
  goes_meet {xs = xs} {ys = ys} (Unneeded {item} is only then_is) same = goes_same lengths old new item xs ys only same
  goes_meet {xs = xs} {ys = ys} (Copied was_before at then_is) same = goes_same lengths old new _ xs ys refl same

  stays_meet : {registers : ℕ} {kept then_kept : ℕ → Kept} {written then_written : ℕ → Bool} {x y : Item} {xs ys : List Item} → ItemStays registers home kept written x y then_kept then_written
      → SamePaths lengths old new xs ys → SamePaths lengths old new (x ∷ xs) (y ∷ ys)
  stays_meet (Writes_none same none kept_is written_is) rest = stays_same lengths old new agrees same rest
  stays_meet (Writes_one same is other_is was_before below fresh kept_is written_is) rest = stays_same lengths old new agrees same rest

  -- the words that leaves find, said in two ways
  leaves_by : {f g h k : ℕ → ℤ} {leaf other : Leaf} → ((register : ℕ) → f register ≡ h register) → ((place : ℕ) → g place ≡ k place)
      → LeavesMeet rows renaming h k leaf other → LeavesMeet rows renaming f g leaf other
  leaves_by first second (Both_end none) = Both_end none
  leaves_by first second (Both_lead below is found) = Both_lead below is (λ r p at. first r ∙ found r p at ∙ sym (second p))

  pub row_meets : {registers : ℕ} {kept : ℕ → Kept} {written : ℕ → Bool} {row other : CodeRow} → RowRenames registers rows renaming home kept written row other
      → (before after : ℕ → Option ℤ) → Stands new kept written before after
      → Meet before after (path_of old.names row) (path_of new.names other) (leaf_of old.names row) (leaf_of new.names other)
  row_meets (Without {item = x} {before = row} {after = other} goes rest) before after stands =
      let below = row_meets rest (given lengths old x before) after (goes_stands lengths old new agrees goes stands) in
      record {
        same = goes_meet goes below.same;
        leaves = leaves_by (λ r. given_names lengths old x (path_of old.names row) before r) (λ p. refl) below.leaves;
      }
  row_meets (With {item = x} {other = y} {before = row} {after = other} stays rest) before after stands =
      let below = row_meets rest (given lengths old x before) (given lengths new y after) (stays_stands lengths old new agrees stays stands) in
      record {
        same = stays_meet stays below.same;
        leaves = leaves_by (λ r. given_names lengths old x (path_of old.names row) before r) (λ p. given_names lengths new y (path_of new.names other) after p) below.leaves;
      }
  row_meets (Both_sides {on = on} {one = one} same on_yes on_no) before after stands =
      one_side (word.holds (operand_value old.names on)) (word.holds (operand_value new.names one)) (ap word.holds (operand_same lengths old new agrees same))
      (row_meets on_yes before after stands) (row_meets on_no before after stands)
  row_meets (At_end {kept} {written} leaves) before after stands = record { same = record { stores = refl; prints = refl; reads = refl }; leaves = at_leaf leaves }
    where
      at_leaf : {leaf other : Leaf} → LeafRenames rows renaming home kept written leaf other
          → LeavesMeet rows renaming (λ register. or_else (before register) (old.names register)) (λ place. or_else (after place) (new.names place)) leaf other
      at_leaf (Ends none) = Both_end none
      at_leaf (Leads below is found) = Both_lead below is (λ r p at. stands_in lengths old new agrees kept written before after r p stands (kept r) refl (found r p at))

-- ---- one cycle

module _ (renaming : Renaming) (before after : RowCode) (renamed : IsRenamed renaming before after) where
  -- the code after is at a row that does the row of the code before, in a state that agrees
  record Together (here there : Cycle) : Type 0 where
    pub row : renaming.origin there.row ≡ here.row
    pub within : there.row < length after.rows
    pub states : Agrees (renaming.holds there.row) here.state there.state

  -- two steps end alike, or print the same and go on together
  data BothStep : Step Cycle → Step Cycle → Type 0 where
    Both_stop : {out : List ℤ} {end : End} → BothStep (Stops out end) (Stops out end)
    Both_go : {out : List ℤ} {here there : Cycle} → Together here there → BothStep (Goes out here) (Goes out there)

  -- after paths that do the same, the leaves are followed together
  follow : (out : List ℤ) {s t : State} {leaf other : Leaf} → s.cells ≡ t.cells → s.input ≡ t.input
      → LeavesMeet (length after.rows) renaming s.names t.names leaf other → BothStep (follow_leaf out s leaf) (follow_leaf out t other)
  follow out {leaf = Goto row} cells input (Both_end none) = absurd (cc)
  follow out {leaf = Stop} cells input (Both_end none) = Both_stop
  follow out {leaf = Trap kind line} cells input (Both_end none) = Both_stop
  follow out cells input (Both_lead below is found) = Both_go (record { row = is; within = below; states = record { names = found; cells = cells; input = input } })

  -- what two rows come to
  outcome : (lengths : List ℕ) (s t : State) (xs ys : List Item) (leaf other : Leaf) (fault : Option MachineFault)
      → s.cells ≡ t.cells → s.input ≡ t.input → SamePaths lengths s t xs ys
      → LeavesMeet (length after.rows) renaming (names_after lengths s xs) (names_after lengths t ys) leaf other
      → BothStep (after_row (commit_of lengths s xs leaf fault)) (after_row (commit_of lengths t ys other fault))
  outcome lengths s t xs ys leaf other (Some fault) cells input same leaves = Both_stop
  outcome lengths s t xs ys leaf other None cells input same leaves =
      subst (λ (out : List ℤ). BothStep (follow_leaf (prints_of s xs) (state_after lengths s xs) leaf) (follow_leaf out (state_after lengths t ys) other)) same.prints
      (follow (prints_of s xs)
      (ap (λ (old : ℕ → ℕ → ℤ). cells_after old (stores_of lengths s xs)) cells ∙ ap (λ (stores : List Stored). cells_after t.cells stores) same.stores)
      (ap (λ (words : List ℤ). drop (reads_of xs) words) input ∙ ap (λ n. drop n t.input) same.reads)
      leaves)

  rows_step : (number : ℕ) (lengths : List ℕ) (row other : CodeRow) (s t : State) → Agrees (renaming.holds number) s t
      → RowRenames before.registers (length after.rows) renaming (renaming.holds number) all_before none_written row other
      → BothStep (after_row (row_step lengths row s)) (after_row (row_step lengths other t))
  rows_step number lengths row other s t agrees renames =
      let meet = row_meets (length after.rows) renaming lengths s t agrees renames (λ register. None) (λ place. None) (record {
        untouched = λ r e. refl;
        as_was = λ r p e. absurd (cc);
        as_made = λ r p e. absurd (cc);
        free = λ p e. refl;
      }) in
      subst (λ (fault : Option MachineFault). BothStep (after_row (row_step lengths row s)) (after_row (commit_of lengths t (path_of t.names other) (leaf_of t.names other) fault)))
      (fault_same lengths s t (path_of s.names row) (path_of t.names other) agrees.input meet.same)
      (outcome lengths s t (path_of s.names row) (path_of t.names other) (leaf_of s.names row) (leaf_of t.names other) (fault_of lengths s (path_of s.names row))
      agrees.cells agrees.input meet.same meet.leaves)

  -- together, both codes do a cycle and are together again
  both_step : {here there : Cycle} → Together here there → BothStep (machine_step before here) (machine_step after there)
  both_step {here} {there} together =
      let found = found_within after.rows there.row together.within in
      let does = renamed.rows.each there.row found.0 found.1 in
      let old : slice_get before.rows here.row ≡ Some does.0 = ap (slice_get before.rows) (sym together.row) ∙ does.1 in
      subst (λ (row : Option CodeRow). BothStep (run_row before.arrays here.state row) (machine_step after there)) (sym old)
      (subst (λ (row : Option CodeRow). BothStep (run_row before.arrays here.state (Some does.0)) (run_row after.arrays there.state row)) (sym found.1)
      (subst (λ (lengths : List ℕ). BothStep (run_row before.arrays here.state (Some does.0)) (run_row lengths there.state (Some found.0))) (sym renamed.arrays)
      (rows_step there.row before.arrays does.0 found.0 here.state there.state together.states does.2)))

  -- ---- the runs

  seen_same : (f g : Cycle → Seen) → ((here there : Cycle) → Together here there → f here ≡ g there) → {one other : Step Cycle} → BothStep one other → seen_of one f ≡ seen_of other g
  seen_same f g same Both_stop = refl
  seen_same f g same (Both_go {out} together) = ap (after_printing out) (same _ _ together)

  runs_same : (n : ℕ) → {here there : Cycle} → Together here there → run_from (machine_step before) n here ≡ run_from (machine_step after) n there
  runs_same zero together = refl
  runs_same (suc n) together = seen_same (run_from (machine_step before) n) (run_from (machine_step after) n) (λ h t both. runs_same n both) (both_step together)

  start_together : (input : List ℤ) → Together (machine_start before input) (machine_start after input)
  start_together input = record {
    row = renamed.rows.first;
    within = renamed.rows.entry;
    states = record {
      names = λ r p at. refl;
      cells = ap (λ (initial : List (List ℤ)). (start_state initial input).cells) (sym renamed.initial);
      input = refl;
    };
  }

  pub renaming_keeps_the_run : (input : List ℤ) (n : ℕ) → machine_run before input n ≡ machine_run after input n
  renaming_keeps_the_run input n = runs_same n (start_together input)
