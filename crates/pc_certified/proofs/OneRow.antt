-- A row that matches a front, on the paths that are taken.
use Rattle.std.proofs.Common.{◌≡◌, Bool, true, false, List, [], ◌∷◌, ◌++◌, Option, None, sym, ◌∙◌, ap, subst, append_assoc, append-nil}
use Rattle.std.specs.Prelude.{ℕ, ℤ, if◌then◌else◌}
use Rattle.pc_word.specs.declared.item.Item.{Item}
use Rattle.pc_word.specs.declared.item.MachineFault.{MachineFault}
use Rattle.pc_word.specs.Word.{holds}
use Rattle.pc_word.specs.State.{State}
use Rattle.pc_word.specs.Items.{operand_value}
use Rattle.pc_word.specs.Commit.{prints_of, fault_of, state_after}
use Rattle.pc_word.specs.Row.{Row, path_of, leaf_of, RowOutcome, Commits, commit_of, row_step}
use Rattle.pc_certified.specs.Facts.{Fact, StatesMatch}
use Rattle.pc_certified.specs.Paths.{EffectsMatch}
use Rattle.pc_certified.specs.RowMatches.{RowMatches, row_item, front_item, both_test, both_leaf}
use Rattle.pc_certified.proofs.OnePath.{operands_same, PathAfter, path_after}

-- on the paths that are taken
pub record PathsTaken {L M : Type 0} (facts : List Fact) (AtLeaf : List Item → List Item → L → M → Type 0) (items others : List Item) (leaf : L) (left : M) : Type 0 where
  pub effects : EffectsMatch facts items others
  pub at : AtLeaf items others leaf left

module _ {L M : Type 0} (facts : List Fact) (AtLeaf : List Item → List Item → L → M → Type 0) (lengths : List ℕ) (machine window : State) (alike : StatesMatch facts machine window) where
  by_test : (b c : Bool) (p q p' q' : List Item) (items others : List Item) (l m : L) (l' m' : M) → b ≡ c
      → PathsTaken facts AtLeaf (items ++ p) (others ++ p') l l' → PathsTaken facts AtLeaf (items ++ q) (others ++ q') m m'
      → PathsTaken facts AtLeaf (items ++ (if b then p else q)) (others ++ (if c then p' else q')) (if b then l else m) (if c then l' else m')
  by_test true true p q p' q' items others l m l' m' e h k = h
  by_test false false p q p' q' items others l m l' m' e h k = k
  by_test true false p q p' q' items others l m l' m' e h k = absurd (cc)
  by_test false true p q p' q' items others l m l' m' e h k = absurd (cc)

  pub paths_taken : {items others : List Item} {row : Row L} {front : Row M} → RowMatches facts AtLeaf items others row front
      → PathsTaken facts AtLeaf (items ++ path_of machine.names row) (others ++ path_of window.names front) (leaf_of machine.names row) (leaf_of window.names front)
  paths_taken (row_item {items} {others} {item} {row} {front} h) =
      subst (λ (l : List Item). PathsTaken facts AtLeaf l (others ++ path_of window.names front) (leaf_of machine.names row) (leaf_of window.names front))
      (append_assoc items (item ∷ []) (path_of machine.names row)) (paths_taken h)
  paths_taken (front_item {items} {others} {item} {row} {front} h) =
      subst (λ (l : List Item). PathsTaken facts AtLeaf (items ++ path_of machine.names row) l (leaf_of machine.names row) (leaf_of window.names front))
      (append_assoc others (item ∷ []) (path_of window.names front)) (paths_taken h)
  paths_taken (both_test {items} {others} {on} {on'} {yes_row} {no_row} {yes_front} {no_front} same h k) =
      by_test (holds (operand_value machine.names on)) (holds (operand_value window.names on')) _ _ _ _ items others _ _ _ _
      (ap holds (operands_same lengths facts machine window alike on on' same)) (paths_taken h) (paths_taken k)
  paths_taken (both_leaf {items} {others} {leaf} {left} effects at) =
      subst (λ (l : List Item). PathsTaken facts AtLeaf l (others ++ []) leaf left) (sym (append-nil items))
      (subst (λ (l : List Item). PathsTaken facts AtLeaf items l leaf left) (sym (append-nil others)) (record { effects = effects; at = at }))

  -- what the row does where the front does not fault
  pub record RowDone (row : Row L) (front : Row M) : Type 0 where
    pub outcome : row_step lengths row machine
        ≡ Commits (prints_of window (path_of window.names front)) (state_after lengths machine (path_of machine.names row)) (leaf_of machine.names row)
    pub after : PathAfter lengths facts machine window (path_of machine.names row) (path_of window.names front)
    pub at : AtLeaf (path_of machine.names row) (path_of window.names front) (leaf_of machine.names row) (leaf_of window.names front)

  pub row_done : (row : Row L) (front : Row M) → RowMatches facts AtLeaf [] [] row front → fault_of lengths window (path_of window.names front) ≡ None → RowDone row front
  row_done row front h none =
      let taken = paths_taken h in
      let after = path_after lengths facts machine window alike (path_of machine.names row) (path_of window.names front) taken.effects none in
      record {
        outcome = ap (λ (f : Option MachineFault). commit_of lengths machine (path_of machine.names row) (leaf_of machine.names row) f) after.no_fault
            ∙ ap (λ (out : List ℤ). let o : RowOutcome L = Commits out (state_after lengths machine (path_of machine.names row)) (leaf_of machine.names row) in o) after.prints;
        after = after;
        at = taken.at;
      }
