-- What removals, moves that end in a compact code, and removals after them give.
use Rattle.std.proofs.Common.{◌≡◌, List, sym, subst, refl}
use Rattle.pc_word.specs.declared.item.Limits.{Limits}
use Rattle.pc_word.specs.declared.row_tree.RowTree.{RowTree}
use Rattle.pc_machine.specs.declared.tree.Leaf.{Leaf}
use Rattle.pc_machine.specs.MachineCode.{CodeRow, RowCode, rows_of}
use Rattle.pc_machine.specs.WellFormed.{WellFormed}
use Rattle.pc_tighten.specs.Compact.{Compact}
use Rattle.pc_tighten.specs.Removals.{HasNoGotoAlone}
use Rattle.pc_tighten.specs.Removing.{Shrinks}
use Rattle.pc_tighten.specs.Tightened.{ByMoves, Tightens, EachIsReachable, IsTightened}
use Rattle.pc_tighten.specs.models.Gotos.{AreRemoved, AreTightened}
use Rattle.pc_tighten.specs.models.Raising.{code_with, IsRaised}
use Rattle.pc_tighten.proofs.Sizes.{tightening_takes_no_more_room}
use Rattle.pc_tighten.proofs.Tightened.{moves_keep_reachable, removals_keep_reachable, tightening_keeps_form, tightening_is_no_slower, tightening_keeps_reachable, tightening_keeps}

is_tightened : {code after : RowCode} → WellFormed code → (steps : Tightens code after) → HasNoGotoAlone steps.first.rows → (EachIsReachable code.rows → Compact after)
    → HasNoGotoAlone after.rows → IsTightened code after
is_tightened well steps first_none compact none_left = record {
  tightens = steps;
  first_no_goto_alone = first_none;
  form = tightening_keeps_form steps well;
  limits = tightening_keeps (λ (c : RowCode). c.limits) (λ c rows. refl) steps;
  registers = tightening_keeps (λ (c : RowCode). c.registers) (λ c rows. refl) steps;
  arrays = tightening_keeps (λ (c : RowCode). c.arrays) (λ c rows. refl) steps;
  initial = tightening_keeps (λ (c : RowCode). c.initial) (λ c rows. refl) steps;
  runs = λ input never. tightening_is_no_slower steps well input never;
  room = λ room. tightening_takes_no_more_room room steps;
  reachable = λ all. tightening_keeps_reachable steps all;
  compact = compact;
  no_goto_alone = none_left;
}

-- items of the rows go up, also as the rows are built anew
pub rows_raised : (limits : Limits) (before old new left : List CodeRow) → IsRaised limits old new → old ≡ before → left ≡ new → IsRaised limits before left
rows_raised limits before old new left raised e d =
    subst (λ (rows : List CodeRow). IsRaised limits before rows) (sym d) (subst (λ (rows : List CodeRow). IsRaised limits rows new) e raised)

-- rows of a list go, also as they stand in another one
pub rows_gone : (before old new : List CodeRow) → AreRemoved old new → old ≡ before → AreRemoved before new
rows_gone before old new removed e = subst (λ (rows : List CodeRow). AreRemoved rows new) e removed

-- rows go, then items go up, and then rows go
pub rows_tightened : (limits : Limits) (before first between after : List CodeRow) → AreRemoved before first → IsRaised limits first between → AreRemoved between after
    → AreTightened limits before after
rows_tightened limits before first between after gone raised removed =
    record { first = first; between = between; first_removed = gone; raised = raised; removed = removed }

pub ruleset in_order = (rows_raised, rows_gone, rows_tightened)

-- what the code is then
pub code_tightened : (limits : Limits) (like : RowCode) (before after left : List (RowTree Leaf)) → AreTightened limits (rows_of before) (rows_of left) → after ≡ left
    → WellFormed (code_with limits like (rows_of before)) → IsTightened (code_with limits like (rows_of before)) (code_with limits like (rows_of after))
code_tightened limits like before after left tight same well =
    subst (λ (rows : List (RowTree Leaf)). IsTightened (code_with limits like (rows_of before)) (code_with limits like (rows_of rows))) (sym same)
    (is_tightened well (record {
      first = code_with limits like tight.first;
      between = code_with limits like tight.between;
      first_removals = gone.removals;
      moves = up;
      removals = down.removals;
    }) tight.first_removed.none_left
    (λ all. down.compact (moves_keep_reachable up (removals_keep_reachable gone.removals all)) (tight.raised.compact like)) tight.removed.none_left)
  where
    gone : Shrinks (code_with limits like (rows_of before)) (code_with limits like tight.first)
    gone = tight.first_removed.shrink limits like

    up : ByMoves (code_with limits like tight.first) (code_with limits like tight.between)
    up = tight.raised.moves_up like

    down : Shrinks (code_with limits like tight.between) (code_with limits like (rows_of left))
    down = tight.removed.shrink limits like
