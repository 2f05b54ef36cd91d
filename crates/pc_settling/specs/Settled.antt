-- What is left of a window, settled: no item that only computes what is used nowhere below, no Copies at its root, and forms in its own parameters.
use Rattle.std.specs.Prelude.{ℕ, Bool, not, ◌&&◌, List, ◌++◌, filter}
use Rattle.pc_word.specs.declared.item.Item.TheVariants.{Copy}
use Rattle.pc_word.specs.declared.item.Operand.{Operand}
use Rattle.pc_word.specs.declared.item.Operand.TheVariants.{Name}
use Rattle.pc_window.specs.Tree.{Tree, Pending, whole}
use Rattle.pc_window.specs.Rebasing.{rebased}
use Rattle.pc_window.specs.Tidying.{tidied}
use Rattle.pc_window.specs.WindowRun.{Window, supply_of}
use Rattle.pc_window.specs.Steps.{window_of}
use Rattle.pc_certified.specs.Facts.{Fact}
use Rattle.pc_matching.specs.Matching.{same_operand}
use Rattle.pc_matching.specs.FactsAfter.{is_of_name}
use Rattle.pc_settling.specs.Remaining.{Remaining, sources_of, have_value_of}

-- whether a fact says something of a name, and of the value of another operand than this
abbrev pub is_of_another : Operand → Fact → Bool
is_of_another operand fact = is_of_name fact && not (same_operand fact.operand operand)

-- the facts after a Copy that the window does and the row does not: those of other operands than its name, and that what had the value
-- of what is copied has the name's
abbrev pub facts_after_copy : List Fact → ℕ → Operand → List Fact
facts_after_copy facts name from = filter (is_of_another (Name name)) facts ++ have_value_of name (sources_of from facts)

-- a tree below the Copies at its root
abbrev pub below_copies : Tree → Tree
below_copies (Pending tag origin (Copy name from) rest) = below_copies rest
below_copies tree = tree

-- the facts after the Copies at the root of a tree
abbrev pub facts_after_copies : Tree → List Fact → List Fact
facts_after_copies (Pending tag origin (Copy name from) rest) facts = facts_after_copies rest (facts_after_copy facts name from)
facts_after_copies tree facts = facts

-- a window with this tree, rebased
abbrev pub rebased_with : Window → Tree → Window
rebased_with w tree = window_of tree (rebased tree (supply_of w)) w.limits w.inside

-- what is left, settled: first items that only compute and are used nowhere below go, then the Copies at the root, of which the facts tell from then on, and
-- then the forms are written anew. Facts on names that the window no longer uses stay
abbrev pub settled : Window → List Fact → Remaining
settled w facts = record {
  window = rebased_with w (below_copies (tidied (whole w.front)));
  facts = facts_after_copies (tidied (whole w.front)) facts;
}
