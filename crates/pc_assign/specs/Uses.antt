-- The names that are used below a place of a row.
use Rattle.std.specs.Prelude.{ℕ, Bool, false, ◌||◌}
use Rattle.std.specs.List.{list_any}
use Rattle.pc_word.specs.Row.{Row, Then, Either, At_leaf}
use Rattle.pc_window.specs.Names.{homes_use}
use Rattle.pc_automaton.specs.declared.automaton.AutomatonLeaf.{AutomatonLeaf}
use Rattle.pc_automaton.specs.declared.automaton.AutomatonLeaf.TheVariants.{To, Out, Stop, Trap}
use Rattle.pc_word.specs.Items.{reads_name}

-- whether a leaf uses a name: among its arguments, or as the value of a home
abbrev pub leaf_uses : AutomatonLeaf → ℕ → Bool
leaf_uses (To state arguments) name = list_any (λ operand. reads_name operand name) arguments
leaf_uses (Out region homes) name = homes_use homes name
leaf_uses Stop name = false
leaf_uses (Trap kind line) name = false

-- whether some leaf of a row does
abbrev pub row_uses : Row AutomatonLeaf → ℕ → Bool
row_uses (Then item rest) name = row_uses rest name
row_uses (Either on on_yes on_no) name = row_uses on_yes name || row_uses on_no name
row_uses (At_leaf leaf) name = leaf_uses leaf name
