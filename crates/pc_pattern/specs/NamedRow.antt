-- Rows that differ in the names that they write: an automaton's row has a name of its own for each place that writes one.
use Rattle.std.specs.Prelude.{◌≡◌, ℕ, suc, List, [], ◌∷◌, IfSome}
use Rattle.pc_word.specs.declared.item.Item.{Item}
use Rattle.pc_word.specs.declared.item.Operand.{Operand}
use Rattle.pc_word.specs.Items.{dest_of}
use Rattle.pc_word.specs.Row.{Row, Then, Either, At_leaf}
use Rattle.pc_automaton.specs.declared.automaton.AutomatonLeaf.{AutomatonLeaf}
use Rattle.pc_automaton.specs.declared.automaton.AutomatonLeaf.TheVariants.{To, Out, Stop, Trap}
use Rattle.pc_canon.specs.Pairs.{Pair, defined, ArgumentsAlike, HomesAlike}
use Rattle.pc_word.specs.Naming.{with_dest}

-- two rows with the same items and tests but for the names that are written; leaves are related under the names that
-- correspond on the way to them
pub data RowsNamed {L M : Type 0} (Related : List Pair → L → M → Type 0) : List Pair → Row L → Row M → Type 0 where
  named_item : {names : List Pair} {item : Item} {rest : Row L} {other : Row M} (name : ℕ)
      → RowsNamed Related (defined names (dest_of item) (dest_of (with_dest name item))) rest other
      → RowsNamed Related names (Then item rest) (Then (with_dest name item) other)
  named_test : {names : List Pair} {on : Operand} {on_yes on_no : Row L} {other_yes other_no : Row M}
      → RowsNamed Related names on_yes other_yes → RowsNamed Related names on_no other_no
      → RowsNamed Related names (Either on on_yes on_no) (Either on other_yes other_no)
  named_leaf : {names : List Pair} {leaf : L} {other : M} → Related names leaf other → RowsNamed Related names (At_leaf leaf) (At_leaf other)

-- the names that items write are numbers in order, from this one on: one for each item, whether it writes a name or none
abbrev pub WritesInOrder : ℕ → List Item → Type 0
WritesInOrder next [] = Unit {0}
WritesInOrder next (item ∷ items) = IfSome (dest_of item) (λ name. name ≡ next) × WritesInOrder (suc next) items

-- the same leaf, but for names
abbrev pub LeavesAlike : List Pair → AutomatonLeaf → AutomatonLeaf → Type 0
LeavesAlike names (To number arguments) (To other arguments') = (number ≡ other) × ArgumentsAlike names arguments arguments'
LeavesAlike names (Out region homes) (Out other homes') = (region ≡ other) × HomesAlike names homes homes'
LeavesAlike names Stop Stop = Unit {0}
LeavesAlike names (Trap kind line) (Trap kind' line') = (kind ≡ kind') × (line ≡ line')
LeavesAlike names _ _ = ⊥
