-- What copies bring to the parameters of a state, or to the variables of a region.
use Rattle.std.proofs.Common.{◌≡◌, ℕ, suc, List, [], ◌∷◌, length, map, Some, refl, sym, ◌∙◌, ap, subst, inl, inr}
use Rattle.std.specs.Prelude.{Bool, true, false, if◌then◌else◌, nat_eq, slice_get}
use Rattle.std.specs.List.{AllByRecursion, list_any}
use Rattle.pc_word.specs.declared.item.Operand.{Operand}
use Rattle.pc_word.specs.declared.item.Operand.TheVariants.{Name, Lit}
use Rattle.pc_word.specs.State.{State}
use Rattle.pc_word.specs.Items.{operand_value, reads_name}
use Rattle.pc_table.specs.Table.{Table, region_live}
use Rattle.pc_table.specs.Laws.{AlikeAtHead}
use Rattle.pc_window.specs.declared.home.Home.{Home}
use Rattle.pc_window.specs.Tree.{home_of, home_state}
use Rattle.pc_window.specs.Names.{homes_use}
use Rattle.pc_window.specs.Rebasing.{is_in}
use Rattle.pc_window.proofs.Uses.{nat_eq-tells}
use Rattle.pc_window.proofs.Grafts.{nat_eq-same}
use Rattle.pc_automaton.specs.declared.automaton.AutomatonLeaf.TheVariants.{To, Out}
use Rattle.pc_automaton.specs.AutomatonRun.{passed, passed_state}
use Rattle.pc_copies.specs.declared.moves.Move.{Move}
use Rattle.pc_copies.specs.Moves.{AreDone}
use Rattle.pc_emit.specs.Registers.{argument_moves, home_moves}
use Rattle.pc_emit.proofs.Rows.{LeafHolds, Holds}
use Rattle.pc_word.specs.Naming.{map_name}
use Rattle.pc_word.proofs.Truth.{or_first, or_second, or_true}

-- what is so at each place is so of each
at_each : {X : Type 0} (P : X → Type 0) (xs : List X) → ((at : ℕ) (x : X) → slice_get xs at ≡ Some x → P x) → AllByRecursion P xs
at_each P [] h = tt
at_each P (x ∷ xs) h = (h 0 x refl, at_each P xs (λ at y e. h (suc at) y e))

-- each destination has its value
abbrev pub Moved : State → State → List Move → Type 0
Moved old new moves = AllByRecursion (λ move. new.names move.dest ≡ operand_value old.names move.from) moves

pub done_moved : (moves : List Move) (scratch : ℕ) (old new : State) → AreDone moves scratch old new → Moved old new moves
done_moved moves scratch old new done = at_each (λ move. new.names move.dest ≡ operand_value old.names move.from) moves done.moved

-- an operand whose name is used has its value in the register
operand_moved : (of : ℕ → ℕ) (s old : State) (o : Operand) → ((x : ℕ) → reads_name o x ≡ true → old.names (of x) ≡ s.names x)
    → operand_value old.names (map_name of o) ≡ operand_value s.names o
operand_moved of s old (Name x) h = h x (nat_eq-same x)
operand_moved of s old (Lit value) h = refl

-- ---- arguments

module _ (of to : ℕ → ℕ) (s old new : State) where
  arguments_passed : (parameters : List ℕ) (arguments : List Operand) → length arguments ≡ length parameters
      → ((x : ℕ) → list_any (λ o. reads_name o x) arguments ≡ true → old.names (of x) ≡ s.names x)
      → Moved old new (argument_moves of to parameters arguments)
      → (x : ℕ) → is_in x parameters ≡ true → new.names (to x) ≡ passed s.names parameters arguments x
  arguments_passed [] arguments many hold moved x there = absurd (cc)
  arguments_passed (p ∷ parameters) [] many hold moved x there = absurd (cc)
  arguments_passed (p ∷ parameters) (a ∷ arguments) many hold moved x there =
      by_first (nat_eq p x) refl (λ in_rest. arguments_passed parameters arguments (fewer many)
      (λ y u. hold y (or_second (reads_name a y) (list_any (λ o. reads_name o y) arguments) u)) moved.1 x in_rest)
    where
      value : new.names (to p) ≡ operand_value s.names a
      value = moved.0 ∙ operand_moved of s old a (λ y r. hold y (or_first (reads_name a y) (list_any (λ o. reads_name o y) arguments) r))

      rest : (b : Bool) → nat_eq p x ≡ b → b ≡ false → is_in x parameters ≡ true
      rest b e f = elim (or_true (nat_eq x p) (is_in x parameters) there) [
        | inl q ↦ absurd (let is = nat_eq-tells x p q in let same : nat_eq p x ≡ true = subst (λ (n : ℕ). nat_eq n x ≡ true) is (nat_eq-same x) in cc)
        | inr q ↦ q
      ]

      by_first : (b : Bool) → nat_eq p x ≡ b → (is_in x parameters ≡ true → new.names (to x) ≡ passed s.names parameters arguments x)
          → new.names (to x) ≡ (if b then operand_value s.names a else passed s.names parameters arguments x)
      by_first true e next = ap (λ (n : ℕ). new.names (to n)) (sym (nat_eq-tells p x e)) ∙ value
      by_first false e next = next (rest false e refl)

      fewer : suc (length arguments) ≡ suc (length parameters) → length arguments ≡ length parameters
      fewer e = cc

-- the parameters of a state have the values that are passed
pub state_passed : (of to : ℕ → ℕ) (s old new : State) (scratch number : ℕ) (parameters : List ℕ) (arguments : List Operand) → length arguments ≡ length parameters
    → LeafHolds of (To number arguments) s old → AreDone (argument_moves of to parameters arguments) scratch old new
    → Holds to parameters (passed_state s parameters arguments) new
state_passed of to s old new scratch number parameters arguments many holds done = record {
  names = arguments_passed of to s old new parameters arguments many holds.names (done_moved (argument_moves of to parameters arguments) scratch old new done);
  cells = done.same_cells ∙ holds.cells;
  input = done.same_input ∙ holds.input;
}

-- ---- homes

module _ (of : ℕ → ℕ) (s old new : State) where
  home_moved : (homes : List Home) → ((x : ℕ) → homes_use homes x ≡ true → old.names (of x) ≡ s.names x) → Moved old new (home_moves of homes)
      → (v : ℕ) → list_any (nat_eq v) (map (λ (home : Home). home.variable) homes) ≡ true → new.names v ≡ operand_value s.names (home_of homes v)
  home_moved [] hold moved v there = absurd (cc)
  home_moved (home ∷ homes) hold moved v there =
      by_first (nat_eq home.variable v) refl (λ in_rest. home_moved homes (λ y u. hold y (or_second (reads_name home.value y) (homes_use homes y) u)) moved.1 v in_rest)
    where
      value : new.names home.variable ≡ operand_value s.names home.value
      value = moved.0 ∙ operand_moved of s old home.value (λ y r. hold y (or_first (reads_name home.value y) (homes_use homes y) r))

      rest : nat_eq home.variable v ≡ false → list_any (nat_eq v) (map (λ (home : Home). home.variable) homes) ≡ true
      rest f = elim (or_true (nat_eq v home.variable) (list_any (nat_eq v) (map (λ (home : Home). home.variable) homes)) there) [
        | inl q ↦ absurd (let is = nat_eq-tells v home.variable q in let same : nat_eq home.variable v ≡ true = subst (λ (n : ℕ). nat_eq n v ≡ true) is (nat_eq-same v) in cc)
        | inr q ↦ q
      ]

      by_first : (b : Bool) → nat_eq home.variable v ≡ b
          → (list_any (nat_eq v) (map (λ (home : Home). home.variable) homes) ≡ true → new.names v ≡ operand_value s.names (home_of homes v))
          → new.names v ≡ operand_value s.names (if b then home.value else home_of homes v)
      by_first true e next = ap (λ (n : ℕ). new.names n) (sym (nat_eq-tells home.variable v e)) ∙ value
      by_first false e next = next (rest e)

-- the variables that are live at a region have the values of their homes
pub region_passed : (table : Table) (of : ℕ → ℕ) (s old new : State) (scratch to : ℕ) (homes : List Home) → map (λ (home : Home). home.variable) homes ≡ region_live table to
    → LeafHolds of (Out to homes) s old → AreDone (home_moves of homes) scratch old new → AlikeAtHead table to (home_state s homes) new
region_passed table of s old new scratch to homes live holds done = record {
  cells = done.same_cells ∙ holds.cells;
  input = done.same_input ∙ holds.input;
  names = λ v is. home_moved of s old new homes holds.names (done_moved (home_moves of homes) scratch old new done) v
      (subst (λ (vs : List ℕ). list_any (nat_eq v) vs ≡ true) (sym live) is);
}
