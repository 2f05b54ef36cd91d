-- What holds of each register of a state holds of each that it passes.
use Rattle.std.proofs.Common.{◌≡◌, ℕ, zero, suc, ◌+◌, ◌<◌, Bool, true, false, List, [], ◌∷◌, length, map, Option, Some, None, subst, arith}
use Rattle.std.specs.Prelude.{nat_eq, slice_get, if◌then◌else◌}
use Rattle.std.specs.Option.{option_or}
use Rattle.pc_word.specs.declared.item.Operand.{Operand}
use Rattle.pc_word.specs.declared.item.Operand.TheVariants.{Name, Lit}
use Rattle.pc_word.specs.Row.{Row, Then, Either, At_leaf}
use Rattle.pc_automaton.specs.declared.automaton.AutomatonLeaf.{AutomatonLeaf}
use Rattle.pc_automaton.specs.declared.automaton.AutomatonLeaf.TheVariants.{To, Out, Stop, Trap}
use Rattle.pc_automaton.specs.Automaton.{AutomatonState}
use Rattle.pc_assign.specs.Assigned.{passed_at, operand_register, leaf_passes, row_passes, states_pass}

module _ (P : ℕ → Type 0) where
  -- it holds of each register that is passed
  abbrev pub PassedAll : List (Option ℕ) → Type 0
  PassedAll passed = (at r : ℕ) → passed_at (slice_get passed at) ≡ Some r → P r

  -- of each register of a state
  abbrev pub HeldAll : (ℕ → Option ℕ) → Type 0
  HeldAll of = (name r : ℕ) → of name ≡ Some r → P r

  operand_passed : (of : ℕ → Option ℕ) → HeldAll of → (operand : Operand) (r : ℕ) → operand_register of operand ≡ Some r → P r
  operand_passed of most (Name name) r e = most name r e
  operand_passed of most (Lit value) r e = absurd (cc)

  arguments_passed : (of : ℕ → Option ℕ) → HeldAll of → (arguments : List Operand) → PassedAll (map (operand_register of) arguments)
  arguments_passed of most [] at r e = absurd (cc)
  arguments_passed of most (operand ∷ arguments) zero r e = operand_passed of most operand r e
  arguments_passed of most (operand ∷ arguments) (suc at) r e = arguments_passed of most arguments at r e

  chosen_list : (b : Bool) (list passed : List (Option ℕ)) → (if b then Some list else None) ≡ Some passed → PassedAll list → PassedAll passed
  chosen_list true list passed e h = let same : list ≡ passed = (cc) in subst (λ (xs : List (Option ℕ)). PassedAll xs) same h
  chosen_list false list passed e h = absurd (cc)

  leaf_passed : (of : ℕ → Option ℕ) → HeldAll of → (to : ℕ) (leaf : AutomatonLeaf) (passed : List (Option ℕ))
      → leaf_passes of to leaf ≡ Some passed → PassedAll passed
  leaf_passed of most to (To state arguments) passed e = chosen_list (nat_eq state to) (map (operand_register of) arguments) passed e
      (arguments_passed of most arguments)
  leaf_passed of most to (Out region homes) passed e = absurd (cc)
  leaf_passed of most to Stop passed e = absurd (cc)
  leaf_passed of most to (Trap kind line) passed e = absurd (cc)

  pub either_passed : (o p : Option (List (Option ℕ))) (passed : List (Option ℕ)) → ((xs : List (Option ℕ)) → o ≡ Some xs → PassedAll xs)
      → ((xs : List (Option ℕ)) → p ≡ Some xs → PassedAll xs) → option_or o p ≡ Some passed → PassedAll passed
  either_passed None p passed h k e = k passed e
  either_passed (Some xs) p passed h k e = h passed e

  pub row_passed : (of : ℕ → Option ℕ) → HeldAll of → (to : ℕ) (row : Row AutomatonLeaf) (passed : List (Option ℕ))
      → row_passes of to row ≡ Some passed → PassedAll passed
  row_passed of most to (Then item rest) passed e = row_passed of most to rest passed e
  row_passed of most to (Either on on_yes on_no) passed e =
      either_passed (row_passes of to on_yes) (row_passes of to on_no) passed (row_passed of most to on_yes) (row_passed of most to on_no) e
  row_passed of most to (At_leaf leaf) passed e = leaf_passed of most to leaf passed e

  -- of states from a number on
  pub states_passed : (R : ℕ → ℕ → Option ℕ) (to from : ℕ) (states : List AutomatonState)
      → ((number : ℕ) → number < from + length states → HeldAll (R number))
      → (passed : List (Option ℕ)) → states_pass R to from states ≡ Some passed → PassedAll passed
  states_passed R to from [] most passed e = absurd (cc)
  states_passed R to from (state ∷ states) most passed e =
      either_passed (row_passes (R from) to state.row) (states_pass R to (suc from) states) passed
      (row_passed (R from) (most from (omega arith)) to state.row) (states_passed R to (suc from) states (λ number h. most number (omega arith))) e
