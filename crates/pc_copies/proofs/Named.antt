-- Registers that moves name.
use Rattle.std.proofs.Common.{◌≡◌, inl, inr, ℕ, suc, Bool, true, false, ◌||◌, List, [], ◌∷◌, Some, refl, ap, subst}
use Rattle.std.proofs.Common.{eqb-true}
use Rattle.std.specs.Prelude.{if◌then◌else◌, nat_eq, slice_get}
use Rattle.pc_word.proofs.Truth.{or_true}
use Rattle.pc_word.specs.declared.item.Operand.{Operand}
use Rattle.pc_word.specs.declared.item.Operand.TheVariants.{Name, Lit}
use Rattle.pc_copies.specs.declared.moves.Move.{Move}
use Rattle.pc_copies.specs.Moves.{is_name, one_names, nontrivial_moves}

-- what holds of each register that a move names
pub record OfNamed (P : ℕ → Type 0) (move : Move) : Type 0 where
  pub dest : P move.dest
  pub from : (register : ℕ) → move.from ≡ Name register → P register

name_of : (operand : Operand) (register : ℕ) → is_name operand register ≡ true → operand ≡ Name register
name_of (Name name) register e = ap (λ (n : ℕ). Name n) (eqb-true name register e)
name_of (Lit value) register e = absurd (cc)

-- holds of each that the moves name which are not to themselves
pub named_all : (P : ℕ → Type 0) (moves : List Move) → ((at : ℕ) (move : Move) → slice_get moves at ≡ Some move → OfNamed P move)
    → (register : ℕ) → one_names (nontrivial_moves moves) register ≡ true → P register
named_all P [] each register e = absurd (cc)
named_all P (move ∷ moves) each register e = by_test (is_name move.from move.dest) e (named_all P moves (λ at other f. each (suc at) other f) register)
  where
    here : OfNamed P move
    here = each 0 move refl

    by_test : (b : Bool) → one_names (if b then nontrivial_moves moves else move ∷ nontrivial_moves moves) register ≡ true
        → (one_names (nontrivial_moves moves) register ≡ true → P register) → P register
    by_test true is later = later is
    by_test false is later = elim (or_true (nat_eq move.dest register || is_name move.from register) (one_names (nontrivial_moves moves) register) is) [
      | inl first ↦ elim (or_true (nat_eq move.dest register) (is_name move.from register) first) [
        | inl dest ↦ subst P (eqb-true move.dest register dest) here.dest
        | inr from ↦ here.from register (name_of move.from register from)
      ]
      | inr rest ↦ later rest
    ]
