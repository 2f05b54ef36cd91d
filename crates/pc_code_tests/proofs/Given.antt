-- Moves that pass the test may be done at once.
use Rattle.std.proofs.Common.{◌≡◌, ◌≢◌, ℕ, zero, suc, true, not, ◌&&◌, List, [], ◌∷◌, Option, Some, None, refl, sym, ◌∙◌, ap, subst, true≢false, eq-eqb}
use Rattle.std.specs.Prelude.{nat_eq, nat_lt, slice_get, is_none}
use Rattle.pc_word.specs.declared.item.Operand.{Operand}
use Rattle.pc_word.specs.declared.item.Operand.TheVariants.{Name, Lit}
use Rattle.pc_machine.specs.Registers.{most_registers}
use Rattle.pc_word.proofs.Truth.{and_true, not_true, less_of}
use Rattle.pc_copies.specs.declared.moves.Move.{Move}
use Rattle.pc_copies.specs.Moves.{IsNamed, IsMoveSource, AreMoves}
use Rattle.pc_copies.specs.models.Sources.{source_in}
use Rattle.pc_code_tests.specs.Given.{is_named, is_source, are_given}
use Rattle.pc_copies.proofs.Arranged.{missing}

named : (scratch register : ℕ) → is_named scratch register ≡ true → IsNamed scratch register
named scratch register e =
    let parts = and_true (nat_lt register most_registers) (not (nat_eq register scratch)) e in
    record { below = less_of register most_registers parts.0; other = λ same. true≢false (sym (eq-eqb register scratch same) ∙ not_true (nat_eq register scratch) parts.1) }

sourced : (scratch : ℕ) (from : Operand) → is_source scratch from ≡ true → IsMoveSource scratch from
sourced scratch (Name register) e = named scratch register e
sourced scratch (Lit value) e = tt

none_of : (source : Option Operand) → is_none source ≡ true → source ≡ None
none_of None e = refl
none_of (Some from) e = absurd (cc)

module _ (scratch : ℕ) (move : Move) (moves : List Move) (dest : IsNamed scratch move.dest) (from : IsMoveSource scratch move.from) (once : source_in moves move.dest ≡ None)
    (rest : AreMoves scratch moves) where
  more_dests : (at : ℕ) (other : Move) → slice_get (move ∷ moves) at ≡ Some other → IsNamed scratch other.dest
  more_dests zero other e = let same : move ≡ other = (cc) in subst (λ (m : Move). IsNamed scratch m.dest) same dest
  more_dests (suc at) other e = rest.dests at other e

  more_sources : (at : ℕ) (other : Move) → slice_get (move ∷ moves) at ≡ Some other → IsMoveSource scratch other.from
  more_sources zero other e = let same : move ≡ other = (cc) in subst (λ (m : Move). IsMoveSource scratch m.from) same from
  more_sources (suc at) other e = rest.sources at other e

  -- no move after it has its destination
  behind_apart : (at : ℕ) (other third : Move) → slice_get (move ∷ moves) zero ≡ Some other → slice_get moves at ≡ Some third → other.dest ≢ third.dest
  behind_apart at other third e f same =
      let is : move ≡ other = (cc) in
      let dest_is : move.dest ≡ third.dest = ap (λ (m : Move). m.dest) is ∙ same in
      missing moves at third f (sym (ap (source_in moves) dest_is) ∙ once)

  more_apart : (at also : ℕ) (other third : Move) → slice_get (move ∷ moves) at ≡ Some other → slice_get (move ∷ moves) also ≡ Some third → other.dest ≡ third.dest → at ≡ also
  more_apart zero zero other third e f same = refl
  more_apart zero (suc also) other third e f same = absurd (behind_apart also other third e f same)
  more_apart (suc at) zero other third e f same = absurd (behind_apart at third other f e (sym same))
  more_apart (suc at) (suc also) other third e f same = ap suc (rest.apart at also other third e f same)

  more_moves : AreMoves scratch (move ∷ moves)
  more_moves = record { dests = more_dests; sources = more_sources; apart = more_apart }

pub given_moves : (scratch : ℕ) (moves : List Move) → are_given scratch moves ≡ true → AreMoves scratch moves
given_moves scratch [] e = record { dests = λ at other f. absurd (cc); sources = λ at other f. absurd (cc); apart = λ at also other third f g same. absurd (cc) }
given_moves scratch (move ∷ moves) e =
    let parts = and_true (is_named scratch move.dest && is_source scratch move.from) (is_none (source_in moves move.dest) && are_given scratch moves) e in
    let here = and_true (is_named scratch move.dest) (is_source scratch move.from) parts.0 in
    let behind = and_true (is_none (source_in moves move.dest)) (are_given scratch moves) parts.1 in
    more_moves scratch move moves (named scratch move.dest here.0) (sourced scratch move.from here.1) (none_of (source_in moves move.dest) behind.0) (given_moves scratch moves behind.1)
