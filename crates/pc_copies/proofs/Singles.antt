-- One move, and the moves after it.
use Rattle.std.proofs.Common.{◌≡◌, ◌≢◌, ℕ, Bool, true, false, List, [], ◌∷◌, Some, None, refl, sym, ◌∙◌, ap}
use Rattle.std.proofs.Common.{eq-eqb, eqb-true, true≢false}
use Rattle.std.specs.Prelude.{if◌then◌else◌, nat_eq}
use Rattle.pc_word.specs.declared.item.Operand.TheVariants.{Name}
use Rattle.pc_copies.specs.declared.moves.Move.{Move}
use Rattle.pc_copies.specs.models.Sources.{source_in, IsRead, IsWritten}

-- ---- what moves write

-- a register that is not the first move's destination
pub apart_tests : (dest register : ℕ) → dest ≢ register → nat_eq dest register ≡ false
apart_tests dest register other = by_test (nat_eq dest register) refl
  where
    by_test : (b : Bool) → nat_eq dest register ≡ b → b ≡ false
    by_test true e = absurd (other (eqb-true dest register e))
    by_test false e = refl

tests_apart : (dest register : ℕ) → nat_eq dest register ≡ false → dest ≢ register
tests_apart dest register e same = true≢false (sym (eq-eqb dest register same) ∙ e)

-- one move writes its destination alone
pub one_unwritten : (move : Move) (register : ℕ) → move.dest ≢ register → source_in (move ∷ []) register ≡ None
one_unwritten move register other = ap (λ b. if b then Some move.from else None) (apart_tests move.dest register other)

pub head_written : (move : Move) (moves : List Move) → source_in (move ∷ moves) move.dest ≡ Some move.from
head_written move moves = ap (λ b. if b then Some move.from else source_in moves move.dest) (eq-eqb move.dest move.dest refl)

-- after another move the same is written
pub tail_written : (move : Move) (moves : List Move) (register : ℕ) → move.dest ≢ register → source_in (move ∷ moves) register ≡ source_in moves register
tail_written move moves register other = ap (λ b. if b then Some move.from else source_in moves register) (apart_tests move.dest register other)

-- what no move writes
pub record Unwritten (move : Move) (moves : List Move) (register : ℕ) : Type 0 where
  pub head : move.dest ≢ register
  pub tail : source_in moves register ≡ None

pub unwritten : (move : Move) (moves : List Move) (register : ℕ) → source_in (move ∷ moves) register ≡ None → Unwritten move moves register
unwritten move moves register e = by_test (nat_eq move.dest register) refl e
  where
    by_test : (b : Bool) → nat_eq move.dest register ≡ b → (if b then Some move.from else source_in moves register) ≡ None → Unwritten move moves register
    by_test true t h = absurd (cc)
    by_test false t h = record { head = tests_apart move.dest register t; tail = h }

-- what one move reads
pub one_read : (move : Move) (register : ℕ) → IsRead (source_in (move ∷ [])) register → move.from ≡ Name register
one_read move register h = by_test (nat_eq move.dest h.by) h.reads
  where
    by_test : (b : Bool) → (if b then Some move.from else None) ≡ Some (Name register) → move.from ≡ Name register
    by_test true e = cc
    by_test false e = absurd (cc)

pub head_read : (move : Move) (moves : List Move) (register : ℕ) → move.from ≡ Name register → IsRead (source_in (move ∷ moves)) register
head_read move moves register e = record { by = move.dest; reads = head_written move moves ∙ ap (λ o. Some o) e }

-- what the moves after another one read
pub tail_read : (move : Move) (moves : List Move) (register : ℕ) → source_in moves move.dest ≡ None → IsRead (source_in moves) register → IsRead (source_in (move ∷ moves)) register
tail_read move moves register once h =
    let other : move.dest ≢ h.by = λ e. let both = sym (ap (source_in moves) e) ∙ once in let reads = h.reads in absurd (cc) in
    record { by = h.by; reads = tail_written move moves h.by other ∙ h.reads }

-- and what they write
pub tail_is_written : (move : Move) (moves : List Move) (register : ℕ) → source_in moves move.dest ≡ None
    → IsWritten (source_in moves) register → IsWritten (source_in (move ∷ moves)) register
tail_is_written move moves register once h =
    let other : move.dest ≢ register = λ e. let both = sym (ap (source_in moves) e) ∙ once in let writes = h.writes in absurd (cc) in
    record { from = h.from; writes = tail_written move moves register other ∙ h.writes }

-- what one move writes
pub one_written : (move : Move) (register : ℕ) → IsWritten (source_in (move ∷ [])) register → move.dest ≡ register
one_written move register h = by_test (nat_eq move.dest register) refl h.writes
  where
    by_test : (b : Bool) → nat_eq move.dest register ≡ b → (if b then Some move.from else None) ≡ Some h.from → move.dest ≡ register
    by_test true t e = eqb-true move.dest register t
    by_test false t e = absurd (cc)
