-- Facts, openings, steps and entries that are read are those that were written, and such ones that were written are read again.
use Rattle.std.proofs.Common.{◌≡◌, ℕ, zero, suc, ◌+◌, ◌^◌, ◌<◌, ◌≤◌, ℤ, Bool, true, false, cond, eqb, List, [], ◌∷◌, ◌++◌}
use Rattle.std.proofs.Common.{Option, Some, None, Ok, refl, sym, ap, subst, ◌∙◌, append_assoc, arith}
use Rattle.std.specs.Int.{w16, w32}
use Rattle.std.proofs.lemmas.Bool.{eqb-true}
use Rattle.std.proofs.lemmas.Bool.Decides.{nat_tests}
use Rattle.pc_object.specs.ObjectText.{u16_text, u32_text, word_text}
use Rattle.pc_object.proofs.FieldLaws.{IsBytes, IsBytes-rest, Takes, Takes-then}
use Rattle.pc_cert.specs.declared.certificate.Source.{Source}
use Rattle.pc_cert.specs.declared.certificate.Source.TheVariants as sources
use Rattle.pc_cert.specs.declared.certificate.WindowOperand.{WindowOperand}
use Rattle.pc_cert.specs.declared.certificate.WindowOperand.TheVariants as operands
use Rattle.pc_cert.specs.declared.certificate.Fact.{Fact}
use Rattle.pc_cert.specs.declared.certificate.Opening.{Opening}
use Rattle.pc_cert.specs.declared.certificate.Step.{Step}
use Rattle.pc_cert.specs.declared.certificate.Step.TheVariants.{Bring, Join, Open, Enter, Use}
use Rattle.pc_cert.specs.declared.certificate.Entry.{Entry}
use Rattle.pc_cert.specs.CertificateText.{source_text, operand_text, fact_text, opening_byte, loop_text, opening_text, step_text, facts_text, steps_text, entry_text}
use Rattle.pc_cert.specs.CertificateText.{IsLoop, IsOpening, IsEntry}
use Rattle.pc_cert.specs.Numbers.{SourceFits, OperandFits, FactFits, StepFits, EntryFits}
use Rattle.pc_cert.specs.Reading.{◌>>=◌, byte_at, number_at, word_at, source_at, operand_at, fact_at, start_of, loop_of, known, opening_at, step_at, counted_at, entry_at}
use Rattle.pc_cert.proofs.ReadTexts.{IsReadOf, ReadsTexts, Takes-tag, bind_ok, ok_is, half_reads, whole_reads, word_reads, byte_takes, counted_reads}

-- ---- one field and what is made of it

-- what is read where one number is the whole
half_then : {A : Type 0} (make : ℕ → A) (bytes : List ℕ) (read : A × List ℕ) → IsBytes bytes → (number_at w16 bytes >>= λ n. Ok (make n.0, n.1)) ≡ Ok read
    → (n : ℕ) × Takes bytes (u16_text n) read.1 × (n < 2 ^ 16) × (make n ≡ read.0)
half_then make bytes read fits e =
    let a = bind_ok (number_at w16 bytes) (λ n. Ok (make n.0, n.1)) read e in
    let t = half_reads.takes bytes a.0 fits a.1 in
    let is : (make a.0.0, a.0.1) ≡ read = ok_is (make a.0.0, a.0.1) read a.2 in
    (a.0.0, subst (λ (y : List ℕ). Takes bytes (u16_text a.0.0) y) (ap (λ (y : _ × List ℕ). y.1) is) t.0, t.1, ap (λ (y : _ × List ℕ). y.0) is)

-- the same of a word
word_then : {A : Type 0} (make : ℤ → A) (bytes : List ℕ) (read : A × List ℕ) → IsBytes bytes → (word_at bytes >>= λ z. Ok (make z.0, z.1)) ≡ Ok read
    → (z : ℤ) × Takes bytes (word_text z) read.1 × SourceFits (sources.Literal z) × (make z ≡ read.0)
word_then make bytes read fits e =
    let a = bind_ok (word_at bytes) (λ z. Ok (make z.0, z.1)) read e in
    let t = word_reads.takes bytes a.0 fits a.1 in
    let is : (make a.0.0, a.0.1) ≡ read = ok_is (make a.0.0, a.0.1) read a.2 in
    (a.0.0, subst (λ (y : List ℕ). Takes bytes (word_text a.0.0) y) (ap (λ (y : _ × List ℕ). y.1) is) t.0, t.1, ap (λ (y : _ × List ℕ). y.0) is)

-- ---- facts

source_takes : (bytes : List ℕ) (read : Source × List ℕ) → IsBytes bytes → source_at bytes ≡ Ok read → IsReadOf source_text SourceFits bytes read
unfolding source_at
source_takes [] read fits e = absurd cc
source_takes (zero ∷ rest) read fits e =
    let a = bind_ok (byte_at rest) (λ register. Ok (sources.Register register.0, register.1)) read e in
    let t = byte_takes rest a.0 (IsBytes-rest 0 rest fits) a.1 in
    let made : Source × List ℕ = (sources.Register a.0.0, a.0.1) in
    subst (IsReadOf source_text SourceFits (0 ∷ rest)) (ok_is made read a.2) (Takes-tag 0 rest (a.0.0 ∷ []) a.0.1 t.0, t.1)
source_takes (suc zero ∷ rest) read fits e =
    let t = word_then sources.Literal rest read (IsBytes-rest 1 rest fits) e in
    subst (λ (x : Source). Takes (1 ∷ rest) (source_text x) read.1 × SourceFits x) t.3 (Takes-tag 1 rest (word_text t.0) read.1 t.1, t.2)
source_takes (suc (suc tag) ∷ rest) read fits e = absurd cc

source_again : (x : Source) (rest : List ℕ) → SourceFits x → source_at (source_text x ++ rest) ≡ Ok (x, rest)
unfolding source_at
source_again (sources.Register register) rest fits = refl
source_again (sources.Literal value) rest fits = rw (word_reads.again value rest fits) refl

source_reads : ReadsTexts source_text SourceFits source_at
source_reads = record { takes = source_takes; again = source_again }

operand_takes : (bytes : List ℕ) (read : WindowOperand × List ℕ) → IsBytes bytes → operand_at bytes ≡ Ok read → IsReadOf operand_text OperandFits bytes read
unfolding operand_at
operand_takes [] read fits e = absurd cc
operand_takes (zero ∷ rest) read fits e =
    let t = half_then operands.Parameter rest read (IsBytes-rest 0 rest fits) e in
    subst (λ (x : WindowOperand). Takes (0 ∷ rest) (operand_text x) read.1 × OperandFits x) t.3 (Takes-tag 0 rest (u16_text t.0) read.1 t.1, t.2)
operand_takes (suc zero ∷ rest) read fits e =
    let t = word_then operands.Literal rest read (IsBytes-rest 1 rest fits) e in
    subst (λ (x : WindowOperand). Takes (1 ∷ rest) (operand_text x) read.1 × OperandFits x) t.3 (Takes-tag 1 rest (word_text t.0) read.1 t.1, t.2)
operand_takes (suc (suc tag) ∷ rest) read fits e = absurd cc

operand_again : (x : WindowOperand) (rest : List ℕ) → OperandFits x → operand_at (operand_text x ++ rest) ≡ Ok (x, rest)
unfolding operand_at
operand_again (operands.Parameter parameter) rest fits = rw (half_reads.again parameter rest fits) refl
operand_again (operands.Literal value) rest fits = rw (word_reads.again value rest fits) refl

operand_reads : ReadsTexts operand_text OperandFits operand_at
operand_reads = record { takes = operand_takes; again = operand_again }

pub fact_reads : ReadsTexts fact_text FactFits fact_at
unfolding fact_at
fact_reads = record {
  takes = λ bytes read fits e.
      let a = bind_ok (source_at bytes) (λ source. operand_at source.1 >>= λ operand. Ok (record { source = source.0; operand = operand.0 }, operand.1)) read e in
      let b = bind_ok (operand_at a.0.1) (λ operand. Ok (record { source = a.0.0; operand = operand.0 }, operand.1)) read a.2 in
      let t = source_reads.takes bytes a.0 fits a.1 in
      let o = operand_reads.takes a.0.1 b.0 t.0.rest_fits b.1 in
      let made : Fact × List ℕ = (record { source = a.0.0; operand = b.0.0 }, b.0.1) in
      subst (IsReadOf fact_text FactFits bytes) (ok_is made read b.2)
      (Takes-then bytes (source_text a.0.0) a.0.1 (operand_text b.0.0) b.0.1 t.0 o.0, record { source = t.1; operand = o.1 });
  again = λ fact rest fits.
      ap fact_at (append_assoc (source_text fact.source) (operand_text fact.operand) rest)
      ∙ rw (source_reads.again fact.source (operand_text fact.operand ++ rest) fits.source, operand_reads.again fact.operand rest fits.operand) refl;
}

-- ---- how a window begins

-- what a byte tells is told by that byte, and its window has at most eight iterations
start_is : (byte : ℕ) (start : Bool × ℕ) → start_of byte ≡ Some start → (cond start.0 (16 + start.1) start.1 ≡ byte) × (start.1 ≤ 8)
start_is byte start e = grind (arith, nat_tests)

start_again : (enters : Bool) (window : ℕ) → window ≤ 8 → start_of (cond enters (16 + window) window) ≡ Some (enters, window)
start_again true window few = grind (arith, nat_tests)
start_again false window few = grind (arith, nat_tests)

-- the loop of a number has this number, and is none of FFFF
loop_is : (number : ℕ) → number < 2 ^ 16 → (loop_text (loop_of number) ≡ u16_text number) × IsLoop (loop_of number)
loop_is number fits = split (eqb number 0xFFFF) refl
  where
    split : (b : Bool) → eqb number 0xFFFF ≡ b → (loop_text (cond b None (Some number)) ≡ u16_text number) × IsLoop (cond b None (Some number))
    split true is = (ap u16_text (sym (eqb-true _ _ is)), tt)
    split false is = (refl, grind (arith, nat_tests))

-- the number that a loop is written as
abbrev loop_number : Option ℕ → ℕ
loop_number (Some inside) = inside
loop_number None = 0xFFFF

loop_again : (inside : Option ℕ) → IsLoop inside → (u16_text (loop_number inside) ≡ loop_text inside) × (loop_number inside < 2 ^ 16) × (loop_of (loop_number inside) ≡ inside)
loop_again (Some inside) fits = (refl, omega (arith, fits), grind (arith, nat_tests))
loop_again None fits = (refl, omega arith, refl)

-- what a byte that is known tells
known_ok : {A : Type 0} (bytes : List ℕ) (o : Option A) (x : A) → known bytes o ≡ Ok x → o ≡ Some x
known_ok bytes (Some y) x e = cc
known_ok bytes None x e = absurd cc

abbrev opening_of : Bool × ℕ → Option ℕ → Opening
opening_of start inside = record { enters = start.0; window = start.1; inside = inside }

pub opening_reads : ReadsTexts opening_text IsOpening opening_at
unfolding opening_at
opening_reads = record {
  takes = λ bytes read fits e.
      let a = bind_ok (byte_at bytes) (λ first. known bytes (start_of first.0) >>= λ start. number_at w16 first.1 >>= λ inside. Ok (opening_of start (loop_of inside.0), inside.1)) read e in
      let b = bind_ok (known bytes (start_of a.0.0)) (λ start. number_at w16 a.0.1 >>= λ inside. Ok (opening_of start (loop_of inside.0), inside.1)) read a.2 in
      let c = bind_ok (number_at w16 a.0.1) (λ inside. Ok (opening_of b.0 (loop_of inside.0), inside.1)) read b.2 in
      let first = byte_takes bytes a.0 fits a.1 in
      let start = start_is a.0.0 b.0 (known_ok bytes (start_of a.0.0) b.0 b.1) in
      let number = half_reads.takes a.0.1 c.0 first.0.rest_fits c.1 in
      let inside = loop_is c.0.0 number.1 in
      let text : Takes bytes (opening_byte (opening_of b.0 (loop_of c.0.0)) ∷ []) a.0.1 = subst (λ (n : ℕ). Takes bytes (n ∷ []) a.0.1) (sym start.0) first.0 in
      let loop_part : Takes a.0.1 (loop_text (loop_of c.0.0)) c.0.1 = subst (λ (t : List ℕ). Takes a.0.1 t c.0.1) (sym inside.0) number.0 in
      let made : Opening × List ℕ = (opening_of b.0 (loop_of c.0.0), c.0.1) in
      subst (IsReadOf opening_text IsOpening bytes) (ok_is made read c.2)
      (Takes-then bytes (opening_byte made.0 ∷ []) a.0.1 (loop_text (loop_of c.0.0)) c.0.1 text loop_part, record { window = start.1; inside = inside.1 });
  again = λ opening rest fits.
      let inside = loop_again opening.inside fits.inside in
      rw (start_again opening.enters opening.window fits.window, ← inside.0, half_reads.again (loop_number opening.inside) rest inside.1, inside.2) refl;
}

-- ---- steps

step_takes : (bytes : List ℕ) (read : Step × List ℕ) → IsBytes bytes → step_at bytes ≡ Ok read → IsReadOf step_text StepFits bytes read
unfolding step_at
step_takes [] read fits e = absurd cc
step_takes (zero ∷ rest) read fits e = absurd cc
step_takes (suc zero ∷ rest) read fits e =
    let t = half_then Bring rest read (IsBytes-rest 1 rest fits) e in
    subst (λ (x : Step). Takes (1 ∷ rest) (step_text x) read.1 × StepFits x) t.3 (Takes-tag 1 rest (u16_text t.0) read.1 t.1, t.2)
step_takes (suc (suc zero) ∷ rest) read fits e =
    let a = bind_ok (number_at w16 rest) (λ branch. number_at w16 branch.1 >>= λ on_yes. number_at w16 on_yes.1 >>= λ on_no. Ok (Join branch.0 on_yes.0 on_no.0, on_no.1)) read e in
    let b = bind_ok (number_at w16 a.0.1) (λ on_yes. number_at w16 on_yes.1 >>= λ on_no. Ok (Join a.0.0 on_yes.0 on_no.0, on_no.1)) read a.2 in
    let first = half_reads.takes rest a.0 (IsBytes-rest 2 rest fits) a.1 in
    let second = half_reads.takes a.0.1 b.0 first.0.rest_fits b.1 in
    let third = half_then (Join a.0.0 b.0.0) b.0.1 read second.0.rest_fits b.2 in
    let sides = Takes-then a.0.1 (u16_text b.0.0) b.0.1 (u16_text third.0) read.1 second.0 third.1 in
    let all = Takes-then rest (u16_text a.0.0) a.0.1 (u16_text b.0.0 ++ u16_text third.0) read.1 first.0 sides in
    subst (λ (x : Step). Takes (2 ∷ rest) (step_text x) read.1 × StepFits x) third.3
    (Takes-tag 2 rest (u16_text a.0.0 ++ (u16_text b.0.0 ++ u16_text third.0)) read.1 all, (first.1, second.1, third.2))
step_takes (suc (suc (suc zero)) ∷ rest) read fits e =
    let t = half_then Open rest read (IsBytes-rest 3 rest fits) e in
    subst (λ (x : Step). Takes (3 ∷ rest) (step_text x) read.1 × StepFits x) t.3 (Takes-tag 3 rest (u16_text t.0) read.1 t.1, t.2)
step_takes (suc (suc (suc (suc zero))) ∷ rest) read fits e =
    let t = half_then Enter rest read (IsBytes-rest 4 rest fits) e in
    subst (λ (x : Step). Takes (4 ∷ rest) (step_text x) read.1 × StepFits x) t.3 (Takes-tag 4 rest (u16_text t.0) read.1 t.1, t.2)
step_takes (suc (suc (suc (suc (suc zero)))) ∷ rest) read fits e =
    let a = bind_ok (number_at w16 rest) (λ copy. number_at w16 copy.1 >>= λ place. Ok (Use copy.0 place.0, place.1)) read e in
    let first = half_reads.takes rest a.0 (IsBytes-rest 5 rest fits) a.1 in
    let second = half_then (Use a.0.0) a.0.1 read first.0.rest_fits a.2 in
    let all = Takes-then rest (u16_text a.0.0) a.0.1 (u16_text second.0) read.1 first.0 second.1 in
    subst (λ (x : Step). Takes (5 ∷ rest) (step_text x) read.1 × StepFits x) second.3
    (Takes-tag 5 rest (u16_text a.0.0 ++ u16_text second.0) read.1 all, (first.1, second.2))
step_takes (suc (suc (suc (suc (suc (suc tag))))) ∷ rest) read fits e = absurd cc

step_again : (x : Step) (rest : List ℕ) → StepFits x → step_at (step_text x ++ rest) ≡ Ok (x, rest)
unfolding step_at
step_again (Bring place) rest fits = rw (half_reads.again place rest fits) refl
step_again (Join branch on_yes on_no) rest fits =
    ap (λ (t : List ℕ). step_at (2 ∷ t)) (append_assoc (u16_text branch) (u16_text on_yes ++ u16_text on_no) rest
    ∙ ap (λ (t : List ℕ). u16_text branch ++ t) (append_assoc (u16_text on_yes) (u16_text on_no) rest))
    ∙ rw (half_reads.again branch (u16_text on_yes ++ (u16_text on_no ++ rest)) fits.0, half_reads.again on_yes (u16_text on_no ++ rest) fits.1, half_reads.again on_no rest fits.2) refl
step_again (Open leaf) rest fits = rw (half_reads.again leaf rest fits) refl
step_again (Enter leaf) rest fits = rw (half_reads.again leaf rest fits) refl
step_again (Use copy place) rest fits =
    ap (λ (t : List ℕ). step_at (5 ∷ t)) (append_assoc (u16_text copy) (u16_text place) rest)
    ∙ rw (half_reads.again copy (u16_text place ++ rest) fits.0, half_reads.again place rest fits.1) refl

pub step_reads : ReadsTexts step_text StepFits step_at
step_reads = record { takes = step_takes; again = step_again }

-- ---- entries

-- an entry that may be written, and whose numbers have a text of their own
pub record IsWritten (entry : Entry) : Type 0 where
  pub may : IsEntry entry
  pub fits : EntryFits entry

abbrev entry_of : (row rank : ℕ) → List Fact → Opening → List Step → Entry
entry_of row rank facts opening steps = record { row = row; rank = rank; facts = facts; opening = opening; steps = steps }

entry_takes : (bytes : List ℕ) (read : Entry × List ℕ) → IsBytes bytes → entry_at bytes ≡ Ok read → IsReadOf entry_text IsWritten bytes read
unfolding entry_at
entry_takes bytes read fits e =
    let a = bind_ok (number_at w32 bytes) (λ row. number_at w32 row.1 >>= λ rank. counted_at fact_at rank.1 >>= λ facts. opening_at facts.1 >>= λ opening.
    counted_at step_at opening.1 >>= λ steps. Ok (entry_of row.0 rank.0 facts.0 opening.0 steps.0, steps.1)) read e in
    let b = bind_ok (number_at w32 a.0.1) (λ rank. counted_at fact_at rank.1 >>= λ facts. opening_at facts.1 >>= λ opening.
    counted_at step_at opening.1 >>= λ steps. Ok (entry_of a.0.0 rank.0 facts.0 opening.0 steps.0, steps.1)) read a.2 in
    let c = bind_ok (counted_at fact_at b.0.1) (λ facts. opening_at facts.1 >>= λ opening.
    counted_at step_at opening.1 >>= λ steps. Ok (entry_of a.0.0 b.0.0 facts.0 opening.0 steps.0, steps.1)) read b.2 in
    let d = bind_ok (opening_at c.0.1) (λ opening. counted_at step_at opening.1 >>= λ steps. Ok (entry_of a.0.0 b.0.0 c.0.0 opening.0 steps.0, steps.1)) read c.2 in
    let f = bind_ok (counted_at step_at d.0.1) (λ steps. Ok (entry_of a.0.0 b.0.0 c.0.0 d.0.0 steps.0, steps.1)) read d.2 in
    let ta = whole_reads.takes bytes a.0 fits a.1 in
    let tb = whole_reads.takes a.0.1 b.0 ta.0.rest_fits b.1 in
    let tc = (counted_reads fact_reads).takes b.0.1 c.0 tb.0.rest_fits c.1 in
    let td = opening_reads.takes c.0.1 d.0 tc.0.rest_fits d.1 in
    let tf = (counted_reads step_reads).takes d.0.1 f.0 td.0.rest_fits f.1 in
    let tdf = Takes-then c.0.1 (opening_text d.0.0) d.0.1 (steps_text f.0.0) f.0.1 td.0 tf.0 in
    let tcf = Takes-then b.0.1 (facts_text c.0.0) c.0.1 (opening_text d.0.0 ++ steps_text f.0.0) f.0.1 tc.0 tdf in
    let tbf = Takes-then a.0.1 (u32_text b.0.0) b.0.1 (facts_text c.0.0 ++ (opening_text d.0.0 ++ steps_text f.0.0)) f.0.1 tb.0 tcf in
    let made : Entry × List ℕ = (entry_of a.0.0 b.0.0 c.0.0 d.0.0 f.0.0, f.0.1) in
    subst (IsReadOf entry_text IsWritten bytes) (ok_is made read f.2) (
      Takes-then bytes (u32_text a.0.0) a.0.1 (u32_text b.0.0 ++ (facts_text c.0.0 ++ (opening_text d.0.0 ++ steps_text f.0.0))) f.0.1 ta.0 tbf,
      record {
        may = record { few_facts = tc.1.1; few_steps = tf.1.1; opening = td.1 };
        fits = record { row = ta.1; rank = tb.1; facts = tc.1.0; steps = tf.1.0 };
      },
    )

entry_again : (entry : Entry) (rest : List ℕ) → IsWritten entry → entry_at (entry_text entry ++ rest) ≡ Ok (entry, rest)
unfolding entry_at
entry_again entry rest written =
    let last = steps_text entry.steps ++ rest in
    let fourth = opening_text entry.opening ++ last in
    let third = facts_text entry.facts ++ fourth in
    let regrouped : entry_text entry ++ rest ≡ u32_text entry.row ++ (u32_text entry.rank ++ third) = simp append_assoc in
    ap entry_at regrouped ∙ rw (
      whole_reads.again entry.row (u32_text entry.rank ++ third) written.fits.row,
      whole_reads.again entry.rank third written.fits.rank,
      (counted_reads fact_reads).again entry.facts fourth (written.fits.facts, written.may.few_facts),
      opening_reads.again entry.opening last written.may.opening,
      (counted_reads step_reads).again entry.steps rest (written.fits.steps, written.may.few_steps),
    ) refl

pub entry_reads : ReadsTexts entry_text IsWritten entry_at
entry_reads = record { takes = entry_takes; again = entry_again }
