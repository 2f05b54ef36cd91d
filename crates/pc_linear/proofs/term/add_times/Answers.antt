use Rattle.std.proofs.Common.{rules, ◌≡◌, ◌+◌, ◌<◌, ◌∙◌, sym, ap, arith, drop, length, slice_index_or, List, ℤ, pos, w32, to_z, of_z}
use Rattle.std.specs.Prelude.{◌*ℤ◌, FitsSigned}
use Rattle.std.specs.Int.{int_wrap}
use Rattle.std.proofs.lemmas.Int.{to_z-of_z}
use Rattle.std.proofs.lemmas.List.{at_drop_more}
use Rattle.pc_word.specs.Word.{word_mul}
use Rattle.pc_linear.specs.declared.term.Term.{Term}
use Rattle.pc_linear.specs.Combine.{add_term, add_times}
use Rattle.pc_linear.proofs.Words.{wrap_same, word_mul-is}
use Rattle.pc_linear.proofs.Normal.{add_term-same, add_term-length}
use Rattle.pc_linear.proofs.term.add_times.Goals as goal

-- the term that was added stood first among those that were left
pub loop-term-preserved : goal.loop-term-preserved
loop-term-preserved c =
    let more = c.args.more.now in
    let at = c.loop-term.term-index in
    let blank : Term = record { variable = 0; factor = pos 0 } in
    let term : Term = slice_index_or more at blank in
    let before = c.loop-term.terms.items in
    let number : ℤ = to_z w32 (of_z w32 c.args.number) in
    let fits : FitsSigned w32 term.factor = search rules in
    let product_fits : FitsSigned w32 c.mul.result = search rules in
    let lt : at < length more = omega (arith, c.loop-term-test.true) in
    let added : c.add_term.new.terms.items ≡ add_term term.variable (number *ℤ term.factor) before =
    c.add_term.ensures
    ∙ ap (λ (z : ℤ). add_term term.variable z before)
    (to_z-of_z w32 c.mul.result product_fits ∙ c.mul.ensures ∙ (λ i. word_mul number (to_z-of_z w32 term.factor fits i)) ∙ word_mul-is number term.factor)
    ∙ add_term-same term.variable (int_wrap w32 (number *ℤ term.factor)) (number *ℤ term.factor) before (wrap_same (number *ℤ term.factor)) in
    let longer = add_term-length term.variable (number *ℤ term.factor) before in
    let shorter = at_drop_more (λ (ts : List Term). length ts) more at blank lt in
    let room = c.loop-term.invariant.room in
    record {
      room = rw added (omega (arith, longer, shorter, room));
      sum = ap (λ (us : List Term). add_times number (drop (at + 1) more) us) added
          ∙ sym (at_drop_more (λ (ts : List Term). add_times number ts before) more at blank lt) ∙ c.loop-term.invariant.sum;
    }
