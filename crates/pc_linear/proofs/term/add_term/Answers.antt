use Rattle.std.proofs.Common.{rules, ◌≡◌, ◌++◌, take, drop, ap, sym, ◌∙◌, Some, None, arith, ℕ, ℤ, List, w32, to_z, of_z}
use Rattle.std.specs.Prelude.{FitsSigned, remove, ◌+ℤ◌}
use Rattle.std.specs.Int.{int_wrap}
use Rattle.std.proofs.lemmas.Int.{int_wrap_fits, to_z-of_z}
use Rattle.pc_word.specs.Word.{word_add}
use Rattle.pc_linear.specs.declared.term.Term.{Term}
use Rattle.pc_linear.specs.Combine.{prepended}
use Rattle.pc_linear.specs.models.Places.{rank, factor_at}
use Rattle.pc_linear.proofs.Words.{word_add-is}
use Rattle.pc_linear.proofs.Places.{rank-place, rank-le, put_none, put_some}
use Rattle.pc_linear.proofs.term.add_term.Goals as goal

pub put-requires-clause-inside : goal.put-requires-clause-inside
put-requires-clause-inside c =
    let le = rank-le c.args.variable c.args.terms.now.items in
    let at : c.place_of-place.result ≡ rank c.args.variable c.args.terms.now.items = cc in
    omega arith

pub remove-requires : goal.remove-requires
remove-requires c =
    let at : c.place_of-place.result ≡ rank c.args.variable c.args.terms.now.items = cc in
    let some : factor_at c.args.variable c.args.terms.now.items ≡ Some c.in-Some.found = cc in
    let lt = rank-place c.args.variable c.args.terms.now.items c.in-Some.found some in
    (omega arith, omega arith)

pub returns-in-None : goal.returns-in-None
returns-in-None c =
    let ts = c.args.terms.now.items in
    let at : c.place_of-place.result ≡ rank c.args.variable ts = cc in
    let none : factor_at c.args.variable ts ≡ None = cc in
    c.put.ensures
    ∙ ap (λ (z : ℤ). take c.place_of-place.result ts ++ prepended c.args.variable z (drop c.place_of-place.result ts))
    (to_z-of_z w32 c.args.factor c.ranges.factor ∙ sym (int_wrap_fits w32 c.args.factor c.ranges.factor))
    ∙ ap (λ (place : ℕ). take place ts ++ prepended c.args.variable (int_wrap w32 c.args.factor) (drop place ts)) at
    ∙ put_none c.args.variable c.args.factor ts none

pub returns-in-Some : goal.returns-in-Some
returns-in-Some c =
    let ts = c.args.terms.now.items in
    let at : c.place_of-place.result ≡ rank c.args.variable ts = cc in
    let some : factor_at c.args.variable ts ≡ Some c.in-Some.found = cc in
    let fits : FitsSigned w32 c.in-Some.found = search rules in
    let sum_fits : FitsSigned w32 c.add.result = search rules in
    let sum : to_z w32 (of_z w32 c.add.result) ≡ int_wrap w32 (c.args.factor +ℤ c.in-Some.found) =
    to_z-of_z w32 c.add.result sum_fits ∙ c.add.ensures ∙ (λ i. word_add (to_z-of_z w32 c.args.factor c.ranges.factor i) (to_z-of_z w32 c.in-Some.found fits i))
    ∙ word_add-is c.args.factor c.in-Some.found in
    c.put-in-Some.ensures
    ∙ ap (λ (z : ℤ). take c.place_of-place.result c.remove.new.self.items ++ prepended c.args.variable z (drop c.place_of-place.result c.remove.new.self.items)) sum
    ∙ ap (λ (us : List Term). take c.place_of-place.result us ++ prepended c.args.variable
    (int_wrap w32 (c.args.factor +ℤ c.in-Some.found)) (drop c.place_of-place.result us)) c.remove.ensures.items
    ∙ ap (λ (place : ℕ). take place (remove ts place) ++ prepended c.args.variable (int_wrap w32 (c.args.factor +ℤ c.in-Some.found)) (drop place (remove ts place))) at
    ∙ put_some c.args.variable c.args.factor c.in-Some.found ts some
