use Rattle.std.proofs.Common.{rules, slice_index_or, ap, sym, ◌∙◌, ◌≡◌, ◌≢◌, ◌<◌, ◌≤◌, length, Some, arith, ℤ, ℕ, w32, pos}
use Rattle.std.specs.Prelude.{FitsSigned}
use Rattle.std.proofs.lemmas.Int.{to_z-of_z}
use Rattle.pc_linear.specs.declared.term.Term.{Term}
use Rattle.pc_linear.specs.models.Places.{rank}
use Rattle.pc_linear.proofs.Places.{none_past_end, some_there, none_there}
use Rattle.pc_linear.proofs.term.factor_at.Goals as goal

pub returns-then-place-terms : goal.returns-then-place-terms
returns-then-place-terms c =
    let past : length c.args.terms.now ≤ rank c.args.variable c.args.terms.now = omega (arith, c.requires, c.if-place-terms.true) in
    sym (none_past_end c.args.variable c.args.terms.now past)

pub returns-then-terms-place : goal.returns-then-terms-place
returns-then-terms-place c =
    let blank : Term = record { variable = 0; factor = pos 0 } in
    let fits : FitsSigned w32 (slice_index_or c.args.terms.now c.args.place blank).factor = search rules in
    let within : rank c.args.variable c.args.terms.now < length c.args.terms.now = omega (arith, c.requires) in
    let there : (slice_index_or c.args.terms.now (rank c.args.variable c.args.terms.now) blank).variable ≡ c.args.variable = rw (sym c.requires) c.if-terms-place.true in
    ap (λ (z : ℤ). Some z) (to_z-of_z w32 _ fits ∙ ap (λ (place : ℕ). (slice_index_or c.args.terms.now place blank).factor) c.requires)
    ∙ sym (some_there c.args.variable c.args.terms.now blank within there)

pub returns-else-terms-place : goal.returns-else-terms-place
returns-else-terms-place c =
    let blank : Term = record { variable = 0; factor = pos 0 } in
    let within : rank c.args.variable c.args.terms.now < length c.args.terms.now = omega (arith, c.requires) in
    let other : (slice_index_or c.args.terms.now (rank c.args.variable c.args.terms.now) blank).variable ≢ c.args.variable = rw (sym c.requires) c.if-terms-place.false in
    sym (none_there c.args.variable c.args.terms.now blank within other)
