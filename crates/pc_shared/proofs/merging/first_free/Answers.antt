use Rattle.std.proofs.Common.{rules, arith, ◌≡◌, ℕ, suc, ◌+◌, ◌<◌, ◌≤◌, Some, None, true, false, List, length, drop, refl, sym, subst}
use Rattle.std.proofs.Math.ListN.{drop_of_length-le}
use Rattle.std.proofs.lemmas.Option.{slice_get_read}
use Rattle.pc_word.proofs.Places.{drop_at}
use Rattle.pc_window.specs.Rebasing.{is_in}
use Rattle.pc_canon.specs.Pairs.{others}
use Rattle.pc_shared.specs.declared.merging.Given.{Given}
use Rattle.pc_shared.specs.models.Renaming.{pairs_in}
use Rattle.pc_shared.specs.models.Merges.{FirstFree, none_given, this_one, a_later}
use Rattle.pc_shared.proofs.merging.first_free.Goals as goal

pub returns-then-is_free : goal.returns-then-is_free
returns-then-is_free c =
    let given = c.args.given.now in
    let one = c.one-item.result in
    let above = others (pairs_in c.args.names.now) in
    let within : c.loop-one.one-index < length given = search rules in
    let rest = drop_at given c.loop-one.one-index one (slice_get_read given (length given) c.loop-one.one-index one refl within c.one-item.is) in
    let same : one.definition ≡ c.args.definition.now = c.is_free.ensures.free c.if-is_free.true in
    let apart : is_in one.name above ≡ false = c.is_free.ensures.apart c.if-is_free.true in
    c.loop-one.invariant (Some one.name)
    (subst (λ (list : List Given). FirstFree above c.args.definition.now list (Some one.name)) (sym rest) (this_one {one = one} same apart))

pub loop-one-preserved : goal.loop-one-preserved
loop-one-preserved c = λ found free.
    let given = c.args.given.now in
    let one = c.one-item.result in
    let above = others (pairs_in c.args.names.now) in
    let within : c.loop-one.one-index < length given = search rules in
    let rest = drop_at given c.loop-one.one-index one (slice_get_read given (length given) c.loop-one.one-index one refl within c.one-item.is) in
    let taken : one.definition ≡ c.args.definition.now → is_in one.name above ≡ true = c.is_free.ensures.taken c.if-is_free.false in
    let next : c.loop-one.one-index + 1 ≡ suc c.loop-one.one-index = omega arith in
    let behind = subst (λ (n : ℕ). FirstFree above c.args.definition.now (drop n given) found) next free in
    c.loop-one.invariant found
    (subst (λ (list : List Given). FirstFree above c.args.definition.now list found) (sym rest) (a_later {one = one} taken behind))

pub returns : goal.returns
returns c =
    let given = c.args.given.now in
    let past : length given ≤ c.loop-one.one-index = search rules in
    c.loop-one.invariant None
    (subst (λ (list : List Given). FirstFree (others (pairs_in c.args.names.now)) c.args.definition.now list None)
    (sym (drop_of_length-le given past)) none_given)
