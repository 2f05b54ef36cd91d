use Rattle.std.proofs.Common.{rules, w32, SFits}
use Rattle.std.proofs.lemmas.Int.{to_z-of_z}
use Rattle.std.proofs.lemmas.Result.{err_from_is_err_and}
use Rattle.pc_object.specs.Reading.{words_at}
use Rattle.pc_object.proofs.Loop.{words_go_on, words_end, words_done}
use Rattle.pc_object.proofs.storage.words.Goals as goal

pub returns-in_err-word : goal.returns-in_err-word
returns-in_err-word c =
    let p = err_from_is_err_and c.from_residual.result c.from_residual.ensures.1 in
    rw (p.1, p.2) (words_end c.in_err-word.field-0.0 c.loop-place.words.items c.args.count c.loop-place.place c.loop-place.rest.now (words_at c.args.count c.args.bytes.now)
    c.loop-place-test.true c.in_err-word.ensures c.loop-place.invariant)

pub loop-place-preserved : goal.loop-place-preserved
loop-place-preserved c =
    let fits : SFits w32 c.in_ok-word.word = search rules in
    rw (c.in_ok-push.ensures.items, to_z-of_z w32 c.in_ok-word.word fits)
    (words_go_on c.loop-place.words.items c.args.count c.loop-place.place c.loop-place.rest.now c.in_ok-word.word c.in_ok-word.after.now
    (words_at c.args.count c.args.bytes.now) c.loop-place-test.true c.in_ok-word.ensures c.loop-place.invariant)

pub returns : goal.returns
returns c = words_done c.loop-place.words.items c.args.count c.loop-place.place c.loop-place.rest.now (words_at c.args.count c.args.bytes.now) c.loop-place-test.false c.loop-place.invariant
