use Rattle.std.proofs.lemmas.Result.{err_from_is_err_and}
use Rattle.pc_object.specs.Reading.{each_data_at}
use Rattle.pc_object.proofs.Loop.{each_data_goes_on, each_data_ends, each_data_done}
use Rattle.pc_object.proofs.storage.each_data.Goals as goal

pub returns-in_err-words : goal.returns-in_err-words
returns-in_err-words c =
    let p = err_from_is_err_and c.from_residual.result c.from_residual.ensures.1 in
    rw (p.1, p.2) (each_data_ends c.in_err-words.field-0.0 c.loop-length.lists.items c.args.lengths.now c.loop-length.length-index c.loop-length.rest.now
    (each_data_at c.args.lengths.now c.args.bytes.now) c.loop-length-test.true c.in_err-words.ensures c.loop-length.invariant)

pub loop-length-preserved : goal.loop-length-preserved
loop-length-preserved c =
    rw (c.in_ok-push.ensures.items, c.from_vec.ensures) (each_data_goes_on c.loop-length.lists.items c.args.lengths.now c.loop-length.length-index c.loop-length.rest.now
    c.in_ok-words.words.items c.in_ok-words.after.now
    (each_data_at c.args.lengths.now c.args.bytes.now) c.loop-length-test.true c.in_ok-words.ensures c.loop-length.invariant)

pub returns : goal.returns
returns c =
    each_data_done c.loop-length.lists.items c.args.lengths.now c.loop-length.length-index c.loop-length.rest.now
    (each_data_at c.args.lengths.now c.args.bytes.now) c.loop-length-test.false c.loop-length.invariant
