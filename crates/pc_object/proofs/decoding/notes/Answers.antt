use Rattle.std.proofs.lemmas.Result.{err_from_is_err_and}
use Rattle.pc_object.specs.Reading.{notes_at}
use Rattle.pc_object.proofs.Loop.{notes_go_on, notes_end, notes_done}
use Rattle.pc_object.proofs.decoding.notes.Goals as goal

pub returns-in_err-note : goal.returns-in_err-note
returns-in_err-note c =
    let p = err_from_is_err_and c.from_residual.result c.from_residual.ensures.1 in
    rw (p.1, p.2) (notes_end c.in_err-note.field-0.0 c.loop.notes.items c.args.count c.loop.counter c.loop.rest.now (notes_at c.args.count c.args.bytes.now)
    c.loop-test.true c.in_err-note.ensures c.loop.invariant)

pub loop-preserved : goal.loop-preserved
loop-preserved c =
    rw c.in_ok-push.ensures.items (notes_go_on c.loop.notes.items c.args.count c.loop.counter c.loop.rest.now c.in_ok-note.note c.in_ok-note.after.now
    (notes_at c.args.count c.args.bytes.now) c.loop-test.true c.in_ok-note.ensures c.loop.invariant)

pub returns : goal.returns
returns c = notes_done c.loop.notes.items c.args.count c.loop.counter c.loop.rest.now (notes_at c.args.count c.args.bytes.now) c.loop-test.false c.loop.invariant
