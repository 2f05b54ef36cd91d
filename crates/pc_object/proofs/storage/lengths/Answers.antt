use Rattle.std.proofs.lemmas.Result.{err_from_is_err_and}
use Rattle.pc_object.specs.Reading.{lengths_at}
use Rattle.pc_object.proofs.Loop.{lengths_go_on, lengths_end, lengths_flawed, lengths_done, few_with}
use Rattle.pc_object.proofs.storage.lengths.Goals as goal

pub returns-in_err-length : goal.returns-in_err-length
returns-in_err-length c =
    let p = err_from_is_err_and c.from_residual.result c.from_residual.ensures.1 in
    rw (p.1, p.2) (lengths_end c.in_err-length.field-0.0 c.loop.lengths.items c.args.count c.loop.counter c.loop.elements c.loop.rest.now (lengths_at c.args.count 0 c.args.bytes.now)
    c.loop-test.true c.in_err-length.ensures c.loop.invariant.so_far)

pub returns-in_err-elements : goal.returns-in_err-elements
returns-in_err-elements c =
    let p = err_from_is_err_and c.from_residual-in_err-elements.result c.from_residual-in_err-elements.ensures.1 in
    rw (p.1, p.2) (lengths_flawed c.in_err-elements.field-0.0 c.loop.lengths.items c.args.count c.loop.counter c.loop.elements c.loop.rest.now c.in_ok-length.length c.in_ok-length.after.now
    (lengths_at c.args.count 0 c.args.bytes.now) c.loop-test.true c.in_ok-length.ensures
    (rw c.array_length.ensures at c.in_err-elements.ensures) c.loop.invariant.so_far)

pub loop-preserved : goal.loop-preserved
loop-preserved c =
    let fine = rw c.array_length.ensures at c.in_ok-elements.ensures in
    record {
      so_far = rw c.in_ok-push.ensures.items (lengths_go_on c.loop.lengths.items c.args.count c.loop.counter c.loop.elements c.loop.rest.now c.in_ok-length.length c.in_ok-elements.elements
          c.in_ok-length.after.now
          (lengths_at c.args.count 0 c.args.bytes.now) c.loop-test.true c.in_ok-length.ensures fine c.loop.invariant.so_far);
      few = few_with c.loop.rest.now c.loop.elements c.in_ok-length.length c.in_ok-elements.elements fine;
    }

pub returns : goal.returns
returns c = lengths_done c.loop.lengths.items c.args.count c.loop.counter c.loop.elements c.loop.rest.now (lengths_at c.args.count 0 c.args.bytes.now) c.loop-test.false c.loop.invariant.so_far
