use Rattle.std.proofs.Common.{◌≡◌, ◌++◌, ◌∷◌, []}
use Rattle.std.proofs.lemmas.Result.{err_from_is_err_and}
use Rattle.std.proofs.lemmas.List.{map_push}
use Rattle.pc_machine.specs.MachineCode.{row_of, rows_of}
use Rattle.pc_object.specs.Reading.{rows_at}
use Rattle.pc_object.proofs.Loop.{rows_go_on, rows_end, rows_done}
use Rattle.pc_object.proofs.rows.rows.Goals as goal

pub returns-in_err-tree : goal.returns-in_err-tree
returns-in_err-tree c =
    let p = err_from_is_err_and c.from_residual.result c.from_residual.ensures.1 in
    rw (p.1, p.2) (rows_end c.in_err-tree.field-0.0 c.args.bounds.now (rows_of c.loop.rows.items) c.args.bounds.now.rows c.loop.counter c.loop.rest.now
    (rows_at c.args.bounds.now c.args.bounds.now.rows c.args.bytes.now) c.loop-test.true (rw (c.none.ensures, c.root-path.ensures) at c.in_err-tree.ensures) c.loop.invariant)

pub loop-preserved : goal.loop-preserved
loop-preserved c =
    let tree = c.in_ok-tree.tree in
    let e : rows_of c.push.new.self.items ≡ rows_of c.loop.rows.items ++ row_of tree ∷ [] = rw c.in_ok-push.ensures.items (map_push _ c.loop.rows.items tree) in
    rw e (rows_go_on c.args.bounds.now (rows_of c.loop.rows.items) c.args.bounds.now.rows c.loop.counter c.loop.rest.now (row_of tree) c.in_ok-tree.field-0-1 c.in_ok-tree.after.now
    (rows_at c.args.bounds.now c.args.bounds.now.rows c.args.bytes.now) c.loop-test.true (rw (c.none.ensures, c.root-path.ensures) at c.in_ok-tree.ensures) c.loop.invariant)

pub returns : goal.returns
returns c = rows_done c.args.bounds.now (rows_of c.loop.rows.items) c.args.bounds.now.rows c.loop.counter c.loop.rest.now
    (rows_at c.args.bounds.now c.args.bounds.now.rows c.args.bytes.now) c.loop-test.false c.loop.invariant
