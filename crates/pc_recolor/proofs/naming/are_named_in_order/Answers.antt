use Rattle.std.proofs.Common.{◌≡◌, ◌<◌, ◌≤◌, length, Some, refl, arith}
use Rattle.std.specs.Prelude.{slice_get}
use Rattle.std.proofs.lemmas.Option.{slice_get_read}
use Rattle.pc_word.proofs.Places.{map_at, map_length}
use Rattle.pc_machine.specs.MachineCode.{row_of, rows_of}
use Rattle.pc_recolor.specs.models.Recoloring.{AreNamed}
use Rattle.pc_recolor.proofs.Named.{entry_is_named, one_more_is_seen, all_are_reachable}
use Rattle.pc_recolor.proofs.naming.are_named_in_order.Goals as goal

pub loop-number-init : goal.loop-number-init
loop-number-init c = entry_is_named (rows_of c.args.rows.now)

pub loop-number-preserved : goal.loop-number-preserved
loop-number-preserved c =
    let rows = c.args.rows.now in
    let number = c.loop-number.number in
    let tree = c.index-rows-number.result in
    let below : number < length rows = c.loop-number-test.true in
    let at : slice_get rows number ≡ Some tree = slice_get_read rows (length rows) number tree refl below c.index-rows-number.is in
    let seen : number < c.loop-number.known = c.if-known-number.false in
    one_more_is_seen (rows_of rows) number c.loop-number.known c.named_after-known.result (row_of tree) c.loop-number.invariant seen
    (map_at row_of rows number tree at) c.named_after-known.ensures

pub returns : goal.returns
returns c = λ e.
    let rows = c.args.rows.now in
    let named : AreNamed (rows_of rows) c.loop-number.number c.loop-number.known = c.loop-number.invariant in
    let all : length rows ≤ c.loop-number.number = c.loop-number-test.false in
    all_are_reachable (rows_of rows) c.loop-number.number c.loop-number.known named (let long = map_length row_of rows in omega (arith, all, long))
