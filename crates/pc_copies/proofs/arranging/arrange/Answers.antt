use Rattle.std.proofs.Common.{◌∙◌, ap, arith, length}
use Rattle.std.specs.Prelude.{List}
use Rattle.pc_copies.specs.declared.moves.Move.{Move}
use Rattle.pc_copies.specs.models.Arranging.{if_any}
use Rattle.pc_copies.proofs.Arranged.{arranged, arranged_in_one}
use Rattle.pc_copies.proofs.arranging.arrange.Goals as goal

pub returns-then-len-ops : goal.returns-then-len-ops
returns-then-len-ops c =
    let many = ap (λ (l : List Move). length l) c.in_ok-kept.ensures in
    rw (c.in_ok-one_row.ensures ∙ ap if_any c.in_ok-kept.ensures)
    (arranged_in_one c.args.moves.now c.args.ops c.args.scratch c.requires.moves (omega (arith, many, c.len.ensures, c.from-ops.ensures, c.if-len-ops.true)))

pub returns : goal.returns
returns c =
    let many = ap (λ (l : List Move). length l) c.in_ok-kept.ensures in
    let packed = rw (c.as_slice.ensures, c.in_ok-kept.ensures, c.from-ops.ensures, c.from.ensures) at c.in_ok-packing.ensures in
    rw c.in_ok-in_order.ensures
    (arranged c.args.moves.now c.args.ops c.args.scratch c.in_ok-packing.packing.rows c.in_ok-packing.packing.first c.requires.moves c.requires.ops
    (omega (arith, many, c.len.ensures, c.from-ops.ensures, c.if-len-ops.false)) packed)
