use Rattle.std.proofs.Common.{rules, ◌≡◌, ◌<◌, ◌-◌, length, suc, sym, subst, drop, arith}
use Rattle.pc_copies.specs.Moves.{nontrivial_moves, one_names, IsArranged}
use Rattle.pc_copies.specs.Laws.{copy_row}
use Rattle.pc_machine.specs.MachineCode.{row_of}
use Rattle.pc_emit.proofs.Passings.{LeadsThrough, through_rest_of_none, through_from, through_one, row_at, along_short}
use Rattle.pc_emit.proofs.passing.move_along.Goals as goal

pub loop-at-init : goal.loop-at-init
loop-at-init c = record {
  within = omega arith;
  through = through_rest_of_none c.args.plan.now c.args.output.now c.as_slice-rows.result.now c.args.to c.requires.to;
}

pub loop-at-preserved : goal.loop-at-preserved
loop-at-preserved c =
    let rows = c.as_slice-rows.result.now in
    let some = c.loop-at-test.true in
    let within = c.loop-at.invariant.within in
    let below : c.loop-at.at - 1 < length rows = omega (arith, some, within) in
    let next : c.loop-at.at ≡ suc (c.loop-at.at - 1) = omega (arith, some) in
    let new = c.push_copies.new.self in
    let copies = c.as_slice.result.now in
    let made = c.in_ok-push_copies.ensures in
    let is : row_of c.in_ok-row.row ≡ copy_row copies c.loop-at.from = search rules in
    let before = subst
    (λ at. LeadsThrough c.args.plan.now c.args.output.now c.loop-at.output c.loop-at.from (drop at rows) c.args.to)
    next c.loop-at.invariant.through in
    record {
      within = omega (arith, within);
      through = through_from c.args.plan.now c.args.output.now new rows (c.loop-at.at - 1) copies _ c.args.to below (search rules)
          (through_one c.args.scratch c.args.moves.now c.requires.moves c.args.plan.now c.requires.left c.args.output.now c.loop-at.output new
          c.in_ok-push_copies.field-0 (row_of c.in_ok-row.row) copies (drop (suc (c.loop-at.at - 1)) rows)
          c.loop-at.from c.args.to is before made.grows made.stands
          (row_at (one_names (nontrivial_moves c.args.moves.now)) c.args.plan.now.limits.ops c.args.scratch rows (c.loop-at.at - 1) copies (search rules) below (search rules))
          made.rows made.copies made.number);
    }

pub returns-clause-short : goal.returns-clause-short
returns-clause-short c =
    let rows = c.as_slice-rows.result.now in
    let none : c.loop-at.at ≡ 0 = omega (arith, c.loop-at-test.false) in
    let through = subst
    (λ at. LeadsThrough c.args.plan.now c.args.output.now c.loop-at.output c.loop-at.from (drop at rows) c.args.to)
    none c.loop-at.invariant.through in
    let arranged = subst (IsArranged c.args.moves.now c.args.plan.now.limits.ops c.args.scratch) (sym c.as_slice-rows.ensures) c.in_ok-rows.ensures in
    along_short c.args.plan.now c.args.scratch c.args.output.now c.loop-at.output c.loop-at.from c.args.to c.args.moves.now rows through arranged
