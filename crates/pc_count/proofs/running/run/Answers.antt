use Rattle.std.proofs.Common.{◌∙◌, arith}
use Rattle.pc_count.proofs.Cycles.{event-going, exit_of, few_runs, few_taken, goes, has_leaf, has_leaves, has_row, step_of, stops}
use Rattle.pc_count.proofs.running.run.Goals as goal

pub count-requires-clause-row : goal.count-requires-clause-row
count-requires-clause-row c =
    let few = few_runs _ _ _ _ _ _ _ c.loop-cycle.invariant.way c.exit-exit.result (exit_of c.loop-cycle.invariant.code c.exit-exit.ensures) c.loop-cycle-test.true in
    omega (arith, few, c.ranges.budget.fits)

pub count-requires-clause-leaf : goal.count-requires-clause-leaf
count-requires-clause-leaf c =
    let few = few_taken _ _ _ _ _ _ _ c.loop-cycle.invariant.way c.exit-exit.result (exit_of c.loop-cycle.invariant.code c.exit-exit.ensures) c.loop-cycle-test.true in
    omega (arith, few, c.ranges.budget.fits)

pub count-requires-clause-has_row : goal.count-requires-clause-has_row
count-requires-clause-has_row c =
    has_row _ _ _ _ _ _ _ c.loop-cycle.invariant.way c.exit-exit.result (exit_of c.loop-cycle.invariant.code c.exit-exit.ensures) c.loop-cycle-test.true

pub count-requires-clause-has_leaves : goal.count-requires-clause-has_leaves
count-requires-clause-has_leaves c =
    has_leaves _ _ _ _ _ _ _ c.loop-cycle.invariant.way c.exit-exit.result (exit_of c.loop-cycle.invariant.code c.exit-exit.ensures) c.loop-cycle-test.true

pub count-requires-clause-has_leaf : goal.count-requires-clause-has_leaf
count-requires-clause-has_leaf c =
    has_leaf _ _ _ _ _ _ _ c.loop-cycle.invariant.way c.exit-exit.result (exit_of c.loop-cycle.invariant.code c.exit-exit.ensures) c.loop-cycle-test.true

pub returns-in-Some-clause-counts : goal.returns-in-Some-clause-counts
returns-in-Some-clause-counts c =
    stops _ _ _ _ _ _ _ c.loop-cycle.invariant.way c.exit-exit.result (exit_of c.loop-cycle.invariant.code c.exit-exit.ensures) c.loop-cycle-test.true
    c.cycle-event.result c.cycle-event.new.self c.in-Some.end _ _ (step_of _ c.cycle-event.result c.cycle-event.new.self c.loop-cycle.invariant.code c.cycle-event.ensures.step) c.in-Some.is
    c.count.ensures.rows c.count.ensures.leaves

pub loop-cycle-preserved : goal.loop-cycle-preserved
loop-cycle-preserved c = record {
  going = event-going c.cycle-event.result c.cycle-event.new.self _ c.cycle-event.ensures.step c.in_default.is;
  code = c.cycle-event.ensures.code ∙ c.loop-cycle.invariant.code;
  way = goes _ _ _ _ _ _ _ c.loop-cycle.invariant.way c.exit-exit.result (exit_of c.loop-cycle.invariant.code c.exit-exit.ensures) c.loop-cycle-test.true
      c.cycle-event.result c.cycle-event.new.self _ _ (step_of _ c.cycle-event.result c.cycle-event.new.self c.loop-cycle.invariant.code c.cycle-event.ensures.step) c.in_default.is
      c.count.ensures.rows c.count.ensures.leaves;
}
