use Rattle.std.proofs.Common.{◌<◌, ◌≤◌, ◌∙◌, sym, arith}
use Rattle.pc_assembly.specs.models.Tables.{names_in}
use Rattle.pc_assembly.specs.Text.{lines_of}
use Rattle.pc_assembly.specs.Names.{most_row}
use Rattle.pc_assembly.proofs.NameSteps.{names_step, names_full, rows_few}
use Rattle.pc_assembly.proofs.names.names_of.Goals as goal

-- no row is left that may have a name
pub returns-then-rows-gt-MOST_ROW-clause-names : goal.returns-then-rows-gt-MOST_ROW-clause-names
returns-then-rows-gt-MOST_ROW-clause-names c =
    let now = c.loop-rest in
    let many : most_row < now.rows = omega (arith, c.if-rows-gt-MOST_ROW.true) in
    sym (names_full (names_in now.names) now.rows (lines_of now.rest.now) many) ∙ now.invariant.so_far

-- one line more
pub loop-rest-preserved : goal.loop-rest-preserved
loop-rest-preserved c =
    let now = c.loop-rest in
    let line = c.cut_line.result.0.now in
    let after = lines_of c.cut_line.result.1.now in
    let few : now.rows ≤ most_row = omega (arith, c.if-rows-gt-MOST_ROW.false) in
    let step = names_step (names_in now.names) now.rows (lines_of now.rest.now) line after c.cut_line.ensures.lines few in
    record {
      so_far = rw (c.in_ok-read_name.ensures.names, c.rows_after-rows.ensures.rows, c.after_run-bytes.ensures)
          (step ∙ now.invariant.so_far);
      few = rw c.rows_after-rows.ensures.rows (rows_few now.rows c.after_run-bytes.result.now few);
    }
