use Rattle.std.proofs.Common.{rules, ◌∙◌, sym, ap}
use Rattle.std.specs.Prelude.{◌≡◌, Err}
use Rattle.pc_window.specs.Names.{parameters_of}
use Rattle.pc_window.specs.StoredWindow.{tree_in, window_in}
use Rattle.pc_window.proofs.WindowsStored.{whole_in}
use Rattle.pc_table.specs.StoredTable.{table_of}
use Rattle.pc_automaton.specs.StoredLeft.{left_in}
use Rattle.pc_pattern.specs.models.Pools.{pool_in}
use Rattle.pc_pattern.specs.models.Leading.{rules_within}
use Rattle.pc_pattern.proofs.States.{fillable_of, made_of, refused_on}
use Rattle.pc_pattern.proofs.searching.state.Goals as goal
use Rattle.pc_word.specs.StoredRow.{row_in}

pub fill_from-requires-clause-parameters : goal.fill_from-requires-clause-parameters
fill_from-requires-clause-parameters g c =
    let listed : c.as_slice.result.now ≡ parameters_of (tree_in c.args.window.tree) = search rules in
    listed ∙ ap parameters_of (sym (whole_in c.args.window.tree))

pub fill_from-requires-clause-fillable : goal.fill_from-requires-clause-fillable
fill_from-requires-clause-fillable g c = fillable_of (table_of c.args.table.now) c.args.window c.requires.settled c.requires.small

pub returns-clause-made : goal.returns-clause-made
returns-clause-made g c =
    made_of (rules_within (table_of c.args.table.now) c.args.bounds) c.args.window c.in_ok-filled.filled (pool_in c.args.pool.now) _
    (row_in left_in c.in_ok-row.row) _ _ _ (λ window. g.R.Recorder.takes c.args.recorder.now window c.take.new.self)
    c.in_ok-parameters.ensures c.in_ok-filled.ensures.fills c.in_ok-filled.ensures.left c.in_ok-filled.ensures.proper c.requires.limits
    c.in_ok-row.ensures.cut c.len-2.ensures c.in_ok-row-2.ensures.leads c.in_ok-take.ensures

pub returns-in_err-row-2-clause-unmade : goal.returns-in_err-row-2-clause-unmade
returns-in_err-row-2-clause-unmade g c =
    let is : c.from_residual-in_err-row-2.result ≡ Err c.in_err-row-2.field-0.0 = search rules in
    refused_on (rules_within (table_of c.args.table.now) c.args.bounds) c.args.bounds.extent.rows (window_in c.args.window) (window_in c.in_ok-filled.filled)
    (pool_in c.args.pool.now) (row_in left_in c.in_ok-row.row) _ _ is c.in_ok-filled.ensures.fills c.in_ok-row.ensures.cut c.in_err-row-2.ensures.refused
