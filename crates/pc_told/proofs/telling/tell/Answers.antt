use Rattle.std.proofs.Common.{List, ◌++◌, map, ◌∙◌, ap, subst, sym}
use Rattle.pc_table.specs.StoredTable.{table_of}
use Rattle.pc_automaton.specs.Automaton.{states_in}
use Rattle.pc_pattern.specs.Pattern.{rules_for}
use Rattle.pc_told.specs.declared.told_row.ToldRow.{ToldRow}
use Rattle.pc_told.specs.Tellings.{telling_of, tellings_in}
use Rattle.pc_waiting.specs.declared.obstacle.Waiting.{Waiting}
use Rattle.pc_told.proofs.ToldEach.{EachWaits, each_told, are_told}
use Rattle.pc_told.proofs.telling.tell.Goals as goal

pub returns-clause-told : goal.returns-clause-told
returns-clause-told c =
    let recorded = c.in_ok-automaton.ensures.recorded in
    let tells = each_told _ (λ teller. table_of teller.table.now) (λ teller. tellings_in teller.rows) (λ teller. teller.waiting) (λ before after window took. took) recorded.taken in
    are_told (rules_for (table_of c.args.table.now) c.args.limits c.args.extent.window) c.args.region c.args.extent.rows (states_in c.in_ok-automaton.automaton)
    recorded.pattern recorded.filled recorded.fills (tellings_in c.search_with.new.recorder.rows)
    (tells.told ∙ ap (λ (rows : List ToldRow). tellings_in rows ++ map (telling_of (table_of c.args.table.now)) recorded.filled) c.new.ensures)
    c.search_with.new.recorder.waiting
    (subst (EachWaits recorded.filled) (sym (tells.told_waits ∙ ap (λ (waits : List (List Waiting)). waits ++ tells.found) c.new-2.ensures)) tells.wait)
