use Rattle.std.proofs.Common.{◌+◌, List, sym, ◌∙◌, subst}
use Rattle.pc_table.specs.StoredTable.{table_of}
use Rattle.pc_explain.specs.declared.explanation.LoopExplanation.{LoopExplanation}
use Rattle.pc_explain.proofs.InTurn.{GoesOn, goes_past, goes_with, all_told}
use Rattle.pc_explain.proofs.Searches.{ChoiceIsSearched, choices_searched, all_item}
use Rattle.pc_explain.proofs.Writable.{all_can}
use Rattle.pc_explain.proofs.explaining.explain_loops.Goals as goal
use Rattle.pc_explain.proofs.explaining.explain_loops.Goals.{in-Some+in_ok-explanation+in_ok-push, in_default}

pub explain-requires-clause-searched : goal.explain-requires-clause-searched
explain-requires-clause-searched c =
    let table = table_of c.args.table.now in
    all_item (ChoiceIsSearched table c.args.limits c.args.extent) c.args.choices.now c.loop-choice.choice-index c.choice-item.result
    (choices_searched table c.args.limits c.args.extent c.args.choices.now c.requires.chosen) c.loop-choice-test.true c.choice-item.is

pub loop-choice-preserved : goal.loop-choice-preserved
loop-choice-preserved c =
    let table = table_of c.args.table.now in
    let at = c.loop-choice.choice-index in
    let GoesTo = λ (loops : List LoopExplanation). GoesOn c.args.flow.now table c.args.limits c.args.extent c.args.line c.args.choices.now (at + 1) loops in
    let goes_past' = goes_past c.args.flow.now table c.args.limits c.args.extent c.args.line c.args.choices.now at c.choice-item.result c.loop-choice.loops
    c.loop-choice-test.true c.choice-item.is c.loop-choice.invariant in
    let goes_with' = goes_with c.args.flow.now table c.args.limits c.args.extent c.args.line c.args.choices.now at c.choice-item.result c.loop-choice.loops
    c.loop-choice-test.true c.choice-item.is c.loop-choice.invariant in
    elim c.match-line_asked.branch [
      | in-Some+in_ok-explanation+in_ok-push w ↦
          let some = sym c.line_asked.ensures ∙ w.in-Some.is in
          subst GoesTo (sym (w.loops-is ∙ w.in_ok-push.ensures.ok)) (goes_with' w.in-Some.at w.in_ok-explanation.explanation some w.in_ok-explanation.ensures)
      | in_default w ↦ subst GoesTo (sym w.loops-is) (goes_past' (sym c.line_asked.ensures ∙ w.in_default.is))
    ]

pub returns-clause-explained : goal.returns-clause-explained
returns-clause-explained c =
    all_told c.args.flow.now (table_of c.args.table.now) c.args.limits c.args.extent c.args.line c.args.choices.now c.loop-choice.choice-index c.loop-choice.loops
    c.loop-choice-test.false c.loop-choice.invariant

pub returns-clause-can : goal.returns-clause-can
returns-clause-can c =
    all_can c.args.flow.now (table_of c.args.table.now) c.args.limits c.requires.limits c.args.extent c.requires.extent
    (all_told c.args.flow.now (table_of c.args.table.now) c.args.limits c.args.extent c.args.line c.args.choices.now c.loop-choice.choice-index c.loop-choice.loops
    c.loop-choice-test.false c.loop-choice.invariant)
