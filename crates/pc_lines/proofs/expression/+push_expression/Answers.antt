use Rattle.pc_lines.proofs.Forms.{of_atom, of_element, of_unary, of_binary, of_both_or_either, of_choose}
use Rattle.pc_lines.proofs.Pushed.{on_ok, none, both, as_said}
use Rattle.pc_lines.proofs.expression.+push_expression.Goals as goal

pub returns-in_ok-push_expression-in-Element : goal.returns-in_ok-push_expression-in-Element
returns-in_ok-push_expression-in-Element t c =
    let index = rw c.deref.ensures at c.in_ok-push_expression-in-Element.ensures in
    on_ok c.push_nodes-in-Element.result
    (λ last. as_said c.args.lines.now _ (of_element c.args.around c.args.expression.now _ _ _ _ c.in-Element.is) (both c.args.lines.now _ _ index last))
    c.push_nodes-in-Element.ensures

pub returns-in_ok-push_expression-in-Unary : goal.returns-in_ok-push_expression-in-Unary
returns-in_ok-push_expression-in-Unary t c =
    let operand = rw c.deref-in-Unary.ensures at c.in_ok-push_expression-in-Unary.ensures in
    on_ok c.push_nodes-in-Unary.result
    (λ last. as_said c.args.lines.now _ (of_unary c.args.around c.args.expression.now _ _ c.in-Unary.is) (both c.args.lines.now _ _ operand last))
    c.push_nodes-in-Unary.ensures

pub returns-in_ok-push_expression-in-Binary-2 : goal.returns-in_ok-push_expression-in-Binary-2
returns-in_ok-push_expression-in-Binary-2 t c =
    let left = rw c.deref-in-Binary.ensures at c.in_ok-push_expression-in-Binary.ensures in
    let right = rw c.deref-in-Binary-2.ensures at c.in_ok-push_expression-in-Binary-2.ensures in
    on_ok c.push_operator.result
    (λ last. as_said c.args.lines.now _ (of_binary c.args.around c.args.expression.now _ _ _ _ c.in-Binary.is)
    (both c.args.lines.now _ _ left (both c.push_expression-in-Binary.new.lines _ _ right last)))
    c.push_operator.ensures

pub returns-in_ok-push_expression-in-Choose-3 : goal.returns-in_ok-push_expression-in-Choose-3
returns-in_ok-push_expression-in-Choose-3 t c =
    let test = rw c.deref-in-Choose.ensures at c.in_ok-push_expression-in-Choose.ensures in
    let one = rw c.deref-in-Choose-2.ensures at c.in_ok-push_expression-in-Choose-2.ensures in
    let other = rw c.deref-in-Choose-3.ensures at c.in_ok-push_expression-in-Choose-3.ensures in
    on_ok c.push_nodes-in-Choose-3.result
    (λ last. as_said c.args.lines.now _ (of_choose c.args.around c.args.expression.now _ _ _ c.in-Choose.is)
    (both c.args.lines.now _ _ test
    (both c.push_expression-in-Choose.new.lines _ _ c.in_ok-push_nodes-in-Choose.ensures
    (both c.push_nodes-in-Choose.new.lines _ _ one
    (both c.push_expression-in-Choose-2.new.lines _ _ c.in_ok-push_nodes-in-Choose-2.ensures (both c.push_nodes-in-Choose-2.new.lines _ _ other last))))))
    c.push_nodes-in-Choose-3.ensures

pub returns-in-Lit : goal.returns-in-Lit
returns-in-Lit t c = none c.args.lines.now (of_atom c.args.around c.args.expression.now c.in-Lit.is)

pub returns-in-Lit-2 : goal.returns-in-Lit-2
returns-in-Lit-2 t c = none c.args.lines.now (of_atom c.args.around c.args.expression.now c.in-Lit.is)

pub returns-in_ok-push_expression-in-Both-2 : goal.returns-in_ok-push_expression-in-Both-2
returns-in_ok-push_expression-in-Both-2 t c =
    let left = rw c.deref-in-Both.ensures at c.in_ok-push_expression-in-Both.ensures in
    let right = rw c.deref-in-Both-2.ensures at c.in_ok-push_expression-in-Both-2.ensures in
    on_ok c.push_nodes-in-Both-2.result
    (λ last. as_said c.args.lines.now _ (of_both_or_either c.args.around c.args.expression.now _ _ c.in-Both.is)
    (both c.args.lines.now _ _ left
    (both c.push_expression-in-Both.new.lines _ _ c.in_ok-push_nodes-in-Both.ensures (both c.push_nodes-in-Both.new.lines _ _ right last))))
    c.push_nodes-in-Both-2.ensures
