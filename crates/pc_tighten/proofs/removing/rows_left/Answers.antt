use Rattle.std.proofs.Common.{◌≡◌, ◌++◌, not, List, length, sym, ◌∙◌, ap, arith}
use Rattle.std.specs.Prelude.{is_some, reverse}
use Rattle.pc_word.specs.declared.row_tree.RowTree.{RowTree}
use Rattle.pc_machine.specs.declared.tree.Leaf.{Leaf}
use Rattle.pc_machine.specs.MachineCode.{rows_of}
use Rattle.pc_tighten.specs.models.Gotos.{sent_on, rows_left}
use Rattle.pc_tighten.proofs.Gotos.{left_with, left_without}
use Rattle.pc_tighten.proofs.removing.rows_left.Goals as goal

pub loop-tree-preserved-in-Continue-1 : goal.loop-tree-preserved-in-Continue-1
loop-tree-preserved-in-Continue-1 c =
    let gotos = c.args.gotos.now in
    let rows = c.pop.new.self.items in
    let count : c.len.result ≡ length rows = (let e = c.len.ensures in let ok = c.pop.new.self.ok in omega (arith, e, ok)) in
    let none = ap is_some (sym (c.sent_on.ensures ∙ ap (sent_on gotos) count)) ∙ c.is_none.ensures ∙ ap not c.if-is_none.true in
    ap (λ (l : List (RowTree Leaf)). rows_left gotos c.args.it.now (rows_of rows) ++ rows_of (reverse l)) c.in_ok-push.ensures.items
    ∙ left_with gotos c.args.it.now c.loop-tree.rows.items rows c.loop-tree.left.items c.in-Some.tree c.send.new.tree c.in-Some.ensures.items
    none c.send.ensures
    ∙ c.loop-tree.invariant

pub loop-tree-preserved-else-is_none : goal.loop-tree-preserved-else-is_none
loop-tree-preserved-else-is_none c =
    let gotos = c.args.gotos.now in
    let rows = c.pop.new.self.items in
    let count : c.len.result ≡ length rows = (let e = c.len.ensures in let ok = c.pop.new.self.ok in omega (arith, e, ok)) in
    let some = ap is_some (sym (c.sent_on.ensures ∙ ap (sent_on gotos) count)) ∙ c.is_none.ensures ∙ ap not c.if-is_none.false in
    left_without gotos c.args.it.now c.loop-tree.rows.items rows c.loop-tree.left.items c.in-Some.tree c.in-Some.ensures.items some
    ∙ c.loop-tree.invariant

pub loop-tree-preserved-else-is_none-2 : goal.loop-tree-preserved-else-is_none-2
loop-tree-preserved-else-is_none-2 c =
    let gotos = c.args.gotos.now in
    let rows = c.pop.new.self.items in
    let count : c.len.result ≡ length rows = (let e = c.len.ensures in let ok = c.pop.new.self.ok in omega (arith, e, ok)) in
    let some = ap is_some (sym (c.sent_on.ensures ∙ ap (sent_on gotos) count)) ∙ c.is_none.ensures ∙ ap not c.if-is_none.false in
    left_without gotos c.args.it.now c.loop-tree.rows.items rows c.loop-tree.left.items c.in-Some.tree c.in-Some.ensures.items some
    ∙ c.loop-tree.invariant

pub loop-tree-preserved : goal.loop-tree-preserved
loop-tree-preserved c =
    let gotos = c.args.gotos.now in
    let rows = c.pop.new.self.items in
    let count : c.len.result ≡ length rows = (let e = c.len.ensures in let ok = c.pop.new.self.ok in omega (arith, e, ok)) in
    let some = ap is_some (sym (c.sent_on.ensures ∙ ap (sent_on gotos) count)) ∙ c.is_none.ensures ∙ ap not c.if-is_none.false in
    left_without gotos c.args.it.now c.loop-tree.rows.items rows c.loop-tree.left.items c.in-Some.tree c.in-Some.ensures.items some
    ∙ c.loop-tree.invariant
