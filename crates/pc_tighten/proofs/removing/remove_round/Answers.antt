use Rattle.std.proofs.Common.{List, sym, ◌∙◌, ap}
use Rattle.pc_word.specs.declared.row_tree.RowTree.{RowTree}
use Rattle.pc_machine.specs.declared.tree.Leaf.{Leaf}
use Rattle.pc_machine.specs.MachineCode.{rows_of}
use Rattle.pc_tighten.specs.models.Gotos.{gotos_of, rows_left}
use Rattle.pc_tighten.proofs.Gotos.{round_removes, round_ends}
use Rattle.pc_tighten.proofs.removing.remove_round.Goals as goal

pub returns-then-places-eq0 : goal.returns-then-places-eq0
returns-then-places-eq0 c =
    round_ends (rows_of c.args.rows.now.items) c.deref-2.result.now c.in_ok-places.places
    (c.deref-2.ensures.value ∙ c.in_ok-gotos.ensures ∙ ap (λ (l : List (RowTree Leaf)). gotos_of (rows_of l)) c.deref.ensures.value) c.in_ok-places.ensures c.if-places-eq0.true

pub returns : goal.returns
returns c =
    round_removes (rows_of c.args.rows.now.items) (rows_of c.in_ok-rows.field-0.items) c.deref-2.result.now c.in_ok-places.places
    (c.deref-2.ensures.value ∙ c.in_ok-gotos.ensures ∙ ap (λ (l : List (RowTree Leaf)). gotos_of (rows_of l)) c.deref.ensures.value) c.in_ok-places.ensures c.if-places-eq0.false
    (c.in_ok-rows.ensures ∙ ap (λ g. rows_left g c.in_ok-places.places (rows_of c.args.rows.now.items)) (c.deref-3.ensures.value ∙ sym c.deref-2.ensures.value))
