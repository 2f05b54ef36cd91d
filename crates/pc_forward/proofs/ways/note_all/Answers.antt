use Rattle.std.proofs.Common.{◌≡◌, ◌<◌, true, false, Some, length, sym, ◌∙◌, ap, arith}
use Rattle.std.proofs.lemmas.Option.{slice_get-get_or}
use Rattle.pc_scalar.proofs.Skipping.{fits_there}
use Rattle.pc_forward.proofs.Noting.{note_none, note_node, noted_length}
use Rattle.pc_forward.proofs.ways.note_all.Goals.{then-flags-at, else-flags-at}
use Rattle.pc_forward.proofs.ways.note_all.Goals as goal

pub note-requires : goal.note-requires
note-requires c =
    fits_there c.args.flow.now c.loop-at.at (length c.loop-at.table) c.node.result c.loop-at.invariant.as_many
    (c.requires.reached.is_flow.nodes_fit c.loop-at.at c.node.result c.node.ensures)

pub loop-at-preserved : goal.loop-at-preserved
loop-at-preserved c =
    let low : c.loop-at.at < length c.args.flags.now = omega (arith, c.count-at-end.ensures.number, c.requires.reached.as_many) in
    let flag = slice_get-get_or c.args.flags.now c.loop-at.at false low in
    elim c.if-flags-at.branch [
      | then-flags-at w ↦
          let reached = c.requires.reached.only c.loop-at.at (flag ∙ ap Some w.if-flags-at.true) in
          let is = w.table-is ∙ w.note.ensures in
          let fits = c.requires.reached.is_flow.nodes_fit c.loop-at.at w.node.result w.node.ensures in
          record {
            as_many = ap length is ∙ noted_length w.node.result c.loop-at.at c.loop-at.table ∙ c.loop-at.invariant.as_many;
            each = rw is (note_node c.args.flow.now c.loop-at.at c.loop-at.table w.node.result c.loop-at.invariant.as_many reached w.node.ensures
                (fits_there c.args.flow.now c.loop-at.at (length c.loop-at.table) w.node.result c.loop-at.invariant.as_many fits) c.loop-at.invariant.each);
          }
      | else-flags-at w ↦ record {
        as_many = ap length w.table-is ∙ c.loop-at.invariant.as_many;
        each = rw w.table-is (note_none c.args.flow.now c.loop-at.at c.loop-at.table
            (λ reached. let all = c.requires.reached.all c.loop-at.at reached in let off = flag ∙ ap Some w.if-flags-at.false in let e : Some true ≡ Some false = sym all ∙ off in absurd (cc))
            c.loop-at.invariant.each);
      }
    ]
