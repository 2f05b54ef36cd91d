use Rattle.std.proofs.Common.{[], ◌∷◌, ◌++◌, take, sym, ◌∙◌, ap}
use Rattle.std.proofs.lemmas.List.{take_more}
use Rattle.std.proofs.lemmas.Option.{slice_get_within}
use Rattle.pc_scalar.proofs.Tables.{stands_at}
use Rattle.pc_scalar.proofs.rewriting.nodes_of.Goals as goal

pub loop-at-preserved : goal.loop-at-preserved
loop-at-preserved c =
    let there = slice_get_within c.args.flow.now.nodes c.loop-at.at c.node.result c.node.ensures in
    let more = take_more c.args.flow.now.nodes c.loop-at.at c.node.result there in
    let is = stands_at c.args.flow.now.nodes c.loop-at.at c.node.result c.node.result c.node.ensures in
    c.in_ok-push.ensures.ok ∙ ap (λ l. l ++ c.node.result ∷ []) c.loop-at.invariant
    ∙ ap (λ n. take c.loop-at.at c.args.flow.now.nodes ++ n ∷ []) (sym is) ∙ sym more
