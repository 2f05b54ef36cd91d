use Rattle.std.proofs.Common.{rules, ◌≡◌, sym, ◌∙◌}
use Rattle.pc_shared.proofs.Giving.{definition_merged}
use Rattle.pc_shared.proofs.merging.+merge_tree.Goals as goal

pub returns-in_ok-merge_tree-in-Some-clause-merges : goal.returns-in_ok-merge_tree-in-Some-clause-merges
returns-in_ok-merge_tree-in-Some-clause-merges t c =
    let lent : c.deref_mut-in-Some.result.now ≡ c.in-Step.rest.value = search rules in
    rw (c.in-Step.is, sym lent)
    (definition_merged c.with_dest.ensures c.renamed_item-read.ensures (sym c.dest.ensures ∙ c.in-Some.is) c.of-definition.ensures
    c.in_ok-name-in-Some.ensures c.in_ok-merge_tree-in-Some.ensures.merges)
