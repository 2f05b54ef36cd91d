use Rattle.pc_lower.proofs.Drafts.{first_keeps}
use Rattle.pc_lower.proofs.draft.Draft.new.Goals as goal

pub invariant_of-result : goal.invariant_of-result
invariant_of-result c =
    rw (c.in_ok-nodes.ensures, c.in_ok-ranks.ensures, c.in_ok-inside.ensures) (first_keeps c.args.count c.args.loops c.args.arrays c.args.initial c.requires.may)
