use Rattle.pc_scalar.specs.models.Before.{AreBefore}
use Rattle.pc_scalar.proofs.Rewrites.{has_head}
use Rattle.pc_scalar.proofs.Differing.{rewrites_tell}
use Rattle.pc_scalar.proofs.rewriting.plan_of.Goals as goal

pub changes-changed-requires : goal.changes-changed-requires
changes-changed-requires c = rewrites_tell c.args.flow.now c.args.rule c.rewrite_all.new.nodes c.rewrite_all.ensures.rewrites

pub returns : goal.returns
returns c =
    let are : AreBefore c.args.flow.now c.as_slice-2.result.now = rw c.as_slice-2.ensures.value c.in_ok-table.ensures in
    record {
      is_flow = c.rewrite_all.ensures.kept;
      rewrites = c.rewrite_all.ensures.rewrites;
      written = λ at reached.
          let head = has_head c.args.flow.now c.as_slice-2.result.now at c.rewrite_all.ensures.kept are reached in
          c.rewrite_all.ensures.written head.head head.there head.begins at head.chain;
      entry = c.entry.ensures;
      changed = c.changes-changed.ensures;
    }
