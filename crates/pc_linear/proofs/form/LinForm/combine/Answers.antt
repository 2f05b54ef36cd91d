use Rattle.pc_linear.proofs.Values.{combined_form, combined_value, combined_means}
use Rattle.pc_linear.proofs.form.LinForm.combine.Goals as goal

pub returns-clause-kept : goal.returns-clause-kept
returns-clause-kept c = rw c.combined.ensures.value (combined_form c.args.op c.args.left.now c.args.right.now c.combined.ensures.left c.combined.ensures.right)

pub returns-clause-values : goal.returns-clause-values
returns-clause-values c = rw c.combined.ensures.value (combined_value c.args.op c.args.left.now c.args.right.now c.combined.ensures.left.normal c.combined.ensures.right.normal)

pub returns-clause-means : goal.returns-clause-means
returns-clause-means c = rw c.combined.ensures.value (combined_means c.args.op c.args.left.now c.args.right.now)
