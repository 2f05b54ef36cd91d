use Rattle.pc_explain_json.proofs.Shown.{all_can_be_shown}
use Rattle.pc_explain_json.proofs.json.explanations_value.Goals as goal

pub loops_value-requires : goal.loops_value-requires
loops_value-requires c = all_can_be_shown c.args.limits c.args.loops.now c.requires
