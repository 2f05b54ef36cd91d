use Rattle.pc_word.proofs.Lists.{all_of_map}
use Rattle.pc_explain.specs.Explained.{explanation_in, CanBeWritten}
use Rattle.pc_explain_text.proofs.text.explanation_text.Goals as goal

pub push_loops-requires : goal.push_loops-requires
push_loops-requires c = all_of_map (CanBeWritten c.args.limits) explanation_in c.args.loops.now c.requires.can
