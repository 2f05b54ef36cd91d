use Rattle.std.proofs.Common.{arith, All, w32, subst}
use Rattle.std.specs.Prelude.{FitsSigned}
use Rattle.std.proofs.lemmas.Grind.{common_steps}
use Rattle.std.proofs.lemmas.List.Elements.{All-more}
use Rattle.pc_object.proofs.encoding.push_each_data.Goals as goal

pub loop-words-preserved : goal.loop-words-preserved
loop-words-preserved c = record {
  text = grind (arith, common_steps);
  words = All-more (All (FitsSigned w32)) c.args.lists.now c.loop-words.words-index c.words-item.result c.loop-words-test.true c.loop-words.invariant.words
      (rw (← c.words-item.is) (subst (All (FitsSigned w32)) c.as_slice.ensures c.in_ok-push_data.ensures.words));
}
