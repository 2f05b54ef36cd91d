use Rattle.std.proofs.Common.{rules, arith, w32, SFits, pos}
use Rattle.std.specs.Prelude.{FitsSigned, slice_index_or}
use Rattle.std.proofs.lemmas.Grind.{common_steps}
use Rattle.std.proofs.lemmas.List.Elements.{All-more}
use Rattle.pc_object.proofs.writing.push_data.Goals as goal

pub loop-word-preserved : goal.loop-word-preserved
loop-word-preserved c =
    let fits : SFits w32 (slice_index_or c.args.words.now c.loop-word.word-index (pos 0)) = search rules in
    record {
      text = grind (arith, common_steps);
      words = All-more (FitsSigned w32) c.args.words.now c.loop-word.word-index (pos 0) c.loop-word-test.true c.loop-word.invariant.words fits;
    }
