use Rattle.std.proofs.Common.{rules, arith, w32, SFits, pos, List, length, ◌<◌, subst}
use Rattle.std.specs.Prelude.{ℤ, slice_index_or}
use Rattle.std.proofs.lemmas.Grind.{common_steps}
use Rattle.std.proofs.lemmas.List.Elements.{All-more}
use Rattle.pc_word.specs.Word.{IsWord}
use Rattle.pc_lower.proofs.data.copy_words.Goals as goal

pub loop-word-preserved : goal.loop-word-preserved
loop-word-preserved c =
    let there = subst (λ (l : List ℤ). c.loop-word.word-index < length l) c.as_slice-word-items.ensures c.loop-word-test.true in
    let fits : SFits w32 (slice_index_or c.args.from.now c.loop-word.word-index (pos 0)) = search rules in (
      grind (arith, common_steps),
      All-more IsWord c.args.from.now c.loop-word.word-index (pos 0) there c.loop-word.invariant.1 fits,
    )
