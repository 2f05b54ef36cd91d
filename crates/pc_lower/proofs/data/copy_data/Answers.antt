use Rattle.std.proofs.Common.{arith, All, List, length, ◌<◌, subst, ap, ◌∙◌}
use Rattle.std.specs.Prelude.{ℤ, slice_index_or}
use Rattle.std.proofs.lemmas.Grind.{common_steps}
use Rattle.std.proofs.lemmas.List.Elements.{All-more}
use Rattle.pc_word.specs.Word.{IsWord}
use Rattle.pc_lower.proofs.data.copy_data.Goals as goal

pub loop-words-preserved : goal.loop-words-preserved
loop-words-preserved c =
    let at = c.loop-words.words-index in
    let same = c.as_slice-words-items.ensures in
    let words = c.words-item.result in
    let there = subst (λ (l : List (List ℤ)). at < length l) same c.loop-words-test.true in
    let fits = subst (All IsWord) (c.words-item.is ∙ ap (λ (l : List (List ℤ)). slice_index_or l at words) same) c.in_ok-copy_words.ensures.fit in (
      grind (arith, common_steps),
      All-more (All IsWord) c.args.from.now at words there c.loop-words.invariant.1 fits,
    )
