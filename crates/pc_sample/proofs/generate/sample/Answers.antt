use Rattle.std.proofs.Common.{◌≡◌, ◌≤◌, List, ℕ, length, rules, subst, sym}
use Rattle.pc_sample.specs.SampleText.{sample_text}
use Rattle.pc_sample.proofs.Lengths.{sample_short}
use Rattle.pc_sample.proofs.generate.sample.Goals as goal

pub returns-clause-short : goal.returns-clause-short
returns-clause-short c =
    let made : c.into_bytes.result.items ≡ sample_text c.args.number = search rules in
    subst (λ (text : List ℕ). length text ≤ 2500) (sym made) (sample_short c.args.number)
