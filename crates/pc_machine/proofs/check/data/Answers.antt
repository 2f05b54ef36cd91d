use Rattle.std.proofs.Common.{rules, arith, ◌≤◌, ◌-◌, length, ◌∙◌, ap, w32, SFits}
use Rattle.std.specs.Prelude.{ℤ, pos, slice_index_or}
use Rattle.std.proofs.lemmas.Int.{to_z-of_z}
use Rattle.pc_word.specs.Exact.{checked}
use Rattle.pc_machine.specs.Flaws.{data_tail_flaws}
use Rattle.pc_machine.proofs.Checks.{data-goes_on}
use Rattle.pc_machine.proofs.check.data.Goals as goal

pub returns-in-len1-up : goal.returns-in-len1-up
returns-in-len1-up c =
    let last : ℤ = slice_index_or c.args.words.now (length c.args.words.now - 1) (pos 0) in
    let fits : SFits w32 last = search rules in
    let some : 1 ≤ length c.args.words.now = omega (arith, c.in-len1-up.len_at_least) in
    c.data_tail.ensures ∙ ap (λ z. checked (data_tail_flaws z) tt) (to_z-of_z w32 last fits) ∙ data-goes_on _ _ _ c.in_ok-data_count.ensures some
