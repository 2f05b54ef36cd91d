use Rattle.std.proofs.Common.{◌∙◌, ◌-◌, ap, length, arith}
use Rattle.std.proofs.lemmas.List.{length-replicate, length-set}
use Rattle.pc_checking.proofs.FirstEntries.{told_none, told_more}
use Rattle.pc_checking.proofs.setting.first_entries.Goals as goal

pub loop-number-init : goal.loop-number-init
loop-number-init c = record {
  within = omega arith;
  as_many = ap length c.in_ok-firsts.ensures ∙ length-replicate c.args.rows _;
  told = told_none c.args.entries.now c.args.rows c.in_ok-firsts.firsts c.in_ok-firsts.ensures;
}

pub loop-number-preserved : goal.loop-number-preserved
loop-number-preserved c =
    let now = c.loop-number in
    let inv = now.invariant in
    let some = c.loop-number-test.true in
    let below = inv.within in
    record {
      within = omega (arith, below);
      as_many = ap length c.put_number.ensures ∙ length-set now.firsts _ _ ∙ inv.as_many;
      told = told_more c.args.entries.now (now.number - 1) now.number c.index-entries-number.result now.firsts c.put_number.new.firsts (omega (arith, below, some))
          (omega (arith, some)) c.put_number.ensures inv.told;
    }
