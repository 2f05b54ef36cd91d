use Rattle.std.proofs.Common.{arith, None}
use Rattle.std.specs.Prelude.{slice_index_or}
use Rattle.pc_checking.proofs.FirstEntries.{number_is, found_within}
use Rattle.pc_checking.proofs.setting.entry_of.Goals as goal

pub returns-clause-within : goal.returns-clause-within
returns-clause-within c =
    let s = c.args.setting.now in
    let it = c.requires.setting in
    let many = it.as_many in
    let there = c.requires.there in
    found_within s.entries.now c.args.row (slice_index_or s.firsts.now c.args.row None) (
    number_is s.entries.now s.firsts.now c.args.row it.firsts (omega (arith, many, there)))
