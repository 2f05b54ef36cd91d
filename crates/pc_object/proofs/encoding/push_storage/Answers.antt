use Rattle.std.proofs.Common.{sym, ◌∙◌}
use Rattle.pc_object.proofs.Ranges.{ptv1_fits, on_ok}
use Rattle.pc_object.proofs.encoding.push_storage.Goals as goal

pub returns-in-Ptv1-clause-words : goal.returns-in-Ptv1-clause-words
returns-in-Ptv1-clause-words c =
    on_ok c.push_lengths.result (ptv1_fits c.args.code.now.registers c.args.code.now.initial (sym c.in-Ptv1.is ∙ c.requires.version))
