use Rattle.std.proofs.lemmas.List.{take_rest}
use Rattle.pc_assembly.proofs.CutLines.{cut_at, cut_ends}
use Rattle.pc_assembly.proofs.text.cut_line.Goals as goal

pub returns-in-empty-clause-lines : goal.returns-in-empty-clause-lines
returns-in-empty-clause-lines c =
    cut_ends c.args.text.now c.cut_run.result.0.now c.cut_run.result.1.now
    c.requires c.cut_run.ensures.run c.cut_run.ensures.after c.in-empty.len_below

pub returns-in-len1-up-clause-lines : goal.returns-in-len1-up-clause-lines
returns-in-len1-up-clause-lines c =
    rw take_rest (cut_at c.args.text.now c.cut_run.result.0.now c.cut_run.result.1.now
    c.requires c.cut_run.ensures.run c.cut_run.ensures.after)
