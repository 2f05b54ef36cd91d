use Rattle.std.proofs.Common.{◌<◌, take, None, length, sym, ◌∙◌, subst}
use Rattle.std.proofs.lemmas.List.{take_more}
use Rattle.pc_regions.proofs.Marking.{marks_header, marks_none}
use Rattle.pc_regions.proofs.heads.mark_heads.Goals as goal
use Rattle.pc_regions.proofs.heads.mark_heads.Goals.{in-Some, in_default}

pub loop-header-preserved : goal.loop-header-preserved
loop-header-preserved c =
    let headers = c.args.headers.now in
    let i = c.loop-header.header-index in
    let within : i < length headers = c.loop-header-test.true in
    rw (take_more headers i None within)
    (elim c.match-header.branch [
      | in-Some w ↦ rw (w.marks-is, w.in-Some.is) (marks_header c.args.marks.now c.loop-header.marks c.args.flow.now.entry (take i headers) w.in-Some.at
          (subst (λ n. w.in-Some.at < n) (sym (c.loop-header.invariant.as_many ∙ c.requires.as_many)) (c.requires.there i w.in-Some.at w.in-Some.is)) c.loop-header.invariant)
      | in_default w ↦ rw (w.marks-is, w.in_default.is) (marks_none c.args.marks.now c.loop-header.marks c.args.flow.now.entry (take i headers) c.loop-header.invariant)
    ])
