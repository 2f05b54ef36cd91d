use Rattle.std.proofs.Common.{ap, length}
use Rattle.pc_lexer.proofs.Begun.{mark_measured, mark_missing}
use Rattle.pc_lexer.proofs.piece.mark.Goals as goal

pub returns-in-Some : goal.returns-in-Some
returns-in-Some c = mark_measured c.args.text.now c.in-Some.mark _ c.in-Some.ensures (ap length c.spelling.ensures)

pub returns-in-None : goal.returns-in-None
returns-in-None c = mark_missing c.args.text.now c.in-None.ensures
