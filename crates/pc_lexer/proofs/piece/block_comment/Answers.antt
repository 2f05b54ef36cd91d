use Rattle.std.proofs.lemmas.List.{take_rest}
use Rattle.std.proofs.Common.{Some, None}
use Rattle.pc_lexer.proofs.Begun.{comment_measured}
use Rattle.pc_lexer.proofs.piece.block_comment.Goals as goal

pub returns-in-Some : goal.returns-in-Some
returns-in-Some c = comment_measured c.args.text.now (Some c.in-Some.length) (rw take_rest at c.in-Some.ensures.value)

pub returns-in-None : goal.returns-in-None
returns-in-None c = comment_measured c.args.text.now None (rw take_rest at c.in-None.ensures.value)
