-- The arguments are added in their order.
use Rattle.std.proofs.Common.{codes}
use Rattle.pc_command.specs.Arguments.{assemble_app}
use Rattle.pc_command.proofs.Programs.{added, nameless}
use Rattle.pc_command.proofs.arguments.assemble_app.Goals as goal

pub returns-clause-app : goal.returns-clause-app
unfolding assemble_app
returns-clause-app c =
    added _ _ _ _ _ c.in_ok-command.ensures c.letter_argument.ensures.local
    (added _ _ _ _ _ c.in_ok-arg.ensures c.word_argument.ensures.local
    (nameless _ _ (codes "pasm") c.no_binary_name.ensures c.new.ensures.app) c.word_argument.ensures.rule)
    c.letter_argument.ensures.rule
