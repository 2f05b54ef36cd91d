-- The arguments are added in their order.
use Rattle.std.proofs.Common.{codes}
use Rattle.pc_command.specs.Arguments.{check_app}
use Rattle.pc_command.proofs.Programs.{added, nameless}
use Rattle.pc_command.proofs.arguments.check_app.Goals as goal

pub returns-clause-app : goal.returns-clause-app
unfolding check_app
returns-clause-app c =
    added _ _ _ _ _ c.in_ok-command.ensures c.flag_argument-2.ensures.local
    (added _ _ _ _ _ c.in_ok-arg-4.ensures c.flag_argument.ensures.local
    (added _ _ _ _ _ c.in_ok-arg-3.ensures c.word_argument-3.ensures.local
    (added _ _ _ _ _ c.in_ok-arg-2.ensures c.word_argument-2.ensures.local
    (added _ _ _ _ _ c.in_ok-arg.ensures c.word_argument.ensures.local
    (nameless _ _ (codes "pcheck") c.no_binary_name.ensures c.new.ensures.app)
    c.word_argument.ensures.rule)
    c.word_argument-2.ensures.rule)
    c.word_argument-3.ensures.rule)
    c.flag_argument.ensures.rule)
    c.flag_argument-2.ensures.rule
