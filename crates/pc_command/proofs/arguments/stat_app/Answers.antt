-- The arguments are added in their order.
use Rattle.std.proofs.Common.{◌∙◌, ap, codes}
use Rattle.pc_command.specs.Arguments.{number_argument, optional_argument, stat_app}
use Rattle.pc_command.proofs.Programs.{added, nameless}
use Rattle.pc_command.proofs.arguments.stat_app.Goals as goal

pub returns-clause-app : goal.returns-clause-app
unfolding stat_app
returns-clause-app c =
    added _ _ _ _ _ c.in_ok-command.ensures c.flag_argument-3.ensures.local
    (added _ _ _ _ _ c.in_ok-arg-5.ensures c.flag_argument-2.ensures.local
    (added _ _ _ _ _ c.in_ok-arg-4.ensures c.optional_argument.ensures.local
    (added _ _ _ _ _ c.in_ok-arg-3.ensures c.flag_argument.ensures.local
    (added _ _ _ _ _ c.in_ok-arg-2.ensures c.argument.ensures.local
    (added _ _ _ _ _ c.in_ok-arg.ensures c.word_argument.ensures.local
    (nameless _ _ (codes "pstat") c.no_binary_name.ensures c.new.ensures.app)
    c.word_argument.ensures.rule)
    (c.argument.ensures.rule ∙ ap number_argument c.cycles.ensures))
    c.flag_argument.ensures.rule)
    (c.optional_argument.ensures.rule ∙ ap optional_argument c.trace.ensures))
    c.flag_argument-2.ensures.rule)
    c.flag_argument-3.ensures.rule
