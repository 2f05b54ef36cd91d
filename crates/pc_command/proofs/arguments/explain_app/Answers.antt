-- The arguments are added in their order.
use Rattle.std.proofs.Common.{◌∙◌, ap, codes}
use Rattle.pc_command.specs.Arguments.{explain_app, number_argument, optional_argument}
use Rattle.pc_command.proofs.Programs.{added, nameless}
use Rattle.pc_command.proofs.arguments.explain_app.Goals as goal

pub returns-clause-app : goal.returns-clause-app
unfolding explain_app
returns-clause-app c =
    added _ _ _ _ _ c.in_ok-command.ensures c.flag_argument-2.ensures.local
    (added _ _ _ _ _ c.in_ok-arg-8.ensures c.flag_argument.ensures.local
    (added _ _ _ _ _ c.in_ok-arg-7.ensures c.optional_argument.ensures.local
    (added _ _ _ _ _ c.in_ok-arg-6.ensures c.argument-5.ensures.local
    (added _ _ _ _ _ c.in_ok-arg-5.ensures c.argument-4.ensures.local
    (added _ _ _ _ _ c.in_ok-arg-4.ensures c.argument-3.ensures.local
    (added _ _ _ _ _ c.in_ok-arg-3.ensures c.argument-2.ensures.local
    (added _ _ _ _ _ c.in_ok-arg-2.ensures c.argument.ensures.local
    (added _ _ _ _ _ c.in_ok-arg.ensures c.word_argument.ensures.local
    (nameless _ _ (codes "pexplain") c.no_binary_name.ensures c.new.ensures.app)
    c.word_argument.ensures.rule)
    (c.argument.ensures.rule ∙ ap number_argument c.ops.ensures))
    (c.argument-2.ensures.rule ∙ ap number_argument c.tests.ensures))
    (c.argument-3.ensures.rule ∙ ap number_argument c.mem.ensures))
    (c.argument-4.ensures.rule ∙ ap number_argument c.window.ensures))
    (c.argument-5.ensures.rule ∙ ap number_argument c.rows.ensures))
    (c.optional_argument.ensures.rule ∙ ap optional_argument c.source_line.ensures))
    c.flag_argument.ensures.rule)
    c.flag_argument-2.ensures.rule
