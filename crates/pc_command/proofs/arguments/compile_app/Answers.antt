-- The arguments are added in their order.
use Rattle.std.proofs.Common.{◌∙◌, ap, codes}
use Rattle.pc_command.specs.Arguments.{compile_app, number_argument}
use Rattle.pc_command.proofs.Programs.{added, nameless}
use Rattle.pc_command.proofs.arguments.compile_app.Goals as goal

pub returns-clause-app : goal.returns-clause-app
unfolding compile_app
returns-clause-app c =
    added _ _ _ _ _ c.in_ok-command.ensures c.flag_argument.ensures.local
    (added _ _ _ _ _ c.in_ok-arg-7.ensures c.argument-5.ensures.local
    (added _ _ _ _ _ c.in_ok-arg-6.ensures c.argument-4.ensures.local
    (added _ _ _ _ _ c.in_ok-arg-5.ensures c.argument-3.ensures.local
    (added _ _ _ _ _ c.in_ok-arg-4.ensures c.argument-2.ensures.local
    (added _ _ _ _ _ c.in_ok-arg-3.ensures c.argument.ensures.local
    (added _ _ _ _ _ c.in_ok-arg-2.ensures c.letter_argument.ensures.local
    (added _ _ _ _ _ c.in_ok-arg.ensures c.word_argument.ensures.local
    (nameless _ _ (codes "pcc") c.no_binary_name.ensures c.new.ensures.app)
    c.word_argument.ensures.rule)
    c.letter_argument.ensures.rule)
    (c.argument.ensures.rule ∙ ap number_argument c.ops.ensures))
    (c.argument-2.ensures.rule ∙ ap number_argument c.tests.ensures))
    (c.argument-3.ensures.rule ∙ ap number_argument c.mem.ensures))
    (c.argument-4.ensures.rule ∙ ap number_argument c.window.ensures))
    (c.argument-5.ensures.rule ∙ ap number_argument c.rows.ensures))
    c.flag_argument.ensures.rule
