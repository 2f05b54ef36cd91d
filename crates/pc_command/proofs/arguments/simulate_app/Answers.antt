-- The arguments are added in their order.
use Rattle.std.proofs.Common.{◌∙◌, ap, codes}
use Rattle.pc_command.specs.Arguments.{number_argument, simulate_app}
use Rattle.pc_command.proofs.Programs.{added, nameless}
use Rattle.pc_command.proofs.arguments.simulate_app.Goals as goal

pub returns-clause-app : goal.returns-clause-app
unfolding simulate_app
returns-clause-app c =
    added _ _ _ _ _ c.in_ok-command.ensures c.argument.ensures.local
    (added _ _ _ _ _ c.in_ok-arg.ensures c.word_argument.ensures.local
    (nameless _ _ (codes "pvm") c.no_binary_name.ensures c.new.ensures.app) c.word_argument.ensures.rule)
    (c.argument.ensures.rule ∙ ap number_argument c.cycles.ensures)
