-- The programs' arguments, as `clap` keeps them.
use Rattle.std.proofs.Common.{◌≡◌, ◌∙◌, [], ap, ap₂, refl, true, false}
use Rattle.std.specs.Fmt.{digits}
use Rattle.clap.specs.Built.{AddsArg}
use Rattle.clap.specs.Faults.{is_simple_and_free}
use Rattle.clap.specs.Simple.{App, app_of, app_of_fields, new_app, on_top, with_rule}
use Rattle.clap.specs.Walk.{Rule, Text, rule_of}
use Rattle.clap.specs.declared.builder.arg.Arg.{Arg}
use Rattle.clap.specs.declared.builder.command.Command.{Command}
use Rattle.clap.specs.declared.builder.command.Command.TheViews.{out-Command}
use Rattle.clap.proofs.OnLiterals.{clap_on_literals}
use Rattle.pc_command.specs.Arguments.{assemble_app, check_app, compile_app, app_with, explain_app, simulate_app, stat_app, view_app}
use Rattle.pc_command.specs.Options.{ops_option, tests_option, mem_option, window_option, rows_option, cycles_option, trace_option, loop_option}

-- a command whose words begin after the program's name
pub nameless : (old new : Command) (name : Text) → out-Command new ≡ record (out-Command old) { no_binary_name = true }
    → app_of old ≡ new_app name → app_of new ≡ app_with name []
nameless old new name e named = ap app_of_fields e ∙ ap (on_top (λ s. record s { no_binary_name = true })) named

-- one more argument
pub added : (old : Command) (arg : Arg) (new : Command) (app : App) (rule : Rule) → AddsArg old arg new → arg.global ≡ false
    → app_of old ≡ app → rule_of arg ≡ rule → app_of new ≡ with_rule app rule
added old arg new app rule adds local is rule_is = adds.shape local ∙ ap₂ with_rule is rule_is

-- what is opened to compute the programs' arguments
unfoldable pub argument_tables : Unit {0}
unfolding compile_app assemble_app simulate_app view_app stat_app check_app explain_app ops_option tests_option mem_option window_option rows_option cycles_option trace_option loop_option digits
argument_tables = tt

-- `clap` says exactly which words the programs take
pub compile_app_is_simple : is_simple_and_free compile_app ≡ true
unfolding argument_tables clap_on_literals
compile_app_is_simple = refl

pub assemble_app_is_simple : is_simple_and_free assemble_app ≡ true
unfolding argument_tables clap_on_literals
assemble_app_is_simple = refl

pub simulate_app_is_simple : is_simple_and_free simulate_app ≡ true
unfolding argument_tables clap_on_literals
simulate_app_is_simple = refl

pub view_app_is_simple : is_simple_and_free view_app ≡ true
unfolding argument_tables clap_on_literals
view_app_is_simple = refl

pub stat_app_is_simple : is_simple_and_free stat_app ≡ true
unfolding argument_tables clap_on_literals
stat_app_is_simple = refl

pub check_app_is_simple : is_simple_and_free check_app ≡ true
unfolding argument_tables clap_on_literals
check_app_is_simple = refl

pub explain_app_is_simple : is_simple_and_free explain_app ≡ true
unfolding argument_tables clap_on_literals
explain_app_is_simple = refl
