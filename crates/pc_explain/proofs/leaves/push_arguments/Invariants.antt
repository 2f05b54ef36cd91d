use Rattle.std.proofs.Common.{◌≡◌, ◌++◌, drop, string_bytes}
use Rattle.pc_explain.specs.Naming.{naming_in}
use Rattle.pc_explain.specs.Words.{arguments_from}
use Rattle.pc_explain.proofs.leaves.push_arguments.Given as goal

-- the text with the arguments from here on is the text at the start with all of them
abbrev pub invariant-loop-place : goal.invariant-loop-place
invariant-loop-place l =
    string_bytes l.text ++ arguments_from (naming_in l.naming) l.place (drop l.place l.arguments)
    ≡ string_bytes l.initial.text ++ arguments_from (naming_in l.naming) 0 l.arguments
