use Rattle.std.proofs.Common.{◌≡◌, ◌++◌, drop, string_bytes}
use Rattle.pc_explain.specs.Naming.{naming_in}
use Rattle.pc_explain.specs.Words.{parameters_from}
use Rattle.pc_explain.proofs.leaves.push_parameters.Given as goal

-- the text with the parameters from here on is the text at the start with all of them
abbrev pub invariant-loop-place : goal.invariant-loop-place
invariant-loop-place l =
    string_bytes l.text ++ parameters_from (naming_in l.naming) l.place (drop l.place l.parameters)
    ≡ string_bytes l.initial.text ++ parameters_from (naming_in l.naming) 0 l.parameters
