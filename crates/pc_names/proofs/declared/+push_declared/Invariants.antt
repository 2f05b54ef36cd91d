use Rattle.std.proofs.Common.{◌≡◌, take}
use Rattle.pc_syntax.specs.Erasure.{list_of}
use Rattle.pc_names.specs.Declarations.{with_list}
use Rattle.pc_names.proofs.declared.+push_declared.Given as goal

-- the symbols of the statements so far were appended
abbrev pub invariant-push_list-loop-item : goal.invariant-push_list-loop-item
invariant-push_list-loop-item l = l.symbols ≡ with_list (list_of (take l.item-index l.items)) l.initial.symbols
