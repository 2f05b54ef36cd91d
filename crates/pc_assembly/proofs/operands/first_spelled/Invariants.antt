use Rattle.std.proofs.Common.{◌≡◌, drop}
use Rattle.std.specs.Prelude.{bytes_eq}
use Rattle.std.specs.List.{find}
use Rattle.pc_view.specs.Words.{operator_words}
use Rattle.pc_assembly.proofs.operands.first_spelled.Given as goal

-- the operators that were passed are not spelled so
abbrev pub invariant-loop-op : goal.invariant-loop-op
invariant-loop-op l =
    find (λ op. bytes_eq (operator_words op) l.spelling) (drop l.op-index l.ops)
    ≡ find (λ op. bytes_eq (operator_words op) l.spelling) l.ops
