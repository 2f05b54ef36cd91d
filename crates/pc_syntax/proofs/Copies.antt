-- What a copy stands for.
use Rattle.std.proofs.Common.{◌≡◌, ◌∙◌, Result, Ok, Err, IfOk}
use Rattle.pc_syntax.specs.declared.statement.Stmt.{Stmt}
use Rattle.pc_word.specs.declared.out_of_memory.OutOfMemory.{OutOfMemory}
use Rattle.pc_syntax.specs.Unit.{UnitStatement}
use Rattle.pc_syntax.specs.UnitErasure.{unit_statement_of}

-- a copy that stands for one statement stands for an equal one
pub copied_as : (r : Result Stmt OutOfMemory) (one other : UnitStatement) → IfOk r (λ copy. unit_statement_of copy ≡ one) → one ≡ other →
    IfOk r (λ copy. unit_statement_of copy ≡ other)
copied_as (Ok copy) one other is same = is ∙ same
copied_as (Err e) one other is same = tt
