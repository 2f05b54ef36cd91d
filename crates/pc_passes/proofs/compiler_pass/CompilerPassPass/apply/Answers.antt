-- It does what the pass in it does.
use Rattle.pc_passes.proofs.compiler_pass.CompilerPassPass.apply.Goals as goal

pub returns-in-Fold-clause-does : goal.returns-in-Fold-clause-does
returns-in-Fold-clause-does c = rw c.in-Fold.is c.apply.ensures.does

pub returns-in-Ranges-clause-does : goal.returns-in-Ranges-clause-does
returns-in-Ranges-clause-does c = rw c.in-Ranges.is c.apply-in-Ranges.ensures.does

pub returns-in-Copies-clause-does : goal.returns-in-Copies-clause-does
returns-in-Copies-clause-does c = rw c.in-Copies.is c.apply-in-Copies.ensures.does

pub returns-in-Values-clause-does : goal.returns-in-Values-clause-does
returns-in-Values-clause-does c = rw c.in-Values.is c.apply-in-Values.ensures.does

pub returns-in-Forward-clause-does : goal.returns-in-Forward-clause-does
returns-in-Forward-clause-does c = rw c.in-Forward.is c.apply-in-Forward.ensures.does

pub returns-in-Dead-clause-does : goal.returns-in-Dead-clause-does
returns-in-Dead-clause-does c = rw c.in-Dead.is c.apply-in-Dead.ensures.does
