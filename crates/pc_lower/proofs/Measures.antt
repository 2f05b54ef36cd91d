-- The loops of lists of statements.
use Rattle.std.proofs.Common.{◌≡◌, ℕ, ◌+◌, ◌<◌, min, List, length, take, get_or, arith, ap}
use Rattle.pc_syntax.specs.declared.statement.Stmt.{Stmt}
use Rattle.pc_syntax.specs.Source.{SourceList, No_more, More, appended}
use Rattle.pc_syntax.specs.Erasure.{list_of, statement_of}
use Rattle.pc_check.proofs.Rows.{list_of-more}
use Rattle.pc_lower.specs.SourceLoops.{loop_count, list_loops}

-- a list after a list adds its loops
pub loops-appended : (front rest : SourceList) → list_loops (appended front rest) ≡ list_loops front + list_loops rest
unfolding loop_count
loops-appended No_more rest = omega arith
loops-appended (More first others) rest = let tail = loops-appended others rest in omega arith

-- one more statement adds its loops
pub loops-more : (items : List Stmt) (i : ℕ) (item : Stmt) → i < length items → item ≡ get_or items i item →
    list_loops (list_of (take (i + 1) items)) ≡ list_loops (list_of (take i items)) + loop_count (statement_of item)
unfolding loop_count
loops-more items i item below read =
    let more = ap list_loops (list_of-more items i item below read) in
    let sum = loops-appended (list_of (take i items)) (More (statement_of item) No_more) in
    omega arith

-- a capped sum of capped counts is their sum, capped
pub capped_count : (a b x y z : ℕ) → x ≡ min a 65535 → y ≡ min b 65535 → z ≡ min (x + y) 65535 → z ≡ min (a + b) 65535
capped_count a b x y z left right sum = omega arith
