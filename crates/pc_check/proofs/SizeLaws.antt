-- The sizes of lists of statements.
use Rattle.std.proofs.Common.{◌≡◌, ℕ, ◌+◌, ◌<◌, min, List, length, take, get_or, arith, ap}
use Rattle.pc_syntax.specs.declared.statement.Stmt.{Stmt}
use Rattle.pc_syntax.specs.Source.{SourceList, No_more, More, appended}
use Rattle.pc_syntax.specs.Erasure.{list_of, statement_of}
use Rattle.pc_check.specs.Sizes.{statement_size, list_size}
use Rattle.pc_check.proofs.Rows.{list_of-more}

-- two lists in a row have the nodes of both
pub list_size-appended : (front rest : SourceList) → list_size (appended front rest) ≡ list_size front + list_size rest
unfolding list_size
list_size-appended No_more rest = omega arith
list_size-appended (More first others) rest = let tail = list_size-appended others rest in omega arith

-- one more statement adds its nodes
pub list_size-more : (items : List Stmt) (i : ℕ) (item : Stmt) → i < length items → item ≡ get_or items i item →
    list_size (list_of (take (i + 1) items)) ≡ list_size (list_of (take i items)) + statement_size (statement_of item)
unfolding list_size
list_size-more items i item below read =
    let more = ap list_size (list_of-more items i item below read) in
    let sum = list_size-appended (list_of (take i items)) (More (statement_of item) No_more) in
    omega arith

-- a capped sum of capped numbers is their sum, capped
pub capped_sum : (a b x y z : ℕ) → x ≡ min a 4294967295 → y ≡ min b 4294967295 → z ≡ min (x + y) 4294967295 →
    z ≡ min (a + b) 4294967295
capped_sum a b x y z left right sum = omega arith
