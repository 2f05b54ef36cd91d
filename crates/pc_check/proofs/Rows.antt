-- Lists of trees, read from the front.
use Rattle.std.proofs.Common.{◌≡◌, ap, ◌∙◌, ℕ, ◌+◌, ◌<◌, List, [], ◌∷◌, ◌++◌, length, take, drop, get_or, sym, suc}
use Rattle.std.proofs.lemmas.List.{take_more, take-append-drop}
use Rattle.std.proofs.Math.Seq.{drop-cons}
use Rattle.pc_syntax.specs.declared.statement.Stmt.{Stmt}
use Rattle.pc_syntax.specs.Source.{No_more, More, appended}
use Rattle.pc_syntax.specs.Erasure.{list_of, statement_of}
use Rattle.pc_syntax.proofs.ErasureLaws.{list_of-push, list_of-append}

-- one more tree in front of a place is one more statement
pub list_of-more : (items : List Stmt) (i : ℕ) (item : Stmt) → i < length items → item ≡ get_or items i item →
    list_of (take (i + 1) items) ≡ appended (list_of (take i items)) (More (statement_of item) No_more)
list_of-more items i item below read =
    ap list_of (take_more items i item below) ∙ ap (λ (x : Stmt). list_of (take i items ++ x ∷ [])) (sym read)
    ∙ list_of-push (take i items) item

-- the trees in front of a place, the tree there, and those after it
pub list_of-split : (items : List Stmt) (i : ℕ) (item : Stmt) → i < length items → item ≡ get_or items i item →
    list_of items ≡ appended (list_of (take i items)) (More (statement_of item) (list_of (drop (suc i) items)))
unfolding list_of
list_of-split items i item below read =
    let parts : items ≡ take i items ++ drop i items = sym (take-append-drop i items) in
    let there : drop i items ≡ item ∷ drop (suc i) items =
    drop-cons items i item below ∙ ap (λ (x : Stmt). x ∷ drop (suc i) items) (sym read) in
    ap list_of (parts ∙ ap (λ (x : List Stmt). take i items ++ x) there)
    ∙ list_of-append (take i items) (item ∷ drop (suc i) items)
