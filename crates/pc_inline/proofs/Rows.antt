-- Lists of trees and of functions, read from the front.
use Rattle.std.proofs.Common.{◌≡◌, ap, ◌∙◌, sym, ℕ, suc, ◌+◌, ◌<◌, List, [], ◌∷◌, ◌++◌, map, length, take, drop, get_or, reverse}
use Rattle.std.proofs.lemmas.List.{take_more, take-append-drop, reverse-append, map-append}
use Rattle.std.proofs.Math.Seq.{drop-cons}
use Rattle.pc_syntax.specs.declared.statement.Stmt.{Stmt}
use Rattle.pc_syntax.specs.declared.unit.Function.{Function}
use Rattle.pc_syntax.specs.Unit.{Finish, Item, UnitFunction, unit_appended}
use Rattle.pc_syntax.specs.UnitErasure.{unit_list_of, unit_statement_of, function_of}
use Rattle.pc_syntax.proofs.UnitLaws.{unit_list_of-push, unit_list_of-append}

-- one more tree in front of a place is one more statement
pub unit_list_of-more : (items : List Stmt) (i : ℕ) (item : Stmt) → i < length items → item ≡ get_or items i item →
    unit_list_of (take (i + 1) items) ≡ unit_appended (unit_list_of (take i items)) (Item (unit_statement_of item) Finish)
unit_list_of-more items i item below read =
    ap unit_list_of (take_more items i item below) ∙ ap (λ (x : Stmt). unit_list_of (take i items ++ x ∷ [])) (sym read)
    ∙ unit_list_of-push (take i items) item

-- the trees in front of a place, the tree there, and those after it
pub unit_list_of-split : (items : List Stmt) (i : ℕ) (item : Stmt) → i < length items → item ≡ get_or items i item →
    unit_list_of items ≡ unit_appended (unit_list_of (take i items)) (Item (unit_statement_of item) (unit_list_of (drop (suc i) items)))
unfolding unit_list_of
unit_list_of-split items i item below read =
    let parts : items ≡ take i items ++ drop i items = sym (take-append-drop i items) in
    let there : drop i items ≡ item ∷ drop (suc i) items =
    drop-cons items i item below ∙ ap (λ (x : Stmt). x ∷ drop (suc i) items) (sym read) in
    ap unit_list_of (parts ∙ ap (λ (x : List Stmt). take i items ++ x) there)
    ∙ unit_list_of-append (take i items) (item ∷ drop (suc i) items)

-- these functions, the last first
abbrev pub last_first : List Function → List UnitFunction
last_first functions = reverse (map function_of functions)

-- one more function in front of a place
pub last_first-more : (functions : List Function) (i : ℕ) (function : Function) → i < length functions → function ≡ get_or functions i function →
    last_first (take (i + 1) functions) ≡ function_of function ∷ last_first (take i functions)
last_first-more functions i function below read =
    ap last_first (take_more functions i function below)
    ∙ ap (λ (x : Function). last_first (take i functions ++ x ∷ [])) (sym read)
    ∙ ap (λ (x : List UnitFunction). reverse x) (map-append function_of (take i functions) (function ∷ []))
    ∙ reverse-append (map function_of (take i functions)) (function_of function ∷ [])

-- the functions after a place stand first
pub last_first-split : (functions : List Function) (i : ℕ) →
    last_first functions ≡ last_first (drop i functions) ++ last_first (take i functions)
last_first-split functions i =
    ap last_first (sym (take-append-drop i functions))
    ∙ ap (λ (x : List UnitFunction). reverse x) (map-append function_of (take i functions) (drop i functions))
    ∙ reverse-append (map function_of (take i functions)) (map function_of (drop i functions))
