-- The refusals of lists of statements, of calls and of functions, from the front.
use Rattle.std.proofs.Common.{◌≡◌, refl, sym, ap, subst, ◌∙◌, ℕ, suc, ◌+◌, ◌<◌, Bool, true, false, not, nat_eq, arith, Option, Some, None, List, [], ◌∷◌, ◌++◌, map}
use Rattle.std.proofs.Common.{length, take, drop, get_or, append_assoc, append-nil}
use Rattle.std.proofs.lemmas.List.{length-map}
use Rattle.pc_syntax.specs.declared.statement.Stmt.{Stmt}
use Rattle.pc_syntax.specs.declared.expression.Expr.{Expr}
use Rattle.pc_syntax.specs.declared.unit.Target.{Target}
use Rattle.pc_syntax.specs.declared.unit.Function.{Function}
use Rattle.pc_syntax.specs.Unit.{UnitStatement, UnitOptional, UnitList, For, Finish, Item, Call, UnitFunction, unit_appended}
use Rattle.pc_syntax.specs.Source.{SourceExpression}
use Rattle.pc_syntax.specs.Erasure.{expression_of}
use Rattle.pc_syntax.specs.UnitErasure.{unit_list_of, unit_statement_of, function_of}
use Rattle.pc_calls.specs.Refusals.{Refusal, FunctionTwice, Arguments, arity, refused_if, call_refusals, statement_refusals, optional_refusals, list_refusals, function_refusals, functions_refusals}
use Rattle.pc_inline.specs.declared.error.InlineError.{InlineError}
use Rattle.pc_inline.specs.declared.error.InlineError.TheVariants as told
use Rattle.std.proofs.lemmas.Bool.Decides.{nat_tests}
use Rattle.pc_inline.specs.models.First.{IsFirst}
use Rattle.pc_inline.proofs.Rows.{unit_list_of-more, unit_list_of-split, last_first, last_first-more, last_first-split}
use Rattle.std.specs.Prelude.{is_some}
use Rattle.pc_inline.specs.models.Finding.{place_among}
use Rattle.pc_inline.proofs.Finds.{arity-found, arity-unfound}
use Rattle.pc_inline.proofs.Firsts.{IsFirst-made, IsFirst-front, IsFirst-rest, none_both}

-- a call's refusals, by as many arguments as the tree has
pub of_call : (known : ℕ → Option ℕ) (in_function in_loop : Bool) (s : UnitStatement) (line : ℕ) (target : Option Target) (function at : ℕ) (arguments : List Expr) →
    s ≡ Call line target function at (map expression_of arguments) →
    call_refusals (known function) (length arguments) at ≡ statement_refusals known in_function in_loop s
unfolding statement_refusals
of_call known in_function in_loop s line target function at arguments is =
    ap (λ (n : ℕ). call_refusals (known function) n at) (sym (length-map arguments expression_of)) ∙ sym (ap (statement_refusals known in_function in_loop) is)

-- a call with another number of arguments is refused, and one with as many is not
pub others-refused : (wanted count at : ℕ) → (wanted ≡ count → ⊥) → IsFirst (told.Arguments at) (call_refusals (Some wanted) count at)
others-refused wanted count at other = by (nat_eq wanted count) (grind (arith, nat_tests, other))
  where
    by : (b : Bool) → b ≡ false → IsFirst (told.Arguments at) (refused_if (not b) (Arguments at))
    by true is = absurd (cc)
    by false is = IsFirst-made (told.Arguments at) (Arguments at) [] refl

pub others-passed : (wanted count at : ℕ) → wanted ≡ count → call_refusals (Some wanted) count at ≡ []
others-passed wanted count at same = ap (λ (b : Bool). refused_if (not b) (Arguments at)) (let is : nat_eq wanted count ≡ true = grind (arith, nat_tests, same) in is)

-- the refusals of a `for`
pub of_for : (known : ℕ → Option ℕ) (in_function in_loop : Bool) (s : UnitStatement) (line : ℕ) (first : UnitList) (test : SourceExpression) (step : UnitOptional) (body : UnitStatement) →
    s ≡ For line first test step body →
    statement_refusals known in_function in_loop s
    ≡ list_refusals known in_function in_loop first ++ (optional_refusals known in_function in_loop step ++ statement_refusals known in_function true body)
unfolding statement_refusals
of_for known in_function in_loop s line first test step body is = ap (statement_refusals known in_function in_loop) is

module _ (known : ℕ → Option ℕ) (in_function in_loop : Bool) where
  appended-refusals : (front rest : UnitList) →
      list_refusals known in_function in_loop (unit_appended front rest) ≡ list_refusals known in_function in_loop front ++ list_refusals known in_function in_loop rest
  unfolding statement_refusals
  appended-refusals Finish rest = refl
  appended-refusals (Item first others) rest =
      ap (λ (x : List Refusal). statement_refusals known in_function in_loop first ++ x) (appended-refusals others rest)
      ∙ sym (append_assoc (statement_refusals known in_function in_loop first) _ _)

  -- one more statement that is not refused
  pub none_more : (items : List Stmt) (i : ℕ) (item : Stmt) → i < length items → item ≡ get_or items i item →
      list_refusals known in_function in_loop (unit_list_of (take i items)) ≡ [] → statement_refusals known in_function in_loop (unit_statement_of item) ≡ [] →
      list_refusals known in_function in_loop (unit_list_of (take (i + 1) items)) ≡ []
  unfolding statement_refusals
  none_more items i item below read none other =
      ap (list_refusals known in_function in_loop) (unit_list_of-more items i item below read)
      ∙ appended-refusals (unit_list_of (take i items)) (Item (unit_statement_of item) Finish)
      ∙ none_both _ _ none (none_both _ _ other refl)

  -- the first refusal of a list, after statements that are not refused
  pub first_more : (e : InlineError) (items : List Stmt) (i : ℕ) (item : Stmt) → i < length items → item ≡ get_or items i item →
      list_refusals known in_function in_loop (unit_list_of (take i items)) ≡ [] → IsFirst e (statement_refusals known in_function in_loop (unit_statement_of item)) →
      IsFirst e (list_refusals known in_function in_loop (unit_list_of items))
  unfolding statement_refusals
  first_more e items i item below read none is =
      subst (λ (x : List Refusal). IsFirst e x)
      (sym (ap (list_refusals known in_function in_loop) (unit_list_of-split items i item below read)
      ∙ appended-refusals (unit_list_of (take i items)) (Item (unit_statement_of item) (unit_list_of (drop (suc i) items)))))
      (IsFirst-rest e _ _ none (IsFirst-front e _ _ is))

-- ---- functions

-- a function whose name an earlier one has
pub function_twice : (earlier : List Function) (function : Function) (place : ℕ) → place_among (last_first earlier) function.symbol ≡ Some place →
    IsFirst (told.FunctionTwice function.line) (function_refusals (last_first earlier) (function_of function))
function_twice earlier function place at =
    let known = arity-found earlier function.symbol place function at in
    let inside = list_refusals (arity (last_first earlier)) true false (unit_list_of function.items) in
    subst (λ (o : Option ℕ). IsFirst (told.FunctionTwice function.line) (refused_if (is_some o) (FunctionTwice function.line) ++ inside)) (sym known)
    (IsFirst-made (told.FunctionTwice function.line) (FunctionTwice function.line) inside refl)

-- the refusals of any other are those of its statements
pub function_once : (earlier : List Function) (function : Function) → place_among (last_first earlier) function.symbol ≡ None →
    list_refusals (arity (last_first earlier)) true false (unit_list_of function.items) ≡ function_refusals (last_first earlier) (function_of function)
function_once earlier function at =
    let inside = list_refusals (arity (last_first earlier)) true false (unit_list_of function.items) in
    sym (ap (λ (o : Option ℕ). refused_if (is_some o) (FunctionTwice function.line) ++ inside) (arity-unfound (last_first earlier) function.symbol at))

-- one more function that is not refused
pub none_more_functions : (functions : List Function) (i : ℕ) (function : Function) → i < length functions → function ≡ get_or functions i function →
    functions_refusals (last_first (take i functions)) ≡ [] → function_refusals (last_first (take i functions)) (function_of function) ≡ [] →
    functions_refusals (last_first (take (i + 1) functions)) ≡ []
unfolding functions_refusals
none_more_functions functions i function below read none other =
    ap functions_refusals (last_first-more functions i function below read) ∙ none_both _ _ none other

-- the refusals of functions begin with those of the earlier ones
record Begin (others earlier : List UnitFunction) : Type 0 where
  more : List Refusal
  is : functions_refusals (others ++ earlier) ≡ functions_refusals earlier ++ more

begin : (others earlier : List UnitFunction) → Begin others earlier
unfolding functions_refusals
begin [] earlier = record { more = []; is = sym (append-nil (functions_refusals earlier)) }
begin (last ∷ others) earlier =
    let rest = begin others earlier in
    record {
      more = rest.more ++ function_refusals (others ++ earlier) last;
      is = ap (λ (x : List Refusal). x ++ function_refusals (others ++ earlier) last) rest.is
          ∙ append_assoc (functions_refusals earlier) rest.more (function_refusals (others ++ earlier) last);
    }

-- the first refusal of functions, after some that are not refused
pub first_more_functions : (e : InlineError) (functions : List Function) (i : ℕ) (function : Function) → i < length functions → function ≡ get_or functions i function →
    functions_refusals (last_first (take i functions)) ≡ [] → IsFirst e (function_refusals (last_first (take i functions)) (function_of function)) →
    IsFirst e (functions_refusals (last_first functions))
unfolding functions_refusals
first_more_functions e functions i function below read none is =
    let parts = begin (last_first (drop (i + 1) functions)) (last_first (take (i + 1) functions)) in
    subst (λ (x : List Refusal). IsFirst e x) (sym (ap functions_refusals (last_first-split functions (i + 1)) ∙ parts.is))
    (IsFirst-front e _ parts.more (subst (λ (x : List UnitFunction). IsFirst e (functions_refusals x)) (sym (last_first-more functions i function below read)) (IsFirst-rest e _ _ none is)))
