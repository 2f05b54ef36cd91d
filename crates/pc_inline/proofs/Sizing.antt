-- Sizes of lists from the front, and sizes whose numbers stop at the greatest.
use Rattle.std.proofs.Common.{◌≡◌, refl, sym, ap, subst, ◌∙◌, ℕ, zero, suc, ◌+◌, ◌<◌, ◌≤◌, min, max, Bool, List, [], ◌∷◌, ◌++◌, Option, map, length, take, get_or, arith}
use Rattle.std.proofs.lemmas.List.{take_more, map-append, length-map, length-take}
use Rattle.pc_syntax.specs.declared.expression.Expr.{Expr}
use Rattle.pc_syntax.specs.declared.statement.Stmt.{Stmt}
use Rattle.pc_syntax.specs.Source.{SourceExpression}
use Rattle.pc_syntax.specs.Erasure.{expression_of}
use Rattle.pc_syntax.specs.Unit.{UnitList, Finish, Item, unit_appended}
use Rattle.pc_syntax.specs.UnitErasure.{unit_statement_of, unit_list_of}
use Rattle.pc_calls.specs.Measures.{Size, Extent, no_size, together, around, extent}
use Rattle.pc_calls.specs.Counted.{FunctionSize, arguments_size, counted, counted_list, placed_size}
use Rattle.pc_inline.specs.declared.size.Size as told
use Rattle.pc_inline.specs.declared.size.Extent as expressions
use Rattle.pc_inline.specs.models.Sized.{IsSize}
use Rattle.pc_inline.proofs.Rows.{unit_list_of-more}

none_together : (z : Size) → together no_size z ≡ z
none_together z = λ i. record { count = zero_plus z.count i; nodes = zero_plus z.nodes i; height = zero_max z.height i }
  where
    zero_max : (a : ℕ) → max 0 a ≡ a
    zero_max a = grind arith

    zero_plus : (a : ℕ) → 0 + a ≡ a
    zero_plus a = omega arith

together_none : (z : Size) → together z no_size ≡ z
together_none z = λ i. record { count = plus_zero z.count i; nodes = plus_zero z.nodes i; height = max_zero z.height i }
  where
    plus_zero : (a : ℕ) → a + 0 ≡ a
    plus_zero a = omega arith

    max_zero : (a : ℕ) → max a 0 ≡ a
    max_zero a = grind arith

together_again : (a b c : Size) → together (together a b) c ≡ together a (together b c)
together_again a b c = λ i. record { count = plus a.count b.count c.count i; nodes = plus a.nodes b.nodes c.nodes i; height = greatest a.height b.height c.height i }
  where
    plus : (a b c : ℕ) → a + b + c ≡ a + (b + c)
    plus a b c = omega arith

    greatest : (a b c : ℕ) → max (max a b) c ≡ max a (max b c)
    greatest a b c = grind arith

-- ---- arguments

no_arguments : (count : ℕ) → arguments_size count [] ≡ no_size
no_arguments zero = refl
no_arguments (suc count) = refl

-- one more argument, where a parameter is left, and where none is
arguments-in : (count : ℕ) (front : List SourceExpression) (e : SourceExpression) → length front < count →
    arguments_size count (front ++ e ∷ []) ≡ together (arguments_size count front) (around (extent e) no_size)
arguments-in zero front e within = absurd (omega (arith, within))
arguments-in (suc count) [] e within =
    ap (together (around (extent e) no_size)) (no_arguments count) ∙ together_none (around (extent e) no_size) ∙ sym (none_together (around (extent e) no_size))
arguments-in (suc count) (first ∷ front) e within =
    ap (together (around (extent first) no_size)) (arguments-in count front e (omega (arith, within)))
    ∙ sym (together_again (around (extent first) no_size) (arguments_size count front) (around (extent e) no_size))

arguments-out : (count : ℕ) (front : List SourceExpression) (e : SourceExpression) → count ≤ length front →
    arguments_size count (front ++ e ∷ []) ≡ arguments_size count front
arguments-out zero front e past = refl
arguments-out (suc count) [] e past = absurd (omega (arith, past))
arguments-out (suc count) (first ∷ front) e past = ap (together (around (extent first) no_size)) (arguments-out count front e (omega (arith, past)))

-- the same of the trees of a list
trees-more : (arguments : List Expr) (i : ℕ) (argument : Expr) → i < length arguments → argument ≡ get_or arguments i argument →
    map expression_of (take (i + 1) arguments) ≡ map expression_of (take i arguments) ++ expression_of argument ∷ []
trees-more arguments i argument below read =
    ap (map expression_of) (take_more arguments i argument below ∙ ap (λ (x : Expr). take i arguments ++ x ∷ []) (sym read))
    ∙ map-append expression_of (take i arguments) (argument ∷ [])

trees-length : (arguments : List Expr) (i : ℕ) → i < length arguments → length (map expression_of (take i arguments)) ≡ i
trees-length arguments i below = length-map (take i arguments) expression_of ∙ length-take i arguments ∙ omega (arith, below)

pub argument_in : (count : ℕ) (arguments : List Expr) (i : ℕ) (argument : Expr) → i < length arguments → argument ≡ get_or arguments i argument → i < count →
    arguments_size count (map expression_of (take (i + 1) arguments)) ≡ together (arguments_size count (map expression_of (take i arguments))) (around (extent (expression_of argument)) no_size)
argument_in count arguments i argument below read within =
    ap (arguments_size count) (trees-more arguments i argument below read)
    ∙ arguments-in count (map expression_of (take i arguments)) (expression_of argument) (let long = trees-length arguments i below in omega (arith, long, within))

pub argument_out : (count : ℕ) (arguments : List Expr) (i : ℕ) (argument : Expr) → i < length arguments → argument ≡ get_or arguments i argument → count ≤ i →
    arguments_size count (map expression_of (take (i + 1) arguments)) ≡ arguments_size count (map expression_of (take i arguments))
argument_out count arguments i argument below read past =
    ap (arguments_size count) (trees-more arguments i argument below read)
    ∙ arguments-out count (map expression_of (take i arguments)) (expression_of argument) (let long = trees-length arguments i below in omega (arith, long, past))

-- ---- statements

module _ (known : ℕ → Option FunctionSize) (in_function : Bool) where
  counted-appended : (front rest : UnitList) → counted_list known in_function (unit_appended front rest) ≡ together (counted_list known in_function front) (counted_list known in_function rest)
  unfolding counted
  counted-appended Finish rest = sym (none_together (counted_list known in_function rest))
  counted-appended (Item first others) rest =
      ap (together (placed_size known in_function first (counted known in_function first))) (counted-appended others rest)
      ∙ sym (together_again (placed_size known in_function first (counted known in_function first)) (counted_list known in_function others) (counted_list known in_function rest))

  -- one more statement
  pub counted-more : (items : List Stmt) (i : ℕ) (item : Stmt) → i < length items → item ≡ get_or items i item →
      counted_list known in_function (unit_list_of (take (i + 1) items))
      ≡ together (counted_list known in_function (unit_list_of (take i items))) (placed_size known in_function (unit_statement_of item) (counted known in_function (unit_statement_of item)))
  unfolding counted
  counted-more items i item below read =
      ap (counted_list known in_function) (unit_list_of-more items i item below read)
      ∙ counted-appended (unit_list_of (take i items)) (Item (unit_statement_of item) Finish)
      ∙ ap (together (counted_list known in_function (unit_list_of (take i items))))
      (together_none (placed_size known in_function (unit_statement_of item) (counted known in_function (unit_statement_of item))))

-- ---- numbers that stop

-- sizes that are put together
pub sized_together : (x y z : told.Size) (a b c : Size) → IsSize x a → IsSize y b → z.count ≡ min (x.count + y.count) 4294967295 →
    z.nodes ≡ min (x.nodes + y.nodes) 4294967295 → z.height ≡ max x.height y.height → c ≡ together a b → IsSize z c
sized_together x y z a b c one other count nodes height is =
    subst (λ (s : Size). IsSize z s) (sym is)
    (omega (arith, one.0, other.0, count), omega (arith, one.1, other.1, nodes), omega (arith, one.2, other.2, height))

-- one expression, as a statement of its own
pub sized_alone : (e : expressions.Extent) (z : told.Size) (of : Extent) → e.nodes ≡ min of.nodes 4294967295 → e.high ≡ min of.high 4294967295 →
    z.count ≡ min (0 + 1) 4294967295 → z.nodes ≡ min (e.nodes + 0) 4294967295 → z.height ≡ min (max e.high 0 + 1) 4294967295 → IsSize z (around of no_size)
sized_alone e z of nodes high count more height = (omega (arith, count), omega (arith, nodes, more), omega (arith, high, height))

-- statements with an expression round them
pub sized_around : (e : expressions.Extent) (x z : told.Size) (of : Extent) (a : Size) → e.nodes ≡ min of.nodes 4294967295 → e.high ≡ min of.high 4294967295 → IsSize x a →
    z.count ≡ min (x.count + 1) 4294967295 → z.nodes ≡ min (e.nodes + x.nodes) 4294967295 → z.height ≡ min (max e.high x.height + 1) 4294967295 → IsSize z (around of a)
sized_around e x z of a nodes high is count more height = (omega (arith, is.0, count), omega (arith, is.1, nodes, more), omega (arith, is.2, high, height))
