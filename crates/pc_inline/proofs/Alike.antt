-- Counts by a table whose numbers stop at the greatest are the counts, stopped there.
use Rattle.std.proofs.Common.{◌≡◌, refl, subst, ℕ, Bool, true, false, List, Option, Some, None}
use Rattle.std.proofs.Common.{arith, length}
use Rattle.std.specs.Prelude.{if◌then◌else◌}
use Rattle.pc_syntax.specs.declared.unit.Target.{Target}
use Rattle.pc_syntax.specs.Source.{SourceExpression}
use Rattle.pc_syntax.specs.Unit.{UnitStatement, UnitOptional, UnitList, Block, Scalar, Array, Assign, Print, Eval, If, While, Do, For}
use Rattle.pc_syntax.specs.Unit.{Break, Continue, Return, Empty, Call, Without, With, Finish, Item}
use Rattle.pc_calls.specs.Measures.{Size, Extent, no_size, together, no_extent, leaf, around, extent}
use Rattle.pc_calls.specs.Counted.{FunctionSize, arguments_size, result_size, block_size, declarator_size, placed_size, counted, counted_optional, counted_list}
use Rattle.pc_inline.specs.models.Sized.{Alike, AlikeExtents, Like}

together-alike : (a b c d : Size) → Alike a b → Alike c d → Alike (together a c) (together b d)
together-alike a b c d one other = (omega (arith, one.0, other.0), omega (arith, one.1, other.1), omega (arith, one.2, other.2))

around-alike : (e : Extent) (a b : Size) → Alike a b → Alike (around e a) (around e b)
around-alike e a b is = (omega (arith, is.0), omega (arith, is.1), omega (arith, is.2))

same-alike : (a : Size) → Alike a a
same-alike a = (refl, refl, refl)

result-alike : (target : Option Target) (one other : Option Extent) → AlikeExtents one other → Alike (result_size target one) (result_size target other)
result-alike None None None is = same-alike no_size
result-alike (Some target) None None is = same-alike (around leaf no_size)
result-alike None (Some e) (Some f) is = (refl, omega (arith, is.0), omega (arith, is.1))
result-alike (Some target) (Some e) (Some f) is = (refl, omega (arith, is.0), omega (arith, is.1))
result-alike target None (Some f) is = absurd is
result-alike target (Some e) None is = absurd is

block-alike : (target : Option Target) (one other : Option FunctionSize) (arguments : List SourceExpression) → Like one other →
    Alike (block_size target one arguments) (block_size target other arguments)
block-alike target None None arguments is = same-alike (around no_extent no_size)
block-alike target None (Some f) arguments is = absurd is
block-alike target (Some f) None arguments is = absurd is
block-alike target (Some f) (Some g) arguments is =
    around-alike no_extent _ _ (together-alike (arguments_size f.parameters arguments) (arguments_size g.parameters arguments) _ _
    (subst (λ (n : ℕ). Alike (arguments_size f.parameters arguments) (arguments_size n arguments)) is.0 (same-alike (arguments_size f.parameters arguments)))
    (together-alike f.items g.items _ _ is.1 (result-alike target f.result g.result is.2)))

module _ (k : Bool) (known other : ℕ → Option FunctionSize) (like : (symbol : ℕ) → Like (known symbol) (other symbol)) where
  placed-alike : (s : UnitStatement) (a b : Size) → Alike a b → ((line : ℕ) (target : Option Target) (function at : ℕ) (arguments : List SourceExpression) →
      s ≡ Call line target function at arguments →
      Alike (block_size target (known function) arguments) (block_size target (other function) arguments)) → Alike (placed_size known k s a) (placed_size other k s b)
  placed-alike (Scalar symbol line initial) a b is call = same-alike (declarator_size k initial)
  placed-alike (Call line None function at arguments) a b is call = is
  placed-alike (Call line (Some target) function at arguments) a b is call = by target.declared (call line (Some target) function at arguments refl)
    where
      by : (d : Bool) → Alike (block_size (Some target) (known function) arguments) (block_size (Some target) (other function) arguments) →
          Alike (if d then together (around no_extent no_size) (block_size (Some target) (known function) arguments) else block_size (Some target) (known function) arguments)
          (if d then together (around no_extent no_size) (block_size (Some target) (other function) arguments) else block_size (Some target) (other function) arguments)
      by true is = together-alike (around no_extent no_size) (around no_extent no_size) _ _ (same-alike (around no_extent no_size)) is
      by false is = is
  placed-alike s a b is call = is

  mutual
    unfolding counted

    counted-alike : (s : UnitStatement) → Alike (counted known k s) (counted other k s)
    counted-alike (Block items) = around-alike no_extent _ _ (list-alike items)
    counted-alike (Scalar symbol line initial) = (refl, refl, refl)
    counted-alike (Array symbol line at length values) = (refl, refl, refl)
    counted-alike (Assign symbol line index bracket op at value) = (refl, refl, refl)
    counted-alike (Print line value) = (refl, refl, refl)
    counted-alike (Eval line value) = (refl, refl, refl)
    counted-alike (If line test body otherwise) =
        around-alike (extent test) _ _ (together-alike (counted known k body) (counted other k body) _ _ (counted-alike body) (optional-alike otherwise))
    counted-alike (While line test body) = around-alike (extent test) _ _ (counted-alike body)
    counted-alike (Do line body test) = around-alike (extent test) _ _ (counted-alike body)
    counted-alike (For line first test step body) =
        around-alike (extent test) _ _ (together-alike (counted_list known k first) (counted_list other k first) _ _ (list-alike first)
        (together-alike (counted_optional known k step) (counted_optional other k step) _ _ (optional-alike step) (counted-alike body)))
    counted-alike (Break line) = (refl, refl, refl)
    counted-alike (Continue line) = (refl, refl, refl)
    counted-alike (Return line value) = (refl, refl, refl)
    counted-alike Empty = (refl, refl, refl)
    counted-alike (Call line target function at arguments) = block-alike target (known function) (other function) arguments (like function)

    optional-alike : (s : UnitOptional) → Alike (counted_optional known k s) (counted_optional other k s)
    optional-alike Without = same-alike no_size
    optional-alike (With s) = counted-alike s

    pub list-alike : (items : UnitList) → Alike (counted_list known k items) (counted_list other k items)
    list-alike Finish = same-alike no_size
    list-alike (Item first rest) =
        together-alike (placed_size known k first (counted known k first)) (placed_size other k first (counted other k first)) _ _
        (placed-alike first _ _ (counted-alike first) (λ line target function at arguments is. block-alike target (known function) (other function) arguments (like function)))
        (list-alike rest)
