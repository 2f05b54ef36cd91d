-- The small parts of constructs, of the nodes that were placed for them.
use Rattle.std.proofs.Common.{◌≡◌, ℕ, ◌<◌, Bool, true, List, Option, refl, sym, ◌∙◌, ap, subst}
use Rattle.std.specs.Prelude.{ℤ, pos, slice_index}
use Rattle.pc_word.specs.declared.item.Item.{Item}
use Rattle.pc_word.specs.declared.item.Item.TheVariants.{Bin, Load}
use Rattle.pc_word.specs.declared.item.Operand.{Operand}
use Rattle.pc_word.specs.declared.item.Operand.TheVariants.{Name, Lit}
use Rattle.pc_word.specs.declared.item.OpCode.TheVariants as codes
use Rattle.pc_word.specs.declared.item.TrapKind.TheVariants.{DivideByZero, OutOfBounds}
use Rattle.pc_syntax.specs.declared.operator.BinaryOp.{BinaryOp}
use Rattle.pc_syntax.specs.declared.operator.BinaryOp.TheVariants.{Div, Rem, Greater, GreaterEq}
use Rattle.pc_check.specs.Sizes.{operator_size}
use Rattle.pc_meaning.specs.Expression.{divides}
use Rattle.pc_flow.specs.FlowGraph.{IsVariable, ItemFits}
use Rattle.pc_lower.specs.Lowers.{binary_item, Operates, Bounds, Combines, Does}
use Rattle.pc_lower.specs.models.Drafts.{Draft}
use Rattle.pc_lower.specs.models.Fills.{Lays}
use Rattle.pc_lower.specs.models.LowersExpression.{Guards}
use Rattle.pc_lower.proofs.Fills.{lays_both, lays_as, lays_with_arrays}

-- a bound test: the item, the test and the trap
pub lays_bounds : {inside : Option ℕ} (a b c : Draft) (array line dest p g q to : ℕ) (index : Operand) (length : ℤ)
    → Lays a b 2 g to (λ flow. Guards flow inside (Name dest) OutOfBounds line g q)
    → Lays b c 1 p g (λ flow. Does flow inside p (Bin codes.Below dest index (Lit length)) g)
    → length ≡ pos (slice_index a.graph.arrays array)
    → Lays a c 3 p to (λ flow. Bounds flow inside array line dest index p q)
lays_bounds {inside} a b c array line dest p g q to index length l m e =
    lays_with_arrays (λ flow. Bounds flow inside array line dest index p q) (lays_both l m)
    (λ flow same h. (
      g,
      h.0.0,
      subst (λ (z : ℤ). Does flow inside p (Bin codes.Below dest index (Lit z)) g) (e ∙ ap (λ (arrays : List ℕ). pos (slice_index arrays array)) (sym same)) h.1,
      h.0.1,
      h.0.2,
    ))

-- the item for a binary operator fits
pub binary_fits : (op : BinaryOp) (dest arrays : ℕ) (a b : Operand) → dest < 96 → IsVariable a → IsVariable b → ItemFits arrays (binary_item op dest a b)
binary_fits Greater dest arrays a b h k j = record { reads = (j, (k, tt)); writes = h; array = tt }
binary_fits GreaterEq dest arrays a b h k j = record { reads = (j, (k, tt)); writes = h; array = tt }
binary_fits _ dest arrays a b h k j = record { reads = (k, (j, tt)); writes = h; array = tt }

-- a load after a bound test
pub lays_load : {a b c : Draft} {p m to : ℕ} {inside : Option ℕ} (array line within dest q : ℕ) (index : Operand)
    → Lays a b 1 m to (λ flow. Does flow inside m (Load dest array index) q)
    → Lays b c 3 p m (λ flow. Bounds flow inside array line within index p m)
    → Lays a c 4 p to (λ flow. (n : ℕ) × Bounds flow inside array line within index p n × Does flow inside n (Load dest array index) q)
lays_load {p = p} {m = m} {inside = inside} array line within dest q index load bounds =
    lays_as 4 (λ flow. (n : ℕ) × Bounds flow inside array line within index p n × Does flow inside n (Load dest array index) q)
    (lays_both load bounds) refl (λ flow h. (m, h.1, h.0))

-- an operator with a divisor has its test and a trap besides
has_divisor : (op : BinaryOp) → divides op ≡ true → 3 ≡ operator_size op
has_divisor Div e = refl
has_divisor Rem e = refl
has_divisor _ e = absurd (cc)

-- an operator with a divisor, after the test of it
pub lays_division : {inside : Option ℕ} (a b c : Draft) (op : BinaryOp) (line dest p m q to : ℕ) (left right : Operand) (item : Item)
    → Lays a b 1 m to (λ flow. Does flow inside m item q)
    → Lays b c 2 p m (λ flow. Guards flow inside right DivideByZero line p m)
    → item ≡ binary_item op dest left right → divides op ≡ true
    → Lays a c (operator_size op) p to (λ flow. Combines flow inside op line dest left right p q)
lays_division {inside} a b c op line dest p m q to left right item l g e division =
    let known = subst (λ (i : Item). Lays a b 1 m to (λ flow. Does flow inside m i q)) e l in
    lays_as (operator_size op) _ (lays_both known g) (has_divisor op division)
    (λ flow h. subst (λ (x : Bool). Operates flow inside x line right (binary_item op dest left right) p q) (sym division)
    (m, h.1.0, h.1.1, h.1.2, h.0))
