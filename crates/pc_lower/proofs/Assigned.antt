-- Assignments that are lowered part by part: what a part may take for granted, and what the parts together give.
use Rattle.std.proofs.Common.{ℕ, ◌+◌, ◌<◌, List, length, Option, Some, None, refl, arith}
use Rattle.pc_word.specs.declared.item.Item.TheVariants.{Copy, Load, Store}
use Rattle.pc_word.specs.declared.item.Operand.{Operand}
use Rattle.pc_word.specs.declared.item.Operand.TheVariants.{Name}
use Rattle.pc_word.specs.SourceLimits.{most_scalars}
use Rattle.pc_syntax.specs.declared.operator.BinaryOp.{BinaryOp}
use Rattle.pc_syntax.specs.Source.{SourceExpression, Variable, Combined}
use Rattle.pc_check.specs.Needs.{hold}
use Rattle.pc_check.specs.Sizes.{expression_size, operator_size}
use Rattle.pc_flow.specs.FlowGraph.{IsVariable, ItemFits}
use Rattle.pc_lower.specs.Lowers.{temporary, held, Gives, Bounds, Combines, Does, Puts, Assigns}
use Rattle.pc_lower.specs.models.Drafts.{Draft}
use Rattle.pc_lower.specs.models.Fills.{Lays}
use Rattle.pc_lower.specs.models.LowersExpression.{IsHeld, LaysExpression}
use Rattle.pc_lower.proofs.Fills.{lays_both, lays_as}
use Rattle.pc_lower.proofs.Lowered.{value_fits}

-- where the value of an expression is, there is a variable or a literal
pub held_value : {arrays : List ℕ} {e : SourceExpression} {t : ℕ} → IsHeld arrays e t → IsVariable (held e t)
held_value {arrays} {e} {t} h = value_fits e t (length arrays) h.slots h.temporaries

-- a store fits
pub store_fits : (array arrays : ℕ) (index value : Operand) → array < arrays → IsVariable index → IsVariable value → ItemFits arrays (Store array index value)
store_fits array arrays index value there h k = record { reads = (h, (k, tt)); writes = tt; array = there }

-- a scalar that is changed
pub lays_compound : {a b c d : Draft} {m n j to : ℕ} {inside : Option ℕ} (scalar line at q : ℕ) (op : BinaryOp) (v : SourceExpression) → scalar < most_scalars
    → Lays a b 1 j to (λ flow. Does flow inside j (Copy scalar (Name 64)) q)
    → Lays b c (operator_size op) n j (λ flow. Combines flow inside op at (temporary 0) (Name scalar) (held v 0) n j)
    → LaysExpression v 0 m n n inside c d
    → Lays a d (expression_size v + operator_size op + 1) m to (λ flow. Puts flow inside scalar (Combined op at (Variable scalar line) v) m q)
lays_compound {m = m} {n = n} {j = j} {inside = inside} scalar line at q op v small copy operation value =
    lays_as _ (λ flow. Puts flow inside scalar (Combined op at (Variable scalar line) v) m q) (lays_both (lays_both copy operation) value) (omega arith)
    (λ flow h. (j, small, (m, n, (small, refl), h.1, h.0.1), h.0.0))

-- an element that is set
pub lays_store : {a b c d e : Draft} {p m n o to : ℕ} {inside : Option ℕ} (array line bracket at q : ℕ) (i v : SourceExpression)
    → Lays a b 1 o to (λ flow. Does flow inside o (Store array (held i 0) (held v (hold i))) q)
    → Lays b c 3 n o (λ flow. Bounds flow inside array bracket (temporary (hold i + hold v)) (held i 0) n o)
    → LaysExpression v (hold i) m n n inside c d → LaysExpression i 0 p m m inside d e
    → Lays a e (expression_size i + expression_size v + 4) p to (λ flow. Assigns flow inside array line (Some i) bracket None at v p q)
lays_store {p = p} {m = m} {n = n} {o = o} {inside = inside} array line bracket at q i v store bounds value index =
    lays_as _ (λ flow. Assigns flow inside array line (Some i) bracket None at v p q)
    (lays_both (lays_both (lays_both store bounds) value) index) (omega arith) (λ flow h. (m, n, o, h.1, h.0.1, h.0.0.1, h.0.0.0))

-- what is done with the old value of an element
pub lays_change : {a b c d : Draft} {o r v to : ℕ} {inside : Option ℕ} (array at q t : ℕ) (op : BinaryOp) (index : Operand) (x : SourceExpression)
    → Lays a b 1 v to (λ flow. Does flow inside v (Store array index (Name (64 + t))) q)
    → Lays b c (operator_size op) r v (λ flow. Combines flow inside op at (temporary t) (Name (64 + t)) (held x (t + 1)) r v)
    → LaysExpression x (t + 1) o r r inside c d
    → Lays a d (expression_size x + operator_size op + 1) o to (λ flow. (m n : ℕ) × Gives flow inside x (t + 1) o m
    × Combines flow inside op at (temporary t) (Name (temporary t)) (held x (t + 1)) m n × Does flow inside n (Store array index (Name (temporary t))) q)
lays_change {o = o} {r = r} {v = v} {inside = inside} array at q t op index x store operation value =
    lays_as _ (λ flow. (m n : ℕ) × Gives flow inside x (t + 1) o m
    × Combines flow inside op at (temporary t) (Name (temporary t)) (held x (t + 1)) m n × Does flow inside n (Store array index (Name (temporary t))) q)
    (lays_both (lays_both store operation) value) (omega arith) (λ flow h. (r, v, h.1, h.0.1, h.0.0))

-- an element that is changed
pub lays_update : {a b c d : Draft} {p m o to : ℕ} {inside : Option ℕ} (array line bracket at q : ℕ) (op : BinaryOp) (i x : SourceExpression)
    → Lays a b (expression_size x + operator_size op + 1) o to (λ flow. (r v : ℕ) × Gives flow inside x (hold i + 1) o r
    × Combines flow inside op at (temporary (hold i)) (Name (temporary (hold i))) (held x (hold i + 1)) r v
    × Does flow inside v (Store array (held i 0) (Name (temporary (hold i)))) q)
    → Lays b c 4 m o (λ flow. (n : ℕ) × Bounds flow inside array bracket (temporary (hold i)) (held i 0) m n
    × Does flow inside n (Load (temporary (hold i)) array (held i 0)) o)
    → LaysExpression i 0 p m m inside c d
    → Lays a d (expression_size i + expression_size x + (operator_size op + 5)) p to (λ flow. Assigns flow inside array line (Some i) bracket (Some op) at x p q)
lays_update {p = p} {m = m} {o = o} {inside = inside} array line bracket at q op i x change load index =
    lays_as _ (λ flow. Assigns flow inside array line (Some i) bracket (Some op) at x p q) (lays_both (lays_both change load) index) (omega arith)
    (λ flow h. (m, h.0.1.0, o, h.0.0.0, h.0.0.1, h.1, h.0.1.1, h.0.1.2, h.0.0.2, h.0.0.3, h.0.0.4))
