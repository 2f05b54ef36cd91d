-- The items for operators give the operators' values, and where the value of an expression is, it stays.
use Rattle.std.proofs.Common.{◌≡◌, ℕ, ◌+◌, Option, refl, arith}
use Rattle.std.specs.Prelude.{ℤ, pos, negsuc}
use Rattle.pc_word.specs.declared.item.Item.TheVariants.{Bin}
use Rattle.pc_word.specs.declared.item.Operand.{Operand}
use Rattle.pc_word.specs.declared.item.Operand.TheVariants.{Lit}
use Rattle.pc_word.specs.Word.{word_apply}
use Rattle.pc_syntax.specs.declared.operator.UnaryOp.{UnaryOp}
use Rattle.pc_syntax.specs.declared.operator.UnaryOp.TheVariants.{Minus, Flip, Not}
use Rattle.pc_syntax.specs.declared.operator.BinaryOp.{BinaryOp}
use Rattle.pc_syntax.specs.declared.operator.BinaryOp.TheVariants.{Add, Sub, Mul, Div, Rem, Shl, Shr, Less, LessEq, Greater, GreaterEq, Equal, Unequal, BitAnd, BitXor, BitOr}
use Rattle.pc_syntax.specs.Source.{SourceExpression, Literal, Variable, Input, Indexed, Prefixed, Combined, Conjunction, Disjunction, Conditional}
use Rattle.pc_word.specs.State.{State}
use Rattle.pc_word.specs.Items.{operand_value}
use Rattle.pc_meaning.specs.Expression.{prefix_value, binary_value}
use Rattle.pc_meaning.specs.Lowered.{prefix_code, binary_code}
use Rattle.pc_flow.specs.FlowGraph.{FlowGraph}
use Rattle.pc_check.specs.Needs.{hold}
use Rattle.pc_lower.specs.Lowers.{temporary, held, prefix_item, binary_item, Gives}
use Rattle.pc_lower.proofs.Walks.{Keeps}

-- the item for a binary operator
pub record BinaryItem (op : BinaryOp) (d : ℕ) (a b : Operand) : Type 0 where
  pub left : Operand
  pub right : Operand
  pub same : binary_item op d a b ≡ Bin (binary_code op) d left right
  pub value : (names : ℕ → ℤ) → word_apply (binary_code op) (operand_value names left) (operand_value names right) ≡ binary_value op (operand_value names a) (operand_value names b)

pub binary-item : (op : BinaryOp) (d : ℕ) (a b : Operand) → BinaryItem op d a b
binary-item Add d a b = record { left = a; right = b; same = refl; value = λ n. refl }
binary-item Sub d a b = record { left = a; right = b; same = refl; value = λ n. refl }
binary-item Mul d a b = record { left = a; right = b; same = refl; value = λ n. refl }
binary-item Div d a b = record { left = a; right = b; same = refl; value = λ n. refl }
binary-item Rem d a b = record { left = a; right = b; same = refl; value = λ n. refl }
binary-item Shl d a b = record { left = a; right = b; same = refl; value = λ n. refl }
binary-item Shr d a b = record { left = a; right = b; same = refl; value = λ n. refl }
binary-item Less d a b = record { left = a; right = b; same = refl; value = λ n. refl }
binary-item LessEq d a b = record { left = a; right = b; same = refl; value = λ n. refl }
binary-item Greater d a b = record { left = b; right = a; same = refl; value = λ n. refl }
binary-item GreaterEq d a b = record { left = b; right = a; same = refl; value = λ n. refl }
binary-item Equal d a b = record { left = a; right = b; same = refl; value = λ n. refl }
binary-item Unequal d a b = record { left = a; right = b; same = refl; value = λ n. refl }
binary-item BitAnd d a b = record { left = a; right = b; same = refl; value = λ n. refl }
binary-item BitXor d a b = record { left = a; right = b; same = refl; value = λ n. refl }
binary-item BitOr d a b = record { left = a; right = b; same = refl; value = λ n. refl }

-- the item for a unary operator
pub record PrefixItem (op : UnaryOp) (d : ℕ) (a : Operand) : Type 0 where
  pub left : Operand
  pub right : Operand
  pub same : prefix_item op d a ≡ Bin (prefix_code op) d left right
  pub value : (names : ℕ → ℤ) → word_apply (prefix_code op) (operand_value names left) (operand_value names right) ≡ prefix_value op (operand_value names a)

pub prefix-item : (op : UnaryOp) (d : ℕ) (a : Operand) → PrefixItem op d a
prefix-item Minus d a = record { left = Lit (pos 0); right = a; same = refl; value = λ n. refl }
prefix-item Flip d a = record { left = a; right = Lit (negsuc 0); same = refl; value = λ n. refl }
prefix-item Not d a = record { left = a; right = Lit (pos 0); same = refl; value = λ n. refl }

-- where names up to an expression's temporary are kept, so is its value
pub held-kept : (flow : FlowGraph) (loop : Option ℕ) (e : SourceExpression) (t p q : ℕ) → Gives flow loop e t p q → (old new : State) → Keeps (t + hold e) old new
    → operand_value new.names (held e t) ≡ operand_value old.names (held e t)
held-kept flow loop (Literal value) t p q g old new k = refl
held-kept flow loop (Variable scalar line) t p q g old new k = let small = g.0 in k scalar (omega arith)
held-kept flow loop (Input line) t p q g old new k = k (temporary t) (omega arith)
held-kept flow loop (Indexed array line at index) t p q g old new k = k (temporary t) (omega arith)
held-kept flow loop (Prefixed op operand) t p q g old new k = k (temporary t) (omega arith)
held-kept flow loop (Combined op at left right) t p q g old new k = k (temporary t) (omega arith)
held-kept flow loop (Conjunction left right) t p q g old new k = k (temporary t) (omega arith)
held-kept flow loop (Disjunction left right) t p q g old new k = k (temporary t) (omega arith)
held-kept flow loop (Conditional test one other) t p q g old new k = k (temporary t) (omega arith)
