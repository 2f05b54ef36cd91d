-- When the nodes of a graph implement a source: from the node that comes first to the one that follows. Each of them
-- stands in the innermost loop in whose text its construct stands. Scalars are the names 0 to 63, temporaries the names
-- from 64 on.
use Rattle.std.specs.Prelude.{◌≡◌, ℕ, ◌+◌, ◌<◌, ◌≤◌, pos, negsuc, Bool, true, false, Option, Some, None, slice_get, slice_index}
use Rattle.pc_word.specs.declared.item.Item.{Item}
use Rattle.pc_word.specs.declared.item.Item.TheVariants.{Bin, Copy, Load, Store, Print, Read, More}
use Rattle.pc_word.specs.declared.item.Operand.{Operand}
use Rattle.pc_word.specs.declared.item.Operand.TheVariants.{Name, Lit}
use Rattle.pc_word.specs.declared.item.OpCode.TheVariants as codes
use Rattle.pc_word.specs.declared.item.TrapKind.{TrapKind}
use Rattle.pc_word.specs.declared.item.TrapKind.TheVariants.{DivideByZero, OutOfBounds, EndOfInput}
use Rattle.pc_syntax.specs.declared.operator.UnaryOp.{UnaryOp}
use Rattle.pc_syntax.specs.declared.operator.UnaryOp.TheVariants.{Minus, Flip, Not}
use Rattle.pc_syntax.specs.declared.operator.BinaryOp.{BinaryOp}
use Rattle.pc_syntax.specs.declared.operator.BinaryOp.TheVariants.{Greater, GreaterEq}
use Rattle.pc_syntax.specs.Source as source
use Rattle.pc_syntax.specs.Source.{SourceExpression, SourceStatement, SourceList, OptionalStatement}
use Rattle.pc_check.specs.Needs.{hold}
use Rattle.pc_check.specs.Sizes.{expression_size}
use Rattle.pc_meaning.specs.Expression.{divides}
use Rattle.pc_meaning.specs.Lowered.{prefix_code, binary_code}
use Rattle.pc_flow.specs.declared.node.FlowNode.{FlowNode}
use Rattle.pc_flow.specs.declared.node.FlowNode.TheVariants.{Op, Test, Stop, Trap}
use Rattle.pc_flow.specs.FlowGraph.{FlowGraph}
use Rattle.pc_lower.specs.SourceLoops.{loop_count, branch_loops, list_loops}

-- ---- values

-- a temporary
abbrev pub temporary : ℕ → ℕ
temporary t = 64 + t

-- where the value of an expression is, with temporaries from t on
abbrev pub held : SourceExpression → ℕ → Operand
held (source.Literal value) t = Lit value
held (source.Variable scalar line) t = Name scalar
held _ t = Name (temporary t)

-- the item for a unary operator
abbrev pub prefix_item : UnaryOp → ℕ → Operand → Item
prefix_item Minus dest a = Bin (prefix_code Minus) dest (Lit (pos 0)) a
prefix_item Flip dest a = Bin (prefix_code Flip) dest a (Lit (negsuc 0))
prefix_item Not dest a = Bin (prefix_code Not) dest a (Lit (pos 0))

-- the item for a binary operator
abbrev pub binary_item : BinaryOp → ℕ → Operand → Operand → Item
binary_item Greater dest a b = Bin (binary_code Greater) dest b a
binary_item GreaterEq dest a b = Bin (binary_code GreaterEq) dest b a
binary_item op dest a b = Bin (binary_code op) dest a b

-- ---- the first node

-- the first of so many nodes from p on is i, or j where there is none
pub record Begins (size p i j : ℕ) : Type 0 where
  pub some : 1 ≤ size → i ≡ p
  pub none : size ≡ 0 → i ≡ j

-- what has no node begins where what follows it begins
abbrev pub HasNone : (i j p q : ℕ) → Type 0
HasNone i j p q = (i ≡ j) × (p ≡ q)

module _ (flow : FlowGraph) where
  -- ---- single nodes

  -- a node stands at p, in the text of a loop or of none
  pub record IsAt (p : ℕ) (node : FlowNode) (loop : Option ℕ) : Type 0 where
    pub there : slice_get flow.nodes p ≡ Some node
    pub inside : slice_get flow.inside p ≡ Some loop

  -- a loop with this number: the line of its keyword, its header, and the loop in whose text it stands, if any
  abbrev pub IsLoop : (number line p : ℕ) → (loop : Option ℕ) → Type 0
  IsLoop number line p loop = slice_get flow.loops number ≡ Some (record { line = line; header = p; outer = loop })

  -- at p the condition of the loop with this number is tested
  abbrev pub TestsTurn : (number p : ℕ) → Operand → ℕ → ℕ → Type 0
  TestsTurn number p on on_yes on_no = IsAt p (Test on on_yes on_no (Some number)) (Some number)

  -- ---- in the text of a loop or of none

  module _ (loop : Option ℕ) where
    -- from p an item leads to q
    abbrev pub Does : ℕ → Item → ℕ → Type 0
    Does p item q = IsAt p (Op item q) loop

    -- at p a value is tested
    abbrev pub Tests : ℕ → Operand → ℕ → ℕ → Type 0
    Tests p on on_yes on_no = IsAt p (Test on on_yes on_no None) loop

    -- at p is a trap
    abbrev pub Trapping : ℕ → TrapKind → ℕ → Type 0
    Trapping p kind line = IsAt p (Trap kind line) loop

    -- ---- parts

    -- a bound test
    abbrev pub Bounds : (array line dest : ℕ) → Operand → ℕ → ℕ → Type 0
    Bounds array line dest index p q =
        (m z : ℕ) × Does p (Bin codes.Below dest index (Lit (pos (slice_index flow.arrays array)))) m
        × Tests m (Name dest) q z × Trapping z OutOfBounds line

    -- an operation, after a test of its divisor where there is one
    abbrev pub Operates : Bool → ℕ → Operand → Item → ℕ → ℕ → Type 0
    Operates true line divisor item p q =
        (m z : ℕ) × Tests p divisor m z × Trapping z DivideByZero line × Does m item q
    Operates false line divisor item p q = Does p item q

    -- a binary operator
    abbrev pub Combines : BinaryOp → ℕ → ℕ → Operand → Operand → ℕ → ℕ → Type 0
    Combines op line dest a b p q = Operates (divides op) line b (binary_item op dest a b) p q

    -- ---- expressions

    -- the nodes from p to q implement an expression, with temporaries from t on
    abbrev pub Gives : SourceExpression → ℕ → ℕ → ℕ → Type 0
    Gives (source.Literal value) t p q = p ≡ q
    Gives (source.Variable scalar line) t p q = (scalar < 64) × (p ≡ q)
    Gives (source.Input line) t p q =
        (m n z : ℕ) × Does p (More (temporary t)) m × Tests m (Name (temporary t)) n z × Trapping z EndOfInput line
        × Does n (Read (temporary t)) q
    Gives (source.Indexed array line at index) t p q =
        (m n : ℕ) × Gives index t p m × Bounds array at (temporary (t + hold index)) (held index t) m n
        × Does n (Load (temporary t) array (held index t)) q
    Gives (source.Prefixed op operand) t p q =
        (m : ℕ) × Gives operand t p m × Does m (prefix_item op (temporary t) (held operand t)) q
    Gives (source.Combined op at left right) t p q =
        (m n : ℕ) × Gives left t p m × Gives right (t + hold left) m n
        × Combines op at (temporary t) (held left t) (held right (t + hold left)) n q
    Gives (source.Conjunction left right) t p q =
        (m y z n : ℕ) × Gives left t p m × Tests m (held left t) y z × Gives right t y n
        × Does n (Bin codes.Unequal (temporary t) (held right t) (Lit (pos 0))) q × Does z (Copy (temporary t) (Lit (pos 0))) q
    Gives (source.Disjunction left right) t p q =
        (m y z n : ℕ) × Gives left t p m × Tests m (held left t) y z × Does y (Copy (temporary t) (Lit (pos 1))) q
        × Gives right t z n × Does n (Bin codes.Unequal (temporary t) (held right t) (Lit (pos 0))) q
    Gives (source.Conditional test one other) t p q =
        (m y z i j : ℕ) × Gives test t p m × Tests m (held test t) y z
        × Gives one t y i × Does i (Copy (temporary t) (held one t)) q
        × Gives other t z j × Does j (Copy (temporary t) (held other t)) q

    -- ---- assignments

    -- a value that is put into a scalar
    abbrev pub Puts : ℕ → SourceExpression → ℕ → ℕ → Type 0
    Puts scalar value p q = (m : ℕ) × (scalar < 64) × Gives value 0 p m × Does m (Copy scalar (held value 0)) q

    -- an assignment
    abbrev pub Assigns : ℕ → ℕ → Option SourceExpression → ℕ → Option BinaryOp → ℕ → SourceExpression → ℕ → ℕ → Type 0
    Assigns name line None bracket None at value p q = Puts name value p q
    Assigns name line None bracket (Some op) at value p q =
        Puts name (source.Combined op at (source.Variable name line) value) p q
    Assigns name line (Some index) bracket None at value p q =
        (m n o : ℕ) × Gives index 0 p m × Gives value (hold index) m n
        × Bounds name bracket (temporary (hold index + hold value)) (held index 0) n o
        × Does o (Store name (held index 0) (held value (hold index))) q
    Assigns name line (Some index) bracket (Some op) at value p q =
        (m n o r v : ℕ) × Gives index 0 p m × Bounds name bracket (temporary (hold index)) (held index 0) m n
        × Does n (Load (temporary (hold index)) name (held index 0)) o
        × Gives value (hold index + 1) o r
        × Combines op at (temporary (hold index)) (Name (temporary (hold index))) (held value (hold index + 1)) r v
        × Does v (Store name (held index 0) (Name (temporary (hold index)))) q

    -- a declarator
    abbrev pub Declares : ℕ → Option SourceExpression → ℕ → ℕ → Type 0
    Declares scalar None p q = (scalar < 64) × Does p (Copy scalar (Lit (pos 0))) q
    Declares scalar (Some initial) p q = Puts scalar initial p q

  -- ---- statements

  abbrev mutual
    -- The nodes from p to q implement a statement that stands in the text of a loop or of none, where a break leads to b,
    -- a continue to c and a return to r. Its own loops have the numbers from k on, in the order of their keywords. In
    -- the order of the text its first node is i, or j where it has none.
    pub Implements : SourceStatement → (loop : Option ℕ) → (k i j b c r p q : ℕ) → Type 0
    Implements (source.Scope items) loop k i j b c r p q = ImplementsList items loop k i j b c r p q
    Implements (source.ScalarDeclaration name line initial) loop k i j b c r p q = (i ≡ p) × Declares loop name initial p q
    Implements (source.ArrayDeclaration name line at length values) loop k i j b c r p q = HasNone i j p q
    Implements (source.Assignment name line index bracket op at value) loop k i j b c r p q =
        (i ≡ p) × Assigns loop name line index bracket op at value p q
    Implements (source.Printing line value) loop k i j b c r p q =
        (m : ℕ) × (i ≡ p) × Gives loop value 0 p m × Does loop m (Print (held value 0)) q
    Implements (source.Evaluation line value) loop k i j b c r p q = Begins (expression_size value) p i j × Gives loop value 0 p q
    Implements (source.Branch line test body otherwise) loop k i j b c r p q =
        (m y z u v : ℕ) × (i ≡ p) × Gives loop test 0 p m × Tests loop m (held test 0) y z
        × Implements body loop k u v b c r y q × ImplementsOptional otherwise loop (k + loop_count body) v j b c r z q
    Implements (source.WhileLoop line test body) loop k i j b c r p q =
        (m y u : ℕ) × (i ≡ p) × IsLoop k line p loop × Gives (Some k) test 0 p m × TestsTurn k m (held test 0) y q
        × Implements body (Some k) (k + 1) u j q p r y p
    Implements (source.DoLoop line body test) loop k i j b c r p q =
        (h m : ℕ) × IsLoop k line i loop × Implements body (Some k) (k + 1) i h q h r p h
        × Gives (Some k) test 0 h m × TestsTurn k m (held test 0) p q
    Implements (source.ForLoop line first test step body) loop k i j b c r p q =
        (h m y s u v : ℕ) × ImplementsList first loop (k + 1) i h b c r p h
        × IsLoop k line h loop × Gives (Some k) test 0 h m × TestsTurn k m (held test 0) y q
        × Implements body (Some k) (k + 1 + list_loops first + branch_loops step) u v q s r y s
        × ImplementsOptional step (Some k) (k + 1 + list_loops first) v j b c r s h
    Implements (source.BreakOut line) loop k i j b c r p q = HasNone i j p b
    Implements (source.ContinueOn line) loop k i j b c r p q = HasNone i j p c
    Implements (source.ReturnFrom line value) loop k i j b c r p q = Begins (expression_size value) p i j × Gives loop value 0 p r
    Implements source.Nothing loop k i j b c r p q = HasNone i j p q

    -- the same of a statement that may be left out
    pub ImplementsOptional : OptionalStatement → (loop : Option ℕ) → (k i j b c r p q : ℕ) → Type 0
    ImplementsOptional source.Absent loop k i j b c r p q = HasNone i j p q
    ImplementsOptional (source.Present statement) loop k i j b c r p q = Implements statement loop k i j b c r p q

    -- and of statements in order
    pub ImplementsList : SourceList → (loop : Option ℕ) → (k i j b c r p q : ℕ) → Type 0
    ImplementsList source.No_more loop k i j b c r p q = HasNone i j p q
    ImplementsList (source.More first rest) loop k i j b c r p q =
        (m n : ℕ) × Implements first loop k i n b c r p m × ImplementsList rest loop (k + loop_count first) n j b c r m q

  -- The nodes from the entry on implement a program: its loops are numbered from 0 on, and its end stands in none. Each
  -- node that can be reached from the entry is one of them, since each of them leads to such nodes alone.
  pub record Lowers (items : SourceList) : Type 0 where
    pub first : ℕ
    pub last : ℕ
    pub stops : IsAt last Stop None
    pub body : ImplementsList items None 0 first last last last last flow.entry last
