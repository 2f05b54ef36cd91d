-- What lowering a statement owes and gives.
use Rattle.std.specs.Prelude.{◌≡◌, ℕ, ◌+◌, ◌<◌, ◌≤◌, List, [], ◌++◌, length, Option, Some, None, slice_get, slice_index}
use Rattle.pc_syntax.specs.Source.{SourceExpression, SourceStatement, OptionalStatement, SourceList}
use Rattle.pc_check.specs.Sizes.{expression_size, statement_size, branch_size, list_size}
use Rattle.pc_word.specs.SourceLimits.{most_nodes}
use Rattle.pc_word.specs.declared.loop_mark.LoopMark.{LoopMark}
use Rattle.pc_flow.specs.declared.node.FlowNode.{FlowNode}
use Rattle.pc_flow.specs.FlowGraph.{FlowGraph, IsTarget}
use Rattle.pc_lower.specs.Lowers.{held, Gives, Tests, TestsTurn, Implements, ImplementsOptional, ImplementsList, Lowers}
use Rattle.pc_lower.specs.SourceLoops.{SourceLoop, source_loops, with_loops, with_branch_loops, with_list_loops, loop_count, branch_loops, list_loops}
use Rattle.pc_lower.specs.declared.spot.Spot.{Spot}
use Rattle.pc_lower.specs.declared.spot.Laid.{Laid}
use Rattle.pc_lower.specs.models.Drafts.{Draft, IsPlaced, IsTested, aimed, headed}
use Rattle.pc_lower.specs.LoopTests.{HasTest}
use Rattle.pc_lower.specs.models.Fills.{NoLoop, IsOwn, IsOr, Fills, Keeps, LaysLoops, HasRoom}
use Rattle.pc_lower.specs.models.LowersExpression.{AreLengths}

-- So many nodes and loops may be placed at a spot: there are numbers enough, and what is led to was placed.
pub record IsSpot (draft : Draft) (size loops : ℕ) (spot : Spot) : Type 0 where
  pub arrays : AreLengths draft.graph.arrays
  pub room : HasRoom draft size spot.end spot.inside
  pub next : IsPlaced draft.graph spot.next
  pub breaks : IsPlaced draft.graph spot.break_to
  pub continues : IsPlaced draft.graph spot.continue_to
  pub returns : IsPlaced draft.graph spot.return_to
  pub loops_there : spot.loops_end ≤ length draft.graph.loops
  pub numbers : loops ≤ spot.loops_end

-- ---- what is said of nodes that were placed

-- from p a condition and its test, which leads to y where the value is not 0, and else to z
pub record ConditionNodes (x : SourceExpression) (inside : Option ℕ) (y z p : ℕ) (flow : FlowGraph) : Type 0 where
  pub is : (m : ℕ) × Gives flow inside x 0 p m × Tests flow inside m (held x 0) y z

-- the header of the loop with this number is p
pub record HasHeader (flow : FlowGraph) (number p : ℕ) : Type 0 where
  pub mark : LoopMark
  pub marked : slice_get flow.loops number ≡ Some mark
  pub header : mark.header ≡ p

-- the loops that a statement adds to those before it, of which there are so many, are marked
pub record AreMarked (flow : FlowGraph) (number : ℕ) (adds : List SourceLoop → List SourceLoop) : Type 0 where
  pub before : List SourceLoop
  pub rest : List SourceLoop
  pub number_is : length before ≡ number
  pub marks : source_loops flow.loops ≡ adds before ++ rest

-- They implement a statement from p to q, where a break leads to b, a continue to c and a return to r. Its own loops are
-- numbered up to an end, and are marked; its first node is i, or j where it has none.
pub record StatementNodes (s : SourceStatement) (inside : Option ℕ) (ends i j b c r p q : ℕ) (flow : FlowGraph) : Type 0 where
  pub is : (k : ℕ) → k + loop_count s ≡ ends → AreMarked flow k (with_loops s inside) → Implements flow s inside k i j b c r p q

-- the same of a statement that may be left out
pub record OptionalNodes (s : OptionalStatement) (inside : Option ℕ) (ends i j b c r p q : ℕ) (flow : FlowGraph) : Type 0 where
  pub is : (k : ℕ) → k + branch_loops s ≡ ends → AreMarked flow k (with_branch_loops s inside) → ImplementsOptional flow s inside k i j b c r p q

-- and of statements in order
pub record ListNodes (items : SourceList) (inside : Option ℕ) (ends i j b c r p q : ℕ) (flow : FlowGraph) : Type 0 where
  pub is : (k : ℕ) → k + list_loops items ≡ ends → AreMarked flow k (with_list_loops items inside) → ImplementsList flow items inside k i j b c r p q

-- the body of a `for`, out of which a break leads, and its step, to which the body leads on
pub record RoundNodes (s : SourceStatement) (o : OptionalStatement) (inside : Option ℕ) (ends i j out b c r p q : ℕ) (flow : FlowGraph) : Type 0 where
  pub is : (k : ℕ) → k + (branch_loops o + loop_count s) ≡ ends → AreMarked flow k (λ before. with_loops s inside (with_branch_loops o inside before))
      → (n v : ℕ) × Implements flow s inside (k + branch_loops o) i v out n r p n × ImplementsOptional flow o inside k v j b c r n q

-- a `for` without its first part
pub record TurnsNodes (x : SourceExpression) (o : OptionalStatement) (s : SourceStatement) (own ends j b c r p q : ℕ) (flow : FlowGraph) : Type 0 where
  pub is : (k : ℕ) → k + (branch_loops o + loop_count s) ≡ ends → AreMarked flow k (λ before. with_loops s (Some own) (with_branch_loops o (Some own) before))
      → (m y n u v : ℕ) × HasHeader flow own p × Gives flow (Some own) x 0 p m × TestsTurn flow own m (held x 0) y q
      × Implements flow s (Some own) (k + branch_loops o) u v q n r y n × ImplementsOptional flow o (Some own) k v j b c r n p

-- the nodes before a spot's end were placed, from the start on; they implement a statement from where it begins
abbrev pub LaysStatement : SourceStatement → Spot → Laid → (old new : Draft) → Type 0
LaysStatement s spot laid old new =
    LaysLoops old new (statement_size s) laid.start spot.end (IsOwn (loop_count s) spot.loops_end)
    (StatementNodes s spot.inside spot.loops_end laid.start spot.end spot.break_to spot.continue_to spot.return_to laid.entry spot.next)

-- the same of a statement that may be left out
abbrev pub LaysOptional : OptionalStatement → Spot → Laid → (old new : Draft) → Type 0
LaysOptional s spot laid old new =
    LaysLoops old new (branch_size s) laid.start spot.end (IsOwn (branch_loops s) spot.loops_end)
    (OptionalNodes s spot.inside spot.loops_end laid.start spot.end spot.break_to spot.continue_to spot.return_to laid.entry spot.next)

-- and of statements in order
abbrev pub LaysList : SourceList → Spot → Laid → (old new : Draft) → Type 0
LaysList items spot laid old new =
    LaysLoops old new (list_size items) laid.start spot.end (IsOwn (list_loops items) spot.loops_end)
    (ListNodes items spot.inside spot.loops_end laid.start spot.end spot.break_to spot.continue_to spot.return_to laid.entry spot.next)

-- the same of the body of a `for` and its step
abbrev pub LaysRound : SourceStatement → OptionalStatement → (out : ℕ) → Spot → Laid → (old new : Draft) → Type 0
LaysRound s o out spot laid old new =
    LaysLoops old new (statement_size s + branch_size o) laid.start spot.end (IsOwn (branch_loops o + loop_count s) spot.loops_end)
    (RoundNodes s o spot.inside spot.loops_end laid.start spot.end out spot.break_to spot.continue_to spot.return_to laid.entry spot.next)

-- and of a `for` without its first part, whose number is not one of those before the end
abbrev pub LaysTurns : SourceExpression → OptionalStatement → SourceStatement → (own : ℕ) → Spot → (header : ℕ) → (old new : Draft) → Type 0
LaysTurns x o s own spot header old new =
    LaysLoops old new (expression_size x + 1 + (statement_size s + branch_size o)) header spot.end
    (IsOr own (IsOwn (branch_loops o + loop_count s) spot.loops_end))
    (TurnsNodes x o s own spot.loops_end spot.end spot.break_to spot.continue_to spot.return_to header spot.next)

-- The test of a loop was placed, and before it the condition. Where the test leads is said later, so what is told is of
-- the condition alone.
pub record LaysTurn (old new : Draft) (test : SourceExpression) (own start at : ℕ) : Type 0 where
  pub size_is : start + expression_size test ≡ at
  pub tested : HasTest new.graph at own
  pub stands : slice_get new.graph.inside at ≡ Some (Some own)
  pub fills : Fills old new start (at + 1) NoLoop
  pub gives : (final : FlowGraph) → Keeps new start at NoLoop final → Gives final (Some own) test 0 start at

-- each of so many loops before a number has a test that was placed
pub record AreTested (draft : Draft) (many ends : ℕ) : Type 0 where
  pub each : (loop : ℕ) → ends ≤ loop + many → loop < ends → IsTested draft.graph loop

-- the draft with the test of a loop aimed, and its header
abbrev pub closed : (at : ℕ) → FlowNode → (own header : ℕ) → Draft → Draft
closed at node own header draft = headed own header (aimed at node draft)

-- ---- a whole program

-- a draft for the statements of a program and the end, in which nothing was placed
pub record IsUnplaced (draft : Draft) (body : SourceList) : Type 0 where
  pub nodes : length draft.graph.nodes ≡ list_size body + 1
  pub few : list_size body < most_nodes
  pub loops : length draft.graph.loops ≡ list_loops body
  pub marked : source_loops draft.graph.loops ≡ with_list_loops body None []
  pub unranked : (i : ℕ) → slice_index draft.graph.ranks i ≡ 0
  pub ranked : draft.ranked ≡ 0
  pub arrays : AreLengths draft.graph.arrays

-- and once they were placed
pub record IsLaid (old new : Draft) (body : SourceList) (entry : ℕ) : Type 0 where
  pub counted : length new.graph.nodes ≡ length old.graph.nodes
  pub arrays : new.graph.arrays ≡ old.graph.arrays
  pub initial : new.graph.initial ≡ old.graph.initial
  pub loops : source_loops new.graph.loops ≡ source_loops old.graph.loops
  pub lowers : Lowers (record new.graph { entry = entry }) body
  pub begins : IsTarget new.graph entry
