-- Nodes that are counted.
use Rattle.std.proofs.Common.{◌≡◌, ◌⊎◌, inl, inr, ℕ, suc, ◌+◌, ◌≤◌, Bool, true, false, List, length, get_or, Some, sym, ◌∙◌, ap, subst, arith, true≢false}
use Rattle.std.specs.Prelude.{slice_get}
use Rattle.std.proofs.lemmas.Option.{slice_get_within, slice_get-get_or}
use Rattle.pc_flow.specs.declared.node.FlowNode.{FlowNode}
use Rattle.pc_flow.specs.FlowGraph.{FlowGraph}
use Rattle.pc_scalar.specs.Leaves.{Leaves}
use Rattle.pc_scalar.specs.LoopTests.{KeepsLoopTests}
use Rattle.pc_scalar.specs.Tally.{counted, AreMany, None_below, One_is, One_is_not, IsWorkedOn}
use Rattle.pc_scalar.specs.models.Counted.{IsReachedAnd, Differ, differs_from, TellByOperands}
use Rattle.pc_scalar.specs.models.Met.{AreReached}
use Rattle.pc_scalar.proofs.Operands.{differs_not}

-- as many are such as are so by another name
pub many_same : (Is Also : ℕ → Type 0) → ((at : ℕ) → Is at → Also at) → ((at : ℕ) → Also at → Is at) → (bound many : ℕ) → AreMany Is bound many → AreMany Also bound many
many_same Is Also to from _ _ None_below = None_below
many_same Is Also to from _ _ (One_is {bound = bound} {many = many} rest here) = One_is (many_same Is Also to from bound many rest) (to bound here)
many_same Is Also to from _ _ (One_is_not {bound = bound} {many = many} rest apart) = One_is_not (many_same Is Also to from bound many rest) (λ h. apart (from bound h))

-- one number more is such
one_more : (Is : ℕ → Type 0) (bound many : ℕ) → AreMany Is bound many → Is bound → AreMany Is (bound + 1) (many + 1)
one_more Is bound many rest here =
    let next : suc bound ≡ bound + 1 = omega arith in
    let more : suc many ≡ many + 1 = omega arith in
    subst (λ (b : ℕ). AreMany Is b (many + 1)) next (subst (AreMany Is (suc bound)) more (One_is rest here))

-- or is not
none_more : (Is : ℕ → Type 0) (bound many : ℕ) → AreMany Is bound many → (Is bound → ⊥) → AreMany Is (bound + 1) many
none_more Is bound many rest apart = let next : suc bound ≡ bound + 1 = omega arith in subst (λ (b : ℕ). AreMany Is b many) next (One_is_not rest apart)

-- a count of one number more
pub counted_next : (Is : ℕ → Type 0) (bound many more : ℕ) → AreMany Is bound many → (Is bound × (more ≡ many + 1)) ⊎ ((Is bound → ⊥) × (more ≡ many)) → AreMany Is (bound + 1) more
counted_next Is bound many more rest (inl h) = subst (AreMany Is (bound + 1)) (sym h.1) (one_more Is bound many rest h.0)
counted_next Is bound many more rest (inr h) = subst (AreMany Is (bound + 1)) (sym h.1) (none_more Is bound many rest h.0)

-- no more are such than there are numbers
pub few_are : (Is : ℕ → Type 0) (bound many : ℕ) → AreMany Is bound many → many ≤ bound
few_are Is _ _ None_below = omega arith
few_are Is _ _ (One_is {bound = bound} {many = many} rest here) = let few = few_are Is bound many rest in omega (arith, few)
few_are Is _ _ (One_is_not {bound = bound} {many = many} rest apart) = let few = few_are Is bound many rest in omega (arith, few)

-- a pass that leaves such a graph, and whose count rose so, does what it is to do
pub leaves : (IsLeft : FlowGraph → Type 0) (old new : FlowGraph) (before now many : ℕ) → IsLeft new → KeepsLoopTests old new
    → AreMany (IsWorkedOn old new) (length old.nodes) many → now ≡ counted before many → Leaves IsLeft old new before now
leaves IsLeft old new before now many left tests are rose =
    record { left = left; loop_tests = tests; tallied = record { many = many; are_many = are; rose = rose } }

-- ---- nodes that can be reached and pass a test

pub does_pass : (test : ℕ → FlowNode → Bool) (flow : FlowGraph) (flags : List Bool) (at : ℕ) (node : FlowNode) → AreReached flow flags → slice_get flags at ≡ Some true
    → slice_get flow.nodes at ≡ Some node → test at node ≡ true → IsReachedAnd test flow at
does_pass test flow flags at node are flag there e = record { reached = are.only at flag; node = node; there = there; passes = e }

pub does_not_pass : (test : ℕ → FlowNode → Bool) (flow : FlowGraph) (at : ℕ) (node : FlowNode) → slice_get flow.nodes at ≡ Some node → test at node ≡ false
    → IsReachedAnd test flow at → ⊥
does_not_pass test flow at node there e h = let same : node ≡ h.node = (let a = h.there in cc) in let both = sym (ap (test at) same) ∙ e in let is = h.passes in cc

pub is_not_reached : (test : ℕ → FlowNode → Bool) (flow : FlowGraph) (flags : List Bool) (at : ℕ) → AreReached flow flags → slice_get flags at ≡ Some false
    → IsReachedAnd test flow at → ⊥
is_not_reached test flow flags at are flag h = let is = are.all at h.reached in cc

pub ruleset counting_laws = (does_pass, does_not_pass, is_not_reached)

-- ---- places at which nodes differ

module _ (old new : List FlowNode) (tell : TellByOperands old new) (at : ℕ) (node default : FlowNode) (was : slice_get old at ≡ Some node) where
  stands_there : slice_get new at ≡ Some (get_or new at default)
  stands_there = slice_get-get_or new at default (let there = slice_get_within old at node was in omega (arith, there, tell.as_many))

  -- a node with other operands differs
  pub differ_at : (read : List FlowNode) → read ≡ new → (b : Bool) → b ≡ differs_from node (get_or read at default) → b ≡ true → Differ old new at
  differ_at read is b told e = record {
    before = node;
    after = get_or new at default;
    was = was;
    stands = stands_there;
    other = λ same. true≢false (sym e ∙ told ∙ ap (λ (l : List FlowNode). differs_from node (get_or l at default)) is ∙ ap (differs_from node) same ∙ differs_not node);
  }

  -- and none else
  pub alike_at : (read : List FlowNode) → read ≡ new → (b : Bool) → b ≡ differs_from node (get_or read at default) → b ≡ false → Differ old new at → ⊥
  alike_at read is b told e h =
      let alike = sym (ap (λ (l : List FlowNode). differs_from node (get_or l at default)) is) ∙ sym told ∙ e in
      let also = h.was in
      let there = h.stands in
      let stands = stands_there in
      let before : node ≡ h.before = (cc) in
      let after : get_or new at default ≡ h.after = (cc) in
      h.other (sym after ∙ tell.each at node (get_or new at default) was stands_there alike ∙ before)
