use Rattle.std.proofs.Common.{◌≡◌, ℕ, ◌<◌, length, Option, Some, sym, ◌∙◌, ap, subst, arith}
use Rattle.std.specs.Prelude.{IfSome}
use Rattle.pc_word.proofs.Lists.{set_length}
use Rattle.pc_regions.specs.models.Entering.{depth_bound, lesser, header_at, Enters}
use Rattle.pc_regions.proofs.LoopsEntered.{round_there, round_lower, step_same, step_none, step_outside, step_inside, below_some, below_none}
use Rattle.pc_regions.proofs.headers.enter.Goals as goal
use Rattle.pc_regions.proofs.headers.enter.Goals.{in_default-outside-via-in-Some-outside+else-number-other, in_default-outside-via-in_default-outside}

pub returns-then-number-other-2-clause-entered : goal.returns-then-number-other-2-clause-entered
returns-then-number-other-2-clause-entered c inner e =
    let same = c.in-Some-outside.is ∙ ap (λ (n : ℕ). Some n) (sym c.if-number-other-2.true) in
    c.loop-inner.invariant.goes_on inner e c.loop-inner.headers
    (step_same c.args.flow.now.loops c.requires.kept.outer_first c.args.to c.in-Some.number c.loop-inner.inner c.loop-inner.outside c.loop-inner.headers c.in-Some.is same)

pub loop-inner-smaller-then-number-other : goal.loop-inner-smaller-then-number-other
loop-inner-smaller-then-number-other c =
    let less = round_lower c.args.flow.now.loops c.requires.kept.outer_first c.args.to c.in-Some-outside.other c.outer_loop-outside.result c.outer_loop-outside.ensures in
    let inner = ap depth_bound c.in-Some.is in
    let outside = ap depth_bound c.in-Some-outside.is in
    omega (arith, less, inner, outside)

-- a loop that is there
loop_there : (loops other : ℕ) (outside : Option ℕ) → outside ≡ Some other → IfSome outside (λ loop. loop < loops) → other < loops
loop_there loops other outside e h = subst (λ (o : Option ℕ). IfSome o (λ loop. loop < loops)) e h

pub loop-inner-preserved-then-number-other : goal.loop-inner-preserved-then-number-other
loop-inner-preserved-then-number-other c =
    let loops = c.args.flow.now.loops in
    let first = c.requires.kept.outer_first in
    let there = loop_there (length loops) c.in-Some-outside.other c.loop-inner.outside c.in-Some-outside.is c.loop-inner.invariant.outside_there in
    let less : c.in-Some.number < c.in-Some-outside.other = omega (arith, c.if-number-other.true, c.if-number-other-2.false) in
    record {
      kept = c.requires.kept;
      as_many = c.loop-inner.invariant.as_many;
      same = c.loop-inner.invariant.same;
      inner_there = loop_there (length loops) c.in-Some.number c.loop-inner.inner c.in-Some.is c.loop-inner.invariant.inner_there;
      outside_there = round_there loops first c.args.to c.in-Some-outside.other c.outer_loop-outside.result c.outer_loop-outside.ensures there;
      goes_on = λ inner e final h. c.loop-inner.invariant.goes_on inner e final
          (step_outside loops first c.args.to c.in-Some.number c.in-Some-outside.other c.loop-inner.inner c.loop-inner.outside c.outer_loop-outside.result c.loop-inner.headers final
          c.in-Some.is c.in-Some-outside.is less c.outer_loop-outside.ensures h);
    }

-- the edge comes from the same loop still, which has a smaller number, or from none
comes_below : (c : goal.After-outer_loop-inner) → (c.in_default-outside.outside ≡ c.loop-inner.outside) × IfSome c.loop-inner.outside (λ other. other < c.in-Some.number)
comes_below c = elim c.in_default-outside.branch [
  | in_default-outside-via-in-Some-outside+else-number-other w ↦
      (w.outside-is ∙ sym w.in-Some-outside.is, below_some c.loop-inner.outside w.in-Some-outside.other c.in-Some.number w.in-Some-outside.is w.if-number-other.false)
  | in_default-outside-via-in_default-outside w ↦ (w.outside-is, below_none c.loop-inner.outside c.in-Some.number w.in_default-outside.is)
]

pub loop-inner-smaller : goal.loop-inner-smaller
loop-inner-smaller c =
    let less = round_lower c.args.flow.now.loops c.requires.kept.outer_first c.args.to c.in-Some.number c.outer_loop-inner.result c.outer_loop-inner.ensures in
    let inner = ap depth_bound c.in-Some.is in
    let outside = ap depth_bound (comes_below c).0 in
    omega (arith, less, inner, outside)

pub loop-inner-preserved : goal.loop-inner-preserved
loop-inner-preserved c =
    let loops = c.args.flow.now.loops in
    let first = c.requires.kept.outer_first in
    let there = loop_there (length loops) c.in-Some.number c.loop-inner.inner c.in-Some.is c.loop-inner.invariant.inner_there in
    let longer = ap (λ l. length l) c.lower.ensures ∙ set_length c.loop-inner.headers c.in-Some.number (Some (lesser (header_at c.loop-inner.headers c.in-Some.number) c.args.to)) in
    let below = comes_below c in
    record {
      kept = c.requires.kept;
      as_many = longer ∙ c.loop-inner.invariant.as_many;
      same = longer ∙ c.loop-inner.invariant.same;
      inner_there = round_there loops first c.args.to c.in-Some.number c.outer_loop-inner.result c.outer_loop-inner.ensures there;
      outside_there = subst (λ (o : Option ℕ). IfSome o (λ loop. loop < length loops)) (sym below.0) c.loop-inner.invariant.outside_there;
      goes_on = λ inner e final h. c.loop-inner.invariant.goes_on inner e final
          (step_inside loops first c.args.to c.in-Some.number c.loop-inner.inner c.loop-inner.outside c.outer_loop-inner.result c.loop-inner.headers c.lower.new.headers final
          c.in-Some.is (subst (λ (n : ℕ). c.in-Some.number < n) (sym c.loop-inner.invariant.as_many) there) below.1 c.outer_loop-inner.ensures c.lower.ensures
          (subst (λ (o : Option ℕ). Enters loops c.outer_loop-inner.result o c.args.to c.lower.new.headers final) below.0 h));
    }

pub returns-clause-entered : goal.returns-clause-entered
returns-clause-entered c inner e = c.loop-inner.invariant.goes_on inner e c.loop-inner.headers
    (step_none c.args.flow.now.loops c.requires.kept.outer_first c.args.to c.loop-inner.inner c.loop-inner.outside c.loop-inner.headers c.in_default.is)
