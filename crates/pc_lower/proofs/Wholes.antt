-- A whole program: the end is placed first, then its statements.
use Rattle.std.proofs.Common.{◌≡◌, ℕ, ◌+◌, ◌≤◌, min, List, [], length, append-nil, None, refl, sym, ◌∙◌, subst, arith}
use Rattle.std.specs.Prelude.{ℤ}
use Rattle.std.proofs.lemmas.List.{length-replicate}
use Rattle.pc_word.specs.SourceLimits.{most_nodes}
use Rattle.pc_word.specs.declared.loop_mark.LoopMark.{LoopMark}
use Rattle.pc_syntax.specs.Source.{SourceList, ResolvedProgram}
use Rattle.pc_check.specs.Sizes.{list_size, resolved_size}
use Rattle.pc_flow.specs.declared.node.FlowNode.TheVariants.{Stop}
use Rattle.pc_flow.specs.FlowGraph.{FlowGraph}
use Rattle.pc_lower.specs.Lowers.{IsAt}
use Rattle.pc_lower.specs.Lowered.{IsLowered}
use Rattle.pc_lower.specs.SourceLoops.{source_loops, loops_of, with_list_loops, list_loops}
use Rattle.pc_lower.specs.LoopTests.{TestsInside, EachTested}
use Rattle.pc_lower.specs.declared.spot.Laid.{Laid}
use Rattle.pc_lower.specs.models.Drafts.{Draft, IsPlaced, first_draft}
use Rattle.pc_lower.specs.models.Fills.{IsOwn, Lays, LaysLoops, HasRoom}
use Rattle.pc_lower.specs.models.LowersExpression.{AreLengths}
use Rattle.pc_lower.specs.models.LowersStatement.{AreMarked, IsSpot, AreTested, LaysList, IsUnplaced, IsLaid}
use Rattle.pc_lower.proofs.Drafts.{zero_at}
use Rattle.pc_lower.proofs.Fills.{lays_loops_both, room_left, placed_first}
use Rattle.pc_lower.proofs.Bounds.{list-loops_sized}
use Rattle.pc_lower.proofs.Programs.{lowered_runs_agree, lowered_runs_pass_the_trace, lowered_runs_keep_pace}

-- a draft in which nothing was placed
pub is_unplaced : (count : ℕ) (loops : List LoopMark) (arrays : List ℕ) (initial : List (List ℤ)) (body : SourceList) → count ≡ list_size body + 1 → count ≤ most_nodes
    → length loops ≡ list_loops body → source_loops loops ≡ with_list_loops body None [] → AreLengths arrays → IsUnplaced (first_draft count loops arrays initial) body
is_unplaced count loops arrays initial body e few l marked lengths = record {
  nodes = length-replicate count Stop ∙ e;
  few = omega (arith, e, few);
  loops = l;
  marked = marked;
  unranked = zero_at count;
  ranked = refl;
  arrays = lengths;
}

-- there is room for all
whole_room : {d : Draft} {body : SourceList} → IsUnplaced d body → HasRoom d (list_size body + 1) (list_size body + 1) None
whole_room is =
    let n = is.nodes in
    let few = is.few in
    let ranked = is.ranked in
    record {
      within = omega arith;
      there = omega (arith, n);
      unranked = λ i lo hi. is.unranked i;
      ranks = omega (arith, few, ranked);
      loop_there = tt;
    }

-- the spot of its statements: all lead to the end
pub whole_spot : {d d1 : Draft} {P : FlowGraph → Type 0} (last ends : ℕ) (body : SourceList) → IsUnplaced d body → last ≡ list_size body
    → Lays d d1 1 last (last + 1) P → ends ≡ min (list_loops body) 65535
    → IsSpot d1 (list_size body) (list_loops body)
    (record { end = last; next = last; break_to = last; continue_to = last; return_to = last; inside = None; loops_end = ends })
whole_spot {d} {d1} {P} last ends body is same l e =
    let room = subst (λ (n : ℕ). HasRoom d (list_size body + 1) (n + 1) None) (sym same) (whole_room is) in
    let placed = placed_first room l (omega arith) in
    let sized = list-loops_sized body in
    let few = is.few in
    let loops = is.loops in
    let as_many = l.fills.as_many_loops in
    record {
      arrays = rw l.fills.arrays is.arrays;
      room = room_left (list_size body) room l (omega arith);
      next = placed;
      breaks = placed;
      continues = placed;
      returns = placed;
      loops_there = omega (arith, e, sized, few, loops, as_many);
      numbers = omega (arith, e, sized, few);
    }

-- each loop has a test
pub each_tested : {d d1 d2 : Draft} {last start : ℕ} {Mine : ℕ → Type 0} {P Q : FlowGraph → Type 0} (ends : ℕ) (body : SourceList) → IsUnplaced d body
    → Lays d d1 1 last (last + 1) P → LaysLoops d1 d2 (list_size body) start last Mine Q → ends ≡ min (list_loops body) 65535 → AreTested d2 (list_loops body) ends
    → EachTested d2.graph
each_tested ends body is stop l e tested loop there =
    let sized = list-loops_sized body in
    let few = is.few in
    let loops = is.loops in
    let before = stop.fills.as_many_loops in
    let after = l.fills.as_many_loops in
    let t = tested.each loop (omega (arith, e)) (omega (arith, there, e, sized, few, loops, before, after)) in
    (t.0, t.1.test)

-- what was placed implements the statements
pub is_laid : {d d1 d2 : Draft} {laid : Laid} (last ends : ℕ) (body : SourceList) → IsUnplaced d body
    → Lays d d1 1 last (last + 1) (λ flow. IsAt flow last Stop None)
    → LaysList body (record { end = last; next = last; break_to = last; continue_to = last; return_to = last; inside = None; loops_end = ends }) laid d1 d2
    → IsPlaced d2.graph laid.entry → ends ≡ min (list_loops body) 65535 → IsLaid d d2 body laid.entry
is_laid {d2 = d2} {laid = laid} last ends body is stop l begins e =
    let sized = list-loops_sized body in
    let few = is.few in
    let whole = lays_loops_both (IsOwn (list_loops body) ends) stop l (λ loop none. absurd none) (λ loop own. own) (λ loop none own. none) in
    let marks : AreMarked (record d2.graph { entry = laid.entry }) 0 (with_list_loops body None) =
    record { before = []; rest = []; number_is = refl; marks = whole.fills.same_loops ∙ is.marked ∙ sym (append-nil (with_list_loops body None [])) } in
    let parts = whole.gives (record d2.graph { entry = laid.entry })
    (record { arrays = refl; nodes = λ i lo hi. refl; inside = λ i lo hi. refl; loops = λ loop own. refl }) in
    record {
      counted = whole.fills.as_many;
      arrays = whole.fills.arrays;
      initial = whole.fills.initial;
      loops = whole.fills.same_loops;
      lowers = record { first = laid.start; last = last; stops = parts.0; body = parts.1.is 0 (omega (arith, e, sized, few)) marks };
      begins = begins.there;
    }

-- what was laid is the flow graph of the program
pub is_lowered : (program : ResolvedProgram) (old new : Draft) (entry : ℕ) (flow : FlowGraph) → IsLaid old new program.body entry →
    old.graph.arrays ≡ program.arrays → old.graph.initial ≡ program.initial
    → length old.graph.nodes ≡ resolved_size program → resolved_size program ≤ most_nodes → source_loops old.graph.loops ≡ loops_of program
    → flow ≡ record new.graph { entry = entry } → TestsInside flow → EachTested new.graph → IsLowered program flow
is_lowered program old new entry flow laid same same_data count few marked e tests each =
    let arrays = laid.arrays ∙ same in
    let initial = laid.initial ∙ same_data in
    let graph : FlowGraph = record new.graph { entry = entry } in
    subst (IsLowered program) (sym e) (record {
      agree = lowered_runs_agree graph program arrays initial laid.lowers;
      traced = lowered_runs_pass_the_trace graph program arrays initial laid.lowers;
      paced = lowered_runs_keep_pace graph program arrays initial laid.lowers;
      counted = laid.counted ∙ count;
      arrays = arrays;
      initial = initial;
      placed = laid.lowers;
      loops = laid.loops ∙ marked;
      tests_inside = subst TestsInside e tests;
      each_tested = λ loop there. let t = each loop there in (t.0, record { node = t.1.node; is_there = t.1.is_there; tests = t.1.tests });
      few = few;
    })
