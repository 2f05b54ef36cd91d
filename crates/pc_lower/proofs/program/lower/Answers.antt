use Rattle.std.proofs.Common.{◌≡◌, ℕ, ◌+◌, ◌≤◌, false, List, length, ◌∙◌, ap, arith}
use Rattle.std.proofs.lemmas.List.{length-replicate}
use Rattle.pc_word.specs.SourceLimits.{most_nodes}
use Rattle.pc_word.specs.declared.loop_mark.LoopMark.{LoopMark}
use Rattle.pc_syntax.specs.Erasure.{list_of}
use Rattle.pc_check.specs.Sizes.{list_size}
use Rattle.pc_check.specs.Checks.{resolved_of}
use Rattle.pc_lower.specs.SourceLoops.{source_loops, loops_of, list_loops}
use Rattle.pc_lower.specs.models.LowersExpression.{AreLengths}
use Rattle.pc_lower.proofs.Bounds.{list-loops_sized, list_sound_more, are_lengths}
use Rattle.pc_lower.proofs.LoopMarks.{marks_of_program}
use Rattle.pc_lower.proofs.Wholes.{is_unplaced, is_lowered}
use Rattle.pc_flow.specs.declared.node.FlowNode.TheVariants.{Stop}
use Rattle.pc_lower.proofs.program.lower.Goals as goal

pub mark_list-requires : goal.mark_list-requires
mark_list-requires c =
    let body = list_of c.args.checked.now.body.items in
    let size = c.size-count.ensures in
    let fits = c.if-count-gt-MOST_NODES.false in
    let few : c.size-count.result ≤ most_nodes = omega (arith, fits) in
    let sized = list-loops_sized body in
    let empty = ap (λ (l : List LoopMark). length l) c.new-loops.ensures in
    omega (arith, size, few, sized, empty)

pub new-requires : goal.new-requires
new-requires c =
    let size = c.size-count.ensures in
    let fits = c.if-count-gt-MOST_NODES.false in
    let arrays = ap (λ (l : List ℕ). length l) (c.in_ok-arrays.ensures ∙ c.as_slice.ensures) in
    let few = c.args.checked.now.few_arrays in
    record {
      may = record {
        some_nodes = omega (arith, size);
        few_nodes = omega (arith, fits);
        few_arrays = omega (arith, arrays, few);
        data_fit = rw (c.in_ok-arrays.ensures, c.as_slice.ensures, c.in_ok-initial.ensures.copied) c.args.checked.now.data_fits;
        data_words = rw c.in_ok-initial.ensures.copied c.in_ok-initial.ensures.fit;
        outer_first = marks_of_program c.mark_list.new.marks (list_of c.args.checked.now.body.items) (rw c.new-loops.ensures at c.in_ok-mark_list.ensures.marked);
      };
    }

pub lower_body-entry-requires-clause-first : goal.lower_body-entry-requires-clause-first
lower_body-entry-requires-clause-first c =
    let body = list_of c.args.checked.now.body.items in
    let size = c.size-count.ensures in
    let fits = c.if-count-gt-MOST_NODES.false in
    let few : c.size-count.result ≤ most_nodes = omega (arith, fits) in
    let count : c.size-count.result ≡ list_size body + 1 = omega (arith, size, few) in
    let sized = list-loops_sized body in
    let told = c.in_ok-mark_list.ensures.counted in
    let none = c.new-loops.ensures in
    let empty = ap (λ (l : List LoopMark). length l) none in
    let as_many : length c.mark_list.new.marks ≡ list_loops body = omega (arith, told, empty) in
    let arrays : AreLengths c.in_ok-arrays.arrays = rw (c.in_ok-arrays.ensures, c.as_slice.ensures)
    (are_lengths c.args.checked.now.arrays c.args.checked.now.few_arrays c.args.checked.now.sized) in
    let marked = rw none at c.in_ok-mark_list.ensures.marked in
    rw c.in_ok-draft.ensures (is_unplaced c.size-count.result c.mark_list.new.marks c.in_ok-arrays.arrays c.in_ok-initial.initial body count few as_many marked arrays)

pub lower_body-entry-requires-clause-sound : goal.lower_body-entry-requires-clause-sound
lower_body-entry-requires-clause-sound c =
    let checked = c.args.checked.now in
    rw (c.in_ok-draft.ensures, c.in_ok-arrays.ensures, c.as_slice.ensures)
    (list_sound_more checked.scalars (length checked.arrays) checked.few_scalars false (list_of checked.body.items) checked.sound)

pub returns-clause-lowered : goal.returns-clause-lowered
returns-clause-lowered c =
    let body = list_of c.args.checked.now.body.items in
    let size = c.size-count.ensures in
    let fits = c.if-count-gt-MOST_NODES.false in
    let few : c.size-count.result ≤ most_nodes = omega (arith, fits) in
    let count : c.size-count.result ≡ list_size body + 1 = omega (arith, size, few) in
    let arrays : c.in_ok-draft.draft.graph.arrays ≡ c.args.checked.now.arrays = rw (c.in_ok-draft.ensures, c.in_ok-arrays.ensures) c.as_slice.ensures in
    let initial : c.in_ok-draft.draft.graph.initial ≡ c.args.checked.now.initial = rw c.in_ok-draft.ensures c.in_ok-initial.ensures.copied in
    let nodes : length c.in_ok-draft.draft.graph.nodes ≡ list_size body + 1 = rw c.in_ok-draft.ensures (length-replicate c.size-count.result Stop ∙ count) in
    let marked : source_loops c.in_ok-draft.draft.graph.loops ≡ loops_of (resolved_of c.args.checked.now) = rw (c.in_ok-draft.ensures, c.in_ok-mark_list.ensures.marked, c.new-loops.ensures) in
    is_lowered (resolved_of c.args.checked.now) c.in_ok-draft.draft c.lower_body-entry.new.draft c.lower_body-entry.result c.into_flow.result
    c.lower_body-entry.ensures.laid arrays initial nodes (omega (arith, count, few)) marked c.into_flow.ensures.begun c.into_flow.ensures.tests
    c.lower_body-entry.ensures.tested
