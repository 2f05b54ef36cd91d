-- Marks of heads: what is marked is a head, and each head is marked.
use Rattle.std.proofs.Common.{◌≡◌, ℕ, zero, suc, ◌<◌, ◌≤◌, ◌⊎◌, inl, inr, map, Bool, true, List, [], ◌∷◌, ◌++◌, length, Option, Some, None, refl, sym, ◌∙◌, ap, subst, arith}
use Rattle.std.specs.Prelude.{nat_le, slice_get, slice_set, slice_index}
use Rattle.std.proofs.lemmas.Bool.Decides.{nat_tests}
use Rattle.std.proofs.lemmas.List.{length-map}
use Rattle.pc_word.proofs.Lists.{set_length}
use Rattle.pc_flow.specs.FlowGraph.{FlowGraph, IsFlow}
use Rattle.pc_regions.specs.Reachable.{AreReachable}
use Rattle.pc_regions.specs.Loops.{IsWithin, Same, BelongsTo, IsEntered, IsHeader, HeadsLoop}
use Rattle.pc_regions.specs.Loops as loops
use Rattle.pc_regions.specs.Cut.{IsHead, Is_entry, Edges_meet, Heads_loop}
use Rattle.pc_regions.specs.models.Counts.{CountsEdges}
use Rattle.pc_regions.specs.models.Entering.{header_at, IsEnteredFrom, Begins, Led_into, AreHeadersFrom}
use Rattle.pc_regions.specs.models.Marks.{mark_at, IsMarked, WillBeMarked, Was_marked, As_entry, As_header, Marks, AreHeads, FindsLoop}
use Rattle.pc_regions.proofs.CutKeeps.{entered_belongs}
use Rattle.pc_live.proofs.Logic.{place_within}
use Rattle.pc_word.proofs.Places.{get_front, get_more, get_last}

-- ---- headers that were found

-- what is entered from the reachable nodes is entered
module _ (flow : FlowGraph) (reachable : List ℕ) (are : AreReachable flow reachable) where
  entered_is : (loop at : ℕ) → IsEnteredFrom flow reachable loop at → IsEntered flow loop at
  entered_is loop _ (Begins belongs) = loops.Begins belongs
  entered_is loop at (Led_into {from} place there here edge outside belongs) = loops.Led_into (are.only place from there) here edge outside belongs

  is_entered : (loop at : ℕ) → IsEntered flow loop at → IsEnteredFrom flow reachable loop at
  is_entered loop _ (loops.Begins belongs) = Begins belongs
  is_entered loop at (loops.Led_into {from} reached here edge outside belongs) =
      let found = are.all from reached in Led_into found.0 found.1 here edge outside belongs

  module _ (headers : List (Option ℕ)) (h : AreHeadersFrom flow reachable headers) where
    one_header : (loop low at : ℕ) → header_at headers loop ≡ Some low → header_at headers loop ≡ Some at → low ≡ at
    one_header loop low at p q = cc

    -- a header that was found is the header
    pub found_is_header : (loop at : ℕ) → header_at headers loop ≡ Some at → IsHeader flow loop at
    found_is_header loop at e = record {
      entered = entered_is loop at (h.headers_of.there loop at e);
      least = λ other entered.
          let low = h.headers_of.least loop other (is_entered loop other entered) in
          let same = one_header loop low.0 at low.1 e in
          let most = low.2 in
          omega (arith, same, most);
    }

    -- and the header is found
    pub header_is_found : (loop at : ℕ) → IsHeader flow loop at → header_at headers loop ≡ Some at
    header_is_found loop at is =
        let low = h.headers_of.least loop at (is_entered loop at is.entered) in
        let high = is.least low.0 (entered_is loop low.0 (h.headers_of.there loop low.0 low.1)) in
        let most = low.2 in
        let same : low.0 ≡ at = omega (arith, high, most) in
        low.1 ∙ ap (λ (n : ℕ). Some n) same

-- ---- lists of headers and of marks

header_stands : (headers : List (Option ℕ)) (loop at : ℕ) → header_at headers loop ≡ Some at → slice_get headers loop ≡ Some (Some at)
header_stands [] loop at e = absurd (cc)
header_stands (x ∷ headers) zero at e = ap (λ (h : Option ℕ). Some h) e
header_stands (x ∷ headers) (suc loop) at e = header_stands headers loop at e

stands_header : (headers : List (Option ℕ)) (loop at : ℕ) → slice_get headers loop ≡ Some (Some at) → header_at headers loop ≡ Some at
stands_header [] loop at e = absurd (cc)
stands_header (x ∷ headers) zero at e = cc
stands_header (x ∷ headers) (suc loop) at e = stands_header headers loop at e

-- a mark more
set_marks : (marks : List Bool) (at other : ℕ) → IsMarked marks other → IsMarked (slice_set marks at true) other
set_marks [] at other e = absurd (cc)
set_marks (x ∷ marks) zero zero e = refl
set_marks (x ∷ marks) zero (suc other) e = e
set_marks (x ∷ marks) (suc at) zero e = e
set_marks (x ∷ marks) (suc at) (suc other) e = set_marks marks at other e

set_marked : (marks : List Bool) (at : ℕ) → at < length marks → IsMarked (slice_set marks at true) at
set_marked [] at lt = absurd (omega arith)
set_marked (x ∷ marks) zero lt = refl
set_marked (x ∷ marks) (suc at) lt = set_marked marks at (omega arith)

marked_before : (marks : List Bool) (at other : ℕ) → IsMarked (slice_set marks at true) other → IsMarked marks other ⊎ (at ≡ other)
marked_before [] at other e = absurd (cc)
marked_before (x ∷ marks) zero zero e = inr refl
marked_before (x ∷ marks) zero (suc other) e = inl e
marked_before (x ∷ marks) (suc at) zero e = inl e
marked_before (x ∷ marks) (suc at) (suc other) e = elim (marked_before marks at other e) [
  | inl before ↦ inl before
  | inr same ↦ inr (ap suc same)
]

-- ---- the loop over headers

-- the entry is marked first
pub marks_entry : (old : List Bool) (entry : ℕ) → entry < length old → Marks old (slice_set old entry true) entry []
marks_entry old entry lt = record { as_many = set_length old entry true; marked = λ at. (forth at, back at) }
  where
    forth : (at : ℕ) → IsMarked (slice_set old entry true) at → WillBeMarked old entry [] at
    forth at e = elim (marked_before old entry at e) [
      | inl before ↦ Was_marked before
      | inr same ↦ As_entry same
    ]

    back : (at : ℕ) → WillBeMarked old entry [] at → IsMarked (slice_set old entry true) at
    back at (Was_marked before) = set_marks old entry at before
    back at (As_entry same) = subst (λ (n : ℕ). IsMarked (slice_set old entry true) n) same (set_marked old entry lt)
    back at (As_header loop e) = absurd (cc)

-- what would be marked still would
more_marked : (old : List Bool) (entry : ℕ) (headers : List (Option ℕ)) (header : Option ℕ) (at : ℕ) → WillBeMarked old entry headers at → WillBeMarked old entry (headers ++ header ∷ []) at
more_marked old entry headers header at (Was_marked before) = Was_marked before
more_marked old entry headers header at (As_entry same) = As_entry same
more_marked old entry headers header at (As_header loop e) = As_header loop (get_front headers (header ∷ []) loop (Some at) e)

-- a header more
pub marks_header : (old new : List Bool) (entry : ℕ) (headers : List (Option ℕ)) (at : ℕ) → at < length new → Marks old new entry headers
    → Marks old (slice_set new at true) entry (headers ++ Some at ∷ [])
marks_header old new entry headers at lt h = record {
  as_many = set_length new at true ∙ h.as_many;
  marked = λ other. (forth other, back other);
}
  where
    forth : (other : ℕ) → IsMarked (slice_set new at true) other → WillBeMarked old entry (headers ++ Some at ∷ []) other
    forth other e = elim (marked_before new at other e) [
      | inl before ↦ more_marked old entry headers (Some at) other ((h.marked other).0 before)
      | inr same ↦ As_header (length headers) (get_last headers (Some at) ∙ ap (λ (n : ℕ). Some (Some n)) same)
    ]

    back : (other : ℕ) → WillBeMarked old entry (headers ++ Some at ∷ []) other → IsMarked (slice_set new at true) other
    back other (Was_marked before) = set_marks new at other ((h.marked other).1 (Was_marked before))
    back other (As_entry same) = set_marks new at other ((h.marked other).1 (As_entry same))
    back other (As_header loop e) = elim (get_more headers (Some at) loop (Some other) e) [
      | inl before ↦ set_marks new at other ((h.marked other).1 (As_header loop before))
      | inr last ↦ let same : at ≡ other = (cc) in subst (λ (n : ℕ). IsMarked (slice_set new at true) n) same (set_marked new at lt)
    ]

-- a loop more without a header
pub marks_none : (old new : List Bool) (entry : ℕ) (headers : List (Option ℕ)) → Marks old new entry headers → Marks old new entry (headers ++ None ∷ [])
marks_none old new entry headers h = record { as_many = h.as_many; marked = λ other. (forth other, back other) }
  where
    forth : (other : ℕ) → IsMarked new other → WillBeMarked old entry (headers ++ None ∷ []) other
    forth other e = more_marked old entry headers None other ((h.marked other).0 e)

    back : (other : ℕ) → WillBeMarked old entry (headers ++ None ∷ []) other → IsMarked new other
    back other (Was_marked before) = (h.marked other).1 (Was_marked before)
    back other (As_entry same) = (h.marked other).1 (As_entry same)
    back other (As_header loop e) = elim (get_more headers None loop (Some other) e) [
      | inl before ↦ (h.marked other).1 (As_header loop before)
      | inr last ↦ absurd (none_is last.1)
    ]
      where
        none_is : None ≡ Some other → ⊥
        none_is e = cc

-- there are as many marks as nodes
pub marks_many : (old new : List Bool) (entry : ℕ) (headers : List (Option ℕ)) → Marks old new entry headers → length new ≡ length old
marks_many old new entry headers h = h.as_many

pub ruleset marks = (marks_entry, marks_header, marks_none, marks_many)

-- ---- the heads

-- a header that was found is a node
pub header_there : (flow : FlowGraph) (reachable : List ℕ) (headers : List (Option ℕ)) (loop at : ℕ) → IsFlow flow → AreReachable flow reachable → AreHeadersFrom flow reachable headers
    → header_at headers loop ≡ Some at → at < length flow.nodes
header_there flow reachable headers loop at is are h e =
    let header = found_is_header flow reachable are headers h loop at e in
    let belongs = entered_belongs flow loop at header.entered in
    subst (λ (n : ℕ). at < n) is.all_placed (place_within flow.inside at (Some belongs.inner) belongs.inside)

-- the marks of counts
count_marks : (counts : List ℕ) (at : ℕ) → mark_at (map (λ count. nat_le 2 count) counts) at ≡ nat_le 2 (slice_index counts at)
count_marks [] at = refl
count_marks (x ∷ counts) zero = refl
count_marks (x ∷ counts) (suc at) = count_marks counts at

at_least : (n : ℕ) → nat_le 2 n ≡ true → 2 ≤ n
at_least n e = grind (arith, nat_tests)

at_least_is : (n : ℕ) → 2 ≤ n → nat_le 2 n ≡ true
at_least_is n h = grind (arith, nat_tests)

-- where all are marked, exactly the heads are
pub marked_are_heads : (flow : FlowGraph) (reachable counts : List ℕ) (headers : List (Option ℕ)) (new : List Bool) → AreReachable flow reachable
    → CountsEdges flow reachable counts → AreHeadersFrom flow reachable headers → Marks (map (λ count. nat_le 2 count) counts) new flow.entry headers
    → AreHeads flow new headers
marked_are_heads flow reachable counts headers new are counted h marks = record {
  reachable = reachable;
  are_reachable = are;
  as_many = marks.as_many ∙ length-map counts (λ count. nat_le 2 count) ∙ counted.as_many;
  marked = λ at. ((λ e. forth at ((marks.marked at).0 e)), (λ head. (marks.marked at).1 (back at head)));
  headers_from = h;
}
  where
    old_mark : (at : ℕ) → mark_at (map (λ count. nat_le 2 count) counts) at ≡ nat_le 2 (slice_index counts at)
    old_mark at = count_marks counts at

    forth : (at : ℕ) → WillBeMarked (map (λ count. nat_le 2 count) counts) flow.entry headers at → IsHead flow reachable at
    forth at (Was_marked e) =
        let high = at_least (slice_index counts at) (sym (old_mark at) ∙ e) in
        let count = counted.counted at in
        Edges_meet (omega (arith, high, count))
    forth at (As_entry same) = Is_entry (sym same)
    forth at (As_header loop e) = Heads_loop loop (found_is_header flow reachable are headers h loop at (stands_header headers loop at e))

    back : (at : ℕ) → IsHead flow reachable at → WillBeMarked (map (λ count. nat_le 2 count) counts) flow.entry headers at
    back at (Is_entry same) = As_entry (sym same)
    back at (Edges_meet many) =
        let count = counted.counted at in
        let high : 2 ≤ slice_index counts at = omega (arith, many, count) in
        Was_marked (old_mark at ∙ at_least_is (slice_index counts at) high)
    back at (Heads_loop loop is) = As_header loop (header_stands headers loop at (header_is_found flow reachable are headers h loop at is))

-- there are as many counts as nodes
pub counts_many : (flow : FlowGraph) (froms counts : List ℕ) → CountsEdges flow froms counts → length counts ≡ length flow.nodes
counts_many flow froms counts h = h.as_many

pub ruleset heads = (header_there, marked_are_heads, counts_many)

-- ---- the loop that a node heads

-- a loop that was found is that of the node
pub finds_heads : (flow : FlowGraph) (reachable : List ℕ) (headers : List (Option ℕ)) (at : ℕ) (found : Option ℕ) → AreReachable flow reachable → AreHeadersFrom flow reachable headers
    → FindsLoop flow headers at found → HeadsLoop flow at found
finds_heads flow reachable headers at None are h finds =
    λ loop is. finds loop (entered_belongs flow loop at is.entered) (header_is_found flow reachable are headers h loop at is)
finds_heads flow reachable headers at (Some loop) are h finds = (
  found_is_header flow reachable are headers h loop at finds.0,
  λ other is. finds.1 other (entered_belongs flow other at is.entered) (header_is_found flow reachable are headers h other at is),
)
