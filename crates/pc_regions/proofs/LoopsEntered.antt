-- Loops that are entered along edges, and the least nodes where they are.
use Rattle.std.proofs.Common.{◌≡◌, ◌≢◌, ℕ, zero, suc, ◌<◌, ◌≤◌, ◌⊎◌, inl, inr, min, Bool, true, false, List}
use Rattle.std.proofs.Common.{[], ◌∷◌, ◌++◌, length, Option, Some, None, refl, sym, ◌∙◌, ap, subst, arith, get_or-set_same, get_or-set_other}
use Rattle.std.specs.Prelude.{nat_eq, IfSome, slice_get, slice_set, replicate}
use Rattle.std.proofs.lemmas.List.{length-replicate}
use Rattle.pc_word.specs.declared.loop_mark.LoopMark.{LoopMark}
use Rattle.pc_word.proofs.Lists.{set_length}
use Rattle.pc_word.proofs.Truth.{decide_le}
use Rattle.pc_word.specs.declared.item.Item.{Item}
use Rattle.pc_word.specs.declared.item.Operand.{Operand}
use Rattle.pc_word.specs.declared.item.TrapKind.{TrapKind}
use Rattle.pc_flow.specs.declared.node.FlowNode.{FlowNode}
use Rattle.pc_flow.specs.declared.node.FlowNode.TheVariants.{Op, Test, Stop, Trap}
use Rattle.pc_flow.specs.FlowGraph.{FlowGraph, IsFlow, HasEdge}
use Rattle.pc_regions.proofs.Reaching.{item_leads, test_leads}
use Rattle.pc_regions.proofs.Counting.{listed_there}
use Rattle.pc_regions.specs.Loops.{IsWithin, Same, Deeper, BelongsTo}
use Rattle.pc_regions.specs.models.Entering.{Rounds, depth_bound, InLoop, LeadsInto, header_at, lesser, Enters, IsEnteredFrom, Begins, Led_into, AreHeadersOf, AreHeadersFrom, EntersFrom}
use Rattle.pc_word.proofs.Places.{get_front, get_last, get_more, found_within, same_number, other_number}

-- ---- loops round loops

-- the loop round a loop has a smaller number
abbrev pub OuterFirst : List LoopMark → Type 0
OuterFirst loops = (loop : ℕ) (mark : LoopMark) → slice_get loops loop ≡ Some mark → IfSome mark.outer (λ outer. outer < loop)

round_less : (loops : List LoopMark) (loop : ℕ) (round : Option ℕ) → OuterFirst loops → Rounds loops loop round → IfSome round (λ outer. outer < loop)
round_less loops loop round first rounds = subst (λ (r : Option ℕ). IfSome r (λ outer. outer < loop)) rounds.outer (first loop rounds.mark rounds.there)

round_of : (found : Option ℕ) (round bound : ℕ) → found ≡ Some round → IfSome found (λ outer. outer < bound) → round < bound
round_of None round bound e h = absurd (cc)
round_of (Some x) round bound e h = let same : x ≡ round = (cc) in subst (λ (n : ℕ). n < bound) same h

-- a loop round another has no greater number
pub within_below : (loops : List LoopMark) (inner outer : ℕ) → OuterFirst loops → IsWithin loops inner outer → outer ≤ inner
within_below loops inner outer first Same = omega arith
within_below loops inner outer first (Deeper {round} {mark} there is within) =
    let below = within_below loops round outer first within in
    let less = round_of mark.outer round inner is (first inner mark there) in
    omega (arith, below, less)

in_loop_below : (loops : List LoopMark) (inner : Option ℕ) (outer bound : ℕ) → OuterFirst loops → IfSome inner (λ n. n < bound) → InLoop loops inner outer → outer < bound
in_loop_below loops None outer bound first h within = absurd within
in_loop_below loops (Some inner) outer bound first h within = let below = within_below loops inner outer first within in omega (arith, below, h)

-- what stands in the loop round a loop stands in the loops that this stands in
in_round : (loops : List LoopMark) (loop outer : ℕ) (round : Option ℕ) → Rounds loops loop round → InLoop loops round outer → IsWithin loops loop outer
in_round loops loop outer None rounds within = absurd within
in_round loops loop outer (Some round) rounds within = Deeper rounds.there rounds.outer within

-- a loop that stands in another is that one, or the loop round it stands there
pub out_round : (loops : List LoopMark) (loop outer : ℕ) (round : Option ℕ) → Rounds loops loop round → IsWithin loops loop outer → (loop ≡ outer) ⊎ InLoop loops round outer
out_round loops loop outer round rounds Same = inl refl
out_round loops loop outer round rounds (Deeper {round = other} {mark} there is within) =
    let marks : mark ≡ rounds.mark = (one_mark there rounds.there) in
    let same : Some other ≡ round = sym is ∙ ap (λ (m : LoopMark). m.outer) marks ∙ rounds.outer in
    inr (subst (λ (r : Option ℕ). InLoop loops r outer) same within)
  where
    one_mark : {m n : LoopMark} → slice_get loops loop ≡ Some m → slice_get loops loop ≡ Some n → m ≡ n
    one_mark p q = cc

-- ---- the steps along an edge

module _ (loops : List LoopMark) (first : OuterFirst loops) (to : ℕ) where
  -- an edge that leads into no more loops
  pub enters_none : (outside : Option ℕ) (headers : List (Option ℕ)) → Enters loops None outside to headers headers
  enters_none outside headers = record { as_many = refl; each = λ loop lt. inr ((λ into. into.0), refl) }

  -- nor does one from the same loop
  pub enters_same : (inner : Option ℕ) (headers : List (Option ℕ)) → Enters loops inner inner to headers headers
  enters_same inner headers = record { as_many = refl; each = λ loop lt. inr ((λ into. into.1 into.0), refl) }

  -- an edge from a loop with a greater number leads into the same loops as one from the loop round it
  pub enters_outside : (number other : ℕ) (round : Option ℕ) (headers final : List (Option ℕ)) → number < other → Rounds loops other round
      → Enters loops (Some number) round to headers final → Enters loops (Some number) (Some other) to headers final
  enters_outside number other round headers final less rounds h = record {
    as_many = h.as_many;
    each = λ loop lt. elim (h.each loop lt) [
      | inl is ↦ inl ((is.0.0, λ within. is.0.1 (deeper loop is.0.0 within)), is.1)
      | inr is ↦ inr ((λ into. is.0 (into.0, λ within. into.1 (in_round loops other loop round rounds within))), is.1)
    ];
  }
    where
      deeper : (loop : ℕ) → IsWithin loops number loop → IsWithin loops other loop → InLoop loops round loop
      deeper loop inside within = elim (out_round loops other loop round rounds within) [
        | inl same ↦ let below = within_below loops number loop first inside in absurd (omega (arith, less, same, below))
        | inr around ↦ around
      ]

  -- a loop has a header that is no greater than this node
  abbrev with_lesser : List (Option ℕ) → ℕ → List (Option ℕ)
  with_lesser headers number = slice_set headers number (Some (lesser (header_at headers number) to))

  -- what an edge does to one loop
  abbrev Each : (inner outside : Option ℕ) → List (Option ℕ) → List (Option ℕ) → ℕ → Type 0
  Each inner outside old new loop =
      (LeadsInto loops inner outside loop × (header_at new loop ≡ Some (lesser (header_at old loop) to)))
      ⊎ ((LeadsInto loops inner outside loop → ⊥) × (header_at new loop ≡ header_at old loop))

  -- this loop itself
  each_same : (number : ℕ) (round outside : Option ℕ) (headers final : List (Option ℕ)) → number < length headers → IfSome outside (λ other. other < number)
      → Rounds loops number round → Each round outside (with_lesser headers number) final number → Each (Some number) outside headers final number
  each_same number round outside headers final there below rounds (inl is) =
      let again = in_loop_below loops round number number first (round_less loops number round first rounds) is.0.0 in absurd (omega (arith, again))
  each_same number round outside headers final there below rounds (inr is) = inl (
    (Same, λ within. let again = in_loop_below loops outside number number first below within in omega (arith, again)),
    is.1 ∙ get_or-set_same headers number (Some (lesser (header_at headers number) to)) None there,
  )

  -- another one
  each_other : (number loop : ℕ) (round outside : Option ℕ) (headers final : List (Option ℕ)) → loop ≢ number
      → Rounds loops number round → Each round outside (with_lesser headers number) final loop → Each (Some number) outside headers final loop
  each_other number loop round outside headers final differ rounds (inl is) = inl (
    (in_round loops number loop round rounds is.0.0, is.0.1),
    is.1 ∙ ap (λ (h : Option ℕ). Some (lesser h to)) (get_or-set_other headers number loop (Some (lesser (header_at headers number) to)) None differ),
  )
  each_other number loop round outside headers final differ rounds (inr is) = inr (
    (λ into. elim (out_round loops number loop round rounds into.0) [
      | inl same ↦ differ (sym same)
      | inr around ↦ is.0 (around, into.1)
    ]),
    is.1 ∙ get_or-set_other headers number loop (Some (lesser (header_at headers number) to)) None differ,
  )

  -- an edge from a loop with a smaller number, or from none, leads into this loop, and into those round it that it leads into
  pub enters_inside : (number : ℕ) (round outside : Option ℕ) (headers final : List (Option ℕ)) → number < length headers → IfSome outside (λ other. other < number)
      → Rounds loops number round → Enters loops round outside to (with_lesser headers number) final → Enters loops (Some number) outside to headers final
  enters_inside number round outside headers final there below rounds h = record {
    as_many = h.as_many ∙ set_length headers number (Some (lesser (header_at headers number) to));
    each = λ loop lt. by_number loop (longer loop lt) (nat_eq number loop) refl;
  }
    where
      longer : (loop : ℕ) → loop < length headers → loop < length (with_lesser headers number)
      longer loop lt = subst (λ (n : ℕ). loop < n) (sym (set_length headers number (Some (lesser (header_at headers number) to)))) lt

      by_number : (loop : ℕ) → loop < length (with_lesser headers number) → (b : Bool) → nat_eq number loop ≡ b → Each (Some number) outside headers final loop
      by_number loop lt true e =
          let same = same_number number loop e in
          subst (λ (n : ℕ). Each (Some number) outside headers final n) same
          (each_same number round outside headers final there below rounds (subst (λ (n : ℕ). Each round outside (with_lesser headers number) final n) (sym same) (h.each loop lt)))
      by_number loop lt false e = each_other number loop round outside headers final (λ same. other_number number loop e (sym same)) rounds (h.each loop lt)

-- ---- headers so far

-- headers of which what is entered is said another way
pub headers_alike : (P Q : ℕ → ℕ → Type 0) (headers : List (Option ℕ)) → ((loop at : ℕ) → P loop at → Q loop at) → ((loop at : ℕ) → Q loop at → P loop at)
    → AreHeadersOf P headers → AreHeadersOf Q headers
headers_alike P Q headers forth back h = record {
  there = λ loop at e. forth loop at (h.there loop at e);
  least = λ loop at entered. h.least loop at (back loop at entered);
}

-- the lesser of a header and a node
lesser_is : (header : Option ℕ) (to at : ℕ) → Some (lesser header to) ≡ Some at → (header ≡ Some at) ⊎ (to ≡ at)
lesser_is None to at e = inr (cc)
lesser_is (Some header) to at e = elim (decide_le header to) [
  | inl low ↦ let is : min header to ≡ at = (cc) in let same : header ≡ at = omega (arith, low, is) in inl (ap (λ (n : ℕ). Some n) same)
  | inr high ↦ let is : min header to ≡ at = (cc) in inr (omega (arith, high, is))
]

lesser_low : (header : Option ℕ) (to at : ℕ) → header ≡ Some at → lesser header to ≤ at
lesser_low None to at e = absurd (cc)
lesser_low (Some header) to at e = let same : header ≡ at = (cc) in omega (arith, same)

lesser_new : (header : Option ℕ) (to : ℕ) → lesser header to ≤ to
lesser_new None to = omega arith
lesser_new (Some header) to = omega arith

-- an edge more
module _ (loops : List LoopMark) (P : ℕ → ℕ → Type 0) (inner outside : Option ℕ) (to : ℕ) (old new : List (Option ℕ))
    (there : (loop : ℕ) → LeadsInto loops inner outside loop → loop < length old) (h : AreHeadersOf P old) (enters : Enters loops inner outside to old new) where
  -- what is entered then
  abbrev Then : ℕ → ℕ → Type 0
  Then loop at = P loop at ⊎ (LeadsInto loops inner outside loop × (to ≡ at))

  within_new : (headers : List (Option ℕ)) (loop at : ℕ) → header_at headers loop ≡ Some at → loop < length headers
  within_new [] loop at e = absurd (cc)
  within_new (x ∷ headers) zero at e = omega arith
  within_new (x ∷ headers) (suc loop) at e = let below = within_new headers loop at e in omega (arith, below)

  within_old : (loop at : ℕ) → header_at new loop ≡ Some at → loop < length old
  within_old loop at e = subst (λ (n : ℕ). loop < n) enters.as_many (within_new new loop at e)

  there_then : (loop at : ℕ) → header_at new loop ≡ Some at → Then loop at
  there_then loop at e = elim (enters.each loop (within_old loop at e)) [
    | inl is ↦ elim (lesser_is (header_at old loop) to at (sym is.1 ∙ e)) [
      | inl before ↦ inl (h.there loop at before)
      | inr same ↦ inr (is.0, same)
    ]
    | inr is ↦ inl (h.there loop at (sym is.1 ∙ e))
  ]

  least_then : (loop at : ℕ) → Then loop at → (low : ℕ) × (header_at new loop ≡ Some low) × (low ≤ at)
  least_then loop at (inl before) =
      let least = h.least loop at before in
      elim (enters.each loop (within_new old loop least.0 least.1)) [
        | inl is ↦
            (lesser (header_at old loop) to, is.1, let low = lesser_low (header_at old loop) to least.0 least.1 in let most = least.2 in omega (arith, low, most))
        | inr is ↦ (least.0, is.1 ∙ least.1, least.2)
      ]
  least_then loop at (inr into) = elim (enters.each loop (there loop into.0)) [
    | inl is ↦ (lesser (header_at old loop) to, is.1, let low = lesser_new (header_at old loop) to in let same = into.1 in omega (arith, low, same))
    | inr is ↦ absurd (is.0 into.0)
  ]

  pub headers_more : AreHeadersOf Then new
  headers_more = record { there = there_then; least = least_then }

-- ---- edges of a node

-- where a node stands in a loop it belongs to it
in_loop_belongs : (flow : FlowGraph) (at loop : ℕ) (inside : Option ℕ) → slice_get flow.inside at ≡ Some inside → InLoop flow.loops inside loop → BelongsTo flow loop at
in_loop_belongs flow at loop None e within = absurd within
in_loop_belongs flow at loop (Some inner) e within = record { inner = inner; inside = e; within = within }

belongs_in_loop : (flow : FlowGraph) (at loop : ℕ) (inside : Option ℕ) → slice_get flow.inside at ≡ Some inside → BelongsTo flow loop at → InLoop flow.loops inside loop
belongs_in_loop flow at loop inside e belongs =
    let same : Some belongs.inner ≡ inside = one_inside belongs.inside e in subst (λ (i : Option ℕ). InLoop flow.loops i loop) same belongs.within
  where
    one_inside : {x y : Option ℕ} → slice_get flow.inside at ≡ Some x → slice_get flow.inside at ≡ Some y → x ≡ y
    one_inside p q = cc

module _ (flow : FlowGraph) (is_flow : IsFlow flow) where
  -- what an edge leads into is there
  into_there : (inner outside : Option ℕ) (to loop : ℕ) → slice_get flow.inside to ≡ Some inner → LeadsInto flow.loops inner outside loop → loop < length flow.loops
  into_there inner outside to loop e into =
      in_loop_below flow.loops inner loop (length flow.loops) is_flow.outer_first (inner_there inner e) into.0
    where
      inner_there : (inner : Option ℕ) → slice_get flow.inside to ≡ Some inner → IfSome inner (λ n. n < length flow.loops)
      inner_there None e = tt
      inner_there (Some n) e = is_flow.loops_there to n e

  -- an edge to a node, from one that stands in `outside`
  abbrev Crosses : (outside : Option ℕ) → ℕ → List (Option ℕ) → List (Option ℕ) → Type 0
  Crosses outside to old new = (inner : Option ℕ) → slice_get flow.inside to ≡ Some inner → Enters flow.loops inner outside to old new

  module _ (from : ℕ) (outside : Option ℕ) (outside_is : slice_get flow.inside from ≡ Some outside) where
    -- what is entered along an edge
    abbrev Along : ℕ → ℕ → ℕ → Type 0
    Along to loop at = (to ≡ at) × (BelongsTo flow loop from → ⊥) × BelongsTo flow loop at

    -- an edge more
    edge_more : (P : ℕ → ℕ → Type 0) (to : ℕ) (old new : List (Option ℕ)) → length old ≡ length flow.loops → to < length flow.nodes
        → AreHeadersOf P old → Crosses outside to old new → AreHeadersOf (λ loop at. P loop at ⊎ Along to loop at) new
    edge_more P to old new as_many lt h crosses =
        let found = found_within flow.inside to (subst (λ (n : ℕ). to < n) (sym is_flow.all_placed) lt) in
        let inner = found.0 in
        headers_alike (λ loop at. P loop at ⊎ (LeadsInto flow.loops inner outside loop × (to ≡ at))) (λ loop at. P loop at ⊎ Along to loop at) new
        (λ loop at. along inner found.1 loop at) (λ loop at. into inner found.1 loop at)
        (headers_more flow.loops P inner outside to old new
        (λ loop leads. subst (λ (n : ℕ). loop < n) (sym as_many) (into_there inner outside to loop found.1 leads)) h (crosses inner found.1))
      where
        along : (inner : Option ℕ) → slice_get flow.inside to ≡ Some inner → (loop at : ℕ) → P loop at ⊎ (LeadsInto flow.loops inner outside loop × (to ≡ at)) → P loop at ⊎ Along to loop at
        along inner e loop at (inl before) = inl before
        along inner e loop at (inr leads) = inr (
          leads.1,
          (λ belongs. leads.0.1 (belongs_in_loop flow from loop outside outside_is belongs)),
          subst (λ (n : ℕ). BelongsTo flow loop n) leads.1 (in_loop_belongs flow to loop inner e leads.0.0),
        )

        into : (inner : Option ℕ) → slice_get flow.inside to ≡ Some inner → (loop at : ℕ) → P loop at ⊎ Along to loop at → P loop at ⊎ (LeadsInto flow.loops inner outside loop × (to ≡ at))
        into inner e loop at (inl before) = inl before
        into inner e loop at (inr led) = inr (
          (
            belongs_in_loop flow to loop inner e (subst (λ (n : ℕ). BelongsTo flow loop n) (sym led.0) led.2),
            λ within. led.1 (in_loop_belongs flow from loop outside outside_is within),
          ),
          led.0,
        )

    module _ (node : FlowNode) (here : slice_get flow.nodes from ≡ Some node) (froms : List ℕ) where
      -- what is entered from a node more
      entered_split : (loop at : ℕ) → IsEnteredFrom flow (froms ++ from ∷ []) loop at
          → IsEnteredFrom flow froms loop at ⊎ (HasEdge node at × (BelongsTo flow loop from → ⊥) × BelongsTo flow loop at)
      entered_split loop _ (Begins belongs) = inl (Begins belongs)
      entered_split loop at (Led_into {from = other} {node = led} place there found edge outside belongs) = elim (get_more froms from place other there) [
        | inl before ↦ inl (Led_into place before found edge outside belongs)
        | inr last ↦
            let same : Some led ≡ Some node = sym found ∙ ap (λ (n : ℕ). slice_get flow.nodes n) (sym last.1) ∙ here in
            inr (
              subst (λ (n : FlowNode). HasEdge n at) (one_node led same) edge,
              (λ in_from. outside (subst (λ (n : ℕ). BelongsTo flow loop n) last.1 in_from)),
              belongs,
            )
      ]
        where
          one_node : (led : FlowNode) → Some led ≡ Some node → led ≡ node
          one_node led e = cc

      entered_join : (loop at : ℕ) → IsEnteredFrom flow froms loop at ⊎ (HasEdge node at × (BelongsTo flow loop from → ⊥) × BelongsTo flow loop at)
          → IsEnteredFrom flow (froms ++ from ∷ []) loop at
      entered_join loop at (inl before) = longer loop at before
        where
          longer : (loop at : ℕ) → IsEnteredFrom flow froms loop at → IsEnteredFrom flow (froms ++ from ∷ []) loop at
          longer loop _ (Begins belongs) = Begins belongs
          longer loop at (Led_into {from = other} place there found edge outside belongs) = Led_into place (get_front froms (from ∷ []) place other there) found edge outside belongs
      entered_join loop at (inr led) = Led_into (length froms) (get_last froms from) here led.0 led.1 led.2

-- the loop in which a node stands is there
pub inside_there : (flow : FlowGraph) (at : ℕ) (inside : Option ℕ) → IsFlow flow → slice_get flow.inside at ≡ Some inside → IfSome inside (λ loop. loop < length flow.loops)
inside_there flow at None is e = tt
inside_there flow at (Some loop) is e = is.loops_there at loop e

-- the edges of a node more, by what it is
module _ (flow : FlowGraph) (from : ℕ) (outside : Option ℕ) (is_flow : IsFlow flow) (outside_is : slice_get flow.inside from ≡ Some outside) where
  pub item_enters : (item : Item) (next : ℕ) (old new : List (Option ℕ)) → slice_get flow.nodes from ≡ Some (Op item next) → length old ≡ length flow.loops
      → Crosses flow is_flow outside next old new → next < length flow.nodes → length new ≡ length old → EntersFrom flow from old new
  item_enters item next old new here as_many crosses lt same froms h = record {
    as_many = same ∙ h.as_many;
    headers_of = headers_alike (λ loop at. IsEnteredFrom flow froms loop at ⊎ Along flow is_flow from outside outside_is next loop at) (IsEnteredFrom flow (froms ++ from ∷ [])) new
        (λ loop at e. entered_join flow is_flow from outside outside_is (Op item next) here froms loop at e)
        (λ loop at e. entered_split flow is_flow from outside outside_is (Op item next) here froms loop at e)
        (edge_more flow is_flow from outside outside_is (IsEnteredFrom flow froms) next old new as_many lt h.headers_of crosses);
  }

  pub test_enters : (on : Operand) (on_yes on_no : ℕ) (turn : Option ℕ) (old mid new : List (Option ℕ)) → slice_get flow.nodes from ≡ Some (Test on on_yes on_no turn)
      → length old ≡ length flow.loops → Crosses flow is_flow outside on_yes old mid → Crosses flow is_flow outside on_no mid new
      → on_yes < length flow.nodes → on_no < length flow.nodes → length mid ≡ length old → length new ≡ length mid → EntersFrom flow from old new
  test_enters on on_yes on_no turn old mid new here as_many first second lt less same again froms h = record {
    as_many = again ∙ same ∙ h.as_many;
    headers_of = headers_alike
        (λ loop at. (IsEnteredFrom flow froms loop at ⊎ Along flow is_flow from outside outside_is on_yes loop at) ⊎ Along flow is_flow from outside outside_is on_no loop at)
        (IsEnteredFrom flow (froms ++ from ∷ [])) new
        (λ loop at e. entered_join flow is_flow from outside outside_is (Test on on_yes on_no turn) here froms loop at (sides loop at e))
        (λ loop at e. parts loop at (entered_split flow is_flow from outside outside_is (Test on on_yes on_no turn) here froms loop at e))
        (edge_more flow is_flow from outside outside_is (λ loop at. IsEnteredFrom flow froms loop at ⊎ Along flow is_flow from outside outside_is on_yes loop at) on_no mid new
        (same ∙ as_many) less (edge_more flow is_flow from outside outside_is (IsEnteredFrom flow froms) on_yes old mid as_many lt h.headers_of first) second);
  }
    where
      sides : (loop at : ℕ)
          → (IsEnteredFrom flow froms loop at ⊎ Along flow is_flow from outside outside_is on_yes loop at) ⊎ Along flow is_flow from outside outside_is on_no loop at
          → IsEnteredFrom flow froms loop at ⊎ (HasEdge (Test on on_yes on_no turn) at × (BelongsTo flow loop from → ⊥) × BelongsTo flow loop at)
      sides loop at (inl (inl before)) = inl before
      sides loop at (inl (inr led)) = inr (inl led.0, led.1, led.2)
      sides loop at (inr led) = inr (inr led.0, led.1, led.2)

      parts : (loop at : ℕ) → IsEnteredFrom flow froms loop at ⊎ (HasEdge (Test on on_yes on_no turn) at × (BelongsTo flow loop from → ⊥) × BelongsTo flow loop at)
          → (IsEnteredFrom flow froms loop at ⊎ Along flow is_flow from outside outside_is on_yes loop at) ⊎ Along flow is_flow from outside outside_is on_no loop at
      parts loop at (inl before) = inl (inl before)
      parts loop at (inr led) = elim led.0 [
        | inl e ↦ inl (inr (e, led.1, led.2))
        | inr e ↦ inr (e, led.1, led.2)
      ]

  no_enters : (node : FlowNode) (old : List (Option ℕ)) → slice_get flow.nodes from ≡ Some node → ((to : ℕ) → HasEdge node to → ⊥) → EntersFrom flow from old old
  no_enters node old here none froms h = record {
    as_many = h.as_many;
    headers_of = headers_alike (IsEnteredFrom flow froms) (IsEnteredFrom flow (froms ++ from ∷ [])) old
        (λ loop at e. entered_join flow is_flow from outside outside_is node here froms loop at (inl e))
        (λ loop at e. before loop at (entered_split flow is_flow from outside outside_is node here froms loop at e)) h.headers_of;
  }
    where
      before : (loop at : ℕ) → IsEnteredFrom flow froms loop at ⊎ (HasEdge node at × (BelongsTo flow loop from → ⊥) × BelongsTo flow loop at) → IsEnteredFrom flow froms loop at
      before loop at (inl e) = e
      before loop at (inr led) = absurd (none at led.0)

  pub stop_enters : (old : List (Option ℕ)) → slice_get flow.nodes from ≡ Some Stop → EntersFrom flow from old old
  stop_enters old here = no_enters Stop old here (λ to edge. edge)

  pub trap_enters : (kind : TrapKind) (line : ℕ) (old : List (Option ℕ)) → slice_get flow.nodes from ≡ Some (Trap kind line) → EntersFrom flow from old old
  trap_enters kind line old here = no_enters (Trap kind line) old here (λ to edge. edge)

-- what the edges of a node need
pub ruleset edges = (item_leads, test_leads, item_enters, test_enters, stop_enters, trap_enters, inside_there)

-- ---- the loop over nodes

-- the graph begins at its entry
pub entry_enters : (flow : FlowGraph) (old new : List (Option ℕ)) → IsFlow flow → old ≡ replicate (length flow.loops) None → length new ≡ length old
    → ((inner : Option ℕ) → slice_get flow.inside flow.entry ≡ Some inner → Enters flow.loops inner None flow.entry old new) → AreHeadersFrom flow [] new
entry_enters flow old new is none same crosses =
    let found = found_within flow.inside flow.entry (subst (λ (n : ℕ). flow.entry < n) (sym is.all_placed) is.begins) in
    let nothing : Option ℕ = None in
    let as_many : length old ≡ length flow.loops = ap (λ (l : List (Option ℕ)). length l) none ∙ length-replicate (length flow.loops) nothing in
    record {
      as_many = same ∙ as_many;
      headers_of = headers_alike (λ loop at. ⊥ ⊎ (LeadsInto flow.loops found.0 None loop × (flow.entry ≡ at))) (IsEnteredFrom flow []) new
          (forth found.0 found.1) (back found.0 found.1)
          (headers_more flow.loops (λ loop at. ⊥) found.0 None flow.entry old new
          (λ loop leads. subst (λ (n : ℕ). loop < n) (sym as_many) (into_there flow is found.0 None flow.entry loop found.1 leads))
          (record { there = λ loop at e. none_there loop at e; least = λ loop at e. absurd e }) (crosses found.0 found.1));
    }
  where
    nothing_at : (n loop at : ℕ) → header_at (replicate n None) loop ≡ Some at → ⊥
    nothing_at zero loop at e = cc
    nothing_at (suc n) zero at e = cc
    nothing_at (suc n) (suc loop) at e = nothing_at n loop at e

    none_there : (loop at : ℕ) → header_at old loop ≡ Some at → ⊥
    none_there loop at e = nothing_at (length flow.loops) loop at (subst (λ (l : List (Option ℕ)). header_at l loop ≡ Some at) none e)

    forth : (inner : Option ℕ) → slice_get flow.inside flow.entry ≡ Some inner → (loop at : ℕ) → ⊥ ⊎ (LeadsInto flow.loops inner None loop × (flow.entry ≡ at)) → IsEnteredFrom flow [] loop at
    forth inner e loop at (inl never) = absurd never
    forth inner e loop at (inr leads) = subst (λ (n : ℕ). IsEnteredFrom flow [] loop n) leads.1 (Begins (in_loop_belongs flow flow.entry loop inner e leads.0.0))

    back : (inner : Option ℕ) → slice_get flow.inside flow.entry ≡ Some inner → (loop at : ℕ) → IsEnteredFrom flow [] loop at → ⊥ ⊎ (LeadsInto flow.loops inner None loop × (flow.entry ≡ at))
    back inner e loop _ (Begins belongs) = inr ((belongs_in_loop flow flow.entry loop inner e belongs, λ never. never), refl)
    back inner e loop at (Led_into place there found edge outside belongs) = absurd (cc)

-- a node more
pub entered_more : (flow : FlowGraph) (froms : List ℕ) (old new : List (Option ℕ)) (from : ℕ) → AreHeadersFrom flow froms old → EntersFrom flow from old new
    → AreHeadersFrom flow (froms ++ from ∷ []) new
entered_more flow froms old new from h enters = enters froms h

-- there are as many headers as loops
pub headers_many : (flow : FlowGraph) (froms : List ℕ) (headers : List (Option ℕ)) → AreHeadersFrom flow froms headers → length headers ≡ length flow.loops
headers_many flow froms headers h = h.as_many

pub ruleset nodes_entered = (listed_there, entry_enters, entered_more, headers_many)

-- ---- the steps along an edge, as the code takes them

module _ (loops : List LoopMark) (first : OuterFirst loops) (to : ℕ) where
  -- the loop round a loop that is there is there
  pub round_there : (number : ℕ) (round : Option ℕ) → Rounds loops number round → number < length loops → IfSome round (λ loop. loop < length loops)
  round_there number round rounds there = weaker round (round_less loops number round first rounds)
    where
      weaker : (round : Option ℕ) → IfSome round (λ outer. outer < number) → IfSome round (λ loop. loop < length loops)
      weaker None h = tt
      weaker (Some outer) h = omega (arith, h, there)

  -- and has a smaller number
  pub round_lower : (number : ℕ) (round : Option ℕ) → Rounds loops number round → depth_bound round < suc number
  round_lower number round rounds = lower round (round_less loops number round first rounds)
    where
      lower : (round : Option ℕ) → IfSome round (λ outer. outer < number) → depth_bound round < suc number
      lower None h = omega arith
      lower (Some outer) h = omega (arith, h)

  -- from the same loop
  pub step_same : (number : ℕ) (inner outside : Option ℕ) (headers : List (Option ℕ)) → inner ≡ Some number → outside ≡ Some number
      → Enters loops inner outside to headers headers
  step_same number inner outside headers p q =
      subst (λ (o : Option ℕ). Enters loops inner o to headers headers) (p ∙ sym q) (enters_same loops first to inner headers)

  -- from none
  pub step_none : (inner outside : Option ℕ) (headers : List (Option ℕ)) → inner ≡ None → Enters loops inner outside to headers headers
  step_none inner outside headers p = subst (λ (i : Option ℕ). Enters loops i outside to headers headers) (sym p) (enters_none loops first to outside headers)

  -- out of a loop
  pub step_outside : (number other : ℕ) (inner outside round : Option ℕ) (headers final : List (Option ℕ)) → inner ≡ Some number → outside ≡ Some other → number < other
      → Rounds loops other round → Enters loops (Some number) round to headers final → Enters loops inner outside to headers final
  step_outside number other inner outside round headers final p q less rounds h =
      subst (λ (i : Option ℕ). Enters loops i outside to headers final) (sym p)
      (subst (λ (o : Option ℕ). Enters loops (Some number) o to headers final) (sym q) (enters_outside loops first to number other round headers final less rounds h))

  -- into a loop
  pub step_inside : (number : ℕ) (inner outside round : Option ℕ) (headers lowered final : List (Option ℕ)) → inner ≡ Some number → number < length headers
      → IfSome outside (λ other. other < number) → Rounds loops number round → lowered ≡ slice_set headers number (Some (lesser (header_at headers number) to))
      → Enters loops round outside to lowered final → Enters loops inner outside to headers final
  step_inside number inner outside round headers lowered final p there below rounds is h =
      subst (λ (i : Option ℕ). Enters loops i outside to headers final) (sym p)
      (enters_inside loops first to number round outside headers final there below rounds (subst (λ (l : List (Option ℕ)). Enters loops round outside to l final) is h))

-- a loop in which nothing stands, or one with a smaller number
pub below_some : (outside : Option ℕ) (other number : ℕ) → outside ≡ Some other → other < number → IfSome outside (λ o. o < number)
below_some None other number e less = absurd (cc)
below_some (Some x) other number e less = let same : x ≡ other = (cc) in omega (arith, same, less)

pub below_none : (outside : Option ℕ) (number : ℕ) → outside ≡ None → IfSome outside (λ o. o < number)
below_none None number e = tt
below_none (Some x) number e = absurd (cc)
