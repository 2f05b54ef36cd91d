-- The walk, node by node.
use Rattle.std.proofs.Common.{◌≡◌, ◌≢◌, ◌⊎◌, inl, inr, ℕ, zero, suc, ◌+◌, ◌^◌, ◌<◌, ◌≤◌, Bool, true, false, List, [], ◌∷◌, ◌++◌, length}
use Rattle.std.proofs.Common.{get_or, Option, Some, None, refl, sym, ◌∙◌, ap, subst, arith, eq-eqb}
use Rattle.std.specs.Prelude.{IfSome, slice_get, slice_set, slice_index_or}
use Rattle.std.proofs.lemmas.Bool.{cases_eq}
use Rattle.std.proofs.lemmas.Option.{slice_get-get_or}
use Rattle.pc_word.specs.declared.item.Item.{Item}
use Rattle.pc_word.specs.declared.item.Item.TheVariants.{Bin, Copy, Load, Store, Print, Read, More}
use Rattle.pc_word.proofs.Lists.{set_length, count_more}
use Rattle.pc_word.proofs.Places.{get_front, get_last, get_more, set_there, set_elsewhere}
use Rattle.pc_flow.specs.declared.node.FlowNode.{FlowNode}
use Rattle.pc_flow.specs.declared.node.FlowNode.TheVariants.{Op, Test, Stop, Trap}
use Rattle.pc_flow.specs.FlowGraph.{FlowGraph, IsFlow, HasEdge, NodeFits, variables}
use Rattle.pc_flow.specs.Reachable.{IsReachableNode, Entry, Behind}
use Rattle.pc_pass.proofs.Changes.{reachable_there}
use Rattle.pc_linear.specs.Form.{Form}
use Rattle.pc_linear.specs.Combine.{variable_form, combine}
use Rattle.pc_scalar.specs.declared.plan.Plan.{Plan}
use Rattle.pc_scalar.specs.Tally.{AreMany}
use Rattle.pc_scalar.specs.models.Met.{edges_of, AreReached}
use Rattle.pc_forward.specs.declared.trail.Trail.{Trail}
use Rattle.pc_forward.specs.declared.walking.Waiting.{Waiting}
use Rattle.pc_forward.specs.declared.ways.Way.{Way}
use Rattle.pc_forward.specs.declared.ways.Way.TheVariants.{Nothing, Only, Several}
use Rattle.pc_forward.specs.Trail.{IsOnlyWay, first_trail, operand_form, combined, behind_item, behind, Along, Begins, Goes_on}
use Rattle.pc_forward.specs.models.Ways.{AreWays, IsWay}
use Rattle.pc_forward.specs.models.Words.{TakesWords, node_writes}
use Rattle.pc_forward.specs.models.Walking.{IsForwardedNode, Is_forwarded, Stays, KeepsDone, KnownAt, IsDone, Ends, IsEnd, how_many}
use Rattle.pc_forward.specs.models.Walking.{Waits, IsListed, Walked, weight, StaysDone, begins, AreBegun, AddsAll, IsForwardedAt, BecameCopy, IsForwarding}
use Rattle.pc_forward.proofs.Noting.{one_is_edge}
use Rattle.pc_forward.proofs.OwnForms.{own_length}
use Rattle.pc_forward.proofs.GoingOn.{only_way, all_stay, all_from, all_few, all_to, few_edges}

-- ---- what a node does to what is known

combined_next : (dest : ℕ) (o : Option Form) (trail : Trail) → (combined dest o trail).next ≤ trail.next + 1
combined_next dest None trail = omega arith
combined_next dest (Some form) trail = omega arith

item_next : (item : Item) (trail : Trail) → (behind_item item trail).next ≤ trail.next + 1
item_next (Bin op dest left right) trail = combined_next dest (combine op (operand_form trail.forms left) (operand_form trail.forms right)) trail
item_next (Copy dest from) trail = omega arith
item_next (Load dest array index) trail = omega arith
item_next (Store array index value) trail = omega arith
item_next (Print value) trail = omega arith
item_next (Read dest) trail = omega arith
item_next (More dest) trail = omega arith

behind_next : (node : FlowNode) (trail : Trail) → (behind node trail).next ≤ trail.next + 1
behind_next (Op item to) trail = item_next item trail
behind_next (Test on on_yes on_no turn) trail = omega arith
behind_next Stop trail = omega arith
behind_next (Trap kind line) trail = omega arith

combined_long : (dest : ℕ) (o : Option Form) (trail : Trail) → length (combined dest o trail).forms ≡ length trail.forms
combined_long dest None trail = set_length trail.forms dest (variable_form trail.next)
combined_long dest (Some form) trail = set_length trail.forms dest form

item_long : (item : Item) (trail : Trail) → length (behind_item item trail).forms ≡ length trail.forms
item_long (Bin op dest left right) trail = combined_long dest (combine op (operand_form trail.forms left) (operand_form trail.forms right)) trail
item_long (Copy dest from) trail = set_length trail.forms dest (operand_form trail.forms from)
item_long (Load dest array index) trail = set_length trail.forms dest (variable_form trail.next)
item_long (Store array index value) trail = refl
item_long (Print value) trail = refl
item_long (Read dest) trail = set_length trail.forms dest (variable_form trail.next)
item_long (More dest) trail = set_length trail.forms dest (variable_form trail.next)

behind_long : (node : FlowNode) (trail : Trail) → length (behind node trail).forms ≡ length trail.forms
behind_long (Op item to) trail = item_long item trail
behind_long (Test on on_yes on_no turn) trail = refl
behind_long Stop trail = refl
behind_long (Trap kind line) trail = refl

-- ---- what becomes of a node

pub made_writes : (trail : Trail) (node made : FlowNode) → IsForwardedNode trail node made → node_writes made ≡ node_writes node
made_writes trail _ _ (Is_forwarded known) = refl
made_writes trail _ _ (Stays off) = refl

node_writes_fit : (flow : FlowGraph) (at : ℕ) (node : FlowNode) → NodeFits flow at node → IfSome (node_writes node) (λ name. name < variables)
node_writes_fit flow at (Op item to) fits = fits.0.writes
node_writes_fit flow at (Test on on_yes on_no turn) fits = tt
node_writes_fit flow at Stop fits = tt
node_writes_fit flow at (Trap kind line) fits = tt

pub writes_there : (flow : FlowGraph) (at : ℕ) (trail : Trail) (node made : FlowNode) → IsFlow flow → slice_get flow.nodes at ≡ Some node → length trail.forms ≡ variables
    → IsForwardedNode trail node made
    → IfSome (node_writes made) (λ name. name < length trail.forms)
writes_there flow at trail node made is there long becomes =
    subst (λ (n : ℕ). IfSome (node_writes made) (λ name. name < n)) (sym long)
    (subst (λ (o : Option ℕ). IfSome o (λ name. name < variables)) (sym (made_writes trail node made becomes)) (node_writes_fit flow at node (is.nodes_fit at node there)))

-- ---- flags

count_left : (left : List Bool) (i : ℕ) → slice_get left i ≡ Some true → how_many left ≡ suc (how_many (slice_set left i false))
count_left [] i e = absurd (cc)
count_left (false ∷ left) zero e = absurd (cc)
count_left (true ∷ left) zero e = let more = count_more (λ (flag : Bool). flag) true left in let after = count_more (λ (flag : Bool). flag) false left in omega (arith, more, after)
count_left (b ∷ left) (suc i) e =
    let more = count_more (λ (flag : Bool). flag) b left in
    let after = count_more (λ (flag : Bool). flag) b (slice_set left i false) in
    let rest = count_left left i e in
    omega (arith, more, after, rest)

few_left : (left : List Bool) → how_many left ≤ length left
few_left [] = omega arith
few_left (true ∷ left) = let more = count_more (λ (flag : Bool). flag) true left in let rest = few_left left in omega (arith, more, rest)
few_left (false ∷ left) = let more = count_more (λ (flag : Bool). flag) false left in let rest = few_left left in omega (arith, more, rest)

-- a flag that was read
pub flag_read : (left read : List Bool) (at : ℕ) (b : Bool) → read ≡ left → at < length left → get_or read at false ≡ b → slice_get left at ≡ Some b
flag_read left read at b same low is = slice_get-get_or left at false low ∙ ap (λ (l : List Bool). Some (get_or l at false)) (sym same) ∙ ap (λ (f : Bool). Some f) is

-- ---- one node more waits

-- with a node that waits besides
waits_too : (flow : FlowGraph) (left : List Bool) (nodes : List FlowNode) (waiting : List Waiting) (next : Waiting) → Walked flow left nodes waiting → Waits flow left nodes next
    → Walked flow left nodes (waiting ++ next ∷ [])
waits_too flow left nodes waiting next walked waits = record {
  is_flow = walked.is_flow;
  as_many_flags = walked.as_many_flags;
  as_many = walked.as_many;
  each = walked.each;
  done = walked.done;
  goes_on = λ from at way gone. elim (walked.goes_on from at way gone) [
    | inl done ↦ inl done
    | inr other ↦ elim other [
      | inl end ↦ inr (inl end)
      | inr l ↦ inr (inr (record { place = l.place; next = l.next; there = get_front waiting (next ∷ []) l.place l.next l.there; is = l.is }))
    ]
  ];
  waits = λ place other e. elim (get_more waiting next place other e) [
    | inl old ↦ walked.waits place other old
    | inr new ↦ subst (Waits flow left nodes) new.1 waits
  ];
}

-- the first node of a trail
pub head_waits : (flow : FlowGraph) (left : List Bool) (nodes : List FlowNode) (waiting : List Waiting) (head : ℕ) (trail : Trail) → Walked flow left nodes waiting → head < length flow.nodes
    → trail ≡ first_trail → ((from : ℕ) → IsOnlyWay flow from head → ⊥) → Walked flow left nodes (waiting ++ (record { at = head; trail = trail }) ∷ [])
head_waits flow left nodes waiting head trail walked there first alone =
    waits_too flow left nodes waiting (record { at = head; trail = trail }) walked
    (subst (λ (t : Trail). Waits flow left nodes (record { at = head; trail = t })) (sym first) (record {
      there = there;
      known = λ final keeps. Begins alone;
      room = (let few = few_left left in omega (arith, few, walked.as_many_flags));
      long = own_length 0 variables;
    }))

-- ---- a node is visited

module _ (flow : FlowGraph) (left : List Bool) (nodes : List FlowNode) (waiting : List Waiting) (next : Waiting) (walked : Walked flow left nodes (waiting ++ next ∷ [])) where
  pub next_waits : Waits flow left nodes next
  next_waits = walked.waits (length waiting) next (get_last waiting next)

  pub next_there : next.at < length left
  next_there = omega (arith, next_waits.there, walked.as_many_flags)

  -- form variables are numbers of 32 bits
  pub next_room : next.trail.next < 2 ^ 31
  next_room = omega (arith, next_waits.room, walked.is_flow.few_nodes)

  -- it was done before
  pub skipped : slice_get left next.at ≡ Some false → Walked flow left nodes waiting
  skipped gone = record {
    is_flow = walked.is_flow;
    as_many_flags = walked.as_many_flags;
    as_many = walked.as_many;
    each = walked.each;
    done = walked.done;
    goes_on = λ from at way off. elim (walked.goes_on from at way off) [
      | inl done ↦ inl done
      | inr other ↦ elim other [
        | inl end ↦ inr (inl end)
        | inr l ↦ elim (get_more waiting next l.place l.next l.there) [
          | inl old ↦ inr (inr (record { place = l.place; next = l.next; there = old; is = l.is }))
          | inr new ↦ inl (subst (λ (n : ℕ). slice_get left n ≡ Some false) (ap (λ (w : Waiting). w.at) new.1 ∙ l.is) gone)
        ]
      ]
    ];
    waits = λ place other e. walked.waits place other (get_front waiting (next ∷ []) place other e);
  }

  module _ (node made : FlowNode) (trail : Trail) (more : List Waiting) (was_left : slice_get left next.at ≡ Some true) (there : slice_get flow.nodes next.at ≡ Some node)
      (becomes : IsForwardedNode next.trail node made) (words : TakesWords made) (went : trail ≡ behind made next.trail)
      (adds : (other : FlowNode) → slice_get flow.nodes next.at ≡ Some other → AddsAll flow next.at trail (edges_of other) waiting more) where
    abbrev new_left : List Bool
    new_left = slice_set left next.at false

    abbrev new_nodes : List FlowNode
    new_nodes = slice_set nodes next.at made

    gone_here : slice_get new_left next.at ≡ Some false
    gone_here = set_there left next.at false next_there

    stands_here : slice_get new_nodes next.at ≡ Some made
    stands_here = set_there nodes next.at made (omega (arith, next_waits.there, walked.as_many))

    -- what was done stays done
    still_gone : (at : ℕ) → slice_get left at ≡ Some false → slice_get new_left at ≡ Some false
    still_gone at gone = elim (cases_eq next.at at) [
      | inl same ↦ subst (λ (n : ℕ). slice_get new_left n ≡ Some false) same gone_here
      | inr apart ↦ set_elsewhere left next.at at false apart ∙ gone
    ]

    not_here : (at : ℕ) → slice_get left at ≡ Some false → next.at ≢ at
    not_here at gone same = let was = subst (λ (n : ℕ). slice_get left n ≡ Some true) same was_left in absurd (let e : Some true ≡ Some false = sym was ∙ gone in cc)

    keeps_back : (final : List FlowNode) → KeepsDone new_left new_nodes final → KeepsDone left nodes final
    keeps_back final keeps at gone = keeps at (still_gone at gone) ∙ set_elsewhere nodes next.at at made (not_here at gone)

    known_still : (at : ℕ) (t : Trail) → KnownAt flow left nodes at t → KnownAt flow new_left new_nodes at t
    known_still at t known final keeps = known final (keeps_back final keeps)

    done_here : IsDone flow new_left new_nodes next.at
    done_here = record {
      trail = next.trail;
      known = known_still next.at next.trail next_waits.known;
      node = node;
      was = there;
      made = made;
      stands = stands_here;
      words = words;
      is = becomes;
    }

    done_still : (at : ℕ) → next.at ≢ at → IsDone flow left nodes at → IsDone flow new_left new_nodes at
    done_still at apart d = record {
      trail = d.trail;
      known = known_still at d.trail d.known;
      node = d.node;
      was = d.was;
      made = d.made;
      stands = set_elsewhere nodes next.at at made apart ∙ d.stands;
      words = d.words;
      is = d.is;
    }

    new_from : (from at : ℕ) → IsOnlyWay flow from at → (from ≡ next.at) → IsEnd flow at ⊎ IsListed more at
    new_from from at way same =
        let moved = subst (λ (n : ℕ). IsOnlyWay flow n at) same way in
        all_to flow next.at trail moved.node waiting more at (adds moved.node moved.there) (one_is_edge moved.node at moved.edge) moved

    more_goes_on : (from at : ℕ) → IsOnlyWay flow from at → slice_get new_left from ≡ Some false → (slice_get new_left at ≡ Some false) ⊎ (IsEnd flow at ⊎ IsListed more at)
    more_goes_on from at way gone = elim (cases_eq next.at from) [
      | inl same ↦ inr (new_from from at way (sym same))
      | inr apart ↦ elim (walked.goes_on from at way (sym (set_elsewhere left next.at from false apart) ∙ gone)) [
        | inl done ↦ inl (still_gone at done)
        | inr other ↦ elim other [
          | inl end ↦ inr (inl end)
          | inr l ↦ elim (get_more waiting next l.place l.next l.there) [
            | inl old ↦ inr (inr (record {
              place = l.place;
              next = l.next;
              there = all_stay flow next.at trail (edges_of node) waiting more (adds node there) l.place l.next old;
              is = l.is;
            }))
            | inr new ↦ inl (subst (λ (n : ℕ). slice_get new_left n ≡ Some false) (ap (λ (w : Waiting). w.at) new.1 ∙ l.is) gone_here)
          ]
        ]
      ]
    ]

    waits_new : (other : Waiting) → (other.trail ≡ trail) × IsOnlyWay flow next.at other.at → Waits flow new_left new_nodes other
    waits_new other h =
        let fewer = count_left left next.at was_left in
        let grown = behind_next made next.trail in
        let is_behind : other.trail ≡ behind made next.trail = h.0 ∙ went in
        let number = ap (λ (t : Trail). t.next) is_behind in
        record {
          there = reachable_there flow other.at walked.is_flow (Behind h.1.reached h.1.there (one_is_edge h.1.node other.at h.1.edge));
          known = λ final keeps. subst (Along flow final other.at) (sym is_behind)
              (Goes_on h.1 (keeps next.at gone_here ∙ stands_here) (next_waits.known final (keeps_back final keeps)));
          room = omega (arith, fewer, grown, number, next_waits.room);
          long = ap (λ (t : Trail). length t.forms) is_behind ∙ behind_long made next.trail ∙ next_waits.long;
        }

    waits_still : (other : Waiting) → Waits flow left nodes other → Waits flow new_left new_nodes other
    waits_still other w =
        let fewer = count_left left next.at was_left in
        record { there = w.there; known = known_still other.at other.trail w.known; room = omega (arith, fewer, w.room); long = w.long }

    pub visited : Walked flow new_left new_nodes more
    visited = record {
      is_flow = walked.is_flow;
      as_many_flags = set_length left next.at false ∙ walked.as_many_flags;
      as_many = set_length nodes next.at made ∙ walked.as_many;
      each = λ at. elim (cases_eq next.at at) [
        | inl same ↦ inr (subst (IsDone flow new_left new_nodes) same done_here)
        | inr apart ↦ elim (walked.each at) [
          | inl old ↦ inl (set_elsewhere nodes next.at at made apart ∙ old)
          | inr d ↦ inr (done_still at apart d)
        ]
      ];
      done = λ at reached gone. elim (cases_eq next.at at) [
        | inl same ↦ subst (IsDone flow new_left new_nodes) same done_here
        | inr apart ↦ done_still at apart (walked.done at reached (sym (set_elsewhere left next.at at false apart) ∙ gone))
      ];
      goes_on = more_goes_on;
      waits = λ place other e. elim (all_from flow next.at trail (edges_of node) waiting more (adds node there) place other e) [
        | inl old ↦ waits_still other (walked.waits place other (get_front waiting (next ∷ []) place other old))
        | inr new ↦ waits_new other new
      ];
    }

    pub visited_still : StaysDone left new_left
    visited_still = still_gone

    pub visited_done : slice_get new_left next.at ≡ Some false
    visited_done = gone_here

    pub visited_lighter : weight new_left more ≤ weight left waiting
    visited_lighter =
        let fewer = count_left left next.at was_left in
        let few = all_few flow next.at trail (edges_of node) waiting more (adds node there) in
        let edges = few_edges flow next.at trail node in
        omega (arith, fewer, few, edges)

-- ---- the whole walk

pub begun : (flow : FlowGraph) (left : List Bool) (nodes : List FlowNode) (waiting : List Waiting) → AreReached flow left → nodes ≡ flow.nodes → waiting ≡ [] → Walked flow left nodes waiting
begun flow left nodes waiting are same none = record {
  is_flow = are.is_flow;
  as_many_flags = are.as_many;
  as_many = ap length same;
  each = λ at. inl (ap (λ (l : List FlowNode). slice_get l at) same);
  done = λ at reached gone. absurd (let flag = are.all at reached in let e : Some true ≡ Some false = sym flag ∙ gone in cc);
  goes_on = λ from at way gone. absurd (let flag = are.all from way.reached in let e : Some true ≡ Some false = sym flag ∙ gone in cc);
  waits = λ place next e. absurd (let got : slice_get [] place ≡ Some next = subst (λ (l : List Waiting). slice_get l place ≡ Some next) none e in cc);
}

-- no edge leads from an end
end_edge : (node : FlowNode) (to : ℕ) → Ends node → HasEdge node to → ⊥
end_edge (Op item next) to ends edge = ends
end_edge (Test on on_yes on_no turn) to ends edge = ends
end_edge Stop to ends edge = edge
end_edge (Trap kind line) to ends edge = edge

module _ (flow : FlowGraph) (table : List Way) (left : List Bool) (nodes : List FlowNode) (are : AreWays flow table) (walked : Walked flow left nodes [])
    (heads : AreBegun table (length flow.nodes) left) where
  abbrev Settled : ℕ → Type 0
  Settled at = (slice_get left at ≡ Some false) ⊎ IsEnd flow at

  -- by the way that leads there
  settled_by : (at : ℕ) (known : Way) → slice_index_or table at Nothing ≡ known → IsReachableNode flow at → (known ≡ Nothing → ⊥) → ((from : ℕ) → known ≡ Only from → Settled at) → Settled at
  settled_by at Nothing e reached some before = absurd (some refl)
  settled_by at (Only from) e reached some before = before from refl
  settled_by at Several e reached some before = inl (heads at (reachable_there flow at walked.is_flow reached) (ap begins e))

  -- behind a node that is done
  settled_behind : (from at : ℕ) (node : FlowNode) → slice_get flow.nodes from ≡ Some node → HasEdge node at → IsOnlyWay flow from at → Settled from → Settled at
  settled_behind from at node there edge way (inl gone) = elim (walked.goes_on from at way gone) [
    | inl done ↦ inl done
    | inr other ↦ elim other [
      | inl end ↦ inr end
      | inr l ↦ absurd (let e = l.there in cc)
    ]
  ]
  settled_behind from at node there edge way (inr end) =
      let stands = end.there in
      let same : end.node ≡ node = (cc) in
      absurd (end_edge node at (subst Ends same end.ends) edge)

  -- the only way, where the table tells it
  told_way : (from at other : ℕ) (node : FlowNode) → IsReachableNode flow other → slice_get flow.nodes other ≡ Some node → HasEdge node at → IsWay flow (length flow.nodes) at (Only from)
      → IsOnlyWay flow other at
  told_way from at other node reached there edge h =
      let same : other ≡ from = h.3 other node (reachable_there flow other walked.is_flow reached) reached there edge in
      subst (λ (n : ℕ). IsOnlyWay flow n at) (sym same) (only_way flow from at (Only from) walked.is_flow h (eq-eqb from from refl))

  -- each node that can be reached is done, or is an end
  pub settled : (at : ℕ) → IsReachableNode flow at → Settled at
  settled _ Entry =
      let h = are.each flow.entry walked.is_flow.begins in
      settled_by flow.entry (slice_index_or table flow.entry Nothing) refl Entry (λ e. (subst (IsWay flow (length flow.nodes) flow.entry) e h).0 refl)
      (λ from e. absurd ((subst (IsWay flow (length flow.nodes) flow.entry) e h).1 refl))
  settled _ (Behind {from = from} {to = at} {node = node} before there edge) =
      let reached : IsReachableNode flow at = Behind before there edge in
      let h = are.each at (reachable_there flow at walked.is_flow reached) in
      let below = settled from before in
      settled_by at (slice_index_or table at Nothing) refl reached
      (λ e. (subst (IsWay flow (length flow.nodes) at) e h).1 from node (reachable_there flow from walked.is_flow before) before there edge)
      (λ other e. settled_behind from at node there edge (told_way other at from node before there edge (subst (IsWay flow (length flow.nodes) at) e h)) below)

-- what is done is done by what is known in the end
pub forwarded_at : (flow : FlowGraph) (left : List Bool) (nodes : List FlowNode) (at : ℕ) → IsDone flow left nodes at → IsForwardedAt flow nodes at
forwarded_at flow left nodes at d = record {
  trail = d.trail;
  known = d.known nodes (λ at e. refl);
  node = d.node;
  was = d.was;
  made = d.made;
  stands = d.stands;
  words = d.words;
  is = d.is;
}

-- one head more
pub heads_more : (table : List Way) (bound : ℕ) (left new : List Bool) → StaysDone left new → AreBegun table bound left
    → (begins (slice_index_or table bound Nothing) ≡ true → slice_get new bound ≡ Some false) → AreBegun table (bound + 1) new
heads_more table bound left new still before here head low is = elim (cases_eq head bound) [
  | inl same ↦
      subst (λ (n : ℕ). slice_get new n ≡ Some false) (sym same) (here (subst (λ (n : ℕ). begins (slice_index_or table n Nothing) ≡ true) same is))
  | inr apart ↦ still head (before head (omega (arith, low, apart)) is)
]

-- the plan that a walk ends with
pub forwarding_is : (flow : FlowGraph) (table : List Way) (left : List Bool) (plan : Plan) → AreWays flow table → Walked flow left plan.nodes [] → AreBegun table (length flow.nodes) left
    → plan.entry ≡ flow.entry → AreMany (BecameCopy flow.nodes plan.nodes) (length flow.nodes) plan.changed → IsForwarding flow plan
forwarding_is flow table left plan are walked heads entry changed = record {
  is_flow = walked.is_flow;
  as_many = walked.as_many;
  each = λ at. elim (walked.each at) [
    | inl same ↦ inl same
    | inr d ↦ inr (forwarded_at flow left plan.nodes at d)
  ];
  done = λ at reached. elim (settled flow table left plan.nodes are walked heads at reached) [
    | inl gone ↦ inl (forwarded_at flow left plan.nodes at (walked.done at reached gone))
    | inr end ↦ inr end
  ];
  entry = entry;
  changed = changed;
}
