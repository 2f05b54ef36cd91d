-- A walk over the nodes that can be reached: each that is met is flagged and listed, until all that they lead to are.
use Rattle.std.proofs.Common.{◌≡◌, ◌≢◌, inl, inr, ℕ, zero, suc, ◌+◌, ◌*◌, ◌<◌, ◌≤◌, Bool, true, false, not, List, [], ◌∷◌, ◌++◌, length, replicate, get_or, Some, None, refl, sym, ◌∙◌, ap, subst}
use Rattle.std.proofs.Common.{arith}
use Rattle.std.specs.Prelude.{slice_get, slice_set}
use Rattle.std.specs.List.{AllByRecursion, count_by}
use Rattle.std.proofs.lemmas.Bool.{cases_eq}
use Rattle.std.proofs.lemmas.List.{length-replicate, length_push, get_or-replicate}
use Rattle.std.proofs.lemmas.Option.{slice_get_within, slice_get-get_or}
use Rattle.pc_word.proofs.Lists.{set_length, count_more}
use Rattle.pc_flow.specs.declared.node.FlowNode.{FlowNode}
use Rattle.pc_flow.specs.declared.node.FlowNode.TheVariants.{Op, Test, Stop, Trap}
use Rattle.pc_flow.specs.FlowGraph.{FlowGraph, IsFlow, HasEdge}
use Rattle.pc_flow.specs.Reachable.{IsReachableNode, Entry, Behind}
use Rattle.pc_pass.proofs.Changes.{reachable_there}
use Rattle.pc_scalar.specs.models.Met.{edges_of, Meets, Known, First, MeetsAll, Nothing_met, Node_met, AreReached}
use Rattle.pc_word.proofs.Places.{get_front, get_last, get_more, set_there, set_elsewhere}

-- nodes that were met, of which some have had their edges followed
pub record Meeting (flow : FlowGraph) (flags : List Bool) (met : List ℕ) (done : ℕ) : Type 0 where
  pub as_many : length flags ≡ length flow.nodes
  pub reached : (at : ℕ) → slice_get flags at ≡ Some true → IsReachableNode flow at
  pub listed : (at : ℕ) → slice_get flags at ≡ Some true → (i : ℕ) × (slice_get met i ≡ Some at)
  pub flagged : (i at : ℕ) → slice_get met i ≡ Some at → slice_get flags at ≡ Some true
  pub followed : (i at to : ℕ) (node : FlowNode) → i < done → slice_get met i ≡ Some at → slice_get flow.nodes at ≡ Some node → HasEdge node to
      → slice_get flags to ≡ Some true

-- twice the nodes that were not met, and those that were: it does not rise
abbrev pub weight : List Bool → List ℕ → ℕ
weight flags met = 2 * count_by not flags + length met

-- a node that is flagged is no longer counted
count_flagged : (flags : List Bool) (i : ℕ) → slice_get flags i ≡ Some false → count_by not flags ≡ suc (count_by not (slice_set flags i true))
count_flagged [] i e = absurd (cc)
count_flagged (true ∷ flags) zero e = absurd (cc)
count_flagged (false ∷ flags) zero e = let more = count_more not false flags in let after = count_more not true flags in omega (arith, more, after)
count_flagged (b ∷ flags) (suc i) e =
    let more = count_more not b flags in
    let after = count_more not b (slice_set flags i true) in
    let rest = count_flagged flags i e in
    omega (arith, more, after, rest)

-- flags stay where one more is set
flag_stays : (flags : List Bool) (node at : ℕ) → slice_get flags at ≡ Some true → slice_get (slice_set flags node true) at ≡ Some true
flag_stays flags node at e = elim (cases_eq node at) [
  | inl same ↦ subst (λ (n : ℕ). slice_get (slice_set flags node true) n ≡ Some true) same
      (set_there flags node true (subst (λ (n : ℕ). n < length flags) (sym same) (slice_get_within flags at true e)))
  | inr other ↦ set_elsewhere flags node at true other ∙ e
]

-- what is known once a node was met
pub record Went (flow : FlowGraph) (flags new : List Bool) (met later : List ℕ) (done : ℕ) : Type 0 where
  pub meeting : Meeting flow new later done
  pub stay : (at : ℕ) → slice_get flags at ≡ Some true → slice_get new at ≡ Some true
  pub listed_still : (i at : ℕ) → slice_get met i ≡ Some at → slice_get later i ≡ Some at
  pub lighter : weight new later ≤ weight flags met

-- nothing more was met
went_none : (flow : FlowGraph) (flags : List Bool) (met : List ℕ) (done : ℕ) → Meeting flow flags met done → Went flow flags flags met met done
went_none flow flags met done meeting = record { meeting = meeting; stay = λ at e. e; listed_still = λ i at e. e; lighter = omega arith }

module _ (flow : FlowGraph) (flags : List Bool) (met : List ℕ) (done node : ℕ) (meeting : Meeting flow flags met done) (few : done ≤ length met)
    (reached : IsReachableNode flow node) (fresh : slice_get flags node ≡ Some false) where
  abbrev more_flags : List Bool
  more_flags = slice_set flags node true

  abbrev more_met : List ℕ
  more_met = met ++ node ∷ []

  within : node < length flags
  within = slice_get_within flags node false fresh

  flagged_before : (at : ℕ) → node ≢ at → slice_get more_flags at ≡ Some true → slice_get flags at ≡ Some true
  flagged_before at other e = sym (set_elsewhere flags node at true other) ∙ e

  went_first : Went flow flags more_flags met more_met done
  went_first = record {
    meeting = record {
      as_many = set_length flags node true ∙ meeting.as_many;
      reached = λ at e. elim (cases_eq node at) [
        | inl same ↦ subst (IsReachableNode flow) same reached
        | inr other ↦ meeting.reached at (flagged_before at other e)
      ];
      listed = λ at e. elim (cases_eq node at) [
        | inl same ↦ (length met, get_last met node ∙ ap (λ (n : ℕ). Some n) same)
        | inr other ↦ let old = meeting.listed at (flagged_before at other e) in (old.0, get_front met (node ∷ []) old.0 at old.1)
      ];
      flagged = λ i at e. elim (get_more met node i at e) [
        | inl old ↦ flag_stays flags node at (meeting.flagged i at old)
        | inr here ↦ subst (λ (n : ℕ). slice_get more_flags n ≡ Some true) here.1 (set_there flags node true within)
      ];
      followed = λ i at to one low e there edge. elim (get_more met node i at e) [
        | inl old ↦ flag_stays flags node to (meeting.followed i at to one low old there edge)
        | inr here ↦ absurd (omega (arith, here.0))
      ];
    };
    stay = λ at e. flag_stays flags node at e;
    listed_still = λ i at e. get_front met (node ∷ []) i at e;
    lighter = omega (arith, count_flagged flags node fresh, length_push met node);
  }

-- a node was met
meets_went : (flow : FlowGraph) (flags new : List Bool) (met later : List ℕ) (done node : ℕ) → Meeting flow flags met done → done ≤ length met
    → IsReachableNode flow node → Meets flags new met later node → Went flow flags new met later done × (slice_get new node ≡ Some true)
meets_went flow flags new met later done node meeting few reached (Known flagged same as_before) = (
  subst (λ (l : List ℕ). Went flow flags new met l done) (sym as_before) (subst (λ (f : List Bool). Went flow flags f met met done) (sym same) (went_none flow flags met done meeting)),
  ap (λ (f : List Bool). slice_get f node) same ∙ flagged,
)
meets_went flow flags new met later done node meeting few reached (First fresh flagged listed) = (
  subst (λ (l : List ℕ). Went flow flags new met l done) (sym listed)
      (subst (λ (f : List Bool). Went flow flags f met (met ++ node ∷ []) done) (sym flagged) (went_first flow flags met done node meeting few reached fresh)),
  ap (λ (f : List Bool). slice_get f node) flagged ∙ set_there flags node true (slice_get_within flags node false fresh),
)

-- one way after another
went_trans : (flow : FlowGraph) (flags mid new : List Bool) (met more later : List ℕ) (done : ℕ) → Went flow flags mid met more done → Went flow mid new more later done
    → Went flow flags new met later done
went_trans flow flags mid new met more later done one other = record {
  meeting = other.meeting;
  stay = λ at e. other.stay at (one.stay at e);
  listed_still = λ i at e. other.listed_still i at (one.listed_still i at e);
  lighter = let first = one.lighter in let second = other.lighter in omega (arith, first, second);
}

-- the list has not become shorter
longer : (flow : FlowGraph) (flags new : List Bool) (met later : List ℕ) (done : ℕ) → Went flow flags new met later done → done ≤ length met → done ≤ length later
longer flow flags new met later zero went few = omega arith
longer flow flags new met later (suc done) went few =
    let last = slice_get-get_or met done 0 (omega arith) in
    let still = slice_get_within later done _ (went.listed_still done _ last) in
    omega (arith, still)

-- several were met
pub all_went : (flow : FlowGraph) (nodes : List ℕ) (flags new : List Bool) (met later : List ℕ) (done : ℕ) → Meeting flow flags met done → done ≤ length met
    → AllByRecursion (IsReachableNode flow) nodes → MeetsAll nodes flags new met later
    → Went flow flags new met later done × AllByRecursion (λ to. slice_get new to ≡ Some true) nodes
all_went flow _ _ _ _ _ done meeting few reached (Nothing_met {flags = flags} {met = met}) = (went_none flow flags met done meeting, tt)
all_went flow _ _ _ _ _ done meeting few reached (Node_met {node = node} {nodes = nodes} {flags = flags} {mid = mid} {new = new} {met = met} {more = more} {later = later} one rest) =
    let first = meets_went flow flags mid met more done node meeting few reached.0 one in
    let others = all_went flow nodes mid new more later done first.0.meeting (longer flow flags mid met more done first.0 few) reached.1 rest in
    (went_trans flow flags mid new met more later done first.0 others.0, (others.0.stay node first.1, others.1))

-- an edge leads to one of the nodes to which the edges lead
edge_among : (P : ℕ → Type 0) (node : FlowNode) (to : ℕ) → HasEdge node to → AllByRecursion P (edges_of node) → P to
edge_among P (Op item next) to e all = subst P e all.0
edge_among P (Test on on_yes on_no turn) to (inl e) all = subst P e all.0
edge_among P (Test on on_yes on_no turn) to (inr e) all = subst P e all.1.0
edge_among P Stop to e all = absurd e
edge_among P (Trap kind line) to e all = absurd e

edges_reached : (flow : FlowGraph) (at : ℕ) (node : FlowNode) → IsReachableNode flow at → slice_get flow.nodes at ≡ Some node → AllByRecursion (IsReachableNode flow) (edges_of node)
edges_reached flow at (Op item next) reached there = (Behind reached there refl, tt)
edges_reached flow at (Test on on_yes on_no turn) reached there = (Behind reached there (inl refl), (Behind reached there (inr refl), tt))
edges_reached flow at Stop reached there = tt
edges_reached flow at (Trap kind line) reached there = tt

-- one node more has had its edges followed
pub meeting_more : (flow : FlowGraph) (flags new : List Bool) (met later : List ℕ) (done at : ℕ) (node : FlowNode) → Meeting flow flags met done
    → slice_get met done ≡ Some at → slice_get flow.nodes at ≡ Some node → MeetsAll (edges_of node) flags new met later
    → Meeting flow new later (done + 1) × (weight new later ≤ weight flags met) × (done < length later)
    × ((k : ℕ) → slice_get flags k ≡ Some true → slice_get new k ≡ Some true)
meeting_more flow flags new met later done at node meeting next there all =
    let within_met = slice_get_within met done at next in
    let reached = meeting.reached at (meeting.flagged done at next) in
    let went = all_went flow (edges_of node) flags new met later done meeting (omega (arith, within_met)) (edges_reached flow at node reached there) all in
    let it = went.0 in (
      record {
        as_many = it.meeting.as_many;
        reached = it.meeting.reached;
        listed = it.meeting.listed;
        flagged = it.meeting.flagged;
        followed = λ i one to other low e stands edge. elim (cases_eq i done) [
          | inl same ↦
              let here : slice_get later done ≡ Some at = it.listed_still done at next in
              let this : slice_get later done ≡ Some one = subst (λ (n : ℕ). slice_get later n ≡ Some one) same e in
              let is_at : at ≡ one = (cc) in
              let stands_at : slice_get flow.nodes at ≡ Some other = subst (λ (n : ℕ). slice_get flow.nodes n ≡ Some other) (sym is_at) stands in
              let is_node : node ≡ other = (cc) in
              edge_among (λ (n : ℕ). slice_get new n ≡ Some true) node to (subst (λ (n : FlowNode). HasEdge n to) (sym is_node) edge) went.1
          | inr apart ↦ it.meeting.followed i one to other (omega arith) e stands edge
        ];
      },
      it.lighter,
      slice_get_within later done at (it.listed_still done at next),
      it.stay,
    )

-- where the edges of all that were met are followed, all that can be reached were met
all_reached : (flow : FlowGraph) (flags : List Bool) (met : List ℕ) (done at : ℕ) → Meeting flow flags met done → length met ≤ done
    → slice_get flags flow.entry ≡ Some true → IsReachableNode flow at → slice_get flags at ≡ Some true
all_reached flow flags met done _ meeting end entry Entry = entry
all_reached flow flags met done _ meeting end entry (Behind {from = from} {to = at} {node = node} before there edge) =
    let listed = meeting.listed from (all_reached flow flags met done from meeting end entry before) in
    let low = slice_get_within met listed.0 from listed.1 in
    meeting.followed listed.0 from at node (omega (arith, low)) listed.1 there edge

pub meeting_ends : (flow : FlowGraph) (flags : List Bool) (met : List ℕ) (done : ℕ) → IsFlow flow → Meeting flow flags met done → length met ≤ done
    → slice_get flags flow.entry ≡ Some true → AreReached flow flags
meeting_ends flow flags met done is meeting end entry = record {
  is_flow = is;
  as_many = meeting.as_many;
  only = meeting.reached;
  all = λ at reached. all_reached flow flags met done at meeting end entry reached;
}

none_flagged : (n at : ℕ) → slice_get (replicate n false) at ≡ Some true → ⊥
none_flagged n at e =
    let within_n = slice_get_within (replicate n false) at true e in
    let low : at < n = omega (arith, within_n, length-replicate n false) in
    let is = slice_get-get_or (replicate n false) at false within_n ∙ ap Some (get_or-replicate n at false false low) in
    cc

-- at first the entry is met
pub meeting_begins : (flow : FlowGraph) (n : ℕ) (new : List Bool) (later : List ℕ) → n ≡ length flow.nodes
    → Meets (replicate n false) new [] later flow.entry → Meeting flow new later 0 × (slice_get new flow.entry ≡ Some true)
meeting_begins flow n new later e meets =
    let begins : Meeting flow (replicate n false) [] 0 = record {
      as_many = length-replicate n false ∙ e;
      reached = λ at h. absurd (none_flagged n at h);
      listed = λ at h. absurd (none_flagged n at h);
      flagged = λ i at h. absurd (cc);
      followed = λ i at to node low h there edge. absurd (omega arith);
    } in
    let went = meets_went flow (replicate n false) new [] later 0 flow.entry begins (omega arith) Entry meets in
    (went.0.meeting, went.1)

-- ---- the nodes after one node

-- an edge leads to a node that has a flag
pub op_target : (flow : FlowGraph) (at : ℕ) (count : ℕ) (node : FlowNode) → IsFlow flow → count ≡ length flow.nodes → slice_get flow.nodes at ≡ Some node
    → AllByRecursion (λ to. to < count) (edges_of node)
op_target flow at count (Op item to) is e there = (subst (λ (n : ℕ). to < n) (sym e) (is.nodes_fit at (Op item to) there).1.target, tt)
op_target flow at count (Test on on_yes on_no None) is e there =
    let fits = (is.nodes_fit at (Test on on_yes on_no None) there).1 in
    (subst (λ (n : ℕ). on_yes < n) (sym e) fits.0.target, (subst (λ (n : ℕ). on_no < n) (sym e) fits.1.target, tt))
op_target flow at count (Test on on_yes on_no (Some turn)) is e there =
    let fits = (is.nodes_fit at (Test on on_yes on_no (Some turn)) there).1 in
    (subst (λ (n : ℕ). on_yes < n) (sym e) fits.0, (subst (λ (n : ℕ). on_no < n) (sym e) fits.1, tt))
op_target flow at count Stop is e there = tt
op_target flow at count (Trap kind line) is e there = tt

-- what was met after a node
pub met_behind : (nodes : List FlowNode) (at : ℕ) (this : FlowNode) (flags new : List Bool) (met later : List ℕ) → slice_get nodes at ≡ Some this
    → MeetsAll (edges_of this) flags new met later → (node : FlowNode) → slice_get nodes at ≡ Some node → MeetsAll (edges_of node) flags new met later
met_behind nodes at this flags new met later is all node e =
    let same : this ≡ node = (cc) in subst (λ (n : FlowNode). MeetsAll (edges_of n) flags new met later) same all

-- the flags are as many
pub meets_length : (flags new : List Bool) (met later : List ℕ) (node : ℕ) → Meets flags new met later node → length new ≡ length flags
meets_length flags new met later node (Known flagged same listed) = ap length same
meets_length flags new met later node (First fresh flagged listed) = ap length flagged ∙ set_length flags node true

-- the node that comes next
pub next_met : (met list : List ℕ) (done : ℕ) → list ≡ met → done < length met → slice_get met done ≡ Some (get_or list done 0)
next_met met list done is low = subst (λ (l : List ℕ). slice_get met done ≡ Some (get_or l done 0)) (sym is) (slice_get-get_or met done 0 low)

-- it is there
pub next_there : (flow : FlowGraph) (flags : List Bool) (met : List ℕ) (done at : ℕ) → IsFlow flow → Meeting flow flags met done → slice_get met done ≡ Some at
    → at < length flow.nodes
next_there flow flags met done at is meeting next = reachable_there flow at is (meeting.reached at (meeting.flagged done at next))
