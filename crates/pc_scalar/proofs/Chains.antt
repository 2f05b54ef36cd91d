-- Chains of nodes that take each other's places.
use Rattle.std.proofs.Common.{◌≡◌, ◌≢◌, ◌⊎◌, inl, inr, ℕ, ◌+◌, ◌<◌, ◌≤◌, List, [], ◌∷◌, ◌++◌, length, Option, Some, None, refl, sym, ◌∙◌, ap, subst, arith, length-set}
use Rattle.std.specs.Prelude.{slice_set, slice_index, IfSome}
use Rattle.std.proofs.lemmas.Bool.{cases_eq}
use Rattle.std.proofs.lemmas.List.{get_or_append_left, get_or_push}
use Rattle.pc_word.proofs.Lists.{index_set_same, index_set_other}
use Rattle.pc_flow.specs.declared.node.FlowNode.{FlowNode}
use Rattle.pc_flow.specs.declared.node.FlowNode.TheVariants.{Op, Test, Stop, Trap}
use Rattle.pc_flow.specs.FlowGraph.{FlowGraph, Descends, TestFits, NodeFits, HasEdge, tested_loop, KeepsTurn}
use Rattle.pc_pass.specs.models.Change.{Way, Here, Past, LeadsPast}
use Rattle.pc_scalar.specs.models.Ends.{Jump, FallsAlong, IsShortened, EndsAt, AreEnds, led}

-- one way after another
pub way-trans : (Skips : ℕ → ℕ → Type 0) (a b c : ℕ) → Way Skips a b → Way Skips b c → Way Skips a c
way-trans Skips _ _ c Here h = h
way-trans Skips _ b c (Past skips rest) h = Past skips (way-trans Skips _ b c rest h)

-- a table is a shortened one of itself
pub shortened_first : (table : List ℕ) → IsShortened table table
shortened_first table = record {
  as_many = refl;
  leads = λ at there. elim (cases_eq (slice_index table at) at) [
    | inl same ↦ subst (Way (Jump table) at) (sym same) Here
    | inr other ↦ Past (record { leads = refl; other = other }) Here
  ];
  ends = λ at there same. same;
}

module _ (flow : FlowGraph) (first : List ℕ) (falls : FallsAlong flow first) where
  abbrev Rank : ℕ → ℕ
  Rank at = slice_index flow.ranks at

  -- where a chain leads to, the rank is lower, if it is another node
  pub chain_falls : (at to : ℕ) → at < length first → Way (Jump first) at to → (to < length first) × ((to ≡ at) ⊎ (Rank to < Rank at))
  chain_falls _ _ there Here = (there, inl refl)
  chain_falls _ to there (Past {at = at} {next = next} skips rest) =
      let low : Rank next < Rank at = subst (λ (n : ℕ). Rank n < Rank at) skips.leads (falls.falls at there (λ same. skips.other (sym skips.leads ∙ same))) in
      let behind = chain_falls next to (subst (λ (n : ℕ). n < length first) skips.leads (falls.there at there)) rest in (
        behind.0,
        inr (elim behind.1 [
          | inl same ↦ subst (λ (n : ℕ). Rank n < Rank at) (sym same) low
          | inr lower ↦ omega arith
        ]),
      )

  module _ (table : List ℕ) (shortened : IsShortened first table) where
    -- so is the rank of what a shortened table names
    pub next_falls : (at : ℕ) → at < length first → slice_index table at ≢ at
        → (slice_index table at < length first) × (Rank (slice_index table at) < Rank at)
    next_falls at there other =
        let behind = chain_falls at (slice_index table at) there (shortened.leads at there) in (
          behind.0,
          elim behind.1 [
            | inl same ↦ absurd (other same)
            | inr lower ↦ lower
          ],
        )

    module _ (at far : ℕ) (there : at < length first) (other : slice_index table at ≢ at) (is : far ≡ slice_index table (slice_index table at)) where
      -- two steps of the chain
      pub two_lead : Way (Jump first) at far
      two_lead =
          let next = next_falls at there other in
          subst (Way (Jump first) at) (sym is)
          (way-trans (Jump first) at (slice_index table at) (slice_index table (slice_index table at)) (shortened.leads at there)
          (shortened.leads (slice_index table at) next.0))

      -- lead to a lower rank
      pub two_fall : (far < length first) × (Rank far < Rank at)
      two_fall =
          let next = next_falls at there other in
          let behind = chain_falls (slice_index table at) far next.0 (subst (Way (Jump first) (slice_index table at)) (sym is) (shortened.leads (slice_index table at) next.0)) in (
            behind.0,
            elim behind.1 [
              | inl same ↦ subst (λ (n : ℕ). Rank n < Rank at) (sym same) next.1
              | inr lower ↦ omega arith
            ],
          )

      -- and may be made one
      pub shortened_more : IsShortened first (slice_set table at far)
      shortened_more =
          let within : at < length table = omega (arith, shortened.as_many) in
          let stands = index_set_same table at far within in
          record {
            as_many = length-set table at far ∙ shortened.as_many;
            leads = λ k low. elim (cases_eq at k) [
              | inl same ↦ subst (λ (n : ℕ). Way (Jump first) n (slice_index (slice_set table at far) n)) same (subst (Way (Jump first) at) (sym stands) two_lead)
              | inr apart ↦ subst (Way (Jump first) k) (sym (index_set_other table at k far apart)) (shortened.leads k low)
            ];
            ends = λ k low e. elim (cases_eq at k) [
              | inl same ↦
                  let back : far ≡ at = sym stands ∙ (subst (λ (n : ℕ). slice_index (slice_set table at far) n ≡ n) (sym same) e) in
                  let low_rank : Rank far < Rank at = two_fall.1 in
                  let same_rank : Rank far ≡ Rank at = ap Rank back in
                  absurd (omega arith)
              | inr apart ↦ shortened.ends k low (sym (index_set_other table at k far apart) ∙ e)
            ];
          }

-- the end of one chain more
pub ends_more : (first ends more : List ℕ) (at end : ℕ) → more ≡ ends ++ end ∷ [] → length ends ≡ at → EndsAt first at end
    → ((k : ℕ) → k < at → EndsAt first k (slice_index ends k)) → (k : ℕ) → k < at + 1 → EndsAt first k (slice_index more k)
ends_more first ends more at end is long here so_far k low = elim (cases_eq k at) [
  | inl same ↦
      let stands : slice_index more k ≡ end = ap (λ (l : List ℕ). slice_index l k) is ∙ get_or_push ends end 0 k (long ∙ sym same) in
      subst (EndsAt first k) (sym stands) (subst (λ (n : ℕ). EndsAt first n end) (sym same) here)
  | inr apart ↦
      let before : k < at = omega arith in
      let stands : slice_index more k ≡ slice_index ends k =
      ap (λ (l : List ℕ). slice_index l k) is ∙ get_or_append_left ends (end ∷ []) 0 k (omega arith) in
      subst (EndsAt first k) (sym stands) (so_far k before)
]

-- ---- ends

-- a chain that goes nowhere ends where it begins
pub stays_end : (table : List ℕ) (at to : ℕ) → slice_index table at ≡ at → Way (Jump table) at to → to ≡ at
stays_end table _ _ stays Here = refl
stays_end table _ to stays (Past skips rest) = absurd (skips.other (sym skips.leads ∙ stays))

-- where a chain ends, its end is no other node's place
pub end_leads_past : (table : List ℕ) (from to : ℕ) → EndsAt table from to → LeadsPast (Jump table) from to
end_leads_past table from to end = record { way = end.leads; stays = λ next jump. jump.other (sym jump.leads ∙ end.stays) }

-- a chain has one end
pub one_end : (table : List ℕ) (from to other : ℕ) → Way (Jump table) from to → slice_index table to ≡ to → Way (Jump table) from other → slice_index table other ≡ other → to ≡ other
one_end table _ _ other Here stays way ends = sym (stays_end table _ other stays way)
one_end table _ to _ (Past skips rest) stays Here ends = absurd (skips.other (sym skips.leads ∙ ends))
one_end table _ to other (Past {next = next} skips rest) stays (Past {next = second} also more) ends =
    let same : second ≡ next = sym also.leads ∙ skips.leads in
    one_end table next to other rest stays (subst (λ (n : ℕ). Way (Jump table) n other) same more) ends

module _ (flow : FlowGraph) (table ends : List ℕ) (falls : FallsAlong flow table) (are_ends : AreEnds table ends) where
  -- an end is there, and its rank is no higher
  pub end_falls : (at : ℕ) → at < length flow.nodes
      → (slice_index ends at < length flow.nodes) × (slice_index flow.ranks (slice_index ends at) ≤ slice_index flow.ranks at)
  end_falls at there =
      let within : at < length table = omega (arith, falls.as_many) in
      let behind = chain_falls flow table falls at (slice_index ends at) within (are_ends.each at within).leads in (
        omega (arith, falls.as_many, behind.0),
        elim behind.1 [
          | inl same ↦ let e : slice_index flow.ranks (slice_index ends at) ≡ slice_index flow.ranks at = ap (slice_index flow.ranks) same in omega (arith, e)
          | inr lower ↦ omega arith
        ],
      )

  descends_led : (from to : ℕ) → Descends flow from to → Descends flow from (slice_index ends to)
  descends_led from to h = let end = end_falls to h.target in record { target = end.0; lower = omega (arith, end.1, h.lower) }

  test_led : (from on_yes on_no : ℕ) (turn : Option ℕ) → TestFits flow from on_yes on_no turn
      → TestFits flow from (slice_index ends on_yes) (slice_index ends on_no) turn
  test_led from on_yes on_no None h = (descends_led from on_yes h.0, descends_led from on_no h.1)
  test_led from on_yes on_no (Some turn) h = ((end_falls on_yes h.0).0, (end_falls on_no h.1).0, h.2)

  -- a node that fits does so where its edges lead to the ends
  pub led_fits : (from : ℕ) (node : FlowNode) → NodeFits flow from node → NodeFits flow from (led ends node)
  led_fits from (Op item to) h = (h.0, descends_led from to h.1)
  led_fits from (Test on on_yes on_no turn) h = (h.0, test_led from on_yes on_no turn h.1)
  led_fits from Stop h = tt
  led_fits from (Trap kind line) h = tt

-- it tests the same loop's condition
pub led_turn : (ends : List ℕ) (node : FlowNode) → tested_loop (led ends node) ≡ tested_loop node
led_turn ends (Op item to) = refl
led_turn ends (Test on on_yes on_no turn) = refl
led_turn ends Stop = refl
led_turn ends (Trap kind line) = refl

-- its edges lead to the ends
pub edge_led : (ends : List ℕ) (node : FlowNode) (to : ℕ) → HasEdge node to → HasEdge (led ends node) (slice_index ends to)
edge_led ends (Op item next) to e = ap (slice_index ends) e
edge_led ends (Test on on_yes on_no turn) to (inl e) = inl (ap (slice_index ends) e)
edge_led ends (Test on on_yes on_no turn) to (inr e) = inr (ap (slice_index ends) e)
edge_led ends Stop to e = absurd e
edge_led ends (Trap kind line) to e = absurd e

-- and to nothing else
pub edge_led_from : (ends : List ℕ) (node : FlowNode) (to : ℕ) → HasEdge (led ends node) to → (next : ℕ) × HasEdge node next × (slice_index ends next ≡ to)
edge_led_from ends (Op item next) to e = (next, refl, e)
edge_led_from ends (Test on on_yes on_no turn) to (inl e) = (on_yes, inl refl, e)
edge_led_from ends (Test on on_yes on_no turn) to (inr e) = (on_no, inr refl, e)
edge_led_from ends Stop to e = absurd e
edge_led_from ends (Trap kind line) to e = absurd e

turn_kept : (old : FlowNode) (turn : Option ℕ) → tested_loop old ≡ turn → IfSome turn (λ (t : ℕ). tested_loop old ≡ Some t)
turn_kept old None e = tt
turn_kept old (Some t) e = e

-- a node that keeps its turn
pub keeps_turn : (old new : FlowNode) → tested_loop new ≡ tested_loop old → KeepsTurn old new
keeps_turn old new e = turn_kept old (tested_loop new) (sym e)
