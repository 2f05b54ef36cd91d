-- Entries that passed, with the claims that they are.
use Rattle.std.proofs.Common.{◌≡◌, inl, inr, ℕ, suc, ◌≤◌, List, [], ◌∷◌, Some, None, refl, sym, ◌∙◌, subst, arith}
use Rattle.std.specs.Prelude.{Result, Ok, Contains, slice_get, slice_index_or}
use Rattle.std.proofs.lemmas.Bool.Decides.{eqb_tells}
use Rattle.std.proofs.lemmas.Option.{slice_get_within, slice_get-get_or}
use Rattle.pc_machine.specs.declared.tree.Leaf.{Leaf}
use Rattle.pc_machine.specs.MachineCode.{CodeRow}
use Rattle.pc_cert.specs.declared.certificate.Entry.{Entry}
use Rattle.pc_window.specs.Tree.{Tree}
use Rattle.pc_window.specs.WindowRun.{Window}
use Rattle.pc_window.specs.Steps.{with_tree, Positive, IsProper}
use Rattle.pc_certified.specs.Facts.{Fact}
use Rattle.pc_certified.specs.Claims.{Claim}
use Rattle.pc_accepted.specs.declared.flaw.Flaw.{Flaw}
use Rattle.pc_accepted.specs.declared.flaw.Rejection.{Rejection}
use Rattle.pc_accepted.specs.Arrivals.{Arrivals, FirstArrival}
use Rattle.pc_accepted.specs.Leading.{Setting, Departure, LeafRefusal, AllLeadOn, all_lead_on, one_leads_on, one_is_refused}
use Rattle.pc_accepted.specs.Accepted.{IsDone, LeavesLeadOn, Passes, not_reached, has_no_row, not_arranged, not_matched, leaf_refused, passes_on}
use Rattle.pc_accepted.specs.Accepted.{AllPass, all_passed, one_passed, one_rejected}
use Rattle.pc_accepted.proofs.Proper.{some_one, settled_sound}
use Rattle.pc_accepted.proofs.Arrivals.{Grows, AllSound, ok_one, leaf_grows, leaf_sound}
use Rattle.pc_accepted.proofs.Rests.{contains_first, contains_later}

-- ---- the leaves of a row

module _ (setting : Setting) (departure : Departure) (arranged : Window) where
  pub leaves_grow : {number : ℕ} {arrivals : Arrivals} {helds : List (List Fact)} {leaves : List Leaf} {rests : List Tree} {outcome : Result Arrivals LeafRefusal} (later : Arrivals)
      → AllLeadOn setting departure arranged number arrivals helds leaves rests outcome → outcome ≡ Ok later → Grows arrivals later
  leaves_grow {arrivals} later all_lead_on e = subst (Grows arrivals) (ok_one arrivals later e) (λ n it is. is)
  leaves_grow later (one_leads_on {arrivals} {later = next} {leaf} leads more) e =
      let first = leaf_grows setting departure _ arrivals next leaf leads refl in
      let others = leaves_grow later more e in
      λ n it is. others n it (first n it is)
  leaves_grow later (one_is_refused refused) e = absurd (cc)

  pub leaves_sound : {number : ℕ} {arrivals : Arrivals} {helds : List (List Fact)} {leaves : List Leaf} {rests : List Tree} {outcome : Result Arrivals LeafRefusal} (later : Arrivals)
      → Positive setting.code.limits → ((rest : Tree) → Contains rests rest → IsProper (with_tree arranged rest)) → AllSound arrivals
      → AllLeadOn setting departure arranged number arrivals helds leaves rests outcome → outcome ≡ Ok later → AllSound later
  leaves_sound {arrivals} later room proper all all_lead_on e = subst AllSound (ok_one arrivals later e) all
  leaves_sound later room proper all (one_leads_on {arrivals} {later = next} {held} {leaf} {rest} {rests} leads more) e =
      let left = settled_sound (with_tree arranged rest) held (proper rest (contains_first rest rests)) in
      let first = leaf_sound setting departure _ arrivals next leaf room left all leads refl in
      leaves_sound later room (λ r there. proper r (contains_later rest rests r there)) first more e
  leaves_sound later room proper all (one_is_refused refused) e = absurd (cc)

-- ---- one entry

-- the claim of an entry that stands for this, with its window arranged
abbrev pub claim_of : Entry → FirstArrival → Window → Claim
claim_of entry arrived arranged = record { row = entry.row; rank = entry.rank; window = arrived.window; facts = arrived.facts; arranged = arranged }

-- an entry has passed
pub record HasPassed (setting : Setting) (number : ℕ) (arrivals later : Arrivals) (entry : Entry) (arrived : FirstArrival) (arranged : Window) : Type 0 where
  pub there : slice_get setting.entries number ≡ Some entry
  pub reached : slice_get arrivals number ≡ Some (Some arrived)
  pub row : CodeRow
  pub helds : List (List Fact)
  pub done : IsDone setting entry arrived row arranged helds
  pub led : LeavesLeadOn setting entry arrived row arranged helds arrivals (Ok later)

-- entries from a number on have passed, with their claims
pub data ArePassed (setting : Setting) : ℕ → Arrivals → List Claim → Arrivals → Type 0 where
  none_left : {number : ℕ} {arrivals : Arrivals} → slice_get setting.entries number ≡ None → ArePassed setting number arrivals [] arrivals
  one_more_passed : {number : ℕ} {arrivals later final : Arrivals} {claims : List Claim} {entry : Entry} {arrived : FirstArrival} {arranged : Window}
      → HasPassed setting number arrivals later entry arrived arranged → ArePassed setting (suc number) later claims final
      → ArePassed setting number arrivals (claim_of entry arrived arranged ∷ claims) final

module _ (setting : Setting) where
  passed_one : {number : ℕ} {entry : Entry} {arrivals : Arrivals} {outcome : Result Arrivals Flaw} (later : Arrivals) → slice_get setting.entries number ≡ Some entry
      → Passes setting number entry arrivals outcome → outcome ≡ Ok later
      → (arrived : FirstArrival) × (arranged : Window) × HasPassed setting number arrivals later entry arrived arranged
  passed_one later there (not_reached at) e = absurd (cc)
  passed_one later there (has_no_row reached none) e = absurd (cc)
  passed_one later there (not_arranged reached row not) e = absurd (cc)
  passed_one later there (not_matched reached row arranges none) e = absurd (cc)
  passed_one later there (leaf_refused reached done led) e = absurd (cc)
  passed_one {number} {entry} {arrivals} later there (passes_on {arrived} {row} {arranged} {helds} {later = next} reached done led) e =
      subst (λ (a : Arrivals). (arrived : FirstArrival) × (arranged : Window) × HasPassed setting number arrivals a entry arrived arranged) (ok_one next later e)
      (arrived, arranged, record { there = there; reached = reached; row = row; helds = helds; done = done; led = led })

  pub passed_all : {number : ℕ} {arrivals : Arrivals} {outcome : Result Arrivals Rejection} (final : Arrivals) → AllPass setting number arrivals outcome → outcome ≡ Ok final
      → (claims : List Claim) × ArePassed setting number arrivals claims final
  passed_all {number} {arrivals} final (all_passed none) e = ([], subst (ArePassed setting number arrivals []) (ok_one arrivals final e) (none_left none))
  passed_all final (one_passed {entry} {later} there passes more) e =
      let one = passed_one later there passes refl in
      let others = passed_all final more e in
      (claim_of entry one.0 one.1 ∷ others.0, one_more_passed one.2 others.1)
  passed_all final (one_rejected there passes) e = absurd (cc)

  pub passed_grow : {number : ℕ} {arrivals final : Arrivals} {claims : List Claim} → ArePassed setting number arrivals claims final → Grows arrivals final
  passed_grow (none_left none) = λ n it is. is
  passed_grow (one_more_passed {later} passed more) =
      let first = leaves_grow setting _ _ later passed.led refl in
      let others = passed_grow more in
      λ n it is. others n it (first n it is)

  -- ---- the claim of an entry

  none_beyond : {X : Type 0} (xs : List X) (number place : ℕ) (x : X) → slice_get xs number ≡ None → number ≤ place → slice_get xs place ≡ Some x → ⊥
  none_beyond xs number place x none most there =
      let below = slice_get_within xs place x there in
      let some = slice_get-get_or xs number x (omega (arith, below, most)) in
      let e : None ≡ Some (slice_index_or xs number x) = sym none ∙ some in
      cc

  -- each entry that stands for something in the end has its claim among these
  pub claim_found : {number : ℕ} {arrivals final : Arrivals} {claims : List Claim} → ArePassed setting number arrivals claims final → (place : ℕ) (entry : Entry) (arrived : FirstArrival)
      → number ≤ place → slice_get setting.entries place ≡ Some entry → slice_get final place ≡ Some (Some arrived)
      → (arranged : Window) × Contains claims (claim_of entry arrived arranged)
  claim_found {number} (none_left none) place entry arrived most there stands = absurd (none_beyond setting.entries number place entry none most there)
  claim_found {number} {final = final} (one_more_passed {claims} {entry = here} {arrived = it} {arranged} passed more) place entry arrived most there stands =
      elim (eqb_tells number place) [
        | inl same ↦ (
            let entry_is : here ≡ entry = some_one here entry (sym passed.there ∙ subst (λ (k : ℕ). slice_get setting.entries k ≡ Some entry) (sym same.1) there) in
            let grown = passed_grow (one_more_passed passed more) number it passed.reached in
            let at_place = subst (λ (k : ℕ). slice_get final k ≡ Some (Some arrived)) (sym same.1) stands in
            let arrived_is : it ≡ arrived = some_one it arrived (some_one (Some it) (Some arrived) (sym grown ∙ at_place)) in (
              arranged,
              subst (λ (e : Entry). Contains (claim_of here it arranged ∷ claims) (claim_of e arrived arranged)) entry_is
                  (subst (λ (a : FirstArrival). Contains (claim_of here it arranged ∷ claims) (claim_of here a arranged)) arrived_is
                  (contains_first (claim_of here it arranged) claims)),
            )
            )
        | inr apart ↦ (
            let further = apart.1 in
            let found = claim_found more place entry arrived (omega (arith, most, further)) there stands in
            (found.0, contains_later (claim_of here it arranged) claims (claim_of entry arrived found.0) found.1)
            )
      ]
