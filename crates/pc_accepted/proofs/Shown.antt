-- The claims of entries that passed show the code.
use Rattle.std.proofs.Common.{◌≡◌, ℕ, zero, suc, Bool, true, false, List, [], ◌∷◌, Option, Some, None, refl, sym, subst, arith}
use Rattle.std.specs.Prelude.{ℤ, Result, Ok, Contains, slice_get, slice_set, nat_eq, if◌then◌else◌}
use Rattle.std.proofs.lemmas.Option.{slice_get_within}
use Rattle.pc_word.proofs.Places.{set_there, same_number}
use Rattle.pc_word.proofs.Truth.{or_true}
use Rattle.pc_table.specs.Table.{Table}
use Rattle.pc_machine.specs.declared.tree.Leaf.{Leaf}
use Rattle.pc_machine.specs.declared.tree.Leaf.TheVariants.{Goto}
use Rattle.pc_machine.specs.MachineCode.{RowCode}
use Rattle.pc_cert.specs.declared.certificate.Entry.{Entry}
use Rattle.pc_window.specs.Tree.{Tree, whole}
use Rattle.pc_window.specs.Unwinding.{front_tag}
use Rattle.pc_window.specs.WindowRun.{Window}
use Rattle.pc_window.specs.Steps.{with_tree, opened_window, Positive, IsProper}
use Rattle.pc_matching.specs.Laws.{HoldsAtLeaves}
use Rattle.pc_matching.proofs.FoundRows.{found_rows_of_claims_match}
use Rattle.pc_certified.specs.Facts.{Fact}
use Rattle.pc_certified.specs.Claims.{Claim}
use Rattle.pc_certified.specs.LeafAgrees.{LeafAgrees, leaf_changes, LeafAgreesInRegion}
use Rattle.pc_certified.specs.Shows.{IsShown, Shows}
use Rattle.pc_certified.proofs.Agreement.{shown_on_inputs}
use Rattle.pc_certified.proofs.Listed as listed
use Rattle.pc_arranging.proofs.Lawful.{arranging_changes, arranged_proper}
use Rattle.pc_settling.specs.Settled.{settled}
use Rattle.pc_settling.specs.Begun.{Begun}
use Rattle.pc_settling.specs.Arrives.{progress}
use Rattle.pc_settling.specs.Laws.{GoesOn}
use Rattle.pc_settling.specs.Start.{facts_at_start}
use Rattle.pc_settling.proofs.SettledLaws.{ends_agree_law}
use Rattle.pc_settling.proofs.LeadingOn.{leaves_lead_on, regions_lead_on}
use Rattle.pc_settling.proofs.StartFacts.{listed_at_start_hold}
use Rattle.pc_accepted.specs.declared.flaw.LeafFlaw.{LeafFlaw}
use Rattle.pc_accepted.specs.declared.flaw.Rejection.{Rejection}
use Rattle.pc_accepted.specs.Arrivals.{Arrivals, FirstArrival, entry_number, next_number, no_arrivals}
use Rattle.pc_accepted.specs.Leading.{Setting, has_progress, Leads, leads_nowhere, does_not_begin, has_no_parameter, does_not_arrive, has_none, leads_to}
use Rattle.pc_accepted.specs.Leading.{LeadsOn, ends, ends_otherwise, goes_to, LeafRefusal, AllLeadOn, all_lead_on, one_leads_on, one_is_refused}
use Rattle.pc_accepted.specs.Accepted.{with_limits, departure_of, at_start, setting_of, Answers, has_other_data, does_not_start, starts}
use Rattle.pc_accepted.specs.Laws.{AcceptedCodesAreShown, AcceptedCodesAgree}
use Rattle.pc_accepted.proofs.Proper.{some_one, start_sound}
use Rattle.pc_accepted.proofs.Arrivals.{Grows, AllSound, ok_one, leads_sound, none_sound}
use Rattle.pc_accepted.proofs.Rests.{contains_first, contains_later, left_proper, limits_change}
use Rattle.pc_accepted.proofs.Passed.{leaves_grow, leaves_sound, claim_of, HasPassed, ArePassed, none_left, one_more_passed, passed_all, passed_grow, claim_found}

-- ---- small facts

next_number_is : (found : Option ℕ) (number : ℕ) → next_number found ≡ Some number → (before : ℕ) × (found ≡ Some before) × (number ≡ suc before)
next_number_is None number is = absurd (cc)
next_number_is (Some before) number is = (before, refl, sym (some_one (suc before) number is))

-- the entry of a row speaks of it
row_of_entry : (entries : List Entry) (row number : ℕ) (entry : Entry) → entry_number entries row ≡ Some number → slice_get entries number ≡ Some entry → entry.row ≡ row
row_of_entry [] row number entry is there = absurd (cc)
row_of_entry (here ∷ entries) row number entry is there = choose (nat_eq here.row row) refl is (λ before. row_of_entry entries row before entry)
  where
    choose : (b : Bool) → nat_eq here.row row ≡ b → (if b then Some 0 else next_number (entry_number entries row)) ≡ Some number
        → ((before : ℕ) → entry_number entries row ≡ Some before → slice_get entries before ≡ Some entry → entry.row ≡ row) → entry.row ≡ row
    choose true same e below =
        let zero_is : 0 ≡ number = some_one 0 number e in
        let entry_is : here ≡ entry = some_one here entry (subst (λ (k : ℕ). slice_get (here ∷ entries) k ≡ Some entry) (sym zero_is) there) in
        subst (λ (x : Entry). x.row ≡ row) entry_is (same_number here.row row same)
    choose false apart e below =
        let later = next_number_is (entry_number entries row) number e in
        below later.0 later.1 (subst (λ (k : ℕ). slice_get (here ∷ entries) k ≡ Some entry) later.2 there)

-- ---- claims among all claims

-- each entry that stands for something in the end has its claim here
abbrev AreFound : List Entry → Arrivals → List Claim → Type 0
AreFound entries final claims = (place : ℕ) (entry : Entry) (arrived : FirstArrival) → slice_get entries place ≡ Some entry → slice_get final place ≡ Some (Some arrived)
    → (arranged : Window) × Contains claims (claim_of entry arrived arranged)

module _ (table : Table) (code : RowCode) (entries : List Entry) (room : Positive code.limits) (claims : List Claim) (final : Arrivals) (found : AreFound entries final claims) where
  abbrev setting : Setting
  setting = setting_of table code entries

  -- ---- at a leaf

  went_on : (entry next : Entry) (arrived next_arrived : FirstArrival) (arranged next_arranged : Window) (begun : Begun) → has_progress (Some (departure_of entry arrived)) begun next ≡ true
      → GoesOn (claim_of entry arrived arranged) (claim_of next next_arrived next_arranged) begun
  went_on entry next arrived next_arrived arranged next_arranged begun goes =
      or_true begun.entered (progress entry.rank (front_tag (whole arrived.window.front)) next.rank (whole begun.window.front)) goes

  module _ (entry : Entry) (arrived : FirstArrival) (arranged w : Window) (held : List Fact) (proper : IsProper w) (arrivals : Arrivals) where
    led_on : {row : ℕ} {outcome : Result Arrivals LeafFlaw} (later : Arrivals) → Leads setting (Some (departure_of entry arrived)) (settled w held) arrivals row outcome → outcome ≡ Ok later
        → Grows later final → LeafAgrees table code.limits claims (claim_of entry arrived arranged) held (Goto row) w
    led_on later (leads_nowhere none) e grows = absurd (cc)
    led_on later (does_not_begin of_row none) e grows = absurd (cc)
    led_on later (has_no_parameter of_row begins was none) e grows = absurd (cc)
    led_on later (does_not_arrive reaches not) e grows = absurd (cc)
    led_on later (has_none reaches arrives not) e grows = absurd (cc)
    led_on {row} later (leads_to {number} {entry = next} {begun} {arrived = it} reaches arrives goes) e grows =
        let put = set_there arrivals number (Some it) (slice_get_within arrivals number reaches.before reaches.was) in
        let there = grows number it (subst (λ (k : Arrivals). slice_get k number ≡ Some (Some it)) (ok_one (slice_set arrivals number (Some it)) later e) put) in
        let claim = found number next it reaches.of_row.there there in
        let row_is = row_of_entry entries row number next reaches.of_row.first reaches.of_row.there in
        subst (λ (r : ℕ). LeafAgrees table code.limits claims (claim_of entry arrived arranged) held (Goto r) w) row_is
        (leaves_lead_on table code.limits claims (claim_of entry arrived arranged) (claim_of next it claim.0) next.opening w held begun room proper claim.1
        reaches.begins arrives (went_on entry next arrived it arranged claim.0 begun goes))

    leaf_agrees : {leaf : Leaf} {outcome : Result Arrivals LeafFlaw} (later : Arrivals) → LeadsOn setting (departure_of entry arrived) (settled w held) arrivals leaf outcome
        → outcome ≡ Ok later → Grows later final → LeafAgrees table code.limits claims (claim_of entry arrived arranged) held leaf w
    leaf_agrees {leaf} later (ends is_end end) e grows = ends_agree_law table code.limits claims (claim_of entry arrived arranged) leaf w held end
    leaf_agrees later (ends_otherwise is_end not) e grows = absurd (cc)
    leaf_agrees later (goes_to leads) e grows = led_on later leads e grows

  -- ---- at all leaves of a row

  module _ (entry : Entry) (arrived : FirstArrival) (arranged : Window) where
    leaves_agree : {number : ℕ} {arrivals : Arrivals} {helds : List (List Fact)} {leaves : List Leaf} {rests : List Tree} {outcome : Result Arrivals LeafRefusal} (later : Arrivals)
        → AllLeadOn setting (departure_of entry arrived) (with_limits code.limits arranged) number arrivals helds leaves rests outcome → outcome ≡ Ok later → Grows later final
        → ((rest : Tree) → Contains rests rest → IsProper (with_tree (with_limits code.limits arranged) rest))
        → HoldsAtLeaves (λ held leaf rest. LeafAgrees table code.limits claims (claim_of entry arrived arranged) held leaf (with_tree arranged rest)) helds leaves rests
    leaves_agree later all_lead_on e grows proper place held leaf rest is leaf_is rest_is = absurd (cc)
    leaves_agree later (one_leads_on {arrivals} {later = next} {held = here} {leaf = first} {rest = tree} {rests} leads more) e grows proper zero held leaf rest is leaf_is rest_is =
        let others = leaves_grow setting (departure_of entry arrived) (with_limits code.limits arranged) later more e in
        let is_proper = proper tree (contains_first tree rests) in
        let agrees_here = leaf_changes (limits_change table arranged code.limits tree is_proper)
        (leaf_agrees entry arrived arranged (with_tree (with_limits code.limits arranged) tree) here is_proper arrivals next leads refl (λ n it at. grows n it (others n it at))) in
        subst (λ (f : List Fact). LeafAgrees table code.limits claims (claim_of entry arrived arranged) f leaf (with_tree arranged rest)) (some_one here held is)
        (subst (λ (l : Leaf). LeafAgrees table code.limits claims (claim_of entry arrived arranged) here l (with_tree arranged rest)) (some_one first leaf leaf_is)
        (subst (λ (t : Tree). LeafAgrees table code.limits claims (claim_of entry arrived arranged) here first (with_tree arranged t)) (some_one tree rest rest_is) agrees_here))
    leaves_agree later (one_leads_on {rest = tree} {rests} leads more) e grows proper (suc place) held leaf rest is leaf_is rest_is =
        leaves_agree later more e grows (λ r there. proper r (contains_later tree rests r there)) place held leaf rest is leaf_is rest_is
    leaves_agree later (one_is_refused refused) e grows proper place held leaf rest is leaf_is rest_is = absurd (cc)

  -- ---- each entry

  entry_shown : {number : ℕ} {arrivals later : Arrivals} (entry : Entry) (arrived : FirstArrival) (arranged : Window) → AllSound arrivals
      → HasPassed setting number arrivals later entry arrived arranged
      → Grows later final → IsShown table code claims (claim_of entry arrived arranged)
  entry_shown {number} {later = later} entry arrived arranged all passed grows =
      let proper = (all number arrived passed.reached).proper in
      let wide = arranged_proper table entry.steps arrived.window arranged proper passed.done.arranges in
      record {
        row = passed.row;
        at = passed.done.there;
        proper = proper;
        changes = arranging_changes table entry.steps arrived.window arranged proper passed.done.arranges;
        does = found_rows_of_claims_match table code.limits claims (claim_of entry arrived arranged) passed.row passed.helds passed.done.does
            (leaves_agree entry arrived arranged later passed.led refl grows (left_proper arranged code.limits room wide));
      }

  passed_sound : {number : ℕ} {arrivals later : Arrivals} (entry : Entry) (arrived : FirstArrival) (arranged : Window) → AllSound arrivals
      → HasPassed setting number arrivals later entry arrived arranged
      → AllSound later
  passed_sound {number} {later = later} entry arrived arranged all passed =
      let proper = (all number arrived passed.reached).proper in
      let wide = arranged_proper table entry.steps arrived.window arranged proper passed.done.arranges in
      leaves_sound setting (departure_of entry arrived) (with_limits code.limits arranged) later room (left_proper arranged code.limits room wide) all passed.led refl

  each_shown : {number : ℕ} {arrivals : Arrivals} {some : List Claim} → ArePassed setting number arrivals some final → AllSound arrivals → (claim : Claim) → Contains some claim
      → IsShown table code claims claim
  each_shown (none_left none) all = listed.none (IsShown table code claims)
  each_shown (one_more_passed {claims = others} {entry} {arrived} {arranged} passed more) all =
      listed.first (IsShown table code claims) (claim_of entry arrived arranged) others
      (entry_shown entry arrived arranged all passed (passed_grow setting more))
      (each_shown more (passed_sound entry arrived arranged all passed))

  -- ---- the start

  starts_at : {outcome : Result Arrivals LeafFlaw} (arrivals : Arrivals) → Leads setting None (at_start table code) (no_arrivals entries) 0 outcome → outcome ≡ Ok arrivals → Grows arrivals final
      → LeafAgreesInRegion table code.limits claims (facts_at_start code.registers) (Goto 0) (opened_window table code.limits 0)
  starts_at arrivals (leads_nowhere none) e grows = absurd (cc)
  starts_at arrivals (does_not_begin of_row none) e grows = absurd (cc)
  starts_at arrivals (has_no_parameter of_row begins was none) e grows = absurd (cc)
  starts_at arrivals (does_not_arrive reaches not) e grows = absurd (cc)
  starts_at arrivals (has_none reaches arrives not) e grows = absurd (cc)
  starts_at arrivals (leads_to {number} {entry = next} {begun} {arrived = it} reaches arrives goes) e grows =
      let put = set_there (no_arrivals entries) number (Some it) (slice_get_within (no_arrivals entries) number reaches.before reaches.was) in
      let there = grows number it (subst (λ (k : Arrivals). slice_get k number ≡ Some (Some it)) (ok_one (slice_set (no_arrivals entries) number (Some it)) arrivals e) put) in
      let claim = found number next it reaches.of_row.there there in
      let row_is = row_of_entry entries 0 number next reaches.of_row.first reaches.of_row.there in
      subst (λ (r : ℕ). LeafAgreesInRegion table code.limits claims (facts_at_start code.registers) (Goto r) (opened_window table code.limits 0)) row_is
      (regions_lead_on table code.limits claims (claim_of next it claim.0) next.opening (at_start table code) begun room (start_sound table code.limits room).proper claim.1
      reaches.begins arrives)

-- ---- a certificate

accepted_shown : (table : Table) (words : List (List ℤ)) (code : RowCode) (entries : List Entry) → Positive code.limits → {outcome : Result Arrivals Rejection} (final : Arrivals)
    → Answers (setting_of table code entries) words outcome → outcome ≡ Ok final → (claims : List Claim) × Shows table words code claims
accepted_shown table words code entries room final (has_other_data not) e = absurd (cc)
accepted_shown table words code entries room final (does_not_start same leads) e = absurd (cc)
accepted_shown table words code entries room final (starts {arrivals} has_data leads passes) e =
    let it = setting_of table code entries in
    let all = passed_all it final passes e in
    let claims = all.0 in
    let found : AreFound entries final claims = λ place entry arrived there stands. claim_found it all.1 place entry arrived (omega arith) there stands in
    let sound = leads_sound it (at_start table code) (no_arrivals entries) 0 arrivals room (start_sound table code.limits room) (none_sound entries) leads refl in (
      claims,
      record {
        arrays = has_data.0;
        initial = has_data.1;
        held = facts_at_start code.registers;
        start = listed_at_start_hold code.registers;
        begins = starts_at table code entries room claims final found arrivals leads refl (passed_grow it all.1);
        each = each_shown table code entries room claims final found all.1 sound;
      },
    )

pub accepted_codes_are_shown : AcceptedCodesAreShown
accepted_codes_are_shown table words code entries room (final, answers) = accepted_shown table words code entries room final answers refl

pub accepted_codes_agree : AcceptedCodesAgree
accepted_codes_agree table words code entries keeps formed accepts faultless =
    let limits = formed.limits in
    let room : Positive code.limits = record { ops = limits.ops.0; tests = limits.tests.0; mem = limits.mem.0 } in
    let shown = accepted_codes_are_shown table words code entries room accepts in
    shown_on_inputs table words code shown.0 keeps formed shown.1 faultless
