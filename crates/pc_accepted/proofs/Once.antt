-- A certificate has one answer at most.
use Rattle.std.proofs.Common.{◌≡◌, ℕ, suc, true, false, List, Option, Some, None, refl, sym, ◌∙◌, ap, subst}
use Rattle.std.specs.Prelude.{ℤ, Result, Ok, Err, slice_get, slice_set}
use Rattle.pc_machine.specs.declared.tree.Leaf.{Leaf}
use Rattle.pc_machine.specs.declared.tree.Leaf.TheVariants.{Goto}
use Rattle.pc_machine.specs.MachineCode.{CodeRow}
use Rattle.pc_cert.specs.declared.certificate.Entry.{Entry}
use Rattle.pc_window.specs.Tree.{Tree}
use Rattle.pc_window.specs.WindowRun.{Window}
use Rattle.pc_window.specs.Steps.{front_row}
use Rattle.pc_matching.specs.RowMatch.{row_match}
use Rattle.pc_certified.specs.Facts.{Fact}
use Rattle.pc_arranging.specs.Arranging.{Arranges}
use Rattle.pc_arranging.proofs.Once.{arranged_once}
use Rattle.pc_settling.specs.Remaining.{Remaining}
use Rattle.pc_settling.specs.Begun.{Begun, Begins, BeginsWith}
use Rattle.pc_settling.specs.Arrives.{Arrives}
use Rattle.pc_settling.proofs.BegunLaws.{one_beginning}
use Rattle.pc_accepted.specs.declared.flaw.Flaw.{Flaw}
use Rattle.pc_accepted.specs.declared.flaw.Flaw.TheVariants as flaw
use Rattle.pc_accepted.specs.declared.flaw.LeafFlaw.{LeafFlaw}
use Rattle.pc_accepted.specs.declared.flaw.Rejection.{Rejection}
use Rattle.pc_accepted.specs.Arrivals.{Arrivals, FirstArrival, no_arrivals, IsEntryOf, entry_number, first_arrival}
use Rattle.pc_accepted.specs.Leading.{Setting, Departure, has_progress, Reaches, Leads, leads_nowhere, does_not_begin, has_no_parameter, does_not_arrive, has_none, leads_to}
use Rattle.pc_accepted.specs.Leading.{LeadsOn, ends, ends_otherwise, goes_to, LeafRefusal, AllLeadOn, all_lead_on, one_leads_on, one_is_refused}
use Rattle.pc_accepted.specs.Accepted.{with_limits, departure_of, IsDone, LeavesLeadOn, Passes, not_reached, has_no_row, not_arranged, not_matched, leaf_refused, passes_on}
use Rattle.pc_accepted.specs.Accepted.{AllPass, all_passed, one_passed, one_rejected, Answers, has_other_data, does_not_start, starts}
use Rattle.pc_accepted.specs.Accepted.{at_start, at_first, StartLeads}
use Rattle.pc_accepted.specs.Laws.{OneAnswer}
use Rattle.pc_accepted.proofs.Proper.{some_one}
use Rattle.pc_accepted.proofs.Arrivals.{ok_one}

err_one : {A B : Type 0} (x y : B) → (let e : Result A B = Err x in e) ≡ Err y → x ≡ y
err_one x y e = cc

unlike : {A B : Type 0} (x : A) (y : B) → (let e : Result A B = Ok x in e) ≡ Err y → ⊥
unlike x y e = cc

-- ---- to an entry

module _ (setting : Setting) (departure : Option Departure) (left : Remaining) (arrivals : Arrivals) (row : ℕ) where
  one_entry : {number number' : ℕ} {entry entry' : Entry} → IsEntryOf setting.entries row number entry → IsEntryOf setting.entries row number' entry'
      → (number ≡ number') × (entry ≡ entry')
  one_entry {number} {number'} {entry} {entry'} a b =
      let same : number ≡ number' = some_one number number' (sym a.first ∙ b.first) in
      (same, some_one entry entry' (sym a.there ∙ subst (λ (k : ℕ). slice_get setting.entries k ≡ Some entry') (sym same) b.there))

  -- two beginnings of a row's entry are one
  one_begun : {number number' : ℕ} {entry entry' : Entry} (one other : Option Begun) → IsEntryOf setting.entries row number entry
      → IsEntryOf setting.entries row number' entry' → Begins setting.table setting.code.limits entry.opening left one
      → Begins setting.table setting.code.limits entry'.opening left other → one ≡ other
  one_begun {entry = entry} {entry' = entry'} one other a b begins begins' =
      let same = (one_entry a b).1 in
      one_beginning setting.table setting.code.limits entry.opening left one other begins
      (subst (λ (e : Entry). Begins setting.table setting.code.limits e.opening left other) (sym same) begins')

  not_begun : {number number' : ℕ} {entry entry' : Entry} {begun : Begun} → IsEntryOf setting.entries row number entry → IsEntryOf setting.entries row number' entry'
      → Begins setting.table setting.code.limits entry.opening left None → BeginsWith setting.table setting.code.limits entry'.opening left begun → ⊥
  not_begun {begun = begun} a b none begins = let e : None ≡ Some begun = one_begun None (Some begun) a b none begins in cc

  -- what is reached is one entry, one beginning and one arrival
  record SameReach (number number' : ℕ) (entry entry' : Entry) (begun begun' : Begun) (arrived arrived' : FirstArrival) : Type 0 where
    pub numbers : number ≡ number'
    pub entries : entry ≡ entry'
    pub beginnings : begun ≡ begun'
    pub first : arrived ≡ arrived'

  same_reach : {number number' : ℕ} {entry entry' : Entry} {begun begun' : Begun} {arrived arrived' : FirstArrival}
      → Reaches setting left arrivals row number entry begun arrived → Reaches setting left arrivals row number' entry' begun' arrived'
      → SameReach number number' entry entry' begun begun' arrived arrived'
  same_reach {number} {number'} {entry} {entry'} {begun} {begun'} {arrived} {arrived'} a b =
      let same = one_entry a.of_row b.of_row in
      let beginnings : begun ≡ begun' = some_one begun begun' (one_begun (Some begun) (Some begun') a.of_row b.of_row a.begins b.begins) in
      let before : a.before ≡ b.before = some_one a.before b.before (sym a.was ∙ subst (λ (k : ℕ). slice_get arrivals k ≡ Some b.before) (sym same.0) b.was) in
      let stands : first_arrival a.before begun.window entry ≡ Some arrived' =
      subst (λ (x : Option FirstArrival). first_arrival x begun.window entry ≡ Some arrived') (sym before)
      (subst (λ (x : Begun). first_arrival b.before x.window entry ≡ Some arrived') (sym beginnings)
      (subst (λ (x : Entry). first_arrival b.before begun'.window x ≡ Some arrived') (sym same.1) b.stands)) in
      record { numbers = same.0; entries = same.1; beginnings = beginnings; first = some_one arrived arrived' (sym a.stands ∙ stands) }

  -- ---- no two answers together

  nowhere : {number : ℕ} {entry : Entry} → entry_number setting.entries row ≡ None → IsEntryOf setting.entries row number entry → ⊥
  nowhere {number} none a = let e : None ≡ Some number = sym none ∙ a.first in cc

  no_parameters : {number number' : ℕ} {entry entry' : Entry} {begun begun' : Begun} {arrived : FirstArrival} → IsEntryOf setting.entries row number entry
      → BeginsWith setting.table setting.code.limits entry.opening left begun → slice_get arrivals number ≡ Some None → first_arrival None begun.window entry ≡ None
      → Reaches setting left arrivals row number' entry' begun' arrived → ⊥
  no_parameters {number} {number'} {entry} {entry'} {begun} {begun'} {arrived} a begins was none b =
      let same = one_entry a b.of_row in
      let beginnings : begun ≡ begun' = some_one begun begun' (one_begun (Some begun) (Some begun') a b.of_row begins b.begins) in
      let before : None ≡ b.before = some_one None b.before (sym was ∙ subst (λ (k : ℕ). slice_get arrivals k ≡ Some b.before) (sym same.0) b.was) in
      let stands : first_arrival None begun.window entry ≡ Some arrived =
      subst (λ (x : Option FirstArrival). first_arrival x begun.window entry ≡ Some arrived) (sym before)
      (subst (λ (x : Begun). first_arrival b.before x.window entry ≡ Some arrived) (sym beginnings)
      (subst (λ (x : Entry). first_arrival b.before begun'.window x ≡ Some arrived) (sym same.1) b.stands)) in
      let e : None ≡ Some arrived = sym none ∙ stands in
      cc

  not_both : {number number' : ℕ} {entry entry' : Entry} {begun begun' : Begun} {arrived arrived' : FirstArrival}
      → Reaches setting left arrivals row number entry begun arrived → (Arrives begun.window begun.facts arrived.window arrived.facts → ⊥)
      → Reaches setting left arrivals row number' entry' begun' arrived' → Arrives begun'.window begun'.facts arrived'.window arrived'.facts → ⊥
  not_both {begun = begun} {begun' = begun'} {arrived = arrived} {arrived' = arrived'} a not b arrives =
      let same = same_reach a b in
      not (subst (λ (x : Begun). Arrives x.window x.facts arrived.window arrived.facts) (sym same.beginnings)
      (subst (λ (x : FirstArrival). Arrives begun'.window begun'.facts x.window x.facts) (sym same.first) arrives))

  not_progress : {number number' : ℕ} {entry entry' : Entry} {begun begun' : Begun} {arrived arrived' : FirstArrival}
      → Reaches setting left arrivals row number entry begun arrived → has_progress departure begun entry ≡ false
      → Reaches setting left arrivals row number' entry' begun' arrived' → has_progress departure begun' entry' ≡ true → ⊥
  not_progress {entry = entry} {entry' = entry'} {begun = begun} {begun' = begun'} a not b goes =
      let same = same_reach a b in
      let e : has_progress departure begun entry ≡ true =
      subst (λ (x : Begun). has_progress departure x entry ≡ true) (sym same.beginnings) (subst (λ (x : Entry). has_progress departure begun' x ≡ true) (sym same.entries) goes) in
      let bad : false ≡ true = sym not ∙ e in
      cc

  pub leads_once : (one other : Result Arrivals LeafFlaw) → Leads setting departure left arrivals row one → Leads setting departure left arrivals row other → one ≡ other
  leads_once _ _ (leads_nowhere none) (leads_nowhere none') = refl
  leads_once _ _ (leads_nowhere none) (does_not_begin b none') = absurd (nowhere none b)
  leads_once _ _ (leads_nowhere none) (has_no_parameter b begins' was' none') = absurd (nowhere none b)
  leads_once _ _ (leads_nowhere none) (does_not_arrive b not') = absurd (nowhere none b.of_row)
  leads_once _ _ (leads_nowhere none) (has_none b arrives' not') = absurd (nowhere none b.of_row)
  leads_once _ _ (leads_nowhere none) (leads_to b arrives' goes') = absurd (nowhere none b.of_row)
  leads_once _ _ (does_not_begin a none) (leads_nowhere none') = absurd (nowhere none' a)
  leads_once _ _ (does_not_begin a none) (does_not_begin b none') = refl
  leads_once _ _ (does_not_begin a none) (has_no_parameter b begins' was' none') = absurd (not_begun a b none begins')
  leads_once _ _ (does_not_begin a none) (does_not_arrive b not') = absurd (not_begun a b.of_row none b.begins)
  leads_once _ _ (does_not_begin a none) (has_none b arrives' not') = absurd (not_begun a b.of_row none b.begins)
  leads_once _ _ (does_not_begin a none) (leads_to b arrives' goes') = absurd (not_begun a b.of_row none b.begins)
  leads_once _ _ (has_no_parameter a begins was none) (leads_nowhere none') = absurd (nowhere none' a)
  leads_once _ _ (has_no_parameter a begins was none) (does_not_begin b none') = absurd (not_begun b a none' begins)
  leads_once _ _ (has_no_parameter a begins was none) (has_no_parameter b begins' was' none') = refl
  leads_once _ _ (has_no_parameter a begins was none) (does_not_arrive b not') = absurd (no_parameters a begins was none b)
  leads_once _ _ (has_no_parameter a begins was none) (has_none b arrives' not') = absurd (no_parameters a begins was none b)
  leads_once _ _ (has_no_parameter a begins was none) (leads_to b arrives' goes') = absurd (no_parameters a begins was none b)
  leads_once _ _ (does_not_arrive a not) (leads_nowhere none') = absurd (nowhere none' a.of_row)
  leads_once _ _ (does_not_arrive a not) (does_not_begin b none') = absurd (not_begun b a.of_row none' a.begins)
  leads_once _ _ (does_not_arrive a not) (has_no_parameter b begins' was' none') = absurd (no_parameters b begins' was' none' a)
  leads_once _ _ (does_not_arrive a not) (does_not_arrive b not') = refl
  leads_once _ _ (does_not_arrive a not) (has_none b arrives' not') = absurd (not_both a not b arrives')
  leads_once _ _ (does_not_arrive a not) (leads_to b arrives' goes') = absurd (not_both a not b arrives')
  leads_once _ _ (has_none a arrives not) (leads_nowhere none') = absurd (nowhere none' a.of_row)
  leads_once _ _ (has_none a arrives not) (does_not_begin b none') = absurd (not_begun b a.of_row none' a.begins)
  leads_once _ _ (has_none a arrives not) (has_no_parameter b begins' was' none') = absurd (no_parameters b begins' was' none' a)
  leads_once _ _ (has_none a arrives not) (does_not_arrive b not') = absurd (not_both b not' a arrives)
  leads_once _ _ (has_none a arrives not) (has_none b arrives' not') = refl
  leads_once _ _ (has_none a arrives not) (leads_to b arrives' goes') = absurd (not_progress a not b goes')
  leads_once _ _ (leads_to a arrives goes) (leads_nowhere none') = absurd (nowhere none' a.of_row)
  leads_once _ _ (leads_to a arrives goes) (does_not_begin b none') = absurd (not_begun b a.of_row none' a.begins)
  leads_once _ _ (leads_to a arrives goes) (has_no_parameter b begins' was' none') = absurd (no_parameters b begins' was' none' a)
  leads_once _ _ (leads_to a arrives goes) (does_not_arrive b not') = absurd (not_both b not' a arrives)
  leads_once _ _ (leads_to a arrives goes) (has_none b arrives' not') = absurd (not_progress b not' a goes)
  leads_once _ _ (leads_to {number} {arrived = arrived} a arrives goes) (leads_to {number = number'} {arrived = arrived'} b arrives' goes') =
      let same = same_reach a b in
      ap (λ (k : ℕ). Ok (slice_set arrivals k (Some arrived))) same.numbers ∙ ap (λ (x : FirstArrival). Ok (slice_set arrivals number' (Some x))) same.first

-- ---- at leaves

pub leads_on_once : (setting : Setting) (departure : Departure) (left : Remaining) (arrivals : Arrivals) (leaf : Leaf) (one other : Result Arrivals LeafFlaw)
    → LeadsOn setting departure left arrivals leaf one → LeadsOn setting departure left arrivals leaf other → one ≡ other
leads_on_once setting departure left arrivals leaf _ _ (ends is_end end) (ends is_end' end') = refl
leads_on_once setting departure left arrivals leaf _ _ (ends is_end end) (ends_otherwise is_end' not) = absurd (not end)
leads_on_once setting departure left arrivals leaf _ _ (ends_otherwise is_end not) (ends is_end' end) = absurd (not end)
leads_on_once setting departure left arrivals leaf _ _ (ends_otherwise is_end not) (ends_otherwise is_end' not') = refl
leads_on_once setting departure left arrivals (Goto row) one other (goes_to leads) (goes_to leads') =
    leads_once setting (Some departure) left arrivals row one other leads leads'
leads_on_once setting departure left arrivals (Goto row) _ _ (ends is_end end) (goes_to leads) = absurd (is_end)
leads_on_once setting departure left arrivals (Goto row) _ _ (ends_otherwise is_end not) (goes_to leads) = absurd (is_end)
leads_on_once setting departure left arrivals (Goto row) _ _ (goes_to leads) (ends is_end end) = absurd (is_end)
leads_on_once setting departure left arrivals (Goto row) _ _ (goes_to leads) (ends_otherwise is_end not) = absurd (is_end)

module _ (setting : Setting) (departure : Departure) (arranged : Window) where
  pub all_once : {number : ℕ} {arrivals : Arrivals} {helds : List (List Fact)} {leaves : List Leaf} {rests : List Tree} {one other : Result Arrivals LeafRefusal}
      → AllLeadOn setting departure arranged number arrivals helds leaves rests one → AllLeadOn setting departure arranged number arrivals helds leaves rests other
      → one ≡ other
  all_once all_lead_on all_lead_on = refl
  all_once {other = other} (one_leads_on {number} {arrivals} {later} {helds = helds} {leaf} {leaves} {rests = rests} leads more) (one_leads_on {later = later'} leads' more') =
      let same : later ≡ later' = ok_one later later' (leads_on_once setting departure _ arrivals leaf (Ok later) (Ok later') leads leads') in
      all_once more (subst (λ (a : Arrivals). AllLeadOn setting departure arranged (suc number) a helds leaves rests other) (sym same) more')
  all_once (one_leads_on {arrivals} {later} {leaf} leads more) (one_is_refused {why} refused) =
      absurd (unlike later why (leads_on_once setting departure _ arrivals leaf (Ok later) (Err why) leads refused))
  all_once (one_is_refused {arrivals} {leaf} {why} refused) (one_leads_on {later} leads more) =
      absurd (unlike later why (leads_on_once setting departure _ arrivals leaf (Ok later) (Err why) leads refused))
  all_once (one_is_refused {number} {arrivals} {leaf} {why} refused) (one_is_refused {why = why'} refused') =
      let same : why ≡ why' = err_one why why' (leads_on_once setting departure _ arrivals leaf (Err why) (Err why') refused refused') in
      ap (λ (w : LeafFlaw). Err (record { leaf = number; why = w })) same

-- ---- one entry

-- how an entry is done
record Doing : Type 0 where
  pub arrived : FirstArrival
  pub row : CodeRow
  pub arranged : Window
  pub helds : List (List Fact)

module _ (setting : Setting) (number : ℕ) (entry : Entry) (arrivals : Arrivals) where
  -- it is done in this way
  record DoneBy (doing : Doing) : Type 0 where
    pub reached : slice_get arrivals number ≡ Some (Some doing.arrived)
    pub done : IsDone setting entry doing.arrived doing.row doing.arranged doing.helds

  same_arrival : (one other : FirstArrival) → slice_get arrivals number ≡ Some (Some one) → slice_get arrivals number ≡ Some (Some other) → one ≡ other
  same_arrival one other a b = some_one one other (some_one (Some one) (Some other) (sym a ∙ b))

  same_window : (one other : FirstArrival) (arranged arranged' : Window) → one ≡ other → Arranges setting.table entry.steps one.window arranged
      → Arranges setting.table entry.steps other.window arranged' → arranged ≡ arranged'
  same_window one other arranged arranged' same a b =
      arranged_once setting.table entry.steps one.window arranged arranged' a
      (subst (λ (x : FirstArrival). Arranges setting.table entry.steps x.window arranged') (sym same) b)

  same_match : (one other : FirstArrival) (row row' : CodeRow) (arranged arranged' : Window) (found found' : Option (List (List Fact))) → one ≡ other → row ≡ row'
      → arranged ≡ arranged' → row_match one.facts row (front_row (λ tree. tree) arranged.front) ≡ found
      → row_match other.facts row' (front_row (λ tree. tree) arranged'.front) ≡ found' → found ≡ found'
  same_match one other row row' arranged arranged' found found' same rows windows a b =
      sym a ∙ subst (λ (x : FirstArrival). row_match x.facts row (front_row (λ tree. tree) arranged.front) ≡ found') (sym same)
      (subst (λ (x : CodeRow). row_match other.facts x (front_row (λ tree. tree) arranged.front) ≡ found') (sym rows)
      (subst (λ (x : Window). row_match other.facts row' (front_row (λ tree. tree) x.front) ≡ found') (sym windows) b))

  same_doing : (one other : Doing) → DoneBy one → DoneBy other → one ≡ other
  same_doing one other a b =
      let arrived = same_arrival one.arrived other.arrived a.reached b.reached in
      let rows : one.row ≡ other.row = some_one one.row other.row (sym a.done.there ∙ b.done.there) in
      let windows = same_window one.arrived other.arrived one.arranged other.arranged arrived a.done.arranges b.done.arranges in
      let helds : one.helds ≡ other.helds = some_one one.helds other.helds
      (same_match one.arrived other.arrived one.row other.row one.arranged other.arranged (Some one.helds) (Some other.helds) arrived rows windows a.done.does b.done.does) in
      λ i. record { arrived = arrived i; row = rows i; arranged = windows i; helds = helds i }

  -- and its leaves lead on in one way
  led_once : (one other : Doing) (outcome outcome' : Result Arrivals LeafRefusal) → DoneBy one → DoneBy other
      → LeavesLeadOn setting entry one.arrived one.row one.arranged one.helds arrivals outcome
      → LeavesLeadOn setting entry other.arrived other.row other.arranged other.helds arrivals outcome' → outcome ≡ outcome'
  led_once one other outcome outcome' a b led led' =
      all_once setting (departure_of entry one.arrived) (with_limits setting.code.limits one.arranged) led
      (subst (λ (x : Doing). LeavesLeadOn setting entry x.arrived x.row x.arranged x.helds arrivals outcome') (sym (same_doing one other a b)) led')

  -- ---- no two answers together

  unreached : (arrived : FirstArrival) → slice_get arrivals number ≡ Some None → slice_get arrivals number ≡ Some (Some arrived) → ⊥
  unreached arrived none some = let e : Some None ≡ Some (Some arrived) = sym none ∙ some in cc

  rowless : (row : CodeRow) → slice_get setting.code.rows entry.row ≡ None → slice_get setting.code.rows entry.row ≡ Some row → ⊥
  rowless row none some = let e : None ≡ Some row = sym none ∙ some in cc

  unarranged : (one other : FirstArrival) (arranged : Window) → slice_get arrivals number ≡ Some (Some one) → slice_get arrivals number ≡ Some (Some other)
      → ((arranged : Window) → Arranges setting.table entry.steps one.window arranged → ⊥) → Arranges setting.table entry.steps other.window arranged → ⊥
  unarranged one other arranged a b not arranges =
      not arranged (subst (λ (x : FirstArrival). Arranges setting.table entry.steps x.window arranged) (sym (same_arrival one other a b)) arranges)

  unmatched : (one other : FirstArrival) (row row' : CodeRow) (arranged arranged' : Window) (helds : List (List Fact)) → slice_get arrivals number ≡ Some (Some one)
      → slice_get arrivals number ≡ Some (Some other) → slice_get setting.code.rows entry.row ≡ Some row → slice_get setting.code.rows entry.row ≡ Some row'
      → Arranges setting.table entry.steps one.window arranged → Arranges setting.table entry.steps other.window arranged'
      → row_match one.facts row (front_row (λ tree. tree) arranged.front) ≡ None → row_match other.facts row' (front_row (λ tree. tree) arranged'.front) ≡ Some helds → ⊥
  unmatched one other row row' arranged arranged' helds a b r r' w w' none some =
      let arrived = same_arrival one other a b in
      let e : None ≡ Some helds = same_match one other row row' arranged arranged' None (Some helds) arrived (some_one row row' (sym r ∙ r'))
      (same_window one other arranged arranged' arrived w w') none some in
      cc

  not_led : (one other : Doing) (refusal : LeafRefusal) (later : Arrivals) → DoneBy one → DoneBy other
      → LeavesLeadOn setting entry one.arrived one.row one.arranged one.helds arrivals (Err refusal)
      → LeavesLeadOn setting entry other.arrived other.row other.arranged other.helds arrivals (Ok later) → ⊥
  not_led one other refusal later a b led led' =
      let e : (let x : Result Arrivals LeafRefusal = Err refusal in x) ≡ Ok later = led_once one other (Err refusal) (Ok later) a b led led' in
      cc

  abbrev done_by : {arrived : FirstArrival} {row : CodeRow} {arranged : Window} {helds : List (List Fact)} → slice_get arrivals number ≡ Some (Some arrived)
      → IsDone setting entry arrived row arranged helds → DoneBy (record { arrived = arrived; row = row; arranged = arranged; helds = helds })
  done_by reached done = record { reached = reached; done = done }

  pub passes_once : (one other : Result Arrivals Flaw) → Passes setting number entry arrivals one → Passes setting number entry arrivals other → one ≡ other
  passes_once _ _ (not_reached reached) (not_reached reached') = refl
  passes_once _ _ (not_reached reached) (has_no_row {arrived = a'} reached' row') = absurd (unreached a' reached reached')
  passes_once _ _ (not_reached reached) (not_arranged {arrived = a'} reached' row' not') = absurd (unreached a' reached reached')
  passes_once _ _ (not_reached reached) (not_matched {arrived = a'} reached' row' arranges' none') = absurd (unreached a' reached reached')
  passes_once _ _ (not_reached reached) (leaf_refused {arrived = a'} reached' done' led') = absurd (unreached a' reached reached')
  passes_once _ _ (not_reached reached) (passes_on {arrived = a'} reached' done' led') = absurd (unreached a' reached reached')
  passes_once _ _ (has_no_row {arrived = a} reached row) (not_reached reached') = absurd (unreached a reached' reached)
  passes_once _ _ (has_no_row reached row) (has_no_row reached' row') = refl
  passes_once _ _ (has_no_row reached row) (not_arranged {row = r'} reached' row' not') = absurd (rowless r' row row')
  passes_once _ _ (has_no_row reached row) (not_matched {row = r'} reached' row' arranges' none') = absurd (rowless r' row row')
  passes_once _ _ (has_no_row reached row) (leaf_refused {row = r'} reached' done' led') = absurd (rowless r' row done'.there)
  passes_once _ _ (has_no_row reached row) (passes_on {row = r'} reached' done' led') = absurd (rowless r' row done'.there)
  passes_once _ _ (not_arranged {arrived = a} reached row not) (not_reached reached') = absurd (unreached a reached' reached)
  passes_once _ _ (not_arranged {row = r} reached row not) (has_no_row reached' row') = absurd (rowless r row' row)
  passes_once _ _ (not_arranged reached row not) (not_arranged reached' row' not') = refl
  passes_once _ _ (not_arranged {arrived = a} reached row not) (not_matched {arrived = a'} {arranged = w'} reached' row' arranges' none') =
      absurd (unarranged a a' w' reached reached' not arranges')
  passes_once _ _ (not_arranged {arrived = a} reached row not) (leaf_refused {arrived = a'} {arranged = w'} reached' done' led') =
      absurd (unarranged a a' w' reached reached' not done'.arranges)
  passes_once _ _ (not_arranged {arrived = a} reached row not) (passes_on {arrived = a'} {arranged = w'} reached' done' led') =
      absurd (unarranged a a' w' reached reached' not done'.arranges)
  passes_once _ _ (not_matched {arrived = a} reached row arranges none) (not_reached reached') = absurd (unreached a reached' reached)
  passes_once _ _ (not_matched {row = r} reached row arranges none) (has_no_row reached' row') = absurd (rowless r row' row)
  passes_once _ _ (not_matched {arrived = a} {arranged = w} reached row arranges none) (not_arranged {arrived = a'} reached' row' not') =
      absurd (unarranged a' a w reached' reached not' arranges)
  passes_once _ _ (not_matched reached row arranges none) (not_matched reached' row' arranges' none') = refl
  passes_once _ _ (not_matched {arrived = a} {row = r} {arranged = w} reached row arranges none) (leaf_refused {arrived = a'} {row = r'} {arranged = w'} {helds = h'} reached' done' led') =
      absurd (unmatched a a' r r' w w' h' reached reached' row done'.there arranges done'.arranges none done'.does)
  passes_once _ _ (not_matched {arrived = a} {row = r} {arranged = w} reached row arranges none) (passes_on {arrived = a'} {row = r'} {arranged = w'} {helds = h'} reached' done' led') =
      absurd (unmatched a a' r r' w w' h' reached reached' row done'.there arranges done'.arranges none done'.does)
  passes_once _ _ (leaf_refused {arrived = a} reached done led) (not_reached reached') = absurd (unreached a reached' reached)
  passes_once _ _ (leaf_refused {row = r} reached done led) (has_no_row reached' row') = absurd (rowless r row' done.there)
  passes_once _ _ (leaf_refused {arrived = a} {arranged = w} reached done led) (not_arranged {arrived = a'} reached' row' not') =
      absurd (unarranged a' a w reached' reached not' done.arranges)
  passes_once _ _ (leaf_refused {arrived = a} {row = r} {arranged = w} {helds = h} reached done led) (not_matched {arrived = a'} {row = r'} {arranged = w'} reached' row' arranges' none') =
      absurd (unmatched a' a r' r w' w h reached' reached row' done.there arranges' done.arranges none' done.does)
  passes_once _ _ (leaf_refused {refusal = why} reached done led) (leaf_refused {refusal = why'} reached' done' led') =
      ap (λ (x : LeafRefusal). Err (flaw.Leaf x.leaf x.why)) (err_one why why' (led_once _ _ _ _ (done_by reached done) (done_by reached' done') led led'))
  passes_once _ _ (leaf_refused {refusal = why} reached done led) (passes_on {later = later'} reached' done' led') =
      absurd (not_led _ _ why later' (done_by reached done) (done_by reached' done') led led')
  passes_once _ _ (passes_on {arrived = a} reached done led) (not_reached reached') = absurd (unreached a reached' reached)
  passes_once _ _ (passes_on {row = r} reached done led) (has_no_row reached' row') = absurd (rowless r row' done.there)
  passes_once _ _ (passes_on {arrived = a} {arranged = w} reached done led) (not_arranged {arrived = a'} reached' row' not') =
      absurd (unarranged a' a w reached' reached not' done.arranges)
  passes_once _ _ (passes_on {arrived = a} {row = r} {arranged = w} {helds = h} reached done led) (not_matched {arrived = a'} {row = r'} {arranged = w'} reached' row' arranges' none') =
      absurd (unmatched a' a r' r w' w h reached' reached row' done.there arranges' done.arranges none' done.does)
  passes_once _ _ (passes_on {later = later} reached done led) (leaf_refused {refusal = why'} reached' done' led') =
      absurd (not_led _ _ why' later (done_by reached' done') (done_by reached done) led' led)
  passes_once _ _ (passes_on {later = later} reached done led) (passes_on {later = later'} reached' done' led') =
      ap Ok (ok_one later later' (led_once _ _ _ _ (done_by reached done) (done_by reached' done') led led'))

-- ---- all entries

beyond : (setting : Setting) (number : ℕ) (entry : Entry) → slice_get setting.entries number ≡ None → slice_get setting.entries number ≡ Some entry → ⊥
beyond setting number entry none there = let e : None ≡ Some entry = sym none ∙ there in cc

module _ (setting : Setting) where
  passes_same : (number : ℕ) (entry entry' : Entry) (arrivals : Arrivals) (one other : Result Arrivals Flaw) → slice_get setting.entries number ≡ Some entry
      → slice_get setting.entries number ≡ Some entry' → Passes setting number entry arrivals one → Passes setting number entry' arrivals other → one ≡ other
  passes_same number entry entry' arrivals one other a b passes passes' =
      passes_once setting number entry arrivals one other passes
      (subst (λ (e : Entry). Passes setting number e arrivals other) (sym (some_one entry entry' (sym a ∙ b))) passes')

  pub all_pass_once : (number : ℕ) (arrivals : Arrivals) (one other : Result Arrivals Rejection) → AllPass setting number arrivals one → AllPass setting number arrivals other
      → one ≡ other
  all_pass_once number arrivals _ _ (all_passed none) (all_passed none') = refl
  all_pass_once number arrivals _ other (all_passed none) (one_passed {entry} there passes more) = absurd (beyond setting number entry none there)
  all_pass_once number arrivals _ _ (all_passed none) (one_rejected {entry} there passes) = absurd (beyond setting number entry none there)
  all_pass_once number arrivals one _ (one_passed {entry} there passes more) (all_passed none) = absurd (beyond setting number entry none there)
  all_pass_once number arrivals one other (one_passed {entry} {later} there passes more) (one_passed {entry = entry'} {later = later'} there' passes' more') =
      let same : later ≡ later' = ok_one later later' (passes_same number entry entry' arrivals (Ok later) (Ok later') there there' passes passes') in
      all_pass_once (suc number) later one other more (subst (λ (a : Arrivals). AllPass setting (suc number) a other) (sym same) more')
  all_pass_once number arrivals one _ (one_passed {entry} {later} there passes more) (one_rejected {entry = entry'} {why} there' passes') =
      absurd (unlike later why (passes_same number entry entry' arrivals (Ok later) (Err why) there there' passes passes'))
  all_pass_once number arrivals _ _ (one_rejected {entry} there passes) (all_passed none) = absurd (beyond setting number entry none there)
  all_pass_once number arrivals _ other (one_rejected {entry} {why} there passes) (one_passed {entry = entry'} {later} there' passes' more) =
      absurd (unlike later why (passes_same number entry' entry arrivals (Ok later) (Err why) there' there passes' passes))
  all_pass_once number arrivals _ _ (one_rejected {entry} {why} there passes) (one_rejected {entry = entry'} {why = why'} there' passes') =
      let same : why ≡ why' = err_one why why' (passes_same number entry entry' arrivals (Err why) (Err why') there there' passes passes') in
      ap (λ (w : Flaw). Err (record { entry = number; flaw = w })) same

  -- ---- a certificate

  start_once : (one other : Result Arrivals LeafFlaw) → StartLeads setting one → StartLeads setting other → one ≡ other
  start_once one other a b = leads_once setting None (at_start setting.table setting.code) (no_arrivals setting.entries) 0 one other a b

  pub answers_once : (words : List (List ℤ)) (one other : Result Arrivals Rejection) → Answers setting words one → Answers setting words other → one ≡ other
  answers_once words _ _ (has_other_data not) (has_other_data not') = refl
  answers_once words _ _ (has_other_data not) (does_not_start same leads) = absurd (not same)
  answers_once words _ other (has_other_data not) (starts same leads passes) = absurd (not same)
  answers_once words _ _ (does_not_start same leads) (has_other_data not) = absurd (not same)
  answers_once words _ _ (does_not_start {why} same leads) (does_not_start {why = why'} same' leads') =
      ap (λ (w : LeafFlaw). Err (at_first (flaw.Start w))) (err_one why why' (start_once (Err why) (Err why') leads leads'))
  answers_once words _ other (does_not_start {why} same leads) (starts {arrivals} same' leads' passes) = absurd (unlike arrivals why (start_once (Ok arrivals) (Err why) leads' leads))
  answers_once words one _ (starts same leads passes) (has_other_data not) = absurd (not same)
  answers_once words one _ (starts {arrivals} same leads passes) (does_not_start {why} same' leads') = absurd (unlike arrivals why (start_once (Ok arrivals) (Err why) leads leads'))
  answers_once words one other (starts {arrivals} same leads passes) (starts {arrivals = arrivals'} same' leads' passes') =
      let arrived : arrivals ≡ arrivals' = ok_one arrivals arrivals' (start_once (Ok arrivals) (Ok arrivals') leads leads') in
      all_pass_once 0 arrivals one other passes (subst (λ (a : Arrivals). AllPass setting 0 a other) (sym arrived) passes')

pub one_answer : OneAnswer
one_answer setting words one other a b = answers_once setting words one other a b
