-- Where what is left leads, in memory.
use Rattle.std.proofs.Common.{◌≡◌, ◌↔◌, ℕ, Bool, true, false, Option, Some, None, Result, Ok, Err, sym, ◌∙◌, subst}
use Rattle.std.specs.Prelude.{IfOk, slice_get, slice_set}
use Rattle.pc_word.specs.declared.item.Limits.{Limits}
use Rattle.pc_table.specs.Table.{Table}
use Rattle.pc_cert.specs.declared.certificate.Entry.{Entry}
use Rattle.pc_settling.specs.declared.remaining.Begun as stored_begun
use Rattle.pc_settling.specs.Stored.{begun_in, some_begun_in}
use Rattle.pc_settling.specs.Remaining.{Remaining}
use Rattle.pc_settling.specs.Begun.{Begun, Begins, BeginsWith}
use Rattle.pc_settling.specs.Arrives.{Arrives}
use Rattle.pc_accepted.specs.declared.flaw.LeafFlaw.{LeafFlaw}
use Rattle.pc_accepted.specs.declared.flaw.LeafFlaw.TheVariants.{NoEntry, NoBeginning, NoParameter, NoArrival, NoProgress}
use Rattle.pc_accepted.specs.Arrivals.{Arrivals, FirstArrival, IsEntryOf, entry_number, first_arrival}
use Rattle.pc_accepted.specs.Leading.{Setting, Departure, has_progress, Reaches, Leads, leads_nowhere, does_not_begin, has_no_parameter, does_not_arrive, has_none, leads_to}
use Rattle.pc_checking.specs.models.Stored.{outcome_of}
use Rattle.pc_checking.specs.models.Going.{Meets, arrives_not, stands_still, goes_on, LeadsTo}

-- ---- what it meets

module _ (departure : Option Departure) (begun : Begun) (entry : Entry) (arrived : FirstArrival) (found : Bool)
    (tells : (found ≡ true) ↔ Arrives begun.window begun.facts arrived.window arrived.facts) where
  pub met_nothing : found ≡ false → Meets departure begun entry arrived (Err NoArrival)
  met_nothing none = arrives_not (λ a. absurd (let e : true ≡ false = sym (tells.1 a) ∙ none in cc))

  pub met_still : (goes : Bool) → found ≡ true → goes ≡ has_progress departure begun entry → goes ≡ false → Meets departure begun entry arrived (Err NoProgress)
  met_still goes there is none = stands_still (tells.0 there) (sym is ∙ none)

  pub met_on : (goes : Bool) (done : Unit {0}) → found ≡ true → goes ≡ has_progress departure begun entry → goes ≡ true → Meets departure begun entry arrived (Ok done)
  met_on goes done there is on = goes_on (tells.0 there) (sym is ∙ on)

pub ruleset meeting = (met_nothing, met_still, met_on)

-- ---- to an entry

module _ (s : Setting) (departure : Option Departure) (begun : Begun) (number : ℕ) (arrivals : Arrivals) (here : Entry)
    (there : slice_get s.entries number ≡ Some here) (before : Option FirstArrival) (was : slice_get arrivals number ≡ Some before) where
  -- there is one entry of a number
  for_here : (outcome : Result Arrivals LeafFlaw)
      → ((row : ℕ) (left : Remaining) → IsEntryOf s.entries row number here → BeginsWith s.table s.code.limits here.opening left begun → Leads s departure left arrivals row outcome)
      → LeadsTo s departure begun number arrivals outcome
  for_here outcome h row entry left of_row begins =
      let same : entry ≡ here = some_one entry here (sym of_row.there ∙ there) in
      h row left (subst (IsEntryOf s.entries row number) same of_row) (subst (λ (e : Entry). BeginsWith s.table s.code.limits e.opening left begun) same begins)
    where
      some_one : {A : Type 0} (x y : A) → Some x ≡ Some y → x ≡ y
      some_one x y e = cc

  pub led_nowhere : None ≡ first_arrival before begun.window here → LeadsTo s departure begun number arrivals (Err NoParameter)
  led_nowhere none = for_here (Err NoParameter) (λ row left of_row begins. by_before before was none row left of_row begins)
    where
      by_before : (before : Option FirstArrival) → slice_get arrivals number ≡ Some before → None ≡ first_arrival before begun.window here → (row : ℕ) (left : Remaining)
          → IsEntryOf s.entries row number here → BeginsWith s.table s.code.limits here.opening left begun → Leads s departure left arrivals row (Err NoParameter)
      by_before None was none row left of_row begins = has_no_parameter of_row begins was (sym none)
      by_before (Some arrived) was none row left of_row begins = absurd (cc)

  module _ (arrived : FirstArrival) (stands : Some arrived ≡ first_arrival before begun.window here) where
    reaches : (row : ℕ) (left : Remaining) → IsEntryOf s.entries row number here → BeginsWith s.table s.code.limits here.opening left begun
        → Reaches s left arrivals row number here begun arrived
    reaches row left of_row begins = record { of_row = of_row; begins = begins; before = before; was = was; stands = sym stands }

    by_met : (later : Arrivals) (met : Result (Unit {0}) LeafFlaw) → later ≡ slice_set arrivals number (Some arrived) → Meets departure begun here arrived met
        → (row : ℕ) (left : Remaining) → IsEntryOf s.entries row number here → BeginsWith s.table s.code.limits here.opening left begun
        → Leads s departure left arrivals row (outcome_of later met)
    by_met later met is (arrives_not never) row left of_row begins = does_not_arrive (reaches row left of_row begins) never
    by_met later met is (stands_still arrives none) row left of_row begins = has_none (reaches row left of_row begins) arrives none
    by_met later met is (goes_on arrives on) row left of_row begins =
        subst (λ (a : Arrivals). Leads s departure left arrivals row (Ok a)) (sym is) (leads_to (reaches row left of_row begins) arrives on)

    pub led_on : (later : Arrivals) (met : Result (Unit {0}) LeafFlaw) → later ≡ slice_set arrivals number (Some arrived) → Meets departure begun here arrived met
        → LeadsTo s departure begun number arrivals (outcome_of later met)
    led_on later met is meets = for_here (outcome_of later met) (λ row left of_row begins. by_met later met is meets row left of_row begins)

-- ---- to the entry of a row

-- what it begins with, in memory, if it does
pub begins_not : (table : Table) (limits : Limits) (entry read : Entry) (left : Remaining) (begun : Option stored_begun.Begun) → entry ≡ read → begun ≡ None
    → Begins table limits read.opening left (some_begun_in begun) → Begins table limits entry.opening left None
begins_not table limits entry read left begun same is begins =
    subst (λ (e : Entry). Begins table limits e.opening left None) (sym same) (subst (λ (o : Option stored_begun.Begun). Begins table limits read.opening left (some_begun_in o)) is begins)

pub begins_so : (table : Table) (limits : Limits) (entry read : Entry) (left : Remaining) (found : Option stored_begun.Begun) (begun : stored_begun.Begun) → entry ≡ read
    → found ≡ Some begun → Begins table limits read.opening left (some_begun_in found) → BeginsWith table limits entry.opening left (begun_in begun)
begins_so table limits entry read left found begun same is begins =
    subst (λ (e : Entry). BeginsWith table limits e.opening left (begun_in begun)) (sym same)
    (subst (λ (o : Option stored_begun.Begun). Begins table limits read.opening left (some_begun_in o)) is begins)

module _ (s : Setting) (departure : Option Departure) (left : Remaining) (arrivals : Arrivals) (row : ℕ) where
  pub lead_nowhere : None ≡ entry_number s.entries row → Leads s departure left arrivals row (Err NoEntry)
  lead_nowhere none = leads_nowhere (sym none)

  pub lead_nothing : (number : ℕ) (entry : Entry) → IsEntryOf s.entries row number entry → Begins s.table s.code.limits entry.opening left None
      → Leads s departure left arrivals row (Err NoBeginning)
  lead_nothing number entry of_row none = does_not_begin of_row none

  -- what a call gives that leads to the entry
  pub lead_result : {E : Type 0} (number : ℕ) (entry : Entry) (begun : Begun) (later : Arrivals) (result : Result (Result (Unit {0}) LeafFlaw) E)
      → IsEntryOf s.entries row number entry → BeginsWith s.table s.code.limits entry.opening left begun
      → IfOk result (λ outcome. LeadsTo s departure begun number arrivals (outcome_of later outcome))
      → IfOk result (λ outcome. Leads s departure left arrivals row (outcome_of later outcome))
  lead_result number entry begun later (Ok outcome) of_row begins leads = leads row entry left of_row begins
  lead_result number entry begun later (Err error) of_row begins leads = tt
