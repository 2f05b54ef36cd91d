-- What has arrived stays, and is sound.
use Rattle.std.proofs.Common.{◌≡◌, inl, inr, ℕ, zero, suc, List, [], ◌∷◌, Option, Some, None, refl, sym, ◌∙◌, ap, subst}
use Rattle.std.specs.Prelude.{Result, Ok, slice_get, slice_set}
use Rattle.std.proofs.lemmas.Bool.Decides.{eqb_tells}
use Rattle.std.proofs.lemmas.Option.{slice_get_within}
use Rattle.pc_word.proofs.Places.{set_there, set_elsewhere}
use Rattle.pc_machine.specs.declared.tree.Leaf.{Leaf}
use Rattle.pc_cert.specs.declared.certificate.Entry.{Entry}
use Rattle.pc_window.specs.WindowRun.{Window}
use Rattle.pc_window.specs.Steps.{Positive}
use Rattle.pc_certified.specs.Facts.{Fact}
use Rattle.pc_renumber.specs.Renumbering.{renumbered}
use Rattle.pc_renumber.proofs.Renumbered.{renumbered_proper, renumbered_single}
use Rattle.pc_settling.specs.Remaining.{Remaining}
use Rattle.pc_settling.specs.Begun.{Begun}
use Rattle.pc_accepted.specs.declared.flaw.LeafFlaw.{LeafFlaw}
use Rattle.pc_accepted.specs.Arrivals.{Arrivals, FirstArrival, arrival_with, first_arrival, no_arrivals}
use Rattle.pc_accepted.specs.Leading.{Setting, Departure, Reaches, Leads, leads_nowhere, does_not_begin, has_no_parameter, does_not_arrive, has_none, leads_to}
use Rattle.pc_accepted.specs.Leading.{LeadsOn, ends, ends_otherwise, goes_to}
use Rattle.pc_accepted.proofs.Proper.{IsSound, some_one, begun_sound}

-- what is arrivals stays arrivals
abbrev pub Grows : Arrivals → Arrivals → Type 0
Grows arrivals later = (number : ℕ) (arrived : FirstArrival) → slice_get arrivals number ≡ Some (Some arrived) → slice_get later number ≡ Some (Some arrived)

-- each window that is arrivals is sound
abbrev pub AllSound : Arrivals → Type 0
AllSound arrivals = (number : ℕ) (arrived : FirstArrival) → slice_get arrivals number ≡ Some (Some arrived) → IsSound arrived.window

pub ok_one : {A B : Type 0} (x y : A) → (let e : Result A B = Ok x in e) ≡ Ok y → x ≡ y
ok_one x y e = cc

-- ---- what an entry stands for

arrived_window : (w : Window) (facts : Option (List Fact)) (arrived : FirstArrival) → arrival_with w facts ≡ Some arrived → arrived.window ≡ w
arrived_window w None arrived e = absurd (cc)
arrived_window w (Some facts) arrived e = ap (λ (a : FirstArrival). a.window) (sym (some_one (record { window = w; facts = facts }) arrived e))

stands_sound : (before : Option FirstArrival) (w : Window) (entry : Entry) (arrived : FirstArrival) → first_arrival before w entry ≡ Some arrived
    → ((it : FirstArrival) → before ≡ Some it → IsSound it.window) → IsSound w → IsSound arrived.window
stands_sound None w entry arrived e arrivals sound =
    let new : IsSound (renumbered w) = record { proper = renumbered_proper w sound.proper sound.single; single = renumbered_single w sound.single } in
    subst IsSound (sym (arrived_window (renumbered w) _ arrived e)) new
stands_sound (Some it) w entry arrived e arrivals sound = subst (λ (a : FirstArrival). IsSound a.window) (some_one it arrived e) (arrivals it refl)

-- an entry that stands for something stands for it still
stands_still : (before : Option FirstArrival) (it : FirstArrival) (w : Window) (entry : Entry) (arrived : FirstArrival) → before ≡ Some it → first_arrival before w entry ≡ Some arrived
    → it ≡ arrived
stands_still None it w entry arrived is e = absurd (cc)
stands_still (Some other) it w entry arrived is e = some_one it other (sym is) ∙ some_one other arrived e

-- ---- where what is left leads to an entry

module _ (setting : Setting) (left : Remaining) (arrivals : Arrivals) (row : ℕ) where
  -- what is put is what stood there, if something did
  put_still : (number : ℕ) (entry : Entry) (begun : Begun) (arrived : FirstArrival) → Reaches setting left arrivals row number entry begun arrived
      → Grows arrivals (slice_set arrivals number (Some arrived))
  put_still number entry begun arrived reaches n it is = elim (eqb_tells n number) [
    | inl same ↦ (
        let here : slice_get arrivals number ≡ Some (Some it) = subst (λ (k : ℕ). slice_get arrivals k ≡ Some (Some it)) same.1 is in
        let before : reaches.before ≡ Some it = some_one reaches.before (Some it) (sym reaches.was ∙ here) in
        let still : it ≡ arrived = stands_still reaches.before it begun.window entry arrived before reaches.stands in
        let there = set_there arrivals number (Some arrived) (slice_get_within arrivals number reaches.before reaches.was) in
        subst (λ (k : ℕ). slice_get (slice_set arrivals number (Some arrived)) k ≡ Some (Some it)) (sym same.1) (there ∙ ap (λ (a : FirstArrival). Some (Some a)) (sym still))
        )
    | inr apart ↦ set_elsewhere arrivals number n (Some arrived) (λ e. apart.1 (sym e)) ∙ is
  ]

  -- and sound, where what is left is
  put_sound : (number : ℕ) (entry : Entry) (begun : Begun) (arrived : FirstArrival) → Positive setting.code.limits → IsSound left.window → AllSound arrivals
      → Reaches setting left arrivals row number entry begun arrived → AllSound (slice_set arrivals number (Some arrived))
  put_sound number entry begun arrived room sound all reaches n it is = elim (eqb_tells n number) [
    | inl same ↦ (
        let there = set_there arrivals number (Some arrived) (slice_get_within arrivals number reaches.before reaches.was) in
        let here : slice_get (slice_set arrivals number (Some arrived)) number ≡ Some (Some it) =
        subst (λ (k : ℕ). slice_get (slice_set arrivals number (Some arrived)) k ≡ Some (Some it)) same.1 is in
        let is_it : arrived ≡ it = some_one arrived it (some_one (Some arrived) (Some it) (sym there ∙ here)) in
        let begun_is = begun_sound setting.table setting.code.limits entry.opening left begun room sound reaches.begins in
        let known_is = λ (a : FirstArrival) (e : reaches.before ≡ Some a). all number a (reaches.was ∙ ap Some e) in
        subst (λ (a : FirstArrival). IsSound a.window) is_it (stands_sound reaches.before begun.window entry arrived reaches.stands known_is begun_is)
        )
    | inr apart ↦ all n it (sym (set_elsewhere arrivals number n (Some arrived) (λ e. apart.1 (sym e))) ∙ is)
  ]

  pub leads_grow : {departure : Option Departure} {outcome : Result Arrivals LeafFlaw} (later : Arrivals)
      → Leads setting departure left arrivals row outcome → outcome ≡ Ok later → Grows arrivals later
  leads_grow later (leads_nowhere none) e = absurd (cc)
  leads_grow later (does_not_begin of_row none) e = absurd (cc)
  leads_grow later (has_no_parameter of_row begins was none) e = absurd (cc)
  leads_grow later (does_not_arrive reaches not) e = absurd (cc)
  leads_grow later (has_none reaches arrives not) e = absurd (cc)
  leads_grow later (leads_to {number} {entry} {begun} {arrived} reaches arrives goes) e =
      subst (Grows arrivals) (ok_one (slice_set arrivals number (Some arrived)) later e) (put_still number entry begun arrived reaches)

  pub leads_sound : {departure : Option Departure} {outcome : Result Arrivals LeafFlaw} (later : Arrivals) → Positive setting.code.limits → IsSound left.window → AllSound arrivals
      → Leads setting departure left arrivals row outcome → outcome ≡ Ok later → AllSound later
  leads_sound later room sound all (leads_nowhere none) e = absurd (cc)
  leads_sound later room sound all (does_not_begin of_row none) e = absurd (cc)
  leads_sound later room sound all (has_no_parameter of_row begins was none) e = absurd (cc)
  leads_sound later room sound all (does_not_arrive reaches not) e = absurd (cc)
  leads_sound later room sound all (has_none reaches arrives not) e = absurd (cc)
  leads_sound later room sound all (leads_to {number} {entry} {begun} {arrived} reaches arrives goes) e =
      subst AllSound (ok_one (slice_set arrivals number (Some arrived)) later e) (put_sound number entry begun arrived room sound all reaches)

-- ---- at a leaf

pub leaf_grows : (setting : Setting) (departure : Departure) (left : Remaining) (arrivals later : Arrivals) (leaf : Leaf) {outcome : Result Arrivals LeafFlaw}
    → LeadsOn setting departure left arrivals leaf outcome → outcome ≡ Ok later → Grows arrivals later
leaf_grows setting departure left arrivals later leaf (ends is_end end) e = subst (Grows arrivals) (ok_one arrivals later e) (λ n it is. is)
leaf_grows setting departure left arrivals later leaf (ends_otherwise is_end not) e = absurd (cc)
leaf_grows setting departure left arrivals later leaf (goes_to {row} leads) e = leads_grow setting left arrivals row later leads e

pub leaf_sound : (setting : Setting) (departure : Departure) (left : Remaining) (arrivals later : Arrivals) (leaf : Leaf) {outcome : Result Arrivals LeafFlaw} → Positive setting.code.limits
    → IsSound left.window → AllSound arrivals → LeadsOn setting departure left arrivals leaf outcome → outcome ≡ Ok later → AllSound later
leaf_sound setting departure left arrivals later leaf room sound all (ends is_end end) e = subst AllSound (ok_one arrivals later e) all
leaf_sound setting departure left arrivals later leaf room sound all (ends_otherwise is_end not) e = absurd (cc)
leaf_sound setting departure left arrivals later leaf room sound all (goes_to {row} leads) e = leads_sound setting left arrivals row later room sound all leads e

-- ---- before anything has arrived

none_there : (entries : List Entry) (number : ℕ) (it : FirstArrival) → slice_get (no_arrivals entries) number ≡ Some (Some it) → ⊥
none_there [] number it is = cc
none_there (entry ∷ entries) zero it is = cc
none_there (entry ∷ entries) (suc number) it is = none_there entries number it is

pub none_sound : (entries : List Entry) → AllSound (no_arrivals entries)
none_sound entries number it is = absurd (none_there entries number it is)
