-- Regions that were found while forms are chosen: each once, and those that have a form were taken.
use Rattle.std.proofs.Common.{◌≡◌, ℕ, zero, suc, ◌<◌, ◌≤◌, ◌⊎◌, inl, inr, Bool, true, false, cond}
use Rattle.std.proofs.Common.{List, [], ◌∷◌, ◌++◌, length, Option, Some, None, refl, sym, ◌∙◌, ap, arith}
use Rattle.std.specs.Prelude.{ℤ, nat_eq, slice_get}
use Rattle.std.specs.List.{list_any}
use Rattle.std.proofs.lemmas.Option.{slice_get_within}
use Rattle.pc_word.specs.declared.item.Limits.{Limits}
use Rattle.pc_word.specs.declared.item.Extent.{Extent}
use Rattle.pc_table.specs.Table.{Table, region_tree}
use Rattle.pc_emit.specs.Emitted.{RegionForm}
use Rattle.pc_emit.specs.Leading.{form_leads}
use Rattle.pc_compile.specs.declared.choice.Choice.{Choice}
use Rattle.pc_compile.specs.Choosing.{with_region_form, with_region, with_regions, choice_of, Choosing, Begins, Takes}
use Rattle.pc_compile.proofs.Places.{listed}
use Rattle.pc_word.proofs.Places.{get_front, get_more, length_more, same_number}

-- ---- places

-- no region stands at two places
abbrev pub IsOnce : List ℕ → Type 0
IsOnce found = (one other region : ℕ) → slice_get found one ≡ Some region → slice_get found other ≡ Some region → one ≡ other

once_more : (found : List ℕ) (region : ℕ) → list_any (nat_eq region) found ≡ false → IsOnce found → IsOnce (found ++ region ∷ [])
once_more found region none once one other at here there =
    by (get_more found region one at here) (get_more found region other at there)
  where
    not_there : (place : ℕ) → slice_get found place ≡ Some at → region ≡ at → ⊥
    not_there place e same =
        let is : list_any (nat_eq region) found ≡ true = listed found place region (e ∙ ap Some (sym same)) in absurd (cc)

    by : (slice_get found one ≡ Some at) ⊎ ((one ≡ length found) × (region ≡ at))
        → (slice_get found other ≡ Some at) ⊎ ((other ≡ length found) × (region ≡ at)) → one ≡ other
    by (inl h) (inl k) = once one other at h k
    by (inl h) (inr k) = absurd (not_there one h k.1)
    by (inr h) (inl k) = absurd (not_there other k h.1)
    by (inr h) (inr k) = h.0 ∙ sym k.0

with_region_once : (found : List ℕ) (region : ℕ) → IsOnce found → IsOnce (with_region found region)
with_region_once found region once = by (list_any (nat_eq region) found) refl
  where
    by : (b : Bool) → list_any (nat_eq region) found ≡ b → IsOnce (cond b found (found ++ region ∷ []))
    by true e = once
    by false e = once_more found region e once

with_regions_once : (found regions : List ℕ) → IsOnce found → IsOnce (with_regions found regions)
with_regions_once found [] once = once
with_regions_once found (region ∷ regions) once = with_regions_once (with_region found region) regions (with_region_once found region once)

with_region_keeps : (found : List ℕ) (region place at : ℕ) → slice_get found place ≡ Some at → slice_get (with_region found region) place ≡ Some at
with_region_keeps found region place at e = by (list_any (nat_eq region) found)
  where
    by : (b : Bool) → slice_get (cond b found (found ++ region ∷ [])) place ≡ Some at
    by true = e
    by false = get_front found (region ∷ []) place at e

-- what was found stays at its place
pub with_regions_keep : (found regions : List ℕ) (place at : ℕ) → slice_get found place ≡ Some at → slice_get (with_regions found regions) place ≡ Some at
with_regions_keep found [] place at e = e
with_regions_keep found (region ∷ regions) place at e =
    with_regions_keep (with_region found region) regions place at (with_region_keeps found region place at e)

-- ---- while forms are chosen

module _ (table : Table) (initial : List (List ℤ)) (limits : Limits) (extent : Extent) where
  begins_once : IsOnce (0 ∷ [])
  begins_once zero zero region here there = refl
  begins_once zero (suc other) region here there = absurd (cc)
  begins_once (suc one) other region here there = absurd (cc)

  pub found_once : (found : List ℕ) (choices : List Choice) (forms : ℕ → Option RegionForm) → Choosing table initial limits extent found choices forms → IsOnce found
  found_once found choices forms Begins = begins_once
  found_once found choices forms (Takes {found = before} {choices = earlier} {forms = had} {region = last} {chosen = chosen} choosing next gets) =
      with_regions_once before (form_leads (region_tree table last) chosen) (found_once before earlier had choosing)

  -- a region that was taken
  pub record IsTaken (found : List ℕ) (choices : List Choice) (region : ℕ) : Type 0 where
    pub place : ℕ
    pub before : place < length choices
    pub there : slice_get found place ≡ Some region

  -- where a form is among those with one more, it is that one, or it was there
  pub form_among : (forms : ℕ → Option RegionForm) (region other : ℕ) (chosen form : RegionForm) → with_region_form forms region chosen other ≡ Some form
      → ((other ≡ region) × (chosen ≡ form)) ⊎ (forms other ≡ Some form)
  form_among forms region other chosen form has = by (nat_eq other region) refl has
    where
      by : (b : Bool) → nat_eq other region ≡ b → cond b (Some chosen) (forms other) ≡ Some form
          → ((other ≡ region) × (chosen ≡ form)) ⊎ (forms other ≡ Some form)
      by true e has = inl (same_number other region e, cc)
      by false e has = inr has

  pub taken_of_form : (found : List ℕ) (choices : List Choice) (forms : ℕ → Option RegionForm) → Choosing table initial limits extent found choices forms
      → (region : ℕ) (form : RegionForm) → forms region ≡ Some form → IsTaken found choices region
  taken_of_form found choices forms Begins region form has = absurd (cc)
  taken_of_form found choices forms
      (Takes {found = before} {choices = earlier} {forms = had} {region = last} {chosen = chosen} {kind = kind} {causes = causes} choosing next gets) region form has =
      by (form_among had last region chosen form has) (λ h. taken_of_form before earlier had choosing region form h)
    where
      by : ((region ≡ last) × (chosen ≡ form)) ⊎ (had region ≡ Some form) → (had region ≡ Some form → IsTaken before earlier region)
          → IsTaken (with_regions before (form_leads (region_tree table last) chosen)) (earlier ++ choice_of last kind causes ∷ []) region
      by (inl h) rest = record {
        place = length earlier;
        before = let more = length_more earlier (choice_of last kind causes) in omega (arith, more);
        there = with_regions_keep before (form_leads (region_tree table last) chosen) (length earlier) region (next ∙ ap Some (sym h.0));
      }
      by (inr h) rest = let was = rest h in record {
        place = was.place;
        before = let more = length_more earlier (choice_of last kind causes) in let lt = was.before in omega (arith, more, lt);
        there = with_regions_keep before (form_leads (region_tree table last) chosen) was.place region was.there;
      }

  -- the region that is taken next has no form yet
  pub next_is_free : (found : List ℕ) (choices : List Choice) (forms : ℕ → Option RegionForm) → Choosing table initial limits extent found choices forms
      → (region : ℕ) → slice_get found (length choices) ≡ Some region → forms region ≡ None
  next_is_free found choices forms choosing region next = by (forms region) refl
    where
      by : (form : Option RegionForm) → forms region ≡ form → form ≡ None
      by None e = refl
      by (Some form) e =
          let was = taken_of_form found choices forms choosing region form e in
          let same = found_once found choices forms choosing was.place (length choices) region was.there next in
          let lt = was.before in
          absurd (omega (arith, same, lt))

  -- no more are taken than were found
  pub taken_few : (found : List ℕ) (choices : List Choice) (forms : ℕ → Option RegionForm) → Choosing table initial limits extent found choices forms
      → length choices ≤ length found
  taken_few found choices forms Begins = omega arith
  taken_few found choices forms (Takes {found = before} {choices = earlier} {forms = had} {region = last} {chosen = chosen} {kind = kind} {causes = causes} choosing next gets) =
      let leads = form_leads (region_tree table last) chosen in
      let kept = slice_get_within (with_regions before leads) (length earlier) last (with_regions_keep before leads (length earlier) last next) in
      let more = length_more earlier (choice_of last kind causes) in
      omega (arith, kept, more)
