-- What accesses tell of an element.
use Rattle.std.proofs.Common.{◌≡◌, inl, inr, ℕ, ◌+◌, ◌<◌, ◌≤◌, List, length, Option, Some, None, sym, ◌∙◌, ap, subst, arith}
use Rattle.std.specs.Prelude.{MatchOption, slice_get, slice_index_or}
use Rattle.std.proofs.lemmas.Bool.{cases_eq}
use Rattle.std.proofs.lemmas.Option.{slice_get_within, slice_get-get_or}
use Rattle.pc_word.proofs.Truth.{decide_le}
use Rattle.pc_linear.specs.Form.{Form}
use Rattle.pc_linear.specs.Equality.{AlwaysEqual}
use Rattle.pc_forward.specs.declared.access.Access.{Access}
use Rattle.pc_forward.specs.Forwardable.{Decides, IsLatest, HasElement}

module _ (accesses : List Access) (array : ℕ) (index : Form) where
  -- no access of those at a place and behind it decides
  abbrev pub NoneFrom : ℕ → Type 0
  NoneFrom place = (later : ℕ) (other : Access) → place ≤ later → slice_get accesses later ≡ Some other → Decides array index other → ⊥

  -- behind all of them none does
  pub none_here : NoneFrom (length accesses)
  none_here later other low there d = absurd (let within = slice_get_within accesses later other there in omega (arith, within, low))

  -- one access is the latest that decides
  pub latest_once : (one other : Access) → IsLatest accesses array index one → IsLatest accesses array index other → one ≡ other
  latest_once one other p q = elim (cases_eq p.place q.place) [
    | inl same ↦ let a = p.there in let b = q.there in let moved = subst (λ (n : ℕ). slice_get accesses n ≡ Some one) same a in (cc)
    | inr apart ↦ elim (decide_le p.place q.place) [
      | inl low ↦ absurd (p.none_later q.place other (omega (arith, low, apart)) q.there q.decides)
      | inr high ↦ absurd (q.none_later p.place one (omega (arith, high)) p.there p.decides)
    ]
  ]

  pub latest_here : (place : ℕ) (access : Access) → slice_get accesses place ≡ Some access → Decides array index access → NoneFrom (place + 1) → IsLatest accesses array index access
  latest_here place access there decides none =
      record { place = place; there = there; decides = decides; none_later = λ later other low stands d. none later other (omega (arith, low)) stands d }

  -- the latest that decides is of just this index
  pub element_told : (access : Access) (value : Form) → IsLatest accesses array index access → value ≡ access.value → AlwaysEqual access.index index → HasElement accesses array index value
  element_told access value latest is same = record { access = access; latest = latest; same_index = same; is = sym is }

  -- it is not
  pub element_lost : (access : Access) → IsLatest accesses array index access → (AlwaysEqual access.index index → ⊥) → (value : Form) → HasElement accesses array index value → ⊥
  element_lost access latest other value h =
      let same = latest_once h.access access h.latest latest in
      other (subst (λ (a : Access). AlwaysEqual a.index index) same h.same_index)

  -- there is none
  pub element_none : NoneFrom 0 → (value : Form) → HasElement accesses array index value → ⊥
  element_none none value h = none h.latest.place h.access (omega arith) h.latest.there h.latest.decides

  module _ (place : ℕ) (access : Access) (low : place < length accesses) (is : access ≡ slice_index_or accesses place access) where
    access_there : slice_get accesses place ≡ Some access
    access_there = slice_get-get_or accesses place access low ∙ ap (λ (a : Access). Some a) (sym is)

    -- what the latest one tells
    pub told_by : Decides array index access → NoneFrom (place + 1) → (told : Option Form)
        → MatchOption told (AlwaysEqual access.index index → ⊥) (λ value. (value ≡ access.value) × AlwaysEqual access.index index)
        → MatchOption told ((value : Form) → HasElement accesses array index value → ⊥) (λ value. HasElement accesses array index value)
    told_by decides none None h = element_lost access (latest_here place access access_there decides none) h
    told_by decides none (Some value) h = element_told access value (latest_here place access access_there decides none) h.0 h.1

    -- one that does not decide
    pub none_more : (Decides array index access → ⊥) → NoneFrom (place + 1) → NoneFrom place
    none_more off none later other low_later there decides = elim (cases_eq place later) [
      | inl same ↦
          let moved = subst (λ (n : ℕ). slice_get accesses n ≡ Some access) same access_there in
          let is_it : other ≡ access = (cc) in
          off (subst (Decides array index) is_it decides)
      | inr apart ↦ none later other (omega (arith, low_later, apart)) there decides
    ]
