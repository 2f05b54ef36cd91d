-- No two members of a search have one key.
use Rattle.std.proofs.Common.{◌≡◌, ℕ, zero, suc, List, [], ◌∷◌, ◌++◌, length, map, ◌⊎◌, inl, inr, refl, sym, ◌∙◌, ap, subst}
use Rattle.std.specs.Prelude.{Some, slice_get}
use Rattle.std.proofs.lemmas.List.{map-append}
use Rattle.pc_table.specs.TableKeeps.{TableKeeps}
use Rattle.pc_window.specs.WindowRun.{Window}
use Rattle.pc_window.specs.Kept.{Left}
use Rattle.pc_window.specs.Steps.{LeftIs, Positive, IsProper}
use Rattle.pc_canon.specs.Canonical.{parameter_pairs}
use Rattle.pc_canon.specs.Key.{key_of}
use Rattle.pc_canon.proofs.Keys.{keys_tell}
use Rattle.pc_pattern.specs.Searches.{Rules, IsNoMember, Looks, looks_new, looks_known, looks_bare, looks_out, looks_end, looks_trap}
use Rattle.pc_pattern.specs.Searches.{Search, begins, takes, looks, AreDifferent}
use Rattle.pc_pattern.specs.models.Pools.{IsNowhere}
use Rattle.pc_pattern.proofs.Brought.{member_shifted}
use Rattle.pc_pattern.proofs.Keeping.{brings_on_keeps}
use Rattle.pc_pattern.proofs.Members.{members_proper}

-- ---- lists

-- a number at which an element stands behind others is one of these, or the last
last_or_before : {A : Type 0} (xs : List A) (x y : A) (i : ℕ) → slice_get (xs ++ (x ∷ [])) i ≡ Some y
    → (slice_get xs i ≡ Some y) ⊎ ((i ≡ length xs) × (x ≡ y))
last_or_before [] x y zero at = inr (refl, cc)
last_or_before [] x y (suc i) at = absurd (cc)
last_or_before (z ∷ xs) x y zero at = inl at
last_or_before (z ∷ xs) x y (suc i) at = elim (last_or_before xs x y i at) [
  | inl before ↦ inl before
  | inr last ↦ inr (ap (λ (n : ℕ). suc n) last.0, last.1)
]

-- one more that stands nowhere differs from the others
different_more : {A : Type 0} (xs : List A) (x : A) → AreDifferent xs → IsNowhere xs x → AreDifferent (xs ++ (x ∷ []))
different_more {A} xs x differ none i j y at at' = elim (last_or_before xs x y i at) [
  | inl p ↦ elim (last_or_before xs x y j at') [
    | inl q ↦ differ i j y p q
    | inr q ↦ absurd (none i (subst (λ (z : A). slice_get xs i ≡ Some z) (sym q.1) p))
  ]
  | inr p ↦ elim (last_or_before xs x y j at') [
    | inl q ↦ absurd (none j (subst (λ (z : A). slice_get xs j ≡ Some z) (sym p.1) q))
    | inr q ↦ p.0 ∙ sym q.0
  ]
]

-- the image of an element stands in its place
pub map_at : {A B : Type 0} (f : A → B) (xs : List A) (i : ℕ) (x : A) → slice_get xs i ≡ Some x → slice_get (map f xs) i ≡ Some (f x)
map_at f [] i x at = absurd (cc)
map_at f (y ∷ xs) zero x at = cc
map_at f (y ∷ xs) (suc i) x at = map_at f xs i x at

-- ---- keys

-- a key of a list of windows is that of one of them
pub key_at : (members : List Window) (i : ℕ) (key : List ℕ) → slice_get (map key_of members) i ≡ Some key
    → (member : Window) × (slice_get members i ≡ Some member) × (key_of member ≡ key)
key_at [] i key at = absurd (cc)
key_at (w ∷ members) zero key at = (w, refl, cc)
key_at (w ∷ members) (suc i) key at = key_at members i key at

-- the key of a window that is no member is no member's
key_nowhere : (members : List Window) (w : Window) → IsNoMember members w → IsNowhere (map key_of members) (key_of w)
key_nowhere members w none i at = let m = key_at members i (key_of w) at in none i m.0 m.1 ((keys_tell w m.0).0 (sym m.2))

module _ (rules : Rules) (keeps : TableKeeps rules.table) (room : Positive rules.limits) (region : ℕ) where
  more_differ : {members more : List Window} {left : Left} → Looks rules members left more → LeftIs IsProper left → AreDifferent (map key_of members)
      → AreDifferent (map key_of more)
  more_differ {members} (looks_new {rest} {brought} {member} brings items new renumbers) p differ =
      let proper = (brings_on_keeps rules keeps rest brought brings p).0 in
      let shifted = member_shifted rules rest brought member brings renumbers proper in
      let same : key_of brought ≡ key_of member = (keys_tell brought member).1 (parameter_pairs brought member, shifted) in
      subst AreDifferent (sym (map-append key_of members (member ∷ [])))
      (different_more (map key_of members) (key_of member) differ
      (subst (IsNowhere (map key_of members)) same (key_nowhere members brought new)))
  more_differ (looks_known brings items known) p differ = differ
  more_differ (looks_bare brings bare) p differ = differ
  more_differ looks_out p differ = differ
  more_differ looks_end p differ = differ
  more_differ looks_trap p differ = differ

  one_differs : (w : Window) → AreDifferent (map key_of (w ∷ []))
  one_differs w zero zero key at at' = refl
  one_differs w zero (suc j) key at at' = absurd (cc)
  one_differs w (suc i) j key at at' = absurd (cc)

  -- the keys of members differ
  pub members_differ : {steps number : ℕ} {members : List Window} {lefts : List Left} → Search rules region steps members number lefts
      → AreDifferent (map key_of members)
  members_differ (begins {first} opens settles) = one_differs first
  members_differ (takes search at row) = members_differ search
  members_differ (looks search adds) = more_differ adds (members_proper rules keeps room region search).1.0 (members_differ search)
