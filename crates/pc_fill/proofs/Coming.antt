-- The first of all that is ready comes in the first jump.
use Rattle.std.proofs.Common.{◌≡◌, ℕ, ◌<◌, ◌≤◌, ◌⊎◌, inl, inr, Option, Some, None, refl, sym, ◌∙◌, subst, arith}
use Rattle.pc_word.proofs.Truth.{decide_le}
use Rattle.pc_word.specs.declared.item.Item.{Item}
use Rattle.pc_window.specs.WindowRun.{Window}
use Rattle.pc_window.specs.Filled.{Priority, InOrder, priority_of, IsWindow, Jump, IsFirstJump}
use Rattle.pc_window.specs.Ready.{HasFresh, NotBehind}
use Rattle.pc_window.proofs.Readiness.{jumps_were_ready}
use Rattle.pc_fill.specs.declared.first.ReadyNode.{ReadyNode}
use Rattle.pc_fill.specs.Bringing.{IsTwin}
use Rattle.pc_fill.specs.FirstReady.{IsFirstReady}
use Rattle.pc_fill.specs.models.Landing.{TwinFor, ComesWith, FirstTwinOf, HasCome}
use Rattle.pc_fill.proofs.FirstJump.{kinds}
use Rattle.pc_fill.proofs.Found.{FoundJump, found_jump, twin_there, is_landed}
use Rattle.std.specs.Prelude.{Bool}

-- ---- the order

in_order : (a b : Priority) → NotBehind a.0 a.1 a.2 b.0 b.1 b.2 → (a.0 ≡ b.0 → a.1 ≡ b.1 → a.2 ≡ b.2 → (a.3 < b.3) ⊎ ((a.3 ≡ b.3) × (a.4 ≤ b.4))) → InOrder a b
in_order a b (inl less) last = inl less
in_order a b (inr (s, inl less)) last = inr (s, inl less)
in_order a b (inr (s, inr (t, le))) last = elim (decide_le b.2 a.2) [
  | inl le' ↦ let e : a.2 ≡ b.2 = omega arith in inr (s, inr (t, inr (e, last s t e)))
  | inr less ↦ inr (s, inr (t, inl less))
]

module _ (known : ℕ → Bool) (w : Window) (is : IsWindow known w) (fresh : HasFresh known w) (r : ReadyNode) (first : IsFirstReady known w r) (twin : Option ℕ)
    (first_twin : FirstTwinOf w.forms w.next r.tag r.origin r.item w.front r.place twin) where
  -- the first twin is not behind another
  twin_first : (item : Option Item) (found : Option ℕ) → FirstTwinOf w.forms w.next r.tag r.origin item w.front r.place found
      → (k : ℕ) → TwinFor w.forms w.next r.tag r.origin item w.front r.place k
      → (t : ℕ) × (found ≡ Some t) × (t ≤ k)
  twin_first (Some x) None h k t = absurd (h.is k t)
  twin_first (Some x) (Some found) h k t = (found, refl, h.is.1 k t)
  twin_first None found h k t = absurd t

  twin_is : (item : Option Item) (t : ℕ) → FirstTwinOf w.forms w.next r.tag r.origin item w.front r.place (Some t) → TwinFor w.forms w.next r.tag r.origin item w.front r.place t
  twin_is (Some x) t h = h.is.0
  twin_is None t h = absurd (cc)

  comes_with : (item : Option Item) (t : Option ℕ) → FirstTwinOf w.forms w.next r.tag r.origin item w.front r.place t → ComesWith w.forms w.next r.tag r.origin item w.front r.place t
  comes_with item None h = tt
  comes_with item (Some t) h = twin_is item t h

  pub found_first : FoundJump known w r twin
  found_first = found_jump known w is fresh r first.stands twin (comes_with r.item twin first_twin)

  -- it is the first
  is_first : (j : FoundJump known w r twin) → IsFirstJump known w j.v j.jump
  is_first j u other =
      let a = priority_of j.jump.enters in
      let b = priority_of other.enters in
      let was = jumps_were_ready known w u other in
      let h = first.first was.0 in
      let behind : NotBehind a.0 a.1 a.2 b.0 b.1 b.2 =
      turned r.tag a.0 r.origin a.1 r.place a.2 (sym j.tag_is) (sym j.origin_is) (sym j.place_is) was.0.tag b.0 was.0.origin b.1 was.0.place b.2 was.1.0 was.1.1 was.1.2 h in
      in_order a b behind (λ s t e. last a.3 a.4 b.3 b.4 j.twins (mine j) (kinds known w.forms u.forms other.new other.comes w.front u.front other.enters)
      (λ side. twin_first r.item twin first_twin b.4 (twin_there known w r first.stands u other (sym e ∙ j.place_is) side)))
    where
      turned : (t t' o o' p p' : ℕ) → t ≡ t' → o ≡ o' → p ≡ p' → (u u' v v' q q' : ℕ) → u ≡ u' → v ≡ v' → q ≡ q' → NotBehind t o p u v q → NotBehind t' o' p' u' v' q'
      turned t t' o o' p p' e f g u u' v v' q q' e' f' g' (inl less) = inl (omega arith)
      turned t t' o o' p p' e f g u u' v v' q q' e' f' g' (inr (s, inl less)) = inr (omega arith, inl (omega arith))
      turned t t' o o' p p' e f g u u' v v' q q' e' f' g' (inr (s, inr (x, le))) = inr (omega arith, inr (omega arith, omega arith))

      mine : (j : FoundJump known w r twin) → (((priority_of j.jump.enters).3 ≡ 1) × ((priority_of j.jump.enters).4 ≡ 0)) ⊎ ((priority_of j.jump.enters).3 ≡ 0)
      mine j = kinds known w.forms j.v.forms j.jump.new j.jump.comes w.front j.v.front j.jump.enters

      last : (a3 a4 b3 b4 : ℕ) → IsTwin twin a3 a4 → ((a3 ≡ 1) × (a4 ≡ 0)) ⊎ (a3 ≡ 0)
          → ((b3 ≡ 1) × (b4 ≡ 0)) ⊎ (b3 ≡ 0) → (b3 ≡ 0 → (t : ℕ) × (twin ≡ Some t) × (t ≤ b4))
          → (a3 < b3) ⊎ ((a3 ≡ b3) × (a4 ≤ b4))
      last a3 a4 b3 b4 h (inl p) (inl q) none = let x = p.0 in let y = q.0 in let z = p.1 in inr (omega arith, omega arith)
      last a3 a4 b3 b4 h (inr p) (inl q) none = let x = q.0 in inl (omega arith)
      last a3 a4 b3 b4 h m (inr q) none =
          let t = none q in
          let k : (a3 ≡ 0) × (a4 ≡ t.0) = subst (λ (o : Option ℕ). IsTwin o a3 a4) t.1 h in
          let x = k.0 in let y = k.1 in let le = t.2 in inr (omega arith, omega arith)

-- what has come in code has come in the first jump
pub record FirstJumpTo (known : ℕ → Bool) (w v : Window) : Type 0 where
  pub jump : Jump known w v
  pub first : IsFirstJump known w v jump

pub come_first : (known : ℕ → Bool) (w : Window) → IsWindow known w → HasFresh known w → (r : ReadyNode)
    → IsFirstReady known w r → (v : Window) → HasCome w r v → FirstJumpTo known w v
come_first known w is fresh r first v come =
    let j = found_first known w is fresh r first come.twin come.first in
    let there : FirstJumpTo known w j.v = record { jump = j.jump; first = is_first known w is fresh r first come.twin come.first j } in
    subst (FirstJumpTo known w) (is_landed known w r first.stands come.twin j ∙ sym come.is) there
