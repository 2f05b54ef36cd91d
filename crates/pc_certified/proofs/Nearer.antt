-- What is pending comes nearer where a claim leads to another.
use Rattle.std.proofs.Common.{◌≡◌, ℕ, suc, ◌-◌, ◌≤◌, ◌<◌, List, [], ◌∷◌, map, Option, Some, None, refl, sym, ◌∙◌, ap, subst, ◌⊎◌, inl, inr, arith}
use Rattle.std.specs.Prelude.{ℤ, pos, negsuc}
use Rattle.pc_word.specs.State.{State}
use Rattle.pc_window.specs.Tree.{Tree}
use Rattle.pc_window.specs.Walk.{Walked, Leaves, Finishes, IsWhole, walk}
use Rattle.pc_window.specs.Unwinding.{least_tag, or_zero, front_tag}
use Rattle.pc_certified.specs.Claims.{HasTestOrStub}
use Rattle.pc_certified.proofs.Tags.{least_from}
use Rattle.pc_certified.proofs.Bases.{TagsFrom, lowered_word, lowered, base_changed, tags_from_front, AllPositive, tags_positive, level_positive, bare_pending}
use Rattle.pc_certified.proofs.Progress.{Nearer}
use Rattle.pc_certified.proofs.Marked.{marked}
use Rattle.pc_certified.proofs.MarkedWalks.{printed_in, level_in}

-- the first of the numbers that are printed
abbrev pub first_shown : List ℤ → Option ℕ
first_shown [] = None
first_shown (pos k ∷ zs) = Some k
first_shown (negsuc k ∷ zs) = None

pub shown_first : (zs : List ℤ) (t : ℕ) → first_shown zs ≡ Some t → (rest : List ℤ) × (zs ≡ pos t ∷ rest)
shown_first [] t e = absurd (cc)
shown_first (pos k ∷ zs) t e = (zs, (let same : k ≡ t = cc in ap (λ (n : ℕ). pos n ∷ zs) same))
shown_first (negsuc k ∷ zs) t e = absurd (cc)

pub none_shown : (zs : List ℤ) → AllPositive zs → first_shown zs ≡ None → zs ≡ []
unfolding AllPositive
none_shown [] h e = refl
none_shown (pos k ∷ zs) h e = absurd (cc)
none_shown (negsuc k ∷ zs) h e = absurd (let is = h.0.1 in cc)

head_positive : (t : ℕ) (zs : List ℤ) → AllPositive (pos t ∷ zs) → 1 ≤ t
unfolding AllPositive
head_positive t zs h = let k = h.0.0 in let is : t ≡ suc k = (let e = h.0.1 in cc) in omega (arith, is)

printed_lowered : (d : ℕ) (w : Walked) → printed_in (lowered d w) ≡ map (lowered_word d) (printed_in w)
printed_lowered d (Leaves printed region s) = refl
printed_lowered d (Finishes printed end) = refl

level_lowered : (d : ℕ) (w : Walked) → level_in (lowered d w) ≡ level_in w - d
level_lowered d (Leaves printed region s) = refl
level_lowered d (Finishes printed end) = omega arith

module _ (lengths : List ℕ) (from to : Tree) (s : State) (rank rank' : ℕ) where
  -- what is pending in the tree that is come to, from the base of the tree before and from its own
  abbrev pub seen_before : Walked
  seen_before = walk lengths (marked (front_tag from) 0 to) s

  abbrev pub seen_there : Walked
  seen_there = walk lengths (marked (front_tag to) 0 to) s

  -- the least tags rise, and then the marks from the other base are lowered by as much
  rises : front_tag from ≤ front_tag to → seen_there ≡ lowered (front_tag to - front_tag from) seen_before
  rises le =
      let d = front_tag to - front_tag from in
      let e : 0 - d ≡ 0 = omega arith in
      ap (λ (n : ℕ). walk lengths (marked (front_tag to) n to) s) (sym e) ∙ base_changed lengths (front_tag from) (front_tag to) 0 le to s

  abbrev pub IsProgress : Type 0
  IsProgress = (rank' < rank) ⊎ ((front_tag from < front_tag to) × HasTestOrStub to)

  counted_nearer : (t d : ℕ) → front_tag to - front_tag from ≡ d → 1 ≤ t - d ⊎ (rank' < rank) → (front_tag from < front_tag to) ⊎ (rank' < rank) → Nearer t (t - d) rank rank'
  counted_nearer t d is (inr r) gain = (omega arith, inr r)
  counted_nearer t d is one (inr r) = (omega arith, inr r)
  counted_nearer t d is (inl one) (inl gain) = (omega arith, inl (omega (arith, one, gain, is)))

  module _ (progress : IsProgress) where
    gains : (front_tag from < front_tag to) ⊎ (rank' < rank)
    gains = elim progress [ inl r ↦ inr r | inr g ↦ inl g.0 ]

    -- a tree with tags
    some_pending : front_tag from ≤ front_tag to → (t : ℕ) (rest : List ℤ) → printed_in seen_before ≡ pos t ∷ rest
        → (u : ℕ) × (first_shown (printed_in seen_there) ≡ Some u) × Nearer t u rank rank'
    some_pending le t rest shown =
        let d = front_tag to - front_tag from in
        let there : printed_in seen_there ≡ pos (t - d) ∷ map (lowered_word d) rest =
        ap printed_in (rises le) ∙ printed_lowered d seen_before ∙ ap (λ (l : List ℤ). map (lowered_word d) l) shown in
        let positive = subst AllPositive there (tags_positive lengths (front_tag to) 0 to s (tags_from_front to)) in
        (t - d, ap first_shown there, counted_nearer t d refl (inl (head_positive (t - d) (map (lowered_word d) rest) positive)) gains)

    some_level : front_tag from ≤ front_tag to → IsWhole (walk lengths to s) → (level : ℕ) → level_in seen_before ≤ level → Nearer level (level_in seen_there) rank rank'
    some_level le ok level h =
        let d = front_tag to - front_tag from in
        let there : level_in seen_there ≡ level_in seen_before - d = ap level_in (rises le) ∙ level_lowered d seen_before in
        elim progress [
          | inl r ↦ (omega (arith, there, h), inr r)
          | inr g ↦
              (let gain = g.0 in
              let one = level_positive lengths (front_tag to) 0 to s (tags_from_front to) (inr g.1) ok in
              (omega (arith, there, h), inl (omega (arith, there, h, gain, one))))
        ]

    -- what is pending is nearer
    pub pending_nearer : TagsFrom (front_tag from) to → (t : ℕ) (rest : List ℤ) → printed_in seen_before ≡ pos t ∷ rest
        → (u : ℕ) × (first_shown (printed_in seen_there) ≡ Some u) × Nearer t u rank rank'
    pending_nearer low t rest shown = by_least (least_tag to) refl
      where
        by_least : (o : Option ℕ) → least_tag to ≡ o → (u : ℕ) × (first_shown (printed_in seen_there) ≡ Some u) × Nearer t u rank rank'
        by_least None e = absurd (let none = (bare_pending lengths (front_tag from) to s e).0 in let bad : pos t ∷ rest ≡ [] = sym shown ∙ none in cc)
        by_least (Some m) e =
            let is : front_tag to ≡ m = ap or_zero e in
            let le = least_from (front_tag from) to m low e in
            some_pending (omega (arith, is, le)) t rest shown

    pub level_nearer : TagsFrom (front_tag from) to → IsWhole (walk lengths to s) → (level : ℕ) → level_in seen_before ≤ level → Nearer level (level_in seen_there) rank rank'
    level_nearer low ok level h = by_least (least_tag to) refl
      where
        by_least : (o : Option ℕ) → least_tag to ≡ o → Nearer level (level_in seen_there) rank rank'
        by_least None e =
            let is : front_tag to ≡ 0 = ap or_zero e in
            let none = (bare_pending lengths (front_tag to) to s e).1 in
            elim progress [
              | inl r ↦ (omega (arith, none), inr r)
              | inr g ↦ (let gain = g.0 in absurd (omega (arith, is, gain)))
            ]
        by_least (Some m) e =
            let is : front_tag to ≡ m = ap or_zero e in
            let le = least_from (front_tag from) to m low e in
            some_level (omega (arith, is, le)) ok level h
