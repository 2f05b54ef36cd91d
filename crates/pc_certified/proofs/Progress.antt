-- When a machine and a free run agree, of which one step of the one is some units of the other, and what is pending comes nearer.
use Rattle.std.proofs.Common.{◌≡◌, ℕ, zero, suc, ◌+◌, ◌-◌, ◌<◌, ◌≤◌, List, [], ◌∷◌, ◌++◌, length, Option, Some}
use Rattle.std.proofs.Common.{None, refl, sym, ◌∙◌, ap, subst, ◌⊎◌, inl, inr, arith}
use Rattle.std.specs.Prelude.{ℤ}
use Rattle.pc_word.specs.declared.item.End.{End}
use Rattle.pc_word.specs.Run.{Seen, Run, Begins, Grows, Answers, Agree, Step, Goes, Stops, after_printing, seen_of, run_from}
use Rattle.pc_word.proofs.Runs.{Begins-refl, Begins-append, Begins-trans, Answers-after, Answers-equal}
use Rattle.pc_word.proofs.Truth.{decide_le}
use Rattle.pc_certified.proofs.Induction.{by_four}

-- a number comes nearer: it does not rise, and it falls or the rank does
abbrev pub Nearer : (old new rank rank' : ℕ) → Type 0
Nearer old new rank rank' = (new ≤ old) × ((new < old) ⊎ (rank' < rank))

-- ---- beginnings

-- what a beginning of two lists is of the second
pub record Taken (out l xs : List ℤ) : Type 0 where
  pub left : List ℤ
  pub begins : Begins left xs
  pub shorter : length left ≤ length l
  pub back : (ys : List ℤ) → Begins left ys → Begins l (out ++ ys)

nothing_begins : (ys : List ℤ) → Begins [] ys
nothing_begins ys = Begins-append [] ys

pub taken : (out l xs : List ℤ) → Begins l (out ++ xs) → Taken out l xs
taken [] l xs b = record { left = l; begins = b; shorter = omega arith; back = λ ys k. k }
taken (o ∷ out) [] xs b = record { left = []; begins = nothing_begins xs; shorter = omega arith; back = λ ys k. nothing_begins (o ∷ (out ++ ys)) }
taken (o ∷ out) (w ∷ l) xs b =
    let e : w ∷ (l ++ b.0) ≡ o ∷ (out ++ xs) = b.1 in
    let tails : l ++ b.0 ≡ out ++ xs = cc in
    let heads : w ≡ o = cc in
    let t = taken out l xs (b.0, tails) in
    let le = t.shorter in
    record {
      left = t.left;
      begins = t.begins;
      shorter = omega (arith, le);
      back = λ ys k. let r = t.back ys k in (r.0, ap (λ (z : ℤ). z ∷ (l ++ r.0)) heads ∙ ap (λ (rest : List ℤ). o ∷ rest) r.1);
    }

-- where the first list has an element, less is left
pub taken_less : (o : ℤ) (out : List ℤ) (w : ℤ) (l xs : List ℤ) → Begins (w ∷ l) ((o ∷ out) ++ xs) → (t : Taken (o ∷ out) (w ∷ l) xs) × (length t.left < length (w ∷ l))
taken_less o out w l xs b =
    let e : w ∷ (l ++ b.0) ≡ o ∷ (out ++ xs) = b.1 in
    let tails : l ++ b.0 ≡ out ++ xs = cc in
    let heads : w ≡ o = cc in
    let t = taken out l xs (b.0, tails) in
    let le = t.shorter in (
      record {
        left = t.left;
        begins = t.begins;
        shorter = omega (arith, le);
        back = λ ys k. let r = t.back ys k in (r.0, ap (λ (z : ℤ). z ∷ (l ++ r.0)) heads ∙ ap (λ (rest : List ℤ). o ∷ rest) r.1);
      },
      omega (arith, le),
    )

-- what is measured: the pending number, or the level where none is pending
abbrev pub or_level : Option ℕ → ℕ → ℕ
or_level (Some t) level = t
or_level None level = level

module _ {S P : Type 0} (f : S → Step S) (at : P → S) (free : P → Run) (pending : P → Option ℕ) (level rank : P → ℕ) where
  -- one step from a place: both end alike; or it leads to a place, some units on, and what is pending there is nearer
  pub data OneCycle (p : P) : Type 0 where
    ends : (out : List ℤ) (e : End) (units : ℕ) → f (at p) ≡ Stops out e → ((n : ℕ) → free p (units + n) ≡ record { printed = out; end = Some e }) → OneCycle p
    goes : (out : List ℤ) (q : P) (units : ℕ) → f (at p) ≡ Goes out (at q) → ((n : ℕ) → free p (units + n) ≡ after_printing out (free q n))
        → (out ≡ [] → (t : ℕ) → pending p ≡ Some t → (u : ℕ) × (pending q ≡ Some u) × Nearer t u (rank p) (rank q))
        → ((1 ≤ units) × ((free p 0).end ≡ None)) ⊎ Nearer (level p) (level q) (rank p) (rank q) → OneCycle p

  -- what is known of all places
  pub record Progresses : Type 0 where
    pub one_cycle : (p : P) → OneCycle p
    pub grows : (p : P) → Grows (free p)
    pub none : (p : P) → pending p ≡ None → (free p 0).printed ≡ []
    pub some : (p : P) (t : ℕ) → pending p ≡ Some t → (free p 0).printed ≡ [] → ⊥

  module _ (on : Progresses) where
    one_end : (p : P) (out : List ℤ) (e : End) → f (at p) ≡ Stops out e → run_from f 1 (at p) ≡ record { printed = out; end = Some e }
    one_end p out e is = ap (λ (st : Step S). seen_of st (run_from f 0)) is

    one_more : (p q : P) (out : List ℤ) (m : ℕ) → f (at p) ≡ Goes out (at q) → run_from f (suc m) (at p) ≡ after_printing out (run_from f m (at q))
    one_more p q out m is = ap (λ (st : Step S). seen_of st (run_from f m)) is

    -- ---- whatever the machine shows

    pub back : (m : ℕ) (p : P) → (n : ℕ) × Answers (run_from f m (at p)) (free p n) (run_from f m (at p)).end
    back zero p = (0, nothing_begins (free p 0).printed)
    back (suc m) p = by_cycle (on.one_cycle p) (λ q. back m q)
      where
        by_cycle : OneCycle p → ((q : P) → (n : ℕ) × Answers (run_from f m (at q)) (free q n) (run_from f m (at q)).end)
            → (n : ℕ) × Answers (run_from f (suc m) (at p)) (free p n) (run_from f (suc m) (at p)).end
        by_cycle (ends out e units is same) next =
            let here : run_from f (suc m) (at p) ≡ record { printed = out; end = Some e } = ap (λ (st : Step S). seen_of st (run_from f m)) is in
            (units + 0, Answers-equal (run_from f (suc m) (at p)) (free p (units + 0)) (here ∙ sym (same 0)))
        by_cycle (goes out q units is same printing levels) next =
            let n = next q in (
              units + n.0,
              subst (λ (x : Seen). Answers x (free p (units + n.0)) x.end) (sym (one_more p q out m is))
                  (subst (λ (y : Seen). Answers (after_printing out (run_from f m (at q))) y (run_from f m (at q)).end) (sym (same n.0))
                  (Answers-after out (run_from f m (at q)) (free q n.0) (run_from f m (at q)).end n.1)),
            )

    -- ---- what is printed

    record Wanted : Type 0 where
      place : P
      list : List ℤ
      units : ℕ
      shown : Begins list (free place units).printed

    abbrev Comes : P → List ℤ → Type 0
    Comes p l = (m : ℕ) × Begins l (run_from f m (at p)).printed

    abbrev measured : Wanted → ℕ
    measured x = or_level (pending x.place) (level x.place)

    shown_there : (p q : P) (out : List ℤ) (units n : ℕ) (l : List ℤ) → ((k : ℕ) → free p (units + k) ≡ after_printing out (free q k))
        → Begins l (free p n).printed → Begins l (out ++ (free q (n - units)).printed)
    shown_there p q out units n l same b =
        subst (λ (x : Seen). Begins l x.printed) (same (n - units))
        (Begins-trans l (free p n).printed (free p (units + (n - units))).printed b ((on.grows p).prints_more n (units + (n - units)) (omega arith)))

    -- nothing is pending where nothing was
    still_none : (p q : P) (same : (k : ℕ) → free p (0 + k) ≡ after_printing [] (free q k)) → pending p ≡ None → (o : Option ℕ) → pending q ≡ o → pending q ≡ None
    still_none p q same none None e = e
    still_none p q same none (Some t) e =
        absurd (on.some q t e (sym (ap (λ (x : Seen). x.printed) (same 0)) ∙ on.none p none))

    -- a list with an element is not shown where nothing is printed
    not_shown : (w : ℤ) (l : List ℤ) (x : Seen) → x.printed ≡ [] → Begins (w ∷ l) x.printed → ⊥
    not_shown w l x e b = let h : w ∷ (l ++ b.0) ≡ [] = b.1 ∙ e in absurd (cc)

    abbrev pending_at : P → ℕ
    pending_at p = or_level (pending p) (level p)

    module _ (p : P) (n : ℕ) where
      -- what is printed from places that are nearer
      record Before (l : List ℤ) : Type 0 where
        shorter : (q : P) (k : List ℤ) (m : ℕ) → Begins k (free q m).printed → length k < length l → Comes q k
        sooner : (q : P) (m : ℕ) → Begins l (free q m).printed → m < n → Comes q l
        nearer : (q : P) (m : ℕ) → Begins l (free q m).printed → m ≤ n → pending_at q < pending_at p → Comes q l
        lower : (q : P) (m : ℕ) → Begins l (free q m).printed → m ≤ n → pending_at q ≤ pending_at p → rank q < rank p → Comes q l

      -- the machine goes on to print
      goes_on : (q : P) (out l : List ℤ) → f (at p) ≡ Goes out (at q) → (t : List ℤ) → ((ys : List ℤ) → Begins t ys → Begins l (out ++ ys)) → Comes q t → Comes p l
      goes_on q out l is t back' c =
          (suc c.0, subst (λ (x : Seen). Begins l x.printed) (sym (one_more p q out c.0 is)) (back' (run_from f c.0 (at q)).printed c.1))

      -- by what comes nearer
      by_nearer : (l : List ℤ) → Before l → (q : P) (m : ℕ) → Begins l (free q m).printed → m ≤ n → (old new : ℕ) → pending_at p ≡ old → pending_at q ≡ new
          → Nearer old new (rank p) (rank q) → Comes q l
      by_nearer l before q m b le old new e e' h =
          let falls = h.0 in
          elim h.1 [
            | inl less ↦ before.nearer q m b le (omega (arith, e, e', less))
            | inr less ↦ before.lower q m b le (omega (arith, e, e', falls)) less
          ]

      pending_some : (q : P) (t : ℕ) → pending q ≡ Some t → pending_at q ≡ t
      pending_some q t e = ap (λ (o : Option ℕ). or_level o (level q)) e

      pending_none : (q : P) → pending q ≡ None → pending_at q ≡ level q
      pending_none q e = ap (λ (o : Option ℕ). or_level o (level q)) e

      -- nothing is printed by the step, and no fewer units are left
      stays : (w : ℤ) (l : List ℤ) → Begins (w ∷ l) (free p n).printed → Before (w ∷ l) → (q : P) (units : ℕ) → n - units ≡ n
          → ((k : ℕ) → free p (units + k) ≡ after_printing [] (free q k))
          → ((t : ℕ) → pending p ≡ Some t → (u : ℕ) × (pending q ≡ Some u) × Nearer t u (rank p) (rank q))
          → ((1 ≤ units) × ((free p 0).end ≡ None)) ⊎ Nearer (level p) (level q) (rank p) (rank q)
          → Begins (w ∷ l) (free q (n - units)).printed → (o : Option ℕ) → pending p ≡ o → Comes q (w ∷ l)
      stays w l b before q units left same printing levels b' (Some t) e =
          let h = printing t e in
          by_nearer (w ∷ l) before q (n - units) b' (omega arith) t h.0 (pending_some p t e) (pending_some q h.0 h.1) h.2
      stays w l b before q units left same printing levels b' None e =
          by_units n refl
        where
          by_units : (k : ℕ) → n ≡ k → Comes q (w ∷ l)
          by_units zero z = absurd (not_shown w l (free p n) (subst (λ (k : ℕ). (free p k).printed ≡ []) (sym z) (on.none p e)) b)
          by_units (suc k) z =
              let none_left : units ≡ 0 = omega (arith, left, z) in
              elim levels [
                | inl forward ↦ (let one : 1 ≤ units = forward.0 in absurd (omega (arith, one, none_left)))
                | inr near ↦
                    (let same' : (j : ℕ) → free p (0 + j) ≡ after_printing [] (free q j) = subst (λ (u : ℕ). (j : ℕ) → free p (u + j) ≡ after_printing [] (free q j)) none_left same in
                    let none' = still_none p q same' e (pending q) refl in
                    by_nearer (w ∷ l) before q (n - units) b' (omega arith) (level p) (level q) (pending_none p e) (pending_none q none') near)
              ]

      prints_by_cycle : (w : ℤ) (l : List ℤ) → Begins (w ∷ l) (free p n).printed → Before (w ∷ l) → OneCycle p → Comes p (w ∷ l)
      prints_by_cycle w l b before (ends out e units is same) = (
        1,
        subst (λ (x : Seen). Begins (w ∷ l) x.printed) (same n ∙ sym (one_end p out e is))
            (Begins-trans (w ∷ l) (free p n).printed (free p (units + n)).printed b ((on.grows p).prints_more n (units + n) (omega arith))),
      )
      prints_by_cycle w l b before (goes out q units is same printing levels) =
          by_out out is same printing (shown_there p q out units n (w ∷ l) same b)
        where
          by_out : (o : List ℤ) → f (at p) ≡ Goes o (at q) → ((k : ℕ) → free p (units + k) ≡ after_printing o (free q k))
              → (o ≡ [] → (t : ℕ) → pending p ≡ Some t → (u : ℕ) × (pending q ≡ Some u) × Nearer t u (rank p) (rank q))
              → Begins (w ∷ l) (o ++ (free q (n - units)).printed) → Comes p (w ∷ l)
          by_out [] is' same' printing' b' =
              goes_on q [] (w ∷ l) is' (w ∷ l) (λ ys k. k)
              (elim (decide_le n (n - units)) [
                | inl le ↦ stays w l b before q units (omega (arith, le)) same' (printing' refl) levels b' (pending p) refl
                | inr less ↦ before.sooner q (n - units) b' less
              ])
          by_out (z ∷ o) is' same' printing' b' =
              let t = taken_less z o w l (free q (n - units)).printed b' in
              goes_on q (z ∷ o) (w ∷ l) is' t.0.left t.0.back (before.shorter q t.0.left (n - units) t.0.begins t.1)

      prints_by : (l : List ℤ) → Begins l (free p n).printed → Before l → Comes p l
      prints_by [] b before = (0, nothing_begins (run_from f 0 (at p)).printed)
      prints_by (w ∷ l) b before = prints_by_cycle w l b before (on.one_cycle p)

    prints : (x : Wanted) → Comes x.place x.list
    prints = by_four (λ (x : Wanted). Comes x.place x.list) (λ (x : Wanted). length x.list) (λ (x : Wanted). x.units) measured (λ (x : Wanted). rank x.place)
        (λ x first second third fourth. prints_by x.place x.units x.list x.shown (record {
          shorter = λ q k m b less. first (record { place = q; list = k; units = m; shown = b }) less;
          sooner = λ q m b less. second (record { place = q; list = x.list; units = m; shown = b }) (omega arith) less;
          nearer = λ q m b le less. third (record { place = q; list = x.list; units = m; shown = b }) (omega arith) le less;
          lower = λ q m b le le' less. fourth (record { place = q; list = x.list; units = m; shown = b }) (omega arith) le le' less;
        }))

    -- ---- how it ends

    record Over_at : Type 0 where
      place : P
      units : ℕ
      end : End
      ended : (free place units).end ≡ Some end

    abbrev Ends_so : Over_at → Type 0
    Ends_so x = (m : ℕ) × (run_from f m (at x.place) ≡ free x.place x.units)

    record Before_end (p : P) (n : ℕ) : Type 0 where
      sooner : (q : P) (m : ℕ) (e : End) → (free q m).end ≡ Some e → m < n → (k : ℕ) × (run_from f k (at q) ≡ free q m)
      nearer : (q : P) (m : ℕ) (e : End) → (free q m).end ≡ Some e → m ≤ n → level q < level p → (k : ℕ) × (run_from f k (at q) ≡ free q m)
      lower : (q : P) (m : ℕ) (e : End) → (free q m).end ≡ Some e → m ≤ n → level q ≤ level p → rank q < rank p → (k : ℕ) × (run_from f k (at q) ≡ free q m)

    ends_by_cycle : (p : P) (n : ℕ) (e : End) → (free p n).end ≡ Some e → Before_end p n → OneCycle p → (m : ℕ) × (run_from f m (at p) ≡ free p n)
    ends_by_cycle p n e ended before (ends out d units is same) = (1, one_end p out d is ∙ sym (same n) ∙ (on.grows p).stays_ended n (units + n) e (omega arith) ended)
    ends_by_cycle p n e ended before (goes out q units is same printing levels) =
        let later : free p (units + (n - units)) ≡ free p n = (on.grows p).stays_ended n (units + (n - units)) e (omega arith) ended in
        let whole : after_printing out (free q (n - units)) ≡ free p n = sym (same (n - units)) ∙ later in
        let ended' : (free q (n - units)).end ≡ Some e = ap (λ (x : Seen). x.end) whole ∙ ended in
        let c = come ended' levels in
        (suc c.0, one_more p q out c.0 is ∙ ap (λ (x : Seen). after_printing out x) c.1 ∙ whole)
      where
        come : (free q (n - units)).end ≡ Some e → ((1 ≤ units) × ((free p 0).end ≡ None)) ⊎ Nearer (level p) (level q) (rank p) (rank q)
            → (k : ℕ) × (run_from f k (at q) ≡ free q (n - units))
        come ended' (inr near) =
            let le = near.0 in
            elim near.1 [
              | inl less ↦ before.nearer q (n - units) e ended' (omega arith) less
              | inr less ↦ before.lower q (n - units) e ended' (omega arith) le less
            ]
        come ended' (inl forward) = by_units n refl
          where
            by_units : (k : ℕ) → n ≡ k → (j : ℕ) × (run_from f j (at q) ≡ free q (n - units))
            by_units zero z =
                let there : (free p 0).end ≡ Some e = subst (λ (k : ℕ). (free p k).end ≡ Some e) z ended in
                let going = forward.1 in absurd (cc)
            by_units (suc k) z = let one : 1 ≤ units = forward.0 in before.sooner q (n - units) e ended' (omega (arith, z, one))

    all_end : (x : Over_at) → Ends_so x
    all_end = by_four Ends_so (λ (x : Over_at). x.units) (λ (x : Over_at). level x.place) (λ (x : Over_at). rank x.place) (λ (x : Over_at). 0)
        (λ x first second third fourth. ends_by_cycle x.place x.units x.end x.ended (record {
          sooner = λ q m e h less. first (record { place = q; units = m; end = e; ended = h }) less;
          nearer = λ q m e h le less. second (record { place = q; units = m; end = e; ended = h }) le less;
          lower = λ q m e h le le' less. third (record { place = q; units = m; end = e; ended = h }) le le' less;
        }) (on.one_cycle x.place))

    -- ---- both ways

    forth : (p : P) (n : ℕ) (o : Option End) → (free p n).end ≡ o → (m : ℕ) × Answers (free p n) (run_from f m (at p)) o
    forth p n (Some e) h =
        let c = all_end (record { place = p; units = n; end = e; ended = h }) in
        (c.0, (ap (λ (x : Seen). x.printed) c.1, ap (λ (x : Seen). x.end) c.1 ∙ h))
    forth p n None h = prints (record { place = p; list = (free p n).printed; units = n; shown = Begins-refl (free p n).printed })

    pub agrees : (p : P) → Agree (free p) (λ n. run_from f n (at p))
    agrees p = record { forth = λ n. forth p n (free p n).end refl; back = λ m. back m p }
