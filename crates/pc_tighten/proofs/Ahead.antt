-- When one machine is ahead of another in lock step: what it has printed more, the other prints next.
use Rattle.std.proofs.Common.{◌≡◌, ℕ, zero, suc, List, [], ◌++◌, Option, Some, refl, sym, ◌∙◌, ap, subst, append_assoc, append-nil}
use Rattle.std.specs.Prelude.{ℤ}
use Rattle.pc_word.specs.declared.item.End.{End}
use Rattle.pc_word.specs.Run.{Seen, Begins, Answers, Agree, Step, Goes, Stops, after_printing, seen_of, run_from, NeverFaults}
use Rattle.pc_word.proofs.Runs.{Answers-after}

-- no run from here ends in a fault
abbrev pub NeverFaultsFrom : {S : Type 0} → (S → Step S) → S → Type 0
NeverFaultsFrom step s = NeverFaults (λ n. run_from step n s)

-- nor from the next state
pub next_never_faults : {S : Type 0} (step : S → Step S) (s next : S) (out : List ℤ) → step s ≡ Goes out next → NeverFaultsFrom step s → NeverFaultsFrom step next
next_never_faults step s next out is never n fault e = never (suc n) fault (ap (λ st. (seen_of st (run_from step n)).end) is ∙ e)

-- one step of each: the second has printed p more before, and q more after
abbrev pub StepsAhead : {S T : Type 0} → (List ℤ → S → T → Type 0) → List ℤ → Step S → Step T → Type 0
StepsAhead Related p (Goes out s) (Goes more t) = (q : List ℤ) × (p ++ more ≡ out ++ q) × Begins p out × Related q s t
StepsAhead Related p (Stops out e) (Stops more d) = (p ++ more ≡ out) × (d ≡ e)
StepsAhead Related p (Goes out s) (Stops more d) = ⊥
StepsAhead Related p (Stops out e) (Goes more t) = ⊥

seen_equal : (x y : Seen) → x.printed ≡ y.printed → x.end ≡ y.end → x ≡ y
seen_equal x y p q = ap (λ (l : List ℤ). let seen : Seen = record { printed = l; end = x.end } in
    seen) p ∙ ap (λ (e : Option End). let seen : Seen = record { printed = y.printed; end = e } in seen) q

-- printed in two parts in two ways
regroup : (p more out q : List ℤ) (x : Seen) → p ++ more ≡ out ++ q → after_printing out (after_printing q x) ≡ after_printing p (after_printing more x)
regroup p more out q x e =
    seen_equal (after_printing out (after_printing q x)) (after_printing p (after_printing more x))
    (sym (append_assoc out q x.printed) ∙ ap (λ (l : List ℤ). l ++ x.printed) (sym e) ∙ append_assoc p more x.printed) refl

module _ {S T : Type 0} (f : S → Step S) (g : T → Step T) (Related : List ℤ → S → T → Type 0)
    (sim : (p : List ℤ) (s : S) (t : T) → Related p s t → StepsAhead Related p (f s) (g t)) where
  -- pace: after as many steps
  pub keeps_pace : (n : ℕ) (p : List ℤ) (s : S) (t : T) → Related p s t → Answers (run_from f n s) (after_printing p (run_from g n t)) (run_from f n s).end
  keeps_pace zero p s t r = (p ++ [], refl)
  keeps_pace (suc n) p s t r = step_pace (λ q x y h. keeps_pace n q x y h) (f s) (g t) (sim p s t r)
    where
      step_pace : ((q : List ℤ) (x : S) (y : T) → Related q x y → Answers (run_from f n x) (after_printing q (run_from g n y)) (run_from f n x).end) → (a : Step S) (b : Step T)
          → StepsAhead Related p a b → Answers (seen_of a (run_from f n)) (after_printing p (seen_of b (run_from g n))) (seen_of a (run_from f n)).end
      step_pace next (Goes out s') (Goes more t') h =
          subst (λ (y : Seen). Answers (after_printing out (run_from f n s')) y (run_from f n s').end) (regroup p more out h.0 (run_from g n t') h.1)
          (Answers-after out (run_from f n s') (after_printing h.0 (run_from g n t')) (run_from f n s').end (next h.0 s' t' h.3))
      step_pace next (Stops out e) (Stops more d) h = (h.0, ap (λ (x : End). Some x) h.1)
      step_pace next (Goes out s') (Stops more d) h = absurd h
      step_pace next (Stops out e) (Goes more t') h = absurd h

  -- and the other comes to print and end alike, one step later
  pub is_followed : (n : ℕ) (p : List ℤ) (s : S) (t : T) → Related p s t → Answers (after_printing p (run_from g n t)) (run_from f (suc n) s) (run_from g n t).end
  is_followed zero p s t r = step_first (f s) (g t) (sim p s t r)
    where
      step_first : (a : Step S) (b : Step T) → StepsAhead Related p a b → Begins (p ++ []) (seen_of a (run_from f 0)).printed
      step_first (Goes out s') (Goes more t') h = (h.2.0, ap (λ (l : List ℤ). l ++ h.2.0) (append-nil p) ∙ h.2.1 ∙ sym (append-nil out))
      step_first (Stops out e) (Stops more d) h = (more, ap (λ (l : List ℤ). l ++ more) (append-nil p) ∙ h.0)
      step_first (Goes out s') (Stops more d) h = absurd h
      step_first (Stops out e) (Goes more t') h = absurd h
  is_followed (suc n) p s t r = step_back (λ q x y h. is_followed n q x y h) (f s) (g t) (sim p s t r)
    where
      step_back : ((q : List ℤ) (x : S) (y : T) → Related q x y → Answers (after_printing q (run_from g n y)) (run_from f (suc n) x) (run_from g n y).end) → (a : Step S) (b : Step T)
          → StepsAhead Related p a b → Answers (after_printing p (seen_of b (run_from g n))) (seen_of a (run_from f (suc n))) (seen_of b (run_from g n)).end
      step_back next (Goes out s') (Goes more t') h =
          subst (λ (y : Seen). Answers y (after_printing out (run_from f (suc n) s')) (run_from g n t').end) (regroup p more out h.0 (run_from g n t') h.1)
          (Answers-after out (after_printing h.0 (run_from g n t')) (run_from f (suc n) s') (run_from g n t').end (next h.0 s' t' h.3))
      step_back next (Stops out e) (Stops more d) h = (sym h.0, ap (λ (x : End). Some x) (sym h.1))
      step_back next (Goes out s') (Stops more d) h = absurd h
      step_back next (Stops out e) (Goes more t') h = absurd h

  -- so the runs agree
  pub Agree-ahead : (s : S) (t : T) → Related [] s t → Agree (λ n. run_from f n s) (λ n. run_from g n t)
  Agree-ahead s t r = record {
    forth = λ n. (n, keeps_pace n [] s t r);
    back = λ n. (suc n, is_followed n [] s t r);
  }
