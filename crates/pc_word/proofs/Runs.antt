-- Laws of runs: a list that is begun, a run that grows, two runs that agree, and when two machines' runs agree.
use Rattle.std.proofs.Common.{zero-add, add-zero, ◌≡◌, ℕ, zero, suc, ◌+◌, ◌-◌, ◌<◌, ◌≤◌, List, [], ◌++◌, Option, Some, None, refl, sym, ◌∙◌, ap, subst, inl, inr, append_assoc, append-nil, arith}
use Rattle.std.specs.Prelude.{ℤ}
use Rattle.pc_word.specs.declared.item.End.{End}
use Rattle.pc_word.specs.Run.{Seen, Run, Begins, Grows, Answers, Follows, Agree, Step, Goes, Stops, after_printing, seen_of, run_from, Reached, At}
use Rattle.pc_word.specs.Run.{Over, reached_after, reached_of, reach, seen_from, ended_run, AgreeOnInputs}
use Rattle.pc_word.proofs.Truth.{decide_le}
use Rattle.pc_word.specs.models.Simulation.{Meet, MeetsAgain, Simulates, SimulatesInTime}

-- what is seen is equal where its parts are
record_equal : (x y : Seen) → x.printed ≡ y.printed → x.end ≡ y.end → x ≡ y
record_equal x y p q =
    ap (λ (l : List ℤ). let seen : Seen = record { printed = l; end = x.end } in seen) p
    ∙ ap (λ (e : Option End). let seen : Seen = record { printed = y.printed; end = e } in seen) q

-- a list begins itself
pub Begins-refl : (xs : List ℤ) → Begins xs xs
Begins-refl xs = ([], append-nil xs)

-- what is appended to a list leaves it as its beginning
pub Begins-append : (xs ys : List ℤ) → Begins xs (xs ++ ys)
Begins-append xs ys = (ys, refl)

-- a beginning of a beginning is a beginning
pub Begins-trans : (xs ys zs : List ℤ) → Begins xs ys → Begins ys zs → Begins xs zs
Begins-trans xs ys zs p q =
    (p.0 ++ q.0, sym (append_assoc xs p.0 q.0) ∙ ap (λ (l : List ℤ). l ++ q.0) p.1 ∙ q.1)

-- the same list before both leaves one the beginning of the other
pub Begins-after : (out xs ys : List ℤ) → Begins xs ys → Begins (out ++ xs) (out ++ ys)
Begins-after out xs ys p = (p.0, append_assoc out xs p.0 ∙ ap (λ (l : List ℤ). out ++ l) p.1)

-- what was seen is answered by itself
pub Answers-refl : (x : Seen) → Answers x x x.end
Answers-refl x = elim x.end as (λ e. x.end ≡ e → Answers x x e) [
  | Some e ↦ λ p. (refl, p)
  | None ↦ λ p. Begins-refl x.printed
] refl

-- an end that was seen is answered by an equal one
pub Answers-equal : (x y : Seen) → x ≡ y → Answers x y x.end
Answers-equal x y p = subst (λ (z : Seen). Answers x z x.end) p (Answers-refl x)

-- numbers printed before both change no answer
pub Answers-after : (out : List ℤ) (x y : Seen) (e : Option End) → Answers x y e → Answers (after_printing out x) (after_printing out y) e
Answers-after out x y (Some e) p = (ap (λ (l : List ℤ). out ++ l) p.0, p.1)
Answers-after out x y None p = Begins-after out x.printed y.printed p

-- what answers an answer answers
pub Answers-trans : (x y z : Seen) (e d : Option End) → y.end ≡ d → Answers x y e → Answers y z d → Answers x z e
Answers-trans x y z (Some e) (Some d) same p q = (q.0 ∙ p.0, q.1 ∙ sym same ∙ p.1)
Answers-trans x y z (Some e) None same p q = absurd (cc)
Answers-trans x y z None (Some d) same p q = subst (λ (l : List ℤ). Begins x.printed l) (sym q.0) p
Answers-trans x y z None None same p q = Begins-trans x.printed y.printed z.printed p q

-- a run follows itself
pub Follows-refl : (X : Run) → Follows X X
Follows-refl X n = (n, Answers-refl (X n))

-- what follows a run that follows a run follows it
pub Follows-trans : (X Y Z : Run) → Follows X Y → Follows Y Z → Follows X Z
Follows-trans X Y Z p q n =
    let m = (p n).0 in
    let k = (q m).0 in
    (k, Answers-trans (X n) (Y m) (Z k) (X n).end (Y m).end refl (p n).1 (q m).1)

-- a run agrees with itself
pub Agree-refl : (X : Run) → Agree X X
Agree-refl X = record { forth = Follows-refl X; back = Follows-refl X }

-- agreement goes both ways
pub Agree-sym : (X Y : Run) → Agree X Y → Agree Y X
Agree-sym X Y p = record { forth = p.back; back = p.forth }

-- runs that agree with one run agree
pub Agree-trans : (X Y Z : Run) → Agree X Y → Agree Y Z → Agree X Z
Agree-trans X Y Z p q = record { forth = Follows-trans X Y Z p.forth q.forth; back = Follows-trans Z Y X q.back p.back }

-- on every input of words, a run agrees with itself
pub AgreeOnInputs-refl : (X : List ℤ → Run) → AgreeOnInputs X X
AgreeOnInputs-refl X input words = Agree-refl (X input)

-- agreement on inputs goes both ways
pub AgreeOnInputs-sym : (X Y : List ℤ → Run) → AgreeOnInputs X Y → AgreeOnInputs Y X
AgreeOnInputs-sym X Y p input words = Agree-sym (X input) (Y input) (p input words)

-- what agrees on inputs with one thing agrees on inputs
pub AgreeOnInputs-trans : (X Y Z : List ℤ → Run) → AgreeOnInputs X Y → AgreeOnInputs Y Z → AgreeOnInputs X Z
AgreeOnInputs-trans X Y Z p q input words = Agree-trans (X input) (Y input) (Z input) (p input words) (q input words)

-- runs that show the same at each number of steps agree
pub Agree-equal : (X Y : Run) → ((n : ℕ) → X n ≡ Y n) → Agree X Y
Agree-equal X Y p = record {
  forth = λ n. (n, Answers-equal (X n) (Y n) (p n));
  back = λ n. (n, Answers-equal (Y n) (X n) (sym (p n)));
}

-- numbers printed in two parts before a run are printed in one
after_printing-append : (p q : List ℤ) (x : Seen) → after_printing p (after_printing q x) ≡ after_printing (p ++ q) x
after_printing-append p q x = ap (λ (l : List ℤ). let seen : Seen = record { printed = l; end = x.end } in seen) (sym (append_assoc p q x.printed))

seen_from-after : {S : Type 0} (out : List ℤ) (r : Reached S) (rest : S → Seen) → after_printing out (seen_from r rest) ≡ seen_from (reached_after out r) rest
seen_from-after out (At p s) rest = after_printing-append out p (rest s)
seen_from-after out (Over p e) rest = refl

seen_from-of : {S : Type 0} (st : Step S) (next : S → Reached S) (rest : S → Seen) → seen_of st (λ s. seen_from (next s) rest) ≡ seen_from (reached_of st next) rest
seen_from-of (Goes out s) next rest = seen_from-after out (next s) rest
seen_from-of (Stops out e) next rest = refl

seen_of-equal : {S : Type 0} (st : Step S) (f g : S → Seen) → ((s : S) → f s ≡ g s) → seen_of st f ≡ seen_of st g
seen_of-equal (Goes out s) f g p = ap (λ (x : Seen). after_printing out x) (p s)
seen_of-equal (Stops out e) f g p = refl

-- n steps and then m more: what is seen from where n steps lead to
pub run_from-add : {S : Type 0} (step : S → Step S) (n m : ℕ) (s : S) → run_from step (n + m) s ≡ seen_from (reach step n s) (run_from step m)
run_from-add step zero m s = rw zero-add refl
run_from-add step (suc n) m s =
    let e : suc n + m ≡ suc (n + m) = omega arith in
    ap (λ (k : ℕ). run_from step k s) e
    ∙ seen_of-equal (step s) (run_from step (n + m)) (λ x. seen_from (reach step n x) (run_from step m)) (λ x. run_from-add step n m x)
    ∙ seen_from-of (step s) (reach step n) (run_from step m)

-- n steps alone
pub run_from-reach : {S : Type 0} (step : S → Step S) (n : ℕ) (s : S) → run_from step n s ≡ seen_from (reach step n s) (run_from step 0)
run_from-reach step n s = ap (λ (k : ℕ). run_from step k s) (sym (add-zero n)) ∙ run_from-add step n 0 s

-- a place that was reached, with more steps after it, answers what was seen there
later_answers : {S : Type 0} (r : Reached S) (first more : S → Seen) → ((s : S) → first s ≡ record { printed = []; end = None })
    → Answers (seen_from r first) (seen_from r more) (seen_from r first).end
later_answers (At p s) first more none =
    subst (λ (x : Seen). Answers (after_printing p x) (after_printing p (more s)) x.end) (sym (none s)) (Begins-after p [] (more s).printed (Begins-append [] (more s).printed))
later_answers (Over p e) first more none = (refl, refl)

-- more steps answer fewer
pub run_from-answers : {S : Type 0} (step : S → Step S) (n m : ℕ) (s : S) → n ≤ m → Answers (run_from step n s) (run_from step m s) (run_from step n s).end
run_from-answers step n m s le =
    let e : n + (m - n) ≡ m = omega arith in
    let first = run_from-reach step n s in
    let more = sym (run_from-add step n (m - n) s) ∙ ap (λ (k : ℕ). run_from step k s) e in
    subst (λ (x : Seen). Answers x (run_from step m s) x.end) (sym first)
    (subst (λ (y : Seen). Answers (seen_from (reach step n s) (run_from step 0)) y (seen_from (reach step n s) (run_from step 0)).end) more
    (later_answers (reach step n s) (run_from step 0) (run_from step (m - n)) (λ x. refl)))

-- whatever answers has begun alike
Answers-begins : (x y : Seen) (e : Option End) → Answers x y e → Begins x.printed y.printed
Answers-begins x y (Some e) p = subst (λ (l : List ℤ). Begins x.printed l) (sym p.0) (Begins-refl x.printed)
Answers-begins x y None p = p

-- whatever answers an end is equal to it
Answers-ended : (x y : Seen) (d : Option End) (e : End) → x.end ≡ d → d ≡ Some e → Answers x y d → y ≡ x
Answers-ended x y (Some d) e p q h = record_equal y x h.0 (h.1 ∙ sym p)
Answers-ended x y None e p q h = absurd (cc)

-- more steps of a run that grows answer fewer
pub Grows-answers : (X : Run) → Grows X → (n m : ℕ) → n ≤ m → Answers (X n) (X m) (X n).end
Grows-answers X grows n m le = grows_to X grows n m le (X n).end refl
  where
    grows_to : (X : Run) → Grows X → (n m : ℕ) → n ≤ m → (e : Option End) → (X n).end ≡ e → Answers (X n) (X m) e
    grows_to X grows n m le (Some e) p =
        let same = grows.stays_ended n m e le p in
        (ap (λ (x : Seen). x.printed) same, ap (λ (x : Seen). x.end) same ∙ p)
    grows_to X grows n m le None p = grows.prints_more n m le

-- with more steps the printed list only grows, and an end stays
pub run_from-grows : {S : Type 0} (step : S → Step S) (s : S) → Grows (λ n. run_from step n s)
run_from-grows step s = record {
  prints_more = λ n m le. Answers-begins (run_from step n s) (run_from step m s) (run_from step n s).end (run_from-answers step n m s le);
  stays_ended = λ n m e le ended. Answers-ended (run_from step n s) (run_from step m s) (run_from step n s).end e refl ended (run_from-answers step n m s le);
}

-- more steps show what was seen at the end
pub run_from-ended : {S : Type 0} (step : S → Step S) (s : S) (k n : ℕ) (e : End) → k ≤ n → (run_from step k s).end ≡ Some e → run_from step n s ≡ run_from step k s
run_from-ended step s k n e le ended = (run_from-grows step s).stays_ended k n e le ended

-- steps that print and come to a state, and then more steps
pub run_from-at : {S : Type 0} (step : S → Step S) (n m : ℕ) (s t : S) (printed : List ℤ) → reach step n s ≡ At printed t → run_from step (n + m) s ≡ after_printing printed (run_from step m t)
run_from-at step n m s t printed p = run_from-add step n m s ∙ ap (λ r. seen_from r (run_from step m)) p

-- steps that print and come to an end, and then more steps
pub run_from-over : {S : Type 0} (step : S → Step S) (n m : ℕ) (s : S) (printed : List ℤ) (end : End) → reach step n s ≡ Over printed end
    → run_from step (n + m) s ≡ record { printed = printed; end = Some end }
run_from-over step n m s printed end p = run_from-add step n m s ∙ ap (λ r. seen_from r (run_from step m)) p

reached_after-append : {S : Type 0} (p q : List ℤ) (r : Reached S) → reached_after p (reached_after q r) ≡ reached_after (p ++ q) r
reached_after-append p q (At out s) = ap (λ (l : List ℤ). At l s) (sym (append_assoc p q out))
reached_after-append p q (Over out e) = ap (λ (l : List ℤ). Over l e) (sym (append_assoc p q out))

-- a place, and where more steps lead to from its state
abbrev pub reached_from : {S : Type 0} → Reached S → (S → Reached S) → Reached S
reached_from (At out s) rest = reached_after out (rest s)
reached_from (Over out e) rest = Over out e

reached_from-after : {S : Type 0} (out : List ℤ) (r : Reached S) (rest : S → Reached S) → reached_after out (reached_from r rest) ≡ reached_from (reached_after out r) rest
reached_from-after out (At p s) rest = reached_after-append out p (rest s)
reached_from-after out (Over p e) rest = refl

reached_from-of : {S : Type 0} (st : Step S) (next rest : S → Reached S) → reached_of st (λ s. reached_from (next s) rest) ≡ reached_from (reached_of st next) rest
reached_from-of (Goes out s) next rest = reached_from-after out (next s) rest
reached_from-of (Stops out e) next rest = refl

reached_of-equal : {S : Type 0} (st : Step S) (f g : S → Reached S) → ((s : S) → f s ≡ g s) → reached_of st f ≡ reached_of st g
reached_of-equal (Goes out s) f g p = ap (λ x. reached_after out x) (p s)
reached_of-equal (Stops out e) f g p = refl

reached_after-nil : {S : Type 0} (r : Reached S) → reached_after [] r ≡ r
reached_after-nil (At out s) = refl
reached_after-nil (Over out e) = refl

-- n steps and then m more lead to where m steps lead to from where n lead to
pub reach-add : {S : Type 0} (step : S → Step S) (n m : ℕ) (s : S) → reach step (n + m) s ≡ reached_from (reach step n s) (reach step m)
reach-add step zero m s = rw zero-add (sym (reached_after-nil (reach step m s)))
reach-add step (suc n) m s =
    let e : suc n + m ≡ suc (n + m) = omega arith in
    ap (λ (k : ℕ). reach step k s) e
    ∙ reached_of-equal (step s) (reach step (n + m)) (λ x. reached_from (reach step n x) (reach step m)) (λ x. reach-add step n m x)
    ∙ reached_from-of (step s) (reach step n) (reach step m)

-- what is seen of two places that meet, where the states show the same after them
Meet-answers : {S T : Type 0} (Related : S → T → Type 0) (a : Reached S) (b : Reached T) (f : S → Seen) (g : T → Seen)
    → ((s : S) (t : T) → Related s t → Answers (f s) (g t) (f s).end) → Meet Related a b → Answers (seen_from a f) (seen_from b g) (seen_from a f).end
Meet-answers Related (At p s) (At q t) f g next h =
    subst (λ (l : List ℤ). Answers (after_printing p (f s)) (after_printing l (g t)) (f s).end) h.0 (Answers-after p (f s) (g t) (f s).end (next s t h.1))
Meet-answers Related (Over p d) (Over q e) f g next h = (sym h.0, ap (λ (x : End). Some x) (sym h.1))
Meet-answers Related (At p s) (Over q e) f g next h = absurd h
Meet-answers Related (Over p d) (At q t) f g next h = absurd h

-- two places that meet, seen the other way
pub Meet-sym : {S T : Type 0} (Related : S → T → Type 0) (a : Reached S) (b : Reached T) → Meet Related a b → Meet (λ t s. Related s t) b a
Meet-sym Related (At p s) (At q t) h = (sym h.0, h.1)
Meet-sym Related (Over p d) (Over q e) h = (sym h.0, sym h.1)
Meet-sym Related (At p s) (Over q e) h = absurd h
Meet-sym Related (Over p d) (At q t) h = absurd h

-- a simulation is one in both directions
pub Simulates-sym : {S T : Type 0} (f : S → Step S) (g : T → Step T) (Related : S → T → Type 0) → Simulates f g Related → Simulates g f (λ t s. Related s t)
Simulates-sym f g Related sim t s r =
    let m = sim s t r in
    record {
      more_steps = m.other_steps;
      other_steps = m.more_steps;
      meet = Meet-sym Related (reach f (suc m.more_steps) s) (reach g (suc m.other_steps) t) m.meet;
    }

-- what is seen k steps after two places that meet, where k steps from related states are answered
answered_from : {S T : Type 0} (f : S → Step S) (g : T → Step T) (Related : S → T → Type 0) (k : ℕ) (a : Reached S) (b : Reached T)
    → ((s : S) (t : T) → Related s t → (m : ℕ) × Answers (run_from f k s) (run_from g m t) (run_from f k s).end)
    → Meet Related a b → (m : ℕ) × Answers (seen_from a (run_from f k)) (seen_from b (run_from g m)) (seen_from a (run_from f k)).end
answered_from f g Related k (At p s) (At q t) next h =
    let m = next s t h.1 in (
      m.0,
      subst (λ (l : List ℤ). Answers (after_printing p (run_from f k s)) (after_printing l (run_from g m.0 t)) (run_from f k s).end) h.0
          (Answers-after p (run_from f k s) (run_from g m.0 t) (run_from f k s).end m.1),
    )
answered_from f g Related k (Over p d) (Over q e) next h = (0, (sym h.0, ap (λ (x : End). Some x) (sym h.1)))
answered_from f g Related k (At p s) (Over q e) next h = absurd h
answered_from f g Related k (Over p d) (At q t) next h = absurd h

-- equal things seen are answered alike
Answers-between : (x x' y y' : Seen) → x' ≡ x → y' ≡ y → Answers x' y' x'.end → Answers x y x.end
Answers-between x x' y y' p q h =
    subst (λ (z : Seen). Answers x z x.end) q (subst (λ (z : Seen). Answers z y' z.end) p h)

module _ {S T : Type 0} (f : S → Step S) (g : T → Step T) (Related : S → T → Type 0) where
  -- fewer steps than lead to the meeting
  answered_within : (n i j : ℕ) (s : S) (t : T) → n ≤ i → Meet Related (reach f i s) (reach g j t) → Answers (run_from f n s) (run_from g j t) (run_from f n s).end
  answered_within n i j s t within meet =
      Answers-trans (run_from f n s) (run_from f i s) (run_from g j t) (run_from f n s).end (run_from f i s).end refl
      (run_from-answers f n i s within)
      (Answers-between (run_from f i s) (seen_from (reach f i s) (run_from f 0)) (run_from g j t) (seen_from (reach g j t) (run_from g 0)) (sym (run_from-reach f i s)) (sym (run_from-reach g j t))
      (Meet-answers Related (reach f i s) (reach g j t) (run_from f 0) (run_from g 0) (λ x y h. Begins-refl []) meet))

  -- more steps than lead to the meeting
  answered_beyond : (n i j k : ℕ) (s : S) (t : T) → i + k ≡ n → Meet Related (reach f i s) (reach g j t)
      → ((s : S) (t : T) → Related s t → (m : ℕ) × Answers (run_from f k s) (run_from g m t) (run_from f k s).end)
      → (m : ℕ) × Answers (run_from f n s) (run_from g m t) (run_from f n s).end
  answered_beyond n i j k s t e meet next =
      let m = answered_from f g Related k (reach f i s) (reach g j t) next meet in (
        j + m.0,
        Answers-between (run_from f n s) (seen_from (reach f i s) (run_from f k)) (run_from g (j + m.0) t) (seen_from (reach g j t) (run_from g m.0))
            (sym (run_from-add f i k s) ∙ ap (λ (x : ℕ). run_from f x s) e) (sym (run_from-add g j m.0 t)) m.1,
      )

module _ {S T : Type 0} (f : S → Step S) (g : T → Step T) (Related : S → T → Type 0) (sim : Simulates f g Related) where
  -- some run from t answers n steps from a related s, for n below the bound
  answered_below : (bound n : ℕ) → n < bound → (s : S) (t : T) → Related s t → (m : ℕ) × Answers (run_from f n s) (run_from g m t) (run_from f n s).end
  answered_below zero n lt s t r = absurd (omega arith)
  answered_below (suc bound) n lt s t r =
      let m = sim s t r in
      let i = suc m.more_steps in
      let j = suc m.other_steps in
      elim (decide_le n i) [
        | inl within ↦ (j, answered_within f g Related n i j s t within m.meet)
        | inr beyond ↦
            let e : i + (n - i) ≡ n = omega arith in
            let less : n - i < bound = omega arith in
            answered_beyond f g Related n i j (n - i) s t e m.meet (λ x y h. answered_below bound (n - i) less x y h)
      ]

  -- the run from a related state follows
  pub Follows-simulated : (s : S) (t : T) → Related s t → Follows (λ n. run_from f n s) (λ n. run_from g n t)
  Follows-simulated s t r n = answered_below (suc n) n (omega arith) s t r

-- the simulation lemma: where related states always meet again, the runs from related states agree
pub Agree-simulated : {S T : Type 0} (f : S → Step S) (g : T → Step T) (Related : S → T → Type 0) → Simulates f g Related
    → (s : S) (t : T) → Related s t → Agree (λ n. run_from f n s) (λ n. run_from g n t)
Agree-simulated f g Related sim s t r = record {
  forth = Follows-simulated f g Related sim s t r;
  back = Follows-simulated g f (λ y x. Related x y) (Simulates-sym f g Related sim) t s r;
}

-- whatever a run shows that comes to an end, that end answers
ended_answers : (X : Run) (k n : ℕ) (printed : List ℤ) (end : End) → Grows X → X k ≡ record { printed = printed; end = Some end } → Answers (X n) (ended_run printed end n) (X n).end
ended_answers X k n printed end grows at =
    let is_end : (X k).end ≡ Some end = ap (λ (x : Seen). x.end) at in
    elim (decide_le n k) [
      | inl before ↦ Answers-between (X n) (X n) (ended_run printed end n) (X k) refl at (Grows-answers X grows n k before)
      | inr after ↦
          let le : k ≤ n = omega arith in
          Answers-equal (X n) (ended_run printed end n) (grows.stays_ended k n end le is_end ∙ at)
    ]

-- a run that grows and comes to an end agrees with the run that has printed and ended so from the start
pub Agree-ended : (X : Run) (k : ℕ) (printed : List ℤ) (end : End) → Grows X → X k ≡ record { printed = printed; end = Some end } → Agree X (ended_run printed end)
Agree-ended X k printed end grows at = record {
  forth = λ n. (0, ended_answers X k n printed end grows at);
  back = λ n. (k, (ap (λ (x : Seen). x.printed) at, ap (λ (x : Seen). x.end) at));
}

-- the run from a state that comes to an end agrees with the run that has printed and ended so from the start
pub Agree-run_ended : {S : Type 0} (step : S → Step S) (s : S) (k : ℕ) (printed : List ℤ) (end : End)
    → run_from step k s ≡ record { printed = printed; end = Some end } → Agree (λ n. run_from step n s) (ended_run printed end)
Agree-run_ended step s k printed end at = Agree-ended (λ n. run_from step n s) k printed end (run_from-grows step s) at

-- of two runs that agree, where both have ended they have printed the same and ended alike
pub Agree-ends : (X Y : Run) → Agree X Y → Grows Y → (n m : ℕ) (d e : End) → (X n).end ≡ Some d → (Y m).end ≡ Some e → X n ≡ Y m
Agree-ends X Y agree grows n m d e p q =
    let answer = agree.forth n in
    let k = answer.0 in
    let same : Y k ≡ X n = Answers-ended (X n) (Y k) (X n).end d refl p answer.1 in
    let ended : (Y k).end ≡ Some d = ap (λ (x : Seen). x.end) same ∙ p in
    elim (decide_le k m) [
      | inl before ↦ sym same ∙ sym (grows.stays_ended k m d before ended)
      | inr after ↦ let le : m ≤ k = omega arith in sym same ∙ grows.stays_ended m k e le q
    ]

-- steps from two places that meet lead to where the places meet with what came before
Meet-after : {S T : Type 0} (Related : S → T → Type 0) (p q : List ℤ) (a : Reached S) (b : Reached T) → p ≡ q → Meet Related a b → Meet Related (reached_after p a) (reached_after q b)
Meet-after Related p q (At x s) (At y t) e h = (ap (λ (l : List ℤ). l ++ x) e ∙ ap (λ (l : List ℤ). q ++ l) h.0, h.1)
Meet-after Related p q (Over x d) (Over y c) e h = (ap (λ (l : List ℤ). l ++ x) e ∙ ap (λ (l : List ℤ). q ++ l) h.0, h.1)
Meet-after Related p q (At x s) (Over y c) e h = absurd h
Meet-after Related p q (Over x d) (At y t) e h = absurd h

-- two places that meet, and meet again from there
record MeetsThen {S T : Type 0} (f : S → Step S) (g : T → Step T) (Related : S → T → Type 0) (a : Reached S) (b : Reached T) : Type 0 where
  more_steps : ℕ
  other_steps : ℕ
  meet : Meet Related (reached_from a (reach f (suc more_steps))) (reached_from b (reach g (suc other_steps)))

module _ {S T : Type 0} (f : S → Step S) (g : T → Step T) (Related : S → T → Type 0) (rank : S → T → ℕ) where
  meets_then : (low : ℕ) (a : Reached S) (b : Reached T) → Meet (λ x y. Related x y × (rank x y < low)) a b
      → ((x : S) (y : T) → Related x y → rank x y < low → MeetsAgain f g Related x y) → MeetsThen f g Related a b
  meets_then low (At p s) (At q t) h next =
      let m = next s t h.1.0 h.1.1 in
      record { more_steps = m.more_steps; other_steps = m.other_steps; meet = Meet-after Related p q (reach f (suc m.more_steps) s) (reach g (suc m.other_steps) t) h.0 m.meet }
  meets_then low (Over p d) (Over q e) h next = record { more_steps = 0; other_steps = 0; meet = h }
  meets_then low (At p s) (Over q e) h next = absurd h
  meets_then low (Over p d) (At q t) h next = absurd h

  module _ (sim : SimulatesInTime f g Related rank) where
    meets_below : (bound : ℕ) (s : S) (t : T) → rank s t < bound → Related s t → MeetsAgain f g Related s t
    meets_below zero s t lt r = absurd (omega arith)
    meets_below (suc bound) s t lt r = elim (sim s t r) [
      | inl again ↦ again
      | inr lower ↦
          let m = meets_then (rank s t) (reach f lower.steps s) (reach g lower.other_steps t) lower.meet (λ x y h below. meets_below bound x y (omega arith) h) in
          let e : lower.steps + suc m.more_steps ≡ suc (lower.steps + m.more_steps) = omega arith in
          let d : lower.other_steps + suc m.other_steps ≡ suc (lower.other_steps + m.other_steps) = omega arith in
          record {
            more_steps = lower.steps + m.more_steps;
            other_steps = lower.other_steps + m.other_steps;
            meet = subst (λ (x : Reached S). Meet Related x (reach g (suc (lower.other_steps + m.other_steps)) t))
                (sym (reach-add f lower.steps (suc m.more_steps) s) ∙ ap (λ (k : ℕ). reach f k s) e)
                (subst (λ (y : Reached T). Meet Related (reached_from (reach f lower.steps s) (reach f (suc m.more_steps))) y)
                (sym (reach-add g lower.other_steps (suc m.other_steps) t) ∙ ap (λ (k : ℕ). reach g k t) d) m.meet);
          }
    ]

    -- a simulation in which one side may stand still is one in which both move
    pub Simulates-in_time : Simulates f g Related
    Simulates-in_time s t r = meets_below (suc (rank s t)) s t (omega arith) r

-- the simulation lemma where one side may stand still while a rank falls
pub Agree-simulated_in_time : {S T : Type 0} (f : S → Step S) (g : T → Step T) (Related : S → T → Type 0) (rank : S → T → ℕ) → SimulatesInTime f g Related rank
    → (s : S) (t : T) → Related s t → Agree (λ n. run_from f n s) (λ n. run_from g n t)
Agree-simulated_in_time f g Related rank sim s t r = Agree-simulated f g Related (Simulates-in_time f g Related rank sim) s t r
