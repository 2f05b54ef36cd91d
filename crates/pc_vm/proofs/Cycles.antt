-- Cycles one after the other, and the text that was sent.
use Rattle.std.proofs.Common.{◌≡◌, ℕ, suc, ◌+◌, ◌-◌, ◌<◌, ◌≤◌, Bool, true, false, List, [], ◌∷◌, ◌++◌, length, take, Option, Some, None, refl, sym}
use Rattle.std.proofs.Common.{ap, ◌∙◌, subst, arith, append_assoc, length-append, add-zero}
use Rattle.std.proofs.lemmas.List.{append-nil, take-append-le}
use Rattle.std.specs.Prelude.{ℤ, Result, Ok, Err, OnOk, OnErr, is_err}
use Rattle.std.specs.Io.KnownBytes.{Appends}
use Rattle.pc_word.specs.declared.item.End.{End}
use Rattle.pc_word.specs.Run.{Seen, Step, Goes, Stops, Reached, At, Over, run_from, reach, reached_of, reached_after}
use Rattle.pc_word.specs.NumberText.{text_of}
use Rattle.pc_word.proofs.NumberTexts.{text_of-append}
use Rattle.pc_word.proofs.Runs.{reached_from, reach-add, run_from-at, run_from-over}
use Rattle.pc_outside.specs.Stream.{AppendsPart}
use Rattle.pc_outside.proofs.StreamLemmas.{Appends-append}
use Rattle.pc_machine.specs.declared.code.Code.{Code}
use Rattle.pc_machine.specs.MachineCode.{code_of}
use Rattle.pc_machine.specs.MachineRun.{Cycle, machine_step}
use Rattle.pc_vm.specs.declared.event.Event.{Event}
use Rattle.pc_vm.specs.Standing.{Standing, here_of, printed_by, IsStep, StandsAt}

-- ---- answers of calls

-- what holds of a refusal, where a test tells that there is one
pub when_err : {T E : Type 0} (r : Result T E) {P : Type 0} {told : Bool} → OnErr r P → told ≡ is_err r → told ≡ true → P
when_err (Ok x) h is yes_told = absurd (cc)
when_err (Err e) h is yes_told = h

-- what holds of what was done, where it tells that there is none
pub when_ok : {T E : Type 0} (r : Result T E) {P : Type 0} {told : Bool} → OnOk r P → told ≡ is_err r → told ≡ false → P
when_ok (Ok x) h is not_told = h
when_ok (Err e) h is not_told = absurd (cc)

-- ---- one cycle more

-- an event without an end is of a step that goes on
pub event-goes : (event : Event) (new : Standing) (step : Step Cycle) → IsStep event new step → event.end ≡ None → (step ≡ Goes (printed_by event) (here_of new)) × (new.over ≡ false)
event-goes event new (Goes printed place) is none =
    (ap (λ (p : List ℤ). let it : Step Cycle = Goes p place in it) (sym is.0) ∙ ap (λ (c : Cycle). let it : Step Cycle = Goes (printed_by event) c in it) (sym is.3), is.2)
event-goes event new (Stops printed end) is none = absurd (cc)

-- an event with an end is of a step that ends
pub event-stops : (event : Event) (new : Standing) (step : Step Cycle) (e : End) → IsStep event new step → event.end ≡ Some e → (step ≡ Stops (printed_by event) e) × (new.over ≡ true)
event-stops event new (Goes printed place) e is some = absurd (cc)
event-stops event new (Stops printed end) e is some =
    let same : end ≡ e = cc in
    (ap (λ (p : List ℤ). let it : Step Cycle = Stops p end in it) (sym is.0) ∙ ap (λ (d : End). let it : Step Cycle = Stops (printed_by event) d in it) same, is.2)

-- one step more leads to where it leads to
reach-one : (step : Cycle → Step Cycle) (n : ℕ) (start now : Cycle) (printed : List ℤ) → reach step n start ≡ At printed now → reach step (n + 1) start ≡ reached_after printed (reach step 1 now)
reach-one step n start now printed reached = reach-add step n 1 start ∙ ap (λ (r : Reached Cycle). reached_from r (reach step 1)) reached

pub reach-goes : (step : Cycle → Step Cycle) (n : ℕ) (start now place : Cycle) (printed out : List ℤ) → reach step n start ≡ At printed now → step now ≡ Goes out place
    → reach step (n + 1) start ≡ At (printed ++ out) place
reach-goes step n start now place printed out reached is =
    reach-one step n start now printed reached
    ∙ ap (λ (st : Step Cycle). reached_after printed (reached_of st (reach step 0))) is
    ∙ ap (λ (p : List ℤ). At (printed ++ p) place) (append-nil out)

pub reach-stops : (step : Cycle → Step Cycle) (n : ℕ) (start now : Cycle) (printed out : List ℤ) (end : End) → reach step n start ≡ At printed now → step now ≡ Stops out end
    → reach step (n + 1) start ≡ Over (printed ++ out) end
reach-stops step n start now printed out end reached is =
    reach-one step n start now printed reached
    ∙ ap (λ (st : Step Cycle). reached_after printed (reached_of st (reach step 0))) is

-- ---- the run

-- more steps after an end lead nowhere else
pub reach-ended : (step : Cycle → Step Cycle) (n budget : ℕ) (start : Cycle) (printed : List ℤ) (end : End) → n ≤ budget → reach step n start ≡ Over printed end
    → reach step budget start ≡ Over printed end
reach-ended step n budget start printed end within reached =
    let e : budget ≡ n + (budget - n) = omega arith in
    ap (λ (k : ℕ). reach step k start) e ∙ reach-add step n (budget - n) start ∙ ap (λ (r : Reached Cycle). reached_from r (reach step (budget - n))) reached

-- what is seen of the whole run, where it has ended
pub run-ended : (step : Cycle → Step Cycle) (n budget : ℕ) (start : Cycle) (printed : List ℤ) (end : End) → n ≤ budget → reach step n start ≡ Over printed end
    → run_from step budget start ≡ record { printed = printed; end = Some end }
run-ended step n budget start printed end within reached =
    let e : budget ≡ n + (budget - n) = omega arith in
    ap (λ (k : ℕ). run_from step k start) e ∙ run_from-over step n (budget - n) start printed end reached

-- and where it goes on
pub run-going : (step : Cycle → Step Cycle) (budget : ℕ) (start now : Cycle) (printed : List ℤ) → reach step budget start ≡ At printed now
    → run_from step budget start ≡ record { printed = printed; end = None }
run-going step budget start now printed reached =
    ap (λ (k : ℕ). run_from step k start) (sym (add-zero budget)) ∙ run_from-at step budget 0 start now printed reached
    ∙ ap (λ (p : List ℤ). let seen : Seen = record { printed = p; end = None } in seen) (append-nil printed)

-- what was printed on the way to a place
abbrev pub printed_in : Reached Cycle → List ℤ
printed_in (At printed now) = printed
printed_in (Over printed end) = printed

-- the whole run begins with what was printed so far
pub run-begins : (step : Cycle → Step Cycle) (n budget : ℕ) (start : Cycle) (reached : Reached Cycle) (printed : List ℤ) → n ≤ budget → reach step n start ≡ reached → printed ≡ printed_in reached
    → (rest : List ℤ) × ((run_from step budget start).printed ≡ printed ++ rest)
run-begins step n budget start (At out now) printed within is same =
    let e : budget ≡ n + (budget - n) = omega arith in (
      (run_from step (budget - n) now).printed,
      ap (λ (k : ℕ). (run_from step k start).printed) e ∙ ap (λ (s : Seen). s.printed) (run_from-at step n (budget - n) start now out is)
          ∙ ap (λ (p : List ℤ). p ++ (run_from step (budget - n) now).printed) (sym same),
    )
run-begins step n budget start (Over out end) printed within is same =
    ([], ap (λ (s : Seen). s.printed) (run-ended step n budget start out end within is) ∙ sym same ∙ sym (append-nil printed))

-- ---- the text

-- the text of one more number after what was sent
pub sends-more : (old mid new : Option (List ℕ)) (printed out : List ℤ) → Appends old mid (text_of printed) → Appends mid new (text_of out) → Appends old new (text_of (printed ++ out))
sends-more old mid new printed out before now =
    subst (Appends old new) (sym (text_of-append printed out)) (Appends-append old mid new (text_of printed) (text_of out) before now)

-- the first bytes of two texts, past the first
take-past : (xs ys : List ℕ) (k : ℕ) → take (length xs + k) (xs ++ ys) ≡ xs ++ take k ys
take-past [] ys k = ap (λ n. take n ys) (omega arith)
take-past (x ∷ xs) ys k = let e : length (x ∷ xs) + k ≡ suc (length xs + k) = omega arith in ap (λ n. take n (x ∷ (xs ++ ys))) e ∙ ap (λ zs. x ∷ zs) (take-past xs ys k)

take-front : (k : ℕ) (xs ys : List ℕ) → k ≤ length xs → take k (xs ++ ys) ≡ take k xs
take-front k xs ys within = take-append-le k xs ys within

-- a part of the text of one more number is a part of the text of all
pub part-more : (old mid new : Option (List ℕ)) (printed out rest all : List ℤ) → all ≡ (printed ++ out) ++ rest → Appends old mid (text_of printed) → AppendsPart mid new (text_of out)
    → AppendsPart old new (text_of all)
part-more old mid new printed out rest all is before part =
    let text : text_of all ≡ text_of printed ++ (text_of out ++ text_of rest) =
    ap text_of is ∙ text_of-append (printed ++ out) rest ∙ ap (λ (t : List ℕ). t ++ text_of rest) (text_of-append printed out) ∙ append_assoc (text_of printed) (text_of out) (text_of rest) in
    let some : take (length (text_of printed) + part.sent) (text_of all) ≡ text_of printed ++ take part.sent (text_of out) =
    ap (λ (t : List ℕ). take (length (text_of printed) + part.sent) t) text ∙ take-past (text_of printed) (text_of out ++ text_of rest) part.sent
    ∙ ap (λ (t : List ℕ). text_of printed ++ t) (take-front part.sent (text_of out) (text_of rest) (omega (arith, part.short))) in
    let long : length (text_of all) ≡ length (text_of printed) + (length (text_of out) + length (text_of rest)) =
    ap length text ∙ length-append (text_of printed) (text_of out ++ text_of rest) ∙ ap (λ (n : ℕ). length (text_of printed) + n) (length-append (text_of out) (text_of rest)) in
    record {
      sent = length (text_of printed) + part.sent;
      short = omega (arith, long, part.short);
      grew = subst (Appends old new) (sym some) (Appends-append old mid new (text_of printed) (take part.sent (text_of out)) before part.grew);
    }

-- ---- the way of a run, from its start to where it stands

-- n steps lead from a place to another, and the text of what they printed was sent
pub record Way (step : Cycle → Step Cycle) (n : ℕ) (start now : Cycle) (before after : Option (List ℕ)) : Type 0 where
  pub printed : List ℤ
  pub reached : reach step n start ≡ At printed now
  pub sent : Appends before after (text_of printed)

appends_nothing : (taken : Option (List ℕ)) → Appends taken taken []
appends_nothing None = tt
appends_nothing (Some bytes) = sym (append-nil bytes)

-- at the start nothing was sent
pub way-begins : (step : Cycle → Step Cycle) (start : Cycle) (taken : Option (List ℕ)) → Way step 0 start start taken taken
way-begins step start taken = record { printed = []; reached = refl; sent = appends_nothing taken }

-- one cycle more, which goes on
pub way-goes : (step : Cycle → Step Cycle) (n : ℕ) (start now : Cycle) (old mid new : Option (List ℕ)) (event : Event) (standing : Standing)
    → Way step n start now old mid → IsStep event standing (step now) → event.end ≡ None → Appends mid new (text_of (printed_by event))
    → Way step (n + 1) start (here_of standing) old new
way-goes step n start now old mid new event standing way is none sends = record {
  printed = way.printed ++ printed_by event;
  reached = reach-goes step n start now (here_of standing) way.printed (printed_by event) way.reached (event-goes event standing (step now) is none).0;
  sent = sends-more old mid new way.printed (printed_by event) way.sent sends;
}

-- one that ends: what is seen of the whole run
pub way-stops : (step : Cycle → Step Cycle) (n budget : ℕ) (start now : Cycle) (old mid : Option (List ℕ)) (event : Event) (standing : Standing) (e : End)
    → n < budget → (way : Way step n start now old mid) → IsStep event standing (step now) → event.end ≡ Some e
    → reach step budget start ≡ Over (way.printed ++ printed_by event) e
way-stops step n budget start now old mid event standing e within way is some =
    reach-ended step (n + 1) budget start (way.printed ++ printed_by event) e (omega arith)
    (reach-stops step n start now way.printed (printed_by event) e way.reached (event-stops event standing (step now) e is some).0)

-- what is seen of the whole run begins with what was printed on the way and by one cycle more
one-more : (step : Cycle → Step Cycle) (n budget : ℕ) (start now : Cycle) (printed : List ℤ) (event : Event) (standing : Standing) (st : Step Cycle)
    → n < budget → reach step n start ≡ At printed now → step now ≡ st → IsStep event standing st
    → (rest : List ℤ) × ((run_from step budget start).printed ≡ (printed ++ printed_by event) ++ rest)
one-more step n budget start now printed event standing (Goes out place) within reached is_step is =
    run-begins step (n + 1) budget start (At (printed ++ out) place) (printed ++ printed_by event) (omega arith) (reach-goes step n start now place printed out reached is_step)
    (ap (λ (o : List ℤ). printed ++ o) is.0)
one-more step n budget start now printed event standing (Stops out e) within reached is_step is =
    run-begins step (n + 1) budget start (Over (printed ++ out) e) (printed ++ printed_by event) (omega arith) (reach-stops step n start now printed out e reached is_step)
    (ap (λ (o : List ℤ). printed ++ o) is.0)

-- where its text was sent in part, a part of the whole run's text was sent
pub way-part : (step : Cycle → Step Cycle) (n budget : ℕ) (start now : Cycle) (old mid new : Option (List ℕ)) (event : Event) (standing : Standing)
    → n < budget → Way step n start now old mid → IsStep event standing (step now) → AppendsPart mid new (text_of (printed_by event))
    → AppendsPart old new (text_of (run_from step budget start).printed)
way-part step n budget start now old mid new event standing within way is part =
    let more = one-more step n budget start now way.printed event standing (step now) within way.reached refl is in
    part-more old mid new way.printed (printed_by event) more.0 (run_from step budget start).printed more.1 way.sent part

-- ---- one turn of the loop

-- what a turn knows: budget is left, the way so far, and the step that the cycle was
pub record Turn (step : Cycle → Step Cycle) (n budget : ℕ) (start now : Cycle) (before mid : Option (List ℕ)) (event : Event) (standing : Standing) : Type 0 where
  pub within : n < budget
  pub way : Way step n start now before mid
  pub is : IsStep event standing (step now)

-- the cycle is a step of the code that the run began with
pub turn : (first later : Code) (event : Event) (standing : Standing) {n budget : ℕ} {start now : Cycle} {before mid : Option (List ℕ)}
    → n < budget → Way (machine_step (code_of first)) n start now before mid → later ≡ first → IsStep event standing (machine_step (code_of later) now)
    → Turn (machine_step (code_of first)) n budget start now before mid event standing
turn first later event standing {now = now} within way same is =
    record { within = within; way = way; is = subst (λ (code : Code). IsStep event standing (machine_step (code_of code) now)) same is }

module _ {step : Cycle → Step Cycle} {n budget : ℕ} {start now : Cycle} {before mid : Option (List ℕ)} {event : Event} {standing : Standing}
    (t : Turn step n budget start now before mid event standing) where
  -- where the whole run leads to, if the cycle ends it
  turn-stops : (e : End) → event.end ≡ Some e → reach step budget start ≡ Over (t.way.printed ++ printed_by event) e
  turn-stops e some = way-stops step n budget start now before mid event standing e t.within t.way t.is some

  -- and what is seen of it
  turn-seen : (e : End) → event.end ≡ Some e → run_from step budget start ≡ record { printed = t.way.printed ++ printed_by event; end = Some e }
  turn-seen e some = let whole : budget ≤ budget = omega arith in run-ended step budget budget start (t.way.printed ++ printed_by event) e whole (turn-stops e some)

  -- the end of such a cycle is the run's
  pub turn-end : (e : End) → event.end ≡ Some e → Some e ≡ (run_from step budget start).end
  turn-end e some = sym (ap (λ (seen : Seen). seen.end) (turn-seen e some))

  -- the text of the run was sent with its text
  pub turn-sent : (e : End) (after : Option (List ℕ)) → event.end ≡ Some e → Appends mid after (text_of (printed_by event)) → Appends before after (text_of (run_from step budget start).printed)
  turn-sent e after some sends =
      subst (λ (seen : Seen). Appends before after (text_of seen.printed)) (sym (turn-seen e some))
      (sends-more before mid after t.way.printed (printed_by event) t.way.sent sends)

  -- and the machine stands where the run leads to
  pub turn-stands : (e : End) → event.end ≡ Some e → StandsAt standing (reach step budget start)
  turn-stands e some = subst (λ (r : Reached Cycle). StandsAt standing r) (sym (turn-stops e some)) (event-stops event standing (step now) e t.is some).1

  -- where its text was sent in part, a part of the run's text was sent
  pub turn-part : (after : Option (List ℕ)) → AppendsPart mid after (text_of (printed_by event)) → AppendsPart before after (text_of (run_from step budget start).printed)
  turn-part after part = way-part step n budget start now before mid after event standing t.within t.way t.is part

  -- a cycle that goes on leaves the machine going
  pub turn-going : event.end ≡ None → standing.over ≡ false
  turn-going none = (event-goes event standing (step now) t.is none).1

  -- and is one cycle more on the way
  pub turn-goes : (after : Option (List ℕ)) → event.end ≡ None → Appends mid after (text_of (printed_by event)) → Way step (n + 1) start (here_of standing) before after
  turn-goes after none sends = way-goes step n start now before mid after event standing t.way t.is none sends

-- ---- the budget is spent

-- what is seen of the run is what was printed on the way
spent-seen : {step : Cycle → Step Cycle} {n : ℕ} (budget : ℕ) {start now : Cycle} {before after : Option (List ℕ)} → n ≡ budget → (way : Way step n start now before after)
    → run_from step budget start ≡ record { printed = way.printed; end = None }
spent-seen {step = step} budget {start = start} {now = now} spent way =
    run-going step budget start now way.printed (subst (λ (k : ℕ). reach step k start ≡ At way.printed now) spent way.reached)

-- it has no end
pub spent-end : {step : Cycle → Step Cycle} {n : ℕ} (budget : ℕ) {start now : Cycle} {before after : Option (List ℕ)} → n ≡ budget → Way step n start now before after
    → None ≡ (run_from step budget start).end
spent-end budget spent way = sym (ap (λ (seen : Seen). seen.end) (spent-seen budget spent way))

-- and its text was sent
pub spent-sent : {step : Cycle → Step Cycle} {n : ℕ} (budget : ℕ) {start now : Cycle} {before after : Option (List ℕ)} → n ≡ budget → Way step n start now before after
    → Appends before after (text_of (run_from step budget start).printed)
spent-sent {step = step} budget {before = before} {after = after} spent way =
    subst (λ (seen : Seen). Appends before after (text_of seen.printed)) (sym (spent-seen budget spent way)) way.sent
