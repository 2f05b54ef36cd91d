-- The lines of the cycles so far, and of those from here on.
use Rattle.std.proofs.Common.{◌≡◌, ◌∙◌, ap, sym, subst, arith, append_assoc, ℕ, suc, ◌+◌, ◌-◌, ◌<◌, false, true, refl, List, [], ◌∷◌, ◌++◌, Option, Some, None}
use Rattle.std.proofs.lemmas.List.{append-nil}
use Rattle.std.specs.Prelude.{ℤ, is_some}
use Rattle.pc_word.specs.declared.item.End.{End}
use Rattle.pc_word.specs.Run.{Step, Goes, Stops}
use Rattle.pc_machine.specs.declared.code.Code.{Code}
use Rattle.pc_machine.specs.MachineCode.{RowCode, code_of}
use Rattle.pc_machine.specs.MachineRun.{Cycle, machine_step}
use Rattle.pc_view.specs.Listing.{lines_text}
use Rattle.pc_vm.specs.Standing.{Standing, here_of}
use Rattle.pc_trace.specs.Trace.{CycleDone, Moves, cycle_at, cycles_after, trace_of}
use Rattle.pc_trace.specs.TraceText.{cycle_words, trace_lines, trace_text}

-- the text of the first n cycles before that of the others is the text of all
abbrev pub IsTold : RowCode → (cycles n : ℕ) → (start here : Cycle) → List ℕ → Type 0
IsTold code cycles n start here text = trace_text code cycles start ≡ text ++ lines_text (trace_lines (suc n) (trace_of code (cycles - n) here))

-- none is told yet
pub told-begins : (code : RowCode) (cycles : ℕ) (start : Cycle) (text : List ℕ) → text ≡ [] → IsTold code cycles 0 start start text
told-begins code cycles start text none =
    let same : cycles ≡ cycles - 0 = omega arith in
    ap (λ k. lines_text (trace_lines 1 (trace_of code k start))) same ∙ ap (λ t. t ++ lines_text (trace_lines 1 (trace_of code (cycles - 0) start))) (sym none)

-- whether a cycle ended the run
ended : (end : Option End) → is_some end ≡ true → (last : End) × (end ≡ Some last)
ended (Some last) some = (last, refl)
ended None some = absurd (cc)

not_ended : (end : Option End) → is_some end ≡ false → end ≡ None
not_ended (Some last) none = absurd (cc)
not_ended None none = refl

-- a step to no end goes on
pub goes-on : (end : Option End) (new : Standing) (step : Step Cycle) → Moves end new step → end ≡ None → (printed : List ℤ) × (step ≡ Goes printed (here_of new))
goes-on end new (Goes printed next) moves none = (printed, ap (λ (c : Cycle). let it : Step Cycle = Goes printed c in it) (sym moves.2))
goes-on end new (Stops printed last) moves none = absurd (let e = moves.0 in cc)

pub still-going : (end : Option End) (new : Standing) (step : Step Cycle) → Moves end new step → is_some end ≡ false → new.over ≡ false
still-going end new (Goes printed next) moves none = moves.1
still-going end new (Stops printed last) moves none = absurd (let e = moves.0 in let f = not_ended end none in cc)

-- a step to an end stops
pub stops-at : (end : Option End) (new : Standing) (step : Step Cycle) (last : End) → Moves end new step → end ≡ Some last → (printed : List ℤ) × (step ≡ Stops printed last)
stops-at end new (Goes printed next) last moves some = absurd (let e = moves.0 in cc)
stops-at end new (Stops printed e) last moves some =
    let told = moves.0 in let same : e ≡ last = cc in (printed, ap (λ (d : End). let it : Step Cycle = Stops printed d in it) same)

-- a cycle more, by its step
module _ (code : RowCode) (cycles n : ℕ) (start here : Cycle) (text more : List ℕ) (cycle : CycleDone) (within : n < cycles) (told : IsTold code cycles n start here text)
    (is : cycle ≡ cycle_at code here) (then_is : more ≡ text ++ (cycle_words (n + 1) cycle ++ 10 ∷ [])) where
  left : cycles - n ≡ suc (cycles - (n + 1))
  left = omega (arith, within)

  one : suc n ≡ n + 1
  one = omega arith

  with_step : (step : Step Cycle) → machine_step code here ≡ step
      → trace_text code cycles start ≡ more ++ lines_text (trace_lines (suc (n + 1)) (cycles_after step (trace_of code (cycles - (n + 1)))))
  with_step step step_is =
      told
      ∙ ap (λ k. text ++ lines_text (trace_lines (suc n) (trace_of code k here))) left
      ∙ ap (λ (st : Step Cycle). text ++ lines_text (trace_lines (suc n) (cycle_at code here ∷ cycles_after st (trace_of code (cycles - (n + 1)))))) step_is
      ∙ ap (λ m. text ++ ((cycle_words m (cycle_at code here) ++ 10 ∷ []) ++ rest m)) one
      ∙ ap (λ (c : CycleDone). text ++ ((cycle_words (n + 1) c ++ 10 ∷ []) ++ rest (n + 1))) (sym is)
      ∙ sym (append_assoc text (cycle_words (n + 1) cycle ++ 10 ∷ []) (rest (n + 1)))
      ∙ ap (λ (t : List ℕ). t ++ rest (n + 1)) (sym then_is)
    where
      rest : ℕ → List ℕ
      rest m = lines_text (trace_lines (suc m) (cycles_after step (trace_of code (cycles - (n + 1)))))

  told-goes : (new : Standing) → Moves cycle.end new (machine_step code here) → is_some cycle.end ≡ false → IsTold code cycles (n + 1) start (here_of new) more
  told-goes new moves none =
      let goes = goes-on cycle.end new (machine_step code here) moves (not_ended cycle.end none) in with_step (Goes goes.0 (here_of new)) goes.1

  told-ends : (new : Standing) → Moves cycle.end new (machine_step code here) → is_some cycle.end ≡ true → more ≡ trace_text code cycles start
  told-ends new moves some =
      let last = ended cycle.end some in
      let stops = stops-at cycle.end new (machine_step code here) last.0 moves last.1 in sym (with_step (Stops stops.0 last.0) stops.1 ∙ append-nil more)

-- a turn of the loop: a cycle of the code that the run began with was run and told
module _ (first later : Code) (same : later ≡ first) (cycles n : ℕ) (start here : Cycle) (text more : List ℕ) (cycle : CycleDone) (new : Standing) (within : n < cycles)
    (told : IsTold (code_of first) cycles n start here text) (is : cycle ≡ cycle_at (code_of later) here)
    (moves : Moves cycle.end new (machine_step (code_of later) here)) (then_is : more ≡ text ++ (cycle_words (n + 1) cycle ++ 10 ∷ [])) where
  is_first : cycle ≡ cycle_at (code_of first) here
  is_first = subst (λ (code : Code). cycle ≡ cycle_at (code_of code) here) same is

  moves_first : Moves cycle.end new (machine_step (code_of first) here)
  moves_first = subst (λ (code : Code). Moves cycle.end new (machine_step (code_of code) here)) same moves

  pub turn-goes : is_some cycle.end ≡ false → IsTold (code_of first) cycles (n + 1) start (here_of new) more
  turn-goes none = told-goes (code_of first) cycles n start here text more cycle within told is_first then_is new moves_first none

  pub turn-ends : is_some cycle.end ≡ true → more ≡ trace_text (code_of first) cycles start
  turn-ends some = told-ends (code_of first) cycles n start here text more cycle within told is_first then_is new moves_first some

-- no cycle is left
pub told-spent : (code : RowCode) (cycles n : ℕ) (start here : Cycle) (text : List ℕ) → n ≡ cycles → IsTold code cycles n start here text → text ≡ trace_text code cycles start
told-spent code cycles n start here text spent told =
    let none : cycles - n ≡ 0 = omega (arith, spent) in
    sym (told ∙ ap (λ k. text ++ lines_text (trace_lines (suc n) (trace_of code k here))) none ∙ append-nil text)
