-- Two runs that come to the same end, where the one works on the scalars of one frame and the other on those of the whole program.
use Rattle.std.proofs.Common.{◌≡◌, ℕ, zero, suc, Bool, true, false, sym, subst}
use Rattle.std.specs.Prelude.{ℤ}
use Rattle.pc_word.specs.declared.item.TrapKind.{TrapKind}
use Rattle.pc_word.specs.Word.{holds}
use Rattle.pc_meaning.specs.ProgramState.{ProgramState, set_turns}
use Rattle.pc_meaning.specs.Expression.{Evaluated, Given, Caught, state_given, where_true, side}
use Rattle.pc_meaning.specs.Statement.{Completion, GoesOn, Breaks, Continues, Returns, Traps, Spent, do_with, then_do, after_body}
use Rattle.pc_meaning.specs.Statement.{turn_from, turn_of, round_of, loop, loop_from, do_loop}
use Rattle.pc_calls.specs.CallRun.{with_scalars}

-- what is known of the scalars of a frame and of those of the whole program
abbrev pub Relation : Type 1
Relation = (ℕ → ℤ) → (ℕ → ℤ) → Type 0

-- The same end: everything but the scalars is the same. These are related as `R` says where the next statement follows, and as
-- `J` says where a loop is left or goes on to its next turn.
pub data SameEnd (R J : Relation) : Completion → Completion → Type 0 where
  goes : (a : ProgramState) → (f : ℕ → ℤ) → R a.scalars f → SameEnd R J (GoesOn a) (GoesOn (with_scalars f a))
  breaks : (a : ProgramState) → (f : ℕ → ℤ) → J a.scalars f → SameEnd R J (Breaks a) (Breaks (with_scalars f a))
  continues : (a : ProgramState) → (f : ℕ → ℤ) → J a.scalars f → SameEnd R J (Continues a) (Continues (with_scalars f a))
  returns : (a : ProgramState) → (f : ℕ → ℤ) → SameEnd R J (Returns a) (Returns (with_scalars f a))
  traps : (kind : TrapKind) → (line : ℕ) → (a : ProgramState) → (f : ℕ → ℤ) → SameEnd R J (Traps kind line a) (Traps kind line (with_scalars f a))
  spends : (a : ProgramState) → (f : ℕ → ℤ) → SameEnd R J (Spent a) (Spent (with_scalars f a))

-- what comes to the same end from related scalars
pub record Simulates (R R' J : Relation) (F G : ProgramState → Completion) : Type 0 where
  pub same : (a : ProgramState) (f : ℕ → ℤ) → R a.scalars f → SameEnd R' J (F a) (G (with_scalars f a))

-- a value or a trap in the state with other scalars
abbrev pub recast : (ℕ → ℤ) → Evaluated → Evaluated
recast f (Given v s) = Given v (with_scalars f s)
recast f (Caught kind line s) = Caught kind line (with_scalars f s)

-- what gives the same value or trap from related scalars, and changes no scalar
pub record SameValue (R : Relation) (F G : ProgramState → Evaluated) : Type 0 where
  pub same : (a : ProgramState) (f : ℕ → ℤ) → R a.scalars f → G (with_scalars f a) ≡ recast f (F a)
  pub keeps : (a : ProgramState) → (state_given (F a)).scalars ≡ a.scalars

-- ---- less or more is known

-- less is known where the next statement follows
pub weakened : {R R' J : Relation} {x y : Completion} → SameEnd R J x y → ((g f : ℕ → ℤ) → R g f → R' g f) → SameEnd R' J x y
weakened (goes a f r) less = goes a f (less a.scalars f r)
weakened (breaks a f j) less = breaks a f j
weakened (continues a f j) less = continues a f j
weakened (returns a f) less = returns a f
weakened (traps kind line a f) less = traps kind line a f
weakened (spends a f) less = spends a f

-- more is known before, and less after
pub adapted : {R R' S S' J : Relation} (F G : ProgramState → Completion) → Simulates R R' J F G → ((g f : ℕ → ℤ) → S g f → R g f) → ((g f : ℕ → ℤ) → R' g f → S' g f) → Simulates S S' J F G
adapted F G sim more less = record { same = λ a f s. weakened (sim.same a f (more a.scalars f s)) less }

-- ---- one after another

-- what follows
pub then_do-same : {R R' J : Relation} {x y : Completion} (F G : ProgramState → Completion) → SameEnd R J x y → Simulates R R' J F G → SameEnd R' J (then_do x F) (then_do y G)
then_do-same F G (goes a f r) next = next.same a f r
then_do-same F G (breaks a f j) next = breaks a f j
then_do-same F G (continues a f j) next = continues a f j
then_do-same F G (returns a f) next = returns a f
then_do-same F G (traps kind line a f) next = traps kind line a f
then_do-same F G (spends a f) next = spends a f

pub then_do-simulates : {R R' R'' J : Relation} (F G F' G' : ProgramState → Completion) → Simulates R R' J F G → Simulates R' R'' J F' G' →
    Simulates R R'' J (λ s. then_do (F s) F') (λ s. then_do (G s) G')
then_do-simulates F G F' G' first next = record { same = λ a f r. then_do-same F' G' (first.same a f r) next }

-- what follows the body of a loop
after_body-same : {L J : Relation} {x y : Completion} (F G : ProgramState → Completion) → SameEnd L L x y → Simulates L L J F G → SameEnd L J (after_body x F) (after_body y G)
after_body-same F G (goes a f r) next = next.same a f r
after_body-same F G (breaks a f j) next = goes a f j
after_body-same F G (continues a f j) next = next.same a f j
after_body-same F G (returns a f) next = returns a f
after_body-same F G (traps kind line a f) next = traps kind line a f
after_body-same F G (spends a f) next = spends a f

-- nothing
pub GoesOn-simulates : {R J : Relation} → Simulates R R J GoesOn GoesOn
GoesOn-simulates = record { same = λ a f r. goes a f r }

-- a value, and what follows it
do_with-same : {R R' J : Relation} (g f : ℕ → ℤ) (x : Evaluated) (F G : ℤ → ProgramState → Completion) → (state_given x).scalars ≡ g → R g f → ((v : ℤ) → Simulates R R' J (F v) (G v)) →
    SameEnd R' J (do_with x F) (do_with (recast f x) G)
do_with-same {R = R} g f (Given v s) F G kept r next = (next v).same s f (subst (λ (h : ℕ → ℤ). R h f) (sym kept) r)
do_with-same g f (Caught kind line s) F G kept r next = traps kind line s f

pub do_with-simulates : {R R' J : Relation} (E E' : ProgramState → Evaluated) (F G : ℤ → ProgramState → Completion) → SameValue R E E' → ((v : ℤ) → Simulates R R' J (F v) (G v)) →
    Simulates R R' J (λ s. do_with (E s) F) (λ s. do_with (E' s) G)
do_with-simulates {R' = R'} {J = J} E E' F G value next = record {
  same = λ a f r. subst (λ (y : Evaluated). SameEnd R' J (do_with (E a) F) (do_with y G)) (sym (value.same a f r))
      (do_with-same a.scalars f (E a) F G (value.keeps a) r next);
}

-- ---- choices

where_true-simulates : {R R' J : Relation} (b : Bool) (F G F' G' : ProgramState → Completion) → Simulates R R' J F G → Simulates R R' J F' G' → Simulates R R' J (where_true b F F') (where_true b G G')
where_true-simulates true F G F' G' p q = p
where_true-simulates false F G F' G' p q = q

pub side-simulates : {R R' J : Relation} (v : ℤ) (F G F' G' : ProgramState → Completion) → Simulates R R' J F G → Simulates R R' J F' G' → Simulates R R' J (side v F F') (side v G G')
side-simulates v F G F' G' p q = where_true-simulates (holds v) F G F' G' p q

-- ---- loops

turn_from-same : {L J : Relation} (left : ℕ) (F G : ProgramState → Completion) (a : ProgramState) (f : ℕ → ℤ) → L a.scalars f → Simulates L L J F G →
    SameEnd L J (turn_from left F a) (turn_from left G (with_scalars f a))
turn_from-same zero F G a f r sim = spends a f
turn_from-same (suc left) F G a f r sim = sim.same (set_turns left a) f r

turn_of-simulates : {L J : Relation} (F G : ProgramState → Completion) → Simulates L L J F G → Simulates L L J (turn_of F) (turn_of G)
turn_of-simulates F G sim = record { same = λ a f r. turn_from-same a.turns F G a f r sim }

module _ {L J : Relation} (test test' : ProgramState → Evaluated) (step step' body body' : ProgramState → Completion)
    (tests : SameValue L test test') (steps : Simulates L L J step step') (bodies : Simulates L L L body body') where
  round_of-simulates : (F G : ProgramState → Completion) → Simulates L L J F G → Simulates L L J (round_of body step F) (round_of body' step' G)
  round_of-simulates F G next = record {
    same = λ a f r. after_body-same (λ s. then_do (step s) F) (λ s. then_do (step' s) G) (bodies.same a f r) (then_do-simulates step step' F G steps next);
  }

  loop-simulates : (m : ℕ) → Simulates L L J (loop m test step body) (loop m test' step' body')
  loop-simulates zero = record { same = λ a f r. spends a f }
  loop-simulates (suc m) =
      let round = round_of body step (loop m test step body) in
      let round' = round_of body' step' (loop m test' step' body') in
      do_with-simulates test test' (λ v. side v (turn_of round) GoesOn) (λ v. side v (turn_of round') GoesOn) tests
      (λ v. side-simulates v (turn_of round) (turn_of round') GoesOn GoesOn
      (turn_of-simulates round round' (round_of-simulates (loop m test step body) (loop m test' step' body') (loop-simulates m))) GoesOn-simulates)

  pub loop_from-simulates : Simulates L L J (loop_from test step body) (loop_from test' step' body')
  loop_from-simulates = record { same = λ a f r. (loop-simulates (suc a.turns)).same a f r }

-- a loop whose first turn comes before the first test
pub do_loop-simulates : {L J : Relation} (test test' : ProgramState → Evaluated) (body body' : ProgramState → Completion) → SameValue L test test' → Simulates L L L body body' →
    Simulates L L J (do_loop test body) (do_loop test' body')
do_loop-simulates test test' body body' tests bodies =
    turn_of-simulates (round_of body GoesOn (loop_from test GoesOn body)) (round_of body' GoesOn (loop_from test' GoesOn body'))
    (round_of-simulates test test' GoesOn GoesOn body body' tests GoesOn-simulates bodies (loop_from test GoesOn body) (loop_from test' GoesOn body')
    (loop_from-simulates test test' GoesOn GoesOn body body' tests GoesOn-simulates bodies))
