-- Moves and removals, as many as there are, keep what a code does, its form and its pace.
use Rattle.std.proofs.Common.{◌≡◌, List, Option, Some, None, refl, ◌∙◌}
use Rattle.std.specs.Prelude.{ℤ}
use Rattle.pc_word.specs.declared.item.End.{End}
use Rattle.pc_word.specs.declared.item.End.TheVariants.{Fault}
use Rattle.pc_word.specs.Run.{Run, Answers, Agree, NeverFaults}
use Rattle.pc_word.proofs.Runs.{Agree-refl, Agree-trans, Answers-refl, Answers-trans}
use Rattle.pc_machine.specs.MachineCode.{CodeRow, RowCode}
use Rattle.pc_machine.specs.MachineRun.{machine_run}
use Rattle.pc_machine.specs.WellFormed.{WellFormed}
use Rattle.pc_tighten.specs.Moves.{moved}
use Rattle.pc_tighten.specs.Removals.{removed}
use Rattle.pc_tighten.specs.Tightened.{ByMoves, No_move, Move, ByRemovals, No_removal, Removal, Tightens, EachIsReachable}
use Rattle.pc_tighten.specs.Pace.{IsNoSlower}
use Rattle.pc_tighten.proofs.Moves.{move_agrees, move_keeps_pace}
use Rattle.pc_tighten.proofs.Removals.{removal_agrees, removal_keeps_pace}
use Rattle.pc_tighten.proofs.Reaches.{move_keeps_all_reached, removal_keeps_all_reached}
use Rattle.pc_tighten.proofs.WellMoved.{move_keeps_form}
use Rattle.pc_tighten.proofs.WellRemoved.{removal_keeps_form}

never_faulting : (X Y : Run) → Agree X Y → NeverFaults X → NeverFaults Y
never_faulting X Y agree never n fault is =
    let m = agree.back n in
    never m.0 fault (ends (Y n).end is m.1)
  where
    ends : (e : Option End) → e ≡ Some (Fault fault) → Answers (Y n) (X (agree.back n).0) e → (X (agree.back n).0).end ≡ Some (Fault fault)
    ends (Some e) same h = h.1 ∙ same
    ends None same h = absurd (cc)

no_slower-refl : (X : Run) → IsNoSlower X X
no_slower-refl X = record { agree = Agree-refl X; pace = λ n. Answers-refl (X n) }

no_slower-trans : (X Y Z : Run) → IsNoSlower X Y → IsNoSlower Y Z → IsNoSlower X Z
no_slower-trans X Y Z a b = record {
  agree = Agree-trans X Y Z a.agree b.agree;
  pace = λ n. Answers-trans (X n) (Y n) (Z n) (X n).end (Y n).end refl (a.pace n) (b.pace n);
}

-- ---- moves

moves_keep_form : {code after : RowCode} → ByMoves code after → WellFormed code → WellFormed after
moves_keep_form No_move well = well
moves_keep_form {code} (Move m t above xs x rest may more) well = moves_keep_form more (move_keeps_form code well m t above xs x rest may)

moves_are_no_slower : {code after : RowCode} → ByMoves code after → WellFormed code → (input : List ℤ) → NeverFaults (machine_run code input)
    → IsNoSlower (machine_run code input) (machine_run after input)
moves_are_no_slower {code} No_move well input never = no_slower-refl (machine_run code input)
moves_are_no_slower {code} {after} (Move m t above xs x rest may more) well input never =
    let next = moved code m t above xs x rest in
    let agree = move_agrees code well m t above xs x rest may input never in
    no_slower-trans (machine_run code input) (machine_run next input) (machine_run after input)
    (record { agree = agree; pace = move_keeps_pace code well m t above xs x rest may input never })
    (moves_are_no_slower more (move_keeps_form code well m t above xs x rest may) input (never_faulting (machine_run code input) (machine_run next input) agree never))

pub moves_keep_reachable : {code after : RowCode} → ByMoves code after → EachIsReachable code.rows → EachIsReachable after.rows
moves_keep_reachable No_move all = all
moves_keep_reachable {code} (Move m t above xs x rest may more) all = moves_keep_reachable more (move_keeps_all_reached code m t above xs x rest may all)

-- some after others
pub moves_on : {code next after : RowCode} → ByMoves code next → ByMoves next after → ByMoves code after
moves_on No_move more = more
moves_on (Move m t above xs x rest may steps) more = Move m t above xs x rest may (moves_on steps more)

-- what the rows have no part in
abbrev pub OfNoRow : {A : Type 0} → (RowCode → A) → Type 0
OfNoRow part = (code : RowCode) (rows : List CodeRow) → (let other : RowCode = record code { rows = rows } in part other) ≡ part code

moves_keep : {A : Type 0} (part : RowCode → A) → OfNoRow part → {code after : RowCode} → ByMoves code after → part after ≡ part code
moves_keep part same No_move = refl
moves_keep part same {code} (Move m t above xs x rest may more) = moves_keep part same more ∙ same code (moved code m t above xs x rest).rows

-- ---- removals

removals_keep_form : {code after : RowCode} → ByRemovals code after → WellFormed code → WellFormed after
removals_keep_form No_removal well = well
removals_keep_form {code} (Removal t u may more) well = removals_keep_form more (removal_keeps_form code well t u may)

removals_are_no_slower : {code after : RowCode} → ByRemovals code after → (input : List ℤ) → IsNoSlower (machine_run code input) (machine_run after input)
removals_are_no_slower {code} No_removal input = no_slower-refl (machine_run code input)
removals_are_no_slower {code} {after} (Removal t u may more) input =
    no_slower-trans (machine_run code input) (machine_run (removed code t u) input) (machine_run after input)
    (record { agree = removal_agrees code t u may input; pace = removal_keeps_pace code t u may input }) (removals_are_no_slower more input)

pub removals_keep_reachable : {code after : RowCode} → ByRemovals code after → EachIsReachable code.rows → EachIsReachable after.rows
removals_keep_reachable No_removal all = all
removals_keep_reachable {code} (Removal t u may more) all = removals_keep_reachable more (removal_keeps_all_reached code t u may all)

-- some after others
pub removals_on : {code next after : RowCode} → ByRemovals code next → ByRemovals next after → ByRemovals code after
removals_on No_removal more = more
removals_on (Removal t u may steps) more = Removal t u may (removals_on steps more)

removals_keep : {A : Type 0} (part : RowCode → A) → OfNoRow part → {code after : RowCode} → ByRemovals code after → part after ≡ part code
removals_keep part same No_removal = refl
removals_keep part same {code} (Removal t u may more) = removals_keep part same more ∙ same code (removed code t u).rows

-- ---- removals, moves, and removals after them

pub tightening_keeps_form : {code after : RowCode} → Tightens code after → WellFormed code → WellFormed after
tightening_keeps_form steps well = removals_keep_form steps.removals (moves_keep_form steps.moves (removals_keep_form steps.first_removals well))

pub tightening_is_no_slower : {code after : RowCode} → Tightens code after → WellFormed code → (input : List ℤ) → NeverFaults (machine_run code input)
    → IsNoSlower (machine_run code input) (machine_run after input)
tightening_is_no_slower {code} {after} steps well input never =
    let first = removals_are_no_slower steps.first_removals input in
    let first_never = never_faulting (machine_run code input) (machine_run steps.first input) first.agree never in
    no_slower-trans (machine_run code input) (machine_run steps.first input) (machine_run after input) first
    (no_slower-trans (machine_run steps.first input) (machine_run steps.between input) (machine_run after input)
    (moves_are_no_slower steps.moves (removals_keep_form steps.first_removals well) input first_never) (removals_are_no_slower steps.removals input))

pub tightening_keeps_reachable : {code after : RowCode} → Tightens code after → EachIsReachable code.rows → EachIsReachable after.rows
tightening_keeps_reachable steps all =
    removals_keep_reachable steps.removals (moves_keep_reachable steps.moves (removals_keep_reachable steps.first_removals all))

-- all but the rows is as before
pub tightening_keeps : {A : Type 0} (part : RowCode → A) → OfNoRow part → {code after : RowCode} → Tightens code after → part after ≡ part code
tightening_keeps part same steps = removals_keep part same steps.removals ∙ moves_keep part same steps.moves ∙ removals_keep part same steps.first_removals
