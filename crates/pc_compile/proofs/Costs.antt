-- The rows of copies after a leaf are no more than the leaf's cost allows.
use Rattle.std.proofs.Common.{◌≡◌, ℕ, zero, suc, ◌+◌, ◌*◌, ◌≤◌, List, [], ◌∷◌, length, refl, arith}
use Rattle.std.specs.Prelude.{Bool, true, false, if◌then◌else◌, nat_le}
use Rattle.std.specs.List.{AllByRecursion}
use Rattle.pc_word.specs.declared.item.Operand.{Operand}
use Rattle.pc_window.specs.declared.home.Home.{Home}
use Rattle.pc_copies.specs.declared.moves.Move.{Move}
use Rattle.pc_copies.specs.Moves.{IsCopyRow, nontrivial_moves, one_names, copies_in, IsArranged}
use Rattle.pc_emit.specs.Registers.{argument_moves, home_moves}
use Rattle.pc_emit.proofs.FewCopies.{kept_few, copies_few}
use Rattle.pc_compile.specs.ScheduleRun.{passing_cost}

-- each row has a copy
rows_few : (named : ℕ → Bool) (ops scratch : ℕ) (copies : List (List Move)) → AllByRecursion (IsCopyRow named ops scratch) copies → length copies ≤ copies_in copies
rows_few named ops scratch [] fit = omega arith
rows_few named ops scratch (row ∷ rows) fit =
    let some = fit.0.some in
    let rest = rows_few named ops scratch rows fit.1 in
    omega (arith, some, rest)

-- a test of numbers that passes tells their order
at_most : (n m : ℕ) → nat_le n m ≡ true → n ≤ m
at_most n m e = grind (arith, e)

-- copies that pass so many values, and the row before them, take no more cycles than that costs
pub passing_few : (moves : List Move) (ops scratch : ℕ) (copies : List (List Move)) → IsArranged moves ops scratch copies → (passed : ℕ) → length moves ≤ passed
    → suc (length copies) ≤ passing_cost ops passed
passing_few moves ops scratch copies arranged zero few =
    let rows = rows_few (one_names (nontrivial_moves moves)) ops scratch copies arranged.rows_fit in
    let all = copies_few moves (copies_in copies) arranged.copies in
    omega (arith, few, rows, all)
passing_few moves ops scratch copies arranged (suc more) few = by_test (nat_le (suc more) ops) refl
  where
    by_test : (b : Bool) → nat_le (suc more) ops ≡ b → suc (length copies) ≤ (if b then 2 else 1 + 2 * suc more)
    by_test true e =
        let fit = at_most (suc more) ops e in
        let all = kept_few moves in
        let one = arranged.one (omega (arith, fit, all, few)) in
        omega (arith, one)
    by_test false e =
        let rows = rows_few (one_names (nontrivial_moves moves)) ops scratch copies arranged.rows_fit in
        let all = copies_few moves (copies_in copies) arranged.copies in
        omega (arith, few, rows, all)

-- no more moves pass arguments than there are arguments
pub arguments_many : (of to : ℕ → ℕ) (parameters : List ℕ) (arguments : List Operand) → length (argument_moves of to parameters arguments) ≤ length arguments
arguments_many of to [] arguments = omega arith
arguments_many of to (parameter ∷ parameters) [] = omega arith
arguments_many of to (parameter ∷ parameters) (argument ∷ arguments) =
    let rest = arguments_many of to parameters arguments in
    omega (arith, rest)

-- and as many pass homes as there are homes
pub homes_many : (of : ℕ → ℕ) (homes : List Home) → length (home_moves of homes) ≤ length homes
homes_many of [] = omega arith
homes_many of (home ∷ homes) =
    let rest = homes_many of homes in
    omega (arith, rest)
