-- Laws of what a source program means. Each is the contract of a function of laws.rt, which does nothing.
use Rattle.std.specs.Prelude.{◌≡◌, ◌≢◌, ℕ, ◌+◌, ◌<◌, ℤ, pos, List, length, Some, is_some}
use Rattle.std.specs.List.{count_by}
use Rattle.pc_word.specs.declared.item.MachineFault.{MachineFault}
use Rattle.pc_word.specs.declared.item.End.TheVariants.{Fault}
use Rattle.pc_word.specs.Run.{Grows}
use Rattle.pc_word.specs.Word.{word_of_test, holds, word_below, word_unequal}
use Rattle.pc_word.specs.Items.{place_in}
use Rattle.pc_syntax.specs.declared.operator.UnaryOp.{UnaryOp}
use Rattle.pc_syntax.specs.declared.operator.BinaryOp.{BinaryOp}
use Rattle.pc_syntax.specs.Source.{SourceExpression, SourceStatement, OptionalStatement, ResolvedProgram}
use Rattle.pc_meaning.specs.ProgramState.{ProgramState, set_left}
use Rattle.pc_meaning.specs.Expression.{state_given, eval, prefix_value, binary_value}
use Rattle.pc_meaning.specs.Lowered.{lowered_prefix, lowered_binary}
use Rattle.pc_meaning.specs.Statement.{state_at_end, loop, execute, execute_optional}
use Rattle.pc_meaning.specs.SourceRun.{outcome_of, source_run}
use Rattle.pc_meaning.specs.Trace.{trace_of, is_print, is_read}

-- with more turns a program has printed no less, and an end stays
abbrev pub SourceRunsGrow : Type 0
SourceRunsGrow = (program : ResolvedProgram) (input : List ℤ) → Grows (source_run program input)

-- an expression changes nothing but the input: the scalars, the elements, what was printed and the turns are as before
abbrev pub ExpressionsOnlyRead : Type 0
ExpressionsOnlyRead =
    (lengths : List ℕ) (e : SourceExpression) (s : ProgramState)
    → state_given (eval lengths e s) ≡ set_left (state_given (eval lengths e s)).input s

-- no program comes to a machine's fault
abbrev pub SourceRunsAreFaultless : Type 0
SourceRunsAreFaultless =
    (program : ResolvedProgram) (input : List ℤ) (n : ℕ) (fault : MachineFault)
    → (source_run program input n).end ≢ Some (Fault fault)

-- how many tests a loop may make changes nothing, where they are more than the turns that are left
abbrev pub LoopsEndByTheirTurns : Type 0
LoopsEndByTheirTurns =
    (lengths : List ℕ) (test : SourceExpression) (step : OptionalStatement) (body : SourceStatement) (m n : ℕ) (s : ProgramState) → s.turns < m → s.turns < n
    → loop m (eval lengths test) (execute_optional lengths step) (execute lengths body) s ≡ loop n (eval lengths test) (execute_optional lengths step) (execute lengths body) s

-- as many prints are passed as numbers are printed
abbrev pub TracesCountPrints : Type 0
TracesCountPrints =
    (program : ResolvedProgram) (input : List ℤ) (n : ℕ)
    → length (source_run program input n).printed ≡ count_by is_print (trace_of program input n)

-- as many reads are passed as numbers of the input are taken
abbrev pub TracesCountReads : Type 0
TracesCountReads =
    (program : ResolvedProgram) (input : List ℤ) (n : ℕ)
    → length input ≡ length (state_at_end (outcome_of program input n)).input + count_by is_read (trace_of program input n)

-- the operators to which unary operators are lowered give their values
abbrev pub UnaryOperatorsAreLowered : Type 0
UnaryOperatorsAreLowered = (op : UnaryOp) (a : ℤ) → prefix_value op a ≡ lowered_prefix op a

-- and so do those to which binary operators are lowered
abbrev pub BinaryOperatorsAreLowered : Type 0
BinaryOperatorsAreLowered = (op : BinaryOp) (a b : ℤ) → binary_value op a b ≡ lowered_binary op a b

-- an index is inside an array exactly where `below` gives 1 of it and the array's length
abbrev pub BoundsAreTestedByBelow : Type 0
BoundsAreTestedByBelow = (length : ℕ) (index : ℤ) → word_below index (pos length) ≡ word_of_test (is_some (place_in length index))

-- the value of `&&` and `||` is that of a comparison with 0
abbrev pub TruthIsUnequalToZero : Type 0
TruthIsUnequalToZero = (value : ℤ) → word_of_test (holds value) ≡ word_unequal value (pos 0)
