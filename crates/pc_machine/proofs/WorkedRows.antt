-- Rows and codes worked by hand, and computed by the definitions.
use Rattle.std.proofs.Common.{◌≡◌, ℕ, List, [], ◌∷◌, Some, refl}
use Rattle.std.specs.Prelude.{ℤ, pos, negsuc}
use Rattle.std.specs.Int.{int_wrap}
use Rattle.pc_word.specs.declared.item.End.TheVariants.{Ended, Trapped, Fault}
use Rattle.pc_word.specs.declared.item.Item.TheVariants.{Bin, Copy, Load, Store, Print, Read, More}
use Rattle.pc_word.specs.declared.item.MachineFault.TheVariants.{StoreOutOfRange, StoredTwice, ReadPastEnd}
use Rattle.pc_word.specs.declared.item.OpCode.TheVariants.{Add, Div}
use Rattle.pc_word.specs.declared.item.Operand.TheVariants.{Name, Lit}
use Rattle.pc_word.specs.declared.item.TrapKind.TheVariants.{EndOfInput}
use Rattle.pc_word.specs.Run.{Seen}
use Rattle.pc_word.specs.Word.{word_add, word_div}
use Rattle.pc_machine.specs.declared.tree.Leaf.TheVariants.{Goto, Stop, Trap}
use Rattle.pc_machine.specs.Registers.{few_registers}
use Rattle.pc_machine.specs.MachineCode.{CodeRow, RowCode}
use Rattle.pc_word.specs.Row.{Then, Either, At_leaf}
use Rattle.pc_machine.specs.MachineRun.{machine_run}

-- the code of these rows, over arrays of these lengths, which begin with these words
abbrev code_with_data : List ℕ → List (List ℤ) → List CodeRow → RowCode
code_with_data arrays initial rows =
    record { limits = record { ops = 8; tests = 3; mem = 2 }; registers = few_registers; arrays = arrays; initial = initial; rows = rows }

-- the same without such words
abbrev code_with : List ℕ → List CodeRow → RowCode
code_with arrays rows = code_with_data arrays [] rows

-- what was printed before the end
abbrev ended : List ℤ → Seen
ended printed = record { printed = printed; end = Some Ended }

abbrev stop : CodeRow
stop = At_leaf Stop

-- `print 7; stop` prints 7, whatever the input
prints_seven : (input : List ℤ) → machine_run (code_with [] (Then (Print (Lit (pos 7))) stop ∷ [])) input 1 ≡ ended (pos 7 ∷ [])
prints_seven input = refl

-- `stop` prints nothing, and ends in one cycle and in more
only_stops : (input : List ℤ) → machine_run (code_with [] (stop ∷ [])) input 1 ≡ ended []
only_stops input = refl

stays_stopped : (input : List ℤ) → machine_run (code_with [] (stop ∷ [])) input 5 ≡ ended []
stays_stopped input = refl

-- in no cycle nothing is seen
goes_on : (input : List ℤ) → (machine_run (code_with [] (stop ∷ [])) input 0).printed ≡ []
goes_on input = refl

-- `r0 = more; goto 1`, and then a test of r0: to yes where a number is left, and else to no
tests_more : RowCode
tests_more = code_with [] (
    Then (More 0) (At_leaf (Goto 1))
    ∷ Either (Name 0) (Then (Print (Lit (pos 1))) stop) (Then (Print (Lit (pos 2))) (At_leaf (Trap EndOfInput 9)))
    ∷ [])

goes_to_yes : machine_run tests_more (negsuc 4 ∷ []) 2 ≡ ended (pos 1 ∷ [])
unfolding tests_more
goes_to_yes = refl

goes_to_no : machine_run tests_more [] 2 ≡ record { printed = pos 2 ∷ []; end = Some (Trapped EndOfInput 9) }
unfolding tests_more
goes_to_no = refl

-- a test sees the value from before the row, which an item above it changes
tests_old_value : (input : List ℤ) → machine_run (code_with [] (
    Then (Copy 0 (Lit (pos 1))) (Either (Name 0) (Then (Print (Lit (pos 1))) stop) (Then (Print (Lit (pos 2))) stop)) ∷ [])) input 1
    ≡ ended (pos 2 ∷ [])
tests_old_value input = refl

-- two registers change places in one row
swaps : (input : List ℤ) → machine_run (code_with [] (
    Then (Copy 0 (Lit (pos 5))) (Then (Copy 1 (Lit (pos 6))) (At_leaf (Goto 1)))
    ∷ Then (Copy 0 (Name 1)) (Then (Copy 1 (Name 0)) (At_leaf (Goto 2)))
    ∷ Then (Print (Name 0)) (At_leaf (Goto 3))
    ∷ Then (Print (Name 1)) stop
    ∷ [])) input 4
    ≡ ended (pos 6 ∷ pos 5 ∷ [])
swaps input = refl

-- two stores to one element fault, and what the row would print is not printed
stores_twice : (input : List ℤ) → machine_run (code_with (4 ∷ []) (
    Then (Print (Lit (pos 3))) (Then (Store 0 (Lit (pos 1)) (Lit (pos 5))) (Then (Store 0 (Lit (pos 1)) (Lit (pos 6))) stop)) ∷ [])) input 1
    ≡ record { printed = []; end = Some (Fault StoredTwice) }
stores_twice input = refl

-- two stores to two elements do not
stores_beside : (input : List ℤ) → machine_run (code_with (4 ∷ []) (
    Then (Store 0 (Lit (pos 1)) (Lit (pos 5))) (Then (Store 0 (Lit (pos 2)) (Lit (pos 6))) (At_leaf (Goto 1)))
    ∷ Then (Load 0 0 (Lit (pos 1))) (Then (Load 1 0 (Lit (pos 2))) (At_leaf (Goto 2)))
    ∷ Then (Print (Name 0)) (At_leaf (Goto 3))
    ∷ Then (Print (Name 1)) stop
    ∷ [])) input 4
    ≡ ended (pos 5 ∷ pos 6 ∷ [])
stores_beside input = refl

-- a load after a store of the same element sees the element from before the row
loads_old_element : (input : List ℤ) → machine_run (code_with (4 ∷ []) (
    Then (Store 0 (Lit (pos 2)) (Lit (pos 5))) (At_leaf (Goto 1))
    ∷ Then (Store 0 (Lit (pos 2)) (Lit (pos 8))) (Then (Load 1 0 (Lit (pos 2))) (At_leaf (Goto 2)))
    ∷ Then (Print (Name 1)) (At_leaf (Goto 3))
    ∷ Then (Load 1 0 (Lit (pos 2))) (At_leaf (Goto 4))
    ∷ Then (Print (Name 1)) stop
    ∷ [])) input 5
    ≡ ended (pos 5 ∷ pos 8 ∷ [])
loads_old_element input = refl

-- a load outside its array gives 0, on both sides of it
loads_outside : (input : List ℤ) → machine_run (code_with (4 ∷ []) (
    Then (Copy 0 (Lit (pos 3))) (Then (Copy 1 (Lit (pos 3))) (At_leaf (Goto 1)))
    ∷ Then (Load 0 0 (Lit (pos 4))) (Then (Load 1 0 (Lit (negsuc 0))) (At_leaf (Goto 2)))
    ∷ Then (Print (Name 0)) (At_leaf (Goto 3))
    ∷ Then (Print (Name 1)) stop
    ∷ [])) input 4
    ≡ ended (pos 0 ∷ pos 0 ∷ [])
loads_outside input = refl

-- a store out of range is told before two stores to one element, and that before a read without input
order_of_faults : machine_run (code_with (4 ∷ []) (
    Then (Read 0) (Then (Store 0 (Lit (pos 1)) (Lit (pos 5))) (Then (Store 0 (Lit (pos 1)) (Lit (pos 6))) (Then (Store 0 (Lit (pos 4)) (Lit (pos 7))) stop))) ∷ [])) [] 1
    ≡ record { printed = []; end = Some (Fault StoreOutOfRange) }
order_of_faults = refl

twice_before_read : machine_run (code_with (4 ∷ []) (
    Then (Read 0) (Then (Store 0 (Lit (pos 1)) (Lit (pos 5))) (Then (Store 0 (Lit (pos 1)) (Lit (pos 6))) stop)) ∷ [])) [] 1
    ≡ record { printed = []; end = Some (Fault StoredTwice) }
twice_before_read = refl

-- a read takes a number, and faults where none is left
reads_on : machine_run (code_with [] (
    Then (Read 0) (At_leaf (Goto 1))
    ∷ Then (Print (Name 0)) (At_leaf (Goto 0))
    ∷ [])) (pos 4 ∷ negsuc 8 ∷ []) 9
    ≡ record { printed = pos 4 ∷ negsuc 8 ∷ []; end = Some (Fault ReadPastEnd) }
reads_on = refl

-- a store that is not on the path that is taken does not count
not_taken : (input : List ℤ) → machine_run (code_with (4 ∷ []) (
    Either (Name 3) (Then (Store 0 (Lit (pos 9)) (Lit (pos 1))) stop) (Then (Print (Lit (pos 1))) stop) ∷ [])) input 1
    ≡ ended (pos 1 ∷ [])
not_taken input = refl

-- a sum wraps, and a quotient by 0 is 0
computes : (input : List ℤ) → machine_run (code_with [] (
    Then (Bin Add 0 (Lit (pos 2147483647)) (Lit (pos 1))) (Then (Bin Div 1 (Lit (pos 9)) (Name 0)) (At_leaf (Goto 1)))
    ∷ Then (Print (Name 0)) (At_leaf (Goto 2))
    ∷ Then (Print (Name 1)) stop
    ∷ [])) input 3
    ≡ ended (negsuc 2147483647 ∷ pos 0 ∷ [])
unfolding word_add word_div int_wrap
computes input = refl

-- an array begins with its data and goes on with 0, and so does one that has none
begins_with_data : (input : List ℤ) → machine_run (code_with_data (4 ∷ 2 ∷ []) ((pos 0 ∷ pos 6 ∷ []) ∷ [] ∷ []) (
    Then (Load 0 0 (Lit (pos 1))) (Then (Load 1 0 (Lit (pos 2))) (Then (Load 2 1 (Lit (pos 0))) (At_leaf (Goto 1))))
    ∷ Then (Print (Name 0)) (At_leaf (Goto 2))
    ∷ Then (Print (Name 1)) (At_leaf (Goto 3))
    ∷ Then (Print (Name 2)) stop
    ∷ [])) input 4
    ≡ ended (pos 6 ∷ pos 0 ∷ pos 0 ∷ [])
begins_with_data input = refl
