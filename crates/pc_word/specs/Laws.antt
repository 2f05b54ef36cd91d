-- Laws of the definitions. Each is the contract of a function of laws.rt, which does nothing.
use Rattle.std.specs.Prelude.{◌≡◌, ◌≢◌, ℕ, ℤ, pos, List, [], ◌∷◌, Ok, Option, Some, None, All, nat_lt, slice_index}
use Rattle.std.specs.Int.{w32, cast_unsigned}
use Rattle.pc_word.specs.declared.item.End.{End}
use Rattle.pc_word.specs.declared.item.OpCode.{OpCode}
use Rattle.pc_word.specs.declared.item.Item.{Item}
use Rattle.pc_word.specs.declared.item.Item.TheVariants.{Bin, Copy, Load, Store, Print, Read, More}
use Rattle.pc_word.specs.declared.item.MachineFault.TheVariants.{StoreOutOfRange, ReadPastEnd}
use Rattle.pc_word.specs.State.{State, set_name, set_cell, set_input}
use Rattle.pc_word.specs.Items.{operand_value, place_in, element_at, some_left}
use Rattle.pc_word.specs.Row.{RowOutcome, Faults, Commits, item_step}
use Rattle.pc_word.specs.Word.{IsWord, word_of_test, word_add, word_mul, word_div, word_rem, word_below, word_apply}
use Rattle.pc_word.specs.Run.{Run, Grows, Agree, ended_run}
use Rattle.pc_word.specs.NumberText.{text_of, numbers_in}

-- every operator on words gives a word
abbrev pub WordsGiveWords : Type 0
WordsGiveWords = (op : OpCode) (a b : ℤ) → IsWord a → IsWord b → IsWord (word_apply op a b)

-- `below` is the order of the numbers from 0 to 4294967295 that are equal to the words modulo 2^32
abbrev pub BelowIsTheOrderModulo : Type 0
BelowIsTheOrderModulo = (a b : ℤ) → IsWord a → IsWord b → word_below a b ≡ word_of_test (nat_lt (cast_unsigned w32 a) (cast_unsigned w32 b))

-- a quotient times its divisor, with the remainder, is what was divided
abbrev pub DivisionHasItsRemainder : Type 0
DivisionHasItsRemainder = (a b : ℤ) → IsWord a → b ≢ pos 0 → word_add (word_mul (word_div a b) b) (word_rem a b) ≡ a

-- a run agrees with itself
abbrev pub AgreementIsReflexive : Type 0
AgreementIsReflexive = (X : Run) → Agree X X

-- agreement goes both ways
abbrev pub AgreementIsSymmetric : Type 0
AgreementIsSymmetric = (X Y : Run) → Agree X Y → Agree Y X

-- runs that agree with one run agree
abbrev pub AgreementIsTransitive : Type 0
AgreementIsTransitive = (X Y Z : Run) → Agree X Y → Agree Y Z → Agree X Z

-- of two runs that agree, where both have ended they have printed the same and ended alike
abbrev pub AgreeingRunsEndAlike : Type 0
AgreeingRunsEndAlike = (X Y : Run) → Agree X Y → Grows Y → (n m : ℕ) (d e : End) → (X n).end ≡ Some d → (Y m).end ≡ Some e → X n ≡ Y m

-- a run that comes to an end agrees with the run that has printed and ended so from the start
abbrev pub AnEndedRunIsItsEnd : Type 0
AnEndedRunIsItsEnd = (X : Run) (n : ℕ) (printed : List ℤ) (end : End) → Grows X → X n ≡ ended_run printed end n → Agree X (ended_run printed end)

-- the text of words reads back as the words
abbrev pub TextReadsBack : Type 0
TextReadsBack = (numbers : List ℤ) → All IsWord numbers → numbers_in (text_of numbers) ≡ Ok numbers

-- what is read of a text are words
abbrev pub WhatIsReadAreWords : Type 0
WhatIsReadAreWords = (bytes : List ℕ) (numbers : List ℤ) → numbers_in bytes ≡ Ok numbers → All IsWord numbers

-- ---- one item by itself

-- a store at a place, or outside its array
abbrev pub stores_alone : {L : Type 0} → ℕ → Option ℕ → ℤ → L → State → RowOutcome L
stores_alone array (Some place) value leaf s = Commits [] (set_cell array place value s) leaf
stores_alone array None value leaf s = Faults StoreOutOfRange

-- a read of what is left of the input
abbrev pub reads_alone : {L : Type 0} → ℕ → List ℤ → L → State → RowOutcome L
reads_alone dest [] leaf s = Faults ReadPastEnd
reads_alone dest (word ∷ words) leaf s = Commits [] (set_input words (set_name dest word s)) leaf

-- what an item of each kind does by itself
abbrev pub does_alone : {L : Type 0} → List ℕ → Item → L → State → RowOutcome L
does_alone lengths (Bin op dest left right) leaf s =
    Commits [] (set_name dest (word_apply op (operand_value s.names left) (operand_value s.names right)) s) leaf
does_alone lengths (Copy dest from) leaf s = Commits [] (set_name dest (operand_value s.names from) s) leaf
does_alone lengths (Load dest array index) leaf s =
    Commits [] (set_name dest (element_at (s.cells array) (place_in (slice_index lengths array) (operand_value s.names index))) s) leaf
does_alone lengths (Store array index value) leaf s =
    stores_alone array (place_in (slice_index lengths array) (operand_value s.names index)) (operand_value s.names value) leaf s
does_alone lengths (Print value) leaf s = Commits (operand_value s.names value ∷ []) s leaf
does_alone lengths (Read dest) leaf s = reads_alone dest s.input leaf s
does_alone lengths (More dest) leaf s = Commits [] (set_name dest (word_of_test (some_left s.input)) s) leaf

-- the row of one item alone does what the item's kind says, before a leaf that is a number
abbrev pub AnItemAloneDoesItsKind : Type 0
AnItemAloneDoesItsKind = (lengths : List ℕ) (item : Item) (next : ℕ) (s : State) → item_step lengths item next s ≡ does_alone lengths item next s
