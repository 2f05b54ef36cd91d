-- The notes of an object: which form the code of each innermost loop got, and what decided it.
use Rattle.std.specs.Prelude.{ℕ, suc, ◌+◌, ◌-◌, if◌then◌else◌, List, [], ◌∷◌, ◌++◌, length, Option, Some, None, slice_get}
use Rattle.pc_word.specs.declared.loop_mark.LoopMark.{LoopMark}
use Rattle.pc_table.specs.Table.{Table}
use Rattle.pc_table.specs.Loops.{same_loop, headed_loop, is_innermost}
use Rattle.pc_compile.specs.declared.choice.Form.{Form}
use Rattle.pc_compile.specs.declared.choice.Form.TheVariants.{Pipelined, Packed, Plain}
use Rattle.pc_compile.specs.declared.choice.Cause.{Cause}
use Rattle.pc_compile.specs.declared.choice.Cause.TheVariants.{Rows, Live, Bytes}
use Rattle.pc_compile.specs.declared.choice.Choice.{Choice}
use Rattle.pc_object.specs.declared.object.Note.{Note}

-- a note at a line
abbrev pub line_note : (line choice number limit : ℕ) → Note
line_note line choice number limit = record { choice = choice; line = line; number = number; limit = limit }

-- the note of a form that was not given for a cause: the first of three choices is that of too many rows
abbrev pub caused_note : (line first : ℕ) → Cause → Note
caused_note line first (Rows number limit) = line_note line first number limit
caused_note line first (Live number limit) = line_note line (1 + first) number limit
caused_note line first (Bytes number limit) = line_note line (2 + first) number limit

-- the note of a packed region: why it is not pipelined, or that its window holds one iteration of one
abbrev pub packed_note : (line : ℕ) → Option Cause → Note
packed_note line None = line_note line 4 1 1
packed_note line (Some cause) = caused_note line 1 cause

-- the note of a plain region: why it is not packed
abbrev pub plain_notes : (line : ℕ) → Option Cause → List Note
plain_notes line None = []
plain_notes line (Some cause) = caused_note line 5 cause ∷ []

-- the note of a form, where the forms before it were refused for these causes: a pipelined one has so many states, of at most so
-- many rows; the first cause is that for which one is not pipelined, and the last that for which it is not packed
abbrev pub form_notes : (line : ℕ) → Form → List Cause → List Note
form_notes line (Pipelined states rows) causes = line_note line 0 states rows ∷ []
form_notes line Packed causes = packed_note line (slice_get causes 0) ∷ []
form_notes line Plain causes = plain_notes line (slice_get causes (length causes - 1))

-- a note that there may be, as a list
abbrev pub note_list : Option Note → List Note
note_list None = []
note_list (Some note) = note ∷ []

-- the first choice of a region that heads a loop
abbrev pub choice_heading : Table → List Choice → (loop : ℕ) → Option Choice
choice_heading table [] loop = None
choice_heading table (choice ∷ choices) loop =
    if same_loop (headed_loop table choice.region) (Some loop) then Some choice else choice_heading table choices loop

-- the note of a choice, where there is one
abbrev pub choice_notes : (line : ℕ) → Option Choice → List Note
choice_notes line None = []
choice_notes line (Some choice) = form_notes line choice.form choice.causes

-- the note of a loop: it has one where no loop stands in it and a region that heads it has a form
abbrev pub loop_notes : Table → List Choice → (loop : ℕ) → LoopMark → List Note
loop_notes table choices loop mark = if is_innermost table.loops loop then choice_notes mark.line (choice_heading table choices loop) else []

-- the notes of loops, the first of which has this number
abbrev pub notes_from : Table → List Choice → (loop : ℕ) → List LoopMark → List Note
notes_from table choices loop [] = []
notes_from table choices loop (mark ∷ marks) = loop_notes table choices loop mark ++ notes_from table choices (suc loop) marks

-- the notes of an object, in the order of the loops
abbrev pub notes_of : Table → List Choice → List Note
notes_of table choices = notes_from table choices 0 table.loops
