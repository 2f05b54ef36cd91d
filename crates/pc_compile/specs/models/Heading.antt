-- Which choice is of each loop, as the code finds it, and the notes that it makes of that.
use Rattle.std.specs.Prelude.{◌≡◌, ℕ, suc, ◌<◌, List, [], ◌∷◌, ◌++◌, Option, Some, None, replicate, slice_get, slice_set}
use Rattle.pc_word.specs.declared.loop_mark.LoopMark.{LoopMark}
use Rattle.pc_table.specs.Table.{Table}
use Rattle.pc_table.specs.Loops.{headed_loop}
use Rattle.pc_compile.specs.declared.choice.Choice.{Choice}
use Rattle.pc_object.specs.declared.object.Note.{Note}
use Rattle.pc_compile.specs.Notes.{choice_notes}

-- the place of a choice is that of a loop, if there is one
abbrev pub heading_set : List (Option ℕ) → (loop : Option ℕ) → (choice : Option ℕ) → List (Option ℕ)
heading_set heading None choice = heading
heading_set heading (Some loop) choice = slice_set heading loop choice

-- for each of so many loops the place of the first choice that heads it, where the first choice has this place
abbrev pub headings : Table → (loops at : ℕ) → List Choice → List (Option ℕ)
headings table loops at [] = replicate loops None
headings table loops at (choice ∷ choices) =
    heading_set (headings table loops (suc at) choices) (headed_loop table choice.region) (Some at)

-- the same without those of loops in which others stand
abbrev pub without_outer : List (Option ℕ) → List LoopMark → List (Option ℕ)
without_outer heading [] = heading
without_outer heading (mark ∷ marks) = without_outer (heading_set heading mark.outer None) marks

-- each place that is told is one of so many
abbrev pub ArePlaces : ℕ → List (Option ℕ) → Type 0
ArePlaces count heading = (loop place : ℕ) → slice_get heading loop ≡ Some (Some place) → place < count

-- the choice at a place, if one is told
abbrev pub choice_in : List Choice → Option ℕ → Option Choice
choice_in choices None = None
choice_in choices (Some at) = slice_get choices at

-- the notes of loops whose choices have these places
abbrev pub noted : List Choice → List LoopMark → List (Option ℕ) → List Note
noted choices (mark ∷ marks) (place ∷ heading) = choice_notes mark.line (choice_in choices place) ++ noted choices marks heading
noted choices _ _ = []
