-- What the code tells of loops is what the notes say of them.
use Rattle.std.proofs.Common.{◌≡◌, ◌≢◌, inl, inr, ℕ, zero, suc, ◌+◌, ◌<◌, ◌≤◌, List, [], ◌∷◌, ◌++◌, length, length-append, append_assoc}
use Rattle.std.proofs.Common.{Option, Some, None, refl, sym, ◌∙◌, ap, subst, arith}
use Rattle.std.specs.Prelude.{Bool, true, false, not, ◌||◌, nat_eq, if◌then◌else◌, IfSome, replicate, slice_get, slice_index_or, slice_set}
use Rattle.std.specs.List.{list_any}
use Rattle.std.proofs.lemmas.List.{length-replicate}
use Rattle.std.proofs.lemmas.Option.{slice_get_within}
use Rattle.pc_word.specs.declared.loop_mark.LoopMark.{LoopMark}
use Rattle.pc_word.proofs.Lists.{set_at, set_length}
use Rattle.pc_table.specs.Table.{Table}
use Rattle.pc_table.specs.Loops.{same_loop, headed_loop}
use Rattle.pc_compile.specs.declared.choice.Choice.{Choice}
use Rattle.pc_object.specs.declared.object.Note.{Note}
use Rattle.pc_compile.specs.Notes.{form_notes, choice_heading, choice_notes, loop_notes, note_list, notes_from, notes_of}
use Rattle.pc_compile.specs.models.Heading.{heading_set, headings, without_outer, ArePlaces, choice_in, noted}
use Rattle.pc_word.proofs.Places.{set_there as set_same, set_elsewhere as set_other}

-- ---- lists in which a place is set

set_outside : {X : Type 0} (xs : List X) (i : ℕ) (x : X) → length xs ≤ i → slice_set xs i x ≡ xs
set_outside [] i x le = refl
set_outside (y ∷ xs) zero x le = absurd (omega (arith, le))
set_outside (y ∷ xs) (suc i) x le = ap (λ (l : _). y ∷ l) (set_outside xs i x (omega (arith, le)))

-- numbers that a test tells apart
told_apart : (i j : ℕ) → nat_eq i j ≡ false → i ≢ j
told_apart i j e same = let is : nat_eq i j ≡ true = grind (arith, same) in let no : true ≡ false = sym is ∙ e in absurd (cc)

replicated : {X : Type 0} (n : ℕ) (x : X) (i : ℕ) → i < n → slice_get (replicate n x) i ≡ Some x
replicated zero x i lt = absurd (omega (arith, lt))
replicated (suc n) x zero lt = refl
replicated (suc n) x (suc i) lt = replicated n x i (omega (arith, lt))

-- ---- places of choices

set_as_long : (heading : List (Option ℕ)) (loop choice : Option ℕ) → length (heading_set heading loop choice) ≡ length heading
set_as_long heading None choice = refl
set_as_long heading (Some loop) choice = set_length heading loop choice

headings_as_long : (table : Table) (loops at : ℕ) (choices : List Choice) → length (headings table loops at choices) ≡ loops
headings_as_long table loops at [] = length-replicate loops None
headings_as_long table loops at (choice ∷ choices) =
    set_as_long (headings table loops (suc at) choices) (headed_loop table choice.region) (Some at)
    ∙ headings_as_long table loops (suc at) choices

without_as_long : (heading : List (Option ℕ)) (marks : List LoopMark) → length (without_outer heading marks) ≡ length heading
without_as_long heading [] = refl
without_as_long heading (mark ∷ marks) = without_as_long (heading_set heading mark.outer None) marks ∙ set_as_long heading mark.outer None

-- what stands at a place once another is set
set_there : (heading : List (Option ℕ)) (outer choice : Option ℕ) (loop : ℕ) (was : Option ℕ) → slice_get heading loop ≡ Some was → loop < length heading
    → slice_get (heading_set heading outer choice) loop ≡ Some (if same_loop outer (Some loop) then choice else was)
set_there heading None choice loop was at lt = at
set_there heading (Some outer) choice loop was at lt = by (nat_eq outer loop) refl
  where
    by : (b : Bool) → nat_eq outer loop ≡ b
        → slice_get (slice_set heading outer choice) loop ≡ Some (if nat_eq outer loop then choice else was)
    by true e =
        let same : outer ≡ loop = grind (arith, e) in
        subst (λ (n : ℕ). slice_get (slice_set heading n choice) loop ≡ Some choice) (sym same) (set_same heading loop choice lt)
        ∙ ap (λ (c : Bool). Some (if c then choice else was)) (sym e)
    by false e =
        set_other heading outer loop choice (told_apart outer loop e) ∙ at ∙ ap (λ (c : Bool). Some (if c then choice else was)) (sym e)

-- ---- innermost loops

-- a loop keeps its place where no other stands in it
without_there : (heading : List (Option ℕ)) (marks : List LoopMark) (loop : ℕ) (was : Option ℕ) → slice_get heading loop ≡ Some was
    → loop < length heading
    → slice_get (without_outer heading marks) loop ≡ Some (if list_any (λ mark. same_loop mark.outer (Some loop)) marks then None else was)
without_there heading [] loop was at lt = at
without_there heading (mark ∷ marks) loop was at lt =
    let long = set_as_long heading mark.outer None in
    without_there (heading_set heading mark.outer None) marks loop (if same_loop mark.outer (Some loop) then None else was)
    (set_there heading mark.outer None loop was at lt) (omega (arith, long, lt))
    ∙ ap Some (both (same_loop mark.outer (Some loop)) (list_any (λ m. same_loop m.outer (Some loop)) marks))
  where
    both : (b c : Bool) → (if c then None else (if b then None else was)) ≡ (if b || c then None else was)
    both true true = refl
    both true false = refl
    both false c = refl

-- ---- choices that head loops

-- after some choices stand these
behind : (before choices : List Choice) (choice : Choice) → slice_get (before ++ (choice ∷ choices)) (length before) ≡ Some choice
behind [] choices choice = refl
behind (first ∷ before) choices choice = behind before choices choice

-- what is told of a loop among these choices: a place, and the choice there
pub record Told (all : List Choice) (heading : List (Option ℕ)) (loop : ℕ) (choice : Option Choice) : Type 0 where
  pub place : Option ℕ
  pub there : slice_get heading loop ≡ Some place
  pub is : choice_in all place ≡ choice

-- the place that is told of a loop is that of the first choice that heads it
told_of : (table : Table) (loops : ℕ) (before choices : List Choice) (loop : ℕ) → loop < loops
    → Told (before ++ choices) (headings table loops (length before) choices) loop (choice_heading table choices loop)
told_of table loops before [] loop lt = record { place = None; there = replicated loops None loop lt; is = refl }
told_of table loops before (choice ∷ choices) loop lt =
    let all = before ++ (choice ∷ choices) in
    let same : (before ++ (choice ∷ [])) ++ choices ≡ all = append_assoc before (choice ∷ []) choices in
    let many : length (before ++ (choice ∷ [])) ≡ suc (length before) = (let e = length-append before (choice ∷ []) in omega (arith, e)) in
    let rest : Told all (headings table loops (suc (length before)) choices) loop (choice_heading table choices loop) =
    subst (λ (l : List Choice). Told l (headings table loops (suc (length before)) choices) loop (choice_heading table choices loop)) same
    (subst (λ (n : ℕ). Told ((before ++ (choice ∷ [])) ++ choices) (headings table loops n choices) loop (choice_heading table choices loop)) many
    (told_of table loops (before ++ (choice ∷ [])) choices loop lt)) in
    let long = headings_as_long table loops (suc (length before)) choices in
    let headed = headed_loop table choice.region in
    record {
      place = if same_loop headed (Some loop) then Some (length before) else rest.place;
      there = set_there (headings table loops (suc (length before)) choices) headed (Some (length before)) loop rest.place rest.there
          (omega (arith, long, lt));
      is = by (same_loop headed (Some loop)) rest.place (choice_heading table choices loop) rest.is;
    }
  where
    by : (b : Bool) (place : Option ℕ) (found : Option Choice) → choice_in (before ++ (choice ∷ choices)) place ≡ found
        → choice_in (before ++ (choice ∷ choices)) (if b then Some (length before) else place) ≡ (if b then Some choice else found)
    by true place found e = behind before choices choice
    by false place found e = e

-- ---- the notes

-- where each loop's choice is told, and none of one that is not innermost, the notes are those of the loops
noted_told : (table : Table) (choices : List Choice) (loop : ℕ) (marks : List LoopMark) (heading : List (Option ℕ))
    → ((at : ℕ) (mark : LoopMark) (place : Option ℕ) → slice_get marks at ≡ Some mark → slice_get heading at ≡ Some place
    → choice_notes mark.line (choice_in choices place) ≡ loop_notes table choices (at + loop) mark)
    → length heading ≡ length marks → noted choices marks heading ≡ notes_from table choices loop marks
noted_told table choices loop [] [] told long = refl
noted_told table choices loop [] (place ∷ heading) told long = absurd (omega (arith, long))
noted_told table choices loop (mark ∷ marks) [] told long = absurd (omega (arith, long))
noted_told table choices loop (mark ∷ marks) (place ∷ heading) told long =
    let here : choice_notes mark.line (choice_in choices place) ≡ loop_notes table choices loop mark =
    told 0 mark place refl refl ∙ ap (λ (n : ℕ). loop_notes table choices n mark) (let e : 0 + loop ≡ loop = omega arith in e) in
    (λ i. here i ++ noted choices marks heading)
    ∙ ap (λ (l : List Note). loop_notes table choices loop mark ++ l)
    (noted_told table choices (suc loop) marks heading
    (λ at other where_to there told_there. told (suc at) other where_to there told_there
    ∙ ap (λ (n : ℕ). loop_notes table choices n other) (let e : suc at + loop ≡ at + suc loop = omega arith in e))
    (omega (arith, long)))

module _ (table : Table) (choices : List Choice) where
  abbrev told_places : List (Option ℕ)
  told_places = without_outer (headings table (length table.loops) 0 choices) table.loops

  places_long : length told_places ≡ length table.loops
  places_long = without_as_long (headings table (length table.loops) 0 choices) table.loops ∙ headings_as_long table (length table.loops) 0 choices

  -- the choice of a loop, where none stands in it
  told_right : (loop : ℕ) (mark : LoopMark) (place : Option ℕ) → slice_get table.loops loop ≡ Some mark → slice_get told_places loop ≡ Some place
      → choice_notes mark.line (choice_in choices place) ≡ loop_notes table choices loop mark
  told_right loop mark place there told =
      let lt = slice_get_within table.loops loop mark there in
      let long = headings_as_long table (length table.loops) 0 choices in
      let first = told_of table (length table.loops) [] choices loop lt in
      let left = without_there (headings table (length table.loops) 0 choices) table.loops loop first.place first.there (omega (arith, long, lt)) in
      by (list_any (λ m. same_loop m.outer (Some loop)) table.loops) place first.place (choice_heading table choices loop) first.is
      (inner place (sym told ∙ left))
    where
      inner : {b : Option ℕ} (a : Option ℕ) → Some a ≡ Some b → a ≡ b
      inner a e = cc

      by : (b : Bool) (place was : Option ℕ) (found : Option Choice) → choice_in choices was ≡ found → place ≡ (if b then None else was)
          → choice_notes mark.line (choice_in choices place) ≡ (if not b then choice_notes mark.line found else [])
      by true place was found e same = ap (λ (p : Option ℕ). choice_notes mark.line (choice_in choices p)) same
      by false place was found e same = ap (λ (p : Option ℕ). choice_notes mark.line (choice_in choices p)) same ∙ ap (λ (f : Option Choice). choice_notes mark.line f) e

  pub noted_right : noted choices table.loops told_places ≡ notes_of table choices
  noted_right =
      noted_told table choices 0 table.loops told_places
      (λ at mark place there told. told_right at mark place there told
      ∙ ap (λ (n : ℕ). loop_notes table choices n mark) (let e : at ≡ at + 0 = omega arith in e)) places_long

-- ---- the places are those of choices

no_place : (n i place : ℕ) → slice_get (replicate n None) i ≡ Some (Some place) → ⊥
no_place zero i place e = cc
no_place (suc n) zero place e = cc
no_place (suc n) (suc i) place e = no_place n i place e

set_places : (count : ℕ) (heading : List (Option ℕ)) (loop choice : Option ℕ) → IfSome choice (λ place. place < count) → ArePlaces count heading
    → ArePlaces count (heading_set heading loop choice)
set_places count heading None choice lt are loop place e = are loop place e
set_places count heading (Some number) choice lt are loop place e = elim (set_at heading number loop choice (Some place) e) [
  | inl here ↦ subst (λ (c : Option ℕ). IfSome c (λ p. p < count)) (sym here.1) lt
  | inr other ↦ are loop place other.1
]

headings_places : (table : Table) (loops at count : ℕ) (choices : List Choice) → at + length choices ≤ count → ArePlaces count (headings table loops at choices)
headings_places table loops at count [] le loop place e = absurd (no_place loops loop place e)
headings_places table loops at count (choice ∷ choices) le loop place e =
    set_places count (headings table loops (suc at) choices) (headed_loop table choice.region) (Some at) (omega (arith, le))
    (headings_places table loops (suc at) count choices (omega (arith, le))) loop place e

without_places : (count : ℕ) (heading : List (Option ℕ)) (marks : List LoopMark) → ArePlaces count heading → ArePlaces count (without_outer heading marks)
without_places count heading [] are = are
without_places count heading (mark ∷ marks) are =
    without_places count (heading_set heading mark.outer None) marks (set_places count heading mark.outer None tt are)

-- ---- what the code needs

pub heading_for_none : (heading : List (Option ℕ)) (loop : ℕ) (choice : Option ℕ) → length heading ≤ loop → slice_set heading loop choice ≡ heading
heading_for_none heading loop choice le = set_outside heading loop choice le

pub as_many_places : (table : Table) (marks : List LoopMark) (choices : List Choice) (places : List (Option ℕ))
    → places ≡ without_outer (headings table (length marks) 0 choices) marks → length places ≡ length marks
as_many_places table marks choices places is =
    ap (λ (l : List (Option ℕ)). length l) is ∙ without_as_long (headings table (length marks) 0 choices) marks
    ∙ headings_as_long table (length marks) 0 choices

pub are_places : (table : Table) (marks : List LoopMark) (choices : List Choice) (places : List (Option ℕ))
    → places ≡ without_outer (headings table (length marks) 0 choices) marks → ArePlaces (length choices) places
are_places table marks choices places is =
    subst (ArePlaces (length choices)) (sym is)
    (without_places (length choices) (headings table (length marks) 0 choices) marks
    (headings_places table (length marks) 0 (length choices) choices (omega arith)))

pub notes_right : (table : Table) (choices : List Choice) (marks : List LoopMark) (places : List (Option ℕ)) → marks ≡ table.loops
    → places ≡ without_outer (headings table (length table.loops) 0 choices) table.loops → noted choices marks places ≡ notes_of table choices
notes_right table choices marks places same is = (λ i. noted choices (same i) (is i)) ∙ noted_right table choices

-- what stands at a place that is there
there_of : (choices : List Choice) (at : ℕ) (choice : Choice) → at < length choices → choice ≡ slice_index_or choices at choice
    → slice_get choices at ≡ Some choice
there_of [] at choice lt is = absurd (omega (arith, lt))
there_of (first ∷ choices) zero choice lt is = ap Some (sym is)
there_of (first ∷ choices) (suc at) choice lt is = there_of choices at choice (omega (arith, lt)) is

-- the note that is made of a choice at a place
pub note_made : (line : ℕ) (choices : List Choice) (heading : Option ℕ) (at : ℕ) (choice : Choice) (made : Option Note) → heading ≡ Some at
    → IfSome heading (λ place. place < length choices) → choice ≡ slice_index_or choices at choice
    → note_list made ≡ form_notes line choice.form choice.causes → note_list made ≡ choice_notes line (choice_in choices heading)
note_made line choices heading at choice made some there here is =
    let lt : at < length choices = subst (λ (h : Option ℕ). IfSome h (λ place. place < length choices)) some there in
    is ∙ ap (λ (o : Option Choice). choice_notes line o) (sym (there_of choices at choice lt here))
    ∙ ap (λ (h : Option ℕ). choice_notes line (choice_in choices h)) (sym some)

pub ruleset heading = (heading_for_none)
