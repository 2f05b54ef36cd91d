-- The explanations of loops as JSON: one object, whose numbers are whole. In the text the members of an object stand in the order of
-- their names.
--
--   asked       the line that was asked for, or null
--   limits      how many `items`, `tests` and `loads_and_stores` a row may have
--   loops       for each loop that is explained, in order, an object:
--     region      the region that is its header
--     form        "pipelined", "packed" or "plain"
--     line        the line of the loop's keyword, or null where it has no note
--     note        the note in words, or null
--     states      for each state of its schedule, in order, an object; none where the form is plain:
--       state       its number
--       parameters  the names that it takes, in order
--       row         its row, a tree
--       waits       for each item and test that could not come into its row, in order, an object:
--         iteration   its iteration, counted as in the row
--         origin      the node of the flow graph that it comes from
--         line        that of the source, or null
--         what        what it is, in words
--         why         the first reason why it waits, in words
--     cycles      for each cycle of its states an object; none where the form is plain:
--       states      the numbers of the states on it, in order
--       rows        how many rows once around takes
--       iterations  how many iterations of the loop go by once around
--       items, tests, loads_and_stores    how many of them stand on the way; loads and stores are items too
--       least_rows  the least number of rows that has room for so many
--       resource    of what there is too much for fewer, "items", "tests" or "loads and stores"
--       chain       a chain of items round it, each of which has to wait for the one before, an object, or null where none was found:
--         items       how many items
--         rounds      how many times round it goes
--         lines       of each item the line of the source, or null, in the order of the chain
--         least_rows  how many rows once around takes at least because of it: the items divided by the rounds, rounded up
--       bound       how many rows it takes at least for both reasons: the greater one of the two numbers, where there is a chain
--       reached     whether once around takes no more
--
-- A name of a state that holds a scalar of the source is written with this: `sum.7`; another is written `n7`.
--
-- A tree is an object, of one of these kinds:
--
--   an item     `item` in words, `iteration`, `origin` (the node of the flow graph that it comes from), `line` (that of the source, or null),
--               and `next`, the tree below it
--   a test      `test`, the operand that is not 0 on the yes side, `iteration`, `origin` and `line` as an item's, and the trees `yes` and `no`
--   a state     `to`, its number, `arguments`, the values that it is passed, and `from`, the first iteration of which anything is left, or null
--   a region    `region`, its number, and `values`, for each variable that is given one an object with `variable` and `value`
--   the end     `stop`, which is true
--   a trap      `trap` in words, and `line`, that of the source
use Rattle.std.specs.Prelude.{ℕ, true, List, [], ◌∷◌, codes, map, Option, Some, None, slice_get, unwrap_or}
use Rattle.pc_word.specs.declared.item.Item.{Item}
use Rattle.pc_word.specs.declared.item.Limits.{Limits}
use Rattle.pc_word.specs.declared.item.Operand.{Operand}
use Rattle.pc_word.specs.declared.item.Operand.TheVariants.{Name}
use Rattle.pc_word.specs.Row.{Row, Then, Either, At_leaf}
use Rattle.pc_window.specs.declared.home.Home.{Home}
use Rattle.pc_automaton.specs.declared.automaton.AutomatonLeaf.{AutomatonLeaf}
use Rattle.pc_automaton.specs.declared.automaton.AutomatonLeaf.TheVariants.{To, Out, Stop, Trap}
use Rattle.pc_told.specs.Tellings.{Telling, Tells_item, Tells_test, Tells_leaf}
use Rattle.pc_waiting.specs.declared.obstacle.Waiting.{Waiting}
use Rattle.pc_object.specs.declared.object.Note.{Note}
use Rattle.pc_report.specs.FaultLine.{trap_text}
use Rattle.pc_report.specs.Report.{note_words}
use Rattle.serde_json.specs.Data.{Data, boolean, null, string}
use Rattle.pc_json.specs.Json.{count_field, field, json_line, limits_json, list_of, object_of, optional, text_field, whole}
use Rattle.pc_explain.specs.Explained.{LoopSchedule, Explanation}
use Rattle.pc_explain.specs.EachState.{StateExplanation, each_state, explained_states, naming_of}
use Rattle.pc_explain.specs.Legends.{SourceLegend}
use Rattle.pc_explain.specs.Naming.{Naming}
use Rattle.pc_explain.specs.Waits.{kind_words, obstacle_words}
use Rattle.pc_explain.specs.Words.{item_words, operand_words}
use Rattle.pc_explain_json.specs.CycleJson.{cycle_json}

-- ---- leaves

-- an operand in words
abbrev pub operand_json : Naming → Operand → Data
operand_json naming operand = string (operand_words naming operand)

-- the value of a variable
abbrev pub home_json : Naming → Home → Data
home_json naming home = object_of (count_field (codes "variable") home.variable ∷ text_field (codes "value") (operand_words naming home.value) ∷ [])

-- a leaf, with the first iteration of which anything is left there, if anything is
abbrev pub leaf_json : Naming → AutomatonLeaf → (advance : Option ℕ) → Data
leaf_json naming (To state arguments) advance =
    object_of
    (count_field (codes "to") state
    ∷ field (codes "arguments") (list_of (map (operand_json naming) arguments))
    ∷ field (codes "from") (optional advance)
    ∷ [])
leaf_json naming (Out region homes) advance =
    object_of (count_field (codes "region") region ∷ field (codes "values") (list_of (map (home_json naming) homes)) ∷ [])
leaf_json naming Stop advance = object_of (field (codes "stop") (boolean true) ∷ [])
leaf_json naming (Trap kind line) advance = object_of (text_field (codes "trap") (trap_text kind) ∷ count_field (codes "line") line ∷ [])

-- ---- rows

-- an item of an iteration that comes from a node of the flow graph, whose line of the source may be known, with the tree below it
abbrev pub item_json : Naming → (iteration origin : ℕ) → (line : Option ℕ) → Item → (next : Data) → Data
item_json naming iteration origin line item next =
    object_of
    (text_field (codes "item") (item_words naming item)
    ∷ count_field (codes "iteration") iteration
    ∷ count_field (codes "origin") origin
    ∷ field (codes "line") (optional line)
    ∷ field (codes "next") next
    ∷ [])

-- a test, with the trees of its sides
abbrev pub test_json : Naming → (iteration origin : ℕ) → (line : Option ℕ) → (on : Operand) → (on_yes on_no : Data) → Data
test_json naming iteration origin line on on_yes on_no =
    object_of
    (field (codes "test") (operand_json naming on)
    ∷ count_field (codes "iteration") iteration
    ∷ count_field (codes "origin") origin
    ∷ field (codes "line") (optional line)
    ∷ field (codes "yes") on_yes
    ∷ field (codes "no") on_no
    ∷ [])

-- a row with what is told of it, which has the same shape
abbrev pub row_json : Naming → Row AutomatonLeaf → Telling → Data
row_json naming (Then item rest) (Tells_item iteration origin what next) =
    item_json naming iteration origin (slice_get naming.legend.lines origin) item (row_json naming rest next)
row_json naming (Either on on_yes on_no) (Tells_test iteration origin what one other) =
    test_json naming iteration origin (slice_get naming.legend.lines origin) on (row_json naming on_yes one) (row_json naming on_no other)
row_json naming (At_leaf leaf) (Tells_leaf advance) = leaf_json naming leaf advance
row_json naming _ _ = null

-- ---- states

-- the parameters of a state
abbrev pub parameters_json : Naming → List ℕ → Data
parameters_json naming names = list_of (map (λ name. operand_json naming (Name name)) names)

-- an item or test that waits
abbrev pub wait_json : SourceLegend → Waiting → Data
wait_json legend waiting =
    object_of
    (count_field (codes "iteration") waiting.iteration
    ∷ count_field (codes "origin") waiting.origin
    ∷ field (codes "line") (optional (slice_get legend.lines waiting.origin))
    ∷ text_field (codes "what") (kind_words legend waiting.what)
    ∷ text_field (codes "why") (obstacle_words legend.lines waiting.obstacle)
    ∷ [])

-- a state with its number
abbrev pub state_json : SourceLegend → (number : ℕ) → StateExplanation → Data
state_json legend number it =
    object_of
    (count_field (codes "state") number
    ∷ field (codes "parameters") (parameters_json (naming_of legend it) it.state.parameters)
    ∷ field (codes "row") (row_json (naming_of legend it) it.state.row it.telling)
    ∷ field (codes "waits") (list_of (map (wait_json legend) it.waits))
    ∷ [])

-- that as a list of one
abbrev pub state_shown : SourceLegend → (number : ℕ) → StateExplanation → List Data
state_shown legend number it = state_json legend number it ∷ []

-- ---- schedules

-- the states of a schedule, if there is one
abbrev pub states_json : SourceLegend → Option LoopSchedule → Data
states_json legend None = list_of []
states_json legend (Some schedule) = list_of (each_state (state_shown legend) 0 (explained_states schedule))

-- its cycles
abbrev pub cycles_json : SourceLegend → Option LoopSchedule → Data
cycles_json legend None = list_of []
cycles_json legend (Some schedule) = list_of (map (cycle_json legend.lines schedule) schedule.cycles)

-- ---- loops

-- the form of a loop for each choice that its note may have, from 0 to 7
abbrev pub form_names : List (List ℕ)
form_names =
    codes "pipelined"
    ∷ codes "packed" ∷ codes "packed" ∷ codes "packed" ∷ codes "packed"
    ∷ codes "plain" ∷ codes "plain" ∷ codes "plain" ∷ []

-- that of one choice
abbrev pub form_name : (choice : ℕ) → List ℕ
form_name choice = unwrap_or (slice_get form_names choice) []

-- the form of a loop by its note, which is plain where it has none
abbrev pub noted_form : List Note → List ℕ
noted_form [] = codes "plain"
noted_form (note ∷ rest) = form_name note.choice

-- the line of a loop by its note, if it has one
abbrev pub noted_line : List Note → Data
noted_line [] = null
noted_line (note ∷ rest) = whole note.line

-- the note of a loop in words, if it has one
abbrev pub noted_words : List Note → Data
noted_words [] = null
noted_words (note ∷ rest) = string (note_words note)

-- a loop
abbrev pub loop_json : SourceLegend → Explanation → Data
loop_json legend it =
    object_of
    (count_field (codes "region") it.region
    ∷ text_field (codes "form") (noted_form it.notes)
    ∷ field (codes "line") (noted_line it.notes)
    ∷ field (codes "note") (noted_words it.notes)
    ∷ field (codes "states") (states_json legend it.schedule)
    ∷ field (codes "cycles") (cycles_json legend it.schedule)
    ∷ [])

-- ---- the whole

-- loops, with the limits of rows and the line that was asked for
abbrev pub explanations_json : Limits → SourceLegend → (asked : Option ℕ) → List Explanation → Data
explanations_json limits legend asked explanations =
    object_of
    (field (codes "asked") (optional asked)
    ∷ field (codes "limits") (limits_json limits)
    ∷ field (codes "loops") (list_of (map (loop_json legend) explanations))
    ∷ [])

-- their text, on a line
abbrev pub explanation_json : Limits → SourceLegend → (asked : Option ℕ) → List Explanation → List ℕ
explanation_json limits legend asked explanations = json_line (explanations_json limits legend asked explanations)
