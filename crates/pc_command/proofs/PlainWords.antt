-- What plain words ask: the walk of `clap` over them, word by word.
use Rattle.std.proofs.Common.{◌≡◌, ◌==◌, ℕ, Bool, true, false, List, [], ◌∷◌, refl, ap, eqb-true}
use Rattle.std.specs.Prelude.{Some, None, codes, bytes_eq}
use Rattle.clap.specs.Faults.{defaults_fault, fault_of, step_fault, turn_fault, walk_fault, word_fault}
use Rattle.clap.specs.Lexer.{long_of, short_of}
use Rattle.clap.specs.Simple.{Shape, built}
use Rattle.clap.specs.Walk.{Held, Row, Rule, Text, Waiting, Walk, after_step, idle, nothing_held, option, plain_word, positional, walk_from, walked, word_met}
use Rattle.clap.specs.declared.builder.value_parser.Reading.TheVariants.{AsWritten}
use Rattle.clap.specs.declared.parser.matches.ValueSource.TheVariants.{CommandLine}
use Rattle.clap.proofs.OnLiterals.{clap_on_literals}
use Rattle.pc_command.specs.Arguments.{assemble_app, compile_app, explain_app, flag_in, matches_taken, simulate_app, stat_app, view_app, word_in}
use Rattle.pc_command.specs.Laws.{IsPlainWord, NoWordsAreNoCommand, PlainWordExplains, PlainWordProfiles, PlainWordSimulates, PlainWordViews, PlainWordsAssemble, PlainWordsCompile}
use Rattle.pc_command.specs.Options.{number_in}
use Rattle.pc_command.specs.Requests.{assemble_command_of, assemble_request_in, compile_command_of, compile_request_in}
use Rattle.pc_command.specs.Requests.{explain_command_of, explain_request_in, simulate_command_of, simulate_request_in}
use Rattle.pc_command.specs.Requests.{check_command_of, stat_command_of, stat_request_in, view_command_of, view_request_in}
use Rattle.pc_command.proofs.Programs.{argument_tables}

-- ---- a plain word is neither a flag nor an option

-- a word that begins with no hyphen begins otherwise, or is empty
first_byte : (x : ℕ) (rest : Text) → IsPlainWord (x ∷ rest) → (x == 45) ≡ false
first_byte x rest is = by (x == 45) refl
  where
    by : (b : Bool) → (x == 45) ≡ b → (x == 45) ≡ false
    by true e = absurd (is rest (ap (λ (n : ℕ). n ∷ rest) (eqb-true x 45 e)))
    by false e = e

-- so it is not `--name`
no_long : (word : Text) → IsPlainWord word → long_of word ≡ None
no_long [] is = refl
no_long (x ∷ rest) is = rw (first_byte x rest is) refl

-- not `-abc`
no_short : (word : Text) → IsPlainWord word → short_of word ≡ None
no_short [] is = refl
no_short (x ∷ rest) is = rw (first_byte x rest is) refl

-- and not `--`
no_dashes : (word : Text) → IsPlainWord word → bytes_eq word (45 ∷ 45 ∷ []) ≡ false
no_dashes [] is = refl
no_dashes (x ∷ rest) is = rw (first_byte x rest is) refl

-- where there is no subcommand it is a plain word
plain_word-met : (rules : List Rule) (waiting : Waiting) (place : ℕ) (word : Text) (held : Held) → IsPlainWord word
    → word_met rules [] false waiting place word held ≡ plain_word rules waiting word held
plain_word-met rules idle place word held is = rw (no_dashes word is, no_long word is, no_short word is) refl
plain_word-met rules (option id) place word held is = rw (no_dashes word is, no_long word is, no_short word is) refl
plain_word-met rules positional place word held is = rw (no_dashes word is, no_long word is, no_short word is) refl

-- a walk that stands at a place, with no subcommand and no `--` after it
abbrev pub at_place : Held → Waiting → ℕ → Walk
at_place held waiting place = record { held = held; waiting = waiting; position = place; is_trailing = false; stopped = None }

-- the step over a plain word
pub plain_word-walked : (rules : List Rule) (held : Held) (waiting : Waiting) (place : ℕ) (word : Text) → IsPlainWord word
    → walked rules [] (at_place held waiting place) word
    ≡ after_step rules word (at_place held waiting place) (plain_word rules waiting word held).0 (plain_word rules waiting word held).1
unfolding walked
plain_word-walked rules held waiting place word is = rw (plain_word-met rules waiting place word held is) refl

-- finds no fault with the word
plain_word-fault : (shape : Shape) (held : Held) (waiting : Waiting) (word : Text) → IsPlainWord word → word_fault shape [] false waiting word held ≡ []
plain_word-fault shape held idle word is = rw (no_dashes word is, no_long word is, no_short word is) refl
plain_word-fault shape held (option id) word is = rw (no_dashes word is, no_long word is, no_short word is) refl
plain_word-fault shape held positional word is = rw (no_dashes word is, no_long word is, no_short word is) refl

-- so there is only the argument's fault that takes it
pub plain_word-turn : (shape : Shape) (held : Held) (waiting : Waiting) (place : ℕ) (word : Text) → IsPlainWord word
    → turn_fault shape [] (at_place held waiting place) word
    ≡ step_fault shape place (plain_word shape.rules waiting word held).0 (plain_word shape.rules waiting word held).1
plain_word-turn shape held waiting place word is =
    rw (plain_word-met shape.rules waiting place word held is, plain_word-fault shape held waiting word is) refl

-- ---- the simulator's word

-- what is held after OBJ
abbrev object_held : Text → Held
object_held object = record { rows = []; pending = Some (codes "OBJ", object ∷ []); skip = 0 }

-- the walk over OBJ
simulate-walked : (object : Text) → IsPlainWord object
    → walked (built simulate_app).top.rules [] (walk_from nothing_held) object ≡ at_place (object_held object) idle 2
unfolding argument_tables
simulate-walked object is = plain_word-walked (built simulate_app).top.rules nothing_held idle 1 object is

-- finds no fault
simulate-walk_fault : (object : Text) → IsPlainWord object → walk_fault (built simulate_app).top [] (walk_from nothing_held) (object ∷ []) ≡ []
unfolding argument_tables walk_fault
simulate-walk_fault object is = rw (plain_word-turn (built simulate_app).top nothing_held idle 1 object is) refl

-- and there is none after it
simulate-fault : (object : Text) → IsPlainWord object → fault_of simulate_app (object ∷ []) ≡ []
unfolding argument_tables defaults_fault
simulate-fault object is = rw (simulate-walk_fault object is, simulate-walked object is) refl

-- one plain word is a command of the simulator
pub plain_word-simulates : PlainWordSimulates
unfolding simulate_command_of simulate_request_in matches_taken word_in number_in argument_tables
plain_word-simulates object is = rw (simulate-fault object is, simulate-walked object is) refl

-- ---- the viewer's word

-- the walk over OBJ
view-walked : (object : Text) → IsPlainWord object → walked (built view_app).top.rules [] (walk_from nothing_held) object ≡ at_place (object_held object) idle 2
unfolding argument_tables
view-walked object is = plain_word-walked (built view_app).top.rules nothing_held idle 1 object is

-- finds no fault
view-walk_fault : (object : Text) → IsPlainWord object → walk_fault (built view_app).top [] (walk_from nothing_held) (object ∷ []) ≡ []
unfolding argument_tables walk_fault
view-walk_fault object is = rw (plain_word-turn (built view_app).top nothing_held idle 1 object is) refl

-- and there is none after it
view-fault : (object : Text) → IsPlainWord object → fault_of view_app (object ∷ []) ≡ []
unfolding argument_tables defaults_fault
view-fault object is = rw (view-walk_fault object is, view-walked object is) refl

-- one plain word is a command of the viewer
pub plain_word-views : PlainWordViews
unfolding view_command_of view_request_in matches_taken word_in flag_in argument_tables
plain_word-views object is = rw (view-fault object is, view-walked object is) refl

-- ---- the profiler's word

-- the walk over OBJ
stat-walked : (object : Text) → IsPlainWord object → walked (built stat_app).top.rules [] (walk_from nothing_held) object ≡ at_place (object_held object) idle 2
unfolding argument_tables
stat-walked object is = plain_word-walked (built stat_app).top.rules nothing_held idle 1 object is

-- finds no fault
stat-walk_fault : (object : Text) → IsPlainWord object → walk_fault (built stat_app).top [] (walk_from nothing_held) (object ∷ []) ≡ []
unfolding argument_tables walk_fault
stat-walk_fault object is = rw (plain_word-turn (built stat_app).top nothing_held idle 1 object is) refl

-- and there is none after it
stat-fault : (object : Text) → IsPlainWord object → fault_of stat_app (object ∷ []) ≡ []
unfolding argument_tables defaults_fault
stat-fault object is = rw (stat-walk_fault object is, stat-walked object is) refl

-- one plain word is a command of the profiler
pub plain_word-profiles : PlainWordProfiles
unfolding stat_command_of stat_request_in matches_taken word_in flag_in number_in argument_tables
plain_word-profiles object is = rw (stat-fault object is, stat-walked object is) refl

-- ---- the compiler's words

-- what is held after SRC, after `-o`, and after OBJ
abbrev first_held : (name word : Text) → Held
first_held name word = record { rows = []; pending = Some (name, word ∷ []); skip = 0 }

abbrev source_held : Text → Held
source_held source = first_held (codes "SRC") source

abbrev pub word_row : (name word : Text) → Row
word_row name word = record { id = name; values = word ∷ []; count = None; source = Some CommandLine; reading = AsWritten }

abbrev taking_after : (name word : Text) → List Text → Held
taking_after name word given = record {
  rows = word_row name word ∷ [];
  pending = Some (codes "OBJ", given);
  skip = 0;
}

abbrev taking_object : Text → List Text → Held
taking_object source given = taking_after (codes "SRC") source given

-- the walk over SRC
source-walked : (source : Text) → IsPlainWord source
    → walked (built compile_app).top.rules [] (walk_from nothing_held) source ≡ at_place (source_held source) idle 2
unfolding argument_tables
source-walked source is = plain_word-walked (built compile_app).top.rules nothing_held idle 1 source is

-- over `-o`
letter-walked : (source : Text)
    → walked (built compile_app).top.rules [] (at_place (source_held source) idle 2) (codes "-o") ≡ at_place (taking_object source []) (option (codes "OBJ")) 2
unfolding argument_tables clap_on_literals
letter-walked source = refl

-- and over OBJ
object-walked : (source object : Text) → IsPlainWord object
    → walked (built compile_app).top.rules [] (at_place (taking_object source []) (option (codes "OBJ")) 2) object ≡ at_place (taking_object source (object ∷ [])) idle 2
unfolding argument_tables
object-walked source object is = plain_word-walked (built compile_app).top.rules (taking_object source []) (option (codes "OBJ")) 2 object is

-- the letter is no fault
letter-turn : (source : Text) → turn_fault (built compile_app).top [] (at_place (source_held source) idle 2) (codes "-o") ≡ []
unfolding argument_tables clap_on_literals
letter-turn source = refl

-- nor is any of the words
compile-walk_fault : (source object : Text) → IsPlainWord source → IsPlainWord object
    → walk_fault (built compile_app).top [] (walk_from nothing_held) (source ∷ (codes "-o" ∷ (object ∷ []))) ≡ []
unfolding argument_tables walk_fault
compile-walk_fault source object is also =
    rw (
      plain_word-turn (built compile_app).top nothing_held idle 1 source is,
      source-walked source is,
      letter-turn source,
      letter-walked source,
      plain_word-turn (built compile_app).top (taking_object source []) (option (codes "OBJ")) 2 object also,
    ) refl

-- and there is none after them
compile-fault : (source object : Text) → IsPlainWord source → IsPlainWord object → fault_of compile_app (source ∷ (codes "-o" ∷ (object ∷ []))) ≡ []
unfolding argument_tables defaults_fault
compile-fault source object is also =
    rw (compile-walk_fault source object is also, source-walked source is, letter-walked source, object-walked source object also) refl

-- plain words with `-o` between them are one of the compiler
pub plain_words-compile : PlainWordsCompile
unfolding compile_command_of compile_request_in matches_taken word_in flag_in number_in argument_tables
plain_words-compile source object place is also named =
    rw (compile-fault source object is also, source-walked source is, letter-walked source, object-walked source object also, named) refl

-- ---- the explainer's word

-- the walk over SRC
explain-walked : (source : Text) → IsPlainWord source
    → walked (built explain_app).top.rules [] (walk_from nothing_held) source ≡ at_place (source_held source) idle 2
unfolding argument_tables
explain-walked source is = plain_word-walked (built explain_app).top.rules nothing_held idle 1 source is

-- finds no fault
explain-walk_fault : (source : Text) → IsPlainWord source → walk_fault (built explain_app).top [] (walk_from nothing_held) (source ∷ []) ≡ []
unfolding argument_tables walk_fault
explain-walk_fault source is = rw (plain_word-turn (built explain_app).top nothing_held idle 1 source is) refl

-- and there is none after it
explain-fault : (source : Text) → IsPlainWord source → fault_of explain_app (source ∷ []) ≡ []
unfolding argument_tables defaults_fault
explain-fault source is = rw (explain-walk_fault source is, explain-walked source is) refl

-- one plain word that names a source is a command of the explainer
pub plain_word-explains : PlainWordExplains
unfolding explain_command_of explain_request_in matches_taken word_in flag_in number_in argument_tables
plain_word-explains source place is named = rw (explain-fault source is, explain-walked source is, named) refl

-- ---- the assembler's words

-- what is held after TEXT, and after `-o`
abbrev text_held : Text → Held
text_held text = first_held (codes "TEXT") text

abbrev taking_assembled : Text → List Text → Held
taking_assembled text given = taking_after (codes "TEXT") text given

-- the walk over TEXT
text-walked : (text : Text) → IsPlainWord text → walked (built assemble_app).top.rules [] (walk_from nothing_held) text ≡ at_place (text_held text) idle 2
unfolding argument_tables
text-walked text is = plain_word-walked (built assemble_app).top.rules nothing_held idle 1 text is

-- over `-o`
assemble_letter-walked : (text : Text)
    → walked (built assemble_app).top.rules [] (at_place (text_held text) idle 2) (codes "-o") ≡ at_place (taking_assembled text []) (option (codes "OBJ")) 2
unfolding argument_tables clap_on_literals
assemble_letter-walked text = refl

-- and over OBJ
assembled-walked : (text object : Text) → IsPlainWord object
    → walked (built assemble_app).top.rules [] (at_place (taking_assembled text []) (option (codes "OBJ")) 2) object
    ≡ at_place (taking_assembled text (object ∷ [])) idle 2
unfolding argument_tables
assembled-walked text object is = plain_word-walked (built assemble_app).top.rules (taking_assembled text []) (option (codes "OBJ")) 2 object is

-- the letter is no fault
assemble_letter-turn : (text : Text) → turn_fault (built assemble_app).top [] (at_place (text_held text) idle 2) (codes "-o") ≡ []
unfolding argument_tables clap_on_literals
assemble_letter-turn text = refl

-- nor is any of the words
assemble-walk_fault : (text object : Text) → IsPlainWord text → IsPlainWord object
    → walk_fault (built assemble_app).top [] (walk_from nothing_held) (text ∷ (codes "-o" ∷ (object ∷ []))) ≡ []
unfolding argument_tables walk_fault
assemble-walk_fault text object is also =
    rw (
      plain_word-turn (built assemble_app).top nothing_held idle 1 text is,
      text-walked text is,
      assemble_letter-turn text,
      assemble_letter-walked text,
      plain_word-turn (built assemble_app).top (taking_assembled text []) (option (codes "OBJ")) 2 object also,
    ) refl

-- and there is none after them
assemble-fault : (text object : Text) → IsPlainWord text → IsPlainWord object → fault_of assemble_app (text ∷ (codes "-o" ∷ (object ∷ []))) ≡ []
unfolding argument_tables defaults_fault
assemble-fault text object is also =
    rw (assemble-walk_fault text object is also, text-walked text is, assemble_letter-walked text, assembled-walked text object also) refl

-- plain words with `-o` between them are a command of the assembler
pub plain_words-assemble : PlainWordsAssemble
unfolding assemble_command_of assemble_request_in matches_taken word_in argument_tables
plain_words-assemble text object is also =
    rw (assemble-fault text object is also, text-walked text is, assemble_letter-walked text, assembled-walked text object also) refl

-- ---- no words

-- are no command
pub no_words-command : NoWordsAreNoCommand
unfolding compile_command_of assemble_command_of simulate_command_of view_command_of stat_command_of check_command_of explain_command_of matches_taken argument_tables clap_on_literals
no_words-command = (refl, refl, refl, refl, refl, refl, refl)
