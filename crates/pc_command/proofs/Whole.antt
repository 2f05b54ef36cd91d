-- The matches that `clap` gives of words that it takes lack nothing.
use Rattle.std.proofs.Common.{◌≡◌, ◌<◌, ◌||◌, Bool, true, false, not, List, [], ◌∷◌, length, refl, subst, arith}
use Rattle.std.specs.Prelude.{Some, None, bytes_eq, codes, nat_lt, option_and_then, option_map, slice_get}
use Rattle.std.specs.List.{AllByRecursion}
use Rattle.std.specs.Option.{IsSome}
use Rattle.clap.specs.Facts.{unwrap_or_range}
use Rattle.clap.specs.Faults.{check_fault, fault_of, level_fault, values_fault}
use Rattle.clap.specs.Kinds.{Kinds, check_kinds, value_kinds}
use Rattle.clap.specs.Simple.{App, Shape, argument_words, built, matches_of, names_of}
use Rattle.clap.specs.Takes.{is_given}
use Rattle.clap.specs.Values.{read_as}
use Rattle.clap.specs.ValueTests.{is_unsigned_in}
use Rattle.clap.specs.Walk.{Names, Rule, Text, action_of, arg_by_id, finished, first_of, has_row, nothing_held, one_of, settled, walk, walk_from}
use Rattle.clap.specs.declared.builder.value_parser.Reading.{Reading}
use Rattle.clap.specs.declared.builder.value_parser.Reading.TheVariants.{AsWritten}
use Rattle.clap.specs.declared.builder.value_parser.ValueParser.TheVariants as vp
use Rattle.clap.proofs.OnLiterals.{clap_on_literals}
use Rattle.pc_word.proofs.Truth.{or_false}
use Rattle.pc_command.specs.Matching.{Matches}
use Rattle.pc_command.specs.Arguments.{assemble_app, check_app, compile_app, explain_app, flag_found, flag_spelled, matches_taken, simulate_app, stat_app, view_app}
use Rattle.pc_command.specs.Laws.{AssembleMatchesAreWhole, CheckMatchesAreWhole, CompileMatchesAreWhole, ExplainMatchesAreWhole, SimulateMatchesAreWhole, StatMatchesAreWhole, ViewMatchesAreWhole}
use Rattle.pc_command.specs.Options.{NumberOption, cycles_option, loop_option, mem_option, number_found, number_spelled, ops_option, rows_option, tests_option, trace_option, window_option}
use Rattle.pc_command.proofs.Values.{Holds, IsPlainRule, is_plain_action, no_faults}
use Rattle.pc_command.proofs.Walks.{settled_at_end, walk-holds}
use Rattle.pc_command.proofs.Defaults.{HasRow, defaults-hold, defaults_are_there, row_given, row_read, row_there}
use Rattle.pc_command.proofs.Programs.{argument_tables}

-- ---- what is read of a row

-- a list that is not empty begins with something
begins : {X : Type 0} (xs : List X) → 0 < length xs → IsSome (slice_get xs 0)
begins [] some = absurd (omega arith)
begins (x ∷ xs) some = refl

-- the word of an argument that has a row
word_there : (a : Rule) (rows : Matches) → HasRow a rows → IsSome (first_of a.id rows)
word_there a rows has = rw has.found (begins has.row.values has.holds.valued)

-- an option whose parser took the values of a row has a number there
number_of_values : (line : NumberOption) (a : Rule) (values : List Text) (how : Reading) → a.parser ≡ Some (vp.Unsigned line.least line.greatest)
    → 0 < length values → values_fault a values ≡ [] → how ≡ AsWritten
    → IsSome (option_and_then (number_spelled line) (option_map (read_as how) (slice_get values 0)))
number_of_values line a [] how parser some passed written = absurd (omega arith)
number_of_values line a (v ∷ vs) how parser some passed written =
    rw written (by (is_unsigned_in line.least line.greatest v) refl)
  where
    took : value_kinds a.ignore_case (vp.Unsigned line.least line.greatest) v ≡ []
    took = (no_faults _ _ (rw parser at passed)).0

    by : (b : Bool) → is_unsigned_in line.least line.greatest v ≡ b → IsSome (number_spelled line v)
    by true e = rw e refl
    by false e = absurd (let bad = rw e at took in cc)

-- so an option has one whose argument has a row
number_there : (line : NumberOption) (a : Rule) (rows : Matches) → a.id ≡ line.name → a.parser ≡ Some (vp.Unsigned line.least line.greatest) → HasRow a rows
    → IsSome (number_found line rows)
number_there line a rows named parser has =
    rw (← named, has.found) (number_of_values line a has.row.values has.row.reading parser has.holds.valued has.holds.passed written)
  where
    written : has.row.reading ≡ AsWritten
    written = rw (has.holds.reading, parser) refl

-- a flag whose parser took the values of a row has a state there
flag_of_values : (a : Rule) (values : List Text) (how : Reading) → a.parser ≡ Some vp.Bool → 0 < length values → values_fault a values ≡ [] → how ≡ AsWritten
    → IsSome (option_and_then flag_spelled (option_map (read_as how) (slice_get values 0)))
flag_of_values a [] how parser some passed written = absurd (omega arith)
flag_of_values a (v ∷ vs) how parser some passed written =
    rw written (by (bytes_eq v (codes "true")) (bytes_eq v (codes "false")) refl refl)
  where
    took : value_kinds a.ignore_case vp.Bool v ≡ []
    took = (no_faults _ _ (rw parser at passed)).0

    by : (b c : Bool) → bytes_eq v (codes "true") ≡ b → bytes_eq v (codes "false") ≡ c → IsSome (flag_spelled v)
    by true c is other = rw is refl
    by false true is other = rw (is, other) refl
    by false false is other = absurd (let bad = rw (is, other) at took in cc)

-- so a flag has one that has a row
flag_there : (a : Rule) (rows : Matches) → a.parser ≡ Some vp.Bool → HasRow a rows → IsSome (flag_found a.id rows)
flag_there a rows parser has =
    rw has.found (flag_of_values a has.row.values has.row.reading parser has.holds.valued has.holds.passed written)
  where
    written : has.row.reading ≡ AsWritten
    written = rw (has.holds.reading, parser) refl

-- ---- the end of a parse without a fault

-- what holds of the matches of words without a fault
record AreFilled (shape : Shape) (rows : Matches) : Type 0 where
  hold : AllByRecursion (Holds shape.rules) rows
  defaults : AllByRecursion (λ a. nat_lt 0 (length a.defaults) ≡ true → has_row a.id rows ≡ true) shape.rules
  has_subcommand : Bool
  checked : check_fault shape rows has_subcommand ≡ []

-- one level of a parse without a fault
level_is_filled : (shape : Shape) (names : Names) (words : List Text) (has_subcommand : Bool) (below : Kinds)
    → AllByRecursion (IsPlainRule shape.rules) shape.rules → level_fault shape names nothing_held words has_subcommand below ≡ []
    → AreFilled shape (finished shape.rules (walk shape.rules names nothing_held words).held)
level_is_filled shape names words has_subcommand below are fault =
    let end = (walk shape.rules names nothing_held words).held in
    let walked = no_faults _ _ fault in
    let entered = no_faults _ _ walked.1 in
    let last = no_faults _ _ entered.1 in
    let filled = no_faults _ _ last.1 in
    record {
      hold = defaults-hold shape.rules shape.rules (settled shape.rules end).rows are
          (settled_at_end shape names are end last.0 (walk-holds shape names are words (walk_from nothing_held) walked.0 tt));
      defaults = defaults_are_there shape.rules (settled shape.rules end).rows;
      has_subcommand = has_subcommand;
      checked = filled.1;
    }

-- matches are given where there is no fault, and are those of the definition
given_matches : (app : App) (words : List Text) (matches : Matches) → matches_taken app words ≡ Some matches
    → (fault_of app words ≡ []) × (matches_of app words ≡ matches)
unfolding matches_taken
given_matches app words matches e = by (fault_of app words) refl
  where
    by : (kinds : Kinds) → fault_of app words ≡ kinds → (fault_of app words ≡ []) × (matches_of app words ≡ matches)
    by [] none = (none, (let is : Some (matches_of app words) ≡ Some matches = rw none at e in cc))
    by (kind ∷ kinds) some = absurd (let bad : None ≡ Some matches = rw some at e in cc)

-- so the matches that are given are filled
matches_are_filled : (app : App) (words : List Text) (matches : Matches) → AllByRecursion (IsPlainRule (built app).top.rules) (built app).top.rules
    → matches_taken app words ≡ Some matches → AreFilled (built app).top matches
matches_are_filled app words matches are e =
    let given = given_matches app words matches e in
    subst (λ (rows : Matches). AreFilled (built app).top rows) given.1
    (level_is_filled (built app).top (names_of (built app)) (argument_words app words) _ _ are given.0)

-- the last check asks for no argument
asks_for_none : (help subcommand argument : Bool) → check_kinds help subcommand argument ≡ [] → argument ≡ false
asks_for_none true subcommand argument e = absurd (cc)
asks_for_none false true argument e = absurd (cc)
asks_for_none false false true e = absurd (cc)
asks_for_none false false false e = refl

-- what is not lacking is there
not_lacking : (b : Bool) → not b ≡ false → b ≡ true
not_lacking true e = refl
not_lacking false e = absurd (cc)

-- ---- the programs

-- the arguments of each, as `clap` builds them
abbrev compile_rules : List Rule
compile_rules = (built compile_app).top.rules

abbrev assemble_rules : List Rule
assemble_rules = (built assemble_app).top.rules

abbrev simulate_rules : List Rule
simulate_rules = (built simulate_app).top.rules

abbrev view_rules : List Rule
view_rules = (built view_app).top.rules

abbrev stat_rules : List Rule
stat_rules = (built stat_app).top.rules

abbrev check_rules : List Rule
check_rules = (built check_app).top.rules

abbrev explain_rules : List Rule
explain_rules = (built explain_app).top.rules

-- an argument that may be used
used_rule : (rules : List Rule) (a : Rule) → arg_by_id rules a.id ≡ Some a → is_plain_action (action_of a) ≡ true
    → (nat_lt 0 (unwrap_or_range a.range).start_inclusive || nat_lt 0 (length a.missing)) ≡ true → values_fault a a.defaults ≡ [] → IsPlainRule rules a
used_rule rules a first plain valued defaults = record { first = first; plain = plain; valued = λ used. valued; defaults = defaults }

-- and more
also : {A B : Type 0} → A → B → A × B
also a b = (a, b)

-- each argument of the compiler is plain; the last one asks for help
compile_rules_are_plain : AllByRecursion (IsPlainRule compile_rules) compile_rules
unfolding argument_tables clap_on_literals
compile_rules_are_plain =
    also (used_rule _ _ refl refl refl refl)
    (also (used_rule _ _ refl refl refl refl)
    (also (used_rule _ _ refl refl refl refl)
    (also (used_rule _ _ refl refl refl refl)
    (also (used_rule _ _ refl refl refl refl)
    (also (used_rule _ _ refl refl refl refl)
    (also (used_rule _ _ refl refl refl refl)
    (also (used_rule _ _ refl refl refl refl)
    (also (record { first = refl; plain = refl; valued = λ used. used; defaults = refl })
    tt))))))))

-- each of the assembler
assemble_rules_are_plain : AllByRecursion (IsPlainRule assemble_rules) assemble_rules
unfolding argument_tables clap_on_literals
assemble_rules_are_plain =
    also (used_rule _ _ refl refl refl refl)
    (also (used_rule _ _ refl refl refl refl)
    (also (record { first = refl; plain = refl; valued = λ used. used; defaults = refl })
    tt))

-- each of the simulator
simulate_rules_are_plain : AllByRecursion (IsPlainRule simulate_rules) simulate_rules
unfolding argument_tables clap_on_literals
simulate_rules_are_plain =
    also (used_rule _ _ refl refl refl refl)
    (also (used_rule _ _ refl refl refl refl)
    (also (record { first = refl; plain = refl; valued = λ used. used; defaults = refl })
    tt))

-- each of the viewer
view_rules_are_plain : AllByRecursion (IsPlainRule view_rules) view_rules
unfolding argument_tables clap_on_literals
view_rules_are_plain =
    also (used_rule _ _ refl refl refl refl)
    (also (used_rule _ _ refl refl refl refl)
    (also (record { first = refl; plain = refl; valued = λ used. used; defaults = refl })
    tt))

-- each of the profiler
stat_rules_are_plain : AllByRecursion (IsPlainRule stat_rules) stat_rules
unfolding argument_tables clap_on_literals
stat_rules_are_plain =
    also (used_rule _ _ refl refl refl refl)
    (also (used_rule _ _ refl refl refl refl)
    (also (used_rule _ _ refl refl refl refl)
    (also (used_rule _ _ refl refl refl refl)
    (also (used_rule _ _ refl refl refl refl)
    (also (used_rule _ _ refl refl refl refl)
    (also (record { first = refl; plain = refl; valued = λ used. used; defaults = refl })
    tt))))))

-- each of the checker
check_rules_are_plain : AllByRecursion (IsPlainRule check_rules) check_rules
unfolding argument_tables clap_on_literals
check_rules_are_plain =
    also (used_rule _ _ refl refl refl refl)
    (also (used_rule _ _ refl refl refl refl)
    (also (used_rule _ _ refl refl refl refl)
    (also (used_rule _ _ refl refl refl refl)
    (also (used_rule _ _ refl refl refl refl)
    (also (record { first = refl; plain = refl; valued = λ used. used; defaults = refl })
    tt)))))

-- each of the explainer
explain_rules_are_plain : AllByRecursion (IsPlainRule explain_rules) explain_rules
unfolding argument_tables clap_on_literals
explain_rules_are_plain =
    also (used_rule _ _ refl refl refl refl)
    (also (used_rule _ _ refl refl refl refl)
    (also (used_rule _ _ refl refl refl refl)
    (also (used_rule _ _ refl refl refl refl)
    (also (used_rule _ _ refl refl refl refl)
    (also (used_rule _ _ refl refl refl refl)
    (also (used_rule _ _ refl refl refl refl)
    (also (used_rule _ _ refl refl refl refl)
    (also (used_rule _ _ refl refl refl refl)
    (also (record { first = refl; plain = refl; valued = λ used. used; defaults = refl })
    tt)))))))))

module _ (rules : List Rule) (matches : Matches) (hold : AllByRecursion (Holds rules) matches) where
  -- a word that is given
  word_of : (a : Rule) → IsPlainRule rules a → is_given a.id matches ≡ true → IsSome (first_of a.id matches)
  word_of a is given = word_there a matches (row_given rules a matches is.first hold given)

  -- the number of an option, which has a default
  number_of : (line : NumberOption) (a : Rule) → IsPlainRule rules a → a.id ≡ line.name → a.parser ≡ Some (vp.Unsigned line.least line.greatest)
      → has_row a.id matches ≡ true → IsSome (number_found line matches)
  number_of line a is named parser has = number_there line a matches named parser (row_there rules a matches is.first hold has)

  -- the number of an option, where a text is given
  number_if_given : (line : NumberOption) (a : Rule) → IsPlainRule rules a → a.id ≡ line.name → a.parser ≡ Some (vp.Unsigned line.least line.greatest)
      → IsSome (one_of a.id matches) → IsSome (number_found line matches)
  number_if_given line a is named parser given = number_there line a matches named parser (row_read rules a matches is.first hold given)

  -- the state of a flag, which has one
  flag_of : (a : Rule) → IsPlainRule rules a → a.parser ≡ Some vp.Bool → has_row a.id matches ≡ true → IsSome (flag_found a.id matches)
  flag_of a is parser has = flag_there a matches parser (row_there rules a matches is.first hold has)

-- nothing that is read of the compiler's matches is missing
pub compile_matches-whole : CompileMatchesAreWhole
unfolding argument_tables
compile_matches-whole words matches e =
    let are = matches_are_filled compile_app words matches compile_rules_are_plain e in
    let plain = compile_rules_are_plain in
    let lacking = or_false _ _ (asks_for_none _ _ _ are.checked) in
    record {
      source = word_of compile_rules matches are.hold _ plain.0 (not_lacking _ lacking.0);
      object = word_of compile_rules matches are.hold _ plain.1.0 (not_lacking _ (or_false _ _ lacking.1).0);
      numbers = record {
        ops = number_of compile_rules matches are.hold ops_option _ plain.1.1.0 refl refl (are.defaults.1.1.0 refl);
        tests = number_of compile_rules matches are.hold tests_option _ plain.1.1.1.0 refl refl (are.defaults.1.1.1.0 refl);
        mem = number_of compile_rules matches are.hold mem_option _ plain.1.1.1.1.0 refl refl (are.defaults.1.1.1.1.0 refl);
        window = number_of compile_rules matches are.hold window_option _ plain.1.1.1.1.1.0 refl refl (are.defaults.1.1.1.1.1.0 refl);
        rows = number_of compile_rules matches are.hold rows_option _ plain.1.1.1.1.1.1.0 refl refl (are.defaults.1.1.1.1.1.1.0 refl);
      };
      report = flag_of compile_rules matches are.hold _ plain.1.1.1.1.1.1.1.0 refl (are.defaults.1.1.1.1.1.1.1.0 refl);
    }

-- nor of the assembler's
pub assemble_matches-whole : AssembleMatchesAreWhole
unfolding argument_tables
assemble_matches-whole words matches e =
    let are = matches_are_filled assemble_app words matches assemble_rules_are_plain e in
    let plain = assemble_rules_are_plain in
    let lacking = or_false _ _ (asks_for_none _ _ _ are.checked) in
    record {
      text = word_of assemble_rules matches are.hold _ plain.0 (not_lacking _ lacking.0);
      object = word_of assemble_rules matches are.hold _ plain.1.0 (not_lacking _ (or_false _ _ lacking.1).0);
    }

-- nor of the simulator's
pub simulate_matches-whole : SimulateMatchesAreWhole
unfolding argument_tables
simulate_matches-whole words matches e =
    let are = matches_are_filled simulate_app words matches simulate_rules_are_plain e in
    let plain = simulate_rules_are_plain in
    let lacking = or_false _ _ (asks_for_none _ _ _ are.checked) in
    record {
      object = word_of simulate_rules matches are.hold _ plain.0 (not_lacking _ lacking.0);
      cycles = number_of simulate_rules matches are.hold cycles_option _ plain.1.0 refl refl (are.defaults.1.0 refl);
    }

-- nor of the viewer's
pub view_matches-whole : ViewMatchesAreWhole
unfolding argument_tables
view_matches-whole words matches e =
    let are = matches_are_filled view_app words matches view_rules_are_plain e in
    let plain = view_rules_are_plain in
    let lacking = or_false _ _ (asks_for_none _ _ _ are.checked) in
    record {
      object = word_of view_rules matches are.hold _ plain.0 (not_lacking _ lacking.0);
      dot = flag_of view_rules matches are.hold _ plain.1.0 refl (are.defaults.1.0 refl);
    }

-- nor of the profiler's
pub stat_matches-whole : StatMatchesAreWhole
unfolding argument_tables
stat_matches-whole words matches e =
    let are = matches_are_filled stat_app words matches stat_rules_are_plain e in
    let plain = stat_rules_are_plain in
    let lacking = or_false _ _ (asks_for_none _ _ _ are.checked) in
    record {
      object = word_of stat_rules matches are.hold _ plain.0 (not_lacking _ lacking.0);
      cycles = number_of stat_rules matches are.hold cycles_option _ plain.1.0 refl refl (are.defaults.1.0 refl);
      rows = flag_of stat_rules matches are.hold _ plain.1.1.0 refl (are.defaults.1.1.0 refl);
      trace = number_if_given stat_rules matches are.hold trace_option _ plain.1.1.1.0 refl refl;
      dot = flag_of stat_rules matches are.hold _ plain.1.1.1.1.0 refl (are.defaults.1.1.1.1.0 refl);
      json = flag_of stat_rules matches are.hold _ plain.1.1.1.1.1.0 refl (are.defaults.1.1.1.1.1.0 refl);
    }

-- nor of the checker's
pub check_matches-whole : CheckMatchesAreWhole
unfolding argument_tables
check_matches-whole words matches e =
    let are = matches_are_filled check_app words matches check_rules_are_plain e in
    let plain = check_rules_are_plain in
    let lacking = or_false _ _ (asks_for_none _ _ _ are.checked) in
    let more = or_false _ _ lacking.1 in
    record {
      source = word_of check_rules matches are.hold _ plain.0 (not_lacking _ lacking.0);
      object = word_of check_rules matches are.hold _ plain.1.0 (not_lacking _ more.0);
      certificate = word_of check_rules matches are.hold _ plain.1.1.0 (not_lacking _ (or_false _ _ more.1).0);
      make = flag_of check_rules matches are.hold _ plain.1.1.1.0 refl (are.defaults.1.1.1.0 refl);
      why = flag_of check_rules matches are.hold _ plain.1.1.1.1.0 refl (are.defaults.1.1.1.1.0 refl);
    }

-- nor of the explainer's
pub explain_matches-whole : ExplainMatchesAreWhole
unfolding argument_tables
explain_matches-whole words matches e =
    let are = matches_are_filled explain_app words matches explain_rules_are_plain e in
    let plain = explain_rules_are_plain in
    let lacking = or_false _ _ (asks_for_none _ _ _ are.checked) in
    record {
      source = word_of explain_rules matches are.hold _ plain.0 (not_lacking _ lacking.0);
      numbers = record {
        ops = number_of explain_rules matches are.hold ops_option _ plain.1.0 refl refl (are.defaults.1.0 refl);
        tests = number_of explain_rules matches are.hold tests_option _ plain.1.1.0 refl refl (are.defaults.1.1.0 refl);
        mem = number_of explain_rules matches are.hold mem_option _ plain.1.1.1.0 refl refl (are.defaults.1.1.1.0 refl);
        window = number_of explain_rules matches are.hold window_option _ plain.1.1.1.1.0 refl refl (are.defaults.1.1.1.1.0 refl);
        rows = number_of explain_rules matches are.hold rows_option _ plain.1.1.1.1.1.0 refl refl (are.defaults.1.1.1.1.1.0 refl);
      };
      line = number_if_given explain_rules matches are.hold loop_option _ plain.1.1.1.1.1.1.0 refl refl;
      dot = flag_of explain_rules matches are.hold _ plain.1.1.1.1.1.1.1.0 refl (are.defaults.1.1.1.1.1.1.1.0 refl);
      json = flag_of explain_rules matches are.hold _ plain.1.1.1.1.1.1.1.1.0 refl (are.defaults.1.1.1.1.1.1.1.1.0 refl);
    }
