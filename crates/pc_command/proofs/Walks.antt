-- The walk of `clap` over the words keeps each row that it holds one of the row's argument, as long as there is no fault. A row is one of the matches.
use Rattle.std.proofs.Common.{◌≡◌, ◌&&◌, ℕ, zero, suc, Bool, cond, true, false, List, [], ◌∷◌, length, refl, fold}
use Rattle.std.specs.Prelude.{Option, Some, None, IfSome, find, is_some, slice_get, bytes_eq}
use Rattle.std.specs.List.{AllByRecursion}
use Rattle.std.specs.Option.{option_map_or}
use Rattle.std.specs.Str.{chars}
use Rattle.clap.specs.Faults.{bundle_fault, bundle_step_fault, flag_word_fault, flags_fault, long_fault, option_fault, other_fault, positional_fault, react_fault}
use Rattle.clap.specs.Faults.{settle_fault, short_fault, step_fault, stray_fault, turn_fault, use_fault, walk_fault, word_fault}
use Rattle.clap.specs.declared.error.kind.ErrorKind.TheVariants as kind
use Rattle.clap.specs.Kinds.{Kinds, or_else}
use Rattle.clap.specs.Lexer.{long_of, short_of}
use Rattle.clap.specs.Simple.{Shape}
use Rattle.clap.specs.Walk.{Held, Names, Outcome, Rule, Step, Text, Waiting, Walk, after_flag, after_step, arg_by_id, arg_by_index, arg_by_long, arg_by_short}
use Rattle.clap.specs.Walk.{bundle_met, bundle_step, done, flag_met, is_pending, long_met, long_or_other, next, option, option_met, option_word, plain, plain_word}
use Rattle.clap.specs.Walk.{positional_held, reacted, settled, settled_rows, short_met, short_or_plain, subcommand, subcommand_met, subcommand_or_other}
use Rattle.clap.specs.Walk.{takes_several, takes_values, to_positional, trailing, value, waits, walked, walked_from, word_met, attached_value}
use Rattle.pc_command.proofs.Values.{Holds, IsPlainRule, found_has, no_faults, used-holds}

module _ (shape : Shape) (names : Names) (plain_rules : AllByRecursion (IsPlainRule shape.rules) shape.rules) where
  -- each row is one of the argument of its name
  abbrev Sound : Held → Type 0
  Sound held = AllByRecursion (Holds shape.rules) held.rows

  -- an argument that a search finds is one of the plain ones
  plain_found : (p : Rule → Bool) (found : Option Rule) → find p shape.rules ≡ found → IfSome found (IsPlainRule shape.rules)
  plain_found p None e = tt
  plain_found p (Some a) e = (found_has (IsPlainRule shape.rules) p shape.rules a plain_rules e).0

  -- ---- one use of an argument

  -- what is held of the argument whose values are being read is used
  settled_rows-hold : (pending : Option (Text × List Text)) (held : Held)
      → option_map_or (λ p. option_map_or (λ a. use_fault shape.args_override_self a p.1 held.rows) (arg_by_id shape.rules p.0) []) pending [] ≡ []
      → Sound held → AllByRecursion (Holds shape.rules) (settled_rows shape.rules pending held.rows)
  settled_rows-hold None held fault all = all
  settled_rows-hold (Some p) held fault all = by (arg_by_id shape.rules p.0) refl
    where
      by : (o : Option Rule) → arg_by_id shape.rules p.0 ≡ o → AllByRecursion (Holds shape.rules) (settled_rows shape.rules (Some p) held.rows)
      by None e = rw e all
      by (Some a) e =
          rw e (used-holds shape.rules shape.args_override_self a p.1 held.rows
          (found_has (IsPlainRule shape.rules) (λ a. bytes_eq a.id p.0) shape.rules a plain_rules e).0 (rw e at fault) all)

  -- so it is used
  settled-holds : (held : Held) → settle_fault shape.rules shape.args_override_self held ≡ [] → Sound held → Sound (settled shape.rules held)
  settled-holds held fault all = settled_rows-hold held.pending held fault all

  -- and then another one is
  reacted-holds : (a : Rule) (values : List Text) (held : Held) → IsPlainRule shape.rules a → react_fault shape.rules shape.args_override_self a values held ≡ []
      → Sound held → Sound (reacted shape.rules a values held)
  reacted-holds a values held is fault all =
      let parts = no_faults _ _ fault in
      used-holds shape.rules shape.args_override_self a values (settled shape.rules held).rows is parts.1 (settled-holds held parts.0 all)

  -- an option is used with the value attached to it, or waits for one
  option_met-holds : (a : Rule) (given : Option Text) (held : Held) → IsPlainRule shape.rules a → option_fault shape.rules shape.args_override_self a given held ≡ []
      → Sound held → Sound (option_met shape.rules a given held).0
  option_met-holds a (Some v) held is fault all = reacted-holds a (v ∷ []) held is fault all
  option_met-holds a None held is fault all = settled-holds held fault all

  -- a flag is used
  flag_met-holds : (a : Rule) (given : Option Text) (held : Held) → IsPlainRule shape.rules a
      → (given ≡ None → react_fault shape.rules shape.args_override_self a [] held ≡ []) → Sound held → Sound (flag_met shape.rules a given held).0
  flag_met-holds a (Some v) held is fault all = all
  flag_met-holds a None held is fault all = reacted-holds a [] held is (fault refl) all

  -- ---- flags and options

  -- `--name` and `--name=value`
  long_met-holds : (found : Option Rule) (given : Option Text) (held : Held) → IfSome found (IsPlainRule shape.rules)
      → long_fault shape.rules shape.args_override_self found given held ≡ [] → Sound held → Sound (long_met shape.rules found given held).0
  long_met-holds None given held is fault all = all
  long_met-holds (Some a) given held is fault all = by (takes_values a) fault
    where
      by : (b : Bool) → cond b (option_fault shape.rules shape.args_override_self a given held)
          (cond (is_some given) (kind.TooManyValues ∷ []) (react_fault shape.rules shape.args_override_self a [] held)) ≡ []
          → Sound (cond b (option_met shape.rules a given held) (flag_met shape.rules a given held)).0
      by true e = option_met-holds a given held is e all
      by false e = flag_met-holds a given held is (λ none. rw none at e) all

  -- a short flag or option, where what follows keeps the rows too
  short_met-holds : (found : Option Rule) (rest : Text) (held : Held) (fault_of_rest : Held → Kinds) (rest_met : Held → Held × Outcome)
      → IfSome found (IsPlainRule shape.rules) → ((h : Held) → fault_of_rest h ≡ [] → Sound h → Sound (rest_met h).0)
      → short_fault shape.rules shape.args_override_self found rest held fault_of_rest ≡ [] → Sound held → Sound (short_met shape.rules found rest held rest_met).0
  short_met-holds None rest held fault_of_rest rest_met is go_on fault all = all
  short_met-holds (Some a) rest held fault_of_rest rest_met is go_on fault all = by (takes_values a) fault
    where
      by : (b : Bool) → cond b (option_fault shape.rules shape.args_override_self a (attached_value rest) held)
          (or_else (react_fault shape.rules shape.args_override_self a [] held) (fault_of_rest (reacted shape.rules a [] held))) ≡ []
          → Sound (cond b (option_met shape.rules a (attached_value rest) held) (rest_met (reacted shape.rules a [] held))).0
      by true e = option_met-holds a (attached_value rest) held is e all
      by false e =
          let parts = no_faults _ _ e in
          go_on (reacted shape.rules a [] held) parts.1 (reacted-holds a [] held is parts.0 all)

  -- one character of `-abc`, where what follows keeps the rows too
  bundle_step-holds : (x : Option ℕ) (flags : Text) (skip : ℕ) (so_far : Outcome) (held : Held) (fault_of_rest : Text → ℕ → Held → Kinds)
      (rest_met : Text → ℕ → Outcome → Held → Held × Outcome)
      → ((f : Text) (k : ℕ) (o : Outcome) (h : Held) → fault_of_rest f k h ≡ [] → Sound h → Sound (rest_met f k o h).0)
      → bundle_step_fault shape.rules shape.args_override_self x flags skip held fault_of_rest ≡ [] → Sound held
      → Sound (bundle_step shape.rules x flags skip so_far held rest_met).0
  bundle_step-holds None flags skip so_far held fault_of_rest rest_met go_on fault all = all
  bundle_step-holds (Some x) flags zero so_far held fault_of_rest rest_met go_on fault all =
      short_met-holds (arg_by_short shape.rules x) _ held _ _ (plain_found _ (arg_by_short shape.rules x) refl) (λ h. go_on _ 0 done h) fault all
  bundle_step-holds (Some x) flags (suc skip) so_far held fault_of_rest rest_met go_on fault all = go_on _ skip so_far held fault all

  -- all of them
  bundle_met-holds : (k : ℕ) (flags : Text) (skip : ℕ) (so_far : Outcome) (held : Held) → flags_fault shape.rules shape.args_override_self k flags skip held ≡ []
      → Sound held → Sound (bundle_met shape.rules k flags skip so_far held).0
  unfolding flags_fault bundle_met
  bundle_met-holds zero flags skip so_far held fault all = all
  bundle_met-holds (suc k) flags skip so_far held fault all =
      bundle_step-holds (slice_get (chars flags) 0) flags skip so_far held (flags_fault shape.rules shape.args_override_self k) (bundle_met shape.rules k)
      (bundle_met-holds k) fault all

  -- ---- a word

  -- a value that an option waits for is held, and not used yet
  option_word-holds : (found : Option Rule) (id word : Text) (held : Held) → Sound held → Sound (option_word found id word held).0
  option_word-holds None id word held all = all
  option_word-holds (Some a) id word held all = all

  -- a word that is no flag
  plain_word-holds : (waiting : Waiting) (word : Text) (held : Held) → Sound held → Sound (plain_word shape.rules waiting word held).0
  plain_word-holds (option id) word held all = option_word-holds (arg_by_id shape.rules id) id word held all
  plain_word-holds _ word held all = all

  -- what a flag word comes to
  after_flag-holds : (waiting : Waiting) (word : Text) (held : Held) (outcome : Outcome) → Sound held → Sound (after_flag shape.rules waiting word held outcome).0
  after_flag-holds waiting word held done all = all
  after_flag-holds waiting word held (waits id) all = all
  after_flag-holds waiting word held _ all = plain_word-holds waiting word held all

  -- a word that is not `--name`
  short_or_plain-holds : (waiting : Waiting) (word : Text) (flags : Option Text) (held : Held)
      → option_map_or (λ flags. bundle_fault shape.rules shape.args_override_self flags held) flags [] ≡ [] → Sound held
      → Sound (short_or_plain shape.rules waiting word flags held).0
  short_or_plain-holds waiting word None held fault all = plain_word-holds waiting word held all
  short_or_plain-holds waiting word (Some flags) held fault all =
      after_flag-holds waiting word _ _ (bundle_met-holds (length flags) flags held.skip plain (record held { skip = 0 }) fault all)

  -- a word that is not `--`
  long_or_other-holds : (waiting : Waiting) (word : Text) (named : Option (Text × Option Text)) (held : Held)
      → flag_word_fault shape.rules shape.args_override_self named word held ≡ [] → Sound held → Sound (long_or_other shape.rules waiting word named held).0
  long_or_other-holds waiting word None held fault all = short_or_plain-holds waiting word (short_of word) held fault all
  long_or_other-holds waiting word (Some p) held fault all =
      after_flag-holds waiting word _ _ (long_met-holds (arg_by_long shape.rules p.0) p.1 held (plain_found _ (arg_by_long shape.rules p.0) refl) fault all)

  -- a word that names no subcommand
  subcommand_or_other-holds : (met : Option Text) (waiting : Waiting) (place : ℕ) (word : Text) (held : Held) → other_fault shape met word held ≡ []
      → Sound held → Sound (subcommand_or_other shape.rules met waiting place word held).0
  subcommand_or_other-holds (Some name) waiting place word held fault all = all
  subcommand_or_other-holds None waiting place word held fault all = by (bytes_eq word (45 ∷ 45 ∷ [])) fault
    where
      by : (b : Bool) → cond b [] (flag_word_fault shape.rules shape.args_override_self (long_of word) word held) ≡ []
          → Sound (cond b (held, trailing place) (long_or_other shape.rules waiting word (long_of word) held)).0
      by true e = all
      by false e = long_or_other-holds waiting word (long_of word) held e all

  -- any word
  word_met-holds : (is_trailing : Bool) (waiting : Waiting) (place : ℕ) (word : Text) (held : Held) → word_fault shape names is_trailing waiting word held ≡ []
      → Sound held → Sound (word_met shape.rules names is_trailing waiting place word held).0
  word_met-holds true waiting place word held fault all = all
  word_met-holds false waiting place word held fault all = subcommand_or_other-holds (subcommand_met names waiting word) waiting place word held fault all

  -- ---- the walk

  -- a word goes to a positional argument
  positional_held-holds : (a : Rule) (word : Text) (held : Held) → positional_fault shape.rules shape.args_override_self a held ≡ [] → Sound held
      → Sound (positional_held shape.rules a word held)
  positional_held-holds a word held fault all = by (is_pending a held.pending && takes_several a) fault
    where
      by : (b : Bool) → cond b [] (settle_fault shape.rules shape.args_override_self held) ≡ []
          → AllByRecursion (Holds shape.rules) (cond b held (settled shape.rules held)).rows
      by true e = all
      by false e = settled-holds held e all

  -- or to none
  to_positional-holds : (found : Option Rule) (word : Text) (walk : Walk) (held : Held)
      → option_map_or (λ a. positional_fault shape.rules shape.args_override_self a held) found (stray_fault shape) ≡ [] → Sound held
      → Sound (to_positional shape.rules found word walk held).held
  to_positional-holds None word walk held fault all = all
  to_positional-holds (Some a) word walk held fault all = positional_held-holds a word held fault all

  -- the walk goes on after a word
  after_step-holds : (word : Text) (walk : Walk) (held : Held) (step : Step) → step_fault shape walk.position held step ≡ [] → Sound held
      → Sound (after_step shape.rules word walk held step).held
  after_step-holds word walk held (next waiting) fault all = all
  after_step-holds word walk held (trailing place) fault all = all
  after_step-holds word walk held (subcommand name) fault all = all
  after_step-holds word walk held value fault all = to_positional-holds (arg_by_index shape.rules walk.position) word walk held fault all

  -- where no subcommand was met, and where one was
  walked_from-holds : (stopped : Option (Text × List Text)) (walk : Walk) (word : Text)
      → cond (is_some stopped) [] (or_else (word_fault shape names walk.is_trailing walk.waiting word walk.held)
      (step_fault shape walk.position (word_met shape.rules names walk.is_trailing walk.waiting walk.position word walk.held).0
      (word_met shape.rules names walk.is_trailing walk.waiting walk.position word walk.held).1)) ≡ []
      → Sound walk.held → Sound (walked_from shape.rules names stopped walk word).held
  walked_from-holds (Some p) walk word fault all = all
  walked_from-holds None walk word fault all =
      let parts = no_faults _ _ fault in
      after_step-holds word walk _ _ parts.1 (word_met-holds walk.is_trailing walk.waiting walk.position word walk.held parts.0 all)

  -- so it does at each word
  walked-holds : (walk : Walk) (word : Text) → turn_fault shape names walk word ≡ [] → Sound walk.held → Sound (walked shape.rules names walk word).held
  unfolding walked
  walked-holds walk word fault all = walked_from-holds walk.stopped walk word fault all

  -- after all words each row is one of the argument of its name
  pub walk-holds : (words : List Text) (walk : Walk) → walk_fault shape names walk words ≡ [] → Sound walk.held
      → Sound (fold (walked shape.rules names) walk words).held
  unfolding walk_fault
  walk-holds [] walk fault all = all
  walk-holds (word ∷ words) walk fault all =
      let parts = no_faults _ _ fault in
      walk-holds words (walked shape.rules names walk word) parts.1 (walked-holds walk word parts.0 all)

  -- and after the last argument has its values
  pub settled_at_end : (held : Held) → settle_fault shape.rules shape.args_override_self held ≡ [] → Sound held → Sound (settled shape.rules held)
  settled_at_end held fault all = settled-holds held fault all
