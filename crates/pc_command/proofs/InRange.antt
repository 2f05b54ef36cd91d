-- Commands are in range.
use Rattle.std.proofs.Common.{◌≡◌, ◌^◌, ◌<◌, ℕ, Bool, true, false, List, refl, ◌∙◌, ap, subst}
use Rattle.std.specs.Prelude.{Option, Some, None, codes, nat_lt, option_and_then, option_map, unwrap_or}
use Rattle.std.specs.Str.Parse.{digits_value}
use Rattle.std.proofs.lemmas.Bool.{ltb-true}
use Rattle.pc_word.specs.NumberText.{is_numeral}
use Rattle.pc_command.specs.Matching.{Matches}
use Rattle.pc_command.specs.Arguments.{check_app, compile_app, explain_app, flag_in, matches_taken, simulate_app, stat_app, word_in}
use Rattle.pc_command.specs.Laws.{CheckCommandsAreInRange, CompileCommandsAreInRange, ExplainCommandsAreInRange, SimulateCommandsAreInRange, StatCommandsAreInRange}
use Rattle.pc_command.specs.Laws.{IsExplainInRange, IsInRange, IsSourcePlace, IsStatInRange}
use Rattle.pc_word.specs.Ranges.{AreCycles}
use Rattle.pc_command.specs.Requests.{CompileRequest, OfFile, OfSample, SourcePlace, SimulateRequest, compile_command_of, compile_request_in}
use Rattle.pc_command.specs.Requests.{behind_at, extent_in, limits_in, source_place_behind, source_place_of, sample_number_of, simulate_command_of, simulate_request_in}
use Rattle.pc_command.specs.Options.{cycles_option, loop_option, number_found, number_in}
use Rattle.pc_command.specs.Requests.{CheckRequest, ExplainRequest, check_command_of, check_request_in, explain_command_of, explain_mode_in, explain_request_for, explain_request_in}
use Rattle.pc_command.specs.Requests.{StatRequest, mode_in, mode_of, stat_command_of, stat_request_in}
use Rattle.pc_command.specs.declared.explain.ExplainMode.{ExplainMode}
use Rattle.pc_command.specs.declared.stat.StatMode.{StatMode}
use Rattle.pc_command.specs.declared.stat.StatMode.TheVariants as mode
use Rattle.pc_command.proofs.Sources.{behind_at-is_none}
use Rattle.pc_command.proofs.Ranges.{cycles-between, extent_in-range, limits_in-range, loop-between, trace-between}

-- equal where they are there
value_is : {X : Type 0} (x y : X) → Some x ≡ Some y → x ≡ y
value_is {X = X} x y e = ap (λ (o : Option X). unwrap_or o x) e

-- the number of a sample fits 32 bits
sample_number_of-small : (digits : List ℕ) (place : SourcePlace) → option_map OfSample (sample_number_of digits) ≡ Some place → IsSourcePlace place
sample_number_of-small digits place e = by (is_numeral digits) (nat_lt (digits_value 10 digits) (2 ^ 32)) refl refl e
  where
    small : (place : SourcePlace) → nat_lt (digits_value 10 digits) (2 ^ 32) ≡ true → OfSample (digits_value 10 digits) ≡ place → IsSourcePlace place
    small (OfFile path) h e = cc
    small (OfSample number) h e =
        let below : digits_value 10 digits < 2 ^ 32 = ltb-true _ _ h in
        let same : digits_value 10 digits ≡ number = cc in
        rw (← same) below

    by : (a b : Bool) → is_numeral digits ≡ a → nat_lt (digits_value 10 digits) (2 ^ 32) ≡ b
        → option_map OfSample (sample_number_of digits) ≡ Some place → IsSourcePlace place
    by true true h k e = small place k (let is : Some (OfSample (digits_value 10 digits)) ≡ Some place = rw (h, k) at e in cc)
    by true false h k e =
        let bad : None ≡ Some place = rw (h, k) at e in
        cc
    by false b h k e =
        let bad : None ≡ Some place = rw h at e in
        cc

-- a word names a file that does not begin with `@`, or a sample
source_place_of-IsSourcePlace : (word : List ℕ) (place : SourcePlace) → source_place_of word ≡ Some place → IsSourcePlace place
unfolding source_place_of
source_place_of-IsSourcePlace word place e = by (behind_at word) refl place e
  where
    by : (o : Option (List ℕ)) → behind_at word ≡ o → (place : SourcePlace) → source_place_behind word o ≡ Some place → IsSourcePlace place
    by (Some digits) h place e = sample_number_of-small digits place e
    by None h (OfSample number) e = cc
    by None h (OfFile path) e = λ rest.
        let is : word ≡ path = cc in
        rw (← is) (behind_at-is_none word rest h)

-- what the compiler's matches ask is in range
compile_request_in-range : (matches : Matches) (request : CompileRequest) → compile_request_in matches ≡ Some request → IsInRange request
unfolding compile_request_in
compile_request_in-range matches request e = by (source_place_of (word_in (codes "SRC") matches)) refl e
  where
    by : (o : Option SourcePlace) → source_place_of (word_in (codes "SRC") matches) ≡ o → compile_request_in matches ≡ Some request → IsInRange request
    by None h e =
        let bad : None ≡ Some request = rw h at e in
        cc
    by (Some place) h e =
        let is = value_is _ request (rw h at e) in
        let held : IsInRange record {
          source = place;
          object = word_in (codes "OBJ") matches;
          limits = limits_in matches;
          extent = extent_in matches;
          report = flag_in (codes "report") matches;
        } = record {
          source = source_place_of-IsSourcePlace (word_in (codes "SRC") matches) place h;
          limits = limits_in-range matches;
          extent = extent_in-range matches;
        } in
        subst (λ (r : CompileRequest). IsInRange r) is held

pub compile_command_of-range : CompileCommandsAreInRange
unfolding compile_command_of
compile_command_of-range words request e = by (matches_taken compile_app words) e
  where
    by : (o : Option Matches) → option_and_then compile_request_in o ≡ Some request → IsInRange request
    by None e = cc
    by (Some matches) e = compile_request_in-range matches request e

pub simulate_command_of-range : SimulateCommandsAreInRange
unfolding simulate_command_of simulate_request_in
simulate_command_of-range words request e = by (matches_taken simulate_app words) e
  where
    by : (o : Option Matches) → option_map simulate_request_in o ≡ Some request → AreCycles request.cycles
    by None e = cc
    by (Some matches) e =
        let is = value_is (simulate_request_in matches) request e in
        subst (λ (r : SimulateRequest). AreCycles r.cycles) is (cycles-between matches)

-- the number of a trace that is asked for is the one that was given
traced_given : (rows : Bool) (trace : Option ℕ) (dot json : Bool) (cycles : ℕ) → mode_of rows trace dot json ≡ Some (mode.Trace cycles) → trace ≡ Some cycles
traced_given false (Some given) false false cycles e = cc
traced_given false None false false cycles e = absurd (cc)
traced_given true None false false cycles e = absurd (cc)
traced_given false None true false cycles e = absurd (cc)
traced_given false None false true cycles e = absurd (cc)
traced_given _ _ _ _ cycles e = absurd (cc)

-- what the profiler's matches ask is in range
stat_request_in-range : (matches : Matches) (request : StatRequest) → stat_request_in matches ≡ Some request → IsStatInRange request
unfolding stat_request_in
stat_request_in-range matches request e = by (mode_in matches) refl e
  where
    by : (o : Option StatMode) → mode_in matches ≡ o
        → option_map (λ mode. record { object = word_in (codes "OBJ") matches; cycles = number_in cycles_option matches; mode = mode }) o ≡ Some request
        → IsStatInRange request
    by None h e = absurd (cc)
    by (Some asked) h e =
        let is = value_is _ request e in
        let held : IsStatInRange record { object = word_in (codes "OBJ") matches; cycles = number_in cycles_option matches; mode = asked } = record {
          cycles = cycles-between matches;
          trace = λ cycles traced. trace-between matches cycles (traced_given _ _ _ _ cycles (h ∙ ap (λ (m : StatMode). Some m) traced));
        } in
        subst (λ (r : StatRequest). IsStatInRange r) is held

pub stat_command_of-range : StatCommandsAreInRange
unfolding stat_command_of
stat_command_of-range words request e = by (matches_taken stat_app words) e
  where
    by : (o : Option Matches) → option_and_then stat_request_in o ≡ Some request → IsStatInRange request
    by None e = absurd (cc)
    by (Some matches) e = stat_request_in-range matches request e

-- what the checker's matches ask is in range
check_request_in-range : (matches : Matches) (request : CheckRequest) → check_request_in matches ≡ Some request → IsSourcePlace request.source
unfolding check_request_in
check_request_in-range matches request e = by (source_place_of (word_in (codes "SRC") matches)) refl e
  where
    by : (o : Option SourcePlace) → source_place_of (word_in (codes "SRC") matches) ≡ o → check_request_in matches ≡ Some request
        → IsSourcePlace request.source
    by None h e = absurd (let bad : None ≡ Some request = rw h at e in cc)
    by (Some place) h e =
        let is = value_is _ request (rw h at e) in
        subst (λ (r : CheckRequest). IsSourcePlace r.source) is (source_place_of-IsSourcePlace (word_in (codes "SRC") matches) place h)

pub check_command_of-range : CheckCommandsAreInRange
unfolding check_command_of
check_command_of-range words request e = by (matches_taken check_app words) e
  where
    by : (o : Option Matches) → option_and_then check_request_in o ≡ Some request → IsSourcePlace request.source
    by None e = absurd (cc)
    by (Some matches) e = check_request_in-range matches request e

-- what the explainer's matches ask is in range
explain_request_in-range : (matches : Matches) (request : ExplainRequest) → explain_request_in matches ≡ Some request → IsExplainInRange request
unfolding explain_request_in
explain_request_in-range matches request e = by (explain_mode_in matches) (source_place_of (word_in (codes "SRC") matches)) refl e
  where
    by : (mode : Option ExplainMode) (place : Option SourcePlace) → source_place_of (word_in (codes "SRC") matches) ≡ place
        → option_and_then (λ mode. option_map (explain_request_for matches mode) place) mode ≡ Some request → IsExplainInRange request
    by None place h e = absurd (cc)
    by (Some mode) None h e = absurd (cc)
    by (Some mode) (Some place) h e =
        let is = value_is _ request e in
        let held : IsExplainInRange (explain_request_for matches mode place) = record {
          source = source_place_of-IsSourcePlace (word_in (codes "SRC") matches) place h;
          limits = limits_in-range matches;
          extent = extent_in-range matches;
          line = loop-between matches;
        } in
        subst (λ (r : ExplainRequest). IsExplainInRange r) is held

pub explain_command_of-range : ExplainCommandsAreInRange
unfolding explain_command_of
explain_command_of-range words request e = by (matches_taken explain_app words) e
  where
    by : (o : Option Matches) → option_and_then explain_request_in o ≡ Some request → IsExplainInRange request
    by None e = absurd (cc)
    by (Some matches) e = explain_request_in-range matches request e
