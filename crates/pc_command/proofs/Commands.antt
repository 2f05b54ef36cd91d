-- What the matches make of the words, as a command or none.
use Rattle.std.proofs.Common.{◌≡◌, List, refl}
use Rattle.std.specs.Prelude.{Option, Some, None, Ok, ok_or, option_and_then, option_map}
use Rattle.clap.specs.Walk.{Text}
use Rattle.pc_word.specs.Exact.{IsExact, IsRefusal}
use Rattle.pc_command.specs.Matching.{Matches}
use Rattle.pc_command.specs.Arguments.{assemble_app, check_app, compile_app, explain_app, matches_taken, simulate_app, stat_app, view_app}
use Rattle.pc_command.specs.Requests.{assemble_command_of, assemble_request_in, command_cause, compile_command_of, compile_request_in}
use Rattle.pc_command.specs.Requests.{check_command_of, check_request_in, simulate_command_of, simulate_request_in, stat_command_of, stat_request_in, view_command_of, view_request_in}
use Rattle.pc_command.specs.Requests.{explain_command_of, explain_request_in}
use Rattle.pc_command.specs.declared.error.CommandError.{CommandError}
use Rattle.pc_command.specs.declared.error.CommandError.TheVariants.{NoCommand, Memory}

-- a value that is there
pub there : {X : Type 0} (o : Option X) (x : X) → ok_or o NoCommand ≡ Ok x → o ≡ Some x
there None x e = cc
there (Some y) x e = cc

-- what is refused stays so when it is read on
refused_on : {X Y : Type 0} (error : CommandError) (o : Option X) (f : X → Option Y) → IsRefusal (command_cause error) (ok_or o NoCommand)
    → IsRefusal (command_cause error) (ok_or (option_and_then f o) NoCommand)
refused_on Memory o f h = tt
refused_on NoCommand None f h = refl
refused_on NoCommand (Some x) f h = cc

refused_as : {X Y : Type 0} (error : CommandError) (o : Option X) (f : X → Y) → IsRefusal (command_cause error) (ok_or o NoCommand)
    → IsRefusal (command_cause error) (ok_or (option_map f o) NoCommand)
refused_as Memory o f h = tt
refused_as NoCommand None f h = refl
refused_as NoCommand (Some x) f h = cc

-- a value that is seen by `view`, or no command
pub exact_in : {X Y : Type 0} (view : X → Y) (read : Option X) (asked : Option Y) → option_map view read ≡ asked
    → IsExact view command_cause (ok_or read NoCommand) (ok_or asked NoCommand)
exact_in view None asked h = rw (← h) refl
exact_in view (Some x) asked h = rw (← h) refl

-- words of which `clap` gives the compiler no matches are no command
pub compile-refused : (error : CommandError) (words : List Text) → IsRefusal (command_cause error) (ok_or (matches_taken compile_app words) NoCommand)
    → IsRefusal (command_cause error) (ok_or (compile_command_of words) NoCommand)
unfolding compile_command_of
compile-refused error words h = refused_on error (matches_taken compile_app words) compile_request_in h

-- other words are a command where the matches ask for something
pub compile-taken : (words : List Text) (matches : Matches) → ok_or (matches_taken compile_app words) NoCommand ≡ Ok matches
    → compile_command_of words ≡ compile_request_in matches
unfolding compile_command_of
compile-taken words matches taken = rw (there _ matches taken) refl

-- so of the assembler
pub assemble-refused : (error : CommandError) (words : List Text) → IsRefusal (command_cause error) (ok_or (matches_taken assemble_app words) NoCommand)
    → IsRefusal (command_cause error) (ok_or (assemble_command_of words) NoCommand)
unfolding assemble_command_of
assemble-refused error words h = refused_as error (matches_taken assemble_app words) assemble_request_in h

pub assemble-taken : (words : List Text) (matches : Matches) → ok_or (matches_taken assemble_app words) NoCommand ≡ Ok matches
    → assemble_command_of words ≡ Some (assemble_request_in matches)
unfolding assemble_command_of
assemble-taken words matches taken = rw (there _ matches taken) refl

-- of the simulator
pub simulate-refused : (error : CommandError) (words : List Text) → IsRefusal (command_cause error) (ok_or (matches_taken simulate_app words) NoCommand)
    → IsRefusal (command_cause error) (ok_or (simulate_command_of words) NoCommand)
unfolding simulate_command_of
simulate-refused error words h = refused_as error (matches_taken simulate_app words) simulate_request_in h

pub simulate-taken : (words : List Text) (matches : Matches) → ok_or (matches_taken simulate_app words) NoCommand ≡ Ok matches
    → simulate_command_of words ≡ Some (simulate_request_in matches)
unfolding simulate_command_of
simulate-taken words matches taken = rw (there _ matches taken) refl

-- of the viewer
pub view-refused : (error : CommandError) (words : List Text) → IsRefusal (command_cause error) (ok_or (matches_taken view_app words) NoCommand)
    → IsRefusal (command_cause error) (ok_or (view_command_of words) NoCommand)
unfolding view_command_of
view-refused error words h = refused_as error (matches_taken view_app words) view_request_in h

pub view-taken : (words : List Text) (matches : Matches) → ok_or (matches_taken view_app words) NoCommand ≡ Ok matches
    → view_command_of words ≡ Some (view_request_in matches)
unfolding view_command_of
view-taken words matches taken = rw (there _ matches taken) refl

-- of the profiler
pub stat-refused : (error : CommandError) (words : List Text) → IsRefusal (command_cause error) (ok_or (matches_taken stat_app words) NoCommand)
    → IsRefusal (command_cause error) (ok_or (stat_command_of words) NoCommand)
unfolding stat_command_of
stat-refused error words h = refused_on error (matches_taken stat_app words) stat_request_in h

pub stat-taken : (words : List Text) (matches : Matches) → ok_or (matches_taken stat_app words) NoCommand ≡ Ok matches
    → stat_command_of words ≡ stat_request_in matches
unfolding stat_command_of
stat-taken words matches taken = rw (there _ matches taken) refl

-- of the checker
pub check-refused : (error : CommandError) (words : List Text) → IsRefusal (command_cause error) (ok_or (matches_taken check_app words) NoCommand)
    → IsRefusal (command_cause error) (ok_or (check_command_of words) NoCommand)
unfolding check_command_of
check-refused error words h = refused_on error (matches_taken check_app words) check_request_in h

pub check-taken : (words : List Text) (matches : Matches) → ok_or (matches_taken check_app words) NoCommand ≡ Ok matches
    → check_command_of words ≡ check_request_in matches
unfolding check_command_of
check-taken words matches taken = rw (there _ matches taken) refl

-- and of the explainer
pub explain-refused : (error : CommandError) (words : List Text) → IsRefusal (command_cause error) (ok_or (matches_taken explain_app words) NoCommand)
    → IsRefusal (command_cause error) (ok_or (explain_command_of words) NoCommand)
unfolding explain_command_of
explain-refused error words h = refused_on error (matches_taken explain_app words) explain_request_in h

pub explain-taken : (words : List Text) (matches : Matches) → ok_or (matches_taken explain_app words) NoCommand ≡ Ok matches
    → explain_command_of words ≡ explain_request_in matches
unfolding explain_command_of
explain-taken words matches taken = rw (there _ matches taken) refl
