-- What a parse gives is what `clap`'s definitions say of the words.
use Rattle.std.proofs.Common.{◌≡◌, List, [], ◌∷◌, true, refl, inl, inr}
use Rattle.std.specs.Prelude.{Ok, Err, ok_or}
use Rattle.clap.specs.Faults.{fault_of, is_simple_and_free}
use Rattle.clap.specs.Kinds.{HasKind, IsAmong, Kinds}
use Rattle.clap.specs.Simple.{App, HasMatchesOf, is_simple}
use Rattle.clap.specs.Values.{kind_of}
use Rattle.clap.specs.Walk.{Text}
use Rattle.clap.specs.declared.error.Error.{Error}
use Rattle.clap.specs.declared.error.kind.ErrorKind.{ErrorKind}
use Rattle.clap.specs.declared.error.kind.ErrorKind.TheVariants as kind
use Rattle.clap.specs.declared.parser.matches.ArgMatches.{ArgMatches}
use Rattle.pc_word.specs.Exact.{IsRefusal}
use Rattle.pc_word.proofs.Truth.{and_true}
use Rattle.pc_command.specs.Matching.{Matches, matches_in}
use Rattle.pc_command.specs.Arguments.{matches_taken}
use Rattle.pc_command.specs.Requests.{command_cause}
use Rattle.pc_command.specs.models.Refusal.{refusal_for}
use Rattle.pc_command.specs.declared.error.CommandError.TheVariants.{NoCommand}

-- a simple command with no rules between arguments is simple
is_simple-of : (app : App) → is_simple_and_free app ≡ true → is_simple app ≡ true
is_simple-of app h = (and_true (is_simple app) _ h).0

-- matches come only where `clap` finds no fault, and are those of the definition
pub matches_taken-Ok : (app : App) (words : List Text) (matches : ArgMatches) → is_simple_and_free app ≡ true → fault_of app words ≡ []
    → HasMatchesOf app words matches → ok_or (matches_taken app words) NoCommand ≡ Ok (matches_in matches)
unfolding matches_taken
matches_taken-Ok app words matches simple none h = rw (none, (h (is_simple-of app simple)).0) refl

-- words are refused where there is a fault
matches_taken-fault : (app : App) (words : List Text) (kinds : Kinds) (k : ErrorKind) → fault_of app words ≡ kinds → IsAmong k kinds
    → ok_or (matches_taken app words) NoCommand ≡ Err NoCommand
unfolding matches_taken
matches_taken-fault app words [] k e among = absurd among
matches_taken-fault app words (first ∷ rest) k e among = rw e refl

-- what is no want of memory is no command
refused : (k : ErrorKind) → IsRefusal {Y = Matches} (command_cause (refusal_for k)) (Err NoCommand)
refused kind.OutOfMemory = tt
refused _ = refl

-- an error is want of memory, or comes where `clap` finds a fault
pub matches_taken-Err : (app : App) (words : List Text) (error : Error) → HasKind (fault_of app words) error
    → IsRefusal (command_cause (refusal_for (kind_of error))) (ok_or (matches_taken app words) NoCommand)
matches_taken-Err app words error (inl memory) = rw memory tt
matches_taken-Err app words error (inr among) = rw (matches_taken-fault app words (fault_of app words) (kind_of error) refl among) (refused (kind_of error))
