-- A flag, as `clap` reads it of the matches.
use Rattle.std.proofs.Common.{◌≡◌, Bool, true, false, refl, codes}
use Rattle.std.specs.Prelude.{Option, Some, None, bytes_eq, option_and_then}
use Rattle.std.specs.Option.{IsSome}
use Rattle.std.proofs.lemmas.Slice.Eq.{bytes_eq-Decides}
use Rattle.clap.specs.Walk.{Text, one_of}
use Rattle.pc_command.specs.Matching.{Matches}
use Rattle.pc_command.specs.Arguments.{flag_found, flag_in, flag_spelled}

-- a flag is what is read of its value, where that is one of the two words
pub flag_in-read : (name : Text) (matches : Matches) (read : Bool) → IsSome (flag_found name matches)
    → (one_of name matches ≡ Some (codes "true") → read ≡ true) → (one_of name matches ≡ Some (codes "false") → read ≡ false)
    → read ≡ flag_in name matches
unfolding flag_in
flag_in-read name matches read found on off = by (one_of name matches) refl found
  where
    by_word : (text : Text) → one_of name matches ≡ Some text → (b c : Bool) → bytes_eq text (codes "true") ≡ b → bytes_eq text (codes "false") ≡ c
        → IsSome (flag_spelled text) → read ≡ flag_in name matches
    by_word text e true c is other some =
        let word : text ≡ codes "true" = (bytes_eq-Decides text (codes "true")).0 is in
        rw (e, is) (on (rw (← word) e))
    by_word text e false true is other some =
        let word : text ≡ codes "false" = (bytes_eq-Decides text (codes "false")).0 other in
        rw (e, is, other) (off (rw (← word) e))
    by_word text e false false is other some = absurd (let bad = rw (is, other) at some in cc)

    by : (o : Option Text) → one_of name matches ≡ o → IsSome (option_and_then flag_spelled o) → read ≡ flag_in name matches
    by None e some = absurd (cc)
    by (Some text) e some = by_word text e (bytes_eq text (codes "true")) (bytes_eq text (codes "false")) refl refl some
