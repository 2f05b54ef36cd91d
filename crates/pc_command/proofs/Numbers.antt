-- The number of an option, as std reads it of the matches.
use Rattle.std.proofs.Common.{◌≡◌, ◌≤◌, ℕ, Bool, true, false, refl, sym, ◌∙◌, ap}
use Rattle.std.specs.Prelude.{Option, Some, None, Result, option_and_then, unwrap_or}
use Rattle.std.specs.declared.num.ParseIntError.{ParseIntError}
use Rattle.std.specs.Str.Parse.{ExplainsUnsignedError, HasUnsignedDigitsIfOk, ParsesUnsigned, digits_value, without_leading_plus}
use Rattle.std.specs.Option.{IsSome}
use Rattle.clap.specs.Walk.{Text, one_of}
use Rattle.clap.specs.Matches.{ReadsOne}
use Rattle.clap.specs.Values.{IsUnsignedIn}
use Rattle.clap.specs.ValueTests.{is_unsigned_in}
use Rattle.clap.specs.declared.builder.value_parser.ValueParser.TheVariants as vp
use Rattle.clap.proofs.ValueTestLemmas.{Accepts-accepts, accepts-Accepts}
use Rattle.pc_command.specs.Matching.{Matches}
use Rattle.pc_command.specs.Options.{NumberOption, number_found, number_in, number_spelled}

-- how std reads a text as a number of 64 bits
abbrev pub Reads64 : Text → Result ℕ ParseIntError → Type 0
Reads64 = λ text read. ParsesUnsigned 64 10 text read × ExplainsUnsignedError 10 text read × HasUnsignedDigitsIfOk text read

-- a text that spells a number in the range
number_spelled-in : (option : NumberOption) (text : Text) → IsUnsignedIn option.least option.greatest text
    → number_spelled option text ≡ Some (digits_value 10 (without_leading_plus text))
number_spelled-in option text h = rw (Accepts-accepts false (vp.Unsigned option.least option.greatest) text h) refl

-- what is known of what `get_one` read of an option
pub record IsRead (option : NumberOption) (matches : Matches) (read : Option ℕ) : Type 0 where
  pub none : one_of option.name matches ≡ None → read ≡ None
  pub value : (text : Text) → one_of option.name matches ≡ Some text → ReadsOne Reads64 text read

-- the number of an option by the text of its value
number_in-none : (option : NumberOption) (matches : Matches) → one_of option.name matches ≡ None → number_in option matches ≡ option.default
unfolding number_in
number_in-none option matches e = rw e refl

number_in-text : (option : NumberOption) (matches : Matches) (text : Text) → one_of option.name matches ≡ Some text
    → number_in option matches ≡ unwrap_or (number_spelled option text) option.default
unfolding number_in
number_in-text option matches text e = rw e refl

-- the number that std reads of a value that the option takes is the option's
pub number_in-read : (option : NumberOption) (matches : Matches) (read : Option ℕ) → IsRead option matches read → IsSome (number_found option matches)
    → read ≡ Some (number_in option matches)
number_in-read option matches read is found = by (one_of option.name matches) refl found
  where
    spelled : (text : Text) → IsUnsignedIn option.least option.greatest text → (read : Option ℕ) → ReadsOne Reads64 text read
        → read ≡ Some (unwrap_or (number_spelled option text) option.default)
    spelled text h None unread = absurd (unread.1.0 (h.0, h.1))
    spelled text h (Some number) reads = rw (number_spelled-in option text h) (ap (λ (n : ℕ). Some n) reads.0.1)

    by_text : (text : Text) (b : Bool) → is_unsigned_in option.least option.greatest text ≡ b → IsSome (number_spelled option text)
        → ReadsOne Reads64 text read → read ≡ Some (unwrap_or (number_spelled option text) option.default)
    by_text text true e some reads = spelled text (accepts-Accepts false (vp.Unsigned option.least option.greatest) text e) read reads
    by_text text false e some reads = absurd (let bad = rw e at some in cc)

    by : (o : Option Text) → one_of option.name matches ≡ o → IsSome (option_and_then (number_spelled option) o) → read ≡ Some (number_in option matches)
    by None e some = absurd (cc)
    by (Some text) e some =
        rw (number_in-text option matches text e) (by_text text (is_unsigned_in option.least option.greatest text) refl some (is.value text e))

-- a number that is there is the option's
number_in-found : (option : NumberOption) (matches : Matches) → IsSome (number_found option matches) → number_found option matches ≡ Some (number_in option matches)
unfolding number_in
number_in-found option matches found = by (number_found option matches) found
  where
    by : (o : Option ℕ) → IsSome o → o ≡ Some (unwrap_or o option.default)
    by None some = absurd (cc)
    by (Some number) some = refl

-- what std reads is the number that the matches have, if they have one
pub number_found-read : (option : NumberOption) (matches : Matches) (read : Option ℕ) → IsRead option matches read
    → (IsSome (one_of option.name matches) → IsSome (number_found option matches)) → read ≡ number_found option matches
number_found-read option matches read is found = by (one_of option.name matches) refl found
  where
    by : (o : Option Text) → one_of option.name matches ≡ o → (IsSome o → IsSome (option_and_then (number_spelled option) o)) → read ≡ number_found option matches
    by None e found = is.none e ∙ (rw e refl)
    by (Some text) e found =
        let some : IsSome (number_found option matches) = rw e (found refl) in
        number_in-read option matches read is some ∙ sym (number_in-found option matches some)

-- a number that is there lies in the option's range
pub number_found-between : (option : NumberOption) (matches : Matches) (number : ℕ) → number_found option matches ≡ Some number
    → (option.least ≤ number) × (number ≤ option.greatest)
number_found-between option matches number e = by (one_of option.name matches) e
  where
    spelled : (text : Text) (b : Bool) → is_unsigned_in option.least option.greatest text ≡ b → number_spelled option text ≡ Some number
        → (option.least ≤ number) × (number ≤ option.greatest)
    spelled text true is e =
        let h : IsUnsignedIn option.least option.greatest text = accepts-Accepts false (vp.Unsigned option.least option.greatest) text is in
        let same : Some (digits_value 10 (without_leading_plus text)) ≡ Some number = rw is at e in
        let value : digits_value 10 (without_leading_plus text) ≡ number = cc in
        rw (← value) (h.2, h.3)
    spelled text false is e = absurd (let bad : None ≡ Some number = rw is at e in cc)

    by : (o : Option Text) → option_and_then (number_spelled option) o ≡ Some number → (option.least ≤ number) × (number ≤ option.greatest)
    by None e = absurd (cc)
    by (Some text) e = spelled text (is_unsigned_in option.least option.greatest text) refl e

-- the number of an option lies in its range, where its default does
pub number_in-between : (option : NumberOption) (matches : Matches) → option.least ≤ option.default → option.default ≤ option.greatest
    → (option.least ≤ number_in option matches) × (number_in option matches ≤ option.greatest)
number_in-between option matches low high = by (one_of option.name matches) refl
  where
    spelled : (text : Text) (b : Bool) → is_unsigned_in option.least option.greatest text ≡ b
        → (option.least ≤ unwrap_or (number_spelled option text) option.default) × (unwrap_or (number_spelled option text) option.default ≤ option.greatest)
    spelled text true e =
        let h : IsUnsignedIn option.least option.greatest text = accepts-Accepts false (vp.Unsigned option.least option.greatest) text e in
        simp e (h.2, h.3)
    spelled text false e = simp e (low, high)

    by : (o : Option Text) → one_of option.name matches ≡ o
        → (option.least ≤ number_in option matches) × (number_in option matches ≤ option.greatest)
    by None e = rw (number_in-none option matches e) (low, high)
    by (Some text) e = rw (number_in-text option matches text e) (spelled text (is_unsigned_in option.least option.greatest text) refl)
