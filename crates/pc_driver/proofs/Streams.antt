-- What was sent to a stream.
use Rattle.std.proofs.Common.{◌≡◌, ℕ, List, [], length, Option, Some, None, sym, subst, arith, zero-le, append-nil}
use Rattle.std.proofs.lemmas.List.{take_all}
use Rattle.std.specs.Io.KnownBytes.{Appends}
use Rattle.pc_outside.specs.Stream.{AppendsPart}
use Rattle.pc_driver.specs.Streams.{Streamed, SendsFront}

-- a proper prefix was sent
pub sends_part : (old new : Streamed) (text : List ℕ) → AppendsPart old.told new.told text → SendsFront old new text
sends_part old new text part = record { sent = part.sent; bound = omega (arith, part.short); grew = part.grew }

-- a whole text was sent
pub sends_all : (old new : Streamed) (text : List ℕ) → Appends old.told new.told text → SendsFront old new text
sends_all old new text all = record {
  sent = length text;
  bound = omega arith;
  grew = subst (λ sent. Appends old.told new.told sent) (sym (take_all (length text) text (omega arith))) all;
}

-- nothing was sent
sends_nothing : (told : Option (List ℕ)) → Appends told told []
sends_nothing None = tt
sends_nothing (Some bytes) = sym (append-nil bytes)

pub sends_none : (old new : Streamed) (text : List ℕ) → new ≡ old → SendsFront old new text
sends_none old new text same = record {
  sent = 0;
  bound = zero-le;
  grew = subst (λ (now : Streamed). Appends old.told now.told []) (sym same) (sends_nothing old.told);
}
