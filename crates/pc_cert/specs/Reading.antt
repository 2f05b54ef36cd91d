-- The reading of a certificate's text: field by field from the left, up to the first that is wrong.
-- A reader takes the bytes that are left, and gives a value and the bytes after its fields.
use Rattle.std.specs.Prelude.{ℕ, zero, suc, ◌-◌, ℤ, Bool, true, false, if◌then◌else◌, ◌==◌, ◌||◌, nat_eq, nat_lt, nat_le}
use Rattle.std.specs.Prelude.{List, [], ◌∷◌, length, take, drop, Option, Some, None, Result, Ok, Err}
use Rattle.std.specs.Int.{Width, w16, w32, byte_len, from_be_bytes, cast_signed}
use Rattle.pc_cert.specs.declared.certificate.Source.{Source}
use Rattle.pc_cert.specs.declared.certificate.Source.TheVariants as sources
use Rattle.pc_cert.specs.declared.certificate.WindowOperand.{WindowOperand}
use Rattle.pc_cert.specs.declared.certificate.WindowOperand.TheVariants as operands
use Rattle.pc_cert.specs.declared.certificate.Fact.{Fact}
use Rattle.pc_cert.specs.declared.certificate.Opening.{Opening}
use Rattle.pc_cert.specs.declared.certificate.Step.{Step}
use Rattle.pc_cert.specs.declared.certificate.Step.TheVariants.{Bring, Join, Open, Enter, Use}
use Rattle.pc_cert.specs.declared.certificate.Entry.{Entry}
use Rattle.pc_cert.specs.declared.refusal.Refusal.{Refusal}
use Rattle.pc_cert.specs.declared.refusal.Refusal.TheVariants as refusals
use Rattle.pc_cert.specs.declared.refusal.CertificateError.{CertificateError}
use Rattle.pc_cert.specs.declared.refusal.CertificateError.TheVariants.{BadMagic, Truncated, BadFact, BadStep, Trailing}

-- one reading after another: the first refusal wins
infixl 10 ◌>>=◌
abbrev pub ◌>>=◌ : {A B : Type 0} → Result A Refusal → (A → Result B Refusal) → Result B Refusal
(Ok x) >>= f = f x
(Err refusal) >>= f = Err refusal

-- the same, where the first gives nothing
infixl 10 ◌>>◌
abbrev pub ◌>>◌ : {A B : Type 0} → Result A Refusal → Result B Refusal → Result B Refusal
first >> second = first >>= λ _. second

-- ---- fields

-- the next byte
abbrev pub byte_at : List ℕ → Result (ℕ × List ℕ) Refusal
byte_at [] = Err refusals.Short
byte_at (byte ∷ rest) = Ok (byte, rest)

-- a big-endian number of a width
abbrev pub number_at : Width → List ℕ → Result (ℕ × List ℕ) Refusal
number_at w bytes =
    if nat_lt (length bytes) (byte_len w) then Err refusals.Short
    else Ok (from_be_bytes w (take (byte_len w) bytes), drop (byte_len w) bytes)

-- a word in two's complement
unfoldable pub word_at : List ℕ → Result (ℤ × List ℕ) Refusal
word_at bytes = do
  number ← number_at w32 bytes
  Ok (cast_signed w32 number.0, number.1)

-- these first bytes; one that differs is not they, also where the others are missing
abbrev pub magic_at : List ℕ → List ℕ → Result (List ℕ) Refusal
magic_at [] bytes = Ok bytes
magic_at (first ∷ magic) [] = Err refusals.Short
magic_at (first ∷ magic) (byte ∷ bytes) = if byte == first then magic_at magic bytes else Err refusals.NotMagic

-- ---- facts

-- a register after 00, or a literal after 01
unfoldable pub source_at : List ℕ → Result (Source × List ℕ) Refusal
source_at [] = Err refusals.Short
source_at (zero ∷ rest) = do
  register ← byte_at rest
  Ok (sources.Register register.0, register.1)
source_at (suc zero ∷ rest) = do
  value ← word_at rest
  Ok (sources.Literal value.0, value.1)
source_at (suc (suc tag) ∷ rest) = Err (refusals.BadFact (suc (length rest)))

-- a parameter after 00, or a literal after 01
unfoldable pub operand_at : List ℕ → Result (WindowOperand × List ℕ) Refusal
operand_at [] = Err refusals.Short
operand_at (zero ∷ rest) = do
  parameter ← number_at w16 rest
  Ok (operands.Parameter parameter.0, parameter.1)
operand_at (suc zero ∷ rest) = do
  value ← word_at rest
  Ok (operands.Literal value.0, value.1)
operand_at (suc (suc tag) ∷ rest) = Err (refusals.BadFact (suc (length rest)))

-- a fact: its source and its operand
unfoldable pub fact_at : List ℕ → Result (Fact × List ℕ) Refusal
fact_at bytes = do
  source ← source_at bytes
  operand ← operand_at source.1
  Ok (record { source = source.0; operand = operand.0 }, operand.1)

-- ---- how a window begins

-- whether a stub alone is taken as its region, and the window, of a byte that has these
abbrev pub start_of : ℕ → Option (Bool × ℕ)
start_of byte =
    if nat_le byte 8 then Some (false, byte)
    else if nat_lt byte 16 || nat_lt 24 byte then None
    else Some (true, byte - 16)

-- the loop that a number stands for: FFFF is none
abbrev pub loop_of : ℕ → Option ℕ
loop_of number = if nat_eq number 0xFFFF then None else Some number

-- the value of a byte, or the refusal of a byte that has none
abbrev pub known : {A : Type 0} → List ℕ → Option A → Result A Refusal
known bytes (Some x) = Ok x
known bytes None = Err (refusals.BadStep (length bytes))

-- the byte of the window, and the loop
unfoldable pub opening_at : List ℕ → Result (Opening × List ℕ) Refusal
opening_at bytes = do
  first ← byte_at bytes
  start ← known bytes (start_of first.0)
  inside ← number_at w16 first.1
  Ok (record { enters = start.0; window = start.1; inside = loop_of inside.0 }, inside.1)

-- ---- steps

-- a step: its tag and its fields
unfoldable pub step_at : List ℕ → Result (Step × List ℕ) Refusal
step_at [] = Err refusals.Short
step_at (zero ∷ rest) = Err (refusals.BadStep (suc (length rest)))
step_at (suc zero ∷ rest) = do
  place ← number_at w16 rest
  Ok (Bring place.0, place.1)
step_at (suc (suc zero) ∷ rest) = do
  branch ← number_at w16 rest
  on_yes ← number_at w16 branch.1
  on_no ← number_at w16 on_yes.1
  Ok (Join branch.0 on_yes.0 on_no.0, on_no.1)
step_at (suc (suc (suc zero)) ∷ rest) = do
  leaf ← number_at w16 rest
  Ok (Open leaf.0, leaf.1)
step_at (suc (suc (suc (suc zero))) ∷ rest) = do
  leaf ← number_at w16 rest
  Ok (Enter leaf.0, leaf.1)
step_at (suc (suc (suc (suc (suc zero)))) ∷ rest) = do
  copy ← number_at w16 rest
  place ← number_at w16 copy.1
  Ok (Use copy.0 place.0, place.1)
step_at (suc (suc (suc (suc (suc (suc tag))))) ∷ rest) = Err (refusals.BadStep (suc (length rest)))

-- ---- the whole

-- this many things, one after the other
unfoldable pub many_at : {A : Type 0} → (List ℕ → Result (A × List ℕ) Refusal) → ℕ → List ℕ → Result (List A × List ℕ) Refusal
many_at one_at zero bytes = Ok ([], bytes)
many_at one_at (suc count) bytes = do
  first ← one_at bytes
  others ← many_at one_at count first.1
  Ok (first.0 ∷ others.0, others.1)

-- how many there are, in two bytes, and each
unfoldable pub counted_at : {A : Type 0} → (List ℕ → Result (A × List ℕ) Refusal) → List ℕ → Result (List A × List ℕ) Refusal
counted_at one_at bytes = do
  count ← number_at w16 bytes
  many_at one_at count.0 count.1

-- an entry: its row, its rank, its facts, how its window begins, and its steps
unfoldable pub entry_at : List ℕ → Result (Entry × List ℕ) Refusal
entry_at bytes = do
  row ← number_at w32 bytes
  rank ← number_at w32 row.1
  facts ← counted_at fact_at rank.1
  opening ← opening_at facts.1
  steps ← counted_at step_at opening.1
  Ok (record { row = row.0; rank = rank.0; facts = facts.0; opening = opening.0; steps = steps.0 }, steps.1)

-- nothing follows
abbrev pub end_at : List ℕ → Result (Unit {0}) Refusal
end_at [] = Ok tt
end_at (byte ∷ bytes) = Err (refusals.Longer (suc (length bytes)))

-- `PTC1`, the number of entries and each entry, and nothing after them
unfoldable pub entries_at : List ℕ → Result (List Entry) Refusal
entries_at bytes = do
  rest ← magic_at (0x50 ∷ 0x54 ∷ 0x43 ∷ 0x31 ∷ []) bytes
  count ← number_at w32 rest
  entries ← many_at entry_at count.0 count.1
  end_at entries.1
  Ok entries.0

-- the refusal of bytes of this number: the offset of a field is the number of bytes before it
abbrev pub told : ℕ → Refusal → CertificateError
told total refusals.NotMagic = BadMagic
told total refusals.Short = Truncated total
told total (refusals.BadFact left) = BadFact (total - left)
told total (refusals.BadStep left) = BadStep (total - left)
told total (refusals.Longer left) = Trailing (total - left)

-- what the bytes are: a certificate, or the first thing that is wrong with them
abbrev pub told_of : ℕ → Result (List Entry) Refusal → Result (List Entry) CertificateError
told_of total (Ok entries) = Ok entries
told_of total (Err refusal) = Err (told total refusal)

-- what bytes are read as: the entries of a certificate, or the first refusal with its offset
unfoldable pub certificate_reading : List ℕ → Result (List Entry) CertificateError
certificate_reading bytes = told_of (length bytes) (entries_at bytes)
