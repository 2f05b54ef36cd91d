-- The text of a certificate in the format PTC1. Numbers are big-endian.
use Rattle.std.specs.Prelude.{ℕ, ◌+◌, ◌<◌, ◌≤◌, if◌then◌else◌, List, [], ◌∷◌, ◌++◌, length, Option, Some, None}
use Rattle.std.specs.List.{flat_map, AllByRecursion}
use Rattle.pc_word.specs.MachineLimits.{most_object}
use Rattle.pc_object.specs.ObjectText.{u16_text, u32_text, word_text}
use Rattle.pc_cert.specs.declared.certificate.Source.{Source}
use Rattle.pc_cert.specs.declared.certificate.Source.TheVariants as sources
use Rattle.pc_cert.specs.declared.certificate.WindowOperand.{WindowOperand}
use Rattle.pc_cert.specs.declared.certificate.WindowOperand.TheVariants as operands
use Rattle.pc_cert.specs.declared.certificate.Fact.{Fact}
use Rattle.pc_cert.specs.declared.certificate.Opening.{Opening}
use Rattle.pc_cert.specs.declared.certificate.Step.{Step}
use Rattle.pc_cert.specs.declared.certificate.Step.TheVariants.{Bring, Join, Open, Enter, Use}
use Rattle.pc_cert.specs.declared.certificate.Entry.{Entry}

-- ---- facts

-- a register after 00, or a literal after 01
abbrev pub source_text : Source → List ℕ
source_text (sources.Register register) = 0x00 ∷ register ∷ []
source_text (sources.Literal value) = 0x01 ∷ word_text value

-- a parameter after 00, or a literal after 01
abbrev pub operand_text : WindowOperand → List ℕ
operand_text (operands.Parameter parameter) = 0x00 ∷ u16_text parameter
operand_text (operands.Literal value) = 0x01 ∷ word_text value

-- a fact: its source and its operand
abbrev pub fact_text : Fact → List ℕ
fact_text fact = source_text fact.source ++ operand_text fact.operand

-- ---- how a window begins

-- the window, with 16 more where a stub alone is taken as its region
abbrev pub opening_byte : Opening → ℕ
opening_byte opening = if opening.enters then 16 + opening.window else opening.window

-- a loop, or FFFF for none
abbrev pub loop_text : Option ℕ → List ℕ
loop_text (Some inside) = u16_text inside
loop_text None = u16_text 0xFFFF

-- the byte of the window, and the loop
abbrev pub opening_text : Opening → List ℕ
opening_text opening = opening_byte opening ∷ loop_text opening.inside

-- ---- steps

-- a step: its tag and its fields
abbrev pub step_text : Step → List ℕ
step_text (Bring place) = 0x01 ∷ u16_text place
step_text (Join branch on_yes on_no) = 0x02 ∷ (u16_text branch ++ (u16_text on_yes ++ u16_text on_no))
step_text (Open leaf) = 0x03 ∷ u16_text leaf
step_text (Enter leaf) = 0x04 ∷ u16_text leaf
step_text (Use copy place) = 0x05 ∷ (u16_text copy ++ u16_text place)

-- ---- the whole

-- how many facts there are, and each fact
abbrev pub facts_text : List Fact → List ℕ
facts_text facts = u16_text (length facts) ++ flat_map fact_text facts

-- how many steps there are, and each step
abbrev pub steps_text : List Step → List ℕ
steps_text steps = u16_text (length steps) ++ flat_map step_text steps

-- an entry: its row, its rank, its facts, how its window begins, and its steps
abbrev pub entry_text : Entry → List ℕ
entry_text entry =
    u32_text entry.row ++ (u32_text entry.rank ++ (facts_text entry.facts ++ (opening_text entry.opening ++ steps_text entry.steps)))

-- `PTC1`, the number of entries, and each entry
abbrev pub certificate_text : List Entry → List ℕ
certificate_text entries = 0x50 ∷ 0x54 ∷ 0x43 ∷ 0x31 ∷ (u32_text (length entries) ++ flat_map entry_text entries)

-- ---- certificates that may be written

-- a loop's number is not that of none
abbrev pub IsLoop : Option ℕ → Type 0
IsLoop (Some inside) = inside < 0xFFFF
IsLoop None = Unit {0}

-- the window has at most eight iterations
pub record IsOpening (opening : Opening) : Type 0 where
  pub window : opening.window ≤ 8
  pub inside : IsLoop opening.inside

-- its facts and steps are not too many, and its window begins in a known way
pub record IsEntry (entry : Entry) : Type 0 where
  pub few_facts : length entry.facts ≤ 65535
  pub few_steps : length entry.steps ≤ 65535
  pub opening : IsOpening entry.opening

-- each entry may be written, and its bytes are not too many
pub record IsCertificate (entries : List Entry) : Type 0 where
  pub may : AllByRecursion IsEntry entries
  pub few_bytes : length (certificate_text entries) ≤ most_object
