-- A law of the definitions. It is the contract of a function of laws.rt, which does nothing.
use Rattle.std.specs.Prelude.{ℕ, ◌≤◌, length}
use Rattle.pc_sample.specs.SampleText.{sample_text}

-- a sample has at most 2,500 bytes, whatever its number
abbrev pub SamplesAreShort : Type 0
SamplesAreShort = (number : ℕ) → length (sample_text number) ≤ 2500
