use Rattle.std.proofs.Common.{◌≡◌, ◌++◌, string_bytes}
use Rattle.pc_sample.specs.SampleText.{blocks_text}
use Rattle.pc_sample.proofs.generate.push_blocks.Given as goal

-- the blocks so far stand after the text
abbrev pub invariant-loop-block : goal.invariant-loop-block
invariant-loop-block l = string_bytes l.text ≡ string_bytes l.initial.text ++ blocks_text l.number l.block
