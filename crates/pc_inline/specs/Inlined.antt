-- What the answer of `inline` says.
use Rattle.std.specs.Prelude.{Option, Some, None}
use Rattle.pc_inline.specs.declared.error.InlineError.{InlineError}
use Rattle.pc_inline.specs.declared.error.InlineError.TheVariants as told
use Rattle.pc_calls.specs.Refusals.{Refusal}
use Rattle.pc_calls.specs.Refusals as refusal

-- the refusal that an error tells of; want of memory is none
abbrev pub inline_cause : InlineError → Option Refusal
inline_cause (told.FunctionTwice line) = Some (refusal.FunctionTwice line)
inline_cause (told.EarlyReturn line) = Some (refusal.EarlyReturn line)
inline_cause (told.ArrayInFunction line) = Some (refusal.ArrayInFunction line)
inline_cause (told.LooseJump line) = Some (refusal.LooseJump line)
inline_cause (told.NoFunction line) = Some (refusal.NoFunction line)
inline_cause (told.Arguments line) = Some (refusal.Arguments line)
inline_cause told.TooBig = Some refusal.TooBig
inline_cause told.TooHigh = Some refusal.TooHigh
inline_cause told.Memory = None
