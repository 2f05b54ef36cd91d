-- The first of the refusals, as an error tells it.
use Rattle.std.specs.Prelude.{◌≡◌, Some, List, slice_get}
use Rattle.pc_inline.specs.declared.error.InlineError.{InlineError}
use Rattle.pc_inline.specs.Inlined.{inline_cause}
use Rattle.pc_calls.specs.Refusals.{Refusal}

-- an error tells the first of these refusals
pub record IsFirst (e : InlineError) (found : List Refusal) : Type 0 where
  pub refusal : Refusal
  pub told : inline_cause e ≡ Some refusal
  pub first : slice_get found 0 ≡ Some refusal
