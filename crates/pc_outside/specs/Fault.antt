-- Counts of faults. A count is a u64 that never falls and stands still at its end.
use Rattle.std.specs.Prelude.{◌≡◌, ℕ, List}
use Rattle.pc_word.specs.Count.{Rose}
use Rattle.pc_outside.specs.declared.error.ShelfError.{ShelfError}
use Rattle.pc_outside.specs.declared.error.ShelfError.TheVariants as ShelfErrors
use Rattle.pc_outside.specs.declared.error.TakeError.{TakeError}
use Rattle.pc_outside.specs.declared.error.TakeError.TheVariants as TakeErrors

-- the count rose, and the name beside it is this one
pub record FaultOf (before now : ℕ) (beside name : List ℕ) : Type 0 where
  pub rose : Rose before now
  pub named : beside ≡ name

-- want of memory stays want of memory, and a failure a failure
abbrev pub shelf_error_of : TakeError → ShelfError
shelf_error_of TakeErrors.Failed = ShelfErrors.Failed
shelf_error_of TakeErrors.Memory = ShelfErrors.Memory
