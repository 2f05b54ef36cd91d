-- The status by which something that was due is reported.
use Rattle.std.proofs.Common.{◌≡◌, ℕ, ◌⊎◌, inl, inr, Option, Some, None}
use Rattle.pc_word.specs.Count.{Rose}
use Rattle.pc_report.specs.declared.fault.ToolFault.{ToolFault}
use Rattle.pc_driver.specs.Due.{Told, fault_status}
use Rattle.pc_driver.specs.Streams.{Streamed}

-- the status of what is due: 0 where nothing is
abbrev pub due_status : Option ToolFault → ℕ
due_status None = 0
due_status (Some fault) = fault_status fault

-- the status is that of what is due, or 5 where the error output failed
pub status_of : (due : Option ToolFault) (old new : Streamed) (code : ℕ) → Told due old new code
    → (code ≡ due_status due) ⊎ ((code ≡ 5) × Rose old.faults new.faults)
status_of None old new code told = inl told.0
status_of (Some fault) old new code (inl whole) = inl whole.ended
status_of (Some fault) old new code (inr part) = inr (part.ended, part.failed)
