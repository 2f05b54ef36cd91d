-- The lines that were read, as plain data.
use Rattle.pc_assembly.specs.declared.draft.Draft.{Draft as Kept}
use Rattle.pc_assembly.specs.Listing.{Draft}

-- a draft in memory, as plain data
abbrev pub draft_of : Kept → Draft
draft_of draft = record { lines = draft.lines.items; stage = draft.stage }
