-- The header that the reader keeps, as plain data.
use Rattle.pc_object.specs.declared.storage.Storage.{Storage as KeptStorage}
use Rattle.pc_object.specs.declared.decoding.Header.{Header as Kept}
use Rattle.pc_object.specs.Reading.{Storage, Header}

-- registers and arrays in memory, as plain data
abbrev pub shown_storage : KeptStorage → Storage
shown_storage storage = record { registers = storage.registers; arrays = storage.arrays.items; initial = storage.initial.items }

-- a header in memory, as plain data
abbrev pub shown : Kept → Header
shown header = record { limits = header.limits; storage = shown_storage header.storage; rows = header.rows }
