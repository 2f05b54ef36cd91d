-- Entries of a certificate that may be written.
use Rattle.std.specs.Prelude.{◌+◌, ◌≤◌, length}
use Rattle.std.specs.List.{flat_map, AllByRecursion}
use Rattle.pc_word.specs.MachineLimits.{most_object}
use Rattle.pc_cert.specs.CertificateText.{entry_text, IsEntry}
use Rattle.pc_proposing.specs.declared.drafts.Draft.{Draft}

-- each entry may be written, and the certificate has at most so many bytes, which are not too many
pub record IsDraft (draft : Draft) : Type 0 where
  pub may : AllByRecursion IsEntry draft.entries
  pub bytes : 8 + length (flat_map entry_text draft.entries) ≤ draft.bytes
  pub few : draft.bytes ≤ most_object
