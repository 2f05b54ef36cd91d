use Rattle.std.proofs.Common.{◌≡◌, ◌+◌, drop}
use Rattle.pc_table.specs.Table.{table_regions}
use Rattle.pc_compile.specs.models.Counting.{all_plain_bytes}
use Rattle.pc_compile.proofs.bytes.all_plain_bytes.Given as goal

abbrev pub invariant-loop-region : goal.invariant-loop-region
invariant-loop-region l = l.bytes + all_plain_bytes (table_regions (drop l.region-index l.regions)) ≡ all_plain_bytes (table_regions l.regions)
