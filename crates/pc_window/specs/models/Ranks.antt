-- How many regions follow one another without an item or test.
use Rattle.std.specs.Prelude.{ℕ, zero, suc, Option, Some, None, length}
use Rattle.pc_table.specs.Table.{Table, region_tree}
use Rattle.pc_table.specs.TableKeeps.{untested}

-- one more than from a region that follows
abbrev pub rank_above : Option ℕ → (ℕ → ℕ) → ℕ
rank_above None from = zero
rank_above (Some region) from = suc (from region)

-- how many regions follow a region without a test, counted up to a number
abbrev pub untested_run : Table → ℕ → ℕ → ℕ
untested_run table zero region = zero
untested_run table (suc most) region = rank_above (untested (region_tree table region)) (untested_run table most)

-- how many regions follow a region without a test
unfoldable pub rank : Table → ℕ → ℕ
rank table region = untested_run table (length table.regions) region
