-- What waits, and why, in words.
use Rattle.std.specs.Prelude.{List, ℕ, ◌++◌, codes, Option, Some, None, slice_get}
use Rattle.pc_word.specs.declared.item.Item.{Item}
use Rattle.pc_word.specs.declared.item.Item.TheVariants.{Bin, Copy, Load, Store, Print, Read, More}
use Rattle.pc_view.specs.Words.{operator_words}
use Rattle.pc_waiting.specs.declared.obstacle.Obstacle.{Obstacle}
use Rattle.pc_waiting.specs.declared.obstacle.Obstacle.TheVariants as obstacle
use Rattle.pc_waiting.specs.declared.obstacle.Resource.{Resource}
use Rattle.pc_waiting.specs.declared.obstacle.Resource.TheVariants.{Items, Tests, Memory}
use Rattle.pc_explain.specs.Legends.{SourceLegend, array_words}
use Rattle.pc_explain.specs.Words.{place_words}

-- what waits, without its names, which are not those of the state: an item by what it does, or a test
abbrev pub kind_words : SourceLegend → Option Item → List ℕ
kind_words legend None = codes "test"
kind_words legend (Some (Bin op dest left right)) = codes "operator " ++ operator_words op
kind_words legend (Some (Copy dest from)) = codes "copy"
kind_words legend (Some (Load dest array index)) = codes "load of " ++ array_words legend array
kind_words legend (Some (Store array index value)) = codes "store to " ++ array_words legend array
kind_words legend (Some (Print value)) = codes "print"
kind_words legend (Some (Read dest)) = codes "read"
kind_words legend (Some (More dest)) = codes "more"

-- what a row has only so many of
abbrev pub resource_words : Resource → List ℕ
resource_words Items = codes "items"
resource_words Tests = codes "tests"
resource_words Memory = codes "loads and stores"

-- why it waits: for what it reads, for what it may not pass, for a test above it, or for room; by the line of each node
abbrev pub obstacle_words : (lines : List ℕ) → Obstacle → List ℕ
obstacle_words lines (obstacle.Needs iteration origin) = codes "needs " ++ place_words iteration (slice_get lines origin)
obstacle_words lines (obstacle.Meets iteration origin) = codes "may not pass " ++ place_words iteration (slice_get lines origin)
obstacle_words lines (obstacle.Undecided iteration origin) = codes "stands below the test " ++ place_words iteration (slice_get lines origin)
obstacle_words lines (obstacle.NoRoom resource) = codes "no room for " ++ resource_words resource
