-- What a tree names is there where its tags, its arrays and its stubs are, and the other way round.
use Rattle.std.proofs.Common.{ℕ, ◌≤◌, arith}
use Rattle.pc_table.specs.Table.{Table}
use Rattle.pc_window.specs.Tree.{Tree, Pending, Undecided, Exit, Stop_exit, Trap_exit}
use Rattle.pc_window.specs.There.{PartsAreThere}
use Rattle.pc_unwind.specs.models.Named.{TagsAtMost, ArraysAreThere, StubsAreThere}

module _ (table : Table) (most : ℕ) where
  pub tags_of : (tree : Tree) → PartsAreThere table most tree → TagsAtMost most tree
  tags_of (Pending t o item rest) h = (h.0, tags_of rest h.2)
  tags_of (Undecided t o on one other) h = (h.0, tags_of one h.1, tags_of other h.2)
  tags_of (Exit region t homes) h = h.0
  tags_of Stop_exit h = tt
  tags_of (Trap_exit kind line) h = tt

  pub arrays_of : (tree : Tree) → PartsAreThere table most tree → ArraysAreThere table tree
  arrays_of (Pending t o item rest) h = (h.1, arrays_of rest h.2)
  arrays_of (Undecided t o on one other) h = (arrays_of one h.1, arrays_of other h.2)
  arrays_of (Exit region t homes) h = tt
  arrays_of Stop_exit h = tt
  arrays_of (Trap_exit kind line) h = tt

  pub stubs_of : (tree : Tree) → PartsAreThere table most tree → StubsAreThere table tree
  stubs_of (Pending t o item rest) h = stubs_of rest h.2
  stubs_of (Undecided t o on one other) h = (stubs_of one h.1, stubs_of other h.2)
  stubs_of (Exit region t homes) h = h.1
  stubs_of Stop_exit h = tt
  stubs_of (Trap_exit kind line) h = tt

  pub parts_there : (tree : Tree) → TagsAtMost most tree → ArraysAreThere table tree → StubsAreThere table tree → PartsAreThere table most tree
  parts_there (Pending t o item rest) tags arrays stubs = (tags.0, arrays.0, parts_there rest tags.1 arrays.1 stubs)
  parts_there (Undecided t o on one other) tags arrays stubs =
      (tags.0, parts_there one tags.1 arrays.0 stubs.0, parts_there other tags.2 arrays.1 stubs.1)
  parts_there (Exit region t homes) tags arrays stubs = (tags, stubs)
  parts_there Stop_exit tags arrays stubs = tt
  parts_there (Trap_exit kind line) tags arrays stubs = tt

-- tags that are at most a number are at most a greater one
pub higher : (most more : ℕ) (tree : Tree) → most ≤ more → TagsAtMost most tree → TagsAtMost more tree
higher most more (Pending t o item rest) le h = let first = h.0 in (omega arith, higher most more rest le h.1)
higher most more (Undecided t o on one other) le h = let first = h.0 in (omega arith, higher most more one le h.1, higher most more other le h.2)
higher most more (Exit region t homes) le h = omega arith
higher most more Stop_exit le h = tt
higher most more (Trap_exit kind line) le h = tt

pub parts_higher : (table : Table) (most more : ℕ) (tree : Tree) → most ≤ more → PartsAreThere table most tree → PartsAreThere table more tree
parts_higher table most more tree le h =
    parts_there table more tree (higher most more tree le (tags_of table most tree h)) (arrays_of table most tree h) (stubs_of table most tree h)
