-- At how many places a node is seen.
use Rattle.std.specs.Prelude.{ℕ, zero, suc, ◌+◌, nat_eq, if◌then◌else◌, Option, Some, None}
use Rattle.pc_arena.specs.Held.{value_at}
use Rattle.pc_shared.specs.declared.node.SharedNode.{SharedNode}
use Rattle.pc_shared.specs.declared.node.SharedNode.TheVariants as shared
use Rattle.pc_shared.specs.declared.store.Store.{Store}

-- how often something is seen below a node, by how often it is in the trees of the numbers that the node names
abbrev pub seen_below : Option SharedNode → (ℕ → ℕ) → ℕ
seen_below None seen = 0
seen_below (Some (shared.Step tag origin item rest)) seen = seen rest
seen_below (Some (shared.Test tag origin on on_yes on_no)) seen = seen on_yes + seen on_no
seen_below (Some (shared.Node below)) seen = seen below
seen_below (Some (shared.Exit region tag listed)) seen = 0
seen_below (Some shared.Stop) seen = 0
seen_below (Some (shared.Trap kind line)) seen = 0

-- at how many places a node is seen in the tree of a number, no deeper than so many nodes
abbrev pub places_of : ℕ → Store → ℕ → ℕ → ℕ
places_of zero store target id = 0
places_of (suc most) store target id =
    (if nat_eq id target then 1 else 0) + seen_below (value_at store.nodes id) (places_of most store target)
