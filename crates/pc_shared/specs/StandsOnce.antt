-- That a number stands has one proof at most, so a window can keep it as a ghost field.
use Rattle.std.specs.Prelude.{ℕ, zero, suc, is_some, true, Option, Some, None}
use Rattle.std.specs.Coded.{Coded-set, coded_bool, ×_prop, Unit-prop}
use Rattle.pc_arena.specs.Held.{value_at}
use Rattle.pc_shared.specs.declared.node.SharedNode.{SharedNode}
use Rattle.pc_shared.specs.declared.node.SharedNode.TheVariants as shared
use Rattle.pc_shared.specs.declared.store.Store.{Store}
use Rattle.pc_shared.specs.Unfolding.{NodeStands, Stands}

-- a node of which this holds of what it names
node_once : (store : Store) (node : Option SharedNode) (Below : ℕ → Type 0) → ((id : ℕ) → IsProp (Below id))
    → IsProp (NodeStands store node Below)
node_once store None Below all = λ x y. absurd x
node_once store (Some (shared.Step tag origin item rest)) Below all = all rest
node_once store (Some (shared.Test tag origin on on_yes on_no)) Below all = ×_prop (all on_yes) (all on_no)
node_once store (Some (shared.Node below)) Below all = all below
node_once store (Some (shared.Exit region tag listed)) Below all = Coded-set coded_bool (is_some (value_at store.homes listed)) true
node_once store (Some shared.Stop) Below all = Unit-prop
node_once store (Some (shared.Trap kind line)) Below all = Unit-prop

-- a number
pub stands_once : (most : ℕ) (store : Store) (id : ℕ) → IsProp (Stands most store id)
stands_once zero store id = λ x y. absurd x
stands_once (suc most) store id = node_once store (value_at store.nodes id) (Stands most store) (stands_once most store)
