-- A shared node that was copied for one of the nodes that name it.
use Rattle.std.specs.Prelude.{◌≡◌, ◌≢◌, ℕ, Bool, Some, None}
use Rattle.pc_arena.specs.Held.{value_at}
use Rattle.pc_shared.specs.declared.store.Store.{Store}
use Rattle.pc_shared.specs.Links.{link_of, relinked}

-- the node that a node names on a side was copied to a number that had none, the node names the copy now, and all else is as before
pub record Owns (old new : Store) (parent : ℕ) (side : Bool) (child copy : ℕ) : Type 0 where
  pub was : link_of (value_at old.nodes parent) side ≡ Some child
  pub vacant : value_at old.nodes copy ≡ None
  pub copied : value_at new.nodes copy ≡ value_at old.nodes child
  pub linked : value_at new.nodes parent ≡ relinked (value_at old.nodes parent) side copy
  pub others : (id : ℕ) → id ≢ copy → id ≢ parent → value_at new.nodes id ≡ value_at old.nodes id
  pub same_homes : new.homes ≡ old.homes
