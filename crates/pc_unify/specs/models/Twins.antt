-- Items as they are found in memory, and the two that are to become one.
use Rattle.std.specs.Prelude.{ℕ, ◌≡◌, Option, Some, None}
use Rattle.pc_moveop.specs.NodeTree.{NodeTree}
use Rattle.pc_moveop.specs.Climbing.{Mover}
use Rattle.pc_moveop.specs.Taking.{Coming}
use Rattle.pc_moveop.specs.Refusing.{mover_behind}
use Rattle.pc_unify.specs.Unifying.{TwinsBehind}
use Rattle.pc_unify.specs.declared.twins.Standing.{Standing}

-- what is told of an item is so
pub record IsStanding (m : Mover) (s : Standing) : Type 0 where
  pub tag : s.tag ≡ m.tag
  pub origin : s.origin ≡ m.origin
  pub item : s.item ≡ m.item

-- the same where there may be no item
abbrev pub AreFound : Option Mover → Option Standing → Type 0
AreFound (Some m) (Some s) = IsStanding m s
AreFound None None = Unit {0}
AreFound (Some m) None = ⊥
AreFound None (Some s) = ⊥

pub record FindsItem (m : Option Mover) (s : Option Standing) : Type 0 where
  pub is : AreFound m s

-- the two items are there, and this is the yes item; or they are not there
abbrev pub AreTold : (leaf yes_place no_place : ℕ) → Option NodeTree → Option Standing → Type 0
AreTold leaf yes_place no_place node (Some s) = TwinsBehind leaf yes_place no_place node × FindsItem (mover_behind leaf yes_place node) (Some s)
AreTold leaf yes_place no_place node None = TwinsBehind leaf yes_place no_place node → ⊥

pub record FindsTwins (leaf yes_place no_place : ℕ) (node : Option NodeTree) (s : Option Standing) : Type 0 where
  pub is : AreTold leaf yes_place no_place node s

-- an item as it comes into a node
abbrev pub coming_in : Standing → Coming
coming_in s = record { tag = s.tag; origin = s.origin; item = s.item }
