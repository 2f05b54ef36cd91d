-- The first item or test of a window that is ready and has room.
use Rattle.std.specs.Prelude.{ℕ, Bool}
use Rattle.pc_window.specs.WindowRun.{Window}
use Rattle.pc_window.specs.Filled.{HasSpace}
use Rattle.pc_window.specs.Ready.{IsReadyAt, ReadyPlace, NotBehind}
use Rattle.pc_fill.specs.declared.first.ReadyNode.{ReadyNode}

-- an item or test stands where it says, is ready there, and has room
pub record StandsReady (known : ℕ → Bool) (w : Window) (it : ReadyNode) : Type 0 where
  pub ready : IsReadyAt known w.forms it.tag it.origin it.place it.item w.front
  pub room : HasSpace w.limits it.item w.front

-- it is the first of all that are ready and have room, in the order of tag, origin and preorder place
pub record IsFirstReady (known : ℕ → Bool) (w : Window) (it : ReadyNode) : Type 0 where
  pub stands : StandsReady known w it
  pub first : (r : ReadyPlace known w) → NotBehind it.tag it.origin it.place r.tag r.origin r.place
