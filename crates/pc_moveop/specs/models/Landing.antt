-- What comes into a node, as it lies in memory.
use Rattle.std.specs.Prelude.{Bool, true, false}
use Rattle.pc_window.specs.declared.tree.WindowTree.{WindowTree}
use Rattle.pc_window.specs.declared.tree.WindowTree.TheVariants as stored
use Rattle.pc_moveop.specs.Taking.{Coming}
use Rattle.pc_moveop.specs.declared.landing.Coming.{Coming as StoredComing}

-- what it is
abbrev pub coming_in : StoredComing → Coming
coming_in it = record { tag = it.tag; origin = it.origin; item = it.item }

-- whether a tree in memory is a leaf that leads to a node
abbrev pub leads_on : WindowTree → Bool
leads_on (stored.Step' tag origin item p rest) = false
leads_on (stored.Test' tag origin on p on_yes q on_no) = false
leads_on (stored.Node' p below) = true
leads_on (stored.Exit region tag homes) = false
leads_on stored.Stop = false
leads_on (stored.Trap kind line) = false
