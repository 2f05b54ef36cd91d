use Rattle.pc_window.specs.Names.{uses}
use Rattle.pc_window.specs.StoredWindow.{front_in, window_in}
use Rattle.pc_window.specs.Tree.{whole}
use Rattle.pc_fill.specs.models.Search.{BestBefore}
use Rattle.pc_fill.proofs.first.first_ready.Given as goal

abbrev pub invariant-loop-place : goal.invariant-loop-place
invariant-loop-place l = BestBefore (uses (whole (front_in l.window.tree))) (window_in l.window) l.place l.first
