use Rattle.std.proofs.Common.{◌≡◌, refl, ◌∙◌, rules}
use Rattle.std.specs.Prelude.{None}
use Rattle.pc_window.specs.StoredWindow.{tree_in, window_in}
use Rattle.pc_pattern.specs.Searches.{bare_leaf}
use Rattle.pc_pattern.specs.models.Renaming.{pairs_in, renamed_bare}
use Rattle.pc_pattern.proofs.SeenWindows.{keeps_met}
use Rattle.pc_pattern.proofs.Steps.{left_to_do}
use Rattle.pc_pattern.proofs.leading.led_met.Goals as goal

pub returns-in_ok-leaf_to-in-None-clause-seen : goal.returns-in_ok-leaf_to-in-None-clause-seen
returns-in_ok-leaf_to-in-None-clause-seen c =
    let none : None ≡ renamed_bare (pairs_in c.args.names.now) (bare_leaf (tree_in c.args.window.tree)) = search rules in
    let member = c.in_ok-member-in-None.ensures in
    λ by was. keeps_met by c.args.pool.now c.member_of.new.pool (record { keys = c.member_of.new.pool.keys; waiting = c.member_of.new.pool.waiting; seen = c.keep.new.self }) c.args.met _ c.as_slice.result.now (window_in c.args.window) member.numbered member.seen
    refl c.in_ok-keep-in-None.ensures (c.as_slice.ensures ∙ member.parameters) (left_to_do (pairs_in c.args.names.now) c.args.window none) was
