use Rattle.std.proofs.Common.{rules, ◌≡◌, ◌<◌, ℕ, List, length, sym, subst}
use Rattle.std.specs.List.{AllByRecursion}
use Rattle.pc_window.specs.Rebasing.{first_turns}
use Rattle.pc_window.specs.StoredWindow.{supply_in}
use Rattle.pc_rebase.specs.models.Turning.{turned, unturned}
use Rattle.pc_rebase.proofs.ParameterTurns.{later_all, later_left, later_below}
use Rattle.pc_rebase.proofs.rebasing.turned.Goals as goal

pub second_turns-requires-clause-all : goal.second_turns-requires-clause-all
second_turns-requires-clause-all c =
    let all = c.args.all.now in
    let parameters = c.args.parameters.now in
    let turning = c.in_ok-turning.turning in
    let left = c.in_ok-turning.left in
    let is : turned turning left ≡ first_turns all parameters (unturned (supply_in c.args.names)) = search rules in
    later_all all parameters left c.args.names turning is c.requires.all

pub second_turns-requires-clause-parameters : goal.second_turns-requires-clause-parameters
second_turns-requires-clause-parameters c =
    let all = c.args.all.now in
    let parameters = c.args.parameters.now in
    let turning = c.in_ok-turning.turning in
    let left = c.in_ok-turning.left in
    let is : turned turning left ≡ first_turns all parameters (unturned (supply_in c.args.names)) = search rules in
    let same : c.as_slice.result.now ≡ left = search rules in
    subst (λ (list : List ℕ). AllByRecursion (λ (name : ℕ). name < length turning.names.forms) list) (sym same)
    (later_left all parameters left c.args.names turning is c.requires.parameters)

pub second_turns-requires-clause-below : goal.second_turns-requires-clause-below
second_turns-requires-clause-below c =
    let all = c.args.all.now in
    let parameters = c.args.parameters.now in
    let turning = c.in_ok-turning.turning in
    let left = c.in_ok-turning.left in
    let is : turned turning left ≡ first_turns all parameters (unturned (supply_in c.args.names)) = search rules in
    later_below all parameters left c.args.names turning is c.requires.below
