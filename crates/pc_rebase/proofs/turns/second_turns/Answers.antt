use Rattle.std.proofs.Common.{rules, ◌≡◌, ◌<◌, ℕ, List, length}
use Rattle.std.specs.Prelude.{slice_index_or}
use Rattle.pc_window.specs.Rebasing.{second_turns}
use Rattle.pc_rebase.specs.models.Turning.{turned, second_turned}
use Rattle.pc_rebase.proofs.ParameterTurns.{second_keeps, second_turns-more}
use Rattle.pc_rebase.proofs.turns.second_turns.Goals as goal

pub loop-at-preserved : goal.loop-at-preserved
loop-at-preserved c =
    let all = c.args.all.now in
    let parameters = c.args.parameters.now in
    let at = c.loop-at.at in
    let there : at < length parameters = search rules in
    let made : (left : List ℕ) → turned c.second_turn.new.turning left ≡ second_turned all (slice_index_or parameters at 0) (turned c.loop-at.turning left) = search rules in
    record {
      keeps = second_keeps (length c.args.turning.now.names.forms) all (slice_index_or parameters at 0) c.loop-at.turning c.second_turn.new.turning c.loop-at.invariant.keeps made;
      same = λ left. second_turns-more all parameters at there (second_turns all parameters (turned c.args.turning.now left)) (turned c.loop-at.turning left)
          (turned c.second_turn.new.turning left) (c.loop-at.invariant.same left) (made left);
    }
