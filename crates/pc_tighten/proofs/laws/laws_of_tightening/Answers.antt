use Rattle.pc_tighten.proofs.Tightened.{tightening_keeps_form, tightening_is_no_slower, tightening_keeps_reachable}
use Rattle.pc_tighten.proofs.Sizes.{tightening_takes_no_more_room}
use Rattle.pc_tighten.proofs.laws.laws_of_tightening.Goals as goal

pub returns : goal.returns
returns c = record {
  form = λ code after steps well. tightening_keeps_form steps well;
  no_slower = λ code after steps well input never. tightening_is_no_slower steps well input never;
  room = λ room code after steps. tightening_takes_no_more_room room steps;
  reachable = λ code after steps all. tightening_keeps_reachable steps all;
}
