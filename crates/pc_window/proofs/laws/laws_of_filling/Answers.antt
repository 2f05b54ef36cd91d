use Rattle.pc_window.proofs.Filling.{fills_keep, fills_keep_walk}
use Rattle.pc_window.proofs.Proper.{fills_proper}
use Rattle.pc_window.proofs.FirstJumps.{filled_one}
use Rattle.pc_window.proofs.Settling.{fills_front}
use Rattle.pc_window.proofs.Sizes.{jumps_count, filling_bounded}
use Rattle.pc_window.proofs.laws.laws_of_filling.Goals as goal

pub returns-clause-keeps : goal.returns-clause-keeps
returns-clause-keeps c = λ table w v h p. (fills_proper w v h p, fills_keep table w v h p)

pub returns-clause-walk : goal.returns-clause-walk
returns-clause-walk c = fills_keep_walk

pub returns-clause-one_end : goal.returns-clause-one_end
returns-clause-one_end c = λ w a b p q. filled_one _ w a b p q

pub returns-clause-front : goal.returns-clause-front
returns-clause-front c = fills_front

pub returns-clause-jumps : goal.returns-clause-jumps
returns-clause-jumps c = jumps_count

pub returns-clause-bounded : goal.returns-clause-bounded
returns-clause-bounded c = filling_bounded
