use Rattle.pc_canon.proofs.Keys.{keys_tell, keys_pair}
use Rattle.pc_canon.proofs.laws.laws_of_keys.Goals as goal

pub returns-clause-told : goal.returns-clause-told
returns-clause-told c = keys_tell

pub returns-clause-paired : goal.returns-clause-paired
returns-clause-paired c = keys_pair
