use Rattle.pc_arranging.proofs.Homes.{value_set}
use Rattle.pc_arranging.proofs.naming.set_value.Goals as goal

pub returns-then-home-len : goal.returns-then-home-len
returns-then-home-len c =
    value_set c.args.value c.args.homes.now c.args.home c.home_in-variable.result c.set.new.self c.home_in-variable.ensures c.set.ensures
