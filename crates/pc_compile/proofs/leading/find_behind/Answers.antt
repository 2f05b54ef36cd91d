use Rattle.pc_compile.proofs.leading.find_behind.Goals as goal

pub find_led_out-requires-clause-count : goal.find_led_out-requires-clause-count
find_led_out-requires-clause-count c = rw c.in-ByAutomaton.is at c.requires.numbers

pub find_led_out-requires-clause-there : goal.find_led_out-requires-clause-there
find_led_out-requires-clause-there c = rw c.in-ByAutomaton.is at c.requires.there
