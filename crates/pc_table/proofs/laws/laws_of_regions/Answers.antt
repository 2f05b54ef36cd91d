use Rattle.pc_word.proofs.Runs.{run_from-grows}
use Rattle.pc_table.specs.RegionRun.{region_step, place_at}
use Rattle.pc_table.proofs.Live.{region_same}
use Rattle.pc_table.proofs.laws.laws_of_regions.Goals as goal

pub returns-clause-grow : goal.returns-clause-grow
returns-clause-grow c table tree s = run_from-grows (region_step table) (place_at table tree s)

pub returns-clause-dead : goal.returns-clause-dead
returns-clause-dead c = region_same
