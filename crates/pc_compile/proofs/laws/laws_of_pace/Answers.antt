use Rattle.pc_compile.proofs.CostBounds.{steps_cost_few, most_are_enough}
use Rattle.pc_compile.proofs.Paces.{emitted_rows_keep_pace, recolored_codes_keep_pace, tightened_codes_keep_pace}
use Rattle.pc_compile.proofs.RegionPaces.{schedules_keep_pace}
use Rattle.pc_compile.proofs.SourcePace.{regions_keep_pace}
use Rattle.pc_compile.proofs.laws.laws_of_pace.Goals as goal

pub returns-clause-regions : goal.returns-clause-regions
returns-clause-regions c = regions_keep_pace

pub returns-clause-schedules : goal.returns-clause-schedules
returns-clause-schedules c = schedules_keep_pace

pub returns-clause-costs : goal.returns-clause-costs
returns-clause-costs c = steps_cost_few

pub returns-clause-emitted : goal.returns-clause-emitted
returns-clause-emitted c = emitted_rows_keep_pace

pub returns-clause-recolored : goal.returns-clause-recolored
returns-clause-recolored c = recolored_codes_keep_pace

pub returns-clause-tightened : goal.returns-clause-tightened
returns-clause-tightened c = tightened_codes_keep_pace

pub returns-clause-enough : goal.returns-clause-enough
returns-clause-enough c = most_are_enough
