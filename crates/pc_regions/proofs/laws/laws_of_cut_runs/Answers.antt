use Rattle.pc_regions.proofs.CutRuns.{cut_shows, region_shows}
use Rattle.pc_regions.proofs.laws.laws_of_cut_runs.Goals as goal

pub returns-clause-whole : goal.returns-clause-whole
returns-clause-whole c = cut_shows

pub returns-clause-each : goal.returns-clause-each
returns-clause-each c = region_shows
