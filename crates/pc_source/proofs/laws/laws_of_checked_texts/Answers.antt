use Rattle.pc_source.proofs.CheckedTexts.{agrees, is_source, is_too_large, runs_same}
use Rattle.pc_source.proofs.laws.laws_of_checked_texts.Goals as goal

pub returns-clause-runs : goal.returns-clause-runs
returns-clause-runs c = runs_same

pub returns-clause-enough : goal.returns-clause-enough
returns-clause-enough c = agrees

pub returns-clause-small : goal.returns-clause-small
returns-clause-small c = is_source

pub returns-clause-large : goal.returns-clause-large
returns-clause-large c = is_too_large
