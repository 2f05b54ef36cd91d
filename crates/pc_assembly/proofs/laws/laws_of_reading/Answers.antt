-- The laws are lemmas.
use Rattle.pc_assembly.proofs.ReadParts.{part_read}
use Rattle.pc_assembly.proofs.ReadRows.{row_read}
use Rattle.pc_assembly.proofs.ReadNames.{goto_read_by_name, row_read_by_name}
use Rattle.pc_assembly.proofs.NamedLines.{named_line_tells}
use Rattle.pc_assembly.proofs.ReadBack.{listing_read}
use Rattle.pc_assembly.proofs.laws.laws_of_reading.Goals as goal

pub returns-clause-parts : goal.returns-clause-parts
returns-clause-parts c = part_read

pub returns-clause-rows : goal.returns-clause-rows
returns-clause-rows c = row_read

pub returns-clause-gotos_by_name : goal.returns-clause-gotos_by_name
returns-clause-gotos_by_name c = goto_read_by_name

pub returns-clause-rows_by_name : goal.returns-clause-rows_by_name
returns-clause-rows_by_name c = row_read_by_name

pub returns-clause-names_of_rows : goal.returns-clause-names_of_rows
returns-clause-names_of_rows c = named_line_tells

pub returns-clause-listings : goal.returns-clause-listings
returns-clause-listings c = listing_read
