-- The law is a lemma.
use Rattle.pc_view.proofs.GraphLines.{length-graph_lines}
use Rattle.pc_view.proofs.laws.laws_of_graphs.Goals as goal

pub returns : goal.returns
returns c = length-graph_lines
