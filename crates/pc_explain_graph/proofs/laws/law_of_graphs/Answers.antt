use Rattle.pc_explain_graph.proofs.GraphNodes.{nodes_there}
use Rattle.pc_explain_graph.proofs.laws.law_of_graphs.Goals as goal

pub returns : goal.returns
returns c = nodes_there
