use Rattle.pc_word.proofs.Runs.{run_from-grows}
use Rattle.pc_flow.specs.FlowRun.{flow_step, flow_start}
use Rattle.pc_flow.proofs.Steps.{step_leads}
use Rattle.pc_flow.proofs.laws.laws_of_flows.Goals as goal

pub returns-clause-grow : goal.returns-clause-grow
returns-clause-grow c flow input = run_from-grows (flow_step flow) (flow_start flow.entry flow.initial input)

pub returns-clause-fall : goal.returns-clause-fall
returns-clause-fall c = step_leads
