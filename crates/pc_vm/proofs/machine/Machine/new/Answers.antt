use Rattle.pc_vm.proofs.Starts.{start-state, start-sound}
use Rattle.pc_vm.proofs.machine.Machine.new.Goals as goal

pub invariant_of-result : goal.invariant_of-result
invariant_of-result c = start-sound c.args.code c.as_slice.result.now c.as_slice-2.result.now c.args.inputs c.in_ok-values.values c.in_ok-pending.pending c.requires
    c.as_slice.ensures c.as_slice-2.ensures c.in_ok-values.ensures c.in_ok-pending.ensures

pub returns-clause-start : goal.returns-clause-start
returns-clause-start c = start-state c.args.code c.as_slice.result.now c.as_slice-2.result.now c.args.inputs c.in_ok-values.values c.requires
    c.as_slice.ensures c.as_slice-2.ensures c.in_ok-values.ensures
