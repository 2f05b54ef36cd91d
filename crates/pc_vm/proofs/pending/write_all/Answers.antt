use Rattle.std.proofs.Common.{◌≡◌, ◌∙◌, ◌++◌, [], ◌∷◌, List, ap, sym, subst}
use Rattle.std.specs.List.{AllByRecursion}
use Rattle.pc_vm.specs.declared.pending.PendingWrite.{PendingWrite}
use Rattle.pc_vm.specs.Contents.{Contents}
use Rattle.pc_vm.specs.models.Planned.{written, IsRegister}
use Rattle.pc_vm.proofs.Plans.{written-last}
use Rattle.pc_vm.proofs.pending.write_all.Goals as goal
use Rattle.pc_word.proofs.Lists.{all_front}

pub loop-write-preserved : goal.loop-write-preserved
loop-write-preserved c =
    let write = c.in-Some.write in
    let left = c.pop.new.self.items in
    let popped : c.loop-write.writes.items ≡ left ++ write ∷ [] = c.in-Some.ensures.items in
    record {
      registers_there = all_front IsRegister left (write ∷ []) (subst (AllByRecursion IsRegister) popped c.loop-write.invariant.registers_there);
      registers = ap (λ (held : Contents). written left held.registers) c.write.ensures
          ∙ sym (written-last left write c.loop-write.values.registers)
          ∙ ap (λ (writes : List PendingWrite). written writes c.loop-write.values.registers) (sym popped)
          ∙ c.loop-write.invariant.registers;
      cells = ap (λ (held : Contents). held.cells) c.write.ensures ∙ c.loop-write.invariant.cells;
      input = ap (λ (held : Contents). held.input) c.write.ensures ∙ c.loop-write.invariant.input;
      capacity = c.pop.ensures.capacity ∙ c.loop-write.invariant.capacity;
    }
