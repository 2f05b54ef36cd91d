use Rattle.std.proofs.Common.{◌≡◌, ◌∙◌, ◌++◌, [], ◌∷◌, ℕ, List, ap, sym, subst}
use Rattle.std.specs.List.{AllByRecursion}
use Rattle.pc_vm.specs.declared.pending.PendingStore.{PendingStore}
use Rattle.pc_vm.specs.Contents.{Contents}
use Rattle.pc_vm.specs.models.Made.{lengths_of}
use Rattle.pc_vm.specs.models.Planned.{stored, IsInside}
use Rattle.pc_vm.proofs.Plans.{stored-last, lengths-with_element}
use Rattle.pc_vm.proofs.pending.store_all.Goals as goal
use Rattle.pc_word.proofs.Lists.{all_front}

pub loop-store-preserved : goal.loop-store-preserved
loop-store-preserved c =
    let store = c.in-Some.store in
    let left = c.pop.new.self.items in
    let popped : c.loop-store.stores.items ≡ left ++ store ∷ [] = c.in-Some.ensures.items in
    let same : lengths_of c.store.new.self.cells ≡ lengths_of c.loop-store.values.cells =
    ap (λ (held : Contents). lengths_of held.cells) c.store.ensures ∙ lengths-with_element store.array store.place store.word c.loop-store.values.cells in
    record {
      inside = subst (λ (lengths : List ℕ). AllByRecursion (IsInside lengths) left) (sym same)
          (all_front (IsInside (lengths_of c.loop-store.values.cells)) left (store ∷ [])
          (subst (AllByRecursion (IsInside (lengths_of c.loop-store.values.cells))) popped c.loop-store.invariant.inside));
      cells = ap (λ (held : Contents). stored left held.cells) c.store.ensures
          ∙ sym (stored-last left store c.loop-store.values.cells)
          ∙ ap (λ (stores : List PendingStore). stored stores c.loop-store.values.cells) (sym popped)
          ∙ c.loop-store.invariant.cells;
      registers = ap (λ (held : Contents). held.registers) c.store.ensures ∙ c.loop-store.invariant.registers;
      input = ap (λ (held : Contents). held.input) c.store.ensures ∙ c.loop-store.invariant.input;
      capacity = c.pop.ensures.capacity ∙ c.loop-store.invariant.capacity;
    }
