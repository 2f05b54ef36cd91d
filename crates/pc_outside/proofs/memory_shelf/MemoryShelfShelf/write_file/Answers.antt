use Rattle.std.proofs.Common.{Some, refl, arith, ap, ◌∙◌}
use Rattle.std.specs.FinMap.{insert}
use Rattle.pc_outside.proofs.ShelfLemmas.{WriteKeeps-same, WriteKeeps-insert}
use Rattle.pc_outside.proofs.memory_shelf.MemoryShelfShelf.write_file.Goals as goal

pub returns-in_err-key-clause-keeps : goal.returns-in_err-key-clause-keeps
returns-in_err-key-clause-keeps c = WriteKeeps-same _ _ _ refl (omega arith) refl refl

pub returns-then-next_fails-clause-keeps : goal.returns-then-next_fails-clause-keeps
returns-then-next_fails-clause-keeps c = rw (← c.self.view_is) (WriteKeeps-same _ _ _ refl (omega (arith, c.add.ensures.counted)) refl refl)

pub returns-in_err-put-clause-keeps : goal.returns-in_err-put-clause-keeps
returns-in_err-put-clause-keeps c = rw (← c.self.view_is) (WriteKeeps-same _ _ _ (ap Some c.in_err-put.ensures.err) (omega arith) refl refl)

pub returns-clause-keeps : goal.returns-clause-keeps
returns-clause-keeps c =
    let made = c.in_ok-put.ensures.ok ∙ ap (λ name. insert c.self.inside.files name c.args.bytes.now) c.in_ok-key.ensures.ok in
    rw (← c.self.view_is) (WriteKeeps-insert _ _ _ c.args.bytes.now c.self.inside.files refl (ap Some made) (omega arith) refl refl)
