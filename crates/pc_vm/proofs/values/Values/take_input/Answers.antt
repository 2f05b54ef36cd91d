use Rattle.std.proofs.Common.{◌≡◌, ◌≤◌, ◌∙◌, List, length, drop, ap, subst}
use Rattle.std.specs.Prelude.{ℤ}
use Rattle.pc_vm.specs.Contents.{Contents}
use Rattle.pc_vm.proofs.Lists.{drop-one, drop-none, keeps_input}
use Rattle.pc_vm.proofs.values.Values.take_input.Goals as goal

pub returns-then-self-len : goal.returns-then-self-len
returns-then-self-len c =
    ap (λ (words : List ℤ). let it : Contents = record { registers = c.self.inside.registers; cells = c.self.inside.arrays.items; input = words } in it)
    (drop-one c.self.inside.taken c.self.inside.input)
    ∙ ap (λ (held : Contents). let it : Contents = record { registers = held.registers; cells = held.cells; input = drop 1 held.input } in it) c.self.view_is

pub returns-else-self-len : goal.returns-else-self-len
returns-else-self-len c =
    let past : length c.self.inside.input ≤ c.self.inside.taken = subst (λ n. n ≤ c.self.inside.taken) c.len.ensures c.if-self-len.false in
    keeps_input c.args.self.now (subst (λ (held : Contents). held.input ≡ drop 1 held.input) c.self.view_is (drop-none c.self.inside.taken c.self.inside.input past))
