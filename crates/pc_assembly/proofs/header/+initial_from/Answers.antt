use Rattle.std.proofs.Common.{◌≡◌, ◌-◌, ℤ, List, length, IfOk, rules, subst, arith}
use Rattle.std.specs.Vec.{vec_len}
use Rattle.pc_assembly.specs.Assembled.{initial_from}
use Rattle.pc_assembly.proofs.Initial.{initial_step}
use Rattle.pc_assembly.proofs.header.+initial_from.Goals as goal

pub returns : goal.returns
returns t c =
    let before = c.args.before.items in
    let lines = c.args.lines.now in
    let counted : vec_len c.args.before ≡ length c.args.before.items = search rules in
    let step : initial_from (c.args.count - 1) c.push.new.self.items lines ≡ initial_from c.args.count before lines =
    rw (c.in_ok-push.ensures.items, c.in_ok-words.ensures, c.len.ensures, counted)
    (initial_step c.args.count before lines (omega (arith, c.if-count-eq0.false))) in
    subst (λ (expected : List (List ℤ)). IfOk c.initial_from.result (λ initial. initial.items ≡ expected)) step c.initial_from.ensures
