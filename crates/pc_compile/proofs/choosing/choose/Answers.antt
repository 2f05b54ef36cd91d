use Rattle.std.proofs.Common.{◌≡◌, ℕ, Option, Some, None, sym, subst, arith}
use Rattle.std.specs.Prelude.{slice_get}
use Rattle.pc_table.specs.StoredTable.{table_of}
use Rattle.pc_compile.proofs.Progress.{next_there, taken_fewer, all_chosen}
use Rattle.pc_compile.proofs.choosing.choose.Goals as goal

pub take-requires-clause-choosing : goal.take-requires-clause-choosing
take-requires-clause-choosing c = record { initial = c.args.initial.now; choosing = c.loop-region.invariant }

pub loop-region-preserved : goal.loop-region-preserved
loop-region-preserved c = c.in_ok-take.ensures.choosing c.args.initial.now c.loop-region.invariant

pub take-requires-clause-there : goal.take-requires-clause-there
take-requires-clause-there c =
    next_there c.args.table.now c.args.initial.now c.args.limits c.args.extent c.loop-region.progress c.loop-region.invariant c.in-Some.ensures.kept c.len.result c.in-Some.region
    (sym c.in-Some.ensures.region)

pub take-requires-clause-next : goal.take-requires-clause-next
take-requires-clause-next c =
    subst (λ (n : ℕ). slice_get c.loop-region.progress.found.order n ≡ Some c.in-Some.region) c.len.ensures (sym c.in-Some.ensures.region)

pub loop-region-smaller : goal.loop-region-smaller
loop-region-smaller c =
    let next = subst (λ (n : ℕ). slice_get c.loop-region.progress.found.order n ≡ Some c.in-Some.region) c.len.ensures (sym c.in-Some.ensures.region) in
    let fewer = taken_fewer c.args.table.now c.args.initial.now c.args.limits c.args.extent c.loop-region.progress c.loop-region.invariant c.in-Some.ensures.kept c.in-Some.region next in
    let taken = c.in_ok-take.ensures.taken in
    omega (arith, fewer, taken)

pub returns-clause-chosen : goal.returns-clause-chosen
returns-clause-chosen c =
    let nothing : Option ℕ = None in
    all_chosen (table_of c.args.table.now) c.args.initial.now c.args.limits c.args.extent c.loop-region.progress c.loop-region.invariant
    (subst (λ (n : ℕ). slice_get c.loop-region.progress.found.order n ≡ nothing) c.len.ensures (sym c.in_default.ensures.region))
