use Rattle.std.proofs.Common.{rules, of_calls}
use Rattle.std.proofs.lemmas.Fn.{always_returns_same, filter_same}
use Rattle.pc_canon.specs.Canonical.{stands_before}
use Rattle.pc_canon.specs.models.Gathered.{occurs}
use Rattle.pc_canon.proofs.SortedColumns.{before_orders, sorted_below}
use Rattle.pc_canon.proofs.columns.in_order.Goals as goal

pub returns : goal.returns
returns c =
    let kept = filter_same _ occurs _ (λ x b f k. search (rules, of_calls)) _ _ c.retain.ensures.filtered in
    let compares = always_returns_same _ _ _ (λ a r f k. search (rules, of_calls)) in
    sorted_below c.args.columns.items c.retain.new.self.items c.sort_by.new.self.items kept c.sort_by.ensures.permutation
    (c.in_ok-sort_by.ensures.sorted stands_before before_orders compares)
