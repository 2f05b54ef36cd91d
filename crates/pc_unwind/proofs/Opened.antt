-- A window that was just opened may be unwound.
use Rattle.std.proofs.Common.{◌≡◌, ℕ, ◌+◌, ◌≤◌, ◌^◌, Option, Some, None, refl, sym, subst, arith}
use Rattle.std.specs.Prelude.{slice_get}
use Rattle.pc_table.specs.Table.{Table, TableRegion, tree_of, region_tree}
use Rattle.pc_table.specs.TableKeeps.{TableKeeps, units, most_region_nodes}
use Rattle.pc_window.specs.Tree.{Tree, whole, front_of, tree_size}
use Rattle.pc_window.specs.Opening.{Grafted, first_supply, first_home, opened}
use Rattle.pc_table.specs.Loops.{innermost_loop}
use Rattle.pc_unwind.specs.models.Walking.{brought_size}
use Rattle.pc_unwind.specs.Laws.{OpenedWindowsCanUnwind}
use Rattle.pc_unwind.proofs.Bringing.{graft_brings, brought_is, brought_few, brought_names}
use Rattle.pc_window.proofs.There.{opened_there}
use Rattle.pc_unwind.proofs.PartsThere.{parts_higher}
use Rattle.pc_window.proofs.CutRows.{whole_front_of}

few_units : (table : Table) → TableKeeps table → (region : ℕ) → units (region_tree table region) ≤ most_region_nodes
few_units table keeps region = by_region (slice_get table.regions region) refl
  where
    by_region : (r : Option TableRegion) → slice_get table.regions region ≡ r → units (tree_of r) ≤ most_region_nodes
    by_region None at = omega arith
    by_region (Some r) at = (keeps.each region r at).few

pub opened_unwinds : OpenedWindowsCanUnwind
opened_unwinds table keeps limits region there =
    let loop = innermost_loop table region in
    let g : Grafted = opened table loop region in
    let brings = graft_brings table loop 0 (region_tree table region) first_supply first_home in
    let same : whole (front_of g.tree) ≡ g.tree = whole_front_of g.tree in
    let size : tree_size g.tree ≡ brought_size (region_tree table region) = brought_is table loop 0 brings in
    let fewer = brought_few (region_tree table region) in
    let few = few_units table keeps region in
    let more = brought_names table loop 0 brings in
    let names : g.names.next ≤ 96 + tree_size g.tree = more.names in
    let variables : g.names.next_variable ≤ 96 + tree_size g.tree = more.variables in
    record {
      parts = parts_higher table 1 (2 ^ 30) (whole (front_of g.tree)) (omega arith) (opened_there table keeps limits region);
      size = let small : tree_size g.tree ≤ 2 ^ 20 = omega arith in subst (λ (t : Tree). tree_size t ≤ 2 ^ 20) (sym same) small;
      names = omega arith;
      variables = omega arith;
    }
