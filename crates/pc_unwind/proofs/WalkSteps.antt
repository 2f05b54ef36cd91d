-- A walk comes to an end: each part has fewer steps to go, and so has what comes in place of a stub.
use Rattle.std.proofs.Common.{◌≡◌, ℕ, zero, suc, ◌+◌, ◌-◌, ◌*◌, ◌^◌, ◌<◌, ◌≤◌, Option, Some, List, refl, sym, ap, subst, arith}
use Rattle.std.specs.Prelude.{Bool, true}
use Rattle.pc_table.specs.declared.table.RegionTable.{RegionTable}
use Rattle.pc_table.specs.Table.{region_tree}
use Rattle.pc_table.specs.StoredTable.{table_of}
use Rattle.pc_table.specs.TableKeeps.{untested}
use Rattle.pc_window.specs.declared.home.Home.{Home}
use Rattle.pc_window.specs.declared.tree.WindowTree.{WindowTree}
use Rattle.pc_window.specs.declared.tree.WindowTree.TheVariants as stored
use Rattle.pc_window.specs.Tree.{Tree, Pending, Undecided, Exit, Stop_exit, Trap_exit, tree_size, home_of}
use Rattle.pc_window.specs.Opening.{Grafted}
use Rattle.pc_window.specs.StoredWindow.{tree_in, supply_in, InNodes}
use Rattle.pc_unwind.specs.declared.growth.Growth.{Growth}
use Rattle.pc_unwind.specs.models.Named.{StubsAreThere}
use Rattle.pc_window.specs.There.{StubIsThere}
use Rattle.pc_window.specs.models.Ranks.{rank}
use Rattle.pc_unwind.specs.models.Remaining.{stub_steps, tree_steps, node_steps, walk_steps}
use Rattle.pc_unwind.specs.models.Walking.{HasRoom, Replaces, RootStaysAtMost, Walks}
use Rattle.pc_table.proofs.StoredRegions.{as_many}
use Rattle.pc_unwind.proofs.Bringing.{Brings, graft_brings, brought_names, brought_there, brought_root, brought_steps, brought_stub_steps}
use Rattle.pc_window.proofs.There.{tree_there}
use Rattle.pc_window.proofs.Ranking.{rank_falls, rank_most}

one_node : (tree : WindowTree) → node_steps tree ≤ 1
one_node (stored.Step' tag origin item p rest) = omega arith
one_node (stored.Test' tag origin on p on_yes q on_no) = omega arith
one_node (stored.Node' p below) = omega arith
one_node (stored.Exit region tag homes) = omega arith
one_node stored.Stop = omega arith
one_node (stored.Trap kind line) = omega arith

-- a tree in nodes is none itself
no_node : (tree : WindowTree) → InNodes true tree → node_steps tree ≡ 0
no_node (stored.Step' tag origin item p rest) nodes = refl
no_node (stored.Test' tag origin on p on_yes q on_no) nodes = refl
no_node (stored.Node' p below) nodes = absurd nodes
no_node (stored.Exit region tag homes) nodes = refl
no_node stored.Stop nodes = refl
no_node (stored.Trap kind line) nodes = refl

module _ (table : RegionTable) where
  few_steps : (tree : Tree) → tree_steps (table_of table) tree ≤ 2 ^ 30 + 2 * tree_size tree
  few_steps (Pending tag origin item rest) = omega arith
  few_steps (Undecided tag origin on on_yes on_no) = omega arith
  few_steps (Exit region tag homes) = let few = table.few in let le = rank_most (table_of table) table.kept region in let e = as_many table.regions in omega arith
  few_steps Stop_exit = omega arith
  few_steps (Trap_exit kind line) = omega arith

  -- a part of a tree
  pub part_falls : (size later t : ℕ) (whole part inner : WindowTree) → (2049 - size) * 2 ^ 32 + walk_steps (table_of table) whole ≡ t → size ≤ later → part ≡ inner
      → 2 ^ 30 + 2 * suc (tree_size (tree_in inner)) ≤ walk_steps (table_of table) whole → (2049 - later) * 2 ^ 32 + walk_steps (table_of table) part < t
  part_falls size later t whole part inner is le same less =
      let e : walk_steps (table_of table) part ≡ walk_steps (table_of table) inner = ap (walk_steps (table_of table)) same in
      let f = few_steps (tree_in inner) in
      let g = one_node inner in
      omega arith

  -- what stands below a node
  pub node_falls : (size t : ℕ) (whole part inner : WindowTree) → (2049 - size) * 2 ^ 32 + walk_steps (table_of table) whole ≡ t → part ≡ inner → InNodes true inner
      → walk_steps (table_of table) whole ≡ suc (tree_steps (table_of table) (tree_in inner)) → (2049 - size) * 2 ^ 32 + walk_steps (table_of table) part < t
  node_falls size t whole part inner is same nodes node =
      let e : walk_steps (table_of table) part ≡ walk_steps (table_of table) inner = ap (walk_steps (table_of table)) same in
      let g = no_node inner nodes in
      omega arith

  -- the other side of a test
  pub other_fits : (loop : Option ℕ) (tag : ℕ) (one one' two : Tree) (old mid : Growth) (full : Bool) → Walks (table_of table) loop tag one old one' mid full
      → suc (tree_size one + tree_size two) ≤ old.size → tree_size two ≤ mid.size
  other_fits loop tag one one' two old mid full walks le =
      let w = walks (old.size - tree_size one) (omega arith) in
      let e = w.size in
      omega arith

  -- ---- what comes in place of a stub

  module _ (loop : Option ℕ) (tag region : ℕ) (homes : List Home) (stub : StubIsThere (table_of table) region homes) (old mid : Growth) (tree : WindowTree)
      (replaces : Replaces (table_of table) loop tag region homes old mid tree) where
    replaced_brings : Brings (table_of table) loop tag (region_tree (table_of table) region) (supply_in old.names) (tree_in tree) (supply_in mid.names)
    replaced_brings =
        subst (λ (g : Grafted). Brings (table_of table) loop tag (region_tree (table_of table) region) (supply_in old.names) g.tree g.names) (sym replaces.grafts)
        (graft_brings (table_of table) loop tag (region_tree (table_of table) region) (supply_in old.names) (home_of homes))

    followed : (next : ℕ) → untested (region_tree (table_of table) region) ≡ Some next → rank (table_of table) next < rank (table_of table) region
    followed next is = rank_falls (table_of table) table.kept region next stub.leads is

    pub replaced_there : StubsAreThere (table_of table) (tree_in tree)
    replaced_there = brought_there (table_of table) table.kept loop tag (tree_there (table_of table) table.kept region) replaced_brings

    pub replaced_room : HasRoom old → HasRoom mid
    replaced_room room =
        let grown = replaces.size in
        let small = replaces.within in
        let more = brought_names (table_of table) loop tag replaced_brings in
        let n = more.names in
        let v = more.variables in
        let a = room.names in
        let b = room.variables in
        record { size = omega arith; names = omega arith; variables = omega arith }

    pub replaced_falls : (t : ℕ) (whole placed : WindowTree) → (2049 - old.size) * 2 ^ 32 + walk_steps (table_of table) whole ≡ t
        → walk_steps (table_of table) whole ≡ 2 + 2 * rank (table_of table) region → tree_in placed ≡ tree_in tree
        → (2049 - mid.size) * 2 ^ 32 + walk_steps (table_of table) placed < t
    replaced_falls t whole placed is stub_steps same = by_size (tree_size (tree_in tree)) refl
      where
        by_size : (n : ℕ) → tree_size (tree_in tree) ≡ n → (2049 - mid.size) * 2 ^ 32 + walk_steps (table_of table) placed < t
        by_size zero e =
            let grown = replaces.size in
            let steps = brought_steps (table_of table) loop tag (rank (table_of table) region) followed replaced_brings e in
            let f = ap (tree_steps (table_of table)) same in
            let g = one_node placed in
            omega arith
        by_size (suc n) e =
            let grown = replaces.size in
            let small = replaces.within in
            let f = ap (tree_steps (table_of table)) same in
            let h = few_steps (tree_in tree) in
            let g = one_node placed in
            omega arith

    pub replaced_steps : stub_steps (table_of table) (tree_in tree) ≤ rank (table_of table) region
    replaced_steps = brought_stub_steps (table_of table) loop tag (rank (table_of table) region) followed replaced_brings

    pub replaced_root : (most : ℕ) → tag + rank (table_of table) region ≤ most → RootStaysAtMost (table_of table) most (tree_in tree)
    replaced_root most le = brought_root (table_of table) loop tag most (rank (table_of table) region) le followed replaced_brings
