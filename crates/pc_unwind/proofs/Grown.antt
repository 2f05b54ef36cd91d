-- What a window that was unwound has, by what it had.
use Rattle.std.proofs.Common.{◌≡◌, ℕ, ◌+◌, ◌≤◌, Option, length, sym, subst, arith}
use Rattle.std.specs.Prelude.{max}
use Rattle.pc_table.specs.Table.{Table}
use Rattle.pc_table.specs.TableKeeps.{TableKeeps}
use Rattle.pc_window.specs.Tree.{Tree, Pending, Undecided, Exit, Stop_exit, Trap_exit, whole, front_of, tree_size}
use Rattle.pc_window.specs.Opening.{Grafted}
use Rattle.pc_window.specs.WindowRun.{Window}
use Rattle.pc_window.specs.Unwinding.{lesser_tag, least_tag, front_tag, most_unwound, Unwinds, unwinds_no_more, unwinds_once}
use Rattle.pc_window.specs.Steps.{UnwindsTo}
use Rattle.pc_unwind.specs.models.Named.{TagsAtMost, ArraysAreThere, StubsAreThere}
use Rattle.pc_unwind.specs.Unwindable.{HasGrown}
use Rattle.pc_unwind.specs.models.Walking.{RootStaysAtMost}
use Rattle.pc_unwind.proofs.Reaching.{once_is}
use Rattle.pc_unwind.proofs.Replaced.{replaced_at, arrays_kept, stubs_kept, names_kept, tags_kept, stays_kept}
use Rattle.pc_unwind.proofs.TagWalks.{lesser_most, tags_stay}
use Rattle.pc_window.specs.There.{PartsAreThere}
use Rattle.pc_unwind.proofs.PartsThere.{tags_of, arrays_of, stubs_of, parts_there, higher}
use Rattle.pc_window.proofs.CutRows.{whole_front_of}

front_stays : (table : Table) (most : ℕ) (tree : Tree) → RootStaysAtMost table most tree → front_tag tree ≤ most
front_stays table most (Pending t o item rest) h = let le = lesser_most t (least_tag rest) in omega arith
front_stays table most (Undecided t o on one other) h = let le = lesser_most t (lesser_tag (least_tag one) (least_tag other)) in omega arith
front_stays table most (Exit region t homes) h = omega arith
front_stays table most Stop_exit h = omega arith
front_stays table most (Trap_exit kind line) h = omega arith

module _ (table : Table) (keeps : TableKeeps table) (loop : Option ℕ) (number : ℕ) where
  stubs_unwound : {g k : Grafted} → Unwinds table loop number g k → StubsAreThere table g.tree → StubsAreThere table k.tree
  stubs_unwound (unwinds_no_more g none) there = there
  stubs_unwound (unwinds_once g h k is u) there =
      let once = once_is table loop number g h is in
      stubs_unwound u (stubs_kept table loop once.tag keeps (replaced_at table loop once.tag g.names g.tree h once.unwound) there)

  arrays_unwound : {g k : Grafted} → Unwinds table loop number g k → ArraysAreThere table g.tree → ArraysAreThere table k.tree
  arrays_unwound (unwinds_no_more g none) there = there
  arrays_unwound (unwinds_once g h k is u) there =
      let once = once_is table loop number g h is in
      arrays_unwound u (arrays_kept table loop once.tag keeps (replaced_at table loop once.tag g.names g.tree h once.unwound) there)

  size_unwound : {g k : Grafted} → Unwinds table loop number g k → tree_size k.tree ≤ max most_unwound (tree_size g.tree)
  size_unwound (unwinds_no_more g none) = omega arith
  size_unwound (unwinds_once g h k is u) = let once = once_is table loop number g h is in let small = once.small in let later = size_unwound u in omega arith

  names_unwound : {g k : Grafted} → Unwinds table loop number g k
      → (k.names.next + tree_size g.tree ≤ g.names.next + tree_size k.tree) × (k.names.next_variable + tree_size g.tree ≤ g.names.next_variable + tree_size k.tree)
  names_unwound (unwinds_no_more g none) = (omega arith, omega arith)
  names_unwound (unwinds_once g h k is u) =
      let once = once_is table loop number g h is in
      let first = names_kept table loop once.tag (replaced_at table loop once.tag g.names g.tree h once.unwound) in
      let later = names_unwound u in
      let a = first.0 in
      let b = first.1 in
      let c = later.0 in
      let d = later.1 in
      (omega arith, omega arith)

  tags_unwound : (most : ℕ) {g k : Grafted} → Unwinds table loop number g k → StubsAreThere table g.tree → RootStaysAtMost table most g.tree → TagsAtMost (most + number) g.tree
      → TagsAtMost (most + number) k.tree
  tags_unwound most (unwinds_no_more g none) there root tags = tags
  tags_unwound most (unwinds_once g h k is u) there root tags =
      let once = once_is table loop number g h is in
      let r = replaced_at table loop once.tag g.names g.tree h once.unwound in
      let near = once.near in
      let front = front_stays table most g.tree root in
      tags_unwound most u (stubs_kept table loop once.tag keeps r there) (stays_kept table loop once.tag keeps most r there root)
      (tags_kept table loop once.tag (most + number) (omega arith) r tags)

-- a window that was unwound has grown no more than said
pub has_grown : (table : Table) → TableKeeps table → (number : ℕ) (w v : Window) → UnwindsTo table number w v → HasGrown table number w v
has_grown table keeps number w v to =
    let names = names_unwound table keeps w.inside number to.unwinds in
    subst (HasGrown table number w) (sym to.is) (record {
      size = subst (λ (t : Tree). tree_size t ≤ max most_unwound (tree_size (whole w.front))) (sym same) (size_unwound table keeps w.inside number to.unwinds);
      names = subst (λ (t : Tree). to.unwound.names.next + tree_size (whole w.front) ≤ w.next + tree_size t) (sym same) names.0;
      variables = subst (λ (t : Tree). to.unwound.names.next_variable + tree_size (whole w.front) ≤ w.next_variable + tree_size t) (sym same) names.1;
      parts = λ most parts. subst (PartsAreThere table (most + (length table.regions + number))) (sym same)
          (parts_there table (most + (length table.regions + number)) to.unwound.tree (all_tags most (tags_of table most (whole w.front) parts) (stubs_of table most (whole w.front) parts))
          (arrays_unwound table keeps w.inside number to.unwinds (arrays_of table most (whole w.front) parts))
          (stubs_unwound table keeps w.inside number to.unwinds (stubs_of table most (whole w.front) parts)));
    })
  where
    same : whole (front_of to.unwound.tree) ≡ to.unwound.tree
    same = whole_front_of to.unwound.tree

    all_tags : (most : ℕ) → TagsAtMost most (whole w.front) → StubsAreThere table (whole w.front) → TagsAtMost (most + (length table.regions + number)) to.unwound.tree
    all_tags most tags there =
        let sums : most + length table.regions + number ≡ most + (length table.regions + number) = omega arith in
        subst (λ (n : ℕ). TagsAtMost n to.unwound.tree) sums
        (tags_unwound table keeps w.inside number (most + length table.regions) to.unwinds there (tags_stay table keeps most (whole w.front) tags)
        (higher most (most + length table.regions + number) (whole w.front) (omega arith) tags))
