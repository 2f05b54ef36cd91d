-- An opened window that comes to a stub is one whose region leads there without a test.
use Rattle.std.proofs.Common.{◌≡◌, ℕ, List, Option, Some, sym, ◌∙◌, ap}
use Rattle.std.specs.Prelude.{Bool, true, false, if◌then◌else◌}
use Rattle.pc_word.specs.declared.item.Item.{Item}
use Rattle.pc_word.specs.declared.item.Item.TheVariants.{Bin, Copy, Load, Store, Print, Read, More}
use Rattle.pc_word.specs.declared.item.Operand.{Operand}
use Rattle.pc_word.specs.declared.item.Operand.TheVariants.{Name}
use Rattle.pc_table.specs.Table.{TableTree, Does, Asks, Next, Stops_here, Traps_here, Table, region_tree}
use Rattle.pc_table.specs.TableKeeps.{untested}
use Rattle.pc_window.specs.declared.home.Home.{Home}
use Rattle.pc_window.specs.Tree.{Tree, Pending, Exit, whole}
use Rattle.pc_window.specs.Names.{uses}
use Rattle.pc_window.specs.Opening.{Supply, changed, with_name, Brought, Moves_home, Gets_name, Stays_plain, brought, Grafted, graft_item, graft, opened, first_supply, first_home}
use Rattle.pc_window.specs.Tidying.{tidied}
use Rattle.pc_window.specs.WindowRun.{Window}
use Rattle.pc_table.specs.Loops.{innermost_loop}
use Rattle.pc_window.specs.Steps.{opened_window}
use Rattle.pc_window.specs.Laws.{BareWindowsAreUntested}
use Rattle.pc_window.proofs.CutRows.{whole_front_of}

module _ (to at : ℕ) (homes : List Home) where
  -- a stub below an item that goes is a stub
  gone : (b : Bool) (tag origin : ℕ) (item : Item) (rest : Tree) → (if b then Pending tag origin item rest else rest) ≡ Exit to at homes → rest ≡ Exit to at homes
  gone true tag origin item rest is = absurd (cc)
  gone false tag origin item rest is = is

  stub_below : (tag origin : ℕ) (item : Item) (rest : Tree) → tidied (Pending tag origin item rest) ≡ Exit to at homes → tidied rest ≡ Exit to at homes
  stub_below tag origin (Bin op dest left right) rest is = gone (uses (tidied rest) dest) tag origin (Bin op dest left right) (tidied rest) is
  stub_below tag origin (Copy dest from) rest is = absurd (cc)
  stub_below tag origin (Load dest array index) rest is = gone (uses (tidied rest) dest) tag origin (Load dest array index) (tidied rest) is
  stub_below tag origin (Store array index value) rest is = absurd (cc)
  stub_below tag origin (Print value) rest is = absurd (cc)
  stub_below tag origin (Read dest) rest is = absurd (cc)
  stub_below tag origin (More dest) rest is = gone (uses (tidied rest) dest) tag origin (More dest) (tidied rest) is

  module _ (table : Table) (loop : Option ℕ) (tag : ℕ) where
    item_leads : (origin : ℕ) (b : Brought) (names : Supply) (values : ℕ → Operand) (rest : Supply → (ℕ → Operand) → Grafted) (below : TableTree)
        → ((names : Supply) (values : ℕ → Operand) → tidied (rest names values).tree ≡ Exit to at homes → untested below ≡ Some to)
        → tidied (graft_item tag origin b names values rest).tree ≡ Exit to at homes → untested below ≡ Some to
    item_leads origin (Moves_home variable from) names values rest below next is = next names (changed values variable from) is
    item_leads origin (Gets_name variable item form) names values rest below next is =
        let names' = with_name names form in
        let values' = changed values variable (Name names.next) in
        next names' values' (stub_below tag origin item (rest names' values').tree is)
    item_leads origin (Stays_plain item) names values rest below next is = next names values (stub_below tag origin item (rest names values).tree is)

    graft_leads : (tree : TableTree) (names : Supply) (values : ℕ → Operand) → tidied (graft table loop tag tree names values).tree ≡ Exit to at homes
        → untested tree ≡ Some to
    graft_leads (Does origin item rest) names values is =
        item_leads origin (brought names values item) names values (graft table loop tag rest) rest (λ names' values'. graft_leads rest names' values') is
    graft_leads (Asks origin on on_yes on_no) names values is = absurd (cc)
    graft_leads (Next region) names values is = cc
    graft_leads Stops_here names values is = absurd (cc)
    graft_leads (Traps_here kind line) names values is = absurd (cc)

pub bare_untested : BareWindowsAreUntested
bare_untested table limits region to tag homes w tidies is =
    let loop = innermost_loop table region in
    let tree = (opened table loop region).tree in
    graft_leads to tag homes table loop 0 (region_tree table region) first_supply first_home
    (sym (ap tidied (whole_front_of tree)) ∙ sym (whole_front_of (tidied (whole (opened_window table limits region).front)))
    ∙ sym (ap (λ (u : Window). whole u.front) tidies) ∙ is)
