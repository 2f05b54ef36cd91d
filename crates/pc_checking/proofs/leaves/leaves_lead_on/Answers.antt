use Rattle.std.proofs.Common.{◌≡◌, ◌∙◌, ◌<◌, sym, ap, subst, map, length, List, arith}
use Rattle.std.specs.Prelude.{reverse}
use Rattle.std.specs.List.{AllByRecursion}
use Rattle.pc_word.specs.Row.{leaves_of}
use Rattle.pc_table.specs.StoredTable.{table_of}
use Rattle.pc_machine.specs.MachineCode.{row_of}
use Rattle.pc_window.specs.declared.tree.WindowTree.{WindowTree}
use Rattle.pc_window.specs.Tree.{Tree}
use Rattle.pc_window.specs.Steps.{front_row}
use Rattle.pc_window.specs.StoredWindow.{tree_in, front_in, window_in}
use Rattle.pc_matching.specs.Facts.{helds_of}
use Rattle.pc_settling.specs.Stored.{IsLeft}
use Rattle.pc_accepted.specs.Accepted.{with_limits}
use Rattle.pc_accepted.specs.Leading.{AllLeadOn}
use Rattle.pc_checking.specs.models.Stored.{left_window, arrivals_in, setting_in, departure_in}
use Rattle.pc_checking.proofs.Arrived.{was_at}
use Rattle.pc_checking.proofs.LeftAtLeaves.{turned_back, as_many, all_left, few_leaves, leaf_there, is_none, reverse_more, length_more, one_on, one_refused, all_on}
use Rattle.pc_checking.proofs.leaves.leaves_lead_on.Goals as goal

pub loop-rest-init : goal.loop-rest-init
loop-rest-init c =
    let s = c.args.setting.now in
    let arranged = c.args.arranged.now in
    let limits = s.code.now.limits in
    let rests = c.in_ok-rests.rests.items in
    let turned = c.reverse.new.self.items in
    let is = c.reverse.ensures.items in
    let are = c.in_ok-rests.ensures.rests in
    let back : reverse turned ≡ rests = turned_back rests turned is in
    let trees : map tree_in (reverse turned) ≡ leaves_of (front_row (λ tree. tree) (front_in arranged.tree)) = ap (λ (list : List WindowTree). map tree_in list) back ∙ are in
    record {
      many = as_many rests turned (leaves_of (front_row (λ tree. tree) (front_in arranged.tree))) _ is are c.requires.rests;
      on = λ outcome all. subst (λ (list : List Tree). AllLeadOn (setting_in s) (departure_in c.args.departure) (with_limits limits (window_in arranged)) 0
          (arrivals_in c.args.arrivals.now) (helds_of c.args.helds.now) (leaves_of (row_of c.args.row.now)) list outcome) trees all;
      left = subst (λ (list : List WindowTree). AllByRecursion (λ (rest : WindowTree). IsLeft (left_window arranged limits rest)) list) (sym back)
          (all_left arranged limits (table_of s.table.now) c.requires.arranged c.requires.setting.formed.limits rests (c.in_ok-rests.ensures.nodes c.requires.arranged.nodes) are);
      kept = c.requires.kept;
    }

pub returns-in-Err-clause-lead : goal.returns-in-Err-clause-lead
returns-in-Err-clause-lead c =
    let s = c.args.setting.now in
    let arranged = c.args.arranged.now in
    let row = c.args.row.now in
    let now = c.loop-rest in
    let held = c.index-helds-leaf in
    let items = c.in-Some.ensures.items in
    let many = now.invariant.many in
    let more = length_more c.pop.new.self.items now.rests.items c.in-Some.rest items in
    let leaves = c.requires.leaves in
    let within : now.leaf < length c.args.helds.now = omega (arith, many, more) in
    let listed = c.as_slice-leaves.ensures ∙ c.in_ok-leaves.ensures in
    one_refused (setting_in s) (departure_in c.args.departure) (with_limits s.code.now.limits (window_in arranged)) (arrivals_in c.args.arrivals.now) c.args.helds.now
    (leaves_of (row_of row)) (leaves_of (front_row (λ tree. tree) (front_in arranged.tree))) now.leaf (arrivals_in now.arrivals) held.result _ now.rests.items c.pop.new.self.items
    c.in-Some.rest items now.invariant.on (was_at c.args.helds.now now.leaf held.result held.result within held.is)
    (leaf_there (leaves_of (row_of row)) c.as_slice-leaves.result.now now.leaf _ listed (omega (arith, within, leaves))) (arrivals_in c.leaf_leads_on.new.arrivals) c.in_ok-led.led
    c.in_ok-led.ensures.leads c.in-Err.why c.in-Err.is

pub overflow_add-leaf : goal.overflow_add-leaf
overflow_add-leaf c =
    let formed = c.requires.setting.formed in
    let now = c.loop-rest in
    let many = now.invariant.many in
    let leaves = c.requires.leaves in
    let few = few_leaves c.args.setting.now.code.now.limits _ _ _ (row_of c.args.row.now) formed.limits c.requires.row in
    omega (arith, many, leaves, few)

pub loop-rest-preserved : goal.loop-rest-preserved
loop-rest-preserved c =
    let s = c.args.setting.now in
    let arranged = c.args.arranged.now in
    let row = c.args.row.now in
    let now = c.loop-rest in
    let held = c.index-helds-leaf in
    let items = c.in-Some.ensures.items in
    let many = now.invariant.many in
    let more = length_more c.pop.new.self.items now.rests.items c.in-Some.rest items in
    let leaves = c.requires.leaves in
    let within : now.leaf < length c.args.helds.now = omega (arith, many, more) in
    let listed = c.as_slice-leaves.ensures ∙ c.in_ok-leaves.ensures in
    let left = subst (λ (list : List WindowTree). AllByRecursion (λ (rest : WindowTree). IsLeft (left_window arranged s.code.now.limits rest)) list)
    (reverse_more c.pop.new.self.items now.rests.items c.in-Some.rest items) now.invariant.left in
    record {
      many = omega (arith, many, more);
      on = one_on (setting_in s) (departure_in c.args.departure) (with_limits s.code.now.limits (window_in arranged)) (arrivals_in c.args.arrivals.now) c.args.helds.now
          (leaves_of (row_of row)) (leaves_of (front_row (λ tree. tree) (front_in arranged.tree))) now.leaf (arrivals_in now.arrivals) held.result _ now.rests.items
          c.pop.new.self.items c.in-Some.rest items now.invariant.on (was_at c.args.helds.now now.leaf held.result held.result within held.is)
          (leaf_there (leaves_of (row_of row)) c.as_slice-leaves.result.now now.leaf _ listed (omega (arith, within, leaves))) (arrivals_in c.leaf_leads_on.new.arrivals) c.in_ok-led.led
          c.in_ok-led.ensures.leads c.in_default-led.field-0 c.in_default-led.is;
      left = left.1;
      kept = c.in_ok-led.ensures.kept;
    }

pub returns-clause-lead : goal.returns-clause-lead
returns-clause-lead c =
    let s = c.args.setting.now in
    let arranged = c.args.arranged.now in
    let now = c.loop-rest in
    let many = now.invariant.many in
    let leaves = c.requires.leaves in
    let none : length now.rests.items ≡ 0 = sym now.rests.ok.0 ∙ c.in_default.ensures.cases.0 in
    all_on (setting_in s) (departure_in c.args.departure) (with_limits s.code.now.limits (window_in arranged)) (arrivals_in c.args.arrivals.now) c.args.helds.now
    (leaves_of (row_of c.args.row.now)) (leaves_of (front_row (λ tree. tree) (front_in arranged.tree))) now.leaf (arrivals_in now.arrivals) now.rests.items (is_none now.rests.items none)
    now.invariant.on (omega (arith, many, none)) (omega (arith, many, none, leaves))
