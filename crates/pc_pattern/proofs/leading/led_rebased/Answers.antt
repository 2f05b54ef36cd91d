use Rattle.std.proofs.Common.{subst}
use Rattle.std.specs.Prelude.{Option, IfSome}
use Rattle.pc_table.specs.StoredTable.{table_of}
use Rattle.pc_automaton.specs.declared.automaton.AutomatonLeaf.{AutomatonLeaf}
use Rattle.pc_pattern.specs.models.Seen.{LeadsToKept}
use Rattle.pc_window.specs.StoredWindow.{window_in}
use Rattle.pc_pattern.specs.models.Renaming.{pairs_in}
use Rattle.pc_pattern.specs.models.Pools.{pool_in, keys_in}
use Rattle.pc_pattern.specs.models.Leading.{rules_within}
use Rattle.pc_pattern.proofs.LedSeen.{kept_leads}
use Rattle.pc_pattern.proofs.leading.led_rebased.Goals as goal

pub returns-in-Some-clause-leads : goal.returns-in-Some-clause-leads
returns-in-Some-clause-leads c =
    let by = rules_within (table_of c.args.table.now) c.args.bounds in
    kept_leads by (pairs_in c.args.names.now) (pool_in c.args.pool.now) c.met_as.new.seen c.in_ok-met.met (window_in c.args.window) _
    c.requires.able.proper c.requires.able.normal (c.in_ok-met.ensures.kept by (keys_in c.args.pool.now.keys.keys) c.requires.seen) c.in_ok-met.ensures.met
    (subst (λ (found : Option AutomatonLeaf). IfSome found (λ leaf. LeadsToKept (pairs_in c.args.names.now) c.in_ok-met.met c.met_as.new.seen leaf))
    c.in-Some.is c.in_ok-leaf-2.ensures)

pub returns-in-Some-clause-seen : goal.returns-in-Some-clause-seen
returns-in-Some-clause-seen c =
    c.in_ok-met.ensures.kept (rules_within (table_of c.args.table.now) c.args.bounds) (keys_in c.args.pool.now.keys.keys) c.requires.seen

pub returns-then-not-is_worth_a_look-clause-seen : goal.returns-then-not-is_worth_a_look-clause-seen
returns-then-not-is_worth_a_look-clause-seen c =
    c.in_ok-leaf.ensures.seen (rules_within (table_of c.args.table.now) c.args.bounds) c.requires.seen

pub returns-clause-seen : goal.returns-clause-seen
returns-clause-seen c =
    let by = rules_within (table_of c.args.table.now) c.args.bounds in
    c.in_ok-leaf-3.ensures.seen by
    (record {
      before = window_in c.args.window;
      proper = c.requires.able.proper;
      normal = c.requires.able.normal;
      met_so = c.in_ok-met.ensures.met;
      settles = c.in_ok-window-2.ensures.settles;
    })
    (c.in_ok-met.ensures.kept by (keys_in c.args.pool.now.keys.keys) c.requires.seen)
