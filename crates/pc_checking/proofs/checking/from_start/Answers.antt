use Rattle.pc_settling.specs.Stored.{remaining_in}
use Rattle.pc_checking.specs.models.Stored.{arrivals_in, setting_in}
use Rattle.pc_checking.proofs.Arrived.{nothing_kept}
use Rattle.pc_checking.proofs.Starting.{through_not, through_all}
use Rattle.pc_checking.proofs.checking.from_start.Goals as goal

pub lead-requires-clause-kept : goal.lead-requires-clause-kept
lead-requires-clause-kept c = nothing_kept c.args.setting.now c.args.arrivals.now c.requires.nothing

pub returns-in-Err : goal.returns-in-Err
returns-in-Err c =
    through_not (setting_in c.args.setting.now) (arrivals_in c.args.arrivals.now) c.requires.nothing (remaining_in c.args.start) c.requires.start
    (arrivals_in c.lead.new.arrivals) c.in_ok-why.field-0 c.in_ok-why.ensures.leads c.in-Err.why c.in-Err.is

pub returns : goal.returns
returns c =
    through_all (setting_in c.args.setting.now) (arrivals_in c.args.arrivals.now) c.requires.nothing (remaining_in c.args.start) c.requires.start
    (arrivals_in c.lead.new.arrivals) c.in_ok-why.field-0 c.in_ok-why.ensures.leads c.in_default.field-0 c.in_default.is (arrivals_in c.all_pass.new.arrivals) c.all_pass.result
    c.all_pass.ensures
