use Rattle.std.proofs.Common.{◌≡◌, length, Some, None, ◌∙◌, ap}
use Rattle.pc_table.specs.Table.{table_region, table_regions}
use Rattle.pc_regions.specs.models.Numbered.{nothing_met}
use Rattle.pc_regions.proofs.RegionsCut.{so_far_begins, so_far_goes_on, so_far_whole, head_within, regions_within, behind_regions, region_more, fewer_left}
use Rattle.pc_regions.proofs.cutting.cut.Goals as goal

pub loop-head-init : goal.loop-head-init
loop-head-init c =
    let is : c.in_ok-found.found ≡ nothing_met (length c.args.flow.now.nodes) = c.in_ok-found.ensures ∙ ap nothing_met c.count.ensures.number in
    let meets = rw c.entry.ensures at c.in_ok-number.ensures.met in
    rw c.new-regions.ensures (so_far_begins c.args.flow.now c.args.heads.now.marks.items c.in_ok-found.found c.number.new.self c.in_ok-number.field-0 is meets)

pub region_of-requires-clause-there : goal.region_of-requires-clause-there
region_of-requires-clause-there c =
    let next = behind_regions c.loop-head.found.order c.loop-head.regions c.len.result (Some c.in-Some.head) c.in-Some.ensures.node c.len.ensures in
    head_within c.args.flow.now c.args.heads.now.marks.items c.loop-head.found (table_regions c.loop-head.regions) _ c.in-Some.head c.loop-head.invariant c.in-Some.ensures.kept next

pub loop-head-smaller : goal.loop-head-smaller
loop-head-smaller c =
    let next = behind_regions c.loop-head.found.order c.loop-head.regions c.len.result (Some c.in-Some.head) c.in-Some.ensures.node c.len.ensures in
    let within = regions_within c.args.flow.now c.args.heads.now.marks.items c.loop-head.found (table_regions c.loop-head.regions) c.in-Some.head c.loop-head.invariant c.in-Some.ensures.kept next in
    fewer_left (length c.args.flow.now.nodes) c.loop-head.regions c.push.new.self c.in_ok-region.region c.in_ok-push.ensures.ok within

pub loop-head-preserved : goal.loop-head-preserved
loop-head-preserved c =
    let next = behind_regions c.loop-head.found.order c.loop-head.regions c.len.result (Some c.in-Some.head) c.in-Some.ensures.node c.len.ensures in
    rw (region_more c.loop-head.regions c.push.new.self c.in_ok-region.region c.in_ok-push.ensures.ok)
    (so_far_goes_on c.args.flow.now c.args.heads.now.marks.items c.loop-head.found c.region_of.new.found (table_regions c.loop-head.regions) (table_region c.in_ok-region.region) c.in-Some.head
    c.loop-head.invariant next c.in_ok-region.ensures.head c.in_ok-region.ensures.region c.in_ok-region.ensures.names)

pub returns : goal.returns
returns c =
    so_far_whole c.args.flow.now c.args.heads.now.marks.items c.loop-head.found (table_regions c.loop-head.regions) c.loop-head.invariant c.node.ensures.kept
    (behind_regions c.loop-head.found.order c.loop-head.regions c.len.result None c.in_default.ensures.node c.len.ensures)
