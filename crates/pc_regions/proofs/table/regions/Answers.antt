use Rattle.std.proofs.Common.{◌∙◌, arith}
use Rattle.std.proofs.lemmas.List.{length-map}
use Rattle.pc_table.specs.Table.{Table, table_region, table_regions}
use Rattle.pc_regions.specs.Cut.{IsCutOf}
use Rattle.pc_regions.proofs.RegionsCut.{regions_are_cut}
use Rattle.pc_regions.proofs.CutRuns.{cut_shows, cut_agrees}
use Rattle.pc_regions.proofs.CutKeeps.{cut_keeps}
use Rattle.pc_regions.proofs.table.regions.Goals as goal

-- the table keeps what tables keep, since it is the graph's cut
pub invariant_of-result : goal.invariant_of-result
invariant_of-result c =
    let table : Table = record { regions = table_regions c.in_ok-regions.regions; loops = c.in_ok-loops.loops; arrays = c.in_ok-arrays.arrays } in
    let cut : IsCutOf c.args.flow.now table =
    regions_are_cut c.args.flow.now c.in_ok-heads.heads.marks.items c.in_ok-heads.heads.headers.items table c.in_ok-heads.ensures.heads c.in_ok-regions.ensures
    (c.in_ok-loops.ensures ∙ c.as_slice.ensures ∙ c.loops.ensures) (c.in_ok-arrays.ensures ∙ c.as_slice-2.ensures ∙ c.arrays.ensures) in
    let as_many = length-map c.in_ok-regions.regions table_region in
    let few = c.in_ok-regions.ensures.few in
    let nodes = c.find_heads.ensures.kept.few_nodes in
    record { few = omega (arith, as_many, few, nodes); kept = cut_keeps c.args.flow.now table c.find_heads.ensures.kept cut }

-- the table that was made
abbrev made : goal.After-drop-heads-3 → Table
made c = record { regions = table_regions c.in_ok-regions.regions; loops = c.in_ok-loops.loops; arrays = c.in_ok-arrays.arrays }

-- it is the graph's cut
is_cut : (c : goal.After-drop-heads-3) → IsCutOf c.args.flow.now (made c)
is_cut c =
    regions_are_cut c.args.flow.now c.in_ok-heads.heads.marks.items c.in_ok-heads.heads.headers.items (made c) c.in_ok-heads.ensures.heads c.in_ok-regions.ensures
    (c.in_ok-loops.ensures ∙ c.as_slice.ensures ∙ c.loops.ensures) (c.in_ok-arrays.ensures ∙ c.as_slice-2.ensures ∙ c.arrays.ensures)

pub returns-clause-cut : goal.returns-clause-cut
returns-clause-cut c = is_cut c

pub returns-clause-kept : goal.returns-clause-kept
returns-clause-kept c = cut_keeps c.args.flow.now (made c) c.find_heads.ensures.kept (is_cut c)

pub returns-clause-same : goal.returns-clause-same
returns-clause-same c = cut_shows c.args.flow.now (made c) (is_cut c)

pub returns-clause-agree : goal.returns-clause-agree
returns-clause-agree c = cut_agrees c.args.flow.now (made c) (is_cut c)
