use Rattle.std.proofs.Common.{◌≡◌, ◌∙◌, Some, sym, ap, subst, arith}
use Rattle.std.specs.Prelude.{◌-◌, ◌^◌, ◌<◌, false}
use Rattle.std.proofs.lemmas.Result.{IfOk-weaker}
use Rattle.pc_table.specs.StoredTable.{table_of}
use Rattle.pc_window.specs.Unwinding.{least_inside, or_zero, unwinds_no_more}
use Rattle.pc_window.specs.StoredWindow.{tree_in}
use Rattle.pc_unwind.specs.models.Walking.{most_root_tag, with_growth, Walks, tags_from}
use Rattle.pc_unwind.proofs.Reaching.{done_high}
use Rattle.pc_unwind.proofs.TagWalks.{front_most, least_itself, fewer_tags, walked_size, walked_root, walked_least, walked_full, walked_on, unwinds_none}
use Rattle.pc_unwind.proofs.unwinding.+unwind_tags.Goals as goal

pub returns-in_default-clause-unwinds : goal.returns-in_default-clause-unwinds
returns-in_default-clause-unwinds t c =
    unwinds_none (table_of c.args.table.now) c.args.inside c.args.number (tree_in c.args.tree.now) _ (sym c.least_tags-least.ensures.inside ∙ c.in_default.is)

pub returns-then-tag-front-clause-unwinds : goal.returns-then-tag-front-clause-unwinds
returns-then-tag-front-clause-unwinds t c =
    let front = c.front.ensures ∙ ap or_zero c.least_tags-least.ensures.all in
    let least = least_itself c.in-Some.tag _ (sym c.least_tags-least.ensures.inside ∙ c.in-Some.is) in
    unwinds_no_more (with_growth (tree_in c.args.tree.now) c.args.growth.now)
    (done_high (table_of c.args.table.now) c.args.inside c.args.number c.in-Some.tag (with_growth (tree_in c.args.tree.now) c.args.growth.now) (omega arith) least)

pub returns-then-full-clause-unwinds : goal.returns-then-full-clause-unwinds
returns-then-full-clause-unwinds t c =
    let front = c.front.ensures ∙ ap or_zero c.least_tags-least.ensures.all in
    let least = least_itself c.in-Some.tag _ (sym c.least_tags-least.ensures.inside ∙ c.in-Some.is) in
    walked_full (table_of c.args.table.now) c.args.inside c.in-Some.tag (tree_in c.args.tree.now) (tree_in c.walk.new.tree) c.args.growth.now c.walk.new.growth c.requires.size c.args.number
    c.requires.several (omega arith) least
    (subst (Walks (table_of c.args.table.now) c.args.inside c.in-Some.tag (tree_in c.args.tree.now) c.args.growth.now (tree_in c.walk.new.tree) c.walk.new.growth) c.if-full.true
    c.in_ok-full.ensures.walks)

pub unwind_tags-requires : goal.unwind_tags-requires
unwind_tags-requires t c =
    let table = table_of c.args.table.now in
    let before = tree_in c.args.tree.now in
    let after = tree_in c.walk.new.tree in
    let front = c.front.ensures ∙ ap or_zero c.least_tags-least.ensures.all in
    let most = front_most most_root_tag before c.requires.root in
    let first : least_inside table c.args.inside before ≡ Some c.in-Some.tag = sym c.least_tags-least.ensures.inside ∙ c.in-Some.is in
    let walks =
    subst (Walks table c.args.inside c.in-Some.tag before c.args.growth.now after c.walk.new.growth) c.if-full.false c.in_ok-full.ensures.walks in
    let next = walked_least table c.args.inside c.in-Some.tag before after c.args.growth.now c.walk.new.growth c.requires.size walks (least_itself c.in-Some.tag _ first) in
    let measure : tags_from (least_inside table c.args.inside before) ≡ t = c.decreases in
    let left : tags_from (least_inside table c.args.inside before) ≡ 2 ^ 31 - c.in-Some.tag = ap tags_from first in
    let fewer = fewer_tags c.in-Some.tag (least_inside table c.args.inside after) (omega arith) next in
    let falls : tags_from (least_inside table c.args.inside after) < t = omega arith in (
      falls,
      (
        c.requires.several,
        (
          c.requires.number,
          (
            c.in_ok-full.ensures.nodes,
            (
              c.in_ok-full.ensures.stubs,
              (
                c.in_ok-full.ensures.room,
                (
                  walked_size table c.args.inside c.in-Some.tag before after c.args.growth.now c.walk.new.growth c.requires.size false walks,
                  walked_root table c.args.inside c.in-Some.tag before after c.args.growth.now c.walk.new.growth c.requires.size most_root_tag false walks c.requires.root,
                ),
              ),
            ),
          ),
        ),
      ),
    )

pub returns-clause-unwinds : goal.returns-clause-unwinds
returns-clause-unwinds t c =
    let front = c.front.ensures ∙ ap or_zero c.least_tags-least.ensures.all in
    let least = least_itself c.in-Some.tag _ (sym c.least_tags-least.ensures.inside ∙ c.in-Some.is) in
    IfOk-weaker c.unwind_tags.result _ _
    (λ done u.
    walked_on (table_of c.args.table.now) c.args.inside c.in-Some.tag (tree_in c.args.tree.now) (tree_in c.walk.new.tree) c.args.growth.now c.walk.new.growth c.requires.size
    c.args.number c.requires.several (omega arith) least c.in_ok-full.full c.in_ok-full.ensures.walks
    (with_growth (tree_in c.unwind_tags.new.tree) c.unwind_tags.new.growth) u)
    c.unwind_tags.ensures.unwinds
