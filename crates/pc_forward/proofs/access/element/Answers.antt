use Rattle.std.proofs.Common.{◌+◌, ◌-◌, ◌≡◌, subst, arith}
use Rattle.pc_word.proofs.Truth.{held, failed}
use Rattle.pc_forward.proofs.Elements.{NoneFrom, none_here, element_none, told_by, none_more}
use Rattle.pc_forward.proofs.access.element.Goals as goal

pub loop-place-init : goal.loop-place-init
loop-place-init c = record { few = omega arith; none = none_here c.args.accesses.now c.args.array c.args.index.now }

pub returns-then-decides : goal.returns-then-decides
returns-then-decides c =
    let low = c.loop-place.invariant.few in
    told_by c.args.accesses.now c.args.array c.args.index.now (c.loop-place.place - 1) c.index-accesses-place.result (omega (arith, low)) c.index-accesses-place.is
    (held c.decides.ensures c.if-decides.true) (subst (NoneFrom c.args.accesses.now c.args.array c.args.index.now) (let e : c.loop-place.place ≡ (c.loop-place.place - 1) + 1 = omega arith in e)
    c.loop-place.invariant.none) c.told.result c.told.ensures

pub loop-place-preserved : goal.loop-place-preserved
loop-place-preserved c =
    let low = c.loop-place.invariant.few in
    record {
      few = omega (arith, low);
      none = none_more c.args.accesses.now c.args.array c.args.index.now (c.loop-place.place - 1) c.index-accesses-place.result (omega (arith, low)) c.index-accesses-place.is
          (failed c.decides.ensures c.if-decides.false) (subst (NoneFrom c.args.accesses.now c.args.array c.args.index.now)
          (let e : c.loop-place.place ≡ (c.loop-place.place - 1) + 1 = omega arith in e) c.loop-place.invariant.none);
    }

pub returns : goal.returns
returns c =
    let end = c.loop-place-test.false in
    element_none c.args.accesses.now c.args.array c.args.index.now
    (subst (NoneFrom c.args.accesses.now c.args.array c.args.index.now) (let e : c.loop-place.place ≡ 0 = omega (arith, end) in e) c.loop-place.invariant.none)
