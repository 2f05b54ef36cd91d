use Rattle.std.proofs.lemmas.List.Elements.{recursion_from_All}
use Rattle.pc_tighten.specs.models.Drafts.{IsSplit}
use Rattle.pc_tighten.proofs.Raised.{raises_none}
use Rattle.pc_tighten.proofs.Rounds.{round_goes_on, round_lowers, round_ends, rounds_within, rounds_stand}
use Rattle.pc_tighten.proofs.raising.raise_all.Goals as goal

pub loop-parents-init : goal.loop-parents-init
loop-parents-init c = record {
  parents = rw c.deref.ensures.value at c.in_ok-parents.ensures;
  raises = raises_none c.args.limits c.in_ok-parents.parents.listing.places.items c.args.rows.now.items;
}

pub raise_rows-requires-clause-stand : goal.raise_rows-requires-clause-stand
raise_rows-requires-clause-stand c =
    rounds_stand c.args.limits c.in_ok-parents.parents c.args.rows.now.items c.loop-parents.rows.items c.loop-parents.invariant.parents c.loop-parents.invariant.raises

pub raise_rows-requires-clause-within : goal.raise_rows-requires-clause-within
raise_rows-requires-clause-within c =
    rounds_within c.args.limits c.in_ok-parents.parents c.args.rows.now.items c.loop-parents.rows.items c.loop-parents.invariant.parents c.loop-parents.invariant.raises

pub loop-parents-preserved : goal.loop-parents-preserved
loop-parents-preserved c = record {
  parents = c.loop-parents.invariant.parents;
  raises = round_goes_on c.args.limits c.in_ok-parents.parents c.args.rows.now.items c.loop-parents.rows.items c.raise_rows.new.rows.items c.in_ok-raise_rows.field-0 c.if-branch.true
      c.loop-parents.invariant.raises c.in_ok-raise_rows.ensures.raised;
}

pub loop-parents-smaller : goal.loop-parents-smaller
loop-parents-smaller c =
    round_lowers c.args.limits c.in_ok-parents.parents c.loop-parents.rows.items c.raise_rows.new.rows.items c.in_ok-raise_rows.field-0 c.if-branch.true c.in_ok-raise_rows.ensures.raised

pub returns : goal.returns
returns c =
    round_ends c.args.limits c.in_ok-parents.parents c.args.rows.now.items c.loop-parents.rows.items c.raise_rows.new.rows.items c.in_ok-raise_rows.field-0 c.if-branch.false
    c.loop-parents.invariant.parents (recursion_from_All IsSplit c.args.rows.now.items c.requires) c.loop-parents.invariant.raises c.in_ok-raise_rows.ensures.raised c.in_ok-raise_rows.ensures.settled
