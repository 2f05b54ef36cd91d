use Rattle.std.proofs.Common.{◌<◌, length, sym, subst}
use Rattle.pc_regions.specs.models.Numbered.{Numbered, Meets}
use Rattle.pc_regions.specs.contracts.numbering.Numbering.{the_view}
use Rattle.pc_regions.proofs.Numberings.{GetsNext, gets_next_is_numbered, gets_next_meets}
use Rattle.pc_regions.proofs.numbering.Numbering.number.Goals as goal

-- the node gets the next number
gets_next : (c : goal.After-set) → GetsNext (the_view c.self.inside) (record { numbers = c.set.new.self; order = c.push.new.self }) c.args.node c.len-number.result
gets_next c = record {
  within = subst (λ (it : Numbered). c.args.node < length it.numbers) (sym c.self.view_is) c.requires;
  none = rw c.as_slice.ensures at c.in_default.is;
  is_next = c.len-number.ensures;
  numbers = c.set.ensures;
  order = c.in_ok-push.ensures.ok;
}

pub invariant_of-self-2 : goal.invariant_of-self-2
invariant_of-self-2 c = gets_next_is_numbered _ _ c.args.node c.len-number.result c.self.invariant (gets_next c)

pub returns : goal.returns
returns c = record {
  met = subst (λ (it : Numbered). Meets it (record { numbers = c.set.new.self; order = c.push.new.self }) c.args.node c.len-number.result) c.self.view_is
      (gets_next_meets (the_view c.self.inside) (record { numbers = c.set.new.self; order = c.push.new.self }) c.args.node c.len-number.result (gets_next c));
}
