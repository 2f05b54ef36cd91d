use Rattle.std.proofs.Common.{◌≡◌, ◌<◌, false, length, [], ◌∷◌, subst, sym, Some}
use Rattle.std.specs.Prelude.{slice_get}
use Rattle.pc_compile.specs.models.Marked.{Marked, Finds}
use Rattle.pc_compile.specs.contracts.found.Found.{the_view}
use Rattle.pc_compile.proofs.Marks.{mark_read, next_marked, found_next}
use Rattle.pc_compile.proofs.found.Found.find.Goals as goal

-- the region has no mark
free : (c : goal.After-set) → slice_get (the_view c.self.inside).marks c.args.region ≡ Some false
free c =
    mark_read (the_view c.self.inside).marks c.args.region false
    (subst (λ (it : Marked). c.args.region < length it.marks) (sym c.self.view_is) c.requires)
    (rw c.as_slice.ensures at c.if-as_slice-region.false)

pub invariant_of-self-2 : goal.invariant_of-self-2
invariant_of-self-2 c =
    next_marked (the_view c.self.inside) (record { marks = c.set.new.self; order = c.push.new.self }) c.args.region c.self.invariant (free c)
    c.set.ensures c.in_ok-push.ensures.ok

pub returns : goal.returns
returns c =
    subst (λ (it : Marked). Finds (c.args.region ∷ []) it (record { marks = c.set.new.self; order = c.push.new.self })) c.self.view_is
    (found_next (the_view c.self.inside) (record { marks = c.set.new.self; order = c.push.new.self }) c.args.region c.self.invariant (free c)
    c.set.ensures c.in_ok-push.ensures.ok)
