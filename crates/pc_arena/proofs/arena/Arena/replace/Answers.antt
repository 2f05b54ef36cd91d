use Rattle.std.proofs.Common.{Some, sym, ap, ◌∙◌}
use Rattle.pc_arena.proofs.Slots.{is_there, value_is, now_replaced}
use Rattle.pc_arena.proofs.arena.Arena.replace.Goals as goal

pub index_mut-requires : goal.index_mut-requires
index_mut-requires g c = is_there c.self.inside.slots c.args.self.now c.id.inside.0 c.args.id (ap (λ h. h.values) c.self.view_is) c.id.view_is c.requires

pub returns-clause-before : goal.returns-clause-before
returns-clause-before g c = value_is c.self.inside.slots c.args.self.now c.id.inside.0 c.args.id (ap (λ h. h.values) c.self.view_is) c.id.view_is ∙ c.index_mut.ensures.value
    ∙ ap Some (sym c.replace.ensures.value)

pub returns-clause-replaced : goal.returns-clause-replaced
returns-clause-replaced g c =
    now_replaced c.self.inside.slots c.args.self.now c.id.inside.0 c.args.id c.replace.new.dest c.args.value
    (ap (λ h. h.values) c.self.view_is) c.id.view_is c.requires c.replace.ensures.after
