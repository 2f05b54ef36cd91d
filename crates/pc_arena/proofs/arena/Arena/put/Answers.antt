use Rattle.std.proofs.Common.{refl, ap, ◌∙◌}
use Rattle.pc_arena.proofs.Slots.{value_is, now_with}
use Rattle.pc_arena.proofs.arena.Arena.put.Goals as goal

pub returns-clause-vacant : goal.returns-clause-vacant
returns-clause-vacant g c = value_is c.self.inside.slots c.args.self.now c.insert_reserved.result c.insert_reserved.result (ap (λ h. h.values) c.self.view_is) refl
    ∙ c.insert_reserved.ensures.was_vacant

pub returns-clause-put : goal.returns-clause-put
returns-clause-put g c =
    now_with c.self.inside.slots c.insert_reserved.new.self c.args.self.now c.insert_reserved.result c.insert_reserved.result c.args.value
    (ap (λ h. h.values) c.self.view_is) refl c.insert_reserved.ensures.updates
