use Rattle.std.proofs.Common.{refl, sym, ◌∙◌}
use Rattle.pc_shared.specs.Owning.{Owns}
use Rattle.pc_shared.proofs.Growing.{reserved_keeps}
use Rattle.pc_shared.proofs.Copies.{child_there, parent_there, own_done, own_any, owns_keeps}
use Rattle.pc_shared.proofs.Alone.{seen_as_parent}
use Rattle.pc_shared.proofs.owning.own_link.Goals as goal

pub returns-in_err-reserve-clause-keeps : goal.returns-in_err-reserve-clause-keeps
returns-in_err-reserve-clause-keeps c = reserved_keeps _ _ c.reserve.ensures.values refl

pub get-found-requires : goal.get-found-requires
get-found-requires c =
    child_there c.args.store.now c.args.most c.args.parent c.args.side c.unwrap-child.result c.get.result.now c.reserve.new.self
    c.reserve.ensures.values c.requires.stands c.get.ensures (sym c.link.ensures ∙ c.unwrap-child.ensures)

pub replace-before-requires : goal.replace-before-requires
replace-before-requires c =
    parent_there c.reserve.new.self c.put-copy.new.self _ _ _ _ c.get.ensures c.put-copy.ensures.vacant c.put-copy.ensures.put

-- the copy was made and linked
is_done : (c : goal.After-replace-before)
    → Owns c.args.store.now (record { nodes = c.replace-before.new.self; homes = c.args.store.now.homes })
    c.args.parent c.args.side c.unwrap-child.result c.put-copy.result
is_done c =
    own_done _ _ c.reserve.new.self c.put-copy.new.self _ _ _ _ c.get.result.now c.get-found.result.now c.relinked-renewed.result
    c.reserve.ensures.values c.get.ensures (sym c.link.ensures ∙ c.unwrap-child.ensures) c.get-found.ensures
    c.put-copy.ensures.vacant c.put-copy.ensures.put c.relinked-renewed.ensures c.replace-before.ensures.replaced refl

pub returns-clause-owns : goal.returns-clause-owns
returns-clause-owns c = λ child is. own_any _ _ _ _ c.unwrap-child.result child _ (is_done c) is

pub returns-clause-keeps : goal.returns-clause-keeps
returns-clause-keeps c = owns_keeps _ _ c.args.parent c.args.side c.unwrap-child.result c.put-copy.result (is_done c)

pub returns-clause-alone : goal.returns-clause-alone
returns-clause-alone c = seen_as_parent _ _ c.args.parent c.args.side c.unwrap-child.result c.put-copy.result (is_done c)
