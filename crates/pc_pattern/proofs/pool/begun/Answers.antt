use Rattle.std.proofs.Common.{◌≡◌, ◌∷◌, [], ◌∙◌, ap, rules}
use Rattle.std.specs.Prelude.{ℕ, List}
use Rattle.pc_pattern.specs.models.Pools.{keys_in}
use Rattle.pc_pattern.proofs.Placed.{placed_first}
use Rattle.pc_pattern.proofs.SeenWindows.{nothing_seen}
use Rattle.pc_pattern.proofs.pool.begun.Goals as goal

pub returns-clause-keys : goal.returns-clause-keys
returns-clause-keys c =
    let none : keys_in c.new-keys.result.keys ≡ [] = search rules in
    placed_first _ _ _ _ _ none c.in_ok-placed.ensures ∙ ap (λ (key : List ℕ). key ∷ []) c.in_ok-bytes.ensures.bytes

pub returns-clause-seen : goal.returns-clause-seen
returns-clause-seen c = λ by. nothing_seen by _ c.nothing.result c.nothing.ensures.keys c.nothing.ensures.members
