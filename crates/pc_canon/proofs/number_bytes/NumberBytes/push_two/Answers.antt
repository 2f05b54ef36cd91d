use Rattle.std.proofs.Common.{rules, ◌≡◌, ◌<◌, ◌∷◌, ◌++◌, ◌∙◌, [], List, ap}
use Rattle.std.specs.Prelude.{ℤ}
use Rattle.pc_canon.specs.Bytes.{zigzag}
use Rattle.pc_canon.proofs.Bytes.{two_added}
use Rattle.pc_canon.proofs.number_bytes.NumberBytes.push_two.Goals as goal

pub returns-then-has_room : goal.returns-then-has_room
returns-then-has_room c =
    let y = c.args.first in
    let z = c.args.second in
    let before = c.self.inside.bytes.items in
    let one = c.push_reserved.new.self.items in
    let two = c.push_reserved-then-has_room.new.self.items in
    let p : zigzag y < 128 = search rules in
    let q : zigzag z < 128 = search rules in
    let first : one ≡ before ++ zigzag y ∷ [] = search rules in
    let second : two ≡ one ++ zigzag z ∷ [] = search rules in
    two_added before one two y z c.self.invariant p q first second ∙ ap (λ (l : List ℤ). l ++ y ∷ z ∷ []) c.self.view_is
