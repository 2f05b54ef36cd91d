use Rattle.std.proofs.Common.{rules, ◌≡◌, ◌<◌, ◌∷◌, ◌++◌, ◌∙◌, [], List, ap}
use Rattle.std.specs.Prelude.{ℤ, OnOk}
use Rattle.pc_canon.specs.Bytes.{zigzag}
use Rattle.std.proofs.lemmas.Result.{on_ok_weaker}
use Rattle.pc_canon.proofs.Bytes.{three_added, one_by_one}
use Rattle.pc_canon.proofs.number_bytes.NumberBytes.push_three.Goals as goal

pub returns-then-has_room : goal.returns-then-has_room
returns-then-has_room c =
    let x = c.args.first in
    let y = c.args.second in
    let z = c.args.third in
    let before = c.self.inside.bytes.items in
    let one = c.push_reserved.new.self.items in
    let two = c.push_reserved-then-has_room.new.self.items in
    let three = c.push_reserved-then-has_room-2.new.self.items in
    let o : zigzag x < 128 = search rules in
    let p : zigzag y < 128 = search rules in
    let q : zigzag z < 128 = search rules in
    let first : one ≡ before ++ zigzag x ∷ [] = search rules in
    let second : two ≡ one ++ zigzag y ∷ [] = search rules in
    let third : three ≡ two ++ zigzag z ∷ [] = search rules in
    three_added before one two three x y z c.self.invariant o p q first second third ∙ ap (λ (l : List ℤ). l ++ x ∷ y ∷ z ∷ []) c.self.view_is

pub returns : goal.returns
returns c =
    let x = c.args.first in
    let y = c.args.second in
    let z = c.args.third in
    let before = c.args.self.now in
    let one = c.push_digits.new.self in
    let two = c.push_digits-2.new.self in
    let three = c.push_digits-3.new.self in
    let first : one ≡ before ++ x ∷ [] = search rules in
    let second : two ≡ one ++ y ∷ [] = search rules in
    let third : OnOk c.push_digits-3.result (three ≡ two ++ z ∷ []) = search rules in
    on_ok_weaker c.push_digits-3.result (one_by_one before one two three x y z first second) third
