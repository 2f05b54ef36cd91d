-- A reason to stay remains one where the row above, its path or the row itself get more items.
use Rattle.std.proofs.Common.{◌≡◌, ℕ, ◌≤◌, Bool, true, false, List, ◌++◌, length, refl, ◌∙◌, ap, arith}
use Rattle.std.specs.Prelude.{◌&&◌, ◌||◌, nat_le}
use Rattle.std.specs.List.{list_any, count_by}
use Rattle.std.proofs.lemmas.Bool.Decides.{nat_tests}
use Rattle.std.proofs.lemmas.List.Folds.{list_any-append}
use Rattle.pc_word.specs.declared.item.Item.{Item}
use Rattle.pc_word.specs.declared.item.Operand.{Operand}
use Rattle.pc_word.specs.declared.item.Limits.{Limits}
use Rattle.pc_machine.specs.MachineCode.{CodeRow}
use Rattle.pc_word.specs.Items.{dest_of, is_memory}
use Rattle.pc_word.specs.Row.{items_of}
use Rattle.pc_tighten.specs.Compact.{is_dest, comes_after, is_awaited_by, is_full, stays}

-- one test says no less than another
abbrev pub Implies : Bool → Bool → Type 0
Implies a b = a ≡ true → b ≡ true

or_more : (a b c d : Bool) → Implies a c → Implies b d → Implies (a || b) (c || d)
or_more true b c d f g h = ap (λ (x : Bool). x || d) (f refl)
or_more false b true d f g h = refl
or_more false b false d f g h = g h

and_more : (a b c d : Bool) → Implies a c → Implies b d → Implies (a && b) (c && d)
and_more true b c d f g h = ap (λ (x : Bool). x && d) (f refl) ∙ g h
and_more false b c d f g h = absurd (cc)

any_more : {X : Type 0} (p : X → Bool) (xs ys : List X) → Implies (list_any p xs) (list_any p (xs ++ ys))
any_more p xs ys h = list_any-append p xs ys ∙ ap (λ (b : Bool). b || list_any p ys) h

at_most : (n a b : ℕ) → a ≤ b → Implies (nat_le n a) (nat_le n b)
at_most n a b le h = grind (arith, nat_tests)

-- the row above has no fewer items, its path has more after, and each test that an item of the row passed one passes
pub stays_longer : (limits : Limits) (above more : CodeRow) (path end : List Item) (x : Item) (others others' : List Item) (tests : List Operand)
    → length (items_of above) ≤ length (items_of more) → count_by is_memory (items_of above) ≤ count_by is_memory (items_of more)
    → ((p : Item → Bool) → Implies (list_any p others) (list_any p others'))
    → stays limits above path x others tests ≡ true → stays limits more (path ++ end) x others' tests ≡ true
stays_longer limits above more path end x others others' tests a b more_others h =
    let tested = list_any (λ on. is_dest on (dest_of x)) tests in
    or_more (is_full limits above x) (list_any (comes_after x) path || (list_any (is_awaited_by x) others || tested))
    (is_full limits more x) (list_any (comes_after x) (path ++ end) || (list_any (is_awaited_by x) others' || tested))
    (or_more (nat_le limits.ops (length (items_of above))) (is_memory x && nat_le limits.mem (count_by is_memory (items_of above)))
    (nat_le limits.ops (length (items_of more))) (is_memory x && nat_le limits.mem (count_by is_memory (items_of more)))
    (at_most limits.ops (length (items_of above)) (length (items_of more)) a)
    (and_more (is_memory x) (nat_le limits.mem (count_by is_memory (items_of above))) (is_memory x) (nat_le limits.mem (count_by is_memory (items_of more)))
    (λ e. e) (at_most limits.mem (count_by is_memory (items_of above)) (count_by is_memory (items_of more)) b)))
    (or_more (list_any (comes_after x) path) (list_any (is_awaited_by x) others || tested)
    (list_any (comes_after x) (path ++ end)) (list_any (is_awaited_by x) others' || tested)
    (any_more (comes_after x) path end)
    (or_more (list_any (is_awaited_by x) others) tested (list_any (is_awaited_by x) others') tested (more_others (is_awaited_by x)) (λ e. e)))
    h
