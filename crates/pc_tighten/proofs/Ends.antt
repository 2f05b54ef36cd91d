-- Where no move is left the code is compact.
use Rattle.std.proofs.Common.{◌≡◌, ℕ, suc, ◌+◌, Bool, true, false, cond, List, [], ◌∷◌, ◌++◌, map, length, refl, sym, ◌∙◌, ap, subst, length-append, arith}
use Rattle.std.specs.Prelude.{if◌then◌else◌, nat_eq}
use Rattle.std.specs.List.{AllByRecursion, count_by}
use Rattle.pc_word.specs.declared.item.Item.{Item}
use Rattle.pc_machine.specs.declared.tree.Leaf.TheVariants.{Goto, Stop, Trap}
use Rattle.pc_machine.specs.MachineCode.{CodeRow, RowCode, is_goto}
use Rattle.pc_word.specs.Row.{Then, Either, At_leaf, items_of, tests_of, leaves_of}
use Rattle.pc_word.proofs.Lists.{count_more, count_both}
use Rattle.pc_tighten.specs.Compact.{stays, paths_to, IsPair, EachStays, Compact}
use Rattle.pc_tighten.specs.Moves.{below, MayMove}
use Rattle.pc_machine.specs.Reachable.{IsReachable}

map_length : (item : Item) (paths : List (List Item)) → length (map (λ path. item ∷ path) paths) ≡ length paths
map_length item [] = refl
map_length item (path ∷ paths) = ap suc (map_length item paths)

-- there are as many paths to t as leaves
pub paths-count : (t : ℕ) (row : CodeRow) → length (paths_to t row) ≡ count_by (is_goto t) (leaves_of row)
paths-count t (Then item rest) = map_length item (paths_to t rest) ∙ paths-count t rest
paths-count t (Either on on_yes on_no) =
    let a = paths-count t on_yes in
    let b = paths-count t on_no in
    let c = count_both (is_goto t) (leaves_of on_yes) (leaves_of on_no) in
    omega (arith, length-append (paths_to t on_yes) (paths_to t on_no))
paths-count t (At_leaf (Goto row)) = by_test (nat_eq row t) (count_more (is_goto t) (Goto row) [])
  where
    by_test : (b : Bool) → count_by (is_goto t) (Goto row ∷ []) ≡ cond b 1 0 + count_by (is_goto t) []
        → length {A = List Item} (if b then [] ∷ [] else []) ≡ count_by (is_goto t) (Goto row ∷ [])
    by_test true e = omega arith
    by_test false e = omega arith
paths-count t (At_leaf Stop) = refl
paths-count t (At_leaf (Trap kind line)) = refl

-- one element alone
pub each_alone : (xs : List (List Item)) (P : List Item → Type 0) → length xs ≡ 1 → ((x : List Item) → xs ≡ x ∷ [] → P x) → AllByRecursion P xs
each_alone [] P e f = tt
each_alone (x ∷ []) P e f = (f x refl, tt)
each_alone (x ∷ (y ∷ xs)) P e f = absurd (omega arith)

below-more : (xs : List Item) (x : Item) (row : CodeRow) → below (xs ++ (x ∷ [])) row ≡ below xs (Then x row)
below-more [] x row = refl
below-more (y ∷ xs) x row = ap (λ (r : CodeRow). Then y r) (below-more xs x row)

module _ (code : RowCode) (m t : ℕ) (above : CodeRow) (path : List Item) (alone : paths_to t above ≡ path ∷ [])
    (none : (xs : List Item) (x : Item) (rest : CodeRow) → MayMove code m t above xs x rest → ⊥) where
  each_stays : (before : List Item) (row : CodeRow) → IsPair code m t above (below before row) → EachStays code.limits above path before row
  each_stays before (Then x rest) pair = (
    stay (stays code.limits above path x (before ++ items_of rest) (tests_of rest)) refl,
    each_stays (before ++ (x ∷ [])) rest (subst (λ (r : CodeRow). IsPair code m t above r) (sym (below-more before x rest)) pair),
  )
    where
      stay : (b : Bool) → stays code.limits above path x (before ++ items_of rest) (tests_of rest) ≡ b → stays code.limits above path x (before ++ items_of rest) (tests_of rest) ≡ true
      stay true e = e
      stay false e = absurd (none before x rest (record {
        pair = pair;
        free = subst (λ (l : List (List Item)). AllByRecursion (λ p. stays code.limits above p x (before ++ items_of rest) (tests_of rest) ≡ false) l) (sym alone) (e, tt);
      }))
  each_stays before (Either on on_yes on_no) pair = tt
  each_stays before (At_leaf leaf) pair = tt

-- where no item may move from a row that a reached row leads to, the code is compact
pub compact_where_none_may_move : (code : RowCode) → ((m t : ℕ) (above : CodeRow) (xs : List Item) (x : Item) (rest : CodeRow) → IsReachable code.rows m
    → MayMove code m t above xs x rest → ⊥) → Compact code
compact_where_none_may_move code none m t above under reached pair =
    each_alone (paths_to t above) (λ path. EachStays code.limits above path [] under) (paths-count t above ∙ pair.only.once)
    (λ path alone. each_stays code m t above path alone (λ xs x rest may. none m t above xs x rest reached may) [] under pair)
