-- A move keeps a code well formed.
use Rattle.std.proofs.Common.{◌≡◌, ℕ, zero, suc, ◌+◌, ◌≤◌, ◌<◌, Bool, true, false, cond, List, []}
use Rattle.std.proofs.Common.{◌∷◌, ◌++◌, length, Option, Some, None, refl, sym, ◌∙◌, ap, subst, length-append, arith}
use Rattle.std.specs.Prelude.{if◌then◌else◌, ◌&&◌, nat_eq, nat_le, slice_set}
use Rattle.std.specs.List.{AllByRecursion, count_by, filter_map, IsDistinct, cons_option}
use Rattle.std.proofs.lemmas.Bool.Decides.{nat_tests}
use Rattle.std.proofs.lemmas.List.Elements.{filter_map-append}
use Rattle.pc_word.specs.declared.item.Item.{Item}
use Rattle.pc_word.specs.declared.item.Operand.{Operand}
use Rattle.pc_machine.specs.declared.tree.Leaf.{Leaf}
use Rattle.pc_machine.specs.declared.tree.Leaf.TheVariants.{Goto, Stop, Trap}
use Rattle.pc_machine.specs.MachineCode.{CodeRow, RowCode, is_goto}
use Rattle.pc_word.specs.Row.{Then, Either, At_leaf, items_of, tests_of, leaves_of, paths_of}
use Rattle.pc_word.specs.Items.{dest_of, is_memory, is_effect}
use Rattle.pc_machine.specs.WellFormed.{IsOperand, IsItem, IsLeaf, IsPath, IsRow, WellFormed}
use Rattle.pc_word.proofs.Lists.{set_length, all_front, all_back, all_both, all_imply, all_of_map, map_of_all, all_at, count_more, count_both}
use Rattle.pc_tighten.specs.Compact.{reads_dest, writes_both, hangs_on, is_full, stays, paths_to}
use Rattle.pc_tighten.specs.Moves.{below, with_item, moved, MayMove}
use Rattle.pc_tighten.proofs.Lists.{or_left, or_right, and_false}
use Rattle.pc_tighten.proofs.Commits.{MayEnd}
use Rattle.pc_tighten.proofs.Rows.{OnDest, later_dests, below-leaves, below-items, some_path_to}
use Rattle.pc_tighten.proofs.Moves.{free, once_any}

-- ---- the row above

with_item-tests : (t : ℕ) (x : Item) (row : CodeRow) → tests_of (with_item t x row) ≡ tests_of row
with_item-tests t x (Then item rest) = with_item-tests t x rest
with_item-tests t x (Either on on_yes on_no) = ap (λ (l : List Operand). on ∷ (l ++ tests_of (with_item t x on_no))) (with_item-tests t x on_yes)
    ∙ ap (λ (l : List Operand). on ∷ (tests_of on_yes ++ l)) (with_item-tests t x on_no)
with_item-tests t x (At_leaf leaf) = elim (is_goto t leaf) as (λ b. tests_of (if b then Then x (At_leaf leaf) else At_leaf leaf) ≡ []) [ true ↦ refl | false ↦ refl ]

pub with_item-leaves : (t : ℕ) (x : Item) (row : CodeRow) → leaves_of (with_item t x row) ≡ leaves_of row
with_item-leaves t x (Then item rest) = with_item-leaves t x rest
with_item-leaves t x (Either on on_yes on_no) = ap (λ (l : List Leaf). l ++ leaves_of (with_item t x on_no)) (with_item-leaves t x on_yes)
    ∙ ap (λ (l : List Leaf). leaves_of on_yes ++ l) (with_item-leaves t x on_no)
with_item-leaves t x (At_leaf leaf) = elim (is_goto t leaf) as (λ b. leaves_of (if b then Then x (At_leaf leaf) else At_leaf leaf) ≡ leaf ∷ []) [ true ↦ refl | false ↦ refl ]

-- as many items more as leaves lead to t
pub with_item-length : (t : ℕ) (x : Item) (row : CodeRow) → length (items_of (with_item t x row)) ≡ length (items_of row) + count_by (is_goto t) (leaves_of row)
with_item-length t x (Then item rest) = let h = with_item-length t x rest in omega arith
with_item-length t x (Either on on_yes on_no) =
    let a = with_item-length t x on_yes in
    let b = with_item-length t x on_no in
    let c = count_both (is_goto t) (leaves_of on_yes) (leaves_of on_no) in
    omega (arith, a, b, c, length-append (items_of (with_item t x on_yes)) (items_of (with_item t x on_no)), length-append (items_of on_yes) (items_of on_no))
with_item-length t x (At_leaf leaf) =
    count_one (is_goto t leaf) (count_more (is_goto t) leaf [])
  where
    count_one : (b : Bool) → count_by (is_goto t) (leaf ∷ []) ≡ cond b 1 0 + count_by (is_goto t) []
        → length (items_of (if b then Then x (At_leaf leaf) else At_leaf leaf)) ≡ 0 + count_by (is_goto t) (leaf ∷ [])
    count_one true e = omega arith
    count_one false e = omega arith

with_item-memory : (t : ℕ) (x : Item) (row : CodeRow) → is_memory x ≡ true
    → count_by is_memory (items_of (with_item t x row)) ≡ count_by is_memory (items_of row) + count_by (is_goto t) (leaves_of row)
with_item-memory t x (Then item rest) is =
    let h = with_item-memory t x rest is in
    let a = count_more is_memory item (items_of (with_item t x rest)) in
    let b = count_more is_memory item (items_of rest) in
    omega arith
with_item-memory t x (Either on on_yes on_no) is =
    let a = with_item-memory t x on_yes is in
    let b = with_item-memory t x on_no is in
    let c = count_both (is_goto t) (leaves_of on_yes) (leaves_of on_no) in
    let d = count_both is_memory (items_of (with_item t x on_yes)) (items_of (with_item t x on_no)) in
    let e = count_both is_memory (items_of on_yes) (items_of on_no) in
    omega arith
with_item-memory t x (At_leaf leaf) is = count_one (is_goto t leaf) (count_more (is_goto t) leaf []) (count_more is_memory x []) (ap (λ (b : Bool). cond {A = ℕ} b 1 0) is)
  where
    count_one : (b : Bool) → count_by (is_goto t) (leaf ∷ []) ≡ cond b 1 0 + count_by (is_goto t) []
        → count_by is_memory (x ∷ []) ≡ cond (is_memory x) 1 0 + count_by is_memory [] → ◌≡◌ {A = ℕ} (cond (is_memory x) 1 0) 1
        → count_by is_memory (items_of (if b then Then x (At_leaf leaf) else At_leaf leaf)) ≡ 0 + count_by (is_goto t) (leaf ∷ [])
    count_one true e f g = omega arith
    count_one false e f g = omega arith

with_item-no_memory : (t : ℕ) (x : Item) (row : CodeRow) → is_memory x ≡ false → count_by is_memory (items_of (with_item t x row)) ≡ count_by is_memory (items_of row)
with_item-no_memory t x (Then item rest) is =
    let h = with_item-no_memory t x rest is in
    let a = count_more is_memory item (items_of (with_item t x rest)) in
    let b = count_more is_memory item (items_of rest) in
    omega arith
with_item-no_memory t x (Either on on_yes on_no) is =
    let a = with_item-no_memory t x on_yes is in
    let b = with_item-no_memory t x on_no is in
    let d = count_both is_memory (items_of (with_item t x on_yes)) (items_of (with_item t x on_no)) in
    let e = count_both is_memory (items_of on_yes) (items_of on_no) in
    omega arith
with_item-no_memory t x (At_leaf leaf) is = count_one (is_goto t leaf) (count_more is_memory x []) (ap (λ (b : Bool). cond {A = ℕ} b 1 0) is)
  where
    count_one : (b : Bool) → count_by is_memory (x ∷ []) ≡ cond (is_memory x) 1 0 + count_by is_memory [] → ◌≡◌ {A = ℕ} (cond (is_memory x) 1 0) 0
        → count_by is_memory (items_of (if b then Then x (At_leaf leaf) else At_leaf leaf)) ≡ count_by is_memory []
    count_one true f g = omega arith
    count_one false f g = refl

with_item-all : (t : ℕ) (x : Item) (row : CodeRow) (P : Item → Type 0) → P x → AllByRecursion P (items_of row) → AllByRecursion P (items_of (with_item t x row))
with_item-all t x (Then item rest) P px h = (h.0, with_item-all t x rest P px h.1)
with_item-all t x (Either on on_yes on_no) P px h =
    all_both P (items_of (with_item t x on_yes)) (items_of (with_item t x on_no))
    (with_item-all t x on_yes P px (all_front P (items_of on_yes) (items_of on_no) h))
    (with_item-all t x on_no P px (all_back P (items_of on_yes) (items_of on_no) h))
with_item-all t x (At_leaf leaf) P px h =
    elim (is_goto t leaf) as (λ b. AllByRecursion P (items_of (if b then Then x (At_leaf leaf) else At_leaf leaf))) [ true ↦ (px, tt) | false ↦ tt ]

-- each path is one of before, or one to t with x at its end
with_item-paths : (t : ℕ) (x : Item) (row : CodeRow) (P : List Item → Type 0) → AllByRecursion P (paths_of row) → AllByRecursion (λ path. P (path ++ (x ∷ []))) (paths_to t row)
    → AllByRecursion P (paths_of (with_item t x row))
with_item-paths t x (Then item rest) P h k =
    map_of_all P (λ path. item ∷ path) (paths_of (with_item t x rest))
    (with_item-paths t x rest (λ path. P (item ∷ path)) (all_of_map P (λ path. item ∷ path) (paths_of rest) h) (all_of_map (λ path. P (path ++ (x ∷ [])))
    (λ path. item ∷ path) (paths_to t rest) k))
with_item-paths t x (Either on on_yes on_no) P h k =
    let Q = λ (path : List Item). P (path ++ (x ∷ [])) in
    all_both P (paths_of (with_item t x on_yes)) (paths_of (with_item t x on_no))
    (with_item-paths t x on_yes P (all_front P (paths_of on_yes) (paths_of on_no) h) (all_front Q (paths_to t on_yes) (paths_to t on_no) k))
    (with_item-paths t x on_no P (all_back P (paths_of on_yes) (paths_of on_no) h) (all_back Q (paths_to t on_yes) (paths_to t on_no) k))
with_item-paths t x (At_leaf (Goto row)) P h k =
    (elim (nat_eq row t) as (λ b. AllByRecursion (λ path. P (path ++ (x ∷ []))) (if b then [] ∷ [] else [])
    → AllByRecursion P (paths_of (if b then Then x (At_leaf (Goto row)) else At_leaf (Goto row)))) [ true ↦ λ p. (p.0, tt) | false ↦ λ p. h ]) k
with_item-paths t x (At_leaf Stop) P h k = h
with_item-paths t x (At_leaf (Trap kind line)) P h k = h

paths_among : (t : ℕ) (row : CodeRow) (P : List Item → Type 0) → AllByRecursion P (paths_of row) → AllByRecursion P (paths_to t row)
paths_among t (Then item rest) P h = map_of_all P (λ path. item ∷ path) (paths_to t rest) (paths_among t rest (λ path. P (item ∷ path)) (all_of_map P (λ path. item ∷ path) (paths_of rest) h))
paths_among t (Either on on_yes on_no) P h =
    all_both P (paths_to t on_yes) (paths_to t on_no) (paths_among t on_yes P (all_front P (paths_of on_yes) (paths_of on_no) h)) (paths_among t on_no P (all_back P (paths_of on_yes)
    (paths_of on_no) h))
paths_among t (At_leaf (Goto row)) P h = elim (nat_eq row t) as (λ b. AllByRecursion P (if b then [] ∷ [] else [])) [ true ↦ h | false ↦ tt ]
paths_among t (At_leaf Stop) P h = tt
paths_among t (At_leaf (Trap kind line)) P h = tt

all_two : {X : Type 0} (P Q : X → Type 0) (xs : List X) → AllByRecursion P xs → AllByRecursion Q xs → AllByRecursion (λ x. P x × Q x) xs
all_two P Q [] h k = tt
all_two P Q (x ∷ xs) h k = ((h.0, k.0), all_two P Q xs h.1 k.1)

-- ---- registers that are written once

once_more : (path : List Item) (x : Item) → IsDistinct nat_eq (filter_map dest_of path) → AllByRecursion (λ y. writes_both (dest_of y) (dest_of x) ≡ false) path
    → IsDistinct nat_eq (filter_map dest_of (path ++ (x ∷ [])))
unfolding IsDistinct
once_more [] x h k = put (dest_of x)
  where
    put : (e : Option ℕ) → IsDistinct nat_eq (cons_option e [])
    put None = tt
    put (Some e) = (tt, tt)
once_more (y ∷ path) x h k = put (dest_of y) h k.0 (λ d. once_more path x d k.1)
  where
    last : (P : ℕ → Type 0) (e : Option ℕ) → OnDest P e → AllByRecursion P (cons_option e [])
    last P None d = tt
    last P (Some e) d = (d, tt)

    apart : (d : ℕ) (e : Option ℕ) → writes_both (Some d) e ≡ false → OnDest (λ r. nat_eq d r ≡ false) e
    apart d None a = tt
    apart d (Some e) a = a

    put : (d : Option ℕ) → IsDistinct nat_eq (cons_option d (filter_map dest_of path)) → writes_both d (dest_of x) ≡ false
        → (IsDistinct nat_eq (filter_map dest_of path) → IsDistinct nat_eq (filter_map dest_of (path ++ (x ∷ []))))
        → IsDistinct nat_eq (cons_option d (filter_map dest_of (path ++ (x ∷ []))))
    put None once a next = next once
    put (Some d) once a next =
        let P = λ (r : ℕ). nat_eq d r ≡ false in (
          subst (λ (l : List ℕ). AllByRecursion P l) (sym (filter_map-append dest_of path (x ∷ [])))
              (all_both P (filter_map dest_of path) (filter_map dest_of (x ∷ [])) once.0 (last P (dest_of x) (apart d (dest_of x) a))),
          next once.1,
        )

once_less : (xs : List Item) (x : Item) (ys : List Item) → IsDistinct nat_eq (filter_map dest_of (xs ++ (x ∷ ys))) → IsDistinct nat_eq (filter_map dest_of (xs ++ ys))
unfolding IsDistinct
once_less [] x ys h = later_dests x ys h
once_less (y ∷ xs) x ys h = put (dest_of y) h (λ d. once_less xs x ys d)
  where
    behind : (P : ℕ → Type 0) (e : Option ℕ) → AllByRecursion P (cons_option e (filter_map dest_of ys)) → AllByRecursion P (filter_map dest_of ys)
    behind P None d = d
    behind P (Some e) d = d.1

    put : (d : Option ℕ) → IsDistinct nat_eq (cons_option d (filter_map dest_of (xs ++ (x ∷ ys))))
        → (IsDistinct nat_eq (filter_map dest_of (xs ++ (x ∷ ys))) → IsDistinct nat_eq (filter_map dest_of (xs ++ ys)))
        → IsDistinct nat_eq (cons_option d (filter_map dest_of (xs ++ ys)))
    put None once next = next once
    put (Some d) once next =
        let P = λ (r : ℕ). nat_eq d r ≡ false in
        let all = subst (λ (l : List ℕ). AllByRecursion P l) (filter_map-append dest_of xs (x ∷ ys)) once.0 in (
          subst (λ (l : List ℕ). AllByRecursion P l) (sym (filter_map-append dest_of xs ys))
              (all_both P (filter_map dest_of xs) (filter_map dest_of ys) (all_front P (filter_map dest_of xs) (filter_map dest_of (x ∷ ys)) all) (behind P (dest_of x) (all_back P
              (filter_map dest_of xs) (filter_map dest_of (x ∷ ys)) all))),
          next once.1,
        )

no_count : (p : Item → Bool) (items : List Item) → AllByRecursion (λ y. p y ≡ false) items → count_by p items ≡ 0
no_count p [] h = refl
no_count p (y ∷ items) h =
    let a = count_more p y items in
    let none : ◌≡◌ {A = ℕ} (cond (p y) 1 0) 0 = ap (λ (c : Bool). cond {A = ℕ} c 1 0) h.0 in
    let rest = no_count p items h.1 in
    omega arith

path_more : (path : List Item) (x : Item) → IsPath path → MayEnd path x → IsPath (path ++ (x ∷ []))
path_more path x is may = record {
  writes_once = once_more path x is.writes_once (all_imply (λ y. hangs_on x y ≡ false) (λ y. writes_both (dest_of y) (dest_of x) ≡ false) path
      (λ y e. or_right (reads_dest x (dest_of y)) (writes_both (dest_of y) (dest_of x)) e) may.hangs);
  one_effect = effects_more (is_effect x) refl;
}
  where
    effects_more : (b : Bool) → is_effect x ≡ b → count_by is_effect (path ++ (x ∷ [])) ≤ 1
    effects_more true e =
        let none = no_count is_effect path (may.effects e) in
        let a = count_both is_effect path (x ∷ []) in
        let b = count_more is_effect x [] in
        let one : ◌≡◌ {A = ℕ} (cond (is_effect x) 1 0) 1 = ap (λ (c : Bool). cond {A = ℕ} c 1 0) e in
        let nil : count_by is_effect [] ≡ 0 = refl in
        omega arith
    effects_more false e =
        let a = count_both is_effect path (x ∷ []) in
        let b = count_more is_effect x [] in
        let one : ◌≡◌ {A = ℕ} (cond (is_effect x) 1 0) 0 = ap (λ (c : Bool). cond {A = ℕ} c 1 0) e in
        let nil : count_by is_effect [] ≡ 0 = refl in
        let d = is.one_effect in
        omega arith

path_less : (xs : List Item) (x : Item) (ys : List Item) → IsPath (xs ++ (x ∷ ys)) → IsPath (xs ++ ys)
path_less xs x ys is = record {
  writes_once = once_less xs x ys is.writes_once;
  one_effect = (
      let a = count_both is_effect xs (x ∷ ys) in
      let b = count_more is_effect x ys in
      let c = count_both is_effect xs ys in
      let d = is.one_effect in
      omega arith);
}

-- ---- the rows

pub set_all : {X : Type 0} (P : X → Type 0) (i : ℕ) (x : X) (xs : List X) → P x → AllByRecursion P xs → AllByRecursion P (slice_set xs i x)
set_all P i x [] p h = tt
set_all P zero x (y ∷ xs) p h = (p, h.1)
set_all P (suc i) x (y ∷ xs) p h = (h.0, set_all P i x xs p h.1)

pub below-tests : (xs : List Item) (row : CodeRow) → tests_of (below xs row) ≡ tests_of row
below-tests [] row = refl
below-tests (x ∷ xs) row = below-tests xs row

below-paths : (xs : List Item) (row : CodeRow) (P : List Item → Type 0) → AllByRecursion P (paths_of (below xs row)) → AllByRecursion (λ path. P (xs ++ path)) (paths_of row)
below-paths [] row P h = h
below-paths (x ∷ xs) row P h = below-paths xs row (λ path. P (x ∷ path)) (all_of_map P (λ path. x ∷ path) (paths_of (below xs row)) h)

paths-below : (xs : List Item) (row : CodeRow) (P : List Item → Type 0) → AllByRecursion (λ path. P (xs ++ path)) (paths_of row) → AllByRecursion P (paths_of (below xs row))
paths-below [] row P h = h
paths-below (x ∷ xs) row P h = map_of_all P (λ path. x ∷ path) (paths_of (below xs row)) (paths-below xs row (λ path. P (x ∷ path)) h)

module _ (code : RowCode) (well : WellFormed code) (m t : ℕ) (above : CodeRow) (xs : List Item) (x : Item) (rest : CodeRow) (may : MayMove code m t above xs x rest) where
  was_above : IsRow code.limits code.registers (length code.arrays) (length code.rows) above
  was_above = all_at (IsRow code.limits code.registers (length code.arrays) (length code.rows)) code.rows m above well.rows may.pair.at_m

  was_under : IsRow code.limits code.registers (length code.arrays) (length code.rows) (below xs (Then x rest))
  was_under = all_at (IsRow code.limits code.registers (length code.arrays) (length code.rows)) code.rows t (below xs (Then x rest)) well.rows may.pair.at_t

  three_items : AllByRecursion (IsItem code.registers (length code.arrays)) (xs ++ (x ∷ items_of rest))
  three_items = subst (λ (l : List Item). AllByRecursion (IsItem code.registers (length code.arrays)) l) (below-items xs (Then x rest)) was_under.items

  -- m is not full
  not_full : is_full code.limits above x ≡ false
  not_full =
      let some = some_path_to t above (λ path. stays code.limits above path x (xs ++ items_of rest) (tests_of rest) ≡ false) may.free (once_any (is_goto t) (leaves_of above) may.pair.only.once) in
      or_left (is_full code.limits above x) _ some.1

  memory_fits : count_by is_memory (items_of (with_item t x above)) ≤ code.limits.mem
  memory_fits = fits (is_memory x) refl
    where
      fits : (b : Bool) → is_memory x ≡ b → count_by is_memory (items_of (with_item t x above)) ≤ code.limits.mem
      fits true e =
          let full = and_false (is_memory x) (nat_le code.limits.mem (count_by is_memory (items_of above))) (or_right (nat_le code.limits.ops (length (items_of above)))
          (is_memory x && nat_le code.limits.mem (count_by is_memory (items_of above))) not_full) e in
          let less : count_by is_memory (items_of above) < code.limits.mem = grind (arith, nat_tests) in
          let more = with_item-memory t x above e in
          let once = may.pair.only.once in
          omega arith
      fits false e = let same = with_item-no_memory t x above e in let was = was_above.mem in omega arith

  is_above : IsRow code.limits code.registers (length code.arrays) (length code.rows) (with_item t x above)
  is_above = record {
    ops = (
        let full = or_left (nat_le code.limits.ops (length (items_of above))) (is_memory x && nat_le code.limits.mem (count_by is_memory (items_of above))) not_full in
        let less : length (items_of above) < code.limits.ops = grind (arith, nat_tests) in
        let more = with_item-length t x above in
        let once = may.pair.only.once in
        omega arith);
    tests = subst (λ (l : List Operand). length l ≤ code.limits.tests) (sym (with_item-tests t x above)) was_above.tests;
    mem = memory_fits;
    items = with_item-all t x above (IsItem code.registers (length code.arrays)) (all_back (IsItem code.registers (length code.arrays)) xs (x ∷ items_of rest) three_items).0 was_above.items;
    operands = subst (λ (l : List Operand). AllByRecursion (IsOperand code.registers) l) (sym (with_item-tests t x above)) was_above.operands;
    leaves = subst (λ (l : List Leaf). AllByRecursion (IsLeaf (length code.rows)) l) (sym (with_item-leaves t x above)) was_above.leaves;
    paths = with_item-paths t x above IsPath was_above.paths
        (all_imply (λ path. IsPath path × (stays code.limits above path x (xs ++ items_of rest) (tests_of rest) ≡ false)) (λ path. IsPath (path ++ (x ∷ []))) (paths_to t above)
        (λ path h. path_more path x h.0 (free code above path x (xs ++ items_of rest) (tests_of rest) h.1).ends)
        (all_two IsPath (λ path. stays code.limits above path x (xs ++ items_of rest) (tests_of rest) ≡ false) (paths_to t above) (paths_among t above IsPath was_above.paths) may.free));
  }

  is_under : IsRow code.limits code.registers (length code.arrays) (length code.rows) (below xs rest)
  is_under =
      let P = IsItem code.registers (length code.arrays) in
      record {
        ops = (
            let was = was_under.ops in
            let a = ap length (below-items xs (Then x rest)) ∙ length-append xs (x ∷ items_of rest) in
            let b = ap length (below-items xs rest) ∙ length-append xs (items_of rest) in
            omega arith);
        tests = subst (λ (l : List Operand). length l ≤ code.limits.tests) (below-tests xs (Then x rest) ∙ sym (below-tests xs rest)) was_under.tests;
        mem = (
            let was = was_under.mem in
            let a = ap (count_by is_memory) (below-items xs (Then x rest)) ∙ count_both is_memory xs (x ∷ items_of rest) in
            let b = ap (count_by is_memory) (below-items xs rest) ∙ count_both is_memory xs (items_of rest) in
            let c = count_more is_memory x (items_of rest) in
            omega arith);
        items = subst (λ (l : List Item). AllByRecursion P l) (sym (below-items xs rest))
            (all_both P xs (items_of rest) (all_front P xs (x ∷ items_of rest) three_items) (all_back P xs (x ∷ items_of rest) three_items).1);
        operands = subst (λ (l : List Operand). AllByRecursion (IsOperand code.registers) l) (below-tests xs (Then x rest) ∙ sym (below-tests xs rest)) was_under.operands;
        leaves = subst (λ (l : List Leaf). AllByRecursion (IsLeaf (length code.rows)) l) (below-leaves xs (Then x rest) ∙ sym (below-leaves xs rest)) was_under.leaves;
        paths = paths-below xs rest IsPath (all_imply (λ path. IsPath (xs ++ (x ∷ path))) (λ path. IsPath (xs ++ path)) (paths_of rest) (λ path h. path_less xs x path h)
            (all_of_map (λ path. IsPath (xs ++ path)) (λ path. x ∷ path) (paths_of rest) (below-paths xs (Then x rest) IsPath was_under.paths)));
      }

  same_count : length (moved code m t above xs x rest).rows ≡ length code.rows
  same_count = set_length (slice_set code.rows m (with_item t x above)) t (below xs rest) ∙ set_length code.rows m (with_item t x above)

  pub move_keeps_form : WellFormed (moved code m t above xs x rest)
  move_keeps_form = record {
    limits = well.limits;
    registers = well.registers;
    arrays = well.arrays;
    initial = well.initial;
    entry = subst (λ (n : ℕ). 1 ≤ n) (sym same_count) well.entry;
    rows = subst (λ (n : ℕ). AllByRecursion (IsRow code.limits code.registers (length code.arrays) n) (moved code m t above xs x rest).rows) (sym same_count)
        (set_all (IsRow code.limits code.registers (length code.arrays) (length code.rows)) t (below xs rest) (slice_set code.rows m (with_item t x above)) is_under
        (set_all (IsRow code.limits code.registers (length code.arrays) (length code.rows)) m (with_item t x above) code.rows is_above well.rows));
  }
