-- The row of a proper window keeps the machine's rules for rows.
use Rattle.std.proofs.Common.{◌≡◌, ℕ, suc, ◌+◌, ◌≤◌, Bool, true, false, List, [], ◌∷◌, Option, Some, None, refl, sym, ◌∙◌, ap, subst, length, length-append, arith}
use Rattle.std.specs.Prelude.{◌||◌, nat_eq, ◌&&◌, if◌then◌else◌, cond}
use Rattle.std.specs.List.{AllByRecursion, count_by, filter_map, cons_option, IsDistinct}
use Rattle.pc_word.specs.declared.item.Item.{Item}
use Rattle.pc_word.specs.Items.{dest_of, is_memory, is_effect}
use Rattle.pc_word.specs.Commit.{writes}
use Rattle.pc_word.proofs.Lists.{all_imply, all_both, map_of_all, count_more, count_both}
use Rattle.pc_linear.specs.Form.{Form}
use Rattle.pc_window.specs.Tree.{Tree, Front, Issued, Split, Unfinished, whole}
use Rattle.pc_window.specs.Names.{IsNew, and_dest, Scoped, uses}
use Rattle.pc_window.specs.Conflict.{MayFollow}
use Rattle.pc_window.specs.WindowRun.{Window}
use Rattle.pc_window.specs.Filled.{AllItems, Independent, item_count, memory_count, test_count, IsWindow}
use Rattle.pc_word.specs.Row.{Row, items_of, tests_of, paths_of}
use Rattle.pc_window.specs.Kept.{Left}
use Rattle.pc_window.specs.Steps.{left_of, left_at_root, front_row, cut_row}
use Rattle.pc_window.specs.Laws.{IsLegal, RowsAreLegal}
use Rattle.pc_word.proofs.Truth.{or_false}

-- ---- the row is legal

row_items : (left : Tree → Left) (front : Front) → length (items_of (front_row left front)) ≡ item_count front
row_items left (Issued t o x rest) = ap suc (row_items left rest)
row_items left (Split t o on p q) = length-append (items_of (front_row left p)) (items_of (front_row left q)) ∙ (let a = row_items left p in let b = row_items left q in omega arith)
row_items left (Unfinished rest) = refl

row_tests : (left : Tree → Left) (front : Front) → length (tests_of (front_row left front)) ≡ test_count front
row_tests left (Issued t o x rest) = row_tests left rest
row_tests left (Split t o on p q) = ap suc (length-append (tests_of (front_row left p)) (tests_of (front_row left q)) ∙ (let a = row_tests left p in let b = row_tests left q in omega arith))
row_tests left (Unfinished rest) = refl

row_memory : (left : Tree → Left) (front : Front) → count_by is_memory (items_of (front_row left front)) ≡ memory_count front
row_memory left (Issued t o x rest) = count_more is_memory x (items_of (front_row left rest)) ∙ ap (λ (k : ℕ). (if is_memory x then 1 else 0) + k) (row_memory left rest)
row_memory left (Split t o on p q) = count_both is_memory (items_of (front_row left p)) (items_of (front_row left q)) ∙ (let a = row_memory left p in let b = row_memory left q in omega arith)
row_memory left (Unfinished rest) = refl

-- what holds of every path of a front
abbrev pub AllPaths : (List Item → Type 0) → (Tree → Left) → Front → Type 0
AllPaths P left front = AllByRecursion P (paths_of (front_row left front))

pair : (P Q R : List Item → Type 0) → ((p : List Item) → P p → Q p → R p) → (ps : List (List Item)) → AllByRecursion P ps → AllByRecursion Q ps → AllByRecursion R ps
pair P Q R f [] p q = tt
pair P Q R f (x ∷ xs) p q = (f x p.0 q.0, pair P Q R f xs p.1 q.1)

-- each item of each path
paths_items : (P : Item → Type 0) (left : Tree → Left) (front : Front) → AllItems P front → AllPaths (AllByRecursion P) left front
paths_items P left (Issued t o x rest) h =
    map_of_all (AllByRecursion P) (λ path. x ∷ path) (paths_of (front_row left rest))
    (all_imply (AllByRecursion P) (λ path. AllByRecursion P (x ∷ path)) (paths_of (front_row left rest)) (λ path k. (h.0, k)) (paths_items P left rest h.1))
paths_items P left (Split t o on p q) h = all_both (AllByRecursion P) (paths_of (front_row left p)) (paths_of (front_row left q)) (paths_items P left p h.0) (paths_items P left q h.1)
paths_items P left (Unfinished rest) h = (tt, tt)

-- a path that writes new names, each once
pub record Writes_new (known : ℕ → Bool) (path : List Item) : Type 0 where
  pub new : AllByRecursion (λ d. known d ≡ false) (filter_map dest_of path)
  pub once : IsDistinct nat_eq (filter_map dest_of path)

writes_one_more : (known : ℕ → Bool) (dest : Option ℕ) (dests : List ℕ) → IsNew known dest
    → AllByRecursion (λ d. (writes dest d || known d) ≡ false) dests → IsDistinct nat_eq dests
    → AllByRecursion (λ d. known d ≡ false) (cons_option dest dests) × IsDistinct nat_eq (cons_option dest dests)
unfolding IsDistinct
writes_one_more known None dests new all once = (all, once)
writes_one_more known (Some e) dests new all once = (
  (new, all_imply (λ d. (nat_eq e d || known d) ≡ false) (λ d. known d ≡ false) dests (λ d h. (or_false (nat_eq e d) (known d) h).1) all),
  (all_imply (λ d. (nat_eq e d || known d) ≡ false) (λ d. nat_eq e d ≡ false) dests (λ d h. (or_false (nat_eq e d) (known d) h).0) all, once),
)

paths_write_once : (left : Tree → Left) (front : Front) (known : ℕ → Bool) → Scoped known (whole front) → AllPaths (Writes_new known) left front
unfolding IsDistinct
paths_write_once left (Issued t o x rest) known h =
    map_of_all (Writes_new known) (λ path. x ∷ path) (paths_of (front_row left rest))
    (all_imply (Writes_new (and_dest known x)) (λ path. Writes_new known (x ∷ path)) (paths_of (front_row left rest))
    (λ path k. (let m = writes_one_more known (dest_of x) (filter_map dest_of path) h.1 k.new k.once in record { new = m.0; once = m.1 }))
    (paths_write_once left rest (and_dest known x) h.2))
paths_write_once left (Split t o on p q) known h =
    all_both (Writes_new known) (paths_of (front_row left p)) (paths_of (front_row left q)) (paths_write_once left p known h.1) (paths_write_once left q known h.2)
paths_write_once left (Unfinished rest) known h = (record { new = tt; once = tt }, tt)

-- an effect that others may follow is alone
no_effect : (forms : ℕ → Form) (x : Item) (path : List Item) → AllByRecursion (MayFollow forms x) path → is_effect x ≡ true → count_by is_effect path ≡ 0
no_effect forms x [] h is = refl
no_effect forms x (y ∷ path) h is =
    let k = no_effect forms x path h.1 is in
    let none : is_effect y ≡ false = only (is_effect x) (is_effect y) h.0.one_effect is in
    count_more is_effect y path ∙ ap (λ (b : Bool). cond b 1 0 + count_by is_effect path) none ∙ (let z : 0 + count_by is_effect path ≡ count_by is_effect path = omega arith in z ∙ k)
  where
    only : (a b : Bool) → (a && b) ≡ false → a ≡ true → b ≡ false
    only true b e k = e
    only false b e k = absurd (cc)

paths_one_effect : (forms : ℕ → Form) (known : ℕ → Bool) (left : Tree → Left) (front : Front)
    → Independent forms known front → AllPaths (λ path. count_by is_effect path ≤ 1) left front
paths_one_effect forms known left (Issued t o x rest) h =
    map_of_all (λ path. count_by is_effect path ≤ 1) (λ path. x ∷ path) (paths_of (front_row left rest))
    (pair (AllByRecursion (MayFollow forms x)) (λ path. count_by is_effect path ≤ 1) (λ path. count_by is_effect (x ∷ path) ≤ 1)
    (λ path follow le. one_more path follow le) (paths_of (front_row left rest)) (paths_items (MayFollow forms x) left rest h.1) (paths_one_effect forms known left rest h.2))
  where
    one_more : (path : List Item) → AllByRecursion (MayFollow forms x) path → count_by is_effect path ≤ 1 → count_by is_effect (x ∷ path) ≤ 1
    one_more path follow le =
        let c = count_more is_effect x path in
        elim (is_effect x) as (λ b. is_effect x ≡ b → count_by is_effect (x ∷ path) ≡ cond b 1 0 + count_by is_effect path → count_by is_effect (x ∷ path) ≤ 1) [
          | true ↦ λ e d. (let z = no_effect forms x path follow e in omega arith)
          | false ↦ λ e d. omega arith
        ] refl c
paths_one_effect forms known left (Split t o on p q) h =
    all_both (λ path. count_by is_effect path ≤ 1) (paths_of (front_row left p)) (paths_of (front_row left q)) (paths_one_effect forms known left p h.1) (paths_one_effect forms known left q h.2)
paths_one_effect forms known left (Unfinished rest) h = (omega arith, tt)

front_legal : (w : Window) (left : Tree → Left) → IsWindow (uses (whole w.front)) w → IsLegal w (front_row left w.front)
front_legal w left is = record {
  items = (let a = row_items left w.front in let b = is.within.items in omega arith);
  tests = (let a = row_tests left w.front in let b = is.within.tests in omega arith);
  memory = (let a = row_memory left w.front in let b = is.within.memory in omega arith);
  once = all_imply (Writes_new (uses (whole w.front))) (λ path. IsDistinct nat_eq (filter_map dest_of path)) (paths_of (front_row left w.front)) (λ path k. k.once)
      (paths_write_once left w.front (uses (whole w.front)) is.scoped);
  one_effect = paths_one_effect w.forms (uses (whole w.front)) left w.front is.independent;
}

pub rows_are_legal : RowsAreLegal
rows_are_legal table w row is proper = subst (λ (r : Row Left). IsLegal w r) (sym is) (by_front w.front refl)
  where
    by_front : (front : Front) → w.front ≡ front → IsLegal w (cut_row table w front)
    by_front (Issued t o x rest) e = subst (λ (f : Front). IsLegal w (front_row (left_of table w) f)) e (front_legal w (left_of table w) proper.window)
    by_front (Split t o on p q) e = subst (λ (f : Front). IsLegal w (front_row (left_of table w) f)) e (front_legal w (left_of table w) proper.window)
    by_front (Unfinished tree) e = subst (λ (f : Front). IsLegal w (front_row (left_at_root table w) f)) e (front_legal w (left_at_root table w) proper.window)
