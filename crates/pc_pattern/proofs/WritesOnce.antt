-- Rows that write no name twice on a path.
use Rattle.std.proofs.Common.{◌≡◌, ℕ, List, [], ◌∷◌, ◌++◌, Option, Some, None, subst}
use Rattle.std.specs.Prelude.{Bool, false, ◌||◌, nat_eq}
use Rattle.std.specs.List.{AllByRecursion, IsDistinct, cons_option}
use Rattle.std.proofs.lemmas.List.Elements.{filter_map-append}
use Rattle.pc_word.specs.Commit.{writes}
use Rattle.pc_word.specs.Items.{dest_of}
use Rattle.pc_word.specs.Row.{Row, Then, Either, At_leaf, items_of}
use Rattle.pc_word.proofs.Lists.{all_front, all_back}
use Rattle.pc_word.proofs.Truth.{or_made_false}
use Rattle.pc_table.specs.Table.{Table}
use Rattle.pc_window.specs.Tree.{Tree, Front, Issued, Split, Unfinished, whole}
use Rattle.pc_window.specs.Names.{IsNew, and_dest, Scoped}
use Rattle.pc_window.specs.WindowRun.{Window}
use Rattle.pc_window.specs.Kept.{Left}
use Rattle.pc_window.specs.Steps.{left_of, front_row, cut_row}
use Rattle.pc_automaton.specs.declared.automaton.AutomatonLeaf.{AutomatonLeaf}
use Rattle.pc_automaton.specs.Automaton.{names_written}
use Rattle.pc_pattern.proofs.NamedRows.{WritesOnce}

-- a front writes each name once on a path, and so does its row
front_once : (left : Tree → Left) (front : Front) (known : ℕ → Bool) → Scoped known (whole front) → WritesOnce known (front_row left front)
front_once left (Issued tag origin item rest) known h = (h.1, front_once left rest (and_dest known item) h.2)
front_once left (Split tag origin on p q) known h = (front_once left p known h.1, front_once left q known h.2)
front_once left (Unfinished rest) known h = tt

pub cut_once : (table : Table) (w : Window) (front : Front) (known : ℕ → Bool) → Scoped known (whole front) → WritesOnce known (cut_row table w front)
cut_once table w (Issued tag origin item rest) known h = front_once (left_of table w) (Issued tag origin item rest) known h
cut_once table w (Split tag origin on p q) known h = front_once (left_of table w) (Split tag origin on p q) known h
cut_once table w (Unfinished rest) known h = tt

-- ---- lists without a number twice

distinct_front : (xs ys : List ℕ) → IsDistinct nat_eq (xs ++ ys) → IsDistinct nat_eq xs
unfolding IsDistinct
distinct_front [] ys h = tt
distinct_front (x ∷ xs) ys h = (all_front (λ y. nat_eq x y ≡ false) xs ys h.0, distinct_front xs ys h.1)

pub distinct_back : (xs ys : List ℕ) → IsDistinct nat_eq (xs ++ ys) → IsDistinct nat_eq ys
unfolding IsDistinct
distinct_back [] ys h = h
distinct_back (x ∷ xs) ys h = distinct_back xs ys h.1

first_new : (known : ℕ → Bool) (d : Option ℕ) (xs : List ℕ) → AllByRecursion (λ x. known x ≡ false) (cons_option d xs) → IsNew known d
first_new known (Some d) xs h = h.0
first_new known None xs h = tt

rest_new : (known : ℕ → Bool) (d : Option ℕ) (xs : List ℕ) → AllByRecursion (λ x. known x ≡ false) (cons_option d xs)
    → IsDistinct nat_eq (cons_option d xs)
    → AllByRecursion (λ x. (writes d x || known x) ≡ false) xs
unfolding IsDistinct
rest_new known (Some d) xs h k = both xs k.0 h.1
  where
    both : (xs : List ℕ) → AllByRecursion (λ x. nat_eq d x ≡ false) xs → AllByRecursion (λ x. known x ≡ false) xs
        → AllByRecursion (λ x. (nat_eq d x || known x) ≡ false) xs
    both [] p q = tt
    both (x ∷ xs) p q = (or_made_false (nat_eq d x) (known x) p.0 q.0, both xs p.1 q.1)
rest_new known None xs h k = h

rest_distinct : (d : Option ℕ) (xs : List ℕ) → IsDistinct nat_eq (cons_option d xs) → IsDistinct nat_eq xs
unfolding IsDistinct
rest_distinct (Some d) xs h = h.1
rest_distinct None xs h = h

-- where each place that writes a name has one of its own, no path writes one twice
pub each_once : (known : ℕ → Bool) (row : Row AutomatonLeaf) → AllByRecursion (λ x. known x ≡ false) (names_written row)
    → IsDistinct nat_eq (names_written row)
    → WritesOnce known row
each_once known (Then item rest) h k = (
  first_new known (dest_of item) (names_written rest) h,
  each_once (and_dest known item) rest (rest_new known (dest_of item) (names_written rest) h k) (rest_distinct (dest_of item) (names_written rest) k),
)
each_once known (Either on on_yes on_no) h k =
    let e = filter_map-append dest_of (items_of on_yes) (items_of on_no) in
    let new : AllByRecursion (λ x. known x ≡ false) (names_written on_yes ++ names_written on_no) = subst
    (λ (l : List ℕ). AllByRecursion (λ x. known x ≡ false) l) e h in
    let once : IsDistinct nat_eq (names_written on_yes ++ names_written on_no) = subst (λ (l : List ℕ). IsDistinct nat_eq l) e k in (
      each_once known on_yes (all_front (λ x. known x ≡ false) (names_written on_yes) (names_written on_no) new)
          (distinct_front (names_written on_yes) (names_written on_no) once),
      each_once known on_no (all_back (λ x. known x ≡ false) (names_written on_yes) (names_written on_no) new)
          (distinct_back (names_written on_yes) (names_written on_no) once),
    )
each_once known (At_leaf leaf) h k = tt
