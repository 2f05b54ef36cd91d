-- Which row alone leads to a row.
use Rattle.std.proofs.Common.{◌≡◌, ◌≢◌, ℕ, zero, suc, ◌+◌, ◌<◌, ◌⊎◌, inl, inr, Bool, true, false, cond}
use Rattle.std.proofs.Common.{List, [], ◌∷◌, ◌++◌, length, Option, Some, None, refl, sym, ◌∙◌, ap, subst, arith}
use Rattle.std.specs.Prelude.{if◌then◌else◌, ◌||◌, nat_eq, nat_lt, replicate, slice_get}
use Rattle.std.specs.List.{count_by, list_any}
use Rattle.std.specs.Option.{option_map}
use Rattle.std.proofs.lemmas.Bool.Decides.{nat_tests}
use Rattle.std.proofs.lemmas.List.{get_or-replicate, length-replicate}
use Rattle.std.proofs.lemmas.Option.{slice_get_within, slice_get-get_or}
use Rattle.pc_word.proofs.Lists.{count_more}
use Rattle.pc_word.proofs.Truth.{less_of}
use Rattle.pc_word.specs.Row.{leaves_of}
use Rattle.pc_machine.specs.declared.tree.Leaf.{Leaf}
use Rattle.pc_machine.specs.declared.tree.Leaf.TheVariants.{Goto, Stop, Trap}
use Rattle.pc_machine.specs.MachineCode.{CodeRow, is_goto}
use Rattle.pc_machine.specs.Reachable.{IsReachable, Behind}
use Rattle.pc_tighten.specs.declared.parents.Naming.{Naming}
use Rattle.pc_tighten.specs.declared.parents.Naming.TheVariants.{Never, Once, Often}
use Rattle.pc_tighten.specs.models.Listing.{Listed, AreListed, IsBehind}
use Rattle.pc_tighten.specs.models.Parents.{named_again, put_name, with_name, with_names, with_all_names, IsParent, HasParent, if_before, parent_by, parent_in}
use Rattle.pc_tighten.proofs.Lists.{nat_eq-refl, nat_eq-apart}
use Rattle.pc_tighten.proofs.Moves.{same_or_apart, once_any}
use Rattle.pc_tighten.proofs.Compacted.{any-counted}
use Rattle.pc_tighten.proofs.Reaches.{goto_of_any}
use Rattle.pc_word.proofs.Places.{set_there, set_elsewhere}

pub with_names_append : (from : ℕ) (xs ys : List Leaf) (table : List Naming) → with_names from (xs ++ ys) table ≡ with_names from ys (with_names from xs table)
with_names_append from [] ys table = refl
with_names_append from (leaf ∷ xs) ys table = with_names_append from xs ys (with_name from leaf table)

pub ruleset names = (with_names_append)

-- ---- one entry of the table

-- named by so many leaves of a row
abbrev counted : ℕ → ℕ → Naming → Naming
counted from zero n = n
counted from (suc zero) n = named_again from n
counted from (suc (suc count)) n = Often

counted_more : (from count : ℕ) (n : Naming) → counted from count (named_again from n) ≡ counted from (suc count) n
counted_more from zero n = refl
counted_more from (suc zero) Never = refl
counted_more from (suc zero) (Once row) = refl
counted_more from (suc zero) Often = refl
counted_more from (suc (suc count)) n = refl

module _ (from t : ℕ) where
  entry-with_name : (leaf : Leaf) (table : List Naming) → slice_get (with_name from leaf table) t ≡ option_map (λ n. if is_goto t leaf then named_again from n else n) (slice_get table t)
  entry-with_name Stop table = same (slice_get table t)
    where
      same : (e : Option Naming) → e ≡ option_map (λ n. n) e
      same None = refl
      same (Some n) = refl
  entry-with_name (Trap kind line) table = same (slice_get table t)
    where
      same : (e : Option Naming) → e ≡ option_map (λ n. n) e
      same None = refl
      same (Some n) = refl
  entry-with_name (Goto row) table = elim (same_or_apart row t) [
    | inl here ↦
        subst (λ (r : ℕ). slice_get (put_name from (slice_get table r) r table) t ≡ option_map (λ n. if nat_eq r t then named_again from n else n) (slice_get table t)) (sym here)
        (by_entry (slice_get table t) refl)
    | inr apart ↦
        elsewhere apart (slice_get table row)
        ∙ ap (λ (b : Bool). option_map (λ n. if b then named_again from n else n) (slice_get table t)) (sym (nat_eq-apart row t apart))
  ]
    where
      by_entry : (e : Option Naming) → slice_get table t ≡ e → slice_get (put_name from e t table) t ≡ option_map (λ n. if nat_eq t t then named_again from n else n) e
      by_entry None is = is
      by_entry (Some n) is =
          set_there table t (named_again from n) (slice_get_within table t n is)
          ∙ ap (λ (b : Bool). Some (if b then named_again from n else n)) (sym (nat_eq-refl t))

      same : (e : Option Naming) → e ≡ option_map (λ n. n) e
      same None = refl
      same (Some n) = refl

      elsewhere : row ≢ t → (e : Option Naming) → slice_get (put_name from e row table) t ≡ option_map (λ n. n) (slice_get table t)
      elsewhere apart None = same (slice_get table t)
      elsewhere apart (Some n) = set_elsewhere table row t (named_again from n) apart ∙ same (slice_get table t)

  entry-with_names : (leaves : List Leaf) (table : List Naming)
      → slice_get (with_names from leaves table) t ≡ option_map (counted from (count_by (is_goto t) leaves)) (slice_get table t)
  entry-with_names [] table = same (slice_get table t)
    where
      same : (e : Option Naming) → e ≡ option_map (λ n. n) e
      same None = refl
      same (Some n) = refl
  entry-with_names (leaf ∷ leaves) table =
      entry-with_names leaves (with_name from leaf table)
      ∙ ap (option_map (counted from (count_by (is_goto t) leaves))) (entry-with_name leaf table)
      ∙ by_test (is_goto t leaf) (slice_get table t) (count_more (is_goto t) leaf leaves)
    where
      by_test : (b : Bool) (e : Option Naming) → count_by (is_goto t) (leaf ∷ leaves) ≡ cond b 1 0 + count_by (is_goto t) leaves
          → option_map (counted from (count_by (is_goto t) leaves)) (option_map (λ n. if b then named_again from n else n) e)
          ≡ option_map (counted from (count_by (is_goto t) (leaf ∷ leaves))) e
      by_test b None h = refl
      by_test true (Some n) h =
          let one : suc (count_by (is_goto t) leaves) ≡ count_by (is_goto t) (leaf ∷ leaves) = omega arith in
          ap Some (counted_more from (count_by (is_goto t) leaves) n ∙ ap (λ (k : ℕ). counted from k n) one)
      by_test false (Some n) h =
          let none : count_by (is_goto t) leaves ≡ count_by (is_goto t) (leaf ∷ leaves) = omega arith in
          ap Some (ap (λ (k : ℕ). counted from k n) none)

-- ---- all rows

-- the entry of t once rows with these numbers on have named theirs
abbrev all_counted : ℕ → ℕ → List CodeRow → Naming → Naming
all_counted from t [] n = n
all_counted from t (row ∷ rows) n = all_counted (suc from) t rows (counted from (count_by (is_goto t) (leaves_of row)) n)

entry-with_all_names : (from t : ℕ) (rows : List CodeRow) (table : List Naming)
    → slice_get (with_all_names from rows table) t ≡ option_map (all_counted from t rows) (slice_get table t)
entry-with_all_names from t [] table = same (slice_get table t)
  where
    same : (e : Option Naming) → e ≡ option_map (λ n. n) e
    same None = refl
    same (Some n) = refl
entry-with_all_names from t (row ∷ rows) table =
    entry-with_all_names (suc from) t rows (with_names from (leaves_of row) table)
    ∙ ap (option_map (all_counted (suc from) t rows)) (entry-with_names from t (leaves_of row) table)
    ∙ joined (slice_get table t)
  where
    joined : (e : Option Naming) → option_map (all_counted (suc from) t rows) (option_map (counted from (count_by (is_goto t) (leaves_of row))) e)
        ≡ option_map (all_counted from t (row ∷ rows)) e
    joined None = refl
    joined (Some n) = refl

-- no leaf leads to t
abbrev NoneLeads : ℕ → List CodeRow → Type 0
NoneLeads t rows = (i : ℕ) (row : CodeRow) → slice_get rows i ≡ Some row → count_by (is_goto t) (leaves_of row) ≡ 0

-- one leaf leads to t, which is one of the row at this place
record OneLeads (t place : ℕ) (rows : List CodeRow) : Type 0 where
  row : CodeRow
  at : slice_get rows place ≡ Some row
  once : count_by (is_goto t) (leaves_of row) ≡ 1
  alone : (i : ℕ) (other : CodeRow) → slice_get rows i ≡ Some other → i ≢ place → count_by (is_goto t) (leaves_of other) ≡ 0

module _ (t : ℕ) where
  none_more : (row : CodeRow) (rows : List CodeRow) → count_by (is_goto t) (leaves_of row) ≡ 0 → NoneLeads t rows → NoneLeads t (row ∷ rows)
  none_more row rows e none zero other at = let same : row ≡ other = (cc) in subst (λ (r : CodeRow). count_by (is_goto t) (leaves_of r) ≡ 0) same e
  none_more row rows e none (suc i) other at = none i other at

  one_here : (row : CodeRow) (rows : List CodeRow) → count_by (is_goto t) (leaves_of row) ≡ 1 → NoneLeads t rows → OneLeads t 0 (row ∷ rows)
  one_here row rows e none = record { row = row; at = refl; once = e; alone = others }
    where
      others : (i : ℕ) (other : CodeRow) → slice_get (row ∷ rows) i ≡ Some other → i ≢ 0 → count_by (is_goto t) (leaves_of other) ≡ 0
      others zero other at apart = absurd (apart refl)
      others (suc i) other at apart = none i other at

  one_later : (row : CodeRow) (rows : List CodeRow) (place : ℕ) → count_by (is_goto t) (leaves_of row) ≡ 0 → OneLeads t place rows → OneLeads t (suc place) (row ∷ rows)
  one_later row rows place e one = record { row = one.row; at = one.at; once = one.once; alone = others }
    where
      others : (i : ℕ) (other : CodeRow) → slice_get (row ∷ rows) i ≡ Some other → i ≢ suc place → count_by (is_goto t) (leaves_of other) ≡ 0
      others zero other at apart = let same : row ≡ other = (cc) in subst (λ (r : CodeRow). count_by (is_goto t) (leaves_of r) ≡ 0) same e
      others (suc i) other at apart = one.alone i other at (λ e. apart (ap suc e))

  -- what a name tells
  told : (from m : ℕ) (rows : List CodeRow) (n : Naming) → all_counted from t rows n ≡ Once m
      → ((n ≡ Once m) × NoneLeads t rows) ⊎ ((n ≡ Never) × ((place : ℕ) × (m ≡ from + place) × OneLeads t place rows))
  told from m [] n e = inl (e, (λ i row at. absurd (cc)))
  told from m (row ∷ rows) n e = by_count (count_by (is_goto t) (leaves_of row)) n refl (told (suc from) m rows (counted from (count_by (is_goto t) (leaves_of row)) n) e)
    where
      by_count : (c : ℕ) (n : Naming) → count_by (is_goto t) (leaves_of row) ≡ c
          → ((counted from c n ≡ Once m) × NoneLeads t rows) ⊎ ((counted from c n ≡ Never) × ((place : ℕ) × (m ≡ suc from + place) × OneLeads t place rows))
          → ((n ≡ Once m) × NoneLeads t (row ∷ rows)) ⊎ ((n ≡ Never) × ((place : ℕ) × (m ≡ from + place) × OneLeads t place (row ∷ rows)))
      by_count zero n is (inl h) = inl (h.0, none_more row rows is h.1)
      by_count zero n is (inr h) = inr (h.0, (suc h.1.0, (let a = h.1.1 in omega arith), one_later row rows h.1.0 is h.1.2))
      by_count (suc zero) Never is (inl h) =
          let first = h.0 in
          let same : from ≡ m = (cc) in
          inr (refl, (zero, omega arith, one_here row rows is h.1))
      by_count (suc zero) Never is (inr h) = let first = h.0 in absurd (cc)
      by_count (suc zero) (Once k) is (inl h) = let first = h.0 in absurd (cc)
      by_count (suc zero) (Once k) is (inr h) = let first = h.0 in absurd (cc)
      by_count (suc zero) Often is (inl h) = let first = h.0 in absurd (cc)
      by_count (suc zero) Often is (inr h) = let first = h.0 in absurd (cc)
      by_count (suc (suc c)) n is (inl h) = let first = h.0 in absurd (cc)
      by_count (suc (suc c)) n is (inr h) = let first = h.0 in absurd (cc)

  none_told : (from : ℕ) (rows : List CodeRow) (n : Naming) → NoneLeads t rows → all_counted from t rows n ≡ n
  none_told from [] n none = refl
  none_told from (row ∷ rows) n none =
      ap (λ (c : ℕ). all_counted (suc from) t rows (counted from c n)) (none 0 row refl) ∙ none_told (suc from) rows n (λ i other at. none (suc i) other at)

  one_told : (from place : ℕ) (rows : List CodeRow) → OneLeads t place rows → all_counted from t rows Never ≡ Once (from + place)
  one_told from place [] one = let at = one.at in absurd (cc)
  one_told from zero (row ∷ rows) one =
      let at = one.at in
      let same : one.row ≡ row = (cc) in
      let here : count_by (is_goto t) (leaves_of row) ≡ 1 = subst (λ (r : CodeRow). count_by (is_goto t) (leaves_of r) ≡ 1) same one.once in
      let is : from ≡ from + 0 = omega arith in
      ap (λ (c : ℕ). all_counted (suc from) t rows (counted from c Never)) here
      ∙ none_told (suc from) rows (Once from) (λ i other found. one.alone (suc i) other found (λ e. absurd (cc)))
      ∙ ap (λ (k : ℕ). Once k) is
  one_told from (suc place) (row ∷ rows) one =
      let is : suc from + place ≡ from + suc place = omega arith in
      ap (λ (c : ℕ). all_counted (suc from) t rows (counted from c Never)) (one.alone 0 row refl (λ e. absurd (cc)))
      ∙ one_told (suc from) place rows (record { row = one.row; at = one.at; once = one.once; alone = λ i other found apart. one.alone (suc i) other found (λ e. apart (cc)) })
      ∙ ap (λ (k : ℕ). Once k) is

other_number : (x y : ℕ) → nat_eq x y ≡ false → x ≢ y
other_number x y e = grind (arith, nat_tests)

no_count : (p : Leaf → Bool) (leaves : List Leaf) → list_any p leaves ≡ false → count_by p leaves ≡ 0
no_count p [] e = refl
no_count p (leaf ∷ leaves) e = by_test (p leaf) (count_more p leaf leaves) e (λ h. no_count p leaves h)
  where
    by_test : (b : Bool) → count_by p (leaf ∷ leaves) ≡ cond b 1 0 + count_by p leaves → (b || list_any p leaves) ≡ false
        → (list_any p leaves ≡ false → count_by p leaves ≡ 0) → count_by p (leaf ∷ leaves) ≡ 0
    by_test true h e next = absurd (cc)
    by_test false h e next = let rest = next e in omega arith

module _ (rows : List CodeRow) (names : List Naming) (is : names ≡ with_all_names 0 rows (replicate (length rows) Never)) where
  never_first : (t : ℕ) → t < length rows → slice_get (replicate (length rows) Never) t ≡ Some Never
  never_first t low =
      let within : t < length (replicate (length rows) Never) = (let h = length-replicate (length rows) Never in omega arith) in
      slice_get-get_or (replicate (length rows) Never) t Never within ∙ ap Some (get_or-replicate (length rows) t Never Never low)

  name_is : (t : ℕ) → t < length rows → slice_get names t ≡ Some (all_counted 0 t rows Never)
  name_is t low =
      ap (λ (l : List Naming). slice_get l t) is ∙ entry-with_all_names 0 t rows (replicate (length rows) Never)
      ∙ ap (option_map (all_counted 0 t rows)) (never_first t low)

  named_within : (t : ℕ) (n : Naming) → slice_get names t ≡ Some n → t < length rows
  named_within t n at = by_entry (slice_get (replicate (length rows) Never) t) refl
      (sym (ap (λ (l : List Naming). slice_get l t) is ∙ entry-with_all_names 0 t rows (replicate (length rows) Never)) ∙ at)
    where
      by_entry : (e : Option Naming) → slice_get (replicate (length rows) Never) t ≡ e → option_map (all_counted 0 t rows) e ≡ Some n → t < length rows
      by_entry None found h = absurd (cc)
      by_entry (Some k) found h =
          let within = slice_get_within (replicate (length rows) Never) t k found in
          let size = length-replicate (length rows) Never in
          omega arith

  -- where a row has one name alone, that row alone leads to it
  pub once_is_parent : (m t : ℕ) → slice_get names t ≡ Some (Once m) → t ≢ 0 → t ≢ m → IsParent rows m t
  once_is_parent m t at first itself =
      let found = sym (name_is t (named_within t (Once m) at)) ∙ at in
      let e : all_counted 0 t rows Never ≡ Once m = (cc) in
      elim (told t 0 m rows Never e) [
        | inl h ↦ (let a = h.0 in absurd (cc))
        | inr h ↦ (
            let place = h.1.0 in
            let one = h.1.2 in
            let same : place ≡ m = (let a = h.1.1 in omega arith) in
            record {
              row = one.row;
              at = subst (λ (k : ℕ). slice_get rows k ≡ Some one.row) same one.at;
              once = one.once;
              alone = λ i other there apart. any-counted (is_goto t) (leaves_of other) (one.alone i other there (λ same_place. apart (same_place ∙ same)));
              not_entry = first;
              not_itself = itself;
            })
      ]

  -- and the other way round
  pub parent_is_once : (m t : ℕ) → t < length rows → IsParent rows m t → slice_get names t ≡ Some (Once m)
  parent_is_once m t low parent =
      name_is t low ∙ ap Some (one_told t 0 m rows (record {
        row = parent.row;
        at = parent.at;
        once = parent.once;
        alone = λ i other there apart. no_count (is_goto t) (leaves_of other) (parent.alone i other there apart);
      }) ∙ ap (λ (k : ℕ). Once k) (let e : 0 + m ≡ m = omega arith in e))

-- ---- the row above

module _ (rows : List CodeRow) (names : List Naming) (is : names ≡ with_all_names 0 rows (replicate (length rows) Never)) where
  pub parent_has : (places : List (Option ℕ)) (m t : ℕ) → parent_in names places t ≡ Some m → HasParent rows places m t
  parent_has places m t e = by_name (slice_get names t) refl e
    where
      by_places : (k : ℕ) (one other : Option (Option ℕ)) → slice_get names t ≡ Some (Once k) → slice_get places k ≡ one → slice_get places t ≡ other → t ≢ 0 → t ≢ k
          → if_before k one other ≡ Some m → HasParent rows places m t
      by_places k (Some (Some place)) (Some (Some after)) at at_k at_t first itself h = by_order (nat_lt place after) refl h
        where
          by_order : (b : Bool) → nat_lt place after ≡ b → (if b then Some k else None) ≡ Some m → HasParent rows places m t
          by_order true less e =
              let same : k ≡ m = (cc) in
              subst (λ (n : ℕ). HasParent rows places n t) same (record {
                parent = once_is_parent rows names is k t at first itself;
                place = place;
                other = after;
                at_m = at_k;
                at_t = at_t;
                before = less_of place after less;
              })
          by_order false less e = absurd (cc)
      by_places k (Some (Some place)) (Some None) at at_k at_t first itself h = absurd (cc)
      by_places k (Some (Some place)) None at at_k at_t first itself h = absurd (cc)
      by_places k (Some None) other at at_k at_t first itself h = absurd (cc)
      by_places k None other at at_k at_t first itself h = absurd (cc)

      by_itself : (k : ℕ) (b : Bool) → slice_get names t ≡ Some (Once k) → t ≢ 0 → nat_eq t k ≡ b
          → (if b then None else if_before k (slice_get places k) (slice_get places t)) ≡ Some m → HasParent rows places m t
      by_itself k true at first e h = absurd (cc)
      by_itself k false at first e h = by_places k (slice_get places k) (slice_get places t) at refl refl first (other_number t k e) h

      by_entry : (k : ℕ) (b : Bool) → slice_get names t ≡ Some (Once k) → nat_eq t 0 ≡ b
          → (if b then None else (if nat_eq t k then None else if_before k (slice_get places k) (slice_get places t))) ≡ Some m → HasParent rows places m t
      by_entry k true at e h = absurd (cc)
      by_entry k false at e h = by_itself k (nat_eq t k) at (other_number t 0 e) refl h

      by_name : (n : Option Naming) → slice_get names t ≡ n → parent_by places t n ≡ Some m → HasParent rows places m t
      by_name (Some (Once k)) at h = by_entry k (nat_eq t 0) at refl h
      by_name (Some Never) at h = absurd (cc)
      by_name (Some Often) at h = absurd (cc)
      by_name None at h = absurd (cc)

  -- each row below a reachable one, which alone leads to it, has that for a parent
  pub has_parent : (it : Listed) (m t : ℕ) → AreListed rows it → IsReachable rows m → t < length rows → IsParent rows m t → parent_in names it.places t ≡ Some m
  has_parent it m t listed reached low parent =
      let one = listed.all m reached (slice_get_within rows m parent.row parent.at) in
      let leads = once_any (is_goto t) (leaves_of parent.row) parent.once in
      let other = listed.all t (Behind reached parent.at (goto_of_any t parent.row leads)) low in
      let less = behind one.0 other.0 one.1 (listed.behind t other.0 other.1) in
      ap (parent_by it.places t) (parent_is_once rows names is m t low parent)
      ∙ ap (λ (b : Bool). if b then None else (if nat_eq t m then None else if_before m (slice_get it.places m) (slice_get it.places t))) (nat_eq-apart t 0 parent.not_entry)
      ∙ ap (λ (b : Bool). if b then None else if_before m (slice_get it.places m) (slice_get it.places t)) (nat_eq-apart t m parent.not_itself)
      ∙ ap (λ (o : Option (Option ℕ)). if_before m o (slice_get it.places t)) one.1
      ∙ ap (λ (o : Option (Option ℕ)). if_before m (Some (Some one.0)) o) other.1
      ∙ ap (λ (b : Bool). if b then Some m else None) (less_is one.0 other.0 less)
    where
      less_is : (a b : ℕ) → a < b → nat_lt a b ≡ true
      less_is a b h = grind (arith, nat_tests)

      clash : (b : Bool) → b ≡ false → b ≡ true → ⊥
      clash true p q = absurd (cc)
      clash false p q = absurd (cc)

      behind : (place other : ℕ) → slice_get it.places m ≡ Some (Some place) → IsBehind rows it t other → place < other
      behind place other at (inl e) = absurd (parent.not_entry e)
      behind place other at (inr h) = elim (same_or_apart h.0 m) [
        | inl same ↦
            let e = ap (λ (k : ℕ). slice_get it.places k) same in
            let found = h.2 in
            let is_place : h.1 ≡ place = (cc) in
            subst (λ (k : ℕ). k < other) is_place h.3
        | inr apart ↦ absurd (clash (list_any (is_goto t) (leaves_of h.4.row)) (parent.alone h.0 h.4.row h.4.at apart) h.4.leads)
      ]
