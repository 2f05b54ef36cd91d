-- The names of a state, added to a set one by one.
use Rattle.std.proofs.Common.{◌≡◌, ℕ, Bool, false, List, [], ◌∷◌, ◌++◌, Option, Some, None, Result, Ok, Err, refl, sym, ◌∙◌, ap, fold}
use Rattle.std.specs.Prelude.{nat_eq, OnOk, if◌then◌else◌}
use Rattle.std.specs.List.{IsDistinct, AllByRecursion, list_any, cons_option}
use Rattle.std.proofs.lemmas.List.Elements.{filter_map-append}
use Rattle.std.proofs.lemmas.List.Sums.{fold-append}
use Rattle.indexmap.specs.IndexSet.{insert_key, insert_all}
use Rattle.pc_word.specs.declared.item.Item.{Item}
use Rattle.pc_word.specs.declared.item.Operand.{Operand}
use Rattle.pc_word.specs.Row.{Row, Then, Either, items_of}
use Rattle.pc_word.specs.Items.{dest_of}
use Rattle.pc_word.proofs.Truth.{or_made_false}
use Rattle.pc_automaton.specs.declared.automaton.AutomatonLeaf.{AutomatonLeaf}
use Rattle.pc_automaton.specs.Automaton.{names_written}
use Rattle.pc_assign.proofs.Held.{in_more}
use Rattle.pc_word.proofs.Places.{other_way}

-- ---- distinct lists

-- none of a list is among these
abbrev pub NoneAmong : List ℕ → List ℕ → Type 0
NoneAmong keys xs = AllByRecursion (λ x. list_any (nat_eq x) keys ≡ false) xs

-- so with one more, from which they differ
still_none : (keys : List ℕ) (x : ℕ) (xs : List ℕ) → NoneAmong keys xs → AllByRecursion (λ y. nat_eq x y ≡ false) xs → NoneAmong (keys ++ x ∷ []) xs
still_none keys x [] h k = tt
still_none keys x (y ∷ xs) h k =
    (in_more y x keys ∙ or_made_false (nat_eq y x) (list_any (nat_eq y) keys) (other_way x y k.0) h.0, still_none keys x xs h.1 k.1)

appended : (keys : List ℕ) (x : ℕ) (xs : List ℕ) → (keys ++ x ∷ []) ++ xs ≡ keys ++ x ∷ xs
appended [] x xs = refl
appended (k ∷ keys) x xs = ap (λ (ys : List ℕ). k ∷ ys) (appended keys x xs)

-- each is added at the end
all_added : (keys xs : List ℕ) → IsDistinct nat_eq xs → NoneAmong keys xs → insert_all nat_eq keys xs ≡ keys ++ xs
unfolding IsDistinct
all_added keys [] h k = at_end keys
  where
    at_end : (ys : List ℕ) → ys ≡ ys ++ []
    at_end [] = refl
    at_end (y ∷ ys) = ap (λ (zs : List ℕ). y ∷ zs) (at_end ys)
all_added keys (x ∷ xs) h k =
    ap (λ (b : Bool). fold (insert_key nat_eq) (if b then keys else keys ++ x ∷ []) xs) k.0
    ∙ all_added (keys ++ x ∷ []) xs h.1 (still_none keys x xs k.1 h.0) ∙ appended keys x xs

none_first : (xs : List ℕ) → NoneAmong [] xs
none_first [] = tt
none_first (x ∷ xs) = (refl, none_first xs)

-- the names of a state
pub names_added : (parameters written first last : List ℕ) → IsDistinct nat_eq (parameters ++ written) → first ≡ insert_all nat_eq [] parameters
    → last ≡ insert_all nat_eq first written → last ≡ parameters ++ written
names_added parameters written first last distinct one two =
    two ∙ ap (λ (keys : List ℕ). insert_all nat_eq keys written) one ∙ sym (fold-append (insert_key nat_eq) [] parameters written)
    ∙ all_added [] (parameters ++ written) distinct (none_first (parameters ++ written))

pub ruleset names = (names_added)

-- ---- rows

module _ {E : Type 0} (old new : List ℕ) where
  pub some_added : (whole rest : Row AutomatonLeaf) (item : Item) (dest : ℕ) (mid : List ℕ) (result : Result (Unit {0}) E) → whole ≡ Then item rest
      → dest_of item ≡ Some dest
      → mid ≡ insert_key nat_eq old dest → OnOk result (new ≡ insert_all nat_eq mid (names_written rest))
      → OnOk result (new ≡ insert_all nat_eq old (names_written whole))
  some_added whole rest item dest mid (Ok done) is some one h =
      h ∙ ap (λ (keys : List ℕ). insert_all nat_eq keys (names_written rest)) one
      ∙ ap (λ (found : Option ℕ). insert_all nat_eq old (cons_option found (names_written rest))) (sym some)
      ∙ ap (λ (row : Row AutomatonLeaf). insert_all nat_eq old (names_written row)) (sym is)
  some_added whole rest item dest mid (Err e) is some one h = tt

  pub none_added : (whole rest : Row AutomatonLeaf) (item : Item) (result : Result (Unit {0}) E) → whole ≡ Then item rest → dest_of item ≡ None
      → OnOk result (new ≡ insert_all nat_eq old (names_written rest)) → OnOk result (new ≡ insert_all nat_eq old (names_written whole))
  none_added whole rest item (Ok done) is none h =
      h ∙ ap (λ (found : Option ℕ). insert_all nat_eq old (cons_option found (names_written rest))) (sym none)
      ∙ ap (λ (row : Row AutomatonLeaf). insert_all nat_eq old (names_written row)) (sym is)
  none_added whole rest item (Err e) is none h = tt

  pub sides_added : (whole on_yes on_no : Row AutomatonLeaf) (on : Operand) (mid : List ℕ) (result : Result (Unit {0}) E)
      → whole ≡ Either on on_yes on_no
      → mid ≡ insert_all nat_eq old (names_written on_yes) → OnOk result (new ≡ insert_all nat_eq mid (names_written on_no))
      → OnOk result (new ≡ insert_all nat_eq old (names_written whole))
  sides_added whole on_yes on_no on mid (Ok done) is one h =
      h ∙ ap (λ (keys : List ℕ). insert_all nat_eq keys (names_written on_no)) one
      ∙ sym (fold-append (insert_key nat_eq) old (names_written on_yes) (names_written on_no))
      ∙ ap (insert_all nat_eq old) (sym (filter_map-append dest_of (items_of on_yes) (items_of on_no)))
      ∙ ap (λ (row : Row AutomatonLeaf). insert_all nat_eq old (names_written row)) (sym is)
  sides_added whole on_yes on_no on mid (Err e) is one h = tt

pub ruleset rows = (some_added, none_added, sides_added)
