-- Homes of a stub and their Copies, as code goes down to the stub.
use Rattle.std.proofs.Common.{◌≡◌, ◌≢◌, ℕ, zero, suc, ◌+◌, ◌-◌, ◌<◌, ◌≤◌, Bool, true, false, List, [], ◌∷◌, Option, Some, None, length, refl, sym, ◌∙◌, ap, lt-ltb, arith}
use Rattle.std.specs.Prelude.{nat_eq, nat_lt, if◌then◌else◌, slice_get, slice_set, slice_index_or}
use Rattle.std.proofs.lemmas.Bool.Decides.{nat_tests}
use Rattle.pc_word.proofs.Truth.{of_most}
use Rattle.pc_word.specs.declared.item.Item.{Item}
use Rattle.pc_word.specs.declared.item.Item.TheVariants.{Copy}
use Rattle.pc_word.specs.declared.item.Operand.{Operand}
use Rattle.pc_word.specs.declared.item.Operand.TheVariants.{Name}
use Rattle.pc_word.specs.Items.{dest_of}
use Rattle.pc_window.specs.declared.home.Home.{Home}
use Rattle.pc_window.specs.Tree.{Tree, Pending, Undecided, Exit, Stop_exit, Trap_exit, tree_size}
use Rattle.pc_window.specs.Opening.{Supply, Grafted, with_name}
use Rattle.pc_arranging.specs.declared.naming.FoundHome.{FoundHome}
use Rattle.pc_arranging.specs.Numbering.{leaf_count}
use Rattle.pc_arranging.specs.Exchanging.{on_yes_side, on_no_side}
use Rattle.pc_arranging.specs.Naming.{found_home, home_at, with_value, with_home, writes_operand, copied_at_item, copied_below, or_at_root, named_home, then_next, named_homes, home_count}
use Rattle.pc_arranging.specs.models.Doing.{made_if, tree_if}
use Rattle.pc_fill.proofs.Entered.{at_below}

-- ---- on the side of a test on which a leaf is

module _ {X : Type 0} (one other : X) (leaf m n : ℕ) (count : n ≡ m) where
  first_side : leaf < n → (if nat_lt leaf m then one else other) ≡ one
  first_side less = ap (λ (b : Bool). if b then one else other) (lt-ltb leaf m (omega arith))

  second_side : n ≤ leaf → (if nat_lt leaf m then one else other) ≡ other
  second_side most = ap (λ (b : Bool). if b then one else other) (of_most leaf m (omega arith))

module _ (tag origin : ℕ) (on : Operand) (p q : Tree) (leaf n : ℕ) (count : n ≡ leaf_count p) where
  pub count_yes : (k : ℕ) → leaf < n → k ≡ home_count p leaf → k ≡ home_count (Undecided tag origin on p q) leaf
  count_yes k less is = is ∙ sym (first_side (home_count p leaf) (home_count q (leaf - leaf_count p)) leaf (leaf_count p) n count less)

  pub count_no : (k : ℕ) → n ≤ leaf → k ≡ home_count q (leaf - n) → k ≡ home_count (Undecided tag origin on p q) leaf
  count_no k most is =
      is ∙ ap (λ (m : ℕ). home_count q (leaf - m)) count ∙ sym (second_side (home_count p leaf) (home_count q (leaf - leaf_count p)) leaf (leaf_count p) n count most)

  module _ (home : ℕ) where
    pub home_yes : (r : Option FoundHome) → leaf < n → r ≡ home_at p leaf home → r ≡ home_at (Undecided tag origin on p q) leaf home
    home_yes r less is = is ∙ sym (first_side (home_at p leaf home) (home_at q (leaf - leaf_count p) home) leaf (leaf_count p) n count less)

    pub home_no : (r : Option FoundHome) → n ≤ leaf → r ≡ home_at q (leaf - n) home → r ≡ home_at (Undecided tag origin on p q) leaf home
    home_no r most is =
        is ∙ ap (λ (m : ℕ). home_at q (leaf - m) home) count ∙ sym (second_side (home_at p leaf home) (home_at q (leaf - leaf_count p) home) leaf (leaf_count p) n count most)

    pub give_yes : (value : Operand) (new : Tree) → leaf < n → new ≡ with_home value p leaf home → Undecided tag origin on new q ≡ with_home value (Undecided tag origin on p q) leaf home
    give_yes value new less is =
        ap (λ (t : Tree). Undecided tag origin on t q) is
        ∙ sym (first_side (Undecided tag origin on (with_home value p leaf home) q) (Undecided tag origin on p (with_home value q (leaf - leaf_count p) home)) leaf (leaf_count p) n count less)

    pub give_no : (value : Operand) (new : Tree) → n ≤ leaf → new ≡ with_home value q (leaf - n) home → Undecided tag origin on p new ≡ with_home value (Undecided tag origin on p q) leaf home
    give_no value new most is =
        ap (λ (t : Tree). Undecided tag origin on p t) (is ∙ ap (λ (m : ℕ). with_home value q (leaf - m) home) count)
        ∙ sym (second_side (Undecided tag origin on (with_home value p leaf home) q) (Undecided tag origin on p (with_home value q (leaf - leaf_count p) home)) leaf (leaf_count p) n count most)

  module _ (copy_tag name : ℕ) (from : Operand) (new : Tree) (done : Bool) where
    pub copy_yes : leaf < n → copied_below copy_tag name from p leaf ≡ tree_if done new
        → copied_below copy_tag name from (Undecided tag origin on p q) leaf ≡ tree_if done (Undecided tag origin on new q)
    copy_yes less is =
        first_side (on_yes_side tag origin on (copied_below copy_tag name from p leaf) q) (on_no_side tag origin on p (copied_below copy_tag name from q (leaf - leaf_count p))) leaf (leaf_count p) n
        count less
        ∙ ap (λ (o : Option Tree). on_yes_side tag origin on o q) is ∙ made done
      where
        made : (d : Bool) → on_yes_side tag origin on (tree_if d new) q ≡ tree_if d (Undecided tag origin on new q)
        made true = refl
        made false = refl

    pub copy_no : n ≤ leaf → copied_below copy_tag name from q (leaf - n) ≡ tree_if done new
        → copied_below copy_tag name from (Undecided tag origin on p q) leaf ≡ tree_if done (Undecided tag origin on p new)
    copy_no most is =
        second_side (on_yes_side tag origin on (copied_below copy_tag name from p leaf) q) (on_no_side tag origin on p (copied_below copy_tag name from q (leaf - leaf_count p))) leaf (leaf_count p) n
        count most
        ∙ ap (λ (m : ℕ). on_no_side tag origin on p (copied_below copy_tag name from q (leaf - m))) (sym count)
        ∙ ap (on_no_side tag origin on p) is ∙ made done
      where
        made : (d : Bool) → on_no_side tag origin on p (tree_if d new) ≡ tree_if d (Undecided tag origin on p new)
        made true = refl
        made false = refl

-- ---- at the stub

module _ (region tag leaf home : ℕ) (homes : List Home) where
  pub another_leaf : leaf ≢ 0 → None ≡ home_at (Exit region tag homes) leaf home
  another_leaf ne = sym (ap (λ (b : Bool). if b then found_home tag (slice_get homes home) else None) (zero_not leaf ne))
    where
      zero_not : (n : ℕ) → n ≢ 0 → nat_eq n 0 ≡ false
      zero_not n ne = grind (arith, nat_tests)

  at_zero : leaf ≡ 0 → found_home tag (slice_get homes home) ≡ home_at (Exit region tag homes) leaf home
  at_zero e = sym (ap (λ (n : ℕ). if nat_eq n 0 then found_home tag (slice_get homes home) else None) e)

  pub no_home_there : leaf ≡ 0 → slice_get homes home ≡ None → None ≡ home_at (Exit region tag homes) leaf home
  no_home_there e at = ap (found_home tag) (sym at) ∙ at_zero e

  pub home_there : (h : Home) → leaf ≡ 0 → slice_get homes home ≡ Some h → Some (record { tag = tag; operand = h.value }) ≡ home_at (Exit region tag homes) leaf home
  home_there h e at = ap (found_home tag) (sym at) ∙ at_zero e

one_home : (h k : Home) → Some h ≡ Some k → h ≡ k
one_home h k e = cc

values_set : (value : Operand) (homes : List Home) (home : ℕ) (k : Home) → slice_get homes home ≡ Some k
    → slice_set homes home (record { variable = k.variable; value = value }) ≡ with_value value homes home
values_set value [] home k at = absurd (cc)
values_set value (h ∷ homes) zero k at =
    let same : k ≡ h = sym (one_home h k at) in ap (λ (x : Home). record { variable = x.variable; value = value } ∷ homes) same
values_set value (h ∷ homes) (suc home) k at =
    ap (λ (hs : List Home). h ∷ hs) (values_set value homes home k at)
    ∙ sym (at_below (record { variable = h.variable; value = value } ∷ homes) (λ n. h ∷ with_value value homes n) (suc home) home refl)

values_past : (value : Operand) (homes : List Home) (home : ℕ) → length homes ≤ home → homes ≡ with_value value homes home
values_past value [] home most = refl
values_past value (h ∷ homes) zero most = absurd (omega arith)
values_past value (h ∷ homes) (suc home) most =
    ap (λ (hs : List Home). h ∷ hs) (values_past value homes home (omega arith))
    ∙ sym (at_below (record { variable = h.variable; value = value } ∷ homes) (λ n. h ∷ with_value value homes n) (suc home) home refl)

module _ (value : Operand) (homes : List Home) (home : ℕ) where
  pub value_set : (k : Home) (new : List Home) → slice_get homes home ≡ Some k → new ≡ slice_set homes home (record { variable = k.variable; value = value })
      → new ≡ with_value value homes home
  value_set k new at is = is ∙ values_set value homes home k at

  pub value_past : length homes ≤ home → homes ≡ with_value value homes home
  value_past most = values_past value homes home most

pub value_given : (region tag leaf home : ℕ) (homes new : List Home) (value : Operand) → new ≡ with_value value homes home
    → Exit region tag new ≡ with_home value (Exit region tag homes) leaf home
value_given region tag leaf home homes new value is = ap (Exit region tag) is

pub ruleset setting = (value_set, value_past)

-- ---- Copies

module _ (tag origin copy_tag name leaf : ℕ) (from : Operand) (item : Item) where
  pub further_down : (old new : Tree) → copied_below copy_tag name from old leaf ≡ tree_if true new
      → copied_below copy_tag name from (Pending tag origin item old) leaf ≡ tree_if true (Pending tag origin item new)
  further_down old new is = ap (copied_at_item tag origin item old copy_tag name from) is

  pub not_here : (b : Bool) (old new other : Tree) → copied_below copy_tag name from old leaf ≡ tree_if false new → b ≡ writes_operand (dest_of item) from → b ≡ false
      → copied_below copy_tag name from (Pending tag origin item old) leaf ≡ tree_if false other
  not_here b old new other is writes e =
      ap (copied_at_item tag origin item old copy_tag name from) is
      ∙ ap (λ (c : Bool). if c then Some (Pending tag origin item (Pending copy_tag 0 (Copy name from) old)) else None) (sym writes ∙ e)

  pub right_here : (b : Bool) (old new placed : Tree) → copied_below copy_tag name from old leaf ≡ tree_if false new → new ≡ old → b ≡ writes_operand (dest_of item) from → b ≡ true
      → placed ≡ Pending copy_tag 0 (Copy name from) new
      → copied_below copy_tag name from (Pending tag origin item old) leaf ≡ tree_if true (Pending tag origin item placed)
  right_here b old new placed is same writes e put =
      ap (copied_at_item tag origin item old copy_tag name from) is
      ∙ ap (λ (c : Bool). if c then Some (Pending tag origin item (Pending copy_tag 0 (Copy name from) old)) else None) (sym writes ∙ e)
      ∙ ap (λ (t : Tree). Some (Pending tag origin item t)) (ap (Pending copy_tag 0 (Copy name from)) (sym same) ∙ sym put)

module _ (copy_tag name leaf : ℕ) (from : Operand) (old new : Tree) where
  pub placed_below : copied_below copy_tag name from old leaf ≡ tree_if true new → new ≡ or_at_root copy_tag name from old (copied_below copy_tag name from old leaf)
  placed_below is = sym (ap (or_at_root copy_tag name from old) is)

  pub placed_at_root : (placed : Tree) → copied_below copy_tag name from old leaf ≡ tree_if false new → new ≡ old → placed ≡ Pending copy_tag 0 (Copy name from) new
      → placed ≡ or_at_root copy_tag name from old (copied_below copy_tag name from old leaf)
  placed_at_root placed is same put = put ∙ ap (Pending copy_tag 0 (Copy name from)) same ∙ sym (ap (or_at_root copy_tag name from old) is)

-- ---- names

module _ (g : Grafted) (leaf home : ℕ) where
  pub no_name : (r : Option FoundHome) (made : Grafted) → r ≡ home_at g.tree leaf home → r ≡ None → named_home g leaf home (home_at g.tree leaf home) ≡ made_if false made
  no_name r made is e = ap (named_home g leaf home) (sym is ∙ e)

  pub name_given : (r : Option FoundHome) (found : FoundHome) (copied tree : Tree) (names : Supply) (name : ℕ) → r ≡ home_at g.tree leaf home → r ≡ Some found → name ≡ g.names.next
      → copied ≡ or_at_root found.tag name found.operand g.tree (copied_below found.tag name found.operand g.tree leaf) → tree ≡ with_home (Name name) copied leaf home
      → names ≡ with_name g.names None → named_home g leaf home (home_at g.tree leaf home) ≡ made_if true (record { tree = tree; names = names })
  name_given r found copied tree names name is e next copied_is tree_is names_are =
      ap (named_home g leaf home) (sym is ∙ e)
      ∙ ap Some (λ i. record {
        tree = (sym (tree_is ∙ ap (λ (t : Tree). with_home (Name name) t leaf home) copied_is
            ∙ ap (λ (n : ℕ). with_home (Name n) (or_at_root found.tag n found.operand g.tree (copied_below found.tag n found.operand g.tree leaf)) leaf home) next)) i;
        names = sym names_are i;
      })

-- all homes, from one on
module _ (g : Grafted) (leaf home count : ℕ) where
  pub none_left : count ≡ 0 → named_homes count g leaf home ≡ made_if true g
  none_left e = ap (λ (n : ℕ). named_homes n g leaf home) e

  all_of : count ≢ 0 → named_homes count g leaf home ≡ then_next (named_home g leaf home (home_at g.tree leaf home)) (λ h. named_homes (count - 1) h leaf (suc home))
  all_of ne = let e : count ≡ suc (count - 1) = omega arith in ap (λ (n : ℕ). named_homes n g leaf home) e

  pub not_all : (made other : Grafted) → count ≢ 0 → named_home g leaf home (home_at g.tree leaf home) ≡ made_if false made → named_homes count g leaf home ≡ made_if false other
  not_all made other ne is = all_of ne ∙ ap (λ (o : Option Grafted). then_next o (λ h. named_homes (count - 1) h leaf (suc home))) is

  pub one_and_more : (next made : Grafted) (done : Bool) → count ≢ 0 → named_home g leaf home (home_at g.tree leaf home) ≡ made_if true next
      → named_homes (count - 1) next leaf (home + 1) ≡ made_if done made → named_homes count g leaf home ≡ made_if done made
  one_and_more next made done ne is more =
      let e : suc home ≡ home + 1 = omega arith in
      all_of ne ∙ ap (λ (o : Option Grafted). then_next o (λ h. named_homes (count - 1) h leaf (suc home))) is
      ∙ ap (λ (n : ℕ). named_homes (count - 1) next leaf n) e ∙ more

pub ruleset counting = (count_yes, count_no)

pub ruleset finding = (home_yes, home_no, another_leaf, no_home_there, home_there)

pub ruleset giving = (give_yes, give_no, value_given)

pub ruleset copying = (copy_yes, copy_no, further_down, not_here, right_here)

pub ruleset placing = (placed_below, placed_at_root)

pub ruleset naming = (no_name, name_given)

pub ruleset naming_all = (none_left, not_all, one_and_more)
