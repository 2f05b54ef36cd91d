-- Where a stub is entered, each home's name is a Copy that is added and then used.
use Rattle.std.proofs.Common.{◌≡◌, ℕ, zero, suc, ◌+◌, ◌-◌, ◌≤◌, Bool, true, false, List, [], ◌∷◌, Option, Some, None, refl, sym, ◌∙◌, ap, subst, arith}
use Rattle.std.specs.Prelude.{min, nat_eq, nat_lt, ◌||◌, if◌then◌else◌, slice_get, length}
use Rattle.pc_word.proofs.Truth.{or_first, or_second}
use Rattle.pc_word.specs.declared.item.Item.{Item}
use Rattle.pc_word.specs.declared.item.Item.TheVariants.{Copy}
use Rattle.pc_word.specs.declared.item.Operand.{Operand}
use Rattle.pc_word.specs.declared.item.Operand.TheVariants.{Name, Lit}
use Rattle.pc_word.specs.Items.{dest_of, reads, reads_name}
use Rattle.pc_word.specs.Commit.{writes}
use Rattle.pc_table.specs.Table.{Table}
use Rattle.pc_table.proofs.Tests.{needed_above}
use Rattle.pc_window.specs.declared.home.Home.{Home}
use Rattle.pc_window.specs.Tree.{Tree, Pending, Undecided, Exit, Stop_exit, Trap_exit, whole}
use Rattle.pc_window.specs.Names.{homes_use, uses}
use Rattle.pc_window.specs.Opening.{Supply, Grafted, with_name}
use Rattle.pc_window.specs.Unwinding.{lesser_tag, least_tag}
use Rattle.pc_window.proofs.Grafts.{nat_eq-same}
use Rattle.pc_certified.specs.Somewhere.{Somewhere, here, behind_item, in_yes_side, in_no_side}
use Rattle.pc_certified.specs.Copies.{SameOrCopied, IsUsedIn, HasTagUpTo, CopyAddedHere, added, to_name, same}
use Rattle.pc_certified.specs.Copies.{HomesExchanged, one_home, TreesExchanged, in_item, in_test, in_stub, ExchangedHere, below_copy}
use Rattle.pc_arranging.specs.Numbering.{leaf_count}
use Rattle.pc_arranging.specs.Exchanging.{on_yes_side, on_no_side}
use Rattle.pc_arranging.specs.declared.naming.FoundHome.{FoundHome}
use Rattle.pc_arranging.specs.Naming.{found_home, home_at, with_value, with_home, writes_operand, copied_at_item, copied_below, or_at_root}
use Rattle.pc_arranging.proofs.Uses.{same_item, same_homes, same_tree}
use Rattle.pc_fill.proofs.Entered.{at_below}

one_found : (a b : FoundHome) → Some a ≡ Some b → a ≡ b
one_found a b e = cc

one_tree : (t u : Tree) → Some t ≡ Some u → t ≡ u
one_tree t u e = cc

-- ---- the operand is read below, and the tag is not below the least there

tag_at_item : (tag t o : ℕ) (x : Item) (rest : Tree) → HasTagUpTo tag rest → HasTagUpTo tag (Pending t o x rest)
tag_at_item tag t o x rest h = let le = h.2 in (min t h.0, ap (lesser_tag (Some t)) h.1, omega arith)

tag_on_yes : (tag t o : ℕ) (on : Operand) (p q : Tree) → HasTagUpTo tag p → HasTagUpTo tag (Undecided t o on p q)
tag_on_yes tag t o on p q h = by_other (least_tag q) refl
  where
    by_other : (b : Option ℕ) → least_tag q ≡ b → HasTagUpTo tag (Undecided t o on p q)
    by_other None e = let le = h.2 in (min t h.0, (λ i. lesser_tag (Some t) (lesser_tag (h.1 i) (e i))), omega arith)
    by_other (Some n) e = let le = h.2 in (min t (min h.0 n), (λ i. lesser_tag (Some t) (lesser_tag (h.1 i) (e i))), omega arith)

tag_on_no : (tag t o : ℕ) (on : Operand) (p q : Tree) → HasTagUpTo tag q → HasTagUpTo tag (Undecided t o on p q)
tag_on_no tag t o on p q h = by_other (least_tag p) refl
  where
    by_other : (b : Option ℕ) → least_tag p ≡ b → HasTagUpTo tag (Undecided t o on p q)
    by_other None e = let le = h.2 in (min t h.0, (λ i. lesser_tag (Some t) (lesser_tag (e i) (h.1 i))), omega arith)
    by_other (Some n) e = let le = h.2 in (min t (min n h.0), (λ i. lesser_tag (Some t) (lesser_tag (e i) (h.1 i))), omega arith)

used_at_item : (t o : ℕ) (x : Item) (rest : Tree) (from : Operand) → writes_operand (dest_of x) from ≡ false → IsUsedIn from rest → IsUsedIn from (Pending t o x rest)
used_at_item t o x rest (Name n) free h = needed_above (reads x n) (writes (dest_of x) n) (uses rest n) free h
used_at_item t o x rest (Lit v) free h = tt

used_on_yes : (t o : ℕ) (on : Operand) (p q : Tree) (from : Operand) → IsUsedIn from p → IsUsedIn from (Undecided t o on p q)
used_on_yes t o on p q (Name n) h = or_second (reads_name on n) _ (or_first (uses p n) (uses q n) h)
used_on_yes t o on p q (Lit v) h = tt

used_on_no : (t o : ℕ) (on : Operand) (p q : Tree) (from : Operand) → IsUsedIn from q → IsUsedIn from (Undecided t o on p q)
used_on_no t o on p q (Name n) h = or_second (reads_name on n) _ (or_second (uses p n) (uses q n) h)
used_on_no t o on p q (Lit v) h = tt

-- a stub uses the operand of each home
home_used : (region tag : ℕ) (homes : List Home) (home : ℕ) (h : Home) → slice_get homes home ≡ Some h → IsUsedIn h.value (Exit region tag homes)
home_used region tag homes home h at = by_value h.value refl
  where
    reads_it : (n : ℕ) (homes : List Home) (home : ℕ) → slice_get homes home ≡ Some h → h.value ≡ Name n → homes_use homes n ≡ true
    reads_it n [] home at e = absurd (cc)
    reads_it n (k ∷ homes) zero at e =
        let is : k ≡ h = cc in
        or_first (reads_name k.value n) (homes_use homes n) (ap (λ (x : Home). reads_name x.value n) is ∙ ap (λ (o : Operand). reads_name o n) e ∙ nat_eq-same n)
    reads_it n (k ∷ homes) (suc home) at e = or_second (reads_name k.value n) (homes_use homes n) (reads_it n homes home at e)

    by_value : (o : Operand) → h.value ≡ o → IsUsedIn o (Exit region tag homes)
    by_value (Name n) e = reads_it n homes home at e
    by_value (Lit v) e = tt

module _ (tag name : ℕ) (from : Operand) (home : ℕ) where
  -- at the stub
  record AtStub (region t : ℕ) (homes : List Home) : Type 0 where
    h : Home
    at : slice_get homes home ≡ Some h
    value : h.value ≡ from
    tags : t ≡ tag

  at_stub : (region t : ℕ) (homes : List Home) (b : Bool) → (if b then found_home t (slice_get homes home) else None) ≡ Some (record { tag = tag; operand = from }) → AtStub region t homes
  at_stub region t homes false e = absurd (cc)
  at_stub region t homes true e = by_home (slice_get homes home) refl e
    where
      by_home : (o : Option Home) → slice_get homes home ≡ o → found_home t o ≡ Some (record { tag = tag; operand = from }) → AtStub region t homes
      by_home None at e = absurd (cc)
      by_home (Some h) at e =
          let is = one_found (record { tag = t; operand = h.value }) (record { tag = tag; operand = from }) e in
          record { h = h; at = at; value = ap (λ (f : FoundHome). f.operand) is; tags = ap (λ (f : FoundHome). f.tag) is }

  -- a home that is found stands on one side of a test
  side_of : (b : Bool) (x y : Option FoundHome) (Q : Type 0) → (b ≡ true → x ≡ Some (record { tag = tag; operand = from }) → Q) → (b ≡ false → y ≡ Some (record { tag = tag; operand = from }) → Q)
      → (if b then x else y) ≡ Some (record { tag = tag; operand = from }) → Q
  side_of true x y Q f g e = f refl e
  side_of false x y Q f g e = g refl e

  below_free : (t o : ℕ) (x : Item) (rest : Tree) (r : Option Tree) → copied_at_item t o x rest tag name from r ≡ None → (r ≡ None) × (writes_operand (dest_of x) from ≡ false)
  below_free t o x rest (Some u) e = absurd (cc)
  below_free t o x rest None e = (refl, by_test (writes_operand (dest_of x) from) e)
    where
      by_test : (b : Bool) → (if b then Some (Pending t o x (Pending tag 0 (Copy name from) rest)) else None) ≡ None → b ≡ false
      by_test true e = absurd (cc)
      by_test false e = refl

  yes_free : (t o : ℕ) (on : Operand) (q : Tree) (r : Option Tree) → on_yes_side t o on r q ≡ None → r ≡ None
  yes_free t o on q (Some u) e = absurd (cc)
  yes_free t o on q None e = refl

  no_free : (t o : ℕ) (on : Operand) (p : Tree) (r : Option Tree) → on_no_side t o on p r ≡ None → r ≡ None
  no_free t o on p (Some u) e = absurd (cc)
  no_free t o on p None e = refl

  fits : (tree : Tree) (leaf : ℕ) → home_at tree leaf home ≡ Some (record { tag = tag; operand = from }) → copied_below tag name from tree leaf ≡ None
      → IsUsedIn from tree × HasTagUpTo tag tree
  fits (Pending t o x rest) leaf at none =
      let k = below_free t o x rest (copied_below tag name from rest leaf) none in
      let f = fits rest leaf at k.0 in
      (used_at_item t o x rest from k.1 f.0, tag_at_item tag t o x rest f.1)
  fits (Undecided t o on p q) leaf at none =
      side_of (nat_lt leaf (leaf_count p)) (home_at p leaf home) (home_at q (leaf - leaf_count p) home) (IsUsedIn from (Undecided t o on p q) × HasTagUpTo tag (Undecided t o on p q))
      (λ b e.
      let n : on_yes_side t o on (copied_below tag name from p leaf) q ≡ None =
      sym (ap (λ (c : Bool). if c then on_yes_side t o on (copied_below tag name from p leaf) q else on_no_side t o on p (copied_below tag name from q (leaf - leaf_count p))) b) ∙ none in
      let f = fits p leaf e (yes_free t o on q (copied_below tag name from p leaf) n) in
      (used_on_yes t o on p q from f.0, tag_on_yes tag t o on p q f.1))
      (λ b e.
      let n : on_no_side t o on p (copied_below tag name from q (leaf - leaf_count p)) ≡ None =
      sym (ap (λ (c : Bool). if c then on_yes_side t o on (copied_below tag name from p leaf) q else on_no_side t o on p (copied_below tag name from q (leaf - leaf_count p))) b) ∙ none in
      let f = fits q (leaf - leaf_count p) e (no_free t o on p (copied_below tag name from q (leaf - leaf_count p)) n) in
      (used_on_no t o on p q from f.0, tag_on_no tag t o on p q f.1)) at
  fits (Exit region t homes) leaf at none =
      let k = at_stub region t homes (nat_eq leaf 0) at in
      (subst (λ (o : Operand). IsUsedIn o (Exit region t homes)) k.value (home_used region t homes home k.h k.at), (t, refl, (let e = k.tags in omega arith)))
  fits Stop_exit leaf at none = absurd (cc)
  fits (Trap_exit kind line) leaf at none = absurd (cc)

  -- ---- the home is exchanged

  homes_given : (homes : List Home) (n : ℕ) (h : Home) → slice_get homes n ≡ Some h → h.value ≡ from → HomesExchanged name from homes (with_value (Name name) homes n)
  homes_given [] n h at e = absurd (cc)
  homes_given (k ∷ homes) zero h at e =
      let is : k ≡ h = cc in
      one_home k.variable (subst (λ (o : Operand). SameOrCopied name from o (Name name)) (sym (ap (λ (x : Home). x.value) is ∙ e)) to_name) (same_homes name from homes)
  homes_given (k ∷ homes) (suc n) h at e =
      subst (HomesExchanged name from (k ∷ homes)) (sym (at_below (record { variable = k.variable; value = Name name } ∷ homes) (λ m. k ∷ with_value (Name name) homes m) (suc n) n refl))
      (one_home k.variable (same k.value) (homes_given homes n h at e))

  -- ---- the home is exchanged in the tree

  given : (tree : Tree) (leaf : ℕ) → home_at tree leaf home ≡ Some (record { tag = tag; operand = from }) → TreesExchanged name from tree (with_home (Name name) tree leaf home)
  given (Pending t o x rest) leaf at = in_item t o (same_item name from x) (given rest leaf at)
  given (Undecided t o on p q) leaf at =
      let yes_tree = Undecided t o on (with_home (Name name) p leaf home) q in
      let no_tree = Undecided t o on p (with_home (Name name) q (leaf - leaf_count p) home) in
      side_of (nat_lt leaf (leaf_count p)) (home_at p leaf home) (home_at q (leaf - leaf_count p) home)
      (TreesExchanged name from (Undecided t o on p q) (with_home (Name name) (Undecided t o on p q) leaf home))
      (λ b e. subst (λ (c : Bool). TreesExchanged name from (Undecided t o on p q) (if c then yes_tree else no_tree)) (sym b) (in_test t o (same on) (given p leaf e) (same_tree name from q)))
      (λ b e. subst (λ (c : Bool). TreesExchanged name from (Undecided t o on p q) (if c then yes_tree else no_tree)) (sym b)
      (in_test t o (same on) (same_tree name from p) (given q (leaf - leaf_count p) e))) at
  given (Exit region t homes) leaf at =
      let k = at_stub region t homes (nat_eq leaf 0) at in
      in_stub region t (homes_given homes home k.h k.at k.value)
  given Stop_exit leaf at = absurd (cc)
  given (Trap_exit kind line) leaf at = absurd (cc)

  -- ---- a Copy further down

  record CopiedTo (tree made : Tree) (leaf : ℕ) : Type 0 where
    adds : Somewhere (CopyAddedHere name) tree made
    uses_it : Somewhere ExchangedHere made (with_home (Name name) made leaf home)
    leaves : leaf_count made ≡ leaf_count tree

  at_item : (t o : ℕ) (x : Item) (rest : Tree) (leaf : ℕ) (r : Option Tree) (made : Tree) → ((u : Tree) → r ≡ Some u → CopiedTo rest u leaf)
      → (r ≡ None → (IsUsedIn from rest × HasTagUpTo tag rest) × TreesExchanged name from rest (with_home (Name name) rest leaf home))
      → copied_at_item t o x rest tag name from r ≡ Some made → CopiedTo (Pending t o x rest) made leaf
  at_item t o x rest leaf (Some u) made f g e =
      let k = f u refl in
      subst (λ (m : Tree). CopiedTo (Pending t o x rest) m leaf) (one_tree (Pending t o x u) made e)
      (record { adds = behind_item t o x k.adds; uses_it = behind_item t o x k.uses_it; leaves = k.leaves })
  at_item t o x rest leaf None made f g e = by_test (writes_operand (dest_of x) from) e
    where
      by_test : (b : Bool) → (if b then Some (Pending t o x (Pending tag 0 (Copy name from) rest)) else None) ≡ Some made → CopiedTo (Pending t o x rest) made leaf
      by_test false e = absurd (cc)
      by_test true e =
          let k = g refl in
          subst (λ (m : Tree). CopiedTo (Pending t o x rest) m leaf) (one_tree (Pending t o x (Pending tag 0 (Copy name from) rest)) made e)
          (record {
            adds = behind_item t o x (here (added tag 0 from rest k.0.0 k.0.1));
            uses_it = behind_item t o x (here (below_copy tag 0 name from k.1));
            leaves = refl;
          })

  at_yes : (t o : ℕ) (on : Operand) (p q : Tree) (leaf : ℕ) (r : Option Tree) (made : Tree) → nat_lt leaf (leaf_count p) ≡ true → ((u : Tree) → r ≡ Some u → CopiedTo p u leaf)
      → on_yes_side t o on r q ≡ Some made → CopiedTo (Undecided t o on p q) made leaf
  at_yes t o on p q leaf None made b f e = absurd (cc)
  at_yes t o on p q leaf (Some u) made b f e =
      let k = f u refl in
      let there : nat_lt leaf (leaf_count u) ≡ true = ap (nat_lt leaf) k.leaves ∙ b in
      subst (λ (m : Tree). CopiedTo (Undecided t o on p q) m leaf) (one_tree (Undecided t o on u q) made e)
      (record {
        adds = in_yes_side t o on q k.adds;
        uses_it = subst (λ (c : Bool). Somewhere ExchangedHere (Undecided t o on u q)
            (if c then Undecided t o on (with_home (Name name) u leaf home) q else Undecided t o on u (with_home (Name name) q (leaf - leaf_count u) home)))
            (sym there) (in_yes_side t o on q k.uses_it);
        leaves = ap (λ (n : ℕ). n + leaf_count q) k.leaves;
      })

  at_no : (t o : ℕ) (on : Operand) (p q : Tree) (leaf : ℕ) (r : Option Tree) (made : Tree) → nat_lt leaf (leaf_count p) ≡ false → ((u : Tree) → r ≡ Some u → CopiedTo q u (leaf - leaf_count p))
      → on_no_side t o on p r ≡ Some made → CopiedTo (Undecided t o on p q) made leaf
  at_no t o on p q leaf None made b f e = absurd (cc)
  at_no t o on p q leaf (Some u) made b f e =
      let k = f u refl in
      subst (λ (m : Tree). CopiedTo (Undecided t o on p q) m leaf) (one_tree (Undecided t o on p u) made e)
      (record {
        adds = in_no_side t o on p k.adds;
        uses_it = subst (λ (c : Bool). Somewhere ExchangedHere (Undecided t o on p u)
            (if c then Undecided t o on (with_home (Name name) p leaf home) u else Undecided t o on p (with_home (Name name) u (leaf - leaf_count p) home)))
            (sym b) (in_no_side t o on p k.uses_it);
        leaves = ap (λ (n : ℕ). leaf_count p + n) k.leaves;
      })

  on_side : (b : Bool) (x y : Option Tree) (made : Tree) (Q : Type 0) → (b ≡ true → x ≡ Some made → Q) → (b ≡ false → y ≡ Some made → Q) → (if b then x else y) ≡ Some made → Q
  on_side true x y made Q f g e = f refl e
  on_side false x y made Q f g e = g refl e

  -- a home that is found stands on the side that its leaf is on
  found_on : (b c : Bool) (x y : Option FoundHome) → b ≡ c → (if b then x else y) ≡ Some (record { tag = tag; operand = from })
      → (if c then x else y) ≡ Some (record { tag = tag; operand = from })
  found_on b c x y is e = subst (λ (d : Bool). (if d then x else y) ≡ Some (record { tag = tag; operand = from })) is e

  copied_to : (tree : Tree) (leaf : ℕ) (made : Tree) → home_at tree leaf home ≡ Some (record { tag = tag; operand = from }) → copied_below tag name from tree leaf ≡ Some made → CopiedTo tree made leaf
  copied_to (Pending t o x rest) leaf made at e =
      at_item t o x rest leaf (copied_below tag name from rest leaf) made (λ u f. copied_to rest leaf u at f) (λ none. (fits rest leaf at none, given rest leaf at)) e
  copied_to (Undecided t o on p q) leaf made at e =
      on_side (nat_lt leaf (leaf_count p)) (on_yes_side t o on (copied_below tag name from p leaf) q) (on_no_side t o on p (copied_below tag name from q (leaf - leaf_count p))) made
      (CopiedTo (Undecided t o on p q) made leaf)
      (λ b f. at_yes t o on p q leaf (copied_below tag name from p leaf) made b
      (λ u g. copied_to p leaf u (found_on (nat_lt leaf (leaf_count p)) true (home_at p leaf home) (home_at q (leaf - leaf_count p) home) b at) g) f)
      (λ b f. at_no t o on p q leaf (copied_below tag name from q (leaf - leaf_count p)) made b
      (λ u g. copied_to q (leaf - leaf_count p) u (found_on (nat_lt leaf (leaf_count p)) false (home_at p leaf home) (home_at q (leaf - leaf_count p) home) b at) g) f) e
  copied_to (Exit region t homes) leaf made at e = absurd (cc)
  copied_to Stop_exit leaf made at e = absurd (cc)
  copied_to (Trap_exit kind line) leaf made at e = absurd (cc)

-- ---- one home gets a name

-- a Copy is added, and then used
pub record NamesHome (name : ℕ) (tree made named : Tree) : Type 0 where
  pub adds : Somewhere (CopyAddedHere name) tree made
  pub uses_it : Somewhere ExchangedHere made named

pub names_home : (name : ℕ) (tree : Tree) (leaf home : ℕ) (found : FoundHome) → home_at tree leaf home ≡ Some found
    → NamesHome name tree (or_at_root found.tag name found.operand tree (copied_below found.tag name found.operand tree leaf))
    (with_home (Name name) (or_at_root found.tag name found.operand tree (copied_below found.tag name found.operand tree leaf)) leaf home)
names_home name tree leaf home found at = by_place (copied_below found.tag name found.operand tree leaf) refl
  where
    by_place : (r : Option Tree) → copied_below found.tag name found.operand tree leaf ≡ r
        → NamesHome name tree (or_at_root found.tag name found.operand tree r) (with_home (Name name) (or_at_root found.tag name found.operand tree r) leaf home)
    by_place None none =
        let f = fits found.tag name found.operand home tree leaf at none in
        record {
          adds = here (added found.tag 0 found.operand tree f.0 f.1);
          uses_it = here (below_copy found.tag 0 name found.operand (given found.tag name found.operand home tree leaf at));
        }
    by_place (Some u) some = let k = copied_to found.tag name found.operand home tree leaf u at some in record { adds = k.adds; uses_it = k.uses_it }
