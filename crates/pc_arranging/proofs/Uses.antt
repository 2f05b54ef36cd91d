-- Where a Copy is used in one part, its name and its operand are exchanged below it.
use Rattle.std.proofs.Common.{◌≡◌, ℕ, ◌-◌, Bool, true, false, List, [], ◌∷◌, Option, Some, None, refl, sym, ap, subst}
use Rattle.std.specs.Prelude.{nat_eq, nat_lt, if◌then◌else◌}
use Rattle.pc_word.specs.declared.item.Item.{Item}
use Rattle.pc_word.specs.declared.item.Item.TheVariants.{Bin, Copy, Load, Store, Print, Read, More}
use Rattle.pc_word.specs.declared.item.Operand.{Operand}
use Rattle.pc_word.specs.declared.item.Operand.TheVariants.{Name, Lit}
use Rattle.pc_word.specs.Items.{reads, reads_name}
use Rattle.pc_word.specs.Naming.{map_operands}
use Rattle.pc_window.specs.declared.home.Home.{Home}
use Rattle.pc_window.specs.Tree.{Tree, Pending, Undecided, Exit, Stop_exit, Trap_exit}
use Rattle.pc_window.specs.Names.{homes_use}
use Rattle.pc_window.specs.Rename.{map_homes}
use Rattle.pc_certified.specs.Somewhere.{Somewhere, here, behind_item, in_yes_side, in_no_side}
use Rattle.pc_certified.specs.Copies.{SameOrCopied, same, to_name, from_name, ItemsExchanged, in_bin, in_copy, in_load, in_store, in_print, in_read, in_more}
use Rattle.pc_certified.specs.Copies.{HomesExchanged, no_home, one_home, TreesExchanged, in_item, in_test, in_stub, in_stop, in_trap, ExchangedHere, below_copy}
use Rattle.pc_arranging.specs.Numbering.{part_count}
use Rattle.pc_arranging.specs.Exchanging.{same_operand, in_place_of, exchange, below_item, on_yes_side, on_no_side, exchanged_at, exchanged_below, used_at}
use Rattle.pc_arranging.proofs.Exchanged.{same_tells}

-- ---- operands, items, homes

module _ (name : ℕ) (from : Operand) where
  pub operand_exchanged : (b : Bool) (o : Operand) → SameOrCopied name from o (exchange name from b o)
  operand_exchanged true o = by_test (same_operand o (Name name)) refl
    where
      by_test : (c : Bool) → same_operand o (Name name) ≡ c → SameOrCopied name from o (if c then from else o)
      by_test true e = subst (λ (p : Operand). SameOrCopied name from p from) (sym (same_tells o (Name name) e)) from_name
      by_test false e = same o
  operand_exchanged false o = by_test (same_operand o from) refl
    where
      by_test : (c : Bool) → same_operand o from ≡ c → SameOrCopied name from o (if c then Name name else o)
      by_test true e = subst (λ (p : Operand). SameOrCopied name from p (Name name)) (sym (same_tells o from e)) to_name
      by_test false e = same o

  items_exchanged : (f : Operand → Operand) → ((o : Operand) → SameOrCopied name from o (f o)) → (x : Item) → ItemsExchanged name from x (map_operands f x)
  items_exchanged f h (Bin op dest left right) = in_bin op dest (h left) (h right)
  items_exchanged f h (Copy dest of) = in_copy dest (h of)
  items_exchanged f h (Load dest array index) = in_load dest array (h index)
  items_exchanged f h (Store array index value) = in_store array (h index) (h value)
  items_exchanged f h (Print value) = in_print (h value)
  items_exchanged f h (Read dest) = in_read dest
  items_exchanged f h (More dest) = in_more dest

  pub same_item : (x : Item) → ItemsExchanged name from x x
  same_item (Bin op dest left right) = in_bin op dest (same left) (same right)
  same_item (Copy dest of) = in_copy dest (same of)
  same_item (Load dest array index) = in_load dest array (same index)
  same_item (Store array index value) = in_store array (same index) (same value)
  same_item (Print value) = in_print (same value)
  same_item (Read dest) = in_read dest
  same_item (More dest) = in_more dest

  homes_exchanged : (f : Operand → Operand) → ((o : Operand) → SameOrCopied name from o (f o)) → (homes : List Home) → HomesExchanged name from homes (map_homes f homes)
  homes_exchanged f h [] = no_home
  homes_exchanged f h (home ∷ homes) = one_home home.variable (h home.value) (homes_exchanged f h homes)

  pub same_homes : (homes : List Home) → HomesExchanged name from homes homes
  same_homes [] = no_home
  same_homes (home ∷ homes) = one_home home.variable (same home.value) (same_homes homes)

  pub same_tree : (tree : Tree) → TreesExchanged name from tree tree
  same_tree (Pending t o x rest) = in_item t o (same_item x) (same_tree rest)
  same_tree (Undecided t o on p q) = in_test t o (same on) (same_tree p) (same_tree q)
  same_tree (Exit region tag homes) = in_stub region tag (same_homes homes)
  same_tree Stop_exit = in_stop
  same_tree (Trap_exit kind line) = in_trap kind line

-- ---- trees

one_tree : (t u : Tree) → Some t ≡ Some u → t ≡ u
one_tree t u e = cc

-- what holds of a tree that was made, below an item or a test
module _ (P : Tree → Type 0) (Q : Tree → Type 0) where
  made_below : (t o : ℕ) (x : Item) (r : Option Tree) (made : Tree) → ((u : Tree) → r ≡ Some u → P u) → ((u : Tree) → P u → Q (Pending t o x u)) → below_item t o x r ≡ Some made → Q made
  made_below t o x None made f g e = absurd (cc)
  made_below t o x (Some u) made f g e = subst Q (one_tree (Pending t o x u) made e) (g u (f u refl))

  made_yes : (t o : ℕ) (on : Operand) (q : Tree) (r : Option Tree) (made : Tree) → ((u : Tree) → r ≡ Some u → P u) → ((u : Tree) → P u → Q (Undecided t o on u q))
      → on_yes_side t o on r q ≡ Some made → Q made
  made_yes t o on q None made f g e = absurd (cc)
  made_yes t o on q (Some u) made f g e = subst Q (one_tree (Undecided t o on u q) made e) (g u (f u refl))

  made_no : (t o : ℕ) (on : Operand) (p : Tree) (r : Option Tree) (made : Tree) → ((u : Tree) → r ≡ Some u → P u) → ((u : Tree) → P u → Q (Undecided t o on p u))
      → on_no_side t o on p r ≡ Some made → Q made
  made_no t o on p None made f g e = absurd (cc)
  made_no t o on p (Some u) made f g e = subst Q (one_tree (Undecided t o on p u) made e) (g u (f u refl))

-- one of two, as a test goes
either : (b : Bool) (x y : Option Tree) (made : Tree) (Q : Type 0) → (x ≡ Some made → Q) → (y ≡ Some made → Q) → (if b then x else y) ≡ Some made → Q
either true x y made Q f g e = f e
either false x y made Q f g e = g e

exchanged_tree : (name : ℕ) (from : Operand) (tree : Tree) (part : ℕ) (made : Tree) → exchanged_at name from tree part ≡ Some made → TreesExchanged name from tree made
exchanged_tree name from (Pending t o x rest) part made e =
    let f = exchange name from (reads x name) in
    either (nat_eq part 0) (Some (Pending t o (map_operands f x) rest)) (below_item t o x (exchanged_at name from rest (part - 1))) made (TreesExchanged name from (Pending t o x rest) made)
    (λ e. subst (TreesExchanged name from (Pending t o x rest)) (one_tree (Pending t o (map_operands f x) rest) made e)
    (in_item t o (items_exchanged name from f (operand_exchanged name from (reads x name)) x) (same_tree name from rest)))
    (made_below (TreesExchanged name from rest) (TreesExchanged name from (Pending t o x rest)) t o x (exchanged_at name from rest (part - 1)) made
    (λ u h. exchanged_tree name from rest (part - 1) u h) (λ u h. in_item t o (same_item name from x) h)) e
exchanged_tree name from (Undecided t o on p q) part made e =
    let f = exchange name from (reads_name on name) in
    either (nat_eq part 0) (Some (Undecided t o (f on) p q))
    (if nat_lt (part - 1) (part_count p) then on_yes_side t o on (exchanged_at name from p (part - 1)) q else on_no_side t o on p (exchanged_at name from q (part - 1 - part_count p)))
    made (TreesExchanged name from (Undecided t o on p q) made)
    (λ e. subst (TreesExchanged name from (Undecided t o on p q)) (one_tree (Undecided t o (f on) p q) made e)
    (in_test t o (operand_exchanged name from (reads_name on name) on) (same_tree name from p) (same_tree name from q)))
    (either (nat_lt (part - 1) (part_count p)) (on_yes_side t o on (exchanged_at name from p (part - 1)) q) (on_no_side t o on p (exchanged_at name from q (part - 1 - part_count p))) made
    (TreesExchanged name from (Undecided t o on p q) made)
    (made_yes (TreesExchanged name from p) (TreesExchanged name from (Undecided t o on p q)) t o on q (exchanged_at name from p (part - 1)) made
    (λ u h. exchanged_tree name from p (part - 1) u h) (λ u h. in_test t o (same on) h (same_tree name from q)))
    (made_no (TreesExchanged name from q) (TreesExchanged name from (Undecided t o on p q)) t o on p (exchanged_at name from q (part - 1 - part_count p)) made
    (λ u h. exchanged_tree name from q (part - 1 - part_count p) u h) (λ u h. in_test t o (same on) (same_tree name from p) h))) e
exchanged_tree name from (Exit region tag homes) part made e =
    let f = exchange name from (homes_use homes name) in
    either (nat_eq part 0) (Some (Exit region tag (map_homes f homes))) None made (TreesExchanged name from (Exit region tag homes) made)
    (λ e. subst (TreesExchanged name from (Exit region tag homes)) (one_tree (Exit region tag (map_homes f homes)) made e)
    (in_stub region tag (homes_exchanged name from f (operand_exchanged name from (homes_use homes name)) homes)))
    (λ e. absurd (cc)) e
exchanged_tree name from Stop_exit part made e = absurd (cc)
exchanged_tree name from (Trap_exit kind line) part made e = absurd (cc)

-- below an item that is a Copy
exchanged_here : (t o : ℕ) (x : Item) (rest : Tree) (part : ℕ) (made : Tree) → exchanged_below x rest part ≡ Some made → Somewhere ExchangedHere (Pending t o x rest) (Pending t o x made)
exchanged_here t o (Bin op dest left right) rest part made e = absurd (cc)
exchanged_here t o (Copy dest of) rest part made e = here (below_copy t o dest of (exchanged_tree dest of rest part made e))
exchanged_here t o (Load dest array index) rest part made e = absurd (cc)
exchanged_here t o (Store array index value) rest part made e = absurd (cc)
exchanged_here t o (Print value) rest part made e = absurd (cc)
exchanged_here t o (Read dest) rest part made e = absurd (cc)
exchanged_here t o (More dest) rest part made e = absurd (cc)

pub used_somewhere : (tree : Tree) (copy part : ℕ) (made : Tree) → used_at tree copy part ≡ Some made → Somewhere ExchangedHere tree made
used_somewhere (Pending t o x rest) copy part made e =
    either (nat_eq copy 0) (if nat_eq part 0 then None else below_item t o x (exchanged_below x rest (part - 1))) (below_item t o x (used_at rest (copy - 1) (part - 1))) made
    (Somewhere ExchangedHere (Pending t o x rest) made)
    (either (nat_eq part 0) None (below_item t o x (exchanged_below x rest (part - 1))) made (Somewhere ExchangedHere (Pending t o x rest) made)
    (λ e. absurd (cc))
    (made_below (λ u. Somewhere ExchangedHere (Pending t o x rest) (Pending t o x u)) (Somewhere ExchangedHere (Pending t o x rest)) t o x (exchanged_below x rest (part - 1)) made
    (λ u h. exchanged_here t o x rest (part - 1) u h) (λ u h. h)))
    (made_below (Somewhere ExchangedHere rest) (Somewhere ExchangedHere (Pending t o x rest)) t o x (used_at rest (copy - 1) (part - 1)) made
    (λ u h. used_somewhere rest (copy - 1) (part - 1) u h) (λ u h. behind_item t o x h)) e
used_somewhere (Undecided t o on p q) copy part made e =
    either (nat_eq copy 0) None
    (if nat_lt (copy - 1) (part_count p) then on_yes_side t o on (used_at p (copy - 1) (part - 1)) q else on_no_side t o on p (used_at q (copy - 1 - part_count p) (part - 1 - part_count p)))
    made (Somewhere ExchangedHere (Undecided t o on p q) made)
    (λ e. absurd (cc))
    (either (nat_lt (copy - 1) (part_count p)) (on_yes_side t o on (used_at p (copy - 1) (part - 1)) q) (on_no_side t o on p (used_at q (copy - 1 - part_count p) (part - 1 - part_count p))) made
    (Somewhere ExchangedHere (Undecided t o on p q) made)
    (made_yes (Somewhere ExchangedHere p) (Somewhere ExchangedHere (Undecided t o on p q)) t o on q (used_at p (copy - 1) (part - 1)) made
    (λ u h. used_somewhere p (copy - 1) (part - 1) u h) (λ u h. in_yes_side t o on q h))
    (made_no (Somewhere ExchangedHere q) (Somewhere ExchangedHere (Undecided t o on p q)) t o on p (used_at q (copy - 1 - part_count p) (part - 1 - part_count p)) made
    (λ u h. used_somewhere q (copy - 1 - part_count p) (part - 1 - part_count p) u h) (λ u h. in_no_side t o on p h))) e
used_somewhere (Exit region tag homes) copy part made e = absurd (cc)
used_somewhere Stop_exit copy part made e = absurd (cc)
used_somewhere (Trap_exit kind line) copy part made e = absurd (cc)
