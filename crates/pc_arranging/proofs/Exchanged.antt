-- A Copy's name and its operand, exchanged as code goes down to a part.
use Rattle.std.proofs.Common.{◌≡◌, ◌≢◌, ◌↔◌, ℕ, suc, ◌+◌, ◌-◌, ◌<◌, ◌≤◌, Bool, true, false, List, Option, Some, None, refl, sym, ◌∙◌, ap, arith}
use Rattle.std.specs.Prelude.{ℤ, nat_eq, nat_lt, if◌then◌else◌}
use Rattle.std.specs.Ordering.{int_eq}
use Rattle.std.proofs.lemmas.Bool.Decides.{nat_tests, Decides-int_eq}
use Rattle.pc_word.proofs.Truth.{failed, held, of_most}
use Rattle.pc_word.specs.declared.item.Item.{Item}
use Rattle.pc_word.specs.declared.item.Operand.{Operand}
use Rattle.pc_word.specs.declared.item.Operand.TheVariants.{Name, Lit}
use Rattle.pc_word.specs.Items.{reads, reads_name}
use Rattle.pc_word.specs.Naming.{map_operands}
use Rattle.pc_window.specs.declared.home.Home.{Home}
use Rattle.pc_window.specs.Tree.{Tree, Pending, Undecided, Exit, Stop_exit, Trap_exit}
use Rattle.pc_window.specs.Names.{homes_use}
use Rattle.pc_window.specs.Rename.{map_homes}
use Rattle.pc_arranging.specs.Numbering.{part_count}
use Rattle.pc_arranging.specs.Exchanging.{same_operand, in_place_of, exchange, below_item, on_yes_side, on_no_side, exchanged_at, exchanged_below, used_at}
use Rattle.pc_arranging.specs.models.Doing.{tree_if}
use Rattle.pc_fill.proofs.Entered as places

-- ---- operands

-- what is the same tests the same
pub same_self : (o : Operand) → same_operand o o ≡ true
same_self (Name x) = grind (arith, nat_tests)
same_self (Lit v) = grind (arith, Decides-int_eq)

pub same_tells : (o p : Operand) → same_operand o p ≡ true → o ≡ p
same_tells (Name x) (Name y) e = let same : x ≡ y = grind (arith, nat_tests) in ap Name same
same_tells (Lit v) (Lit w) e = let same : v ≡ w = grind (arith, Decides-int_eq) in ap Lit same
same_tells (Name x) (Lit w) e = absurd (cc)
same_tells (Lit v) (Name y) e = absurd (cc)

module _ (one other operand : Operand) (b : Bool) (iff : (b ≡ true) ↔ (operand ≡ one)) where
  pub replaced : b ≡ true → other ≡ in_place_of one other operand
  replaced e =
      let test : same_operand operand one ≡ true = ap (same_operand operand) (sym (held iff e)) ∙ same_self operand in
      sym (ap (λ (c : Bool). if c then other else operand) test)

  pub kept : b ≡ false → operand ≡ in_place_of one other operand
  kept e = sym (ap (λ (c : Bool). if c then other else operand) (differs (same_operand operand one) refl))
    where
      differs : (c : Bool) → same_operand operand one ≡ c → c ≡ false
      differs true is = absurd (failed iff e (same_tells operand one is))
      differs false is = refl

pub ruleset operands = (replaced, kept)

-- ---- in one part

module _ (name : ℕ) (from : Operand) (tag origin part : ℕ) where
  pub item_here : (item : Item) (rest : Tree) → part ≡ 0
      → exchanged_at name from (Pending tag origin item rest) part ≡ tree_if true (Pending tag origin (map_operands (exchange name from (reads item name)) item) rest)
  item_here item rest e = ap (λ (n : ℕ). exchanged_at name from (Pending tag origin item rest) n) e

  pub item_below : (item : Item) (old new : Tree) (done : Bool) → part ≢ 0 → exchanged_at name from old (part - 1) ≡ tree_if done new
      → exchanged_at name from (Pending tag origin item old) part ≡ tree_if done (Pending tag origin item new)
  item_below item old new done ne is =
      let e : part ≡ suc (part - 1) = omega arith in
      places.at_below (Some (Pending tag origin (map_operands (exchange name from (reads item name)) item) old)) (λ n. below_item tag origin item (exchanged_at name from old n)) part (part - 1) e
      ∙ ap (below_item tag origin item) is ∙ made done
    where
      made : (d : Bool) → below_item tag origin item (tree_if d new) ≡ tree_if d (Pending tag origin item new)
      made true = refl
      made false = refl

  pub test_here : (on : Operand) (p q : Tree) → part ≡ 0
      → exchanged_at name from (Undecided tag origin on p q) part ≡ tree_if true (Undecided tag origin (exchange name from (reads_name on name) on) p q)
  test_here on p q e = ap (λ (n : ℕ). exchanged_at name from (Undecided tag origin on p q) n) e

  module _ (on : Operand) (p q : Tree) (n : ℕ) (count : n ≡ part_count p) (new : Tree) (done : Bool) (ne : part ≢ 0) where
    step : part ≡ suc (part - 1)
    step = omega arith

    pub test_yes : part - 1 < n → exchanged_at name from p (part - 1) ≡ tree_if done new
        → exchanged_at name from (Undecided tag origin on p q) part ≡ tree_if done (Undecided tag origin on new q)
    test_yes less is =
        places.on_yes_side (Some (Undecided tag origin (exchange name from (reads_name on name) on) p q)) (λ k. on_yes_side tag origin on (exchanged_at name from p k) q)
        (λ k. on_no_side tag origin on p (exchanged_at name from q (k - part_count p))) part (part - 1) (part_count p) step (omega arith)
        ∙ ap (λ (o : Option Tree). on_yes_side tag origin on o q) is ∙ made done
      where
        made : (d : Bool) → on_yes_side tag origin on (tree_if d new) q ≡ tree_if d (Undecided tag origin on new q)
        made true = refl
        made false = refl

    pub test_no : n ≤ part - 1 → exchanged_at name from q (part - 1 - n) ≡ tree_if done new
        → exchanged_at name from (Undecided tag origin on p q) part ≡ tree_if done (Undecided tag origin on p new)
    test_no most is =
        places.on_no_side (Some (Undecided tag origin (exchange name from (reads_name on name) on) p q)) (λ k. on_yes_side tag origin on (exchanged_at name from p k) q)
        (λ k. on_no_side tag origin on p (exchanged_at name from q (k - part_count p))) part (part - 1) (part_count p) step (omega arith)
        ∙ ap (λ (m : ℕ). on_no_side tag origin on p (exchanged_at name from q (part - 1 - m))) (sym count)
        ∙ ap (on_no_side tag origin on p) is ∙ made done
      where
        made : (d : Bool) → on_no_side tag origin on p (tree_if d new) ≡ tree_if d (Undecided tag origin on p new)
        made true = refl
        made false = refl

module _ (name : ℕ) (from : Operand) (region tag part : ℕ) (homes : List Home) where
  pub stub_here : part ≡ 0 → exchanged_at name from (Exit region tag homes) part ≡ tree_if true (Exit region tag (map_homes (exchange name from (homes_use homes name)) homes))
  stub_here e = ap (λ (n : ℕ). exchanged_at name from (Exit region tag homes) n) e

  pub no_stub : (new : Tree) → part ≢ 0 → exchanged_at name from (Exit region tag homes) part ≡ tree_if false new
  no_stub new ne =
      let e : part ≡ suc (part - 1) = omega arith in
      places.at_below (Some (Exit region tag (map_homes (exchange name from (homes_use homes name)) homes))) (λ n. None) part (part - 1) e

pub ruleset exchanging = (item_here, item_below, test_here, test_yes, test_no, stub_here, no_stub)

-- ---- below a Copy

module _ (tag origin copy part : ℕ) where
  pub not_below : (item : Item) (rest new : Tree) → copy ≡ 0 → part ≡ 0 → used_at (Pending tag origin item rest) copy part ≡ tree_if false new
  not_below item rest new e f = (λ i. used_at (Pending tag origin item rest) (e i) (f i))

  pub copy_here : (item : Item) (old new : Tree) (done : Bool) → copy ≡ 0 → part ≢ 0 → exchanged_below item old (part - 1) ≡ tree_if done new
      → used_at (Pending tag origin item old) copy part ≡ tree_if done (Pending tag origin item new)
  copy_here item old new done e ne is =
      let f : part ≡ suc (part - 1) = omega arith in
      ap (λ (n : ℕ). used_at (Pending tag origin item old) n part) e
      ∙ places.at_below None (λ n. below_item tag origin item (exchanged_below item old n)) part (part - 1) f ∙ ap (below_item tag origin item) is ∙ made done
    where
      made : (d : Bool) → below_item tag origin item (tree_if d new) ≡ tree_if d (Pending tag origin item new)
      made true = refl
      made false = refl

  pub copy_below : (item : Item) (old new : Tree) (done : Bool) → copy ≢ 0 → used_at old (copy - 1) (part - 1) ≡ tree_if done new
      → used_at (Pending tag origin item old) copy part ≡ tree_if done (Pending tag origin item new)
  copy_below item old new done ne is =
      let f : copy ≡ suc (copy - 1) = omega arith in
      places.at_below (if nat_eq part 0 then None else below_item tag origin item (exchanged_below item old (part - 1))) (λ n. below_item tag origin item (used_at old n (part - 1))) copy (copy - 1) f
      ∙ ap (below_item tag origin item) is ∙ made done
    where
      made : (d : Bool) → below_item tag origin item (tree_if d new) ≡ tree_if d (Pending tag origin item new)
      made true = refl
      made false = refl

  pub no_copy : (on : Operand) (p q new : Tree) → copy ≡ 0 → used_at (Undecided tag origin on p q) copy part ≡ tree_if false new
  no_copy on p q new e = ap (λ (n : ℕ). used_at (Undecided tag origin on p q) n part) e

  module _ (on : Operand) (p q : Tree) (n : ℕ) (count : n ≡ part_count p) (new : Tree) (done : Bool) (ne : copy ≢ 0) where
    step' : copy ≡ suc (copy - 1)
    step' = omega arith

    pub use_yes : copy - 1 < n → used_at p (copy - 1) (part - 1) ≡ tree_if done new → used_at (Undecided tag origin on p q) copy part ≡ tree_if done (Undecided tag origin on new q)
    use_yes less is =
        places.on_yes_side None (λ k. on_yes_side tag origin on (used_at p k (part - 1)) q)
        (λ k. on_no_side tag origin on p (used_at q (k - part_count p) (part - 1 - part_count p))) copy (copy - 1) (part_count p) step' (omega arith)
        ∙ ap (λ (o : Option Tree). on_yes_side tag origin on o q) is ∙ made done
      where
        made : (d : Bool) → on_yes_side tag origin on (tree_if d new) q ≡ tree_if d (Undecided tag origin on new q)
        made true = refl
        made false = refl

    pub use_no : n ≤ copy - 1 → used_at q (copy - 1 - n) (part - 1 - n) ≡ tree_if done new
        → used_at (Undecided tag origin on p q) copy part ≡ tree_if done (Undecided tag origin on p new)
    use_no most is =
        places.on_no_side None (λ k. on_yes_side tag origin on (used_at p k (part - 1)) q)
        (λ k. on_no_side tag origin on p (used_at q (k - part_count p) (part - 1 - part_count p))) copy (copy - 1) (part_count p) step' (omega arith)
        ∙ ap (λ (m : ℕ). on_no_side tag origin on p (used_at q (copy - 1 - m) (part - 1 - m))) (sym count)
        ∙ ap (on_no_side tag origin on p) is ∙ made done
      where
        made : (d : Bool) → on_no_side tag origin on p (tree_if d new) ≡ tree_if d (Undecided tag origin on p new)
        made true = refl
        made false = refl

pub ruleset using_copies = (not_below, copy_here, copy_below, no_copy, use_yes, use_no)
