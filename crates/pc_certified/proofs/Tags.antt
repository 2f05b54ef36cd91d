-- No change lowers the tags of a window: what is at least a number stays so.
use Rattle.std.proofs.Common.{◌≡◌, ℕ, suc, ◌≤◌, Bool, true, false, Option, Some, None, refl, subst, arith}
use Rattle.std.specs.Prelude.{ℤ, if◌then◌else◌, min}
use Rattle.pc_word.specs.declared.item.Item.{Item}
use Rattle.pc_word.specs.declared.item.Item.TheVariants.{Bin, Copy, Load, Store, Print, Read, More}
use Rattle.pc_word.specs.declared.item.Operand.{Operand}
use Rattle.pc_word.specs.Word.{holds}
use Rattle.pc_word.specs.Items.{operand_value}
use Rattle.pc_linear.specs.Form.{Form}
use Rattle.pc_table.specs.Table.{Table, TableTree, Does, Asks, Next, Stops_here, Traps_here, region_tree}
use Rattle.pc_window.specs.Tree.{Tree, Pending, Undecided, Exit, Stop_exit, Trap_exit, Front, Issued, Split, Unfinished, whole, home_of}
use Rattle.pc_window.specs.Names.{uses}
use Rattle.pc_window.specs.Rename.{mapped}
use Rattle.pc_window.specs.Jump.{Rises, Root, Past_item, Past_yes, Past_no, DividesTree, Root_test, Past, EntersFront, Lands, Lands_renamed, Lands_test, Lands_once, Behind_item, On_yes, On_no}
use Rattle.pc_window.specs.Move.{Moves, Into_node, Deletes, Below, On_yes_side, On_no_side}
use Rattle.pc_window.specs.Opening.{Supply, Brought, Moves_home, Gets_name, Stays_plain, brought, graft_item, graft, changed, Grafted}
use Rattle.pc_window.specs.Tidying.{tidied, above}
use Rattle.pc_window.specs.Unwinding.{lesser_tag, least_tag}
use Rattle.pc_window.proofs.Cutting.{rest_of}
use Rattle.pc_window.proofs.Unwinding.{Unwound, at_stub, below, at_yes, at_no}
use Rattle.pc_certified.proofs.Bases.{TagsFrom}

module _ (b : ℕ) where
  -- ---- moves

  from_mapped : (f : Operand → Operand) (t : Tree) → TagsFrom b t → TagsFrom b (mapped f t)
  from_mapped f (Pending tag o x rest) h = (h.0, from_mapped f rest h.1)
  from_mapped f (Undecided tag o on p q) h = (h.0, from_mapped f p h.1, from_mapped f q h.2)
  from_mapped f (Exit region tag homes) h = h
  from_mapped f Stop_exit h = tt
  from_mapped f (Trap_exit kind line) h = tt

  from_risen : {forms : ℕ → Form} {tag origin : ℕ} {stood x : Item} {crosses : Bool} {from left : Tree} → Rises forms tag origin stood x crosses from left
      → TagsFrom b from → (b ≤ tag) × TagsFrom b left
  from_risen (Root rest unwritten) h = (h.0, from_mapped _ rest h.1)
  from_risen (Past_item t o y crosses rest left clear apart rises) h = let k = from_risen rises h.1 in (k.0, (h.0, k.1))
  from_risen (Past_yes t o on crosses p q left is unwritten rises) h = let k = from_risen rises h.1 in (k.0, (h.0, k.1, h.2))
  from_risen (Past_no t o on crosses p q left is unwritten rises) h = let k = from_risen rises h.2 in (k.0, (h.0, h.1, k.1))

  from_divided : {tag origin : ℕ} {on : Operand} {from p q : Tree} → DividesTree tag origin on from p q → TagsFrom b from → (b ≤ tag) × TagsFrom b p × TagsFrom b q
  from_divided (Root_test p q) h = h
  from_divided (Past t o y rest p q divides) h = let k = from_divided divides h.1 in (k.0, (h.0, k.1), (h.0, k.2))

  from_entered : {known : ℕ → Bool} {forms forms' : ℕ → Form} {new : Option ℕ} {comes : Option Item} {from to : Front} → EntersFront known forms forms' new comes from to
      → TagsFrom b (whole from) → TagsFrom b (whole to)
  from_entered (Lands tag origin x from left reads isnew none same rises) h = from_risen rises h
  from_entered (Lands_renamed tag origin name stood from left reads isnew is gives rises) h = from_risen rises h
  from_entered (Lands_test tag origin on from p q reads none same divides) h = from_divided divides h
  from_entered (Lands_once t o on tag origin tag' origin' name stood other c c' p q l m equal reads isnew is gives rises rises') h =
      let k = from_risen rises h.1 in (k.0, (h.0, k.1, (from_risen rises' h.2).1))
  from_entered (Behind_item t o y comes rest rest' may apart enters) h = (h.0, from_entered enters h.1)
  from_entered (On_yes t o on comes p q p' apart enters) h = (h.0, from_entered enters h.1, h.2)
  from_entered (On_no t o on comes p q q' apart enters) h = (h.0, h.1, from_entered enters h.2)

  pub from_moved : {forms forms' : ℕ → Form} {new : Option ℕ} {known : ℕ → Bool} {from to : Tree} → Moves forms forms' new known from to → TagsFrom b from → TagsFrom b to
  from_moved (Into_node known comes from to enters) h = from_entered enters h
  from_moved (Deletes known tag origin x rest is unused none same) h = h.1
  from_moved (Below known t o y rest rest' apart moves) h = (h.0, from_moved moves h.1)
  from_moved (On_yes_side known t o on p q p' apart moves) h = (h.0, from_moved moves h.1, h.2)
  from_moved (On_no_side known t o on p q q' apart moves) h = (h.0, h.1, from_moved moves h.2)

  -- ---- tidying

  from_if : (dest tag o : ℕ) (x : Item) (rest : Tree) (c : Bool) → (b ≤ tag) × TagsFrom b rest → TagsFrom b (if c then Pending tag o x rest else rest)
  from_if dest tag o x rest true h = h
  from_if dest tag o x rest false h = h.1

  from_above : (tag o : ℕ) (x : Item) (rest : Tree) → (b ≤ tag) × TagsFrom b rest → TagsFrom b (above tag o x rest)
  from_above tag o (Bin op d l r) rest h = from_if d tag o (Bin op d l r) rest (uses rest d) h
  from_above tag o (Copy d f) rest h = h
  from_above tag o (Load d a i) rest h = from_if d tag o (Load d a i) rest (uses rest d) h
  from_above tag o (Store a i v) rest h = h
  from_above tag o (Print v) rest h = h
  from_above tag o (Read d) rest h = h
  from_above tag o (More d) rest h = from_if d tag o (More d) rest (uses rest d) h

  pub from_tidied : (t : Tree) → TagsFrom b t → TagsFrom b (tidied t)
  from_tidied (Pending tag o x rest) h = from_above tag o x (tidied rest) (h.0, from_tidied rest h.1)
  from_tidied (Undecided tag o on p q) h = (h.0, from_tidied p h.1, from_tidied q h.2)
  from_tidied (Exit region tag homes) h = h
  from_tidied Stop_exit h = tt
  from_tidied (Trap_exit kind line) h = tt

  -- ---- unwinding

  from_stub : (c : Bool) (tag : ℕ) → b ≤ tag → b ≤ (if c then suc tag else tag)
  from_stub true tag h = omega (arith, h)
  from_stub false tag h = h

  module _ (table : Table) (loop : Option ℕ) (tag : ℕ) (le : b ≤ tag) where
    from_grafted_item : (origin : ℕ) (names : Supply) (homes : ℕ → Operand) (rest : Supply → (ℕ → Operand) → Grafted)
        → ((n : Supply) (h : ℕ → Operand) → TagsFrom b (rest n h).tree)
        → (br : Brought) → TagsFrom b (graft_item tag origin br names homes rest).tree
    from_grafted_item origin names homes rest next (Moves_home variable from) = next names (changed homes variable from)
    from_grafted_item origin names homes rest next (Gets_name variable item form) = (le, next _ _)
    from_grafted_item origin names homes rest next (Stays_plain item) = (le, next names homes)

    from_grafted : (tree : TableTree) (names : Supply) (homes : ℕ → Operand) → TagsFrom b (graft table loop tag tree names homes).tree
    from_grafted (Does origin item rest) names homes = from_grafted_item origin names homes (graft table loop tag rest) (λ n h. from_grafted rest n h) (brought names homes item)
    from_grafted (Asks origin on p q) names homes = (le, from_grafted p names homes, from_grafted q (graft table loop tag p names homes).names homes)
    from_grafted (Next region) names homes = from_stub _ tag le
    from_grafted Stops_here names homes = tt
    from_grafted (Traps_here kind line) names homes = tt

  pub from_unwound : (table : Table) (loop : Option ℕ) (names after : Supply) {t u : Tree} → Unwound table loop names after t u → TagsFrom b t → TagsFrom b u
  from_unwound table loop names after (at_stub region tag homes tree is kept) h =
      subst (λ (u : Tree). TagsFrom b u) is (from_grafted table loop tag h (region_tree table region) names (home_of homes))
  from_unwound table loop names after (below tag origin item u) h = (h.0, from_unwound table loop names after u h.1)
  from_unwound table loop names after (at_yes tag origin on other u) h = (h.0, from_unwound table loop names after u h.1, h.2)
  from_unwound table loop names after (at_no tag origin on one u) h = (h.0, h.1, from_unwound table loop names after u h.2)

  -- ---- cutting

  pub from_rest : (names : ℕ → ℤ) (front : Front) → TagsFrom b (whole front) → TagsFrom b (rest_of names front)
  from_rest names (Issued tag o x rest) h = from_rest names rest h.1
  from_rest names (Split tag o on p q) h = by_side (holds (operand_value names on)) (from_rest names p h.1) (from_rest names q h.2)
    where
      by_side : (c : Bool) → TagsFrom b (rest_of names p) → TagsFrom b (rest_of names q) → TagsFrom b (if c then rest_of names p else rest_of names q)
      by_side true h k = h
      by_side false h k = k
  from_rest names (Unfinished rest) h = h

  -- ---- the least tag

  lesser_from : (x y : Option ℕ) (m : ℕ) → ((n : ℕ) → x ≡ Some n → b ≤ n) → ((n : ℕ) → y ≡ Some n → b ≤ n) → lesser_tag x y ≡ Some m → b ≤ m
  lesser_from None y m h k e = k m e
  lesser_from (Some a) None m h k e = h m e
  lesser_from (Some a) (Some c) m h k e =
      let p = h a refl in
      let q = k c refl in
      let is : min a c ≡ m = cc in
      omega (arith, p, q, is)

  pub least_from : (t : Tree) (m : ℕ) → TagsFrom b t → least_tag t ≡ Some m → b ≤ m
  least_from (Pending tag o x rest) m h e =
      lesser_from (Some tag) (least_tag rest) m (λ n d. let is : tag ≡ n = cc in let le = h.0 in omega (arith, is, le)) (λ n d. least_from rest n h.1 d) e
  least_from (Undecided tag o on p q) m h e =
      lesser_from (Some tag) (lesser_tag (least_tag p) (least_tag q)) m (λ n d. let is : tag ≡ n = cc in let le = h.0 in omega (arith, is, le))
      (λ n d. lesser_from (least_tag p) (least_tag q) n (λ k g. least_from p k h.1 g) (λ k g. least_from q k h.2 g) d) e
  least_from (Exit region tag homes) m h e = let is : tag ≡ m = cc in omega (arith, is, h)
  least_from Stop_exit m h e = absurd (cc)
  least_from (Trap_exit kind line) m h e = absurd (cc)
