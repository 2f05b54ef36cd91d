-- There is one first jump, and so filling leads to one window; and unwinding to one tree.
use Rattle.std.proofs.Common.{◌≡◌, ℕ, ◌<◌, inl, inr, Option, Some, None, refl, sym, ◌∙◌, ap, subst, arith}
use Rattle.std.specs.Prelude.{Bool, true, false, is_none}
use Rattle.pc_word.specs.declared.item.Item.{Item}
use Rattle.pc_word.specs.declared.item.Item.TheVariants.{Bin, Copy, Load, Store, Print, Read, More}
use Rattle.pc_word.specs.declared.item.Operand.{Operand}
use Rattle.pc_word.specs.Items.{dest_of}
use Rattle.pc_table.specs.Table.{Table}
use Rattle.pc_window.specs.Steps.{window_of, grafted_of}
use Rattle.pc_window.specs.Laws.{UnwindingHasOneEnd}
use Rattle.pc_window.specs.Opening.{Grafted}
use Rattle.pc_window.specs.Unwinding.{Unwinds, unwinds_no_more, unwinds_once}
use Rattle.pc_linear.specs.Form.{Form}
use Rattle.pc_window.specs.Tree.{Tree, Pending, Undecided, Front, Issued, Split, Unfinished, whole, tree_size}
use Rattle.pc_window.specs.Rename.{mapped}
use Rattle.pc_window.specs.WindowRun.{Window, supply_of}
use Rattle.pc_window.specs.Jump.{Rises, Root, Past_item, Past_yes, Past_no, DividesTree, Root_test, Past, EntersFront, Lands, Lands_renamed, Lands_test, Lands_once, Behind_item, On_yes, On_no}
use Rattle.pc_window.specs.Filled.{Priority, risen_place, divided_place, priority_of, InOrder, given_supply, IsNext, Jump, IsFirstJump, Filled, Full, Goes_on}
use Rattle.pc_word.specs.Naming.{renamed, with_dest}

-- ---- places

risen_within : (forms : ℕ → Form) (tag origin : ℕ) (stood x : Item) (crosses : Bool) (from left : Tree)
    → (r : Rises forms tag origin stood x crosses from left) → risen_place r < tree_size from
risen_within forms tag origin stood x crosses from left (Root rest unwritten) = omega arith
risen_within forms tag origin stood x crosses from left (Past_item t o y c rest left' clear apart rises) = let a = risen_within forms tag origin stood x c rest left' rises in omega arith
risen_within forms tag origin stood x crosses from left (Past_yes t o on c p q left' is unwritten rises) = let a = risen_within forms tag origin stood x c p left' rises in omega arith
risen_within forms tag origin stood x crosses from left (Past_no t o on c p q left' is unwritten rises) = let a = risen_within forms tag origin stood x c q left' rises in omega arith

divided_within : (tag origin : ℕ) (on : Operand) (from p q : Tree) → (d : DividesTree tag origin on from p q) → divided_place d < tree_size from
divided_within tag origin on from p q (Root_test p' q') = omega arith
divided_within tag origin on from p q (Past t o y rest p' q' divides) = let a = divided_within tag origin on rest p' q' divides in omega arith

-- ---- one place, one item

pub record SameRise (tag origin tag' origin' : ℕ) (stood x stood' x' : Item) (crosses crosses' : Bool) (left left' : Tree) : Type 0 where
  pub tags : tag ≡ tag'
  pub origins : origin ≡ origin'
  pub items : stood ≡ stood'
  pub both_cross : crosses ≡ crosses'
  pub lefts : dest_of x ≡ dest_of x' → left ≡ left'

rise_same : (forms : ℕ → Form) (tag origin tag' origin' : ℕ) (stood x stood' x' : Item) (crosses crosses' : Bool) (from left left' : Tree)
    → (r : Rises forms tag origin stood x crosses from left) → (r' : Rises forms tag' origin' stood' x' crosses' from left') → risen_place r ≡ risen_place r'
    → SameRise tag origin tag' origin' stood x stood' x' crosses crosses' left left'
rise_same forms tag origin tag' origin' stood x stood' x' crosses crosses' from left left' (Root rest unwritten) (Root rest' unwritten') e =
    record { tags = refl; origins = refl; items = refl; both_cross = refl; lefts = λ d. ap (λ (n : Option ℕ). mapped (renamed (dest_of stood) n) rest) d }
rise_same forms tag origin tag' origin' stood x stood' x' crosses crosses' from left left' (Root rest unwritten) (Past_item t o y c rest' l clear apart rises) e = absurd (omega arith)
rise_same forms tag origin tag' origin' stood x stood' x' crosses crosses' from left left' (Past_item t o y c rest l clear apart rises) (Root rest' unwritten) e = absurd (omega arith)
rise_same forms tag origin tag' origin' stood x stood' x' crosses crosses' from left left' (Past_item t o y c rest l clear apart rises) (Past_item t' o' y' c' rest' l' clear' apart' rises') e =
    let k = rise_same forms tag origin tag' origin' stood x stood' x' c c' rest l l' rises rises' (omega arith) in
    record { tags = k.tags; origins = k.origins; items = k.items; both_cross = k.both_cross; lefts = λ d. ap (λ (u : Tree). Pending t o y u) (k.lefts d) }
rise_same forms tag origin tag' origin' stood x stood' x' crosses crosses' from left left' (Past_yes t o on c p q l is unwritten rises) (Past_yes t' o' on' c' p' q' l' is' unwritten' rises') e =
    let k = rise_same forms tag origin tag' origin' stood x stood' x' c c' p l l' rises rises' (omega arith) in
    record { tags = k.tags; origins = k.origins; items = k.items; both_cross = refl; lefts = λ d. ap (λ (u : Tree). Undecided t o on u q) (k.lefts d) }
rise_same forms tag origin tag' origin' stood x stood' x' crosses crosses' from left left' (Past_no t o on c p q l is unwritten rises) (Past_no t' o' on' c' p' q' l' is' unwritten' rises') e =
    let k = rise_same forms tag origin tag' origin' stood x stood' x' c c' q l l' rises rises' (omega arith) in
    record { tags = k.tags; origins = k.origins; items = k.items; both_cross = refl; lefts = λ d. ap (λ (u : Tree). Undecided t o on p u) (k.lefts d) }
rise_same forms tag origin tag' origin' stood x stood' x' crosses crosses' from left left' (Past_yes t o on c p q l is unwritten rises) (Past_no t' o' on' c' p' q' l' is' unwritten' rises') e =
    absurd (let a = risen_within forms tag origin stood x c p l rises in omega arith)
rise_same forms tag origin tag' origin' stood x stood' x' crosses crosses' from left left' (Past_no t o on c p q l is unwritten rises) (Past_yes t' o' on' c' p' q' l' is' unwritten' rises') e =
    absurd (let a = risen_within forms tag' origin' stood' x' c' p l' rises' in omega arith)

-- one place is not an item's and a test's
rise_or_divide : (forms : ℕ → Form) (tag origin tag' origin' : ℕ) (stood x : Item) (on : Operand) (crosses : Bool) (from left p q : Tree)
    → (r : Rises forms tag origin stood x crosses from left) → (d : DividesTree tag' origin' on from p q) → risen_place r ≡ divided_place d → ⊥
rise_or_divide forms tag origin tag' origin' stood x on crosses from left p q (Root rest unwritten) (Past t o y rest' p' q' divides) e = absurd (omega arith)
rise_or_divide forms tag origin tag' origin' stood x on crosses from left p q (Past_item t o y c rest l clear apart rises) (Past t' o' y' rest' p' q' divides) e =
    rise_or_divide forms tag origin tag' origin' stood x on c rest l p' q' rises divides (omega arith)
rise_or_divide forms tag origin tag' origin' stood x on crosses from left p q (Past_yes t o on' c a b l is unwritten rises) (Root_test p' q') e = absurd (omega arith)
rise_or_divide forms tag origin tag' origin' stood x on crosses from left p q (Past_no t o on' c a b l is unwritten rises) (Root_test p' q') e = absurd (omega arith)

-- a tree is divided in one way
pub record SameDivide (tag origin tag' origin' : ℕ) (on on' : Operand) (p q p' q' : Tree) : Type 0 where
  pub tags : tag ≡ tag'
  pub origins : origin ≡ origin'
  pub tests : on ≡ on'
  pub yes_sides : p ≡ p'
  pub no_sides : q ≡ q'

divide_same : (tag origin tag' origin' : ℕ) (on on' : Operand) (from p q p' q' : Tree) → DividesTree tag origin on from p q → DividesTree tag' origin' on' from p' q'
    → SameDivide tag origin tag' origin' on on' p q p' q'
divide_same tag origin tag' origin' on on' from p q p' q' (Root_test a b) (Root_test a' b') = record { tags = refl; origins = refl; tests = refl; yes_sides = refl; no_sides = refl }
divide_same tag origin tag' origin' on on' from p q p' q' (Past t o y rest a b divides) (Past t' o' y' rest' a' b' divides') =
    let k = divide_same tag origin tag' origin' on on' rest a b a' b' divides divides' in
    record { tags = k.tags; origins = k.origins; tests = k.tests; yes_sides = ap (λ (u : Tree). Pending t o y u) k.yes_sides; no_sides = ap (λ (u : Tree). Pending t o y u) k.no_sides }

-- an item with one name or another, where the name shows
with_dest_same : (n m : ℕ) (x : Item) → dest_of (with_dest n x) ≡ dest_of (with_dest m x) → with_dest n x ≡ with_dest m x
with_dest_same n m (Bin op d l r) e = let same : n ≡ m = cc in ap (λ (k : ℕ). Bin op k l r) same
with_dest_same n m (Copy d from) e = let same : n ≡ m = cc in ap (λ (k : ℕ). Copy k from) same
with_dest_same n m (Load d a i) e = let same : n ≡ m = cc in ap (λ (k : ℕ). Load k a i) same
with_dest_same n m (Store a i v) e = refl
with_dest_same n m (Print v) e = refl
with_dest_same n m (Read d) e = let same : n ≡ m = cc in ap (λ (k : ℕ). Read k) same
with_dest_same n m (More d) e = let same : n ≡ m = cc in ap (λ (k : ℕ). More k) same

-- ---- one priority, one entry

priority_within : (known : ℕ → Bool) (forms forms' : ℕ → Form) (new : Option ℕ) (comes : Option Item) (from to : Front)
    → (e : EntersFront known forms forms' new comes from to) → (priority_of e).2 < tree_size (whole from)
priority_within known forms forms' new comes from to (Lands tag origin x t left reads isnew none same rises) = risen_within forms tag origin x x false t left rises
priority_within known forms forms' new comes from to (Lands_renamed tag origin name stood t left reads isnew is gives rises) =
    risen_within forms tag origin stood (with_dest name stood) true t left rises
priority_within known forms forms' new comes from to (Lands_test tag origin on t p q reads none same divides) = divided_within tag origin on t p q divides
priority_within known forms forms' new comes from to (Lands_once t o on tag origin tag' origin' name stood other c c' p q l m equal reads isnew is gives rises rises') =
    let a = risen_within forms tag origin stood (with_dest name stood) c p l rises in omega arith
priority_within known forms forms' new comes from to (Behind_item t o y c rest rest' may apart enters) = let a = priority_within known forms forms' new c rest rest' enters in omega arith
priority_within known forms forms' new comes from to (On_yes t o on c p q p' apart enters) = let a = priority_within known forms forms' new c p p' enters in omega arith
priority_within known forms forms' new comes from to (On_no t o on c p q q' apart enters) = let a = priority_within known forms forms' new c q q' enters in omega arith

-- what comes from right behind a leaf is no twin
no_twin : (known : ℕ → Bool) (forms forms' : ℕ → Form) (new : Option ℕ) (comes : Option Item) (t : Tree) (to : Front)
    → (e : EntersFront known forms forms' new comes (Unfinished t) to) → (priority_of e).3 ≡ 1
no_twin known forms forms' new comes t to (Lands tag origin x t' left reads isnew none same rises) = refl
no_twin known forms forms' new comes t to (Lands_renamed tag origin name stood t' left reads isnew is gives rises) = refl
no_twin known forms forms' new comes t to (Lands_test tag origin on t' p q reads none same divides) = refl

abbrev SameEntry : Option Item → Option Item → Front → Front → Type 0
SameEntry comes comes' to to' = (comes ≡ comes') × (to ≡ to')

landed : (tag origin tag' origin' : ℕ) (x x' : Item) (left left' : Tree) → tag ≡ tag' → origin ≡ origin' → x ≡ x' → left ≡ left'
    → SameEntry (Some x) (Some x') (Issued tag origin x (Unfinished left)) (Issued tag' origin' x' (Unfinished left'))
landed tag origin tag' origin' x x' left left' a b c d = (ap Some c, λ i. Issued (a i) (b i) (c i) (Unfinished (d i)))

-- names that two items get, where one new name is given
same_name : (new new' : Option ℕ) (name name' : ℕ) (stood stood' : Item) → new ≡ dest_of (with_dest name stood) → new' ≡ dest_of (with_dest name' stood') → new ≡ new'
    → stood ≡ stood' → with_dest name stood ≡ with_dest name' stood'
same_name new new' name name' stood stood' p q e same =
    with_dest_same name name' stood (sym p ∙ e ∙ q ∙ ap (λ (x : Item). dest_of (with_dest name' x)) (sym same)) ∙ ap (λ (x : Item). with_dest name' x) same

dest_kind : (n m : ℕ) (x : Item) → is_none (dest_of (with_dest n x)) ≡ is_none (dest_of (with_dest m x))
dest_kind n m (Bin op d l r) = refl
dest_kind n m (Copy d from) = refl
dest_kind n m (Load d a i) = refl
dest_kind n m (Store a i v) = refl
dest_kind n m (Print v) = refl
dest_kind n m (Read d) = refl
dest_kind n m (More d) = refl

-- both get the next name, or neither gets one
same_next : (next : ℕ) (new new' : Option ℕ) (name name' : ℕ) (stood stood' : Item) → new ≡ dest_of (with_dest name stood) → new' ≡ dest_of (with_dest name' stood')
    → stood ≡ stood' → IsNext next new → IsNext next new' → new ≡ new'
same_next next new new' name name' stood stood' p q same u u' =
    by_kind new new' (ap (λ (d : Option ℕ). is_none d) p ∙ dest_kind name name' stood
    ∙ ap (λ (x : Item). is_none (dest_of (with_dest name' x))) same ∙ sym (ap (λ (d : Option ℕ). is_none d) q)) u u'
  where
    by_kind : (a b : Option ℕ) → is_none a ≡ is_none b → IsNext next a → IsNext next b → a ≡ b
    by_kind (Some a) (Some b) e u v = ap Some (u ∙ sym v)
    by_kind None None e u v = refl
    by_kind (Some a) None e u v = absurd (cc)
    by_kind None (Some b) e u v = absurd (cc)

enters_same : (known : ℕ → Bool) (forms f g : ℕ → Form) (new new' : Option ℕ) (comes comes' : Option Item) (from to to' : Front)
    → (e : EntersFront known forms f new comes from to) → (e' : EntersFront known forms g new' comes' from to')
    → (priority_of e).2 ≡ (priority_of e').2 → (priority_of e).3 ≡ (priority_of e').3 → (priority_of e).4 ≡ (priority_of e').4 → (next : ℕ) → IsNext next new
    → IsNext next new' → (new ≡ new') × SameEntry comes comes' to to'
enters_same known forms f g new new' comes comes' from to to' (Lands tag origin x t left reads isnew none same rises)
    (Lands tag' origin' x' t' left' reads' isnew' none' same' rises') p q r next u u' =
    let k = rise_same forms tag origin tag' origin' x x x' x' false false t left left' rises rises' p in
    (none ∙ sym none', landed tag origin tag' origin' x x' left left' k.tags k.origins k.items (k.lefts (ap dest_of k.items)))
enters_same known forms f g new new' comes comes' from to to' (Lands tag origin x t left reads isnew none same rises)
    (Lands_renamed tag' origin' name stood t' left' reads' isnew' is gives rises') p q r next u u' =
    absurd (let k = rise_same forms tag origin tag' origin' x x stood (with_dest name stood) false true t left left' rises rises' p in let h = k.both_cross in cc)
enters_same known forms f g new new' comes comes' from to to' (Lands tag origin x t left reads isnew none same rises) (Lands_test tag' origin' on t' a b reads' none' same' divides) p q r next u u' =
    absurd (rise_or_divide forms tag origin tag' origin' x x on false t left a b rises divides p)
enters_same known forms f g new new' comes comes' from to to' (Lands_renamed tag origin name stood t left reads isnew is gives rises)
    (Lands tag' origin' x' t' left' reads' isnew' none' same' rises') p q r next u u' =
    absurd (let k = rise_same forms tag origin tag' origin' stood (with_dest name stood) x' x' true false t left left' rises rises' p in let h = k.both_cross in cc)
enters_same known forms f g new new' comes comes' from to to' (Lands_renamed tag origin name stood t left reads isnew is gives rises)
    (Lands_renamed tag' origin' name' stood' t' left' reads' isnew' is' gives' rises') p q r next u u' =
    let k = rise_same forms tag origin tag' origin' stood (with_dest name stood) stood' (with_dest name' stood') true true t left left' rises rises' p in
    let n = same_next next new new' name name' stood stood' is is' k.items u u' in
    let x = same_name new new' name name' stood stood' is is' n k.items in
    (n, landed tag origin tag' origin' (with_dest name stood) (with_dest name' stood') left left' k.tags k.origins x (k.lefts (ap dest_of x)))
enters_same known forms f g new new' comes comes' from to to' (Lands_renamed tag origin name stood t left reads isnew is gives rises)
    (Lands_test tag' origin' on t' a b reads' none' same' divides) p q r next u u' =
    absurd (rise_or_divide forms tag origin tag' origin' stood (with_dest name stood) on true t left a b rises divides p)
enters_same known forms f g new new' comes comes' from to to' (Lands_test tag origin on t a b reads none same divides)
    (Lands tag' origin' x' t' left' reads' isnew' none' same' rises') p q r next u u' =
    absurd (rise_or_divide forms tag' origin' tag origin x' x' on false t left' a b rises' divides (sym p))
enters_same known forms f g new new' comes comes' from to to' (Lands_test tag origin on t a b reads none same divides)
    (Lands_renamed tag' origin' name stood t' left' reads' isnew' is gives rises') p q r next u u' =
    absurd (rise_or_divide forms tag' origin' tag origin stood (with_dest name stood) on true t left' a b rises' divides (sym p))
enters_same known forms f g new new' comes comes' from to to' (Lands_test tag origin on t a b reads none same divides)
    (Lands_test tag' origin' on' t' a' b' reads' none' same' divides') p q r next u u' =
    let k = divide_same tag origin tag' origin' on on' t a b a' b' divides divides' in
    (none ∙ sym none', (refl, λ i. Split (k.tags i) (k.origins i) (k.tests i) (Unfinished (k.yes_sides i)) (Unfinished (k.no_sides i))))
enters_same known forms f g new new' comes comes' from to to' (Behind_item t o y c rest rest1 may apart enters) (Behind_item t' o' y' c' rest' rest2 may' apart' enters') p q r next u u' =
    let k = enters_same known forms f g new new' c c' rest rest1 rest2 enters enters' (omega arith) q r next u u' in
    (k.0, (k.1.0, ap (λ (f : Front). Issued t o y f) k.1.1))
enters_same known forms f g new new' comes comes' from to to' (On_yes t o on c a b a1 apart enters) (On_yes t' o' on' c' a' b' a2 apart' enters') p q r next u u' =
    let k = enters_same known forms f g new new' c c' a a1 a2 enters enters' (omega arith) q r next u u' in
    (k.0, (k.1.0, ap (λ (f : Front). Split t o on f b) k.1.1))
enters_same known forms f g new new' comes comes' from to to' (On_no t o on c a b b1 apart enters) (On_no t' o' on' c' a' b' b2 apart' enters') p q r next u u' =
    let k = enters_same known forms f g new new' c c' b b1 b2 enters enters' (omega arith) q r next u u' in
    (k.0, (k.1.0, ap (λ (f : Front). Split t o on a f) k.1.1))
enters_same known forms f g new new' comes comes' from to to' (On_yes t o on c a b a1 apart enters) (On_no t' o' on' c' a' b' b2 apart' enters') p q r next u u' =
    absurd (let k = priority_within known forms f new c a a1 enters in omega arith)
enters_same known forms f g new new' comes comes' from to to' (On_no t o on c a b b1 apart enters) (On_yes t' o' on' c' a' b' a2 apart' enters') p q r next u u' =
    absurd (let k = priority_within known forms g new' c' a a2 enters' in omega arith)
enters_same known forms f g new new' comes comes' from to to' (Lands_once t o on tag origin tag1 origin1 name stood other c1 c2 a b l m equal reads isnew is gives rises
    rises1) (On_yes t' o' on' c' a' b' a2 apart' enters') p q r next u u' =
    absurd (let k = no_twin known forms g new' c' (_) a2 enters' in omega arith)
enters_same known forms f g new new' comes comes' from to to' (Lands_once t o on tag origin tag1 origin1 name stood other c1 c2 a b l m equal reads isnew is gives rises
    rises1) (On_no t' o' on' c' a' b' b2 apart' enters') p q r next u u' =
    absurd (let k = no_twin known forms g new' c' (_) b2 enters' in omega arith)
enters_same known forms f g new new' comes comes' from to to' (On_yes t o on c a b a1 apart enters)
    (Lands_once t' o' on' tag origin tag1 origin1 name stood other c1 c2 a' b' l m equal reads isnew is gives rises rises1) p q r next u u' =
    absurd (let k = no_twin known forms f new c (_) a1 enters in omega arith)
enters_same known forms f g new new' comes comes' from to to' (On_no t o on c a b b1 apart enters)
    (Lands_once t' o' on' tag origin tag1 origin1 name stood other c1 c2 a' b' l m equal reads isnew is gives rises rises1) p q r next u u' =
    absurd (let k = no_twin known forms f new c (_) b1 enters in omega arith)
enters_same known forms f g new new' comes comes' from to to' (Lands_once t o on tag origin tag1 origin1 name stood other c1 c2 a b l m equal reads isnew is gives rises rises1)
    (Lands_once t' o' on' tag' origin' tag2 origin2 name' stood' other' c3 c4 a' b' l' m' equal' reads' isnew' is' gives' rises' rises2) p q r next u u' =
    let x = with_dest name stood in
    let x' = with_dest name' stood' in
    let k = rise_same forms tag origin tag' origin' stood x stood' x' c1 c3 a l l' rises rises' (omega arith) in
    let j = rise_same forms tag1 origin1 tag2 origin2 other x other' x' c2 c4 b m m' rises1 rises2 r in
    let n = same_next next new new' name name' stood stood' is is' k.items u u' in
    let same = same_name new new' name name' stood stood' is is' n k.items in
    let d = ap dest_of same in
    (n, (ap Some same, λ i. Issued (k.tags i) (k.origins i) (same i) (Split t o on (Unfinished (k.lefts d i)) (Unfinished (j.lefts d i)))))

-- ---- the first

priorities_same : (a b : Priority) → InOrder a b → InOrder b a → (a.2 ≡ b.2) × (a.3 ≡ b.3) × (a.4 ≡ b.4)
priorities_same a b (inl p) (inl q) = absurd (omega arith)
priorities_same a b (inl p) (inr (q, more)) = absurd (omega arith)
priorities_same a b (inr (p, more)) (inl q) = absurd (omega arith)
priorities_same a b (inr (p, inl u)) (inr (q, inl v)) = absurd (omega arith)
priorities_same a b (inr (p, inl u)) (inr (q, inr (v, more))) = absurd (omega arith)
priorities_same a b (inr (p, inr (u, more))) (inr (q, inl v)) = absurd (omega arith)
priorities_same a b (inr (p, inr (u, inl c))) (inr (q, inr (v, inl d))) = absurd (omega arith)
priorities_same a b (inr (p, inr (u, inl c))) (inr (q, inr (v, inr (d, more)))) = absurd (omega arith)
priorities_same a b (inr (p, inr (u, inr (c, more)))) (inr (q, inr (v, inl d))) = absurd (omega arith)
priorities_same a b (inr (p, inr (u, inr (c, inl e)))) (inr (q, inr (v, inr (d, inl f)))) = absurd (omega arith)
priorities_same a b (inr (p, inr (u, inr (c, inl e)))) (inr (q, inr (v, inr (d, inr (f, more))))) = absurd (omega arith)
priorities_same a b (inr (p, inr (u, inr (c, inr (e, more))))) (inr (q, inr (v, inr (d, inl f)))) = absurd (omega arith)
priorities_same a b (inr (p, inr (u, inr (c, inr (e, h))))) (inr (q, inr (v, inr (d, inr (f, k))))) = (c, e, omega arith)

-- there is one first jump
pub first_jump_one : (known : ℕ → Bool) (w v u : Window) (jump : Jump known w v) (other : Jump known w u) → IsFirstJump known w v jump → IsFirstJump known w u other → v ≡ u
first_jump_one known w v u jump other first second =
    let s = priorities_same (priority_of jump.enters) (priority_of other.enters) (first u other) (second v jump) in
    let k = enters_same known w.forms v.forms u.forms jump.new other.new jump.comes other.comes w.front v.front u.front jump.enters other.enters s.0 s.1 s.2 w.next jump.next other.next in
    let names : supply_of v ≡ supply_of u = jump.names ∙ (λ i. given_supply (supply_of w) (k.0 i) (k.1.0 i)) ∙ sym other.names in
    let limits = jump.limits ∙ sym other.limits in
    let inside = jump.inside ∙ sym other.inside in
    λ i. record { front = k.1.1 i; forms = (names i).forms; next = (names i).next; next_variable = (names i).next_variable; limits = limits i; inside = inside i }

-- filling leads to one window
pub filled_one : (known : ℕ → Bool) (w a b : Window) → Filled known w a → Filled known w b → a ≡ b
filled_one known w a b (Full w' none) (Full w'' none') = refl
filled_one known w a b (Full w' none) (Goes_on w'' v u jump first filled) = absurd (none v jump)
filled_one known w a b (Goes_on w' v u jump first filled) (Full w'' none) = absurd (none v jump)
filled_one known w a b (Goes_on w' v u jump first filled) (Goes_on w'' v' u' jump' first' filled') =
    filled_one known v a b filled (subst (λ (z : Window). Filled known z b) (sym (first_jump_one known w v v' jump jump' first first')) filled')

-- unwinding leads to one tree
some_same : (g h : Grafted) → Some g ≡ Some h → g ≡ h
some_same g h e = cc

pub unwinds_one : (table : Table) (loop : Option ℕ) (window : ℕ) (g a b : Grafted) → Unwinds table loop window g a → Unwinds table loop window g b → a ≡ b
unwinds_one table loop window g a b (unwinds_no_more g' e) (unwinds_no_more g'' f) = refl
unwinds_one table loop window g a b (unwinds_no_more g' e) (unwinds_once g'' h k f u) = absurd (let x : None ≡ Some h = sym e ∙ f in cc)
unwinds_one table loop window g a b (unwinds_once g' h k e u) (unwinds_no_more g'' f) = absurd (let x : None ≡ Some h = sym f ∙ e in cc)
unwinds_one table loop window g a b (unwinds_once g' h k e u) (unwinds_once g'' h' k' f u') =
    unwinds_one table loop window h a b u (subst (λ (z : Grafted). Unwinds table loop window z b) (sym (some_same h h' (sym e ∙ f))) u')

-- unwinding leads to one window
pub unwinding_one : UnwindingHasOneEnd
unwinding_one table number w a b p q =
    let same = unwinds_one table w.inside number (grafted_of w) p.unwound q.unwound p.unwinds q.unwinds in
    p.is ∙ ap (λ (g : Grafted). window_of g.tree g.names w.limits w.inside) same ∙ sym q.is
