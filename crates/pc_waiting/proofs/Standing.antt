-- What stands behind a front is ready where it stands exactly where all that stands above lets it pass, and all that it reads is known.
use Rattle.std.proofs.Common.{◌≡◌, ℕ, suc, ◌+◌, ◌<◌, ◌⊎◌, inl, inr, Bool, true, false, List, [], ◌∷◌, Option, Some, None, refl, ap, ◌∙◌, subst, arith}
use Rattle.std.specs.List.{AllByRecursion}
use Rattle.pc_word.proofs.Lists.{all_both, all_imply}
use Rattle.pc_word.specs.declared.item.Item.{Item}
use Rattle.pc_word.specs.declared.item.Operand.{Operand}
use Rattle.pc_word.specs.Items.{operands_of, only_computes}
use Rattle.pc_linear.specs.Form.{Form}
use Rattle.pc_window.specs.Tree.{Tree, Pending, Undecided, Exit, Stop_exit, Trap_exit, Front, Issued, Split, Unfinished, whole, tree_size}
use Rattle.pc_window.specs.Names.{IsKnown}
use Rattle.pc_window.specs.Ready.{CanRise, Stands_here, Stands_below, Stands_on_yes, Stands_on_no, CanDivide, Divides_here, Divides_below, MayStandBehind, IsReadyAt, Item_ready, Test_ready}
use Rattle.pc_window.specs.Ready.{Ready_below, Ready_on_yes, Ready_on_no}
use Rattle.pc_waiting.specs.declared.path.Kind.TheVariants as kind
use Rattle.pc_waiting.specs.declared.path.Above.{Above}
use Rattle.pc_waiting.specs.Waiting.{Standing, standing_in, standing_behind, LetsPass}
use Rattle.pc_waiting.proofs.Ways.{AllPass}

module _ (forms : ℕ → Form) where
  -- ---- from a place of a tree to its root

  -- what reads these operands stands at a place of a tree, and may come to its root
  abbrev pub Comes : Option Item → List Operand → (tag origin place : ℕ) → Tree → Type 0
  Comes (Some x) operands tag origin place tree = (operands ≡ operands_of x) × (crosses : Bool) × CanRise forms x tag origin place crosses tree
  Comes None operands tag origin place tree = (on : Operand) × (operands ≡ on ∷ []) × CanDivide on tag origin place tree

  rise_within : (x : Item) (tag origin place : ℕ) (crosses : Bool) (tree : Tree) → CanRise forms x tag origin place crosses tree → place < tree_size tree
  rise_within x tag origin place crosses tree (Stands_here rest) = omega arith
  rise_within x tag origin place crosses tree (Stands_below t o y n c rest clear can) = let h = rise_within x tag origin n c rest can in omega arith
  rise_within x tag origin place crosses tree (Stands_on_yes t o on n c p q quiet can) = let h = rise_within x tag origin n c p can in omega arith
  rise_within x tag origin place crosses tree (Stands_on_no t o on n c p q quiet can) = let h = rise_within x tag origin n c q can in omega arith

  divide_within : (on : Operand) (tag origin place : ℕ) (tree : Tree) → CanDivide on tag origin place tree → place < tree_size tree
  divide_within on tag origin place tree (Divides_here p q) = omega arith
  divide_within on tag origin place tree (Divides_below t o y n rest can) = let h = divide_within on tag origin n rest can in omega arith

  module _ (operands : List Operand) (tag origin t o : ℕ) where
    -- past an item
    past_item : (what : Option Item) (y : Item) (rest : Tree) (k : ℕ) → LetsPass forms (kind.Pending y) what → Comes what operands tag origin k rest
        → Comes what operands tag origin (suc k) (Pending t o y rest)
    past_item (Some x) y rest k clear (e, c, can) = (e, c, Stands_below t o y k c rest clear can)
    past_item None y rest k clear (on, e, can) = (on, e, Divides_below t o y k rest can)

    below_item : (what : Option Item) (y : Item) (rest : Tree) (k : ℕ) → Comes what operands tag origin (suc k) (Pending t o y rest)
        → LetsPass forms (kind.Pending y) what × Comes what operands tag origin k rest
    below_item (Some x) y rest k (e, c, Stands_below t' o' y' n c' rest' clear can) = (clear, (e, c, can))
    below_item None y rest k (on, e, Divides_below t' o' y' n rest' can) = (tt, (on, e, can))

    -- past a test
    past_yes : (what : Option Item) (on : Operand) (p q : Tree) (k : ℕ) → LetsPass forms kind.Undecided what → Comes what operands tag origin k p
        → Comes what operands tag origin (suc k) (Undecided t o on p q)
    past_yes (Some x) on p q k quiet (e, c, can) = (e, true, Stands_on_yes t o on k c p q quiet can)
    past_yes None on p q k quiet h = absurd quiet

    past_no : (what : Option Item) (on : Operand) (p q : Tree) (k : ℕ) → LetsPass forms kind.Undecided what → Comes what operands tag origin k q
        → Comes what operands tag origin (suc (tree_size p + k)) (Undecided t o on p q)
    past_no (Some x) on p q k quiet (e, c, can) = (e, true, Stands_on_no t o on k c p q quiet can)
    past_no None on p q k quiet h = absurd quiet

    -- an item below a test stands on one of its sides
    side_of : (x : Item) (on : Operand) (p q : Tree) (n : ℕ) (c : Bool) → CanRise forms x tag origin n c (Undecided t o on p q)
        → (only_computes x ≡ true)
        × (((j : ℕ) × (n ≡ suc j) × (d : Bool) × CanRise forms x tag origin j d p) ⊎ ((j : ℕ) × (n ≡ suc (tree_size p + j)) × (d : Bool) × CanRise forms x tag origin j d q))
    side_of x on p q n c (Stands_on_yes t' o' on' j d p' q' quiet can) = (quiet, inl (j, refl, d, can))
    side_of x on p q n c (Stands_on_no t' o' on' j d p' q' quiet can) = (quiet, inr (j, refl, d, can))

    at_place : (x : Item) (j k : ℕ) (d : Bool) (tree : Tree) → j ≡ k → CanRise forms x tag origin j d tree → CanRise forms x tag origin k d tree
    at_place x j k d tree e h = subst (λ (n : ℕ). CanRise forms x tag origin n d tree) e h

    not_divided : (on on' : Operand) (p q : Tree) (k : ℕ) → CanDivide on' tag origin (suc k) (Undecided t o on p q) → ⊥
    not_divided on on' p q k h = by (suc k) (Undecided t o on p q) h refl refl
      where
        by : (n : ℕ) (tree : Tree) → CanDivide on' tag origin n tree → n ≡ suc k → tree ≡ Undecided t o on p q → ⊥
        by n tree (Divides_here p' q') e f = cc
        by n tree (Divides_below t' o' y n' rest can) e f = cc

    below_yes : (what : Option Item) (on : Operand) (p q : Tree) (k : ℕ) → k < tree_size p → Comes what operands tag origin (suc k) (Undecided t o on p q)
        → LetsPass forms kind.Undecided what × Comes what operands tag origin k p
    below_yes (Some x) on p q k less (e, c, can) = elim (side_of x on p q (suc k) c can).1 [
      | inl h ↦ ((side_of x on p q (suc k) c can).0, (e, h.2, at_place x h.0 k h.2 p (let same = h.1 in omega arith) h.3))
      | inr h ↦ absurd (let same = h.1 in omega arith)
    ]
    below_yes None on p q k less (on', e, can) = absurd (not_divided on on' p q k can)

    below_no : (what : Option Item) (on : Operand) (p q : Tree) (k : ℕ) → Comes what operands tag origin (suc (tree_size p + k)) (Undecided t o on p q)
        → LetsPass forms kind.Undecided what × Comes what operands tag origin k q
    below_no (Some x) on p q k (e, c, can) = elim (side_of x on p q (suc (tree_size p + k)) c can).1 [
      | inl h ↦ absurd (let same = h.1 in let less = rise_within x tag origin h.0 h.2 p h.3 in omega arith)
      | inr h ↦ ((side_of x on p q (suc (tree_size p + k)) c can).0, (e, h.2, at_place x h.0 k h.2 q (let same = h.1 in omega arith) h.3))
    ]
    below_no None on p q k (on', e, can) = absurd (not_divided on on' p q (tree_size p + k) can)

  -- ---- behind a leaf

  -- it stands at a place of a tree, below these, and comes to the root exactly where all lets it pass that stands between
  pub record StandsIn (above : List Above) (place : ℕ) (tree : Tree) (it : Standing) : Type 0 where
    pub k : ℕ
    pub at : it.place ≡ place + k
    pub within : k < tree_size tree
    pub out : AllPass forms it.what it.above → Comes it.what it.operands it.tag it.origin k tree × AllPass forms it.what above
    pub into : (operands : List Operand) → Comes it.what operands it.tag it.origin k tree → AllPass forms it.what above → (operands ≡ it.operands) × AllPass forms it.what it.above

  module _ (above : List Above) (place t o : ℕ) where
    item_stands : (y : Item) (rest : Tree)
        → StandsIn above place (Pending t o y rest) (record { tag = t; origin = o; what = Some y; operands = operands_of y; above = above; place = place })
    item_stands y rest = record {
      k = 0;
      at = omega arith;
      within = omega arith;
      out = λ pass. ((refl, false, Stands_here rest), pass);
      into = λ operands comes pass. (comes.0, pass);
    }

    same_test : (on on' : Operand) (p q : Tree) → CanDivide on' t o 0 (Undecided t o on p q) → on' ≡ on
    same_test on on' p q h = by 0 (Undecided t o on p q) h refl
      where
        by : (n : ℕ) (tree : Tree) → CanDivide on' t o n tree → tree ≡ Undecided t o on p q → on' ≡ on
        by n tree (Divides_here p' q') e = cc
        by n tree (Divides_below t' o' y n' rest can) e = absurd (cc)

    test_stands : (on : Operand) (p q : Tree)
        → StandsIn above place (Undecided t o on p q) (record { tag = t; origin = o; what = None; operands = on ∷ []; above = above; place = place })
    test_stands on p q = record {
      k = 0;
      at = omega arith;
      within = omega arith;
      out = λ pass. ((on, refl, Divides_here p q), pass);
      into = λ operands comes pass. (comes.1 ∙ ap (λ (one : Operand). one ∷ []) (same_test on comes.0 p q comes.2), pass);
    }

    stands_below_item : (y : Item) (rest : Tree) (it : Standing) → StandsIn (record { tag = t; origin = o; kind = kind.Pending y } ∷ above) (suc place) rest it
        → StandsIn above place (Pending t o y rest) it
    stands_below_item y rest it h = record {
      k = suc h.k;
      at = let e = h.at in omega arith;
      within = let e = h.within in omega arith;
      out = λ pass. let r = h.out pass in (past_item it.operands it.tag it.origin t o it.what y rest h.k r.1.0 r.0, r.1.1);
      into = λ operands comes pass. let r = below_item operands it.tag it.origin t o it.what y rest h.k comes in h.into operands r.1 (r.0, pass);
    }

    stands_on_yes : (on : Operand) (p q : Tree) (it : Standing) → StandsIn (record { tag = t; origin = o; kind = kind.Undecided } ∷ above) (suc place) p it
        → StandsIn above place (Undecided t o on p q) it
    stands_on_yes on p q it h = record {
      k = suc h.k;
      at = let e = h.at in omega arith;
      within = let e = h.within in omega arith;
      out = λ pass. let r = h.out pass in (past_yes it.operands it.tag it.origin t o it.what on p q h.k r.1.0 r.0, r.1.1);
      into = λ operands comes pass. let r = below_yes operands it.tag it.origin t o it.what on p q h.k h.within comes in h.into operands r.1 (r.0, pass);
    }

    stands_on_no : (on : Operand) (p q : Tree) (it : Standing)
        → StandsIn (record { tag = t; origin = o; kind = kind.Undecided } ∷ above) (suc (place + tree_size p)) q it → StandsIn above place (Undecided t o on p q) it
    stands_on_no on p q it h = record {
      k = suc (tree_size p + h.k);
      at = let e = h.at in omega arith;
      within = let e = h.within in omega arith;
      out = λ pass. let r = h.out pass in (past_no it.operands it.tag it.origin t o it.what on p q h.k r.1.0 r.0, r.1.1);
      into = λ operands comes pass. let r = below_no operands it.tag it.origin t o it.what on p q h.k comes in h.into operands r.1 (r.0, pass);
    }

  all_stand_in : (tree : Tree) (above : List Above) (place : ℕ) → AllByRecursion (StandsIn above place tree) (standing_in above place tree)
  all_stand_in (Pending t o y rest) above place =
      let last : Above = record { tag = t; origin = o; kind = kind.Pending y } in (
        item_stands above place t o y rest,
        all_imply (StandsIn (last ∷ above) (suc place) rest) (StandsIn above place (Pending t o y rest)) (standing_in (last ∷ above) (suc place) rest)
            (stands_below_item above place t o y rest) (all_stand_in rest (last ∷ above) (suc place)),
      )
  all_stand_in (Undecided t o on p q) above place =
      let last : Above = record { tag = t; origin = o; kind = kind.Undecided } in
      let here = StandsIn above place (Undecided t o on p q) in
      let yes_side = standing_in (last ∷ above) (suc place) p in
      let no_side = standing_in (last ∷ above) (suc (place + tree_size p)) q in (
        test_stands above place t o on p q,
        all_both here yes_side no_side
            (all_imply (StandsIn (last ∷ above) (suc place) p) here yes_side (stands_on_yes above place t o on p q) (all_stand_in p (last ∷ above) (suc place)))
            (all_imply (StandsIn (last ∷ above) (suc (place + tree_size p)) q) here no_side (stands_on_no above place t o on p q)
            (all_stand_in q (last ∷ above) (suc (place + tree_size p)))),
      )
  all_stand_in (Exit region tag homes) above place = tt
  all_stand_in Stop_exit above place = tt
  all_stand_in (Trap_exit what line) above place = tt

  -- ---- behind a front

  module _ (known : ℕ → Bool) where
    ready_within : (tag origin place : ℕ) (what : Option Item) (front : Front) → IsReadyAt known forms tag origin place what front → place < tree_size (whole front)
    ready_within tag origin place what front (Item_ready x n c from reads can) = rise_within x tag origin n c from can
    ready_within tag origin place what front (Test_ready on n from reads can) = divide_within on tag origin n from can
    ready_within tag origin place what front (Ready_below t o y n w rest may ready) = let h = ready_within tag origin n w rest ready in omega arith
    ready_within tag origin place what front (Ready_on_yes t o on n w p q ready) = let h = ready_within tag origin n w p ready in omega arith
    ready_within tag origin place what front (Ready_on_no t o on n w p q ready) = let h = ready_within tag origin n w q ready in omega arith

    -- it stands at a place of a front, below these, and is ready exactly where what it reads is known and all lets it pass that stands
    -- between
    pub record StandsBehind (above : List Above) (place : ℕ) (front : Front) (it : Standing) : Type 0 where
      pub k : ℕ
      pub at : it.place ≡ place + k
      pub within : k < tree_size (whole front)
      pub out : AllByRecursion (IsKnown known) it.operands → AllPass forms it.what it.above
          → IsReadyAt known forms it.tag it.origin k it.what front × AllPass forms it.what above
      pub into : IsReadyAt known forms it.tag it.origin k it.what front → AllPass forms it.what above
          → AllByRecursion (IsKnown known) it.operands × AllPass forms it.what it.above

    -- at a leaf
    ready_there : (what : Option Item) (operands : List Operand) (tag origin k : ℕ) (rest : Tree) → Comes what operands tag origin k rest
        → AllByRecursion (IsKnown known) operands → IsReadyAt known forms tag origin k what (Unfinished rest)
    ready_there (Some x) operands tag origin k rest (e, c, can) reads =
        Item_ready x k c rest (subst (λ (os : List Operand). AllByRecursion (IsKnown known) os) e reads) can
    ready_there None operands tag origin k rest (on, e, can) reads =
        Test_ready on k rest (subst (λ (os : List Operand). AllByRecursion (IsKnown known) os) e reads).0 can

    there_ready : (what : Option Item) (tag origin k : ℕ) (rest : Tree) → IsReadyAt known forms tag origin k what (Unfinished rest)
        → (operands : List Operand) × Comes what operands tag origin k rest × AllByRecursion (IsKnown known) operands
    there_ready what tag origin k rest (Item_ready x n c from reads can) = (operands_of x, (refl, c, can), reads)
    there_ready what tag origin k rest (Test_ready on n from reads can) = (on ∷ [], (on, refl, can), (reads, tt))

    stands_at_leaf : (above : List Above) (place : ℕ) (rest : Tree) (it : Standing) → StandsIn above place rest it → StandsBehind above place (Unfinished rest) it
    stands_at_leaf above place rest it h = record {
      k = h.k;
      at = h.at;
      within = h.within;
      out = λ reads pass. let r = h.out pass in (ready_there it.what it.operands it.tag it.origin h.k rest r.0 reads, r.1);
      into = λ ready pass.
          let r = there_ready it.what it.tag it.origin h.k rest ready in
          let s = h.into r.0 r.1 pass in
          (subst (λ (os : List Operand). AllByRecursion (IsKnown known) os) s.0 r.2, s.1);
    }

    -- below an item, and on the sides of a test
    past_issued : (tag origin k t o : ℕ) (y : Item) (what : Option Item) (rest : Front) → IsReadyAt known forms tag origin (suc k) what (Issued t o y rest)
        → MayStandBehind forms y what × IsReadyAt known forms tag origin k what rest
    past_issued tag origin k t o y what rest (Ready_below t' o' y' n w rest' may ready) = (may, ready)

    chosen_side : (tag origin n t o : ℕ) (on : Operand) (what : Option Item) (p q : Front) → IsReadyAt known forms tag origin n what (Split t o on p q)
        → ((j : ℕ) × (n ≡ suc j) × IsReadyAt known forms tag origin j what p) ⊎ ((j : ℕ) × (n ≡ suc (tree_size (whole p) + j)) × IsReadyAt known forms tag origin j what q)
    chosen_side tag origin n t o on what p q (Ready_on_yes t' o' on' j w p' q' ready) = inl (j, refl, ready)
    chosen_side tag origin n t o on what p q (Ready_on_no t' o' on' j w p' q' ready) = inr (j, refl, ready)

    ready_at : (tag origin j k : ℕ) (what : Option Item) (front : Front) → j ≡ k → IsReadyAt known forms tag origin j what front → IsReadyAt known forms tag origin k what front
    ready_at tag origin j k what front e h = subst (λ (n : ℕ). IsReadyAt known forms tag origin n what front) e h

    past_split_yes : (tag origin k t o : ℕ) (on : Operand) (what : Option Item) (p q : Front) → k < tree_size (whole p)
        → IsReadyAt known forms tag origin (suc k) what (Split t o on p q) → IsReadyAt known forms tag origin k what p
    past_split_yes tag origin k t o on what p q less ready = elim (chosen_side tag origin (suc k) t o on what p q ready) [
      | inl h ↦ ready_at tag origin h.0 k what p (let e = h.1 in omega arith) h.2
      | inr h ↦ absurd (let e = h.1 in omega arith)
    ]

    past_split_no : (tag origin k t o : ℕ) (on : Operand) (what : Option Item) (p q : Front)
        → IsReadyAt known forms tag origin (suc (tree_size (whole p) + k)) what (Split t o on p q) → IsReadyAt known forms tag origin k what q
    past_split_no tag origin k t o on what p q ready = elim (chosen_side tag origin (suc (tree_size (whole p) + k)) t o on what p q ready) [
      | inl h ↦ absurd (let e = h.1 in let less = ready_within tag origin h.0 what p h.2 in omega arith)
      | inr h ↦ ready_at tag origin h.0 k what q (let e = h.1 in omega arith) h.2
    ]

    module _ (above : List Above) (place t o : ℕ) where
      stands_below_issued : (y : Item) (rest : Front) (it : Standing) → StandsBehind (record { tag = t; origin = o; kind = kind.Issued y } ∷ above) (suc place) rest it
          → StandsBehind above place (Issued t o y rest) it
      stands_below_issued y rest it h = record {
        k = suc h.k;
        at = let e = h.at in omega arith;
        within = let e = h.within in omega arith;
        out = λ reads pass. let r = h.out reads pass in (Ready_below t o y h.k it.what rest r.1.0 r.0, r.1.1);
        into = λ ready pass. let r = past_issued it.tag it.origin h.k t o y it.what rest ready in h.into r.1 (r.0, pass);
      }

      stands_past_yes : (on : Operand) (p q : Front) (it : Standing) → StandsBehind above (suc place) p it → StandsBehind above place (Split t o on p q) it
      stands_past_yes on p q it h = record {
        k = suc h.k;
        at = let e = h.at in omega arith;
        within = let e = h.within in omega arith;
        out = λ reads pass. let r = h.out reads pass in (Ready_on_yes t o on h.k it.what p q r.0, r.1);
        into = λ ready pass. h.into (past_split_yes it.tag it.origin h.k t o on it.what p q h.within ready) pass;
      }

      stands_past_no : (on : Operand) (p q : Front) (it : Standing) → StandsBehind above (suc (place + tree_size (whole p))) q it
          → StandsBehind above place (Split t o on p q) it
      stands_past_no on p q it h = record {
        k = suc (tree_size (whole p) + h.k);
        at = let e = h.at in omega arith;
        within = let e = h.within in omega arith;
        out = λ reads pass. let r = h.out reads pass in (Ready_on_no t o on h.k it.what p q r.0, r.1);
        into = λ ready pass. h.into (past_split_no it.tag it.origin h.k t o on it.what p q ready) pass;
      }

    pub all_stand_behind : (front : Front) (above : List Above) (place : ℕ) → AllByRecursion (StandsBehind above place front) (standing_behind above place front)
    all_stand_behind (Issued t o y rest) above place =
        let last : Above = record { tag = t; origin = o; kind = kind.Issued y } in
        all_imply (StandsBehind (last ∷ above) (suc place) rest) (StandsBehind above place (Issued t o y rest)) (standing_behind (last ∷ above) (suc place) rest)
        (stands_below_issued above place t o y rest) (all_stand_behind rest (last ∷ above) (suc place))
    all_stand_behind (Split t o on p q) above place =
        let here = StandsBehind above place (Split t o on p q) in
        let yes_side = standing_behind above (suc place) p in
        let no_side = standing_behind above (suc (place + tree_size (whole p))) q in
        all_both here yes_side no_side (all_imply (StandsBehind above (suc place) p) here yes_side (stands_past_yes above place t o on p q) (all_stand_behind p above (suc place)))
        (all_imply (StandsBehind above (suc (place + tree_size (whole p))) q) here no_side (stands_past_no above place t o on p q)
        (all_stand_behind q above (suc (place + tree_size (whole p)))))
    all_stand_behind (Unfinished rest) above place =
        all_imply (StandsIn above place rest) (StandsBehind above place (Unfinished rest)) (standing_in above place rest) (stands_at_leaf above place rest)
        (all_stand_in rest above place)
