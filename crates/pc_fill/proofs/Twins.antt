-- The search for the twin of an item.
use Rattle.std.proofs.Common.{◌≡◌, ◌≢◌, ◌↔◌, ℕ, suc, ◌+◌, ◌-◌, ◌<◌, ◌≤◌, inl, inr, Bool, true}
use Rattle.std.proofs.Common.{false, List, [], ◌∷◌, Option, Some, None, sym, ◌∙◌, ap, subst, lt-ltb, arith}
use Rattle.std.specs.Prelude.{nat_lt, slice_get}
use Rattle.pc_word.proofs.Truth.{decide_le, fails_here, failed, held, same_fact}
use Rattle.pc_word.specs.declared.item.Item.{Item}
use Rattle.pc_word.specs.declared.item.Operand.{Operand}
use Rattle.pc_word.specs.Items.{operands_of}
use Rattle.pc_linear.specs.Form.{Form}
use Rattle.pc_window.specs.Tree.{Tree, Pending, Undecided, Front, Issued, Split, Unfinished, whole, tree_size}
use Rattle.pc_fill.specs.models.Places.{Node, nodes_of, MayRise}
use Rattle.pc_fill.specs.models.Search.{StandsAt}
use Rattle.pc_fill.specs.models.Landing.{TwinsAt, TwinHere, TwinIn, both_unfinished, FirstFrom, FirstIn}
use Rattle.pc_fill.specs.models.Way.{Reaches, Behind_item, Behind_yes}
use Rattle.pc_fill.proofs.Sides.{to_below, from_below, first_only, side_first, second_only, side_second}
use Rattle.pc_fill.proofs.Along.{reaches_within}
use Rattle.pc_window.specs.Hold.{Side}
use Rattle.pc_fill.proofs.Nodes.{node_within}
use Rattle.pc_fill.proofs.Searching.{item_stands, test_stands}
use Rattle.pc_word.specs.Naming.{with_dest, AreAlike}
use Rattle.pc_word.proofs.Signatures.{alike_by_one}

-- ---- one item

module _ (forms : ℕ → Form) (next tag origin : ℕ) (item : Item) (tag' origin' : ℕ) (other : Item) (tree : Tree) (place : ℕ) where
  pub other_tag : (tag' ≢ tag) → (false ≡ true) ↔ TwinsAt forms next tag origin item tag' origin' other tree place
  other_tag ne = fails_here (TwinsAt forms next tag origin item tag' origin' other tree place) (λ h. ne h.tags)

  pub other_origin : (origin' ≢ origin) → (false ≡ true) ↔ TwinsAt forms next tag origin item tag' origin' other tree place
  other_origin ne = fails_here (TwinsAt forms next tag origin item tag' origin' other tree place) (λ h. ne h.origins)

  pub other_item : (b : Bool) → (b ≡ true) ↔ AreAlike other item → b ≡ false
      → (false ≡ true) ↔ TwinsAt forms next tag origin item tag' origin' other tree place
  other_item b iff e = fails_here (TwinsAt forms next tag origin item tag' origin' other tree place) (λ h. failed iff e (alike_by_one next other item h.alike))

  pub is_one : (b c : Bool) → tag' ≡ tag → origin' ≡ origin → (b ≡ true) ↔ AreAlike other item
      → b ≡ true → (c ≡ true) ↔ MayRise forms (Some other) tree place
      → (c ≡ true) ↔ TwinsAt forms next tag origin item tag' origin' other tree place
  is_one b c p q iff e way =
      same_fact c (MayRise forms (Some other) tree place) (TwinsAt forms next tag origin item tag' origin' other tree place)
      (λ h. record { tags = p; origins = q; alike = held iff e next; way = h }) (λ h. h.way) way

  -- it stands there
  pub twin_here : slice_get (nodes_of tree) place ≡ Some (record { tag = tag'; origin = origin'; what = Some other; operands = operands_of other })
      → TwinsAt forms next tag origin item tag' origin' other tree place → TwinHere forms next tag origin item tree place
  twin_here at h = record {
    other = other;
    at = at ∙ ap Some (λ i. record { tag = h.tags i; origin = h.origins i; what = Some other; operands = operands_of other });
    alike = h.alike;
    way = h.way;
  }

  one_node : (a b : Node) → Some a ≡ Some b → a ≡ b
  one_node a b e = cc

  one_item : (a b : Item) → Some a ≡ Some b → a ≡ b
  one_item a b e = cc

  pub here_twin : slice_get (nodes_of tree) place ≡ Some (record { tag = tag'; origin = origin'; what = Some other; operands = operands_of other })
      → TwinHere forms next tag origin item tree place → TwinsAt forms next tag origin item tag' origin' other tree place
  here_twin at h =
      let mine : Node = record { tag = tag'; origin = origin'; what = Some other; operands = operands_of other } in
      let that : Node = record { tag = tag; origin = origin; what = Some h.other; operands = operands_of h.other } in
      let same : that ≡ mine = one_node that mine (sym h.at ∙ at) in
      let item_same : h.other ≡ other = one_item h.other other (ap (λ (n : Node). n.what) same) in
      record {
        tags = sym (ap (λ (n : Node). n.tag) same);
        origins = sym (ap (λ (n : Node). n.origin) same);
        alike = ap (with_dest next) (sym item_same) ∙ h.alike;
        way = subst (λ (x : Item). MayRise forms (Some x) tree place) item_same h.way;
      }

-- a test is no twin
test_twin : (forms : ℕ → Form) (next tag origin : ℕ) (item : Item) (tag' origin' : ℕ) (on : Operand) (tree : Tree) (place : ℕ)
    → slice_get (nodes_of tree) place ≡ Some (record { tag = tag'; origin = origin'; what = None; operands = on ∷ [] }) → TwinHere forms next tag origin item tree place → ⊥
test_twin forms next tag origin item tag' origin' on tree place at h =
    let mine : Node = record { tag = tag'; origin = origin'; what = None; operands = on ∷ [] } in
    let that : Node = record { tag = tag; origin = origin; what = Some h.other; operands = operands_of h.other } in
    let same : Some that ≡ Some mine = sym h.at ∙ at in
    let what : Some (Some h.other) ≡ Some None = ap (λ (o : Option Node). what_of o) same in
    absurd (cc)
  where
    what_of : Option Node → Option (Option Item)
    what_of (Some n) = Some n.what
    what_of None = None

-- ---- parts of a tree

module _ (forms : ℕ → Form) (next tag origin : ℕ) (item : Item) (all : Tree) where
  -- no twin where nothing stands
  pub none_from : (place end : ℕ) → end ≡ place + 0 → FirstFrom forms next tag origin item all place end None
  none_from place end e = record { is = λ k le lt. absurd (omega arith) }

  -- what is first behind a place is first from it, where none is there
  skip : (place after end : ℕ) (found : Option ℕ) → after ≡ place + 1 → (TwinHere forms next tag origin item all place → ⊥) → FirstFrom forms next tag origin item all after end found
      → FirstFrom forms next tag origin item all place end found
  skip place after end None e never h = record {
    is = λ k le lt twin. elim (decide_le after k) [
      | inl le' ↦ h.is k le' lt twin
      | inr lt' ↦ let same : k ≡ place = omega arith in never (subst (TwinHere forms next tag origin item all) same twin)
    ];
  }
  skip place after end (Some found) e never h = record {
    is = (
      h.is.0,
      h.is.1,
      λ k le lt twin. elim (decide_le after k) [
        | inl le' ↦ h.is.2 k le' lt twin
        | inr lt' ↦ let same : k ≡ place = omega arith in absurd (never (subst (TwinHere forms next tag origin item all) same twin))
      ],
    );
  }

  pub behind_item : (place after end : ℕ) (b : Bool) (found : Option ℕ) (tag' origin' : ℕ) (other : Item) (rest : Tree)
      → after ≡ place + 1 → StandsAt (Pending tag' origin' other rest) place all
      → (b ≡ true) ↔ TwinsAt forms next tag origin item tag' origin' other all place → b ≡ false → FirstFrom forms next tag origin item all after end found
      → FirstFrom forms next tag origin item all place end found
  behind_item place after end b found tag' origin' other rest e stands iff f h =
      skip place after end found e (λ twin. failed iff f (here_twin forms next tag origin item tag' origin' other all place (item_stands tag' origin' other rest place all stands) twin)) h

  -- the first on the yes side is the first
  pub on_yes : (place after middle end found : ℕ) (tag' origin' : ℕ) (on : Operand) (p q : Tree) → after ≡ place + 1 → StandsAt (Undecided tag' origin' on p q) place all → middle ≤ end
      → FirstFrom forms next tag origin item all after middle (Some found) → FirstFrom forms next tag origin item all place end (Some found)
  on_yes place after middle end found tag' origin' on p q e stands within h = let before = h.is.1 in record {
    is = (
      h.is.0,
      omega arith,
      λ k le lt twin. elim (decide_le after k) [
        | inl le' ↦ elim (decide_le middle k) [ inl far ↦ omega arith | inr near ↦ h.is.2 k le' near twin ]
        | inr lt' ↦
            let same : k ≡ place = omega arith in
            absurd (test_twin forms next tag origin item tag' origin' on all place (test_stands tag' origin' on p q place all stands) (subst (TwinHere forms next tag origin item all) same twin))
      ],
    );
  }

  -- the first on the no side is the first, where none is on the yes side
  pub on_no : (place after middle end : ℕ) (found : Option ℕ) (tag' origin' : ℕ) (on : Operand) (p q : Tree) → after ≡ place + 1 → StandsAt (Undecided tag' origin' on p q) place all
      → FirstFrom forms next tag origin item all after middle None → FirstFrom forms next tag origin item all middle end found → FirstFrom forms next tag origin item all place end found
  on_no place after middle end found tag' origin' on p q e stands none h =
      skip place after end found e (λ twin. test_twin forms next tag origin item tag' origin' on all place (test_stands tag' origin' on p q place all stands) twin) (joined found h)
    where
      joined : (f : Option ℕ) → FirstFrom forms next tag origin item all middle end f → FirstFrom forms next tag origin item all after end f
      joined None k = record { is = λ j le lt twin. elim (decide_le middle j) [ inl far ↦ k.is j far lt twin | inr near ↦ none.is j le near twin ] }
      joined (Some f) k = record { is = (k.is.0, k.is.1, λ j le lt twin. elim (decide_le middle j) [ inl far ↦ k.is.2 j far lt twin | inr near ↦ absurd (none.is j le near twin) ]) }

-- a twin stands within the tree
twin_within : (forms : ℕ → Form) (next tag origin : ℕ) (item : Item) (tree : Tree) (k : ℕ) → TwinHere forms next tag origin item tree k → k < tree_size tree
twin_within forms next tag origin item tree k h = node_within tree k _ h.at

-- ---- the front

module _ (forms : ℕ → Form) (next tag origin : ℕ) (item : Item) where
  -- this is the first twin of what stands where these sides lead
  abbrev pub FirstAlong : Front → List Bool → Option ℕ → Type 0
  FirstAlong front sides found = (depth place : ℕ) → Reaches front sides depth place → FirstIn forms next tag origin item front place found

  -- the same of an equal front and equal sides
  pub known_so : (front front' : Front) (sides sides' : List Bool) (found : Option ℕ) → front ≡ front' → sides ≡ sides' → FirstAlong front' sides' found → FirstAlong front sides found
  known_so front front' sides sides' found e f h = subst (λ (it : Front). FirstAlong it sides found) (sym e) (subst (λ (l : List Bool). FirstAlong front' l found) (sym f) h)

  carried : (front front' : Front) (place n : ℕ) (found : Option ℕ) → ((k : ℕ) → TwinIn forms next tag origin item front' n k → TwinIn forms next tag origin item front place k)
      → ((k : ℕ) → TwinIn forms next tag origin item front place k → TwinIn forms next tag origin item front' n k)
      → FirstIn forms next tag origin item front' n found → FirstIn forms next tag origin item front place found
  carried front front' place n None up down h = record { is = λ k t. h.is k (down k t) }
  carried front front' place n (Some f) up down h = record { is = (up f h.is.0, λ k t. h.is.1 k (down k t)) }

  pub leaf_alone : (rest : Tree) (sides : List Bool) → FirstAlong (Unfinished rest) sides None
  leaf_alone rest sides depth place h = record { is = λ k t. t }

  pub below_front_item : (t o : ℕ) (y : Item) (rest : Front) (sides : List Bool) (found : Option ℕ) → FirstAlong rest sides found → FirstAlong (Issued t o y rest) sides found
  below_front_item t o y rest sides found h depth place (Behind_item t' o' y' rest' sides' d n r) =
      carried (Issued t o y rest) rest (suc n) n found (λ k u. to_below ⊥ (λ j. TwinIn forms next tag origin item rest j k) n u)
      (λ k u. from_below ⊥ (λ j. TwinIn forms next tag origin item rest j k) n u) (h d n r)

  module _ (t o : ℕ) (on : Operand) (p q : Front) where
    OnSides : ℕ → ℕ → Type 0
    OnSides k j = Side (nat_lt j (tree_size (whole p)))
        (Side (both_unfinished p q) (TwinHere forms next tag origin item (whole q) k) (TwinIn forms next tag origin item p j k)) (TwinIn forms next tag origin item q (j - tree_size (whole p)) k)

    module _ (n : ℕ) (less : n < tree_size (whole p)) (k : ℕ) where
      up_yes : Side (both_unfinished p q) (TwinHere forms next tag origin item (whole q) k) (TwinIn forms next tag origin item p n k) → TwinIn forms next tag origin item (Split t o on p q) (suc n) k
      unfolding OnSides
      up_yes u = to_below ⊥ (OnSides k) n (side_first (nat_lt n (tree_size (whole p))) _ _ (lt-ltb n (tree_size (whole p)) less) u)

      down_yes : TwinIn forms next tag origin item (Split t o on p q) (suc n) k → Side (both_unfinished p q) (TwinHere forms next tag origin item (whole q) k) (TwinIn forms next tag origin item p n k)
      unfolding OnSides
      down_yes u = first_only (nat_lt n (tree_size (whole p))) _ _ (lt-ltb n (tree_size (whole p)) less) (from_below ⊥ (OnSides k) n u)

    pub front_yes_side : both_unfinished p q ≡ false → (sides : List Bool) (found : Option ℕ) → FirstAlong p sides found → FirstAlong (Split t o on p q) (true ∷ sides) found
    front_yes_side apart sides found h depth place (Behind_yes t' o' on' p' q' sides' d n r) =
        let less = reaches_within p sides' d n r in
        carried (Split t o on p q) p (suc n) n found (λ k u. up_yes n less k (side_second (both_unfinished p q) _ _ apart u))
        (λ k u. second_only (both_unfinished p q) _ _ apart (down_yes n less k u)) (h d n r)

    pub front_across : both_unfinished p q ≡ true → (sides : List Bool) (found : Option ℕ) → FirstFrom forms next tag origin item (whole q) 0 (0 + tree_size (whole q)) found
        → FirstAlong (Split t o on p q) (true ∷ sides) found
    front_across both sides found h depth place (Behind_yes t' o' on' p' q' sides' d n r) =
        let less = reaches_within p sides' d n r in
        by_case (suc n) found (λ k u. up_yes n less k (side_first (both_unfinished p q) _ _ both u))
        (λ k u. first_only (both_unfinished p q) _ _ both (down_yes n less k u)) h
      where
        by_case : (place : ℕ) (f : Option ℕ) → ((k : ℕ) → TwinHere forms next tag origin item (whole q) k → TwinIn forms next tag origin item (Split t o on p q) place k)
            → ((k : ℕ) → TwinIn forms next tag origin item (Split t o on p q) place k → TwinHere forms next tag origin item (whole q) k)
            → FirstFrom forms next tag origin item (whole q) 0 (0 + tree_size (whole q)) f → FirstIn forms next tag origin item (Split t o on p q) place f
        by_case place None up down h = record { is = λ k t'. let e = twin_within forms next tag origin item (whole q) k (down k t') in h.is k (omega arith) (omega arith) (down k t') }
        by_case place (Some f) up down h =
            record { is = (up f h.is.0, λ k t'. let e = twin_within forms next tag origin item (whole q) k (down k t') in h.is.2 k (omega arith) (omega arith) (down k t')) }

pub ruleset telling = (other_tag, other_origin, other_item, is_one)

pub ruleset finding = (none_from)

pub ruleset seeking = (leaf_alone, below_front_item)
