-- Where all rows are reached, a removal leaves a compact code compact.
use Rattle.std.proofs.Common.{◌≡◌, ℕ, zero, suc, ◌+◌, ◌≤◌, Bool, true, false, cond, List, [], ◌∷◌}
use Rattle.std.proofs.Common.{◌++◌, map, length, Some, refl, sym, ◌∙◌, ap, subst, inl, inr, append-nil, arith}
use Rattle.std.specs.Prelude.{◌≢◌, ◌||◌, if◌then◌else◌, nat_eq, slice_get}
use Rattle.std.specs.List.{AllByRecursion, list_any, count_by}
use Rattle.std.specs.Option.{option_map}
use Rattle.std.proofs.lemmas.Option.{slice_get-map}
use Rattle.std.proofs.lemmas.List.Folds.{list_any-append}
use Rattle.pc_word.specs.declared.item.Item.{Item}
use Rattle.pc_word.specs.declared.item.Operand.{Operand}
use Rattle.pc_word.specs.declared.item.Limits.{Limits}
use Rattle.pc_machine.specs.declared.tree.Leaf.{Leaf}
use Rattle.pc_machine.specs.declared.tree.Leaf.TheVariants.{Goto, Stop, Trap}
use Rattle.pc_machine.specs.MachineCode.{CodeRow, RowCode, is_goto}
use Rattle.pc_word.specs.Row.{Then, Either, At_leaf, items_of, tests_of, leaves_of}
use Rattle.pc_word.specs.Items.{is_memory}
use Rattle.pc_word.proofs.Lists.{count_more, count_both, all_imply}
use Rattle.pc_tighten.specs.Compact.{stays, paths_to, IsPair, EachStays, Compact}
use Rattle.pc_machine.specs.Reachable.{IsReachable, Entry, Behind}
use Rattle.pc_tighten.specs.Tightened.{EachIsReachable}
use Rattle.pc_tighten.specs.Removals.{shifted, sent, sent_leaf, sent_row, without_row, removed, IsGotoAlone}
use Rattle.pc_tighten.proofs.Lists.{nat_eq-refl, nat_eq-apart}
use Rattle.pc_tighten.proofs.Moves.{same_or_apart}
use Rattle.pc_tighten.proofs.Removals.{without-at}
use Rattle.pc_tighten.proofs.Reaches.{any_of_goto, was_row}
use Rattle.pc_tighten.proofs.WellRemoved.{sent-items, sent-tests}
use Rattle.pc_tighten.proofs.Grows.{stays_longer}

pub shifted-injective : (t i j : ℕ) → i ≢ t → j ≢ t → shifted t i ≡ shifted t j → i ≡ j
shifted-injective zero zero j a b e = absurd (a refl)
shifted-injective zero (suc i) zero a b e = absurd (b refl)
shifted-injective zero (suc i) (suc j) a b e = ap suc e
shifted-injective (suc t) zero zero a b e = refl
shifted-injective (suc t) zero (suc j) a b e = absurd (omega arith)
shifted-injective (suc t) (suc i) zero a b e = absurd (omega arith)
shifted-injective (suc t) (suc i) (suc j) a b e = ap suc (shifted-injective t i j (λ c. a (ap suc c)) (λ c. b (ap suc c)) (omega arith))

same_test : (a b c d : ℕ) → (a ≡ b → c ≡ d) → (c ≡ d → a ≡ b) → nat_eq a b ≡ nat_eq c d
same_test a b c d f g = elim (same_or_apart c d) [
  | inl same ↦ ap (λ (k : ℕ). nat_eq a k) (sym (g same)) ∙ nat_eq-refl a ∙ sym (ap (λ (k : ℕ). nat_eq c k) (sym same) ∙ nat_eq-refl c)
  | inr apart ↦ nat_eq-apart a b (λ e. apart (f e)) ∙ sym (nat_eq-apart c d apart)
]

module _ (t u : ℕ) where
  sent-other : (i : ℕ) → i ≢ t → sent t u i ≡ shifted t i
  sent-other i apart = ap (λ (b : Bool). if b then shifted t u else shifted t i) (nat_eq-apart i t apart)

  sent-self : sent t u t ≡ shifted t u
  sent-self = ap (λ (b : Bool). if b then shifted t u else shifted t t) (nat_eq-refl t)

  -- a leaf that leads to a row other than t and u
  leads-elsewhere : (i : ℕ) → u ≢ t → i ≢ t → u ≢ i → (leaf : Leaf) → is_goto (shifted t i) (sent_leaf t u leaf) ≡ is_goto i leaf
  leads-elsewhere i a b c (Goto row) = elim (same_or_apart row t) [
    | inl here ↦ same_test (sent t u row) (shifted t i) row i
        (λ e. absurd (c (shifted-injective t u i a b (sym (ap (λ (k : ℕ). sent t u k) here ∙ sent-self) ∙ e)))) (λ e. absurd (b (sym e ∙ here)))
    | inr apart ↦ same_test (sent t u row) (shifted t i) row i
        (λ e. shifted-injective t row i apart b (sym (sent-other row apart) ∙ e)) (λ e. sent-other row apart ∙ ap (shifted t) e)
  ]
  leads-elsewhere i a b c Stop = refl
  leads-elsewhere i a b c (Trap kind line) = refl

  -- one that leads to u now led to u or t
  leads-here : u ≢ t → (leaf : Leaf) → is_goto (shifted t u) (sent_leaf t u leaf) ≡ false → (is_goto u leaf ≡ false) × (is_goto t leaf ≡ false)
  leads-here a (Goto row) e = (
    elim (same_or_apart row u) [
      | inl same ↦ absurd (clash (nat_eq (sent t u row) (shifted t u)) e
          (ap (λ (k : ℕ). nat_eq k (shifted t u)) (ap (λ (k : ℕ). sent t u k) same ∙ sent-other u a) ∙ nat_eq-refl (shifted t u)))
      | inr apart ↦ nat_eq-apart row u apart
    ],
    elim (same_or_apart row t) [
      | inl same ↦ absurd (clash (nat_eq (sent t u row) (shifted t u)) e (ap (λ (k : ℕ). nat_eq k (shifted t u)) (ap (λ (k : ℕ). sent t u k) same ∙ sent-self) ∙ nat_eq-refl (shifted t u)))
      | inr apart ↦ nat_eq-apart row t apart
    ],
  )
    where
      clash : (b : Bool) → b ≡ false → b ≡ true → ⊥
      clash true p q = absurd (cc)
      clash false p q = absurd (cc)
  leads-here a Stop e = (refl, refl)
  leads-here a (Trap kind line) e = (refl, refl)

  module _ (p q : Leaf → Bool) (same : (leaf : Leaf) → p (sent_leaf t u leaf) ≡ q leaf) where
    any-sent : (row : CodeRow) → list_any p (leaves_of (sent_row t u row)) ≡ list_any q (leaves_of row)
    any-sent (Then item rest) = any-sent rest
    any-sent (Either on on_yes on_no) =
        list_any-append p (leaves_of (sent_row t u on_yes)) (leaves_of (sent_row t u on_no))
        ∙ ap (λ (b : Bool). b || list_any p (leaves_of (sent_row t u on_no))) (any-sent on_yes)
        ∙ ap (λ (b : Bool). list_any q (leaves_of on_yes) || b) (any-sent on_no)
        ∙ sym (list_any-append q (leaves_of on_yes) (leaves_of on_no))
    any-sent (At_leaf leaf) = ap (λ (b : Bool). b || false) (same leaf)

    count-sent : (row : CodeRow) → count_by p (leaves_of (sent_row t u row)) ≡ count_by q (leaves_of row)
    count-sent (Then item rest) = count-sent rest
    count-sent (Either on on_yes on_no) =
        let a = count-sent on_yes in
        let b = count-sent on_no in
        let c = count_both p (leaves_of (sent_row t u on_yes)) (leaves_of (sent_row t u on_no)) in
        let d = count_both q (leaves_of on_yes) (leaves_of on_no) in
        omega arith
    count-sent (At_leaf leaf) =
        count_more p (sent_leaf t u leaf) [] ∙ ap (λ (b : Bool). cond {A = ℕ} b 1 0 + 0) (same leaf) ∙ sym (count_more q leaf [])

  paths-sent : (i : ℕ) → ((leaf : Leaf) → is_goto (shifted t i) (sent_leaf t u leaf) ≡ is_goto i leaf) → (row : CodeRow) → paths_to (shifted t i) (sent_row t u row) ≡ paths_to i row
  paths-sent i same (Then item rest) = ap (map (λ path. item ∷ path)) (paths-sent i same rest)
  paths-sent i same (Either on on_yes on_no) = ap (λ (l : List (List Item)). l ++ paths_to (shifted t i) (sent_row t u on_no)) (paths-sent i same on_yes)
      ∙ ap (λ (l : List (List Item)). paths_to i on_yes ++ l) (paths-sent i same on_no)
  paths-sent i same (At_leaf (Goto row)) = ap (λ (b : Bool). (if b then [] ∷ [] else [])) (same (Goto row))
  paths-sent i same (At_leaf Stop) = refl
  paths-sent i same (At_leaf (Trap kind line)) = refl

  -- the items that stayed below a row stay below one that has no fewer items, at the end of a longer path
  stays-sent : (limits : Limits) (m more : CodeRow) (path end before : List Item) (row : CodeRow)
      → length (items_of m) ≤ length (items_of more) → count_by is_memory (items_of m) ≤ count_by is_memory (items_of more)
      → EachStays limits m path before row → EachStays limits more (path ++ end) before (sent_row t u row)
  stays-sent limits m more path end before (Then x rest) a b h = (
    subst (λ (l : List Item). stays limits more (path ++ end) x (before ++ l) (tests_of (sent_row t u rest)) ≡ true) (sym (sent-items t u rest))
        (subst (λ (l : List Operand). stays limits more (path ++ end) x (before ++ items_of rest) l ≡ true) (sym (sent-tests t u rest))
        (stays_longer limits m more path end x (before ++ items_of rest) (before ++ items_of rest) (tests_of rest) a b (λ p e. e) h.0)),
    stays-sent limits m more path end (before ++ (x ∷ [])) rest a b h.1,
  )
  stays-sent limits m more path end before (Either on on_yes on_no) a b h = tt
  stays-sent limits m more path end before (At_leaf leaf) a b h = tt

shifted-entry : (t : ℕ) → t ≢ 0 → shifted t 0 ≡ 0
shifted-entry zero a = absurd (a refl)
shifted-entry (suc t) a = refl

pub any-counted : (p : Leaf → Bool) (leaves : List Leaf) → count_by p leaves ≡ 0 → list_any p leaves ≡ false
any-counted p [] e = refl
any-counted p (leaf ∷ leaves) e =
    (elim (p leaf) as (λ b. count_by p (leaf ∷ leaves) ≡ cond b 1 0 + count_by p leaves → (b || list_any p leaves) ≡ false) [
      | true ↦ λ d. absurd (omega arith)
      | false ↦ λ d. any-counted p leaves (omega arith)
    ]) (count_more p leaf leaves)

pub counted-any : (p : Leaf → Bool) (leaves : List Leaf) → list_any p leaves ≡ true → 1 ≤ count_by p leaves
counted-any p [] e = absurd (cc)
counted-any p (leaf ∷ leaves) e =
    (elim (p leaf) as (λ b. count_by p (leaf ∷ leaves) ≡ cond b 1 0 + count_by p leaves → (b || list_any p leaves) ≡ true → 1 ≤ count_by p (leaf ∷ leaves)) [
      | true ↦ λ d f. omega arith
      | false ↦ λ d f. (let h = counted-any p leaves f in omega arith)
    ]) (count_more p leaf leaves) e

module _ (code : RowCode) (t u : ℕ) (may : IsGotoAlone code.rows t u) (all : EachIsReachable code.rows) (compact : Compact code) where
  now-at : (i : ℕ) (row : CodeRow) → i ≢ t → slice_get code.rows i ≡ Some row → slice_get (removed code t u).rows (shifted t i) ≡ Some (sent_row t u row)
  now-at i row apart at = slice_get-map (sent_row t u) (without_row t code.rows) (shifted t i) ∙ ap (option_map (sent_row t u)) (without-at t i code.rows apart ∙ at)

  module _ (m i : ℕ) (above under : CodeRow) (m_stays : m ≢ t) (i_stays : i ≢ t) (at_m : slice_get code.rows m ≡ Some above) (at_i : slice_get code.rows i ≡ Some under)
      (pair : IsPair (removed code t u) (shifted t m) (shifted t i) (sent_row t u above) (sent_row t u under)) where
    not_first : i ≢ 0
    not_first e = pair.not_entry (ap (shifted t) e ∙ shifted-entry t may.not_entry)

    not_same : i ≢ m
    not_same e = pair.not_itself (ap (shifted t) e)

    none-else : (k : ℕ) (other : CodeRow) → k ≢ t → k ≢ m → slice_get code.rows k ≡ Some other → list_any (is_goto (shifted t i)) (leaves_of (sent_row t u other)) ≡ false
    none-else k other a b at = pair.only.alone (shifted t k) (sent_row t u other) (now-at k other a at) (λ e. b (shifted-injective t k m a m_stays e))

    module _ (elsewhere : u ≢ i) where
      same : (leaf : Leaf) → is_goto (shifted t i) (sent_leaf t u leaf) ≡ is_goto i leaf
      same = leads-elsewhere t u i may.not_itself i_stays elsewhere

      was_pair : IsPair code m i above under
      was_pair = record {
        at_m = at_m;
        at_t = at_i;
        only = record {
          once = sym (count-sent t u (is_goto (shifted t i)) (is_goto i) same above) ∙ pair.only.once;
          alone = λ k other at apart. elim (same_or_apart k t) [
            | inl here ↦
                let a = ap (λ (n : ℕ). slice_get code.rows n) here in
                let b = may.at in
                let is : At_leaf (Goto u) ≡ other = (cc) in
                subst (λ (r : CodeRow). list_any (is_goto i) (leaves_of r) ≡ false) is (ap (λ (b : Bool). b || false) (nat_eq-apart u i elsewhere))
            | inr not_t ↦ sym (any-sent t u (is_goto (shifted t i)) (is_goto i) same other) ∙ none-else k other not_t apart at
          ];
        };
        not_entry = not_first;
        not_itself = not_same;
      }

      stay-elsewhere : AllByRecursion (λ path. EachStays code.limits (sent_row t u above) path [] (sent_row t u under)) (paths_to (shifted t i) (sent_row t u above))
      stay-elsewhere =
          subst (λ (l : List (List Item)). AllByRecursion (λ path. EachStays code.limits (sent_row t u above) path [] (sent_row t u under)) l) (sym (paths-sent t u i same above))
          (all_imply (λ path. EachStays code.limits above path [] under) (λ path. EachStays code.limits (sent_row t u above) path [] (sent_row t u under)) (paths_to i above)
          (λ path h. subst (λ (l : List Item). EachStays code.limits (sent_row t u above) l [] (sent_row t u under)) (append-nil path)
          (stays-sent t u code.limits above (sent_row t u above) path [] [] under (fewer (sent-items t u above)) (fewer_memory (sent-items t u above)) h))
          (compact m i above under (all m above at_m) was_pair))
        where
          fewer : {xs ys : List Item} → xs ≡ ys → length ys ≤ length xs
          fewer e = let h = ap length e in omega arith

          fewer_memory : {xs ys : List Item} → xs ≡ ys → count_by is_memory ys ≤ count_by is_memory xs
          fewer_memory e = let h = ap (count_by is_memory) e in omega arith

  -- the row u, to which t led
  module _ (m : ℕ) (above under : CodeRow) (m_stays : m ≢ t) (at_m : slice_get code.rows m ≡ Some above) (at_u : slice_get code.rows u ≡ Some under)
      (pair : IsPair (removed code t u) (shifted t m) (shifted t u) (sent_row t u above) (sent_row t u under)) where
    -- what leads to u now led to u or to t
    led : (row : CodeRow) → count_by (is_goto (shifted t u)) (leaves_of (sent_row t u row)) ≡ count_by (is_goto u) (leaves_of row) + count_by (is_goto t) (leaves_of row)
    led (Then item rest) = led rest
    led (Either on on_yes on_no) =
        let a = led on_yes in
        let b = led on_no in
        let c = count_both (is_goto (shifted t u)) (leaves_of (sent_row t u on_yes)) (leaves_of (sent_row t u on_no)) in
        let d = count_both (is_goto u) (leaves_of on_yes) (leaves_of on_no) in
        let e = count_both (is_goto t) (leaves_of on_yes) (leaves_of on_no) in
        omega arith
    led (At_leaf (Goto row)) =
        let a = count_more (is_goto (shifted t u)) (Goto (sent t u row)) [] in
        let b = count_more (is_goto u) (Goto row) [] in
        let c = count_more (is_goto t) (Goto row) [] in
        elim (same_or_apart row t) [
          | inl is ↦
              let p = ap (λ (v : Bool). cond {A = ℕ} v 1 0) (ap (λ (k : ℕ). nat_eq k (shifted t u)) (ap (λ (k : ℕ). sent t u k) is ∙ sent-self t u) ∙ nat_eq-refl (shifted t u)) in
              let q = ap (λ (v : Bool). cond {A = ℕ} v 1 0) (nat_eq-apart row u (λ e. may.not_itself (sym e ∙ is))) in
              let r = ap (λ (v : Bool). cond {A = ℕ} v 1 0) (ap (λ (k : ℕ). nat_eq k t) is ∙ nat_eq-refl t) in
              omega (arith, a, b, c, p, q, r)
          | inr apart ↦
              let p = ap (λ (v : Bool). cond {A = ℕ} v 1 0) (same_test (sent t u row) (shifted t u) row u
              (λ e. shifted-injective t row u apart may.not_itself (sym (sent-other t u row apart) ∙ e)) (λ e. sent-other t u row apart ∙ ap (shifted t) e)) in
              let r = ap (λ (v : Bool). cond {A = ℕ} v 1 0) (nat_eq-apart row t apart) in
              omega (arith, a, b, c, p, r)
        ]
    led (At_leaf Stop) = refl
    led (At_leaf (Trap kind line)) = refl

    none-now : (row : CodeRow) → list_any (is_goto (shifted t u)) (leaves_of (sent_row t u row)) ≡ false
        → (list_any (is_goto u) (leaves_of row) ≡ false) × (list_any (is_goto t) (leaves_of row) ≡ false)
    none-now row e =
        let none = no_count (is_goto (shifted t u)) (leaves_of (sent_row t u row)) e in
        let h = led row in
        (any-counted (is_goto u) (leaves_of row) (omega arith), any-counted (is_goto t) (leaves_of row) (omega arith))
      where
        no_count : (p : Leaf → Bool) (leaves : List Leaf) → list_any p leaves ≡ false → count_by p leaves ≡ 0
        no_count p [] e = refl
        no_count p (leaf ∷ leaves) e =
            (elim (p leaf) as (λ b. count_by p (leaf ∷ leaves) ≡ cond b 1 0 + count_by p leaves → (b || list_any p leaves) ≡ false → (list_any p leaves ≡ false
            → count_by p leaves ≡ 0) → count_by p (leaf ∷ leaves) ≡ 0) [
              | true ↦ λ d f g. absurd (cc)
              | false ↦ λ d f g. (let h = g f in omega arith)
            ]) (count_more p leaf leaves) e (λ f. no_count p leaves f)

    else-none : (k : ℕ) (other : CodeRow) → k ≢ t → k ≢ m → slice_get code.rows k ≡ Some other
        → (list_any (is_goto u) (leaves_of other) ≡ false) × (list_any (is_goto t) (leaves_of other) ≡ false)
    else-none k other a b at = none-now other (pair.only.alone (shifted t k) (sent_row t u other) (now-at k other a at) (λ e. b (shifted-injective t k m a m_stays e)))

    -- t is reached, so m leads to it
    leads_to_t : list_any (is_goto t) (leaves_of above) ≡ true
    leads_to_t = by (all t (At_leaf (Goto u)) may.at) refl
      where
        clash : (b : Bool) → b ≡ false → b ≡ true → ⊥
        clash true p q = absurd (cc)
        clash false p q = absurd (cc)

        by : {j : ℕ} → IsReachable code.rows j → j ≡ t → list_any (is_goto t) (leaves_of above) ≡ true
        by Entry e = absurd (may.not_entry (sym e))
        by (Behind {from = k} {number = j} {row = row} reached at leads) e =
            let to = subst (λ (n : ℕ). list_any (is_goto n) (leaves_of row) ≡ true) e (any_of_goto j row leads) in
            elim (same_or_apart k m) [
              | inl here ↦
                  let a = ap (λ (n : ℕ). slice_get code.rows n) here in
                  let is : row ≡ above = (cc) in
                  subst (λ (r : CodeRow). list_any (is_goto t) (leaves_of r) ≡ true) is to
              | inr not_m ↦ elim (same_or_apart k t) [
                | inl itself ↦
                    let a = ap (λ (n : ℕ). slice_get code.rows n) itself in
                    let b = may.at in
                    let is : row ≡ At_leaf (Goto u) = (cc) in
                    absurd (clash (nat_eq u t || false) (ap (λ (v : Bool). v || false) (nat_eq-apart u t may.not_itself)) (subst
                    (λ (r : CodeRow). list_any (is_goto t) (leaves_of r) ≡ true) is to))
                | inr not_t ↦ absurd (clash (list_any (is_goto t) (leaves_of row)) (else-none k row not_t not_m at).1 to)
              ]
            ]

    above_not_u : list_any (is_goto u) (leaves_of above) ≡ false
    above_not_u =
        let a = counted-any (is_goto t) (leaves_of above) leads_to_t in
        let b = led above in
        let c = pair.only.once in
        any-counted (is_goto u) (leaves_of above) (omega arith)

    pair_of_t : IsPair code t u (At_leaf (Goto u)) under
    pair_of_t = record {
      at_m = may.at;
      at_t = at_u;
      only = record {
        once = count_more (is_goto u) (Goto u) [] ∙ ap (λ (v : Bool). cond {A = ℕ} v 1 0 + 0) (nat_eq-refl u);
        alone = λ k other at not_t. elim (same_or_apart k m) [
          | inl here ↦
              let a = ap (λ (n : ℕ). slice_get code.rows n) here in
              let is : above ≡ other = (cc) in
              subst (λ (r : CodeRow). list_any (is_goto u) (leaves_of r) ≡ false) is above_not_u
          | inr not_m ↦ (else-none k other not_t not_m at).0
        ];
      };
      not_entry = λ e. pair.not_entry (ap (shifted t) e ∙ shifted-entry t may.not_entry);
      not_itself = may.not_itself;
    }

    stay-here : AllByRecursion (λ path. EachStays code.limits (sent_row t u above) path [] (sent_row t u under)) (paths_to (shifted t u) (sent_row t u above))
    stay-here = each (paths_to (shifted t u) (sent_row t u above))
      where
        first : AllByRecursion (λ path. EachStays code.limits (At_leaf (Goto u)) path [] under) (paths_to u (At_leaf (Goto u)))
        first = compact t u (At_leaf (Goto u)) under (all t (At_leaf (Goto u)) may.at) pair_of_t

        alone : EachStays code.limits (At_leaf (Goto u)) [] [] under
        alone = (elim (nat_eq u u) as (λ b. b ≡ true → AllByRecursion (λ path. EachStays code.limits (At_leaf (Goto u)) path [] under) (if b then [] ∷ [] else [])
            → EachStays code.limits (At_leaf (Goto u)) [] [] under) [
              | true ↦ λ e h. h.0
              | false ↦ λ e h. absurd (cc)
            ]) (nat_eq-refl u) first

        each : (paths : List (List Item)) → AllByRecursion (λ path. EachStays code.limits (sent_row t u above) path [] (sent_row t u under)) paths
        each [] = tt
        each (path ∷ paths) = (stays-sent t u code.limits (At_leaf (Goto u)) (sent_row t u above) [] path [] under (omega arith) (omega arith) alone, each paths)

  pub removal_keeps_compact : Compact (removed code t u)
  removal_keeps_compact m' i' above' under' reached pair =
      let a = was_row code t u m' above' pair.at_m in
      let b = was_row code t u i' under' pair.at_t in
      let Goal = λ (m i : ℕ) (x y : CodeRow). IsPair (removed code t u) m i x y → AllByRecursion (λ path. EachStays code.limits x path [] y) (paths_to i x) in
      let first : Goal (shifted t a.was) (shifted t b.was) (sent_row t u a.row) (sent_row t u b.row) = λ p. elim (same_or_apart u b.was) [
        | inr elsewhere ↦ stay-elsewhere a.was b.was a.row b.row a.apart b.apart a.at b.at p elsewhere
        | inl here ↦ (
            let at = ap (λ (k : ℕ). slice_get code.rows k) here ∙ b.at in
            let q = subst (λ (k : ℕ). IsPair (removed code t u) (shifted t a.was) (shifted t k) (sent_row t u a.row) (sent_row t u b.row)) (sym here) p in
            subst (λ (k : ℕ). AllByRecursion (λ path. EachStays code.limits (sent_row t u a.row) path [] (sent_row t u b.row)) (paths_to (shifted t k) (sent_row t u a.row))) here
            (stay-here a.was a.row b.row a.apart a.at at q))
      ] in
      let second = subst (λ (k : ℕ). Goal k (shifted t b.was) (sent_row t u a.row) (sent_row t u b.row)) a.is first in
      let third = subst (λ (k : ℕ). Goal m' k (sent_row t u a.row) (sent_row t u b.row)) b.is second in
      let fourth = subst (λ (r : CodeRow). Goal m' i' r (sent_row t u b.row)) a.same third in
      subst (λ (r : CodeRow). Goal m' i' above' r) b.same fourth pair
