-- Windows with one canonical form are equal up to a shift, and their parameters correspond in the order of first use.
use Rattle.std.proofs.Common.{◌≡◌, ℕ, suc, ◌-◌, List, [], ◌∷◌, ◌++◌, inl, inr, refl, sym, ◌∙◌, ap, subst, arith}
use Rattle.std.specs.Prelude.{ℤ, pos, false, nat_eq, map}
use Rattle.pc_word.proofs.Truth.{decide_le}
use Rattle.pc_word.specs.declared.item.Item.{Item}
use Rattle.pc_word.specs.declared.item.Operand.{Operand}
use Rattle.std.specs.List.{IsDistinct}
use Rattle.pc_word.specs.Items.{dest_of}
use Rattle.pc_linear.specs.Form.{Form, factor_of}
use Rattle.pc_window.specs.Tree.{Tree, Pending, Undecided, Front, Issued, Split, Unfinished, whole}
use Rattle.pc_window.specs.Names.{named, parameters_of}
use Rattle.pc_window.specs.WindowRun.{Window}
use Rattle.pc_canon.specs.Pairs.{Pair, ones, others}
use Rattle.pc_canon.specs.Shift.{OneToOne, EachPair, FormsAlike, SameFront, ShiftedBy}
use Rattle.pc_canon.specs.Canonical.{place_of, placed_item, canonical_tree, canonical_front, tags_of, first_tag, Constant, constant_in, forms_of_parameters}
use Rattle.pc_canon.specs.Canonical.{forms_of_definitions, column, above_forms, Canonical, canonical, side_by_side, parameter_pairs}
use Rattle.pc_canon.proofs.Membership.{has, has_is, distinct_to}
use Rattle.pc_canon.proofs.FactorColumns.{column-begins, with_factor-same, with_factor-none, column-above}
use Rattle.pc_canon.proofs.Sorting.{ordered, ordered-columns, ordered-distinct, ordered-all}
use Rattle.pc_canon.proofs.Alike.{EachAlike, no_more, one_more}
use Rattle.pc_canon.proofs.CanonicalTrees.{trees_from}
use Rattle.pc_canon.proofs.ParameterLists.{parameters_listed, parameters_distinct}
use Rattle.pc_canon.proofs.FirstTags.{first_is_least}
use Rattle.pc_word.specs.Naming.{map_name}

-- ---- fronts

pub whole_canonical : (first : ℕ) (names : List ℕ) (front : Front) → whole (canonical_front first names front) ≡ canonical_tree first names (whole front)
whole_canonical first names (Issued tag origin item rest) = ap (λ (t : Tree). Pending (tag - first) origin (placed_item (place_of names) item) t)
    (whole_canonical first (named (dest_of item) names) rest)
whole_canonical first names (Split tag origin on on_yes on_no) =
    ap (λ (t : Tree). Undecided (tag - first) origin (map_name (place_of names) on) t (whole (canonical_front first names on_no))) (whole_canonical first names on_yes)
    ∙ ap (λ (t : Tree). Undecided (tag - first) origin (map_name (place_of names) on) (canonical_tree first names (whole on_yes)) t) (whole_canonical first names on_no)
whole_canonical first names (Unfinished rest) = refl

done_rest : (t t' o o' : ℕ) (i i' : Item) (r r' : Front) → Issued t o i r ≡ Issued t' o' i' r' → r ≡ r'
done_rest t t' o o' i i' r r' e = cc

split_rest : (t t' o o' : ℕ) (a a' : Operand) (y y' n n' : Front) → Split t o a y n ≡ Split t' o' a' y' n' → (y ≡ y') × (n ≡ n')
split_rest t t' o o' a a' y y' n n' e = (cc, cc)

fronts_from : (a b : ℕ) (xs ys : List ℕ) (f g : Front) → canonical_front a xs f ≡ canonical_front b ys g → SameFront f g
fronts_from a b xs ys (Issued t o i r) (Issued t' o' i' r') e =
    fronts_from a b (named (dest_of i) xs) (named (dest_of i') ys) r r'
    (done_rest (t - a) (t' - b) o o' (placed_item (place_of xs) i) (placed_item (place_of ys) i') (canonical_front a (named (dest_of i) xs) r) (canonical_front b (named (dest_of i') ys) r') e)
fronts_from a b xs ys (Split t o c y n) (Split t' o' c' y' n') e =
    let h = split_rest (t - a) (t' - b) o o' (map_name (place_of xs) c) (map_name (place_of ys) c') (canonical_front a xs y) (canonical_front b ys y') (canonical_front a xs n)
    (canonical_front b ys n') e in
    (fronts_from a b xs ys y y' h.0, fronts_from a b xs ys n n' h.1)
fronts_from a b xs ys (Unfinished r) (Unfinished r') e = tt
fronts_from a b xs ys f g e = absurd (cc)

-- ---- forms

cons_same : {A : Type 0} (a b : A) (xs ys : List A) → a ∷ xs ≡ b ∷ ys → (a ≡ b) × (xs ≡ ys)
cons_same a b xs ys e = (cc, cc)

-- the columns of variables at the same places of two lists are equal
paired_columns : (f g : ℕ → List ℤ) (xs ys : List ℕ) → map f xs ≡ map g ys → EachPair (side_by_side xs ys) (λ x y. f x ≡ g y)
paired_columns f g [] ys e = tt
paired_columns f g (x ∷ xs) [] e = tt
paired_columns f g (x ∷ xs) (y ∷ ys) e =
    let h = cons_same (f x) (g y) (map f xs) (map g ys) e in
    (h.0, paired_columns f g xs ys h.1)

-- lists with as many elements are the sides of their pairs
both_sides : {A : Type 0} (f g : ℕ → A) (xs ys : List ℕ) → map f xs ≡ map g ys → (ones (side_by_side xs ys) ≡ xs) × (others (side_by_side xs ys) ≡ ys)
both_sides f g [] [] e = (refl, refl)
both_sides f g (x ∷ xs) (y ∷ ys) e =
    let h = both_sides f g xs ys (cons_same (f x) (g y) (map f xs) (map g ys) e).1 in
    (ap (λ (l : List ℕ). x ∷ l) h.0, ap (λ (l : List ℕ). y ∷ l) h.1)
both_sides f g [] (y ∷ ys) e = absurd (cc)
both_sides f g (x ∷ xs) [] e = absurd (cc)

each_map : (pairs : List Pair) (P Q : ℕ → ℕ → Type 0) → ((x y : ℕ) → P x y → Q x y) → EachPair pairs P → EachPair pairs Q
each_map [] P Q f h = tt
each_map (pair ∷ pairs) P Q f h = (f pair.one pair.other h.0, each_map pairs P Q f h.1)

-- forms with equal constants and equal columns are alike
forms_from : (pairs : List Pair) (place : ℕ) (fs gs : List Form) → map constant_in fs ≡ map constant_in gs
    → EachPair pairs (λ x y. column place fs x ≡ column place gs y)
    → ((x : ℕ) → has (ones pairs) x ≡ false → column place fs x ≡ []) → ((y : ℕ) → has (others pairs) y ≡ false → column place gs y ≡ [])
    → EachAlike (FormsAlike pairs) fs gs
forms_from pairs place [] [] e h p q = no_more
forms_from pairs place (f ∷ fs) (g ∷ gs) e h p q =
    let c = cons_same (constant_in f) (constant_in g) (map constant_in fs) (map constant_in gs) e in
    let parts : (x y : ℕ) → column place (f ∷ fs) x ≡ column place (g ∷ gs) y
    → (factor_of f.terms x ≡ factor_of g.terms y) × (column (suc place) fs x ≡ column (suc place) gs y) =
    λ x y k. with_factor-same place (factor_of f.terms x) (factor_of g.terms y) (column (suc place) fs x) (column (suc place) gs y)
    (column-begins place (suc place) fs x (omega arith)) (column-begins place (suc place) gs y (omega arith)) k in
    let nothing : (form : Form) (forms : List Form) (x : ℕ) → column place (form ∷ forms) x ≡ [] → (factor_of form.terms x ≡ pos 0) × (column (suc place) forms x ≡ []) =
    λ form forms x k. with_factor-none place (factor_of form.terms x) (column (suc place) forms x) k in
    one_more
    (record {
      constants = ap (λ (k : Constant). k.constant) c.0;
      both_terms = ap (λ (k : Constant). k.terms) c.0;
      factors = each_map pairs (λ x y. column place (f ∷ fs) x ≡ column place (g ∷ gs) y) (λ x y. factor_of f.terms x ≡ factor_of g.terms y) (λ x y k. (parts x y k).0) h;
      no_more = λ x k. (nothing f fs x (p x (has_is (ones pairs) x ∙ k))).0;
      no_others = λ y k. (nothing g gs y (q y (has_is (others pairs) y ∙ k))).0;
    })
    (forms_from pairs (suc place) fs gs c.1
    (each_map pairs (λ x y. column place (f ∷ fs) x ≡ column place (g ∷ gs) y) (λ x y. column (suc place) fs x ≡ column (suc place) gs y) (λ x y k. (parts x y k).1) h)
    (λ x k. (nothing f fs x (p x k)).1) (λ y k. (nothing g gs y (q y k)).1))
forms_from pairs place [] (g ∷ gs) e h p q = absurd (cc)
forms_from pairs place (f ∷ fs) [] e h p q = absurd (cc)

map_twice : (forms : ℕ → Form) (xs : List ℕ) → map constant_in (map forms xs) ≡ map (λ (x : ℕ). constant_in (forms x)) xs
map_twice forms [] = refl
map_twice forms (x ∷ xs) = ap (λ (l : List Constant). constant_in (forms x) ∷ l) (map_twice forms xs)

constants_append : (fs gs : List Form) → map constant_in (fs ++ gs) ≡ map constant_in fs ++ map constant_in gs
constants_append [] gs = refl
constants_append (f ∷ fs) gs = ap (λ (l : List Constant). constant_in f ∷ l) (constants_append fs gs)

split_alike : (R : Form → Form → Type 0) (fs gs more more' : List Form) → map constant_in fs ≡ map constant_in gs
    → EachAlike R (fs ++ more) (gs ++ more') → EachAlike R fs gs × EachAlike R more more'
split_alike R [] [] more more' e h = (no_more, h)
split_alike R (f ∷ fs) (g ∷ gs) more more' e h =
    both_of (split_alike R fs gs more more' (cons_same (constant_in f) (constant_in g) (map constant_in fs) (map constant_in gs) e).1) h
  where
    both_of : {A B C : Type 0} {R : A → B → Type 0} {a : A} {b : B} {xs zs : List A} {ys ws : List B} → (EachAlike R xs ys → EachAlike R zs ws × C) → EachAlike R (a ∷ xs) (b ∷ ys)
        → EachAlike R (a ∷ zs) (b ∷ ws) × C
    both_of f (one_more h t) = let r = f t in (one_more h r.0, r.1)
split_alike R [] (g ∷ gs) more more' e h = absurd (cc)
split_alike R (f ∷ fs) [] more more' e h = absurd (cc)

-- lists of names whose forms are alike, pair by pair
side_by_side_forms : (R : Form → Form → Type 0) (forms forms' : ℕ → Form) (xs ys : List ℕ)
    → EachAlike R (map forms xs) (map forms' ys) → EachPair (side_by_side xs ys) (λ x y. R (forms x) (forms' y))
side_by_side_forms R forms forms' [] ys h = tt
side_by_side_forms R forms forms' (x ∷ xs) [] h = tt
side_by_side_forms R forms forms' (x ∷ xs) (y ∷ ys) h = both_of h (side_by_side_forms R forms forms' xs ys)
  where
    both_of : {A B C : Type 0} {R : A → B → Type 0} {a : A} {b : B} {xs : List A} {ys : List B} → EachAlike R (a ∷ xs) (b ∷ ys) → (EachAlike R xs ys → C) → R a b × C
    both_of (one_more h t) f = (h, f t)

one_to_one : (pairs : List Pair) (xs ys : List ℕ) → (ones pairs ≡ xs) × (others pairs ≡ ys) → IsDistinct nat_eq xs → IsDistinct nat_eq ys → OneToOne pairs
one_to_one pairs xs ys e p q = record {
  ones_differ = subst (λ (l : List ℕ). IsDistinct nat_eq l) (sym e.0) p;
  others_differ = subst (λ (l : List ℕ). IsDistinct nat_eq l) (sym e.1) q;
}

-- a form variable that is not among those that are ordered by their columns has an empty one
not_ordered : (forms : List Form) (x : ℕ) → has (ordered (column 0 forms) (above_forms forms)) x ≡ false → column 0 forms x ≡ []
not_ordered forms x h = elim (decide_le (above_forms forms) x) [
  | inl above ↦ column-above 0 forms x above
  | inr below ↦ ordered-all (column 0 forms) (above_forms forms) x below h
]

-- ---- windows

-- windows with one canonical form are equal up to a shift, and their parameters correspond in the order of first use
pub forms_tell : (w v : Window) → canonical w ≡ canonical v → ShiftedBy (parameter_pairs w v) w v
forms_tell w v same =
    let xs = parameters_of (whole w.front) in
    let ys = parameters_of (whole v.front) in
    let a = first_tag (tags_of (whole w.front)) in
    let b = first_tag (tags_of (whole v.front)) in
    let fs = forms_of_parameters w ++ forms_of_definitions w in
    let gs = forms_of_parameters v ++ forms_of_definitions v in
    let us = ordered (column 0 fs) (above_forms fs) in
    let vs = ordered (column 0 gs) (above_forms gs) in
    let vars = side_by_side us vs in
    let columns : map (column 0 fs) us ≡ map (column 0 gs) vs =
    ordered-columns (column 0 fs) (above_forms fs) ∙ ap (λ (c : Canonical). c.columns) same ∙ sym (ordered-columns (column 0 gs) (above_forms gs)) in
    let sides = both_sides (column 0 fs) (column 0 gs) us vs columns in
    let of_parameters : map constant_in (forms_of_parameters w) ≡ map constant_in (forms_of_parameters v) = ap (λ (c : Canonical). c.parameters) same in
    let of_definitions : map constant_in (forms_of_definitions w) ≡ map constant_in (forms_of_definitions v) = ap (λ (c : Canonical). c.definitions) same in
    let all_constants = constants_append (forms_of_parameters w) (forms_of_definitions w)
    ∙ ap (λ (l : List Constant). l ++ map constant_in (forms_of_definitions w)) of_parameters
    ∙ ap (λ (l : List Constant). map constant_in (forms_of_parameters v) ++ l) of_definitions
    ∙ sym (constants_append (forms_of_parameters v) (forms_of_definitions v)) in
    let alike = forms_from vars 0 fs gs all_constants (paired_columns (column 0 fs) (column 0 gs) us vs columns)
    (λ x e. not_ordered fs x (subst (λ (l : List ℕ). has l x ≡ false) sides.0 e))
    (λ y e. not_ordered gs y (subst (λ (l : List ℕ). has l y ≡ false) sides.1 e)) in
    let parts = split_alike (FormsAlike vars) (forms_of_parameters w) (forms_of_parameters v) (forms_of_definitions w) (forms_of_definitions v) of_parameters alike in
    let fronts : canonical_front a xs w.front ≡ canonical_front b ys v.front = ap (λ (c : Canonical). c.front) same in
    let trees = sym (whole_canonical a xs w.front) ∙ ap (λ (f : Front). whole f) fronts ∙ whole_canonical b ys v.front in
    let names = both_sides (λ (x : ℕ). constant_in (w.forms x)) (λ (y : ℕ). constant_in (v.forms y)) xs ys
    (sym (map_twice w.forms xs) ∙ of_parameters ∙ map_twice v.forms ys) in (
      record { variables = vars; shift = b; other_shift = a },
      record {
        variables_one_to_one = one_to_one vars us vs sides
            (distinct_to us (ordered-distinct (column 0 fs) (above_forms fs))) (distinct_to vs (ordered-distinct (column 0 gs) (above_forms gs)));
        params_one_to_one = one_to_one (parameter_pairs w v) xs ys names (parameters_distinct (whole w.front)) (parameters_distinct (whole v.front));
        params_alike = side_by_side_forms (FormsAlike vars) w.forms v.forms xs ys parts.0;
        fronts = fronts_from a b xs ys w.front v.front fronts;
        trees = trees_from vars w.forms v.forms a b xs ys (whole w.front) (whole v.front)
            (λ x h. has_is xs x ∙ parameters_listed (whole w.front) x h) (λ y h. has_is ys y ∙ parameters_listed (whole v.front) y h)
            (first_is_least (whole w.front)) (first_is_least (whole v.front)) parts.1 trees;
        limits = ap (λ (c : Canonical). c.limits) same;
        inside = ap (λ (c : Canonical). c.inside) same;
      },
    )
