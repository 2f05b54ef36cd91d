-- Windows that are equal up to a shift have one canonical form.
use Rattle.std.proofs.Common.{◌≡◌, ℕ, suc, ◌+◌, ◌-◌, List, [], ◌∷◌, ◌++◌, inl, inr, refl, sym, ◌∙◌, ap, subst, arith}
use Rattle.std.specs.Prelude.{ℤ, Bool, true, false, not, ◌&&◌, if◌then◌else◌, nat_eq, min, map, Option, Some, None}
use Rattle.std.proofs.lemmas.Bool.{eqb-true, eq-eqb}
use Rattle.pc_word.proofs.Truth.{decide_le, same_test}
use Rattle.pc_word.specs.declared.item.Item.{Item}
use Rattle.pc_word.specs.declared.item.Item.TheVariants.{Bin, Copy, Load, Store, Print}
use Rattle.pc_word.specs.declared.item.Operand.{Operand}
use Rattle.pc_word.specs.declared.item.Operand.TheVariants.{Name, Lit}
use Rattle.pc_word.specs.Items.{dest_of}
use Rattle.pc_linear.specs.Form.{Form, factor_of}
use Rattle.pc_window.specs.declared.home.Home.{Home}
use Rattle.pc_window.specs.Tree.{Tree, Pending, Undecided, Exit, Front, Issued, Split, Unfinished, whole}
use Rattle.pc_window.specs.Names.{named, definitions_of, parameters_of, name_in, names_read, names_in_homes, without_name, free_uses, first_uses}
use Rattle.pc_window.specs.WindowRun.{Window}
use Rattle.pc_canon.specs.Pairs.{Pair, corresponds, ones, others, defined, OperandsAlike, HomesAlike}
use Rattle.pc_canon.specs.Shift.{OneToOne, EachPair, FormsAlike, ItemsAlike, both_bin, both_copy, both_load, both_store, both_print, both_read, both_more, Maps, DestsAlike}
use Rattle.pc_canon.specs.Shift.{TagsAlike, TreesAlike, both_then, both_either, both_exit, both_stop, both_trap, SameFront, Shifted}
use Rattle.pc_canon.specs.Canonical.{place_of, placed_item, placed_homes, canonical_tree, canonical_front, tags_of, least_of, first_tag, Constant, constant_in}
use Rattle.pc_canon.specs.Canonical.{forms_of_parameters, forms_of_definitions, with_factor, column, with_occurring, columns_of, above_forms, canonical}
use Rattle.pc_canon.proofs.Membership.{has, Distinct, has_is, distinct_from}
use Rattle.pc_canon.proofs.FactorColumns.{column-above}
use Rattle.pc_canon.proofs.Sorting.{gathered, gathered-same, down_from, below_gathered, down_from-has, down_from-distinct}
use Rattle.pc_canon.proofs.Alike.{EachAlike, no_more, one_more}
use Rattle.pc_canon.proofs.Pairs.{same_some, turned, turned_corresponds, paired, corresponds_paired}
use Rattle.pc_canon.proofs.ShiftForms.{each_corresponds}
use Rattle.pc_canon.proofs.CanonicalTrees.{BothOrNeither, both_or_neither}
use Rattle.pc_word.specs.Naming.{map_name}

-- ---- names that correspond

abbrev pub Corr : List Pair → ℕ → ℕ → Type 0
Corr names x y = corresponds names x y ≡ true

one_way : (names : List Pair) (x y x' y' : ℕ) → Corr names x y → Corr names x' y' → x ≡ x' → y ≡ y'
one_way names x y x' y' p q e =
    same_some y y' (sym (corresponds_paired names x y p) ∙ ap (λ (n : ℕ). paired names n) e ∙ corresponds_paired names x' y' q)

-- names that correspond to equal names are equal, and the other way round
same_names : (names : List Pair) (x y x' y' : ℕ) → Corr names x y → Corr names x' y' → nat_eq x x' ≡ nat_eq y y'
same_names names x y x' y' p q =
    same_test (nat_eq x x') (nat_eq y y')
    (λ e. eq-eqb y y' (one_way names x y x' y' p q (eqb-true x x' e)))
    (λ e. eq-eqb x x' (one_way (turned names) y x y' x' (turned_corresponds names x y ∙ p) (turned_corresponds names x' y' ∙ q) (eqb-true y y' e)))

alike_append : {A B : Type 0} {R : A → B → Type 0} {xs zs : List A} {ys ws : List B} → EachAlike R xs ys → EachAlike R zs ws → EachAlike R (xs ++ zs) (ys ++ ws)
alike_append no_more k = k
alike_append (one_more h t) k = one_more h (alike_append t k)

-- ---- the lists of uses

operand_uses : (names : List Pair) (a b : Operand) → OperandsAlike names a b → EachAlike (Corr names) (name_in a) (name_in b)
operand_uses names (Name x) (Name y) h = one_more h no_more
operand_uses names (Lit a) (Lit b) h = no_more
operand_uses names (Name x) (Lit b) h = absurd h
operand_uses names (Lit a) (Name y) h = absurd h

item_uses : {names : List Pair} {item other : Item} → ItemsAlike names item other → EachAlike (Corr names) (names_read item) (names_read other)
item_uses {names} (both_bin {left} {left'} {right} {right'} h k) = alike_append (operand_uses names left left' h) (operand_uses names right right' k)
item_uses {names} (both_copy {from} {from'} h) = operand_uses names from from' h
item_uses {names} (both_load {index} {index'} h) = operand_uses names index index' h
item_uses {names} (both_store {index} {index'} {value} {value'} h k) = alike_append (operand_uses names index index' h) (operand_uses names value value' k)
item_uses {names} (both_print {value} {value'} h) = operand_uses names value value' h
item_uses both_read = no_more
item_uses both_more = no_more

home_uses : (names : List Pair) (homes homes' : List Home) → HomesAlike names homes homes' → EachAlike (Corr names) (names_in_homes homes) (names_in_homes homes')
home_uses names [] [] h = no_more
home_uses names (home ∷ homes) (home' ∷ homes') h = alike_append (operand_uses names home.value home'.value h.1) (home_uses names homes homes' h.2)
home_uses names [] (home' ∷ homes') h = absurd h
home_uses names (home ∷ homes) [] h = absurd h

outer_step : (names : List Pair) (b b' c : Bool) (x y : ℕ) (xs ys : List ℕ) → corresponds names x y ≡ c → (if b then b' else (not b' && c)) ≡ true → EachAlike (Corr names) xs ys
    → EachAlike (Corr names) (if b then xs else (x ∷ xs)) (if b' then ys else (y ∷ ys))
outer_step names true true c x y xs ys e h t = t
outer_step names true false c x y xs ys e h t = absurd (cc)
outer_step names false true c x y xs ys e h t = absurd (cc)
outer_step names false false c x y xs ys e h t = one_more (e ∙ h) t

outer_uses : (names : List Pair) (d d' : Option ℕ) {xs ys : List ℕ} → BothOrNeither d d'
    → EachAlike (Corr (defined names d d')) xs ys → EachAlike (Corr names) (without_name d xs) (without_name d' ys)
outer_uses names d d' both no_more = no_more
outer_uses names (Some a) (Some b) both (one_more {a = x} {b = y} {xs} {ys} h t) =
    outer_step names (nat_eq a x) (nat_eq b y) (corresponds names x y) x y (without_name (Some a) xs) (without_name (Some b) ys) refl h (outer_uses names (Some a) (Some b) both t)
outer_uses names None None both (one_more h t) = one_more h (outer_uses names None None both t)
outer_uses names (Some a) None both (one_more h t) = absurd both
outer_uses names None (Some b) both (one_more h t) = absurd both

-- uses of names that are not defined above them correspond
pub uses_alike : {maps : Maps} {f g : ℕ → Form} {names : List Pair} {t u : Tree} → TreesAlike maps f g names t u → EachAlike (Corr names) (free_uses t) (free_uses u)
uses_alike {names} (both_then {item} {item'} tags items dests below) = alike_append (item_uses items) (outer_uses names (dest_of item) (dest_of item') (both_or_neither items) (uses_alike below))
uses_alike {names} (both_either {on} {on'} tags test on_yes on_no) = alike_append (operand_uses names on on' test) (alike_append (uses_alike on_yes) (uses_alike on_no))
uses_alike {names} (both_exit {homes} {homes'} tags h) = home_uses names homes homes' h
uses_alike both_stop = no_more
uses_alike both_trap = no_more

kept_step : (names : List Pair) (b b' : Bool) (x y : ℕ) (xs ys : List ℕ) → b ≡ b' → Corr names x y → EachAlike (Corr names) xs ys
    → EachAlike (Corr names) (if b then xs else (x ∷ xs)) (if b' then ys else (y ∷ ys))
kept_step names true true x y xs ys e h t = t
kept_step names false false x y xs ys e h t = one_more h t
kept_step names true false x y xs ys e h t = absurd (cc)
kept_step names false true x y xs ys e h t = absurd (cc)

kept_uses : (names : List Pair) (x y : ℕ) {xs ys : List ℕ} → Corr names x y → EachAlike (Corr names) xs ys → EachAlike (Corr names) (without_name (Some x) xs) (without_name (Some y) ys)
kept_uses names x y p no_more = no_more
kept_uses names x y p (one_more {a} {b} {xs} {ys} h t) = kept_step names (nat_eq x a) (nat_eq y b) a b (without_name (Some x) xs) (without_name (Some y) ys) (same_names names x y a b p h) h
    (kept_uses names x y p t)

pub first_uses_alike : (names : List Pair) {xs ys : List ℕ} → EachAlike (Corr names) xs ys → EachAlike (Corr names) (first_uses xs) (first_uses ys)
first_uses_alike names no_more = no_more
first_uses_alike names (one_more {a} {b} h t) = one_more h (kept_uses names a b h (first_uses_alike names t))

-- ---- places

same_choice : (b b' : Bool) (m n : ℕ) → b ≡ b' → m ≡ n → (if b then 0 else suc m) ≡ (if b' then 0 else suc n)
same_choice true true m n e h = refl
same_choice false false m n e h = ap (λ (k : ℕ). suc k) h
same_choice true false m n e h = absurd (cc)
same_choice false true m n e h = absurd (cc)

places_alike : (names : List Pair) (x y : ℕ) {xs ys : List ℕ} → Corr names x y → EachAlike (Corr names) xs ys → place_of xs x ≡ place_of ys y
places_alike names x y p no_more = refl
places_alike names x y p (one_more {a} {b} {xs} {ys} h t) = same_choice (nat_eq a x) (nat_eq b y) (place_of xs x) (place_of ys y) (same_names names a b x y h p) (places_alike names x y p t)

-- names that correspond stand at the same places
abbrev Agrees : List Pair → List ℕ → List ℕ → Type 0
Agrees names xs ys = (x y : ℕ) → Corr names x y → place_of xs x ≡ place_of ys y

named_step : (b b' c : Bool) (m n : ℕ) → (if b then b' else (not b' && c)) ≡ true → (c ≡ true → m ≡ n) → (if b then 0 else suc m) ≡ (if b' then 0 else suc n)
named_step true true c m n h k = refl
named_step true false c m n h k = absurd (cc)
named_step false true c m n h k = absurd (cc)
named_step false false c m n h k = ap (λ (j : ℕ). suc j) (k h)

agrees_named : (names : List Pair) (xs ys : List ℕ) (d d' : Option ℕ) → BothOrNeither d d' → Agrees names xs ys → Agrees (defined names d d') (named d xs) (named d' ys)
agrees_named names xs ys (Some a) (Some b) both h x y = λ k. named_step (nat_eq a x) (nat_eq b y) (corresponds names x y) (place_of xs x) (place_of ys y) k (h x y)
agrees_named names xs ys None None both h x y = h x y
agrees_named names xs ys (Some a) None both h x y = absurd both
agrees_named names xs ys None (Some b) both h x y = absurd both

operand_to : (names : List Pair) (xs ys : List ℕ) (a b : Operand) → Agrees names xs ys → OperandsAlike names a b → map_name (place_of xs) a ≡ map_name (place_of ys) b
operand_to names xs ys (Name x) (Name y) c h = ap (λ (n : ℕ). Name n) (c x y h)
operand_to names xs ys (Lit a) (Lit b) c h = ap (λ (z : ℤ). Lit z) h
operand_to names xs ys (Name x) (Lit b) c h = absurd h
operand_to names xs ys (Lit a) (Name y) c h = absurd h

item_to : {names : List Pair} {i j : Item} (xs ys : List ℕ) → Agrees names xs ys → ItemsAlike names i j → placed_item (place_of xs) i ≡ placed_item (place_of ys) j
item_to {names} xs ys c (both_bin {op} {left} {left'} {right} {right'} h k) =
    ap (λ (o : Operand). Bin op 0 o (map_name (place_of xs) right)) (operand_to names xs ys left left' c h)
    ∙ ap (λ (o : Operand). Bin op 0 (map_name (place_of ys) left') o) (operand_to names xs ys right right' c k)
item_to {names} xs ys c (both_copy {from} {from'} h) = ap (λ (o : Operand). Copy 0 o) (operand_to names xs ys from from' c h)
item_to {names} xs ys c (both_load {array} {index} {index'} h) = ap (λ (o : Operand). Load 0 array o) (operand_to names xs ys index index' c h)
item_to {names} xs ys c (both_store {array} {index} {index'} {value} {value'} h k) =
    ap (λ (o : Operand). Store array o (map_name (place_of xs) value)) (operand_to names xs ys index index' c h)
    ∙ ap (λ (o : Operand). Store array (map_name (place_of ys) index') o) (operand_to names xs ys value value' c k)
item_to {names} xs ys c (both_print {value} {value'} h) = ap (λ (o : Operand). Print o) (operand_to names xs ys value value' c h)
item_to xs ys c both_read = refl
item_to xs ys c both_more = refl

homes_to : (names : List Pair) (xs ys : List ℕ) (hs ks : List Home) → Agrees names xs ys → HomesAlike names hs ks → placed_homes (place_of xs) hs ≡ placed_homes (place_of ys) ks
homes_to names xs ys [] [] c h = refl
homes_to names xs ys (a ∷ hs) (b ∷ ks) c h =
    let home : ℕ → Operand → Home = λ v o. record { variable = v; value = o } in
    ap (λ (v : ℕ). home v (map_name (place_of xs) a.value) ∷ placed_homes (place_of xs) hs) h.0
    ∙ ap (λ (o : Operand). home b.variable o ∷ placed_homes (place_of xs) hs) (operand_to names xs ys a.value b.value c h.1)
    ∙ ap (λ (l : List Home). home b.variable (map_name (place_of ys) b.value) ∷ l) (homes_to names xs ys hs ks c h.2)
homes_to names xs ys [] (b ∷ ks) c h = absurd h
homes_to names xs ys (a ∷ hs) [] c h = absurd h

tag_to : (a b s s' t t' : ℕ) → a + s ≡ b + s' → t + s ≡ t' + s' → t - a ≡ t' - b
tag_to a b s s' t t' p q = omega (arith, p, q)

-- trees that are alike have equal canonical trees
trees_to : {maps : Maps} {f g : ℕ → Form} {names : List Pair} {t u : Tree} (a b : ℕ) (xs ys : List ℕ) → a + maps.shift ≡ b + maps.other_shift → Agrees names xs ys
    → TreesAlike maps f g names t u → canonical_tree a xs t ≡ canonical_tree b ys u
trees_to {maps} {names} a b xs ys e c (both_then {tag} {tag'} {origin} {item} {item'} {rest} {rest'} tags items dests below) =
    let r = trees_to a b (named (dest_of item) xs) (named (dest_of item') ys) e (agrees_named names xs ys (dest_of item) (dest_of item') (both_or_neither items) c) below in
    ap (λ (n : ℕ). Pending n origin (placed_item (place_of xs) item) (canonical_tree a (named (dest_of item) xs) rest)) (tag_to a b maps.shift maps.other_shift tag tag' e tags)
    ∙ ap (λ (i : Item). Pending (tag' - b) origin i (canonical_tree a (named (dest_of item) xs) rest)) (item_to xs ys c items)
    ∙ ap (λ (t : Tree). Pending (tag' - b) origin (placed_item (place_of ys) item') t) r
trees_to {maps} {names} a b xs ys e c (both_either {tag} {tag'} {origin} {on} {on'} {on_yes} {on_yes'} {on_no} {on_no'} tags test yes_side no_side) =
    ap (λ (n : ℕ). Undecided n origin (map_name (place_of xs) on) (canonical_tree a xs on_yes) (canonical_tree a xs on_no)) (tag_to a b maps.shift maps.other_shift tag tag' e tags)
    ∙ ap (λ (o : Operand). Undecided (tag' - b) origin o (canonical_tree a xs on_yes) (canonical_tree a xs on_no)) (operand_to names xs ys on on' c test)
    ∙ ap (λ (t : Tree). Undecided (tag' - b) origin (map_name (place_of ys) on') t (canonical_tree a xs on_no)) (trees_to a b xs ys e c yes_side)
    ∙ ap (λ (t : Tree). Undecided (tag' - b) origin (map_name (place_of ys) on') (canonical_tree b ys on_yes') t) (trees_to a b xs ys e c no_side)
trees_to {maps} {names} a b xs ys e c (both_exit {region} {tag} {tag'} {homes} {homes'} tags h) =
    ap (λ (n : ℕ). Exit region n (placed_homes (place_of xs) homes)) (tag_to a b maps.shift maps.other_shift tag tag' e tags)
    ∙ ap (λ (l : List Home). Exit region (tag' - b) l) (homes_to names xs ys homes homes' c h)
trees_to a b xs ys e c both_stop = refl
trees_to a b xs ys e c both_trap = refl

-- ---- the first tags

tags_alike : {maps : Maps} {f g : ℕ → Form} {names : List Pair} {t u : Tree} → TreesAlike maps f g names t u → EachAlike (TagsAlike maps) (tags_of t) (tags_of u)
tags_alike (both_then tags items dests below) = one_more tags (tags_alike below)
tags_alike (both_either tags test yes_side no_side) = one_more tags (alike_append (tags_alike yes_side) (tags_alike no_side))
tags_alike (both_exit tags h) = one_more tags no_more
tags_alike both_stop = no_more
tags_alike both_trap = no_more

least_alike : (maps : Maps) (m n : ℕ) {xs ys : List ℕ} → TagsAlike maps m n → EachAlike (TagsAlike maps) xs ys → TagsAlike maps (least_of m xs) (least_of n ys)
least_alike maps m n e no_more = e
least_alike maps m n e (one_more {a} {b} {xs} {ys} h t) = least_alike maps (min m a) (min n b) (least_step m n a b maps.shift maps.other_shift e h) t
  where
    least_step : (m n a b s s' : ℕ) → m + s ≡ n + s' → a + s ≡ b + s' → min m a + s ≡ min n b + s'
    least_step m n a b s s' p q = omega (arith, p, q)

-- the first tags are alike, or there is no tag
first_alike : {maps : Maps} {f g : ℕ → Form} {names : List Pair} {t u : Tree} (xs ys : List ℕ) → TreesAlike maps f g names t u → Agrees names xs ys
    → canonical_tree (first_tag (tags_of t)) xs t ≡ canonical_tree (first_tag (tags_of u)) ys u
first_alike {maps} xs ys (both_then {tag} {tag'} {rest} {rest'} tags items dests below) c =
    trees_to (least_of tag (tags_of rest)) (least_of tag' (tags_of rest')) xs ys (least_alike maps tag tag' tags (tags_alike below)) c (both_then tags items dests below)
first_alike {maps} xs ys (both_either {tag} {tag'} {on_yes} {on_yes'} {on_no} {on_no'} tags test yes_side no_side) c =
    trees_to (least_of tag (tags_of on_yes ++ tags_of on_no)) (least_of tag' (tags_of on_yes' ++ tags_of on_no')) xs ys
    (least_alike maps tag tag' tags (alike_append (tags_alike yes_side) (tags_alike no_side))) c (both_either tags test yes_side no_side)
first_alike {maps} {f} {g} xs ys (both_exit {tag} {tag'} tags h) c = trees_to {maps = maps} {f = f} {g = g} tag tag' xs ys tags c (both_exit tags h)
first_alike xs ys both_stop c = refl
first_alike xs ys both_trap c = refl

-- ---- fronts

then_parts : (t t' o o' : ℕ) (i i' : Item) (r r' : Tree) → Pending t o i r ≡ Pending t' o' i' r' → (t ≡ t') × (o ≡ o') × (i ≡ i') × (r ≡ r')
then_parts t t' o o' i i' r r' e = (cc, cc, cc, cc)

either_parts : (t t' o o' : ℕ) (a a' : Operand) (y y' n n' : Tree) → Undecided t o a y n ≡ Undecided t' o' a' y' n' → (t ≡ t') × (o ≡ o') × (a ≡ a') × (y ≡ y') × (n ≡ n')
either_parts t t' o o' a a' y y' n n' e = (cc, cc, cc, cc, cc)

done_as : (t t' o o' : ℕ) (i i' : Item) (r r' : Front) → t ≡ t' → o ≡ o' → i ≡ i' → r ≡ r' → Issued t o i r ≡ Issued t' o' i' r'
done_as t t' o o' i i' r r' p q h k = cc

split_as : (t t' o o' : ℕ) (a a' : Operand) (y y' n n' : Front) → t ≡ t' → o ≡ o' → a ≡ a' → y ≡ y' → n ≡ n' → Split t o a y n ≡ Split t' o' a' y' n'
split_as t t' o o' a a' y y' n n' p q h k l = cc

pub fronts_to : (a b : ℕ) (xs ys : List ℕ) (f g : Front) → SameFront f g → canonical_tree a xs (whole f) ≡ canonical_tree b ys (whole g) → canonical_front a xs f ≡ canonical_front b ys g
fronts_to a b xs ys (Issued t o i r) (Issued t' o' i' r') h e =
    let p = then_parts (t - a) (t' - b) o o' (placed_item (place_of xs) i) (placed_item (place_of ys) i') (canonical_tree a (named (dest_of i) xs) (whole r))
    (canonical_tree b (named (dest_of i') ys) (whole r')) e in
    done_as (t - a) (t' - b) o o' (placed_item (place_of xs) i) (placed_item (place_of ys) i') (canonical_front a (named (dest_of i) xs) r) (canonical_front b (named (dest_of i') ys) r') p.0 p.1 p.2
    (fronts_to a b (named (dest_of i) xs) (named (dest_of i') ys) r r' h p.3)
fronts_to a b xs ys (Split t o c y n) (Split t' o' c' y' n') h e =
    let p = either_parts (t - a) (t' - b) o o' (map_name (place_of xs) c) (map_name (place_of ys) c') (canonical_tree a xs (whole y)) (canonical_tree b ys (whole y'))
    (canonical_tree a xs (whole n)) (canonical_tree b ys (whole n')) e in
    split_as (t - a) (t' - b) o o' (map_name (place_of xs) c) (map_name (place_of ys) c')
    (canonical_front a xs y) (canonical_front b ys y') (canonical_front a xs n) (canonical_front b ys n') p.0 p.1 p.2
    (fronts_to a b xs ys y y' h.0 p.3) (fronts_to a b xs ys n n' h.1 p.4)
fronts_to a b xs ys (Unfinished r) (Unfinished r') h e = ap (λ (t : Tree). Unfinished t) e
fronts_to a b xs ys (Issued t o i r) (Split t' o' c' y' n') h e = absurd h
fronts_to a b xs ys (Issued t o i r) (Unfinished r') h e = absurd h
fronts_to a b xs ys (Split t o c y n) (Issued t' o' i' r') h e = absurd h
fronts_to a b xs ys (Split t o c y n) (Unfinished r') h e = absurd h
fronts_to a b xs ys (Unfinished r) (Issued t' o' i' r') h e = absurd h
fronts_to a b xs ys (Unfinished r) (Split t' o' c' y' n') h e = absurd h

-- ---- forms

param_forms : (vars names : List Pair) (forms forms' : ℕ → Form) {xs ys : List ℕ} → EachPair names (λ x y. FormsAlike vars (forms x) (forms' y)) → EachAlike (Corr names) xs ys
    → EachAlike (FormsAlike vars) (map forms xs) (map forms' ys)
param_forms vars names forms forms' each no_more = no_more
param_forms vars names forms forms' each (one_more {a} {b} h t) =
    one_more (each_corresponds names (λ x y. FormsAlike vars (forms x) (forms' y)) a b each h) (param_forms vars names forms forms' each t)

dest_forms : (maps : Maps) (f g : ℕ → Form) (d d' : Option ℕ) (xs ys : List ℕ) → BothOrNeither d d'
    → DestsAlike maps f g d d' → EachAlike (FormsAlike maps.variables) (map f xs) (map g ys)
    → EachAlike (FormsAlike maps.variables) (map f (named d xs)) (map g (named d' ys))
dest_forms maps f g (Some a) (Some b) xs ys both h t = one_more h t
dest_forms maps f g None None xs ys both h t = t
dest_forms maps f g (Some a) None xs ys both h t = absurd both
dest_forms maps f g None (Some b) xs ys both h t = absurd both

map_append : (f : ℕ → Form) (xs ys : List ℕ) → map f (xs ++ ys) ≡ map f xs ++ map f ys
map_append f [] ys = refl
map_append f (x ∷ xs) ys = ap (λ (l : List Form). f x ∷ l) (map_append f xs ys)

defined_forms : {maps : Maps} {f g : ℕ → Form} {names : List Pair} {t u : Tree} → TreesAlike maps f g names t u
    → EachAlike (FormsAlike maps.variables) (map f (definitions_of t)) (map g (definitions_of u))
defined_forms {maps} {f} {g} (both_then {item} {item'} {rest} {rest'} tags items dests below) =
    dest_forms maps f g (dest_of item) (dest_of item') (definitions_of rest) (definitions_of rest') (both_or_neither items) dests (defined_forms below)
defined_forms {maps} {f} {g} (both_either {on_yes} {on_yes'} {on_no} {on_no'} tags test yes_side no_side) =
    subst (λ (l : List Form). EachAlike (FormsAlike maps.variables) l (map g (definitions_of on_yes' ++ definitions_of on_no'))) (sym (map_append f (definitions_of on_yes) (definitions_of on_no)))
    (subst (λ (l : List Form). EachAlike (FormsAlike maps.variables) (map f (definitions_of on_yes) ++ map f (definitions_of on_no)) l)
    (sym (map_append g (definitions_of on_yes') (definitions_of on_no')))
    (alike_append (defined_forms yes_side) (defined_forms no_side)))
defined_forms (both_exit tags h) = no_more
defined_forms both_stop = no_more
defined_forms both_trap = no_more

constants_alike : (vars : List Pair) {fs gs : List Form} → EachAlike (FormsAlike vars) fs gs → map constant_in fs ≡ map constant_in gs
constants_alike vars no_more = refl
constants_alike vars (one_more {a} {b} {xs} {ys} h t) =
    (λ i. (record { constant = h.constants i; terms = h.both_terms i }) ∷ map constant_in xs) ∙ ap (λ (l : List Constant). constant_in b ∷ l) (constants_alike vars t)

-- ---- columns

-- variables that correspond have equal columns
columns_alike : (vars : List Pair) (place : ℕ) {fs gs : List Form} → EachAlike (FormsAlike vars) fs gs → EachPair vars (λ x y. column place fs x ≡ column place gs y)
columns_alike vars place no_more = all_same vars
  where
    all_same : (pairs : List Pair) → EachPair pairs (λ x y. column place [] x ≡ column place [] y)
    all_same [] = tt
    all_same (pair ∷ pairs) = (refl, all_same pairs)
columns_alike vars place (one_more {a} {b} {xs} {ys} h t) = both_each vars h.factors (columns_alike vars (suc place) t)
  where
    both_each : (pairs : List Pair) → EachPair pairs (λ x y. factor_of a.terms x ≡ factor_of b.terms y)
        → EachPair pairs (λ x y. column (suc place) xs x ≡ column (suc place) ys y)
        → EachPair pairs (λ x y. column place (a ∷ xs) x ≡ column place (b ∷ ys) y)
    both_each [] p q = tt
    both_each (pair ∷ pairs) p q = ((λ i. with_factor place (p.0 i) (q.0 i)), both_each pairs p.1 q.1)

-- and others have none
no_column : (vars : List Pair) (place x : ℕ) {fs gs : List Form} → has (ones vars) x ≡ false → EachAlike (FormsAlike vars) fs gs → column place fs x ≡ []
no_column vars place x e no_more = refl
no_column vars place x e (one_more {xs} h t) =
    ap (λ (z : ℤ). with_factor place z (column (suc place) xs x)) (h.no_more x (sym (has_is (ones vars) x) ∙ e)) ∙ no_column vars (suc place) x e t

no_other_column : (vars : List Pair) (place y : ℕ) {fs gs : List Form} → has (others vars) y ≡ false → EachAlike (FormsAlike vars) fs gs → column place gs y ≡ []
no_other_column vars place y e no_more = refl
no_other_column vars place y e (one_more {ys} h t) =
    ap (λ (z : ℤ). with_factor place z (column (suc place) ys y)) (h.no_others y (sym (has_is (others vars) y) ∙ e)) ∙ no_other_column vars (suc place) y e t

-- the columns of the variables that correspond
pairs_gathered : (f g : ℕ → List ℤ) (pairs : List Pair) → EachPair pairs (λ x y. f x ≡ g y) → gathered f (ones pairs) ≡ gathered g (others pairs)
pairs_gathered f g [] h = refl
pairs_gathered f g (pair ∷ pairs) h = λ i. with_occurring (h.0 i) (pairs_gathered f g pairs h.1 i)

-- are those of all variables, where no other has one
all_gathered : (forms : List Form) (xs : List ℕ) → Distinct xs → ((x : ℕ) → has xs x ≡ false → column 0 forms x ≡ []) → columns_of forms ≡ gathered (column 0 forms) xs
all_gathered forms xs distinct none =
    below_gathered (column 0 forms) (above_forms forms)
    ∙ gathered-same (column 0 forms) (down_from (column 0 forms) (above_forms forms)) xs (down_from-distinct (column 0 forms) (above_forms forms)) distinct
    (λ z occurs. there z occurs ∙ sym (among z occurs))
  where
    there : (z : ℕ) → (column 0 forms z ≡ [] → ⊥) → has (down_from (column 0 forms) (above_forms forms)) z ≡ true
    there z occurs = elim (decide_le (above_forms forms) z) [
      | inl above ↦ absurd (occurs (column-above 0 forms z above))
      | inr below ↦ down_from-has (column 0 forms) (above_forms forms) z below
    ]

    among_by : (z : ℕ) (b : Bool) → has xs z ≡ b → (column 0 forms z ≡ [] → ⊥) → b ≡ true
    among_by z true e occurs = refl
    among_by z false e occurs = absurd (occurs (none z e))

    among : (z : ℕ) → (column 0 forms z ≡ [] → ⊥) → has xs z ≡ true
    among z occurs = among_by z (has xs z) refl occurs

columns_kept : (vars : List Pair) (fs gs : List Form) → OneToOne vars → EachAlike (FormsAlike vars) fs gs → columns_of fs ≡ columns_of gs
columns_kept vars fs gs one_to_one alike =
    all_gathered fs (ones vars) (distinct_from (ones vars) one_to_one.ones_differ) (λ x e. no_column vars 0 x e alike)
    ∙ pairs_gathered (column 0 fs) (column 0 gs) vars (columns_alike vars 0 alike)
    ∙ sym (all_gathered gs (others vars) (distinct_from (others vars) one_to_one.others_differ) (λ y e. no_other_column vars 0 y e alike))

-- ---- windows

-- windows that are equal up to a shift have one canonical form
pub forms_kept : (w v : Window) → Shifted w v → canonical w ≡ canonical v
forms_kept w v h =
    let params = h.0 in
    let maps = h.1.0 in
    let a = h.1.1 in
    let xs = parameters_of (whole w.front) in
    let ys = parameters_of (whole v.front) in
    let names : EachAlike (Corr params) xs ys = first_uses_alike params (uses_alike a.trees) in
    let trees = first_alike xs ys a.trees (λ x y k. places_alike params x y k names) in
    let of_params = param_forms maps.variables params w.forms v.forms a.params_alike names in
    let of_defined = defined_forms a.trees in
    let front : (canonical w).front ≡ (canonical v).front =
    fronts_to (first_tag (tags_of (whole w.front))) (first_tag (tags_of (whole v.front))) xs ys w.front v.front a.fronts trees in
    let parameters : (canonical w).parameters ≡ (canonical v).parameters = constants_alike maps.variables of_params in
    let definitions : (canonical w).definitions ≡ (canonical v).definitions = constants_alike maps.variables of_defined in
    let columns : (canonical w).columns ≡ (canonical v).columns =
    columns_kept maps.variables (forms_of_parameters w ++ forms_of_definitions w) (forms_of_parameters v ++ forms_of_definitions v) a.variables_one_to_one
    (alike_append of_params of_defined) in
    λ i. record {
      front = front i;
      parameters = parameters i;
      definitions = definitions i;
      columns = columns i;
      limits = a.limits i;
      inside = a.inside i;
    }
