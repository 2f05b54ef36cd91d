-- Trees are alike exactly where their canonical trees are equal.
use Rattle.std.proofs.Common.{◌≡◌, ℕ, suc, ◌+◌, ◌-◌, List, [], ◌∷◌, ◌++◌, length, ◌⊎◌, inl, inr, refl, sym, ◌∙◌, ap, subst, arith, length-append}
use Rattle.std.specs.Prelude.{ℤ, Bool, true, false, not, ◌&&◌, ◌||◌, if◌then◌else◌, nat_eq, map, Option, Some, None}
use Rattle.std.proofs.lemmas.Bool.{eq-eqb}
use Rattle.pc_word.specs.declared.item.Item.{Item}
use Rattle.pc_word.specs.declared.item.Item.TheVariants.{Bin, Copy, Load, Store, Print, Read, More}
use Rattle.pc_word.specs.declared.item.OpCode.{OpCode}
use Rattle.pc_word.specs.declared.item.Operand.{Operand}
use Rattle.pc_word.specs.declared.item.Operand.TheVariants.{Name, Lit}
use Rattle.pc_word.specs.declared.item.TrapKind.{TrapKind}
use Rattle.pc_word.specs.Items.{dest_of, reads_name, reads}
use Rattle.pc_word.specs.Commit.{writes}
use Rattle.pc_linear.specs.Form.{Form}
use Rattle.pc_window.specs.declared.home.Home.{Home}
use Rattle.pc_window.specs.Tree.{Tree, Pending, Undecided, Exit, Stop_exit, Trap_exit}
use Rattle.pc_window.specs.Names.{homes_use, uses, named, definitions_of}
use Rattle.pc_canon.specs.Pairs.{Pair, corresponds, defined, OperandsAlike, HomesAlike}
use Rattle.pc_canon.specs.Shift.{FormsAlike, ItemsAlike, both_bin, both_copy, both_load, both_store, both_print, both_read, both_more, Maps, DestsAlike, TreesAlike, both_then}
use Rattle.pc_canon.specs.Shift.{both_either, both_exit, both_stop, both_trap}
use Rattle.pc_canon.specs.Canonical.{place_of, placed_item, placed_homes, canonical_tree, side_by_side}
use Rattle.pc_canon.proofs.Membership.{has}
use Rattle.pc_canon.proofs.Alike.{EachAlike, no_more, one_more}
use Rattle.pc_canon.proofs.FirstTags.{TagsFrom}
use Rattle.pc_word.specs.Naming.{map_name}
use Rattle.pc_word.proofs.Truth.{or_first, or_second}

-- ---- from equal canonical trees

suc_same : (m n : ℕ) → suc m ≡ suc n → m ≡ n
suc_same m n e = omega (arith, e)

place_test : (b b' r s : Bool) (m n : ℕ) → (if b then 0 else suc m) ≡ (if b' then 0 else suc n) → (b || r) ≡ true → (b' || s) ≡ true
    → ((b ≡ true) × (b' ≡ true)) ⊎ ((b ≡ false) × (b' ≡ false) × (m ≡ n) × (r ≡ true) × (s ≡ true))
place_test true true r s m n e p q = inl (refl, refl)
place_test true false r s m n e p q = absurd (omega (arith, e))
place_test false true r s m n e p q = absurd (omega (arith, e))
place_test false false r s m n e p q = inr (refl, refl, suc_same m n e, p, q)

corresponds_if : (b b' c : Bool) → ((b ≡ true) × (b' ≡ true)) ⊎ ((b ≡ false) × (b' ≡ false) × (c ≡ true)) → (if b then b' else (not b' && c)) ≡ true
corresponds_if true true c h = refl
corresponds_if false false c (inl h) = absurd (cc)
corresponds_if false false c (inr h) = h.2
corresponds_if true false c h = elim h [ inl k ↦ absurd (cc) | inr k ↦ absurd (cc) ]
corresponds_if false true c h = elim h [ inl k ↦ absurd (cc) | inr k ↦ absurd (cc) ]

-- names at the same place correspond
place_corresponds : (xs ys : List ℕ) (x y : ℕ) → has xs x ≡ true → has ys y ≡ true → place_of xs x ≡ place_of ys y → corresponds (side_by_side xs ys) x y ≡ true
place_corresponds [] ys x y p q e = absurd (cc)
place_corresponds (u ∷ us) [] x y p q e = absurd (cc)
place_corresponds (u ∷ us) (v ∷ vs) x y p q e =
    corresponds_if (nat_eq u x) (nat_eq v y) (corresponds (side_by_side us vs) x y)
    (elim (place_test (nat_eq u x) (nat_eq v y) (has us x) (has vs y) (place_of us x) (place_of vs y) e p q) [
      | inl h ↦ inl h
      | inr h ↦ inr (h.0, h.1, place_corresponds us vs x y h.3 h.4 h.2)
    ])

name_same : (m n : ℕ) → Name m ≡ Name n → m ≡ n
name_same m n e = cc

lit_same : (m n : ℤ) → Lit m ≡ Lit n → m ≡ n
lit_same m n e = cc

-- each name that is read is in the list
abbrev Listed : List ℕ → (ℕ → Bool) → Type 0
Listed names reads = (x : ℕ) → reads x ≡ true → has names x ≡ true

operand_from : (xs ys : List ℕ) (a b : Operand) → Listed xs (λ x. reads_name a x) → Listed ys (λ y. reads_name b y) → map_name (place_of xs) a ≡ map_name (place_of ys) b
    → OperandsAlike (side_by_side xs ys) a b
operand_from xs ys (Name x) (Name y) p q e = place_corresponds xs ys x y (p x (eq-eqb x x refl)) (q y (eq-eqb y y refl)) (name_same (place_of xs x) (place_of ys y) e)
operand_from xs ys (Lit a) (Lit b) p q e = lit_same a b e
operand_from xs ys (Name x) (Lit b) p q e = absurd (cc)
operand_from xs ys (Lit a) (Name y) p q e = absurd (cc)

listed_first : (xs : List ℕ) (P Q : ℕ → Bool) → Listed xs (λ x. P x || Q x) → Listed xs P
listed_first xs P Q h x p = h x (or_first (P x) (Q x) p)

listed_second : (xs : List ℕ) (P Q : ℕ → Bool) → Listed xs (λ x. P x || Q x) → Listed xs Q
listed_second xs P Q h x p = h x (or_second (P x) (Q x) p)

bin_same : (op op' : OpCode) (a b a' b' : Operand) → Bin op 0 a b ≡ Bin op' 0 a' b' → (op ≡ op') × (a ≡ a') × (b ≡ b')
bin_same op op' a b a' b' e = (cc, cc, cc)

load_same : (array array' : ℕ) (a a' : Operand) → Load 0 array a ≡ Load 0 array' a' → (array ≡ array') × (a ≡ a')
load_same array array' a a' e = (cc, cc)

store_same : (array array' : ℕ) (a b a' b' : Operand) → Store array a b ≡ Store array' a' b' → (array ≡ array') × (a ≡ a') × (b ≡ b')
store_same array array' a b a' b' e = (cc, cc, cc)

copy_same : (a a' : Operand) → Copy 0 a ≡ Copy 0 a' → a ≡ a'
copy_same a a' e = cc

print_same : (a a' : Operand) → Print a ≡ Print a' → a ≡ a'
print_same a a' e = cc

item_from : (xs ys : List ℕ) (i j : Item) → Listed xs (λ x. reads i x) → Listed ys (λ y. reads j y)
    → placed_item (place_of xs) i ≡ placed_item (place_of ys) j → ItemsAlike (side_by_side xs ys) i j
item_from xs ys (Bin op d l r) (Bin op' d' l' r') p q e =
    let h = bin_same op op' (map_name (place_of xs) l) (map_name (place_of xs) r) (map_name (place_of ys) l') (map_name (place_of ys) r') e in
    subst (λ (o : OpCode). ItemsAlike (side_by_side xs ys) (Bin op d l r) (Bin o d' l' r')) h.0
    (both_bin (operand_from xs ys l l' (listed_first xs (λ x. reads_name l x) (λ x. reads_name r x) p) (listed_first ys (λ x. reads_name l' x) (λ x. reads_name r' x) q) h.1)
    (operand_from xs ys r r' (listed_second xs (λ x. reads_name l x) (λ x. reads_name r x) p) (listed_second ys (λ x. reads_name l' x) (λ x. reads_name r' x) q) h.2))
item_from xs ys (Copy d a) (Copy d' a') p q e = both_copy (operand_from xs ys a a' p q (copy_same (map_name (place_of xs) a) (map_name (place_of ys) a') e))
item_from xs ys (Load d array a) (Load d' array' a') p q e =
    let h = load_same array array' (map_name (place_of xs) a) (map_name (place_of ys) a') e in
    subst (λ (n : ℕ). ItemsAlike (side_by_side xs ys) (Load d array a) (Load d' n a')) h.0 (both_load (operand_from xs ys a a' p q h.1))
item_from xs ys (Store array l r) (Store array' l' r') p q e =
    let h = store_same array array' (map_name (place_of xs) l) (map_name (place_of xs) r) (map_name (place_of ys) l') (map_name (place_of ys) r') e in
    subst (λ (n : ℕ). ItemsAlike (side_by_side xs ys) (Store array l r) (Store n l' r')) h.0
    (both_store (operand_from xs ys l l' (listed_first xs (λ x. reads_name l x) (λ x. reads_name r x) p) (listed_first ys (λ x. reads_name l' x) (λ x. reads_name r' x) q) h.1)
    (operand_from xs ys r r' (listed_second xs (λ x. reads_name l x) (λ x. reads_name r x) p) (listed_second ys (λ x. reads_name l' x) (λ x. reads_name r' x) q) h.2))
item_from xs ys (Print a) (Print a') p q e = both_print (operand_from xs ys a a' p q (print_same (map_name (place_of xs) a) (map_name (place_of ys) a') e))
item_from xs ys (Read d) (Read d') p q e = both_read
item_from xs ys (More d) (More d') p q e = both_more
item_from xs ys i j p q e = absurd (cc)

home_same : (a b : Home) (as' bs' : List Home) → a ∷ as' ≡ b ∷ bs' → (a.variable ≡ b.variable) × (a.value ≡ b.value) × (as' ≡ bs')
home_same a b as' bs' e = let h : a ≡ b = cc in (ap (λ (z : Home). z.variable) h, ap (λ (z : Home). z.value) h, cc)

homes_from : (xs ys : List ℕ) (hs ks : List Home) → Listed xs (λ x. homes_use hs x) → Listed ys (λ y. homes_use ks y) → placed_homes (place_of xs) hs ≡ placed_homes (place_of ys) ks
    → HomesAlike (side_by_side xs ys) hs ks
homes_from xs ys [] [] p q e = tt
homes_from xs ys (a ∷ hs) (b ∷ ks) p q e =
    let h = home_same (record { variable = a.variable; value = map_name (place_of xs) a.value }) (record { variable = b.variable; value = map_name (place_of ys) b.value })
    (placed_homes (place_of xs) hs) (placed_homes (place_of ys) ks) e in (
      h.0,
      operand_from xs ys a.value b.value (listed_first xs (λ x. reads_name a.value x) (λ x. homes_use hs x) p) (listed_first ys (λ y. reads_name b.value y) (λ y. homes_use ks y) q) h.1,
      homes_from xs ys hs ks (listed_second xs (λ x. reads_name a.value x) (λ x. homes_use hs x) p) (listed_second ys (λ y. reads_name b.value y) (λ y. homes_use ks y) q) h.2,
    )
homes_from xs ys [] (b ∷ ks) p q e = absurd (cc)
homes_from xs ys (a ∷ hs) [] p q e = absurd (cc)

then_same : (t t' o o' : ℕ) (i i' : Item) (r r' : Tree) → Pending t o i r ≡ Pending t' o' i' r' → (t ≡ t') × (o ≡ o') × (i ≡ i') × (r ≡ r')
then_same t t' o o' i i' r r' e = (cc, cc, cc, cc)

either_same : (t t' o o' : ℕ) (a a' : Operand) (y y' n n' : Tree) → Undecided t o a y n ≡ Undecided t' o' a' y' n' → (t ≡ t') × (o ≡ o') × (a ≡ a') × (y ≡ y') × (n ≡ n')
either_same t t' o o' a a' y y' n n' e = (cc, cc, cc, cc, cc)

exit_same : (region region' t t' : ℕ) (hs hs' : List Home) → Exit region t hs ≡ Exit region' t' hs' → (region ≡ region') × (t ≡ t') × (hs ≡ hs')
exit_same region region' t t' hs hs' e = (cc, cc, cc)

traps_same : (kind kind' : TrapKind) (line line' : ℕ) → Trap_exit kind line ≡ Trap_exit kind' line' → (kind ≡ kind') × (line ≡ line')
traps_same kind kind' line line' e = (cc, cc)

abbrev pub BothOrNeither : Option ℕ → Option ℕ → Type 0
BothOrNeither (Some x) (Some y) = Unit {0}
BothOrNeither None None = Unit {0}
BothOrNeither _ _ = ⊥

pub both_or_neither : {names : List Pair} {item other : Item} → ItemsAlike names item other → BothOrNeither (dest_of item) (dest_of other)
both_or_neither (both_bin h k) = tt
both_or_neither (both_copy h) = tt
both_or_neither (both_load h) = tt
both_or_neither (both_store h k) = tt
both_or_neither (both_print h) = tt
both_or_neither both_read = tt
both_or_neither both_more = tt

side_by_side_named : (xs ys : List ℕ) (d d' : Option ℕ) → BothOrNeither d d' → side_by_side (named d xs) (named d' ys) ≡ defined (side_by_side xs ys) d d'
side_by_side_named xs ys (Some x) (Some y) h = refl
side_by_side_named xs ys None None h = refl
side_by_side_named xs ys (Some x) None h = absurd h
side_by_side_named xs ys None (Some y) h = absurd h

listed_below : (xs : List ℕ) (d : Option ℕ) (P Q : ℕ → Bool) → Listed xs (λ x. P x || (not (writes d x) && Q x)) → Listed (named d xs) Q
listed_below xs None P Q h x q = h x (or_second (P x) (Q x) q)
listed_below xs (Some d) P Q h x q = shown (nat_eq d x) (Q x) (P x) (has xs x) q (h x)
  where
    shown : (b q p c : Bool) → q ≡ true → ((p || (not b && q)) ≡ true → c ≡ true) → (b || c) ≡ true
    shown true q p c e h = refl
    shown false q p c e h = h (or_second p q e)

named_forms : (R : Form → Form → Type 0) (forms forms' : ℕ → Form) (d d' : Option ℕ) (xs ys : List ℕ)
    → BothOrNeither d d' → EachAlike R (map forms (named d xs)) (map forms' (named d' ys))
    → EachAlike R (map forms xs) (map forms' ys)
named_forms R forms forms' (Some x) (Some y) xs ys both h = others_of h
  where
    others_of : {A B : Type 0} {R : A → B → Type 0} {a : A} {b : B} {xs : List A} {ys : List B} → EachAlike R (a ∷ xs) (b ∷ ys) → EachAlike R xs ys
    others_of (one_more h t) = t
named_forms R forms forms' None None xs ys both h = h
named_forms R forms forms' (Some x) None xs ys both h = absurd both
named_forms R forms forms' None (Some y) xs ys both h = absurd both

named_dests : (maps : Maps) (forms forms' : ℕ → Form) (d d' : Option ℕ) (xs ys : List ℕ) → BothOrNeither d d'
    → EachAlike (FormsAlike maps.variables) (map forms (named d xs)) (map forms' (named d' ys)) → DestsAlike maps forms forms' d d'
named_dests maps forms forms' (Some x) (Some y) xs ys both h = first_of_both h
  where
    first_of_both : {A B : Type 0} {R : A → B → Type 0} {a : A} {b : B} {xs : List A} {ys : List B} → EachAlike R (a ∷ xs) (b ∷ ys) → R a b
    first_of_both (one_more h t) = h
named_dests maps forms forms' None None xs ys both h = tt
named_dests maps forms forms' (Some x) None xs ys both h = tt
named_dests maps forms forms' None (Some y) xs ys both h = tt

pub split_forms : (R : Form → Form → Type 0) (forms forms' : ℕ → Form) (xs ys more more' : List ℕ)
    → length xs ≡ length ys → EachAlike R (map forms (xs ++ more)) (map forms' (ys ++ more'))
    → EachAlike R (map forms xs) (map forms' ys) × EachAlike R (map forms more) (map forms' more')
split_forms R forms forms' [] [] more more' e h = (no_more, h)
split_forms R forms forms' (x ∷ xs) (y ∷ ys) more more' e h = both_of (split_forms R forms forms' xs ys more more' (suc_same (length xs) (length ys) e)) h
  where
    both_of : {A B C : Type 0} {R : A → B → Type 0} {a : A} {b : B} {xs zs : List A} {ys ws : List B} → (EachAlike R xs ys → EachAlike R zs ws × C) → EachAlike R (a ∷ xs) (b ∷ ys)
        → EachAlike R (a ∷ zs) (b ∷ ws) × C
    both_of f (one_more h t) = let r = f t in (one_more h r.0, r.1)
split_forms R forms forms' [] (y ∷ ys) more more' e h = absurd (omega (arith, e))
split_forms R forms forms' (x ∷ xs) [] more more' e h = absurd (omega (arith, e))

dest_kept : (names : List ℕ) (item : Item) (xs ys : List ℕ) → length xs ≡ length ys → length (named (dest_of (placed_item (place_of names) item)) xs) ≡ length (named (dest_of item) ys)
dest_kept names (Bin op d l r) xs ys e = ap (λ (n : ℕ). suc n) e
dest_kept names (Copy d a) xs ys e = ap (λ (n : ℕ). suc n) e
dest_kept names (Load d array a) xs ys e = ap (λ (n : ℕ). suc n) e
dest_kept names (Store array a v) xs ys e = e
dest_kept names (Print a) xs ys e = e
dest_kept names (Read d) xs ys e = ap (λ (n : ℕ). suc n) e
dest_kept names (More d) xs ys e = ap (λ (n : ℕ). suc n) e

-- a canonical tree defines as many names
as_many_defined : (first : ℕ) (names : List ℕ) (tree : Tree) → length (definitions_of (canonical_tree first names tree)) ≡ length (definitions_of tree)
as_many_defined first names (Pending tag origin item rest) =
    dest_kept names item (definitions_of (canonical_tree first (named (dest_of item) names) rest)) (definitions_of rest) (as_many_defined first (named (dest_of item) names) rest)
as_many_defined first names (Undecided tag origin on on_yes on_no) =
    let p = as_many_defined first names on_yes in
    let q = as_many_defined first names on_no in
    omega (
      arith,
      p,
      q,
      length-append (definitions_of on_yes) (definitions_of on_no),
      length-append (definitions_of (canonical_tree first names on_yes))
          (definitions_of (canonical_tree first names on_no)),
    )
as_many_defined first names (Exit region tag homes) = refl
as_many_defined first names Stop_exit = refl
as_many_defined first names (Trap_exit kind line) = refl

-- trees with equal canonical trees are alike
pub trees_from : (vars : List Pair) (forms forms' : ℕ → Form) (a b : ℕ) (xs ys : List ℕ) (t u : Tree)
    → Listed xs (λ x. uses t x) → Listed ys (λ y. uses u y) → TagsFrom a t → TagsFrom b u
    → EachAlike (FormsAlike vars) (map forms (definitions_of t)) (map forms' (definitions_of u)) → canonical_tree a xs t ≡ canonical_tree b ys u
    → TreesAlike (record { variables = vars; shift = b; other_shift = a }) forms forms' (side_by_side xs ys) t u
trees_from vars forms forms' a b xs ys (Pending t o i r) (Pending t' o' i' r') p q m n f e =
    let h = then_same (t - a) (t' - b) o o' (placed_item (place_of xs) i) (placed_item (place_of ys) i') (canonical_tree a (named (dest_of i) xs) r) (canonical_tree b (named (dest_of i') ys) r') e in
    let maps : Maps = record { variables = vars; shift = b; other_shift = a } in
    let items = item_from xs ys i i' (listed_first xs (λ x. reads i x) (λ x. not (writes (dest_of i) x) && uses r x) p)
    (listed_first ys (λ x. reads i' x) (λ x. not (writes (dest_of i') x) && uses r' x) q) h.2 in
    let both = both_or_neither items in
    let below = trees_from vars forms forms' a b (named (dest_of i) xs) (named (dest_of i') ys) r r'
    (listed_below xs (dest_of i) (λ x. reads i x) (λ x. uses r x) p) (listed_below ys (dest_of i') (λ x. reads i' x) (λ x. uses r' x) q)
    m.1 n.1 (named_forms (FormsAlike vars) forms forms' (dest_of i) (dest_of i') (definitions_of r) (definitions_of r') both f) h.3 in
    let tags : t + b ≡ t' + a = omega (arith, h.0, m.0, n.0) in
    subst (λ (z : ℕ). TreesAlike maps forms forms' (side_by_side xs ys) (Pending t o i r) (Pending t' z i' r')) h.1
    (both_then tags items (named_dests maps forms forms' (dest_of i) (dest_of i') (definitions_of r) (definitions_of r') both f)
    (subst (λ (ns : List Pair). TreesAlike maps forms forms' ns r r') (side_by_side_named xs ys (dest_of i) (dest_of i') both) below))
trees_from vars forms forms' a b xs ys (Undecided t o c y n) (Undecided t' o' c' y' n') p q m k f e =
    let h = either_same (t - a) (t' - b) o o' (map_name (place_of xs) c) (map_name (place_of ys) c')
    (canonical_tree a xs y) (canonical_tree b ys y') (canonical_tree a xs n) (canonical_tree b ys n') e in
    let maps : Maps = record { variables = vars; shift = b; other_shift = a } in
    let p' = listed_second xs (λ x. reads_name c x) (λ x. uses y x || uses n x) p in
    let q' = listed_second ys (λ x. reads_name c' x) (λ x. uses y' x || uses n' x) q in
    let long : length (definitions_of y) ≡ length (definitions_of y') =
    sym (as_many_defined a xs y) ∙ ap (λ (z : Tree). length (definitions_of z)) h.3 ∙ as_many_defined b ys y' in
    let fs = split_forms (FormsAlike vars) forms forms' (definitions_of y) (definitions_of y') (definitions_of n) (definitions_of n') long f in
    let tags : t + b ≡ t' + a = omega (arith, h.0, m.0, k.0) in
    subst (λ (z : ℕ). TreesAlike maps forms forms' (side_by_side xs ys) (Undecided t o c y n) (Undecided t' z c' y' n')) h.1
    (both_either tags
    (operand_from xs ys c c' (listed_first xs (λ x. reads_name c x) (λ x. uses y x || uses n x) p) (listed_first ys (λ x. reads_name c' x) (λ x. uses y' x || uses n' x) q) h.2)
    (trees_from vars forms forms' a b xs ys y y' (listed_first xs (λ x. uses y x) (λ x. uses n x) p') (listed_first ys (λ x. uses y' x) (λ x. uses n' x) q') m.1 k.1 fs.0 h.3)
    (trees_from vars forms forms' a b xs ys n n' (listed_second xs (λ x. uses y x) (λ x. uses n x) p') (listed_second ys (λ x. uses y' x) (λ x. uses n' x) q') m.2 k.2 fs.1 h.4))
trees_from vars forms forms' a b xs ys (Exit g t hs) (Exit g' t' hs') p q m n f e =
    let h = exit_same g g' (t - a) (t' - b) (placed_homes (place_of xs) hs) (placed_homes (place_of ys) hs') e in
    let maps : Maps = record { variables = vars; shift = b; other_shift = a } in
    let tags : t + b ≡ t' + a = omega (arith, h.1, m, n) in
    subst (λ (z : ℕ). TreesAlike maps forms forms' (side_by_side xs ys) (Exit g t hs) (Exit z t' hs')) h.0 (both_exit tags (homes_from xs ys hs hs' p q h.2))
trees_from vars forms forms' a b xs ys Stop_exit Stop_exit p q m n f e = both_stop
trees_from vars forms forms' a b xs ys (Trap_exit kind line) (Trap_exit kind' line') p q m n f e =
    let h = traps_same kind kind' line line' e in
    let maps : Maps = record { variables = vars; shift = b; other_shift = a } in
    subst (λ (z : TrapKind). TreesAlike maps forms forms' (side_by_side xs ys) (Trap_exit kind line) (Trap_exit z line')) h.0
    (subst (λ (z : ℕ). TreesAlike maps forms forms' (side_by_side xs ys) (Trap_exit kind line) (Trap_exit kind z)) h.1 both_trap)
trees_from vars forms forms' a b xs ys t u p q m n f e = absurd (cc)
