-- No two canonical forms are written in the same numbers: each is known by how its numbers begin, whatever stands behind them.
use Rattle.std.proofs.Common.{◌≡◌, ℕ, ◌-◌, List, [], ◌∷◌, ◌++◌, refl, sym, ◌∙◌, ap, arith}
use Rattle.std.specs.Prelude.{ℤ, pos, Bool, true, false, Option, Some, None, slice_get}
use Rattle.pc_word.specs.declared.item.Item.{Item}
use Rattle.pc_word.specs.declared.item.Item.TheVariants.{Bin, Copy, Load, Store, Print, Read, More}
use Rattle.pc_word.specs.declared.item.Operand.{Operand}
use Rattle.pc_word.specs.declared.item.Operand.TheVariants.{Name, Lit}
use Rattle.pc_word.specs.declared.item.TrapKind.{TrapKind}
use Rattle.pc_word.specs.declared.item.TrapKind.TheVariants.{DivideByZero, OutOfBounds, EndOfInput}
use Rattle.pc_word.specs.Items.{dest_of, op_number}
use Rattle.pc_window.specs.Tree.{Tree, Pending, Undecided, Exit, Stop_exit, Trap_exit, Front, Issued, Split, Unfinished, whole}
use Rattle.pc_window.specs.Names.{named, parameters_of}
use Rattle.pc_window.specs.WindowRun.{Window}
use Rattle.pc_canon.specs.Shift.{SameFront}
use Rattle.pc_canon.specs.Canonical.{place_of, placed_item, placed_homes, canonical_tree, canonical_front, tags_of, first_tag, canonical}
use Rattle.pc_canon.specs.Key.{trap_number, list_numbers, operand_numbers, item_numbers, home_numbers, tree_numbers, shape_numbers, truth_number, constant_numbers}
use Rattle.pc_canon.specs.Key.{column_numbers, limit_numbers, loop_numbers, canonical_numbers, key_of}
use Rattle.pc_canon.proofs.Bytes.{same_numbers}
use Rattle.pc_canon.proofs.FormsKept.{fronts_to}
use Rattle.pc_canon.proofs.FormsTell.{whole_canonical}
use Rattle.pc_word.specs.Naming.{map_name}
use Rattle.pc_word.proofs.Items.{same_operator}

-- what is written in numbers is known by them, and by where they end
abbrev pub IsCode : {A : Type 0} → (A → List ℤ) → Type 0
IsCode {A} numbers = (x y : A) (r s : List ℤ) → numbers x ++ r ≡ numbers y ++ s → (x ≡ y) × (r ≡ s)

pub joined : (xs ys zs : List ℤ) → (xs ++ ys) ++ zs ≡ xs ++ (ys ++ zs)
joined [] ys zs = refl
joined (x ∷ xs) ys zs = ap (λ (l : List ℤ). x ∷ l) (joined xs ys zs)

-- numbers one after the other
rejoined : (a b r c d s : List ℤ) → (a ++ b) ++ r ≡ (c ++ d) ++ s → a ++ (b ++ r) ≡ c ++ (d ++ s)
rejoined a b r c d s e = sym (joined a b r) ∙ e ∙ joined c d s

one_head : (a b : ℤ) (xs ys : List ℤ) → a ∷ xs ≡ b ∷ ys → (a ≡ b) × (xs ≡ ys)
one_head a b xs ys e = (cc, cc)

two_heads : (a b c d : ℤ) (xs ys : List ℤ) → a ∷ b ∷ xs ≡ c ∷ d ∷ ys → (a ≡ c) × (b ≡ d) × (xs ≡ ys)
two_heads a b c d xs ys e = (cc, cc, cc)

three_heads : (a b c d f g : ℤ) (xs ys : List ℤ) → a ∷ b ∷ c ∷ xs ≡ d ∷ f ∷ g ∷ ys → (a ≡ d) × (b ≡ f) × (c ≡ g) × (xs ≡ ys)
three_heads a b c d f g xs ys e = (cc, cc, cc, cc)

same_natural : (m n : ℕ) → pos m ≡ pos n → m ≡ n
same_natural m n e = cc

-- ---- lists

pub list_code : {A : Type 0} (numbers : A → List ℤ) → IsCode numbers → IsCode (list_numbers numbers)
list_code numbers code [] [] r s e = (refl, (one_head (pos 0) (pos 0) r s e).1)
list_code numbers code (x ∷ xs) (y ∷ ys) r s e =
    let tails = (one_head (pos 1) (pos 1) ((numbers x ++ list_numbers numbers xs) ++ r) ((numbers y ++ list_numbers numbers ys) ++ s) e).1 in
    let first = code x y (list_numbers numbers xs ++ r) (list_numbers numbers ys ++ s) (rejoined (numbers x) (list_numbers numbers xs) r (numbers y) (list_numbers numbers ys) s tails) in
    let rest = list_code numbers code xs ys r s first.1 in
    ((λ i. first.0 i ∷ rest.0 i), rest.1)
list_code numbers code [] (y ∷ ys) r s e = absurd (cc)
list_code numbers code (x ∷ xs) [] r s e = absurd (cc)

-- ---- operators and operands

abbrev traps : List TrapKind
traps = DivideByZero ∷ OutOfBounds ∷ EndOfInput ∷ []

trap_at : (kind : TrapKind) → slice_get traps (trap_number kind) ≡ Some kind
trap_at DivideByZero = refl
trap_at OutOfBounds = refl
trap_at EndOfInput = refl

same_trap : (one other : TrapKind) → trap_number one ≡ trap_number other → one ≡ other
same_trap one other e =
    let both : Some one ≡ Some other = sym (trap_at one) ∙ ap (slice_get traps) e ∙ trap_at other in
    (cc)

operand_code : IsCode operand_numbers
operand_code (Name x) (Name y) r s e = (cc, cc)
operand_code (Lit a) (Lit b) r s e = (cc, cc)
operand_code (Name x) (Lit b) r s e = absurd (cc)
operand_code (Lit a) (Name y) r s e = absurd (cc)

two_operands : (a b c d : Operand) (r s : List ℤ) → (operand_numbers a ++ operand_numbers b) ++ r ≡ (operand_numbers c ++ operand_numbers d) ++ s
    → (a ≡ c) × (b ≡ d) × (r ≡ s)
two_operands a b c d r s e =
    let first = operand_code a c (operand_numbers b ++ r) (operand_numbers d ++ s)
    (rejoined (operand_numbers a) (operand_numbers b) r (operand_numbers c) (operand_numbers d) s e) in
    let second = operand_code b d r s first.1 in
    (first.0, second.0, second.1)

-- ---- items

module _ (p q : ℕ → ℕ) where
  -- an item is known but for the name that it writes
  item_code : (i j : Item) (r s : List ℤ) → item_numbers (placed_item p i) ++ r ≡ item_numbers (placed_item q j) ++ s
      → (placed_item p i ≡ placed_item q j) × (r ≡ s)
  item_code (Bin op d left right) (Bin op' d' left' right') r s e =
      let heads = two_heads (pos 0) (pos (op_number op)) (pos 0) (pos (op_number op'))
      ((operand_numbers (map_name p left) ++ operand_numbers (map_name p right)) ++ r) ((operand_numbers (map_name q left') ++ operand_numbers (map_name q right')) ++ s) e in
      let same = same_operator op op' (same_natural (op_number op) (op_number op') heads.1) in
      let sides = two_operands (map_name p left) (map_name p right) (map_name q left') (map_name q right') r s heads.2 in
      ((λ i. Bin (same i) 0 (sides.0 i) (sides.1 i)), sides.2)
  item_code (Copy d from) (Copy d' from') r s e =
      let side = operand_code (map_name p from) (map_name q from') r s (one_head (pos 1) (pos 1) (operand_numbers (map_name p from) ++ r) (operand_numbers (map_name q from') ++ s) e).1 in
      ((λ i. Copy 0 (side.0 i)), side.1)
  item_code (Load d array index) (Load d' array' index') r s e =
      let heads = two_heads (pos 2) (pos array) (pos 2) (pos array') (operand_numbers (map_name p index) ++ r) (operand_numbers (map_name q index') ++ s) e in
      let side = operand_code (map_name p index) (map_name q index') r s heads.2 in
      let same = same_natural array array' heads.1 in
      ((λ i. Load 0 (same i) (side.0 i)), side.1)
  item_code (Store array index value) (Store array' index' value') r s e =
      let heads = two_heads (pos 3) (pos array) (pos 3) (pos array')
      ((operand_numbers (map_name p index) ++ operand_numbers (map_name p value)) ++ r) ((operand_numbers (map_name q index') ++ operand_numbers (map_name q value')) ++ s) e in
      let same = same_natural array array' heads.1 in
      let sides = two_operands (map_name p index) (map_name p value) (map_name q index') (map_name q value') r s heads.2 in
      ((λ i. Store (same i) (sides.0 i) (sides.1 i)), sides.2)
  item_code (Print value) (Print value') r s e =
      let side = operand_code (map_name p value) (map_name q value') r s (one_head (pos 4) (pos 4) (operand_numbers (map_name p value) ++ r) (operand_numbers (map_name q value') ++ s) e).1 in
      ((λ i. Print (side.0 i)), side.1)
  item_code (Read d) (Read d') r s e = (refl, (one_head (pos 5) (pos 5) r s e).1)
  item_code (More d) (More d') r s e = (refl, (one_head (pos 6) (pos 6) r s e).1)
  item_code i j r s e = absurd (cc)

home_code : IsCode home_numbers
home_code x y r s e =
    let heads = one_head (pos x.variable) (pos y.variable) (operand_numbers x.value ++ r) (operand_numbers y.value ++ s) e in
    let variable = same_natural x.variable y.variable heads.0 in
    let value = operand_code x.value y.value r s heads.1 in
    ((λ i. record { variable = variable i; value = value.0 i }), value.1)

-- ---- trees

module _ (a b : ℕ) where
  tree_code : (xs ys : List ℕ) (t u : Tree) (r s : List ℤ) → tree_numbers (canonical_tree a xs t) ++ r ≡ tree_numbers (canonical_tree b ys u) ++ s
      → (canonical_tree a xs t ≡ canonical_tree b ys u) × (r ≡ s)
  tree_code xs ys (Pending t o i rest) (Pending t' o' i' rest') r s e =
      let below = tree_numbers (canonical_tree a (named (dest_of i) xs) rest) in
      let below' = tree_numbers (canonical_tree b (named (dest_of i') ys) rest') in
      let items = item_numbers (placed_item (place_of xs) i) in
      let items' = item_numbers (placed_item (place_of ys) i') in
      let heads = three_heads (pos 0) (pos (t - a)) (pos o) (pos 0) (pos (t' - b)) (pos o') ((items ++ below) ++ r) ((items' ++ below') ++ s) e in
      let tag = same_natural (t - a) (t' - b) heads.1 in
      let origin = same_natural o o' heads.2 in
      let item = item_code (place_of xs) (place_of ys) i i' (below ++ r) (below' ++ s) (rejoined items below r items' below' s heads.3) in
      let tree = tree_code (named (dest_of i) xs) (named (dest_of i') ys) rest rest' r s item.1 in
      ((λ z. Pending (tag z) (origin z) (item.0 z) (tree.0 z)), tree.1)
  tree_code xs ys (Undecided t o c on_yes on_no) (Undecided t' o' c' on_yes' on_no') r s e =
      let one = tree_numbers (canonical_tree a xs on_yes) in
      let other = tree_numbers (canonical_tree a xs on_no) in
      let one' = tree_numbers (canonical_tree b ys on_yes') in
      let other' = tree_numbers (canonical_tree b ys on_no') in
      let on = operand_numbers (map_name (place_of xs) c) in
      let on' = operand_numbers (map_name (place_of ys) c') in
      let heads = three_heads (pos 1) (pos (t - a)) (pos o) (pos 1) (pos (t' - b)) (pos o') ((on ++ (one ++ other)) ++ r) ((on' ++ (one' ++ other')) ++ s) e in
      let tag = same_natural (t - a) (t' - b) heads.1 in
      let origin = same_natural o o' heads.2 in
      let test = operand_code (map_name (place_of xs) c) (map_name (place_of ys) c') ((one ++ other) ++ r) ((one' ++ other') ++ s)
      (rejoined on (one ++ other) r on' (one' ++ other') s heads.3) in
      let first = tree_code xs ys on_yes on_yes' (other ++ r) (other' ++ s) (rejoined one other r one' other' s test.1) in
      let second = tree_code xs ys on_no on_no' r s first.1 in
      ((λ z. Undecided (tag z) (origin z) (test.0 z) (first.0 z) (second.0 z)), second.1)
  tree_code xs ys (Exit region t homes) (Exit region' t' homes') r s e =
      let hs = placed_homes (place_of xs) homes in
      let hs' = placed_homes (place_of ys) homes' in
      let heads = three_heads (pos 2) (pos region) (pos (t - a)) (pos 2) (pos region') (pos (t' - b)) (list_numbers home_numbers hs ++ r) (list_numbers home_numbers hs' ++ s) e in
      let to = same_natural region region' heads.1 in
      let tag = same_natural (t - a) (t' - b) heads.2 in
      let stub = list_code home_numbers home_code hs hs' r s heads.3 in
      ((λ z. Exit (to z) (tag z) (stub.0 z)), stub.1)
  tree_code xs ys Stop_exit Stop_exit r s e = (refl, (one_head (pos 3) (pos 3) r s e).1)
  tree_code xs ys (Trap_exit kind line) (Trap_exit kind' line') r s e =
      let heads = three_heads (pos 4) (pos (trap_number kind)) (pos line) (pos 4) (pos (trap_number kind')) (pos line') r s e in
      let trap = same_trap kind kind' (same_natural (trap_number kind) (trap_number kind') heads.1) in
      let at = same_natural line line' heads.2 in
      ((λ z. Trap_exit (trap z) (at z)), heads.3)
  tree_code xs ys t u r s e = absurd (cc)

-- ---- fronts

-- fronts with one shape have as many items and tests at the same places
shape_code : (f g : Front) (r s : List ℤ) → shape_numbers f ++ r ≡ shape_numbers g ++ s → SameFront f g × (r ≡ s)
shape_code (Issued t o i rest) (Issued t' o' i' rest') r s e =
    shape_code rest rest' r s (one_head (pos 0) (pos 0) (shape_numbers rest ++ r) (shape_numbers rest' ++ s) e).1
shape_code (Split t o c on_yes on_no) (Split t' o' c' on_yes' on_no') r s e =
    let one = shape_numbers on_yes in
    let other = shape_numbers on_no in
    let one' = shape_numbers on_yes' in
    let other' = shape_numbers on_no' in
    let first = shape_code on_yes on_yes' (other ++ r) (other' ++ s)
    (rejoined one other r one' other' s (one_head (pos 1) (pos 1) ((one ++ other) ++ r) ((one' ++ other') ++ s) e).1) in
    let second = shape_code on_no on_no' r s first.1 in
    ((first.0, second.0), second.1)
shape_code (Unfinished rest) (Unfinished rest') r s e = (tt, (one_head (pos 2) (pos 2) r s e).1)
shape_code f g r s e = absurd (cc)

-- a canonical front has the shape of the front
pub canonical_shape : (first : ℕ) (names : List ℕ) (f : Front) → shape_numbers (canonical_front first names f) ≡ shape_numbers f
canonical_shape first names (Issued tag origin item rest) = ap (λ (l : List ℤ). pos 0 ∷ l) (canonical_shape first (named (dest_of item) names) rest)
canonical_shape first names (Split tag origin on on_yes on_no) =
    λ i. pos 1 ∷ (canonical_shape first names on_yes i ++ canonical_shape first names on_no i)
canonical_shape first names (Unfinished rest) = refl

module _ (a b : ℕ) (xs ys : List ℕ) (f g : Front) where
  front_code : (r s : List ℤ)
      → tree_numbers (whole (canonical_front a xs f)) ++ (shape_numbers (canonical_front a xs f) ++ r)
      ≡ tree_numbers (whole (canonical_front b ys g)) ++ (shape_numbers (canonical_front b ys g) ++ s)
      → (canonical_front a xs f ≡ canonical_front b ys g) × (r ≡ s)
  front_code r s e =
      let written : tree_numbers (canonical_tree a xs (whole f)) ++ (shape_numbers f ++ r) ≡ tree_numbers (canonical_tree b ys (whole g)) ++ (shape_numbers g ++ s) =
      (λ i. tree_numbers (sym (whole_canonical a xs f) i) ++ (sym (canonical_shape a xs f) i ++ r)) ∙ e
      ∙ (λ i. tree_numbers (whole_canonical b ys g i) ++ (canonical_shape b ys g i ++ s)) in
      let trees = tree_code a b xs ys (whole f) (whole g) (shape_numbers f ++ r) (shape_numbers g ++ s) written in
      let shapes = shape_code f g r s trees.1 in
      (fronts_to a b xs ys f g shapes.0 trees.0, shapes.1)

-- ---- the rest of a key

same_truth : (b c : Bool) → truth_number b ≡ truth_number c → b ≡ c
same_truth true true e = refl
same_truth false false e = refl
same_truth true false e = absurd (omega (arith, e))
same_truth false true e = absurd (omega (arith, e))

constant_code : IsCode constant_numbers
constant_code x y r s e =
    let heads = two_heads x.constant (pos (truth_number x.terms)) y.constant (pos (truth_number y.terms)) r s e in
    let terms = same_truth x.terms y.terms (same_natural (truth_number x.terms) (truth_number y.terms) heads.1) in
    ((λ i. record { constant = heads.0 i; terms = terms i }), heads.2)

number_code : IsCode (λ (z : ℤ). z ∷ [])
number_code x y r s e = one_head x y r s e

limit_code : IsCode limit_numbers
limit_code x y r s e =
    let heads = three_heads (pos x.ops) (pos x.tests) (pos x.mem) (pos y.ops) (pos y.tests) (pos y.mem) r s e in
    let ops = same_natural x.ops y.ops heads.0 in
    let tests = same_natural x.tests y.tests heads.1 in
    let mem = same_natural x.mem y.mem heads.2 in
    ((λ i. record { ops = ops i; tests = tests i; mem = mem i }), heads.3)

same_loop : (x y : Option ℕ) → loop_numbers x ≡ loop_numbers y → x ≡ y
same_loop None None e = refl
same_loop (Some m) (Some n) e = cc
same_loop None (Some n) e = absurd (cc)
same_loop (Some m) None e = absurd (cc)

-- ---- keys

-- canonical forms that are written in the same numbers are equal
same_form : (w v : Window) → canonical_numbers (canonical w) ≡ canonical_numbers (canonical v) → canonical w ≡ canonical v
same_form w v e =
    let c = canonical w in
    let d = canonical v in
    let front = front_code (first_tag (tags_of (whole w.front))) (first_tag (tags_of (whole v.front)))
    (parameters_of (whole w.front)) (parameters_of (whole v.front)) w.front v.front
    (list_numbers constant_numbers c.parameters ++ (list_numbers constant_numbers c.definitions ++ (list_numbers column_numbers c.columns ++ (limit_numbers c.limits ++ loop_numbers c.inside))))
    (list_numbers constant_numbers d.parameters ++ (list_numbers constant_numbers d.definitions ++ (list_numbers column_numbers d.columns ++ (limit_numbers d.limits ++ loop_numbers d.inside)))) e in
    let parameters = list_code constant_numbers constant_code c.parameters d.parameters
    (list_numbers constant_numbers c.definitions ++ (list_numbers column_numbers c.columns ++ (limit_numbers c.limits ++ loop_numbers c.inside)))
    (list_numbers constant_numbers d.definitions ++ (list_numbers column_numbers d.columns ++ (limit_numbers d.limits ++ loop_numbers d.inside))) front.1 in
    let definitions = list_code constant_numbers constant_code c.definitions d.definitions
    (list_numbers column_numbers c.columns ++ (limit_numbers c.limits ++ loop_numbers c.inside))
    (list_numbers column_numbers d.columns ++ (limit_numbers d.limits ++ loop_numbers d.inside)) parameters.1 in
    let columns = list_code column_numbers (list_code (λ (z : ℤ). z ∷ []) number_code) c.columns d.columns
    (limit_numbers c.limits ++ loop_numbers c.inside) (limit_numbers d.limits ++ loop_numbers d.inside) definitions.1 in
    let limits = limit_code c.limits d.limits (loop_numbers c.inside) (loop_numbers d.inside) columns.1 in
    let inside = same_loop c.inside d.inside limits.1 in
    λ i. record {
      front = front.0 i;
      parameters = parameters.0 i;
      definitions = definitions.0 i;
      columns = columns.0 i;
      limits = limits.0 i;
      inside = inside i;
    }

-- windows with one key have one canonical form
pub same_key : (w v : Window) → key_of w ≡ key_of v → canonical w ≡ canonical v
same_key w v e = same_form w v (same_numbers (canonical_numbers (canonical w)) (canonical_numbers (canonical v)) e)
