-- What is written of a window are the numbers of its key.
use Rattle.std.proofs.Common.{◌≡◌, ℕ, suc, ◌<◌, ◌≤◌, List, [], ◌∷◌, ◌++◌, length, length-append, Option, Some, None, refl, sym, ◌∙◌, ap, subst, arith}
use Rattle.pc_word.specs.Items.{dest_of}
use Rattle.std.specs.Prelude.{ℤ, Bool, true, false, ◌||◌, nat_eq, map, replicate}
use Rattle.std.specs.List.{AllByRecursion}
use Rattle.std.proofs.lemmas.Bool.{eqb-true}
use Rattle.std.proofs.lemmas.Map.Steps.{length-le_from_distinct_below}
use Rattle.pc_window.specs.Tree.{Tree, Pending, Undecided, Exit, Stop_exit, Trap_exit, whole, tree_size}
use Rattle.pc_window.specs.Names.{named, definitions_of, parameters_of}
use Rattle.pc_window.specs.Opening.{TreeBelow}
use Rattle.pc_window.specs.Rebasing.{is_in}
use Rattle.pc_window.specs.WindowRun.{Window}
use Rattle.pc_window.proofs.Listed.{parameters-below}
use Rattle.pc_canon.specs.Canonical.{canonical, constant_in, canonical_front, tags_of, first_tag, columns_of, forms_of_parameters, forms_of_definitions}
use Rattle.pc_canon.specs.Key.{list_numbers, tree_numbers, shape_numbers, constant_numbers, column_numbers, limit_numbers, loop_numbers, canonical_numbers}
use Rattle.pc_canon.specs.models.Written.{levels_of, written, forms_numbers}
use Rattle.pc_canon.proofs.Codes.{joined, canonical_shape}
use Rattle.pc_canon.proofs.FormsTell.{whole_canonical}
use Rattle.pc_canon.proofs.Leveled.{levels_are, levels-long, tree-written}
use Rattle.pc_canon.proofs.ParameterLists.{parameters_distinct}

-- ---- how many parameters there are

pub each_below : (n : ℕ) (xs : List ℕ) → AllByRecursion (λ x. x < n) xs → (q : ℕ) → is_in q xs ≡ true → q < n
each_below n [] h q e = absurd (cc)
each_below n (x ∷ xs) h q e = by (nat_eq q x) refl e (each_below n xs h.1 q)
  where
    by : (b : Bool) → nat_eq q x ≡ b → (b || is_in q xs) ≡ true → (is_in q xs ≡ true → q < n) → q < n
    by true same e next = subst (λ (y : ℕ). y < n) (sym (eqb-true q x same)) h.0
    by false same e next = next e

pub few_parameters : (n : ℕ) (tree : Tree) → TreeBelow n tree → length (parameters_of tree) ≤ n
few_parameters n tree below =
    length-le_from_distinct_below (parameters_of tree) n (parameters_distinct tree) (each_below n (parameters_of tree) (parameters-below n tree below))

-- and how many definitions
pub few_definitions : (tree : Tree) → length (definitions_of tree) ≤ tree_size tree
few_definitions (Pending tag origin item rest) = by (dest_of item) (few_definitions rest)
  where
    by : (d : Option ℕ) → length (definitions_of rest) ≤ tree_size rest → length (named d (definitions_of rest)) ≤ suc (tree_size rest)
    by None h = omega (arith, h)
    by (Some dest) h = omega (arith, h)
few_definitions (Undecided tag origin on one other) =
    let p = few_definitions one in
    let q = few_definitions other in
    let both = length-append (definitions_of one) (definitions_of other) in
    omega (arith, p, q, both)
few_definitions (Exit region tag homes) = omega arith
few_definitions Stop_exit = omega arith
few_definitions (Trap_exit kind line) = omega arith

-- ---- the parts of a key

-- what is written of a window with this tree, where names are below a number
abbrev pub all_written : ℕ → Window → Tree → List ℤ
all_written n w tree =
    written (first_tag (tags_of tree)) (length (parameters_of tree)) (levels_of (parameters_of tree) (replicate n 0)) tree
    ++ (shape_numbers w.front
    ++ (forms_numbers (map w.forms (parameters_of tree)) (map w.forms (definitions_of tree)) ++ (limit_numbers w.limits ++ loop_numbers w.inside)))

joined_forms : (a b c rest : List ℤ) → a ++ (b ++ (c ++ rest)) ≡ (a ++ (b ++ c)) ++ rest
joined_forms a b c rest = ap (λ (l : List ℤ). a ++ l) (sym (joined b c rest)) ∙ sym (joined a (b ++ c) rest)

whole_written : (n : ℕ) (w : Window) → TreeBelow n (whole w.front) → all_written n w (whole w.front) ≡ canonical_numbers (canonical w)
whole_written n w below =
    let tree = whole w.front in
    let names = parameters_of tree in
    let first = first_tag (tags_of tree) in
    let levels = levels_of names (replicate n 0) in
    let long = levels-long n names in
    let trees : written first (length names) levels tree ≡ tree_numbers (whole (canonical_front first names w.front)) =
    tree-written first levels names (length names) tree (levels_are n names (parameters-below n tree below)) refl (subst (λ (m : ℕ). TreeBelow m tree) (sym long) below)
    ∙ ap tree_numbers (sym (whole_canonical first names w.front)) in
    let rest = limit_numbers w.limits ++ loop_numbers w.inside in
    let forms = sym (joined_forms (list_numbers constant_numbers (map constant_in (forms_of_parameters w))) (list_numbers constant_numbers (map constant_in (forms_of_definitions w)))
    (list_numbers column_numbers (columns_of (forms_of_parameters w ++ forms_of_definitions w))) rest) in
    λ i. trees i ++ (sym (canonical_shape first names w.front) i ++ forms i)

pub key_written : (n : ℕ) (w : Window) (tree : Tree) → whole w.front ≡ tree → TreeBelow n tree → all_written n w tree ≡ canonical_numbers (canonical w)
key_written n w tree is below =
    ap (λ (t : Tree). all_written n w t) (sym is) ∙ whole_written n w (subst (λ (t : Tree). TreeBelow n t) (sym is) below)

-- what is written one part after the other
pub parts_written : (a b c d e one two three four five : List ℤ) → one ≡ a → two ≡ one ++ b → three ≡ two ++ c → four ≡ three ++ d → five ≡ four ++ e
    → five ≡ a ++ (b ++ (c ++ (d ++ e)))
parts_written a b c d e one two three four five p q r s t =
    t ∙ ap (λ (l : List ℤ). l ++ e) (s ∙ ap (λ (l : List ℤ). l ++ d) (r ∙ ap (λ (l : List ℤ). l ++ c) (q ∙ ap (λ (l : List ℤ). l ++ b) p)))
    ∙ joined ((a ++ b) ++ c) d e ∙ joined (a ++ b) c (d ++ e) ∙ joined a b (c ++ (d ++ e))
