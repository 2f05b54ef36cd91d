-- The list of all names of a window: each name is there, and none twice.
use Rattle.std.proofs.Common.{◌≡◌, ℕ, List, [], ◌∷◌, ◌++◌, Option, Some, None, refl, sym, ◌∙◌, ap, subst}
use Rattle.std.specs.Prelude.{Bool, true, false, ◌||◌, if◌then◌else◌, nat_eq}
use Rattle.std.specs.List.{AllByRecursion}
use Rattle.std.proofs.lemmas.Bool.{eqb-true}
use Rattle.std.proofs.lemmas.List.{append-nil, append_assoc}
use Rattle.std.proofs.lemmas.List.Folds.{list_any-append}
use Rattle.pc_word.specs.Items.{dest_of}
use Rattle.pc_word.specs.Commit.{writes}
use Rattle.pc_word.proofs.Lists.{all_both, all_imply}
use Rattle.pc_word.proofs.Truth.{or_false, or_made_false, or_first, or_second}
use Rattle.pc_window.specs.Tree.{Tree, Pending, Undecided, Exit, Stop_exit, Trap_exit}
use Rattle.pc_window.specs.Names.{Scoped, IsNew, and_dest, uses, named, definitions_of, parameters_of}
use Rattle.pc_window.specs.Rebasing.{is_in, all_names}
use Rattle.pc_window.proofs.Grafts.{nat_eq-same}
use Rattle.pc_window.specs.models.Listing.{and_name, and_names}
use Rattle.pc_window.proofs.Listed.{in_more, all_listed}
use Rattle.pc_canon.proofs.Membership.{has, has_is, Distinct, distinct_from}
use Rattle.pc_canon.proofs.ParameterLists.{parameters_listed, parameters_used, parameters_distinct}
use Rattle.pc_renumber.proofs.NamesOfTrees.{OfTree, of_tree}

-- ---- names that are put behind a list

-- a name that is there stays there
in_one : (found : List ℕ) (x y : ℕ) → is_in y found ≡ true → is_in y (and_name found x) ≡ true
in_one found x y h = by (is_in x found)
  where
    by : (b : Bool) → is_in y (if b then found else found ++ x ∷ []) ≡ true
    by true = h
    by false = in_more y x found ∙ or_first (is_in y found) (nat_eq y x) h

in_later : (found xs : List ℕ) (y : ℕ) → is_in y found ≡ true → is_in y (and_names found xs) ≡ true
in_later found [] y h = h
in_later found (x ∷ xs) y h = in_later (and_name found x) xs y (in_one found x y h)

-- a name that is put there is there
put_there : (found : List ℕ) (x : ℕ) → is_in x (and_name found x) ≡ true
put_there found x = by (is_in x found) refl
  where
    by : (b : Bool) → is_in x found ≡ b → is_in x (if b then found else found ++ x ∷ []) ≡ true
    by true e = e
    by false e = in_more x x found ∙ or_second (is_in x found) (nat_eq x x) (nat_eq-same x)

all_there : (found xs : List ℕ) → AllByRecursion (λ x. is_in x (and_names found xs) ≡ true) xs
all_there found [] = tt
all_there found (x ∷ xs) = (in_later (and_name found x) xs x (put_there found x), all_there (and_name found x) xs)

-- a list without a name twice has none twice with one more that is not there
one_more : (found : List ℕ) (x : ℕ) → has found x ≡ false → Distinct found → Distinct (found ++ x ∷ [])
one_more [] x h d = (refl, tt)
one_more (y ∷ found) x h d =
    let parts = or_false (nat_eq y x) (has found x) h in (
      has_is (found ++ x ∷ []) y ∙ in_more y x found
          ∙ or_made_false (is_in y found) (nat_eq y x) (sym (has_is found y) ∙ d.0) parts.0,
      one_more found x parts.1 d.1,
    )

distinct_later : (found xs : List ℕ) → Distinct found → Distinct (and_names found xs)
distinct_later found [] d = d
distinct_later found (x ∷ xs) d = distinct_later (and_name found x) xs (by (is_in x found) refl)
  where
    by : (b : Bool) → is_in x found ≡ b → Distinct (if b then found else found ++ x ∷ [])
    by true e = d
    by false e = one_more found x (has_is found x ∙ e) d

-- names that are not in a list are put behind it as behind what stands in front of it
in_front : (front found xs : List ℕ) → AllByRecursion (λ x. is_in x front ≡ false) xs → and_names (front ++ found) xs ≡ front ++ and_names found xs
in_front front found [] h = refl
in_front front found (x ∷ xs) h = by (is_in x found) (is_in x (front ++ found)) same (in_front front found xs h.1) (in_front front (found ++ x ∷ []) xs h.1)
  where
    same : is_in x (front ++ found) ≡ is_in x found
    same = list_any-append (nat_eq x) front found ∙ ap (λ (b : Bool). b || is_in x found) h.0

    by : (b c : Bool) → c ≡ b → and_names (front ++ found) xs ≡ front ++ and_names found xs
        → and_names (front ++ (found ++ x ∷ [])) xs ≡ front ++ and_names (found ++ x ∷ []) xs
        → and_names (if c then front ++ found else (front ++ found) ++ x ∷ []) xs ≡ front ++ and_names (if b then found else found ++ x ∷ []) xs
    by true true e h k = h
    by false false e h k = ap (λ (list : List ℕ). and_names list xs) (append_assoc front found (x ∷ [])) ∙ k
    by true false e h k = absurd (cc)
    by false true e h k = absurd (cc)

-- names of which none is twice come as they are
all_new : (found xs : List ℕ) → Distinct xs → AllByRecursion (λ x. is_in x found ≡ false) xs → and_names found xs ≡ found ++ xs
all_new found [] d h = sym (append-nil found)
all_new found (x ∷ xs) d h =
    ap (λ (b : Bool). and_names (if b then found else found ++ x ∷ []) xs) h.0
    ∙ all_new (found ++ x ∷ []) xs d.1 (apart xs d.0 h.1) ∙ append_assoc found (x ∷ []) xs
  where
    apart : (ys : List ℕ) → has ys x ≡ false → AllByRecursion (λ y. is_in y found ≡ false) ys → AllByRecursion (λ y. is_in y (found ++ x ∷ []) ≡ false) ys
    apart [] d h = tt
    apart (y ∷ ys) d h =
        let parts = or_false (nat_eq y x) (has ys x) d in
        (in_more y x found ∙ or_made_false (is_in y found) (nat_eq y x) h.0 parts.0, apart ys parts.1 h.1)

-- ---- definitions are no parameters

new_named : (known : ℕ → Bool) (d : Option ℕ) (xs : List ℕ) → IsNew known d → AllByRecursion (λ x. (writes d x || known x) ≡ false) xs
    → AllByRecursion (λ x. known x ≡ false) (named d xs)
new_named known None xs h rest = rest
new_named known (Some d) xs h rest =
    (h, all_imply (λ x. (nat_eq d x || known x) ≡ false) (λ x. known x ≡ false) xs (λ x e. (or_false (nat_eq d x) (known x) e).1) rest)

unknown_defined : (known : ℕ → Bool) (tree : Tree) → Scoped known tree → AllByRecursion (λ x. known x ≡ false) (definitions_of tree)
unknown_defined known (Pending tag origin item rest) h =
    new_named known (dest_of item) (definitions_of rest) h.1 (unknown_defined (and_dest known item) rest h.2)
unknown_defined known (Undecided tag origin on one other) h =
    all_both (λ x. known x ≡ false) (definitions_of one) (definitions_of other) (unknown_defined known one h.1) (unknown_defined known other h.2)
unknown_defined known (Exit region tag homes) h = tt
unknown_defined known Stop_exit h = tt
unknown_defined known (Trap_exit kind line) h = tt

-- what is told apart from each of a list is not in it
not_in : (known : ℕ → Bool) (xs : List ℕ) (y : ℕ) → known y ≡ false → AllByRecursion (λ x. known x ≡ true) xs → is_in y xs ≡ false
not_in known [] y h all = refl
not_in known (x ∷ xs) y h all = or_made_false (nat_eq y x) (is_in y xs) (by (nat_eq y x) refl) (not_in known xs y h all.1)
  where
    by : (b : Bool) → nat_eq y x ≡ b → b ≡ false
    by false e = refl
    by true e = absurd (let k : known x ≡ false = subst (λ (n : ℕ). known n ≡ false) (eqb-true y x e) h in let l = all.0 in cc)

module _ (tree : Tree) (scoped : Scoped (uses tree) tree) where
  no_parameters : AllByRecursion (λ x. is_in x (parameters_of tree) ≡ false) (definitions_of tree)
  no_parameters =
      all_imply (λ x. uses tree x ≡ false) (λ x. is_in x (parameters_of tree) ≡ false) (definitions_of tree)
      (λ x h. not_in (uses tree) (parameters_of tree) x h (parameters_used tree)) (unknown_defined (uses tree) tree scoped)

  behind_parameters : all_names tree ≡ and_names (parameters_of tree) (definitions_of tree)
  behind_parameters =
      sym (all_listed tree (parameters_of tree) (and_names [] (definitions_of tree)) _ refl refl refl)
      ∙ sym (in_front (parameters_of tree) [] (definitions_of tree) no_parameters)
      ∙ ap (λ (list : List ℕ). and_names list (definitions_of tree)) (append-nil (parameters_of tree))

  -- parameters and then definitions, put behind nothing
  pub all_put : (first all : List ℕ) → first ≡ and_names [] (parameters_of tree) → all ≡ and_names first (definitions_of tree) → all ≡ all_names tree
  all_put first all is later =
      later ∙ ap (λ (list : List ℕ). and_names list (definitions_of tree)) (is ∙ all_new [] (parameters_of tree) once (none_in (parameters_of tree)))
      ∙ sym behind_parameters
    where
      once : Distinct (parameters_of tree)
      once = distinct_from (parameters_of tree) (parameters_distinct tree)

      none_in : (xs : List ℕ) → AllByRecursion (λ x. is_in x [] ≡ false) xs
      none_in [] = tt
      none_in (x ∷ xs) = (refl, none_in xs)

  -- no name is twice
  pub all_distinct : Distinct (all_names tree)
  all_distinct =
      subst Distinct (sym behind_parameters)
      (distinct_later (parameters_of tree) (definitions_of tree) (distinct_from (parameters_of tree) (parameters_distinct tree)))

  -- each name of the tree is there
  pub names_there : OfTree (λ x. is_in x (all_names tree) ≡ true) tree
  names_there =
      of_tree (λ x. is_in x (all_names tree) ≡ true) tree
      (λ x e. ap (is_in x) behind_parameters ∙ in_later (parameters_of tree) (definitions_of tree) x (parameters_listed tree x e))
      (subst (λ (list : List ℕ). AllByRecursion (λ x. is_in x list ≡ true) (definitions_of tree)) (sym behind_parameters)
      (all_there (parameters_of tree) (definitions_of tree)))
