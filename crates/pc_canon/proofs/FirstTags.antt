-- No tag of a tree is below its first.
use Rattle.std.proofs.Common.{◌≡◌, ℕ, ◌≤◌, List, [], ◌∷◌, ◌++◌, refl, ap, arith}
use Rattle.std.specs.Prelude.{min, Option, Some, None, unwrap_or}
use Rattle.pc_canon.specs.models.Written.{lesser, least_found}
use Rattle.pc_window.specs.Tree.{Tree, Pending, Undecided, Exit, Stop_exit, Trap_exit}
use Rattle.pc_canon.specs.Canonical.{tags_of, least_of, first_tag}

-- the first tag is not above any
abbrev pub TagsFrom : ℕ → Tree → Type 0
TagsFrom first (Pending tag origin item rest) = (first ≤ tag) × TagsFrom first rest
TagsFrom first (Undecided tag origin on on_yes on_no) = (first ≤ tag) × TagsFrom first on_yes × TagsFrom first on_no
TagsFrom first (Exit region tag homes) = first ≤ tag
TagsFrom first Stop_exit = Unit {0}
TagsFrom first (Trap_exit kind line) = Unit {0}

abbrev AllFrom : ℕ → List ℕ → Type 0
AllFrom first [] = Unit {0}
AllFrom first (tag ∷ tags) = (first ≤ tag) × AllFrom first tags

all_from_first : (first : ℕ) (xs ys : List ℕ) → AllFrom first (xs ++ ys) → AllFrom first xs
all_from_first first [] ys h = tt
all_from_first first (x ∷ xs) ys h = (h.0, all_from_first first xs ys h.1)

all_from_second : (first : ℕ) (xs ys : List ℕ) → AllFrom first (xs ++ ys) → AllFrom first ys
all_from_second first [] ys h = h
all_from_second first (x ∷ xs) ys h = all_from_second first xs ys h.1

least_below : (least : ℕ) (tags : List ℕ) → least_of least tags ≤ least
least_below least [] = omega arith
least_below least (tag ∷ tags) = let h = least_below (min least tag) tags in omega (arith, h)

least_all : (least : ℕ) (tags : List ℕ) → AllFrom (least_of least tags) tags
least_all least [] = tt
least_all least (tag ∷ tags) = let h = least_below (min least tag) tags in (omega (arith, h), least_all (min least tag) tags)

first_below_all : (tags : List ℕ) → AllFrom (first_tag tags) tags
first_below_all [] = tt
first_below_all (tag ∷ tags) = (least_below tag tags, least_all tag tags)

tags_from : (first : ℕ) (tree : Tree) → AllFrom first (tags_of tree) → TagsFrom first tree
tags_from first (Pending tag origin item rest) h = (h.0, tags_from first rest h.1)
tags_from first (Undecided tag origin on on_yes on_no) h =
    (h.0, tags_from first on_yes (all_from_first first (tags_of on_yes) (tags_of on_no) h.1), tags_from first on_no (all_from_second first (tags_of on_yes) (tags_of on_no) h.1))
tags_from first (Exit region tag homes) h = h.0
tags_from first Stop_exit h = tt
tags_from first (Trap_exit kind line) h = tt

-- no tag of a tree is below its first
pub first_is_least : (tree : Tree) → TagsFrom (first_tag (tags_of tree)) tree
first_is_least tree = tags_from (first_tag (tags_of tree)) tree (first_below_all (tags_of tree))

-- ---- the least tag, found on a walk

pub least_found-append : (found : Option ℕ) (xs ys : List ℕ) → least_found found (xs ++ ys) ≡ least_found (least_found found xs) ys
least_found-append found [] ys = refl
least_found-append found (x ∷ xs) ys = least_found-append (Some (lesser found x)) xs ys

least_found-some : (least : ℕ) (tags : List ℕ) → least_found (Some least) tags ≡ Some (least_of least tags)
least_found-some least [] = refl
least_found-some least (tag ∷ tags) = least_found-some (min least tag) tags

pub first_found : (tags : List ℕ) → unwrap_or (least_found None tags) 0 ≡ first_tag tags
first_found [] = refl
first_found (tag ∷ tags) = ap (λ (found : Option ℕ). unwrap_or found 0) (least_found-some tag tags)

pub ruleset least = (least_found-append, first_found)
