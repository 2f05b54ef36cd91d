-- Tags counted from one base and from another; and that what stands in a tree is at least its least tag.
use Rattle.std.proofs.Common.{◌≡◌, ℕ, suc, ◌-◌, ◌≤◌, Bool, true, false, List, [], ◌∷◌, ◌++◌, map, Option, Some, None}
use Rattle.std.proofs.Common.{refl, sym, ◌∙◌, ap, subst, ◌⊎◌, inl, inr, arith}
use Rattle.std.specs.Prelude.{ℤ, pos, negsuc, max, if◌then◌else◌}
use Rattle.std.specs.List.{AllByRecursion}
use Rattle.pc_word.specs.declared.item.Item.{Item}
use Rattle.pc_word.specs.declared.item.Item.TheVariants.{Bin, Copy, Load, Store, Print, Read, More}
use Rattle.pc_word.specs.declared.item.MachineFault.{MachineFault}
use Rattle.pc_word.specs.Word.{holds}
use Rattle.pc_word.specs.State.{State}
use Rattle.pc_word.specs.Items.{operand_value}
use Rattle.pc_word.specs.Commit.{prints_of, fault_of}
use Rattle.pc_word.proofs.Lists.{all_both}
use Rattle.pc_window.specs.Tree.{Tree, Pending, Undecided, Exit, Stop_exit, Trap_exit}
use Rattle.pc_window.specs.Walk.{Walked, Leaves, Finishes, IsWhole, printing, done_first, after_item, walk}
use Rattle.pc_window.specs.Unwinding.{lesser_tag, least_tag, or_zero, front_tag}
use Rattle.pc_certified.specs.Claims.{HasTestOrStub}
use Rattle.pc_certified.proofs.Maxima.{max_second, max_less, min_both}
use Rattle.pc_certified.proofs.Marked.{counted, mark, marked}
use Rattle.pc_certified.proofs.MarkedWalks.{printed_in, level_in, printed_after, level_after, whole_below, walk_marked}

-- ---- from another base

abbrev pub lowered_word : ℕ → ℤ → ℤ
lowered_word d (pos k) = pos (k - d)
lowered_word d (negsuc k) = negsuc k

abbrev pub lowered : ℕ → Walked → Walked
lowered d (Leaves printed region s) = Leaves (map (lowered_word d) printed) (region - d) s
lowered d (Finishes printed end) = Finishes (map (lowered_word d) printed) end

map_both : (f : ℤ → ℤ) (xs ys : List ℤ) → map f (xs ++ ys) ≡ map f xs ++ map f ys
map_both f [] ys = refl
map_both f (x ∷ xs) ys = ap (λ (l : List ℤ). f x ∷ l) (map_both f xs ys)

lowered_printing : (d : ℕ) (out : List ℤ) (w : Walked) → lowered d (printing out w) ≡ printing (map (lowered_word d) out) (lowered d w)
lowered_printing d out (Leaves printed region s) = ap (λ (l : List ℤ). Leaves l (region - d) s) (map_both (lowered_word d) out printed)
lowered_printing d out (Finishes printed end) = ap (λ (l : List ℤ). Finishes l end) (map_both (lowered_word d) out printed)

lowered_first : (d : ℕ) (f : Option MachineFault) (out : List ℤ) (w : Walked) → lowered d (done_first f out w) ≡ done_first f (map (lowered_word d) out) (lowered d w)
lowered_first d (Some fault) out w = refl
lowered_first d None out w = lowered_printing d out w

counted_lowered : (base more tag : ℕ) → base ≤ more → counted more tag ≡ counted base tag - (more - base)
counted_lowered base more tag le = omega (arith, le)

prints_lowered : (base more tag : ℕ) → base ≤ more → (x : Item) (s : State) → prints_of s (mark more tag x ∷ []) ≡ map (lowered_word (more - base)) (prints_of s (mark base tag x ∷ []))
prints_lowered base more tag le (Bin op d l r) s = refl
prints_lowered base more tag le (Copy d f) s = refl
prints_lowered base more tag le (Load d a i) s = refl
prints_lowered base more tag le (Store a i v) s = refl
prints_lowered base more tag le (Print v) s = ap (λ (k : ℕ). pos k ∷ []) (counted_lowered base more tag le)
prints_lowered base more tag le (Read d) s = refl
prints_lowered base more tag le (More d) s = refl

pub base_changed : (lengths : List ℕ) (base more top : ℕ) → base ≤ more → (t : Tree) (s : State)
    → walk lengths (marked more (top - (more - base)) t) s ≡ lowered (more - base) (walk lengths (marked base top t) s)
base_changed lengths base more top le (Pending tag o x rest) s =
    let d = more - base in
    walk_marked lengths more (top - d) tag o x rest s
    ∙ ap (λ (out : List ℤ). done_first (fault_of lengths s (x ∷ [])) out (walk lengths (marked more (top - d) rest) (after_item lengths x s))) (prints_lowered base more tag le x s)
    ∙ ap (λ (w : Walked). done_first (fault_of lengths s (x ∷ [])) (map (lowered_word d) (prints_of s (mark base tag x ∷ []))) w)
    (base_changed lengths base more top le rest (after_item lengths x s))
    ∙ sym (lowered_first d (fault_of lengths s (x ∷ [])) (prints_of s (mark base tag x ∷ [])) (walk lengths (marked base top rest) (after_item lengths x s)))
    ∙ sym (ap (λ (w : Walked). lowered d w) (walk_marked lengths base top tag o x rest s))
base_changed lengths base more top le (Undecided tag o on p q) s =
    let d = more - base in
    let m = max top (counted base tag) in
    let e : max (top - d) (counted more tag) ≡ m - d = ap (λ (k : ℕ). max (top - d) k) (counted_lowered base more tag le) ∙ sym (max_less top (counted base tag) d) in
    ap (λ (n : ℕ). walk lengths (Undecided tag o on (marked more n p) (marked more n q)) s) e
    ∙ by_side (holds (operand_value s.names on)) (base_changed lengths base more m le p s) (base_changed lengths base more m le q s)
  where
    by_side : (b : Bool) → walk lengths (marked more (max top (counted base tag) - (more - base)) p) s ≡ lowered (more - base) (walk lengths (marked base (max top (counted base tag)) p) s)
        → walk lengths (marked more (max top (counted base tag) - (more - base)) q) s ≡ lowered (more - base) (walk lengths (marked base (max top (counted base tag)) q) s)
        → (if b then walk lengths (marked more (max top (counted base tag) - (more - base)) p) s else walk lengths (marked more (max top (counted base tag) - (more - base)) q) s)
        ≡ lowered (more - base) (if b then walk lengths (marked base (max top (counted base tag)) p) s else walk lengths (marked base (max top (counted base tag)) q) s)
    by_side true h k = h
    by_side false h k = k
base_changed lengths base more top le (Exit region tag homes) s =
    ap (λ (n : ℕ). walk lengths (Exit n 0 []) s) (counted_lowered base more tag le)
base_changed lengths base more top le Stop_exit s = refl
base_changed lengths base more top le (Trap_exit kind line) s = refl

-- ---- the least tag

-- all tags are at least a number
abbrev pub TagsFrom : ℕ → Tree → Type 0
TagsFrom b (Pending tag o x rest) = (b ≤ tag) × TagsFrom b rest
TagsFrom b (Undecided tag o on p q) = (b ≤ tag) × TagsFrom b p × TagsFrom b q
TagsFrom b (Exit region tag homes) = b ≤ tag
TagsFrom b Stop_exit = Unit {0}
TagsFrom b (Trap_exit kind line) = Unit {0}

abbrev NotAbove : ℕ → Option ℕ → Type 0
NotAbove b None = Unit {0}
NotAbove b (Some m) = b ≤ m

not_above_both : (b : ℕ) (x y : Option ℕ) → NotAbove b (lesser_tag x y) → NotAbove b x × NotAbove b y
not_above_both b None y h = (tt, h)
not_above_both b (Some a) None h = (h, tt)
not_above_both b (Some a) (Some c) h = min_both b a c h

tags_from : (b : ℕ) (t : Tree) → NotAbove b (least_tag t) → TagsFrom b t
tags_from b (Pending tag o x rest) h = let k = not_above_both b (Some tag) (least_tag rest) h in (k.0, tags_from b rest k.1)
tags_from b (Undecided tag o on p q) h =
    let k = not_above_both b (Some tag) (lesser_tag (least_tag p) (least_tag q)) h in
    let l = not_above_both b (least_tag p) (least_tag q) k.1 in
    (k.0, tags_from b p l.0, tags_from b q l.1)
tags_from b (Exit region tag homes) h = h
tags_from b Stop_exit h = tt
tags_from b (Trap_exit kind line) h = tt

not_above_itself : (o : Option ℕ) → NotAbove (or_zero o) o
not_above_itself None = tt
not_above_itself (Some m) = omega arith

pub tags_from_front : (t : Tree) → TagsFrom (front_tag t) t
tags_from_front t = tags_from (front_tag t) t (not_above_itself (least_tag t))

-- ---- what is pending is above the base

unfoldable pub AllPositive : List ℤ → Type 0
AllPositive printed = AllByRecursion (λ z. (k : ℕ) × (z ≡ pos (suc k))) printed

prints_positive : (base tag : ℕ) → base ≤ tag → (x : Item) (s : State) → AllPositive (prints_of s (mark base tag x ∷ []))
unfolding AllPositive
prints_positive base tag le (Bin op d l r) s = tt
prints_positive base tag le (Copy d f) s = tt
prints_positive base tag le (Load d a i) s = tt
prints_positive base tag le (Store a i v) s = tt
prints_positive base tag le (Print v) s = ((tag - base, (let e : suc tag - base ≡ suc (tag - base) = omega (arith, le) in ap pos e)), tt)
prints_positive base tag le (Read d) s = tt
prints_positive base tag le (More d) s = tt

positive_first : (f : Option MachineFault) (out : List ℤ) (w : Walked) → AllPositive out → AllPositive (printed_in w) → AllPositive (printed_in (done_first f out w))
unfolding AllPositive
positive_first (Some fault) out w h k = tt
positive_first None out w h k = subst AllPositive (sym (printed_after out w)) (all_both (λ z. (n : ℕ) × (z ≡ pos (suc n))) out (printed_in w) h k)

positive_side : (b : Bool) (w v : Walked) → AllPositive (printed_in w) → AllPositive (printed_in v) → AllPositive (printed_in (if b then w else v))
positive_side true w v h k = h
positive_side false w v h k = k

pub tags_positive : (lengths : List ℕ) (base top : ℕ) (t : Tree) (s : State) → TagsFrom base t → AllPositive (printed_in (walk lengths (marked base top t) s))
unfolding AllPositive
tags_positive lengths base top (Pending tag o x rest) s h =
    subst (λ (w : Walked). AllPositive (printed_in w)) (sym (walk_marked lengths base top tag o x rest s))
    (positive_first (fault_of lengths s (x ∷ [])) (prints_of s (mark base tag x ∷ [])) (walk lengths (marked base top rest) (after_item lengths x s))
    (prints_positive base tag h.0 x s) (tags_positive lengths base top rest (after_item lengths x s) h.1))
tags_positive lengths base top (Undecided tag o on p q) s h =
    let m = max top (counted base tag) in
    positive_side (holds (operand_value s.names on)) (walk lengths (marked base m p) s) (walk lengths (marked base m q) s) (tags_positive lengths base m p s h.1) (tags_positive lengths base m q s h.2)
tags_positive lengths base top (Exit region tag homes) s h = tt
tags_positive lengths base top Stop_exit s h = tt
tags_positive lengths base top (Trap_exit kind line) s h = tt

-- where a test or a stub stands in the tree, or stood above, the level is above 0
level_first : (f : Option MachineFault) (out out' : List ℤ) (w m : Walked) → IsWhole (done_first f out w) → (IsWhole w → 1 ≤ level_in m) → 1 ≤ level_in (done_first f out' m)
level_first (Some fault) out out' w m ok h = absurd ok
level_first None out out' w m ok h = let a = level_after out' m in let b = h (whole_below out w ok) in omega (arith, a, b)

level_side : (b : Bool) (w v m k : Walked) → IsWhole (if b then w else v) → (IsWhole w → 1 ≤ level_in m) → (IsWhole v → 1 ≤ level_in k) → 1 ≤ level_in (if b then m else k)
level_side true w v m k ok p q = p ok
level_side false w v m k ok p q = q ok

pub level_positive : (lengths : List ℕ) (base top : ℕ) (t : Tree) (s : State) → TagsFrom base t → (1 ≤ top) ⊎ HasTestOrStub t → IsWhole (walk lengths t s)
    → 1 ≤ level_in (walk lengths (marked base top t) s)
level_positive lengths base top (Pending tag o x rest) s h left ok =
    subst (λ (w : Walked). 1 ≤ level_in w) (sym (walk_marked lengths base top tag o x rest s))
    (level_first (fault_of lengths s (x ∷ [])) (prints_of s (x ∷ [])) (prints_of s (mark base tag x ∷ [])) (walk lengths rest (after_item lengths x s))
    (walk lengths (marked base top rest) (after_item lengths x s)) ok
    (λ ok'. level_positive lengths base top rest (after_item lengths x s) h.1 left ok'))
level_positive lengths base top (Undecided tag o on p q) s h left ok =
    let m = max top (counted base tag) in
    let b = h.0 in
    let one : 1 ≤ counted base tag = omega (arith, b) in
    let le = max_second top (counted base tag) in
    let above : 1 ≤ m = omega (arith, one, le) in
    level_side (holds (operand_value s.names on)) (walk lengths p s) (walk lengths q s) (walk lengths (marked base m p) s) (walk lengths (marked base m q) s) ok
    (λ ok'. level_positive lengths base m p s h.1 (inl above) ok') (λ ok'. level_positive lengths base m q s h.2 (inl above) ok')
level_positive lengths base top (Exit region tag homes) s h left ok = omega (arith, h)
level_positive lengths base top Stop_exit s h (inl one) ok = one
level_positive lengths base top Stop_exit s h (inr left) ok = absurd left
level_positive lengths base top (Trap_exit kind line) s h (inl one) ok = one
level_positive lengths base top (Trap_exit kind line) s h (inr left) ok = absurd left

-- a tree without tags has nothing pending
pub bare_pending : (lengths : List ℕ) (base : ℕ) (t : Tree) (s : State) → least_tag t ≡ None → (printed_in (walk lengths (marked base 0 t) s) ≡ [])
    × (level_in (walk lengths (marked base 0 t) s) ≡ 0)
bare_pending lengths base (Pending tag o x rest) s e = absurd (some tag (least_tag rest) e)
  where
    some : (tag : ℕ) (o : Option ℕ) → lesser_tag (Some tag) o ≡ None → ⊥
    some tag None e = cc
    some tag (Some k) e = cc
bare_pending lengths base (Undecided tag o on p q) s e = absurd (some tag (lesser_tag (least_tag p) (least_tag q)) e)
  where
    some : (tag : ℕ) (o : Option ℕ) → lesser_tag (Some tag) o ≡ None → ⊥
    some tag None e = cc
    some tag (Some k) e = cc
bare_pending lengths base (Exit region tag homes) s e = absurd (cc)
bare_pending lengths base Stop_exit s e = (refl, refl)
bare_pending lengths base (Trap_exit kind line) s e = (refl, refl)
