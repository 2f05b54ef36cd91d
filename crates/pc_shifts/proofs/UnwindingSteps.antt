-- Two alike trees are unwound side by side, step by step.
use Rattle.std.proofs.Common.{◌≡◌, ℕ, suc, ◌+◌, List, Option, Some, None, refl, ap, subst, arith}
use Rattle.std.specs.Prelude.{Bool, true, false, if◌then◌else◌, nat_lt, min}
use Rattle.pc_word.proofs.Truth.{same_test, less_of}
use Rattle.pc_linear.specs.Form.{Form}
use Rattle.pc_table.specs.Table.{Table}
use Rattle.pc_table.specs.Loops.{is_inside}
use Rattle.pc_window.specs.Tree.{Tree, Pending, Undecided, Exit, Stop_exit, Trap_exit, tree_size}
use Rattle.pc_window.specs.Opening.{Supply, Grafted, unwound_at}
use Rattle.pc_window.specs.Unwinding.{lesser_tag, least_inside, least_tag, or_zero, front_tag, most_unwound, within_size, unwound_below, unwound_once, Unwinds, unwinds_no_more, unwinds_once}
use Rattle.pc_window.proofs.Once.{Sound}
use Rattle.pc_window.proofs.Openings.{below_is}
use Rattle.pc_window.proofs.Repeated.{once_is}
use Rattle.pc_window.proofs.Soundness.{unwound-sound}
use Rattle.pc_canon.specs.Pairs.{Pair}
use Rattle.pc_canon.specs.Shift.{Maps, TagsAlike, TreesAlike, both_then, both_either, both_exit, both_stop, both_trap}
use Rattle.pc_shifts.specs.Alike.{with_variables}
use Rattle.pc_shifts.specs.Supplies.{SuppliesAlike}
use Rattle.pc_shifts.proofs.Supplies.{grow_not, grow_twice}
use Rattle.pc_shifts.proofs.LaterTrees.{tree_later}
use Rattle.pc_shifts.proofs.GraftedTrees.{GraftsMatch}
use Rattle.pc_shifts.proofs.UnwoundTrees.{NamesMatch, names_later, BothMatch, unwound_alike}

-- ---- tags

-- tags that are alike, or none in both
abbrev pub FoundAlike : Maps → Option ℕ → Option ℕ → Type 0
FoundAlike maps (Some a) (Some b) = TagsAlike maps a b
FoundAlike maps None None = Unit {0}
FoundAlike maps _ _ = ⊥

min_alike : (a b c d s s' : ℕ) → a + s ≡ b + s' → c + s ≡ d + s' → min a c + s ≡ min b d + s'
min_alike a b c d s s' p q = omega (arith, p, q)

lesser_alike : (maps : Maps) (a b c d : Option ℕ) → FoundAlike maps a b → FoundAlike maps c d → FoundAlike maps (lesser_tag a c) (lesser_tag b d)
lesser_alike maps None None c d p q = q
lesser_alike maps (Some a) (Some b) None None p q = p
lesser_alike maps (Some a) (Some b) (Some c) (Some d) p q = min_alike a b c d maps.shift maps.other_shift p q
lesser_alike maps (Some a) (Some b) (Some c) None p q = absurd q
lesser_alike maps (Some a) (Some b) None (Some d) p q = absurd q
lesser_alike maps (Some a) None c d p q = absurd p
lesser_alike maps None (Some b) c d p q = absurd p

least_alike : {maps : Maps} {f g : ℕ → Form} {pairs : List Pair} {t u : Tree} → TreesAlike maps f g pairs t u → FoundAlike maps (least_tag t) (least_tag u)
least_alike {maps} (both_then {tag} {tag'} {rest} {rest'} tags items dests below) = lesser_alike maps (Some tag) (Some tag') (least_tag rest) (least_tag rest') tags (least_alike below)
least_alike {maps} (both_either {tag} {tag'} {on_yes} {on_yes'} {on_no} {on_no'} tags test yes_side no_side) =
    lesser_alike maps (Some tag) (Some tag') (lesser_tag (least_tag on_yes) (least_tag on_no)) (lesser_tag (least_tag on_yes') (least_tag on_no')) tags
    (lesser_alike maps (least_tag on_yes) (least_tag on_yes') (least_tag on_no) (least_tag on_no') (least_alike yes_side) (least_alike no_side))
least_alike (both_exit tags h) = tags
least_alike both_stop = tt
least_alike both_trap = tt

if_inside : (maps : Maps) (a b : ℕ) (c : Bool) → TagsAlike maps a b → FoundAlike maps (if c then Some a else None) (if c then Some b else None)
if_inside maps a b true h = h
if_inside maps a b false h = tt

inside_alike : {maps : Maps} {f g : ℕ → Form} {pairs : List Pair} {t u : Tree} (table : Table) (loop : Option ℕ) → TreesAlike maps f g pairs t u
    → FoundAlike maps (least_inside table loop t) (least_inside table loop u)
inside_alike table loop (both_then tags items dests below) = inside_alike table loop below
inside_alike {maps} table loop (both_either {on_yes} {on_yes'} {on_no} {on_no'} tags test yes_side no_side) =
    lesser_alike maps (least_inside table loop on_yes) (least_inside table loop on_yes') (least_inside table loop on_no) (least_inside table loop on_no')
    (inside_alike table loop yes_side) (inside_alike table loop no_side)
inside_alike {maps} table loop (both_exit {region} {tag} {tag'} tags h) = if_inside maps tag tag' (is_inside table loop region) tags
inside_alike table loop both_stop = tt
inside_alike table loop both_trap = tt

pub size_alike : {maps : Maps} {f g : ℕ → Form} {pairs : List Pair} {t u : Tree} → TreesAlike maps f g pairs t u → tree_size t ≡ tree_size u
size_alike (both_then tags items dests below) = ap suc (size_alike below)
size_alike (both_either tags test yes_side no_side) = λ i. suc (size_alike yes_side i + size_alike no_side i)
size_alike (both_exit tags h) = refl
size_alike both_stop = refl
size_alike both_trap = refl

-- a tree without tags has no stub
some_lesser : (a : ℕ) (o : Option ℕ) → lesser_tag (Some a) o ≡ None → ⊥
some_lesser a None e = absurd (cc)
some_lesser a (Some b) e = absurd (cc)

none_inside : (table : Table) (loop : Option ℕ) (t : Tree) → least_tag t ≡ None → least_inside table loop t ≡ None
none_inside table loop (Pending tag origin item rest) e = absurd (some_lesser tag (least_tag rest) e)
none_inside table loop (Undecided tag origin on one other) e = absurd (some_lesser tag (lesser_tag (least_tag one) (least_tag other)) e)
none_inside table loop (Exit region tag homes) e = absurd (cc)
none_inside table loop Stop_exit e = refl
none_inside table loop (Trap_exit kind line) e = refl

-- ---- a step

less_tests : (a b c d k s s' : ℕ) → a + s ≡ b + s' → c + s ≡ d + s' → nat_lt a (c + k) ≡ nat_lt b (d + k)
less_tests a b c d k s s' p q = same_test (nat_lt a (c + k)) (nat_lt b (d + k))
    (λ e. below_is b (d + k) (let l = less_of a (c + k) e in omega (arith, p, q, l)))
    (λ e. below_is a (c + k) (let l = less_of b (d + k) e in omega (arith, p, q, l)))

module _ (maps : Maps) (pairs : List Pair) (table : Table) (loop : Option ℕ) (window : ℕ) (g g' : Grafted) (s : SuppliesAlike maps.variables g.names g'.names)
    (n : NamesMatch maps.variables pairs g.names g'.names) (sound : Sound g) (sound' : Sound g')
    (h : TreesAlike maps g.names.forms g'.names.forms pairs g.tree g'.tree) where
  abbrev Both : Option Grafted → Option Grafted → Type 0
  Both = BothMatch maps maps.variables pairs g.names g'.names

  size_both : (r r' : Option Grafted) → Both r r' → Both (within_size r) (within_size r')
  size_both None None m = tt
  size_both (Some k) (Some k') m = by_size (nat_lt most_unwound (tree_size k.tree)) (nat_lt most_unwound (tree_size k'.tree)) (ap (nat_lt most_unwound) (size_alike m.trees))
    where
      by_size : (b b' : Bool) → b ≡ b' → Both (if b then None else Some k) (if b' then None else Some k')
      by_size true true e = tt
      by_size false false e = m
      by_size true false e = absurd (cc)
      by_size false true e = absurd (cc)
  size_both (Some k) None m = absurd m
  size_both None (Some k') m = absurd m

  below_both : (bound bound' : ℕ) (a b : Option ℕ) → FoundAlike maps a b
      → ((x y : ℕ) → a ≡ Some x → b ≡ Some y → TagsAlike maps x y → nat_lt x bound ≡ nat_lt y bound')
      → Both (unwound_below table loop bound a g) (unwound_below table loop bound' b g')
  below_both bound bound' None None p tests = tt
  below_both bound bound' (Some x) (Some y) p tests = by_test (nat_lt x bound) (nat_lt y bound') (tests x y refl refl p)
    where
      by_test : (b b' : Bool) → b ≡ b'
          → Both (if b then within_size (unwound_at table loop x g.names g.tree) else None) (if b' then within_size (unwound_at table loop y g'.names g'.tree) else None)
      by_test true true e =
          size_both (unwound_at table loop x g.names g.tree) (unwound_at table loop y g'.names g'.tree)
          (unwound_alike maps table loop x y p g.names g'.names s n sound.names_below sound'.names_below h)
      by_test false false e = tt
      by_test true false e = absurd (cc)
      by_test false true e = absurd (cc)
  below_both bound bound' (Some x) None p tests = absurd p
  below_both bound bound' None (Some y) p tests = absurd p

  tests_alike : (o o' : Option ℕ) → least_tag g.tree ≡ o → least_tag g'.tree ≡ o' → FoundAlike maps o o' → (x y : ℕ) → least_inside table loop g.tree ≡ Some x
      → TagsAlike maps x y → nat_lt x (or_zero o + window) ≡ nat_lt y (or_zero o' + window)
  tests_alike (Some a) (Some b) e e' p x y is tags = less_tests x y a b window maps.shift maps.other_shift tags p
  tests_alike None None e e' p x y is tags = absurd (let none = none_inside table loop g.tree e in cc)
  tests_alike (Some a) None e e' p x y is tags = absurd p
  tests_alike None (Some b) e e' p x y is tags = absurd p

  pub once_both : Both (unwound_once table loop window g) (unwound_once table loop window g')
  once_both = by_window (nat_lt window 2)
    where
      by_window : (b : Bool) → Both (if b then None else unwound_below table loop (front_tag g.tree + window) (least_inside table loop g.tree) g)
          (if b then None else unwound_below table loop (front_tag g'.tree + window) (least_inside table loop g'.tree) g')
      by_window true = tt
      by_window false =
          below_both (front_tag g.tree + window) (front_tag g'.tree + window) (least_inside table loop g.tree) (least_inside table loop g'.tree) (inside_alike table loop h)
          (λ x y e e' tags. tests_alike (least_tag g.tree) (least_tag g'.tree) refl refl (least_alike h) x y e tags)

-- ---- all steps

-- where one of two alike trees is unwound, the other is, to an alike one
pub record UnwoundAlike (maps : Maps) (pairs : List Pair) (table : Table) (loop : Option ℕ) (window : ℕ) (g g' k : Grafted) : Type 0 where
  pub other : Grafted
  pub unwinds : Unwinds table loop window g' other
  pub match : GraftsMatch maps maps.variables pairs g.names g'.names k other

none_too : (maps : Maps) (variables pairs : List Pair) (names names' : Supply) (r r' : Option Grafted) → BothMatch maps variables pairs names names' r r' → r ≡ None → r' ≡ None
none_too maps variables pairs names names' None None m e = refl
none_too maps variables pairs names names' (Some g) r' m e = absurd (cc)
none_too maps variables pairs names names' None (Some g') m e = absurd m

some_too : (maps : Maps) (variables pairs : List Pair) (names names' : Supply) (r r' : Option Grafted) (h : Grafted) → BothMatch maps variables pairs names names' r r' → r ≡ Some h
    → (h' : Grafted) × (r' ≡ Some h') × GraftsMatch maps variables pairs names names' h h'
some_too maps variables pairs names names' (Some g) (Some g') h m e =
    let same : g ≡ h = cc in (g', refl, subst (λ (z : Grafted). GraftsMatch maps variables pairs names names' z g') same m)
some_too maps variables pairs names names' None r' h m e = absurd (cc)
some_too maps variables pairs names names' (Some g) None h m e = absurd m

pub unwinds_alike : (table : Table) (loop : Option ℕ) (window : ℕ) (maps : Maps) (pairs : List Pair) (g k g' : Grafted) → Unwinds table loop window g k
    → SuppliesAlike maps.variables g.names g'.names → NamesMatch maps.variables pairs g.names g'.names → Sound g → Sound g'
    → TreesAlike maps g.names.forms g'.names.forms pairs g.tree g'.tree → UnwoundAlike maps pairs table loop window g g' k
unwinds_alike table loop window maps pairs a b g' (unwinds_no_more g e) s n sound sound' h = record {
  other = g';
  unwinds = unwinds_no_more g'
      (none_too maps maps.variables pairs g.names g'.names (unwound_once table loop window g) (unwound_once table loop window g')
      (once_both maps pairs table loop window g g' s n sound sound' h) e);
  match = record {
    more = maps.variables;
    grow = grow_not maps.variables g.names g'.names s;
    trees = tree_later maps g.names.forms g'.names.forms maps.variables g.names.forms g'.names.forms g.names.next g'.names.next (λ x y lt lt' k. k)
        sound.names_below sound'.names_below h;
  };
}
unwinds_alike table loop window maps pairs a b g' (unwinds_once g m k e u) s n sound sound' h =
    let both = some_too maps maps.variables pairs g.names g'.names (unwound_once table loop window g) (unwound_once table loop window g') m
    (once_both maps pairs table loop window g g' s n sound sound' h) e in
    let m' = both.0 in
    let step = both.2 in
    let at = once_is table loop window g m e in
    let at' = once_is table loop window g' m' both.1 in
    let rest = unwinds_alike table loop window (with_variables maps step.more) pairs m k m' u step.grow.alike
    (names_later maps.variables step.more g.names g'.names m.names m'.names s step.grow pairs n)
    (unwound-sound table loop at.least g m at.is sound) (unwound-sound table loop at'.least g' m' at'.is sound') step.trees in
    record {
      other = rest.other;
      unwinds = unwinds_once g' m' rest.other both.1 rest.unwinds;
      match = record {
        more = rest.match.more;
        grow = grow_twice maps.variables step.more rest.match.more g.names g'.names m.names m'.names k.names rest.other.names step.grow rest.match.grow;
        trees = rest.match.trees;
      };
    }
