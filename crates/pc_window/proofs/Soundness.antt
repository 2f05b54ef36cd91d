-- Opening, unwinding and tidying keep names and form variables below those that are new.
use Rattle.std.proofs.Common.{◌≡◌, ℕ, suc, ◌<◌, ◌≤◌, List, [], ◌∷◌, Option, Some, None, refl, sym, ◌∙◌, ap, subst, arith, ◌⊎◌, inl, inr}
use Rattle.std.specs.Prelude.{Bool, true, false}
use Rattle.pc_word.specs.declared.item.Item.{Item}
use Rattle.pc_word.specs.declared.item.Item.TheVariants.{Bin, Copy, Load, Store, Print, Read, More}
use Rattle.pc_word.specs.declared.item.Operand.{Operand}
use Rattle.pc_word.specs.declared.item.Operand.TheVariants.{Name, Lit}
use Rattle.pc_linear.specs.Form.{Form}
use Rattle.pc_table.specs.Table.{TableTree, Does, Asks, Next, Stops_here, Traps_here, Table, region_live, region_tree}
use Rattle.pc_window.specs.declared.home.Home.{Home}
use Rattle.pc_window.specs.Tree.{Tree, Pending, Undecided, Exit, Stop_exit, Trap_exit, home_of}
use Rattle.pc_window.proofs.Once.{defines, Undefined, OncePerPath, Sound}
use Rattle.pc_window.specs.Opening.{first_new, Supply, changed, with_name, at_home, Brought, Moves_home, Gets_name, Stays_plain, brought, Grafted, graft_item, homes_at, graft, OperandBelow}
use Rattle.pc_window.specs.Opening.{ItemBelow, StubBelow, TreeBelow, FormsBelow, opened, first_supply, first_home, unwound_at}
use Rattle.pc_window.proofs.Grafts.{HomesBelow, HomesBelow-later, HomesBelow-new, HomesBelow-changed, at_home_below, OperandBelow-later}
use Rattle.pc_window.proofs.Follows.{graft-extends}
use Rattle.pc_window.proofs.GraftForms.{graft-below}
use Rattle.pc_window.proofs.Uses.{nat_eq-tells, graft-uses}
use Rattle.pc_window.proofs.Openings.{first_home-below, first_names-below}
use Rattle.pc_window.proofs.Unwinding.{unwound-uses, used_below, Unwound, at_stub, below, at_yes, at_no, unwound_is, IsUnwound, unwound-extends, homes-below}
use Rattle.pc_word.specs.Items.{dest_of}
use Rattle.pc_word.specs.Commit.{writes}
use Rattle.pc_word.proofs.Truth.{or_first, or_second, or_true}

-- names that are below a number are below greater ones
ItemBelow-later : (m n : ℕ) (item : Item) → m ≤ n → ItemBelow m item → ItemBelow n item
ItemBelow-later m n (Bin op dest left right) le h = let d = h.0 in (omega arith, OperandBelow-later m n left le h.1, OperandBelow-later m n right le h.2)
ItemBelow-later m n (Copy dest from) le h = let d = h.0 in (omega arith, OperandBelow-later m n from le h.1)
ItemBelow-later m n (Load dest array index) le h = let d = h.0 in (omega arith, OperandBelow-later m n index le h.1)
ItemBelow-later m n (Store array index value) le h = (OperandBelow-later m n index le h.0, OperandBelow-later m n value le h.1)
ItemBelow-later m n (Print value) le h = OperandBelow-later m n value le h
ItemBelow-later m n (Read dest) le h = omega arith
ItemBelow-later m n (More dest) le h = omega arith

StubBelow-later : (m n : ℕ) (homes : List Home) → m ≤ n → StubBelow m homes → StubBelow n homes
StubBelow-later m n [] le h = tt
StubBelow-later m n (home ∷ homes) le h = (OperandBelow-later m n home.value le h.0, StubBelow-later m n homes le h.1)

pub TreeBelow-later : (m n : ℕ) (tree : Tree) → m ≤ n → TreeBelow m tree → TreeBelow n tree
TreeBelow-later m n (Pending tag origin item rest) le h = (ItemBelow-later m n item le h.0, TreeBelow-later m n rest le h.1)
TreeBelow-later m n (Undecided tag origin on one other) le h = (OperandBelow-later m n on le h.0, TreeBelow-later m n one le h.1, TreeBelow-later m n other le h.2)
TreeBelow-later m n (Exit region tag homes) le h = StubBelow-later m n homes le h
TreeBelow-later m n Stop_exit le h = tt
TreeBelow-later m n (Trap_exit kind line) le h = tt

homes_at-below : (n : ℕ) (homes : ℕ → Operand) (vs : List ℕ) → HomesBelow n homes → StubBelow n (homes_at homes vs)
unfolding HomesBelow
homes_at-below n homes [] h = tt
homes_at-below n homes (v ∷ vs) h = (h v, homes_at-below n homes vs h)

-- what an item becomes is below, once the new name is
abbrev pub GivenBelow : ℕ → Supply → Brought → Type 0
GivenBelow n names (Moves_home variable from) = OperandBelow names.next from
GivenBelow n names (Gets_name variable given form) = names.next < n → ItemBelow n given
GivenBelow n names (Stays_plain given) = ItemBelow n given

brought-given : (n : ℕ) (names : Supply) (homes : ℕ → Operand) (item : Item) → names.next ≤ n → HomesBelow names.next homes → GivenBelow n names (brought names homes item)
brought-given n names homes (Bin op dest left right) le h =
    λ lt. (
      lt,
      OperandBelow-later names.next n (at_home homes left) le (at_home_below names.next homes left h),
      OperandBelow-later names.next n (at_home homes right) le (at_home_below names.next homes right h),
    )
brought-given n names homes (Copy dest from) le h = at_home_below names.next homes from h
brought-given n names homes (Load dest array index) le h = λ lt. (lt, OperandBelow-later names.next n (at_home homes index) le (at_home_below names.next homes index h))
brought-given n names homes (Store array index value) le h = (
  OperandBelow-later names.next n (at_home homes index) le (at_home_below names.next homes index h),
  OperandBelow-later names.next n (at_home homes value) le (at_home_below names.next homes value h),
)
brought-given n names homes (Print value) le h = OperandBelow-later names.next n (at_home homes value) le (at_home_below names.next homes value h)
brought-given n names homes (Read dest) le h = λ lt. lt
brought-given n names homes (More dest) le h = λ lt. lt

module _ (table : Table) (loop : Option ℕ) (tag : ℕ) where
  graft_item-tree : (origin : ℕ) (b : Brought) (names : Supply) (homes : ℕ → Operand) (rest : TableTree) (n : ℕ) → GivenBelow n names b → HomesBelow names.next homes
      → ((names : Supply) (homes : ℕ → Operand) → HomesBelow names.next homes → (graft table loop tag rest names homes).names.next ≤ n
      → TreeBelow n (graft table loop tag rest names homes).tree)
      → (graft_item tag origin b names homes (graft table loop tag rest)).names.next ≤ n → TreeBelow n (graft_item tag origin b names homes (graft table loop tag rest)).tree
  graft_item-tree origin (Moves_home variable from) names homes rest n g h next le = next names (changed homes variable from) (HomesBelow-changed names.next homes variable from g h) le
  graft_item-tree origin (Gets_name variable given form) names homes rest n g h next le =
      let names' = with_name names form in
      let homes' = changed homes variable (Name names.next) in
      let more = (graft-extends table loop tag rest names' homes').next in
      let e = with_name-next names form in
      (g (omega arith), next names' homes' (HomesBelow-new names form homes variable h) le)
    where
      with_name-next : (names : Supply) (form : Option Form) → (with_name names form).next ≡ suc names.next
      with_name-next names (Some form) = refl
      with_name-next names None = refl
  graft_item-tree origin (Stays_plain given) names homes rest n g h next le = (g, next names homes h le)

  pub graft-tree : (tree : TableTree) (names : Supply) (homes : ℕ → Operand) (n : ℕ) → HomesBelow names.next homes
      → (graft table loop tag tree names homes).names.next ≤ n → TreeBelow n (graft table loop tag tree names homes).tree
  graft-tree (Does origin item rest) names homes n h le =
      let more = (graft-extends table loop tag (Does origin item rest) names homes).next in
      let before : names.next ≤ n = omega arith in
      graft_item-tree origin (brought names homes item) names homes rest n (brought-given n names homes item before h) h (λ names' homes' h' le'. graft-tree rest names' homes' n h' le') le
  graft-tree (Asks origin on on_yes on_no) names homes n h le =
      let one = graft table loop tag on_yes names homes in
      let p = (graft-extends table loop tag on_yes names homes).next in
      let q = (graft-extends table loop tag on_no one.names homes).next in
      let one_le : one.names.next ≤ n = omega arith in
      let start_le : names.next ≤ n = omega arith in (
        OperandBelow-later names.next n (at_home homes on) start_le (at_home_below names.next homes on h),
        graft-tree on_yes names homes n h one_le,
        graft-tree on_no one.names homes n (HomesBelow-later names.next one.names.next homes p h) le,
      )
  graft-tree (Next region) names homes n h le = homes_at-below n homes (region_live table region) (HomesBelow-later names.next n homes le h)
  graft-tree Stops_here names homes n h le = tt
  graft-tree (Traps_here kind line) names homes n h le = tt

-- ---- definitions

not_true : (b : Bool) → (b ≡ true → ⊥) → b ≡ false
not_true true h = absurd (h refl)
not_true false h = refl

name_below : (n : ℕ) (o : Operand) (x : ℕ) → OperandBelow n o → o ≡ Name x → x < n
name_below n (Name y) x b e = let same : y ≡ x = cc in omega arith
name_below n (Lit value) x b e = absurd (cc)

home_is_below : (n : ℕ) (homes : ℕ → Operand) (v x : ℕ) → HomesBelow n homes → homes v ≡ Name x → x < n
unfolding HomesBelow
home_is_below n homes v x h e = name_below n (homes v) x (h v) e

-- what an item becomes writes the new name, or none
abbrev pub WritesNew : Supply → Brought → Type 0
WritesNew names (Moves_home variable from) = Unit
WritesNew names (Gets_name variable given form) = dest_of given ≡ Some names.next
WritesNew names (Stays_plain given) = dest_of given ≡ None

brought-writes : (names : Supply) (homes : ℕ → Operand) (item : Item) → WritesNew names (brought names homes item)
brought-writes names homes (Bin op dest left right) = refl
brought-writes names homes (Copy dest from) = tt
brought-writes names homes (Load dest array index) = refl
brought-writes names homes (Store array index value) = refl
brought-writes names homes (Print value) = refl
brought-writes names homes (Read dest) = refl
brought-writes names homes (More dest) = refl

next_is : (names : Supply) (form : Option Form) → (with_name names form).next ≡ suc names.next
next_is names (Some form) = refl
next_is names None = refl

written_new : (d : Option ℕ) (n x : ℕ) → d ≡ Some n → writes d x ≡ true → n ≡ x
written_new None n x e h = absurd (cc)
written_new (Some m) n x e h = let p = nat_eq-tells m x h in cc

Undefined-one : (d : Option ℕ) (n : ℕ) (tree : Tree) → d ≡ Some n → defines tree n ≡ false → Undefined d tree
Undefined-one None n tree e h = tt
Undefined-one (Some m) n tree e h = let same : m ≡ n = cc in ap (defines tree) same ∙ h

Undefined-none : (d : Option ℕ) (tree : Tree) → d ≡ None → Undefined d tree
Undefined-none None tree e = tt
Undefined-none (Some m) tree e = absurd (cc)

module _ (table : Table) (loop : Option ℕ) (tag : ℕ) where
  graft_item-defines : (origin : ℕ) (b : Brought) (names : Supply) (homes : ℕ → Operand) (rest : TableTree) (x : ℕ) → WritesNew names b
      → ((names : Supply) (homes : ℕ → Operand) → defines (graft table loop tag rest names homes).tree x ≡ true → names.next ≤ x)
      → defines (graft_item tag origin b names homes (graft table loop tag rest)).tree x ≡ true → names.next ≤ x
  graft_item-defines origin (Moves_home variable from) names homes rest x w next h = next names (changed homes variable from) h
  graft_item-defines origin (Gets_name variable given form) names homes rest x w next h =
      let names' = with_name names form in
      let homes' = changed homes variable (Name names.next) in
      let e = next_is names form in
      elim (or_true (writes (dest_of given) x) (defines (graft table loop tag rest names' homes').tree x) h) [
        | inl p ↦ let q = written_new (dest_of given) names.next x w p in omega arith
        | inr p ↦ let q = next names' homes' p in omega arith
      ]
  graft_item-defines origin (Stays_plain given) names homes rest x w next h =
      elim (or_true (writes (dest_of given) x) (defines (graft table loop tag rest names homes).tree x) h) [
        | inl p ↦ let q : writes None x ≡ true = sym (ap (λ (d : Option ℕ). writes d x) w) ∙ p in absurd (cc)
        | inr p ↦ next names homes p
      ]

  -- a grafted tree defines new names alone
  pub graft-defines : (tree : TableTree) (names : Supply) (homes : ℕ → Operand) (x : ℕ) → defines (graft table loop tag tree names homes).tree x ≡ true → names.next ≤ x
  graft-defines (Does origin item rest) names homes x h =
      graft_item-defines origin (brought names homes item) names homes rest x (brought-writes names homes item) (λ names' homes' p. graft-defines rest names' homes' x p) h
  graft-defines (Asks origin on on_yes on_no) names homes x h =
      let one = graft table loop tag on_yes names homes in
      let more = (graft-extends table loop tag on_yes names homes).next in
      elim (or_true (defines one.tree x) (defines (graft table loop tag on_no one.names homes).tree x) h) [
        | inl p ↦ graft-defines on_yes names homes x p
        | inr p ↦ let q = graft-defines on_no one.names homes x p in omega arith
      ]
  graft-defines (Next region) names homes x h = absurd (cc)
  graft-defines Stops_here names homes x h = absurd (cc)
  graft-defines (Traps_here kind line) names homes x h = absurd (cc)

  graft_item-once : (origin : ℕ) (b : Brought) (names : Supply) (homes : ℕ → Operand) (rest : TableTree) → WritesNew names b
      → ((names : Supply) (homes : ℕ → Operand) → OncePerPath (graft table loop tag rest names homes).tree)
      → OncePerPath (graft_item tag origin b names homes (graft table loop tag rest)).tree
  graft_item-once origin (Moves_home variable from) names homes rest w next = next names (changed homes variable from)
  graft_item-once origin (Gets_name variable given form) names homes rest w next =
      let names' = with_name names form in
      let homes' = changed homes variable (Name names.next) in
      let e = next_is names form in
      let tree = (graft table loop tag rest names' homes').tree in (
        Undefined-one (dest_of given) names.next tree w (not_true (defines tree names.next) (λ d. let q = graft-defines rest names' homes' names.next d in absurd (omega arith))),
        next names' homes',
      )
  graft_item-once origin (Stays_plain given) names homes rest w next = (Undefined-none (dest_of given) (graft table loop tag rest names homes).tree w, next names homes)

  pub graft-once : (tree : TableTree) (names : Supply) (homes : ℕ → Operand) → OncePerPath (graft table loop tag tree names homes).tree
  graft-once (Does origin item rest) names homes = graft_item-once origin (brought names homes item) names homes rest (brought-writes names homes item) (graft-once rest)
  graft-once (Asks origin on on_yes on_no) names homes = (graft-once on_yes names homes, graft-once on_no (graft table loop tag on_yes names homes).names homes)
  graft-once (Next region) names homes = tt
  graft-once Stops_here names homes = tt
  graft-once (Traps_here kind line) names homes = tt

-- an opened region is sound
pub opened-sound : (table : Table) (loop : Option ℕ) (region : ℕ) → Sound (opened table loop region)
opened-sound table loop region =
    let tree = region_tree table region in
    record {
      names_below = graft-tree table loop 0 tree first_supply first_home (opened table loop region).names.next first_home-below (omega arith);
      forms_below = graft-below table loop 0 tree first_supply first_home first_names-below first_home-below;
      once = graft-once table loop 0 tree first_supply first_home;
      apart = λ x u. not_true (defines (opened table loop region).tree x) (λ d.
          let home = graft-uses table loop 0 tree first_supply first_home x u in
          let below = home_is_below first_new first_home home.variable x first_home-below home.is in
          let from = graft-defines table loop 0 tree first_supply first_home x d in
          absurd (omega arith));
    }

module _ (table : Table) (loop : Option ℕ) (names after : Supply) (fb : FormsBelow names) where
  unwound-tree : {t u : Tree} → Unwound table loop names after t u → TreeBelow names.next t → TreeBelow after.next u
  unwound-tree (at_stub region tag homes tree is kept) b =
      let grafted = graft table loop tag (region_tree table region) names (home_of homes) in
      subst (λ (u : Tree). TreeBelow after.next u) is (subst (λ (a : Supply). TreeBelow a.next grafted.tree) kept
      (graft-tree table loop tag (region_tree table region) names (home_of homes) grafted.names.next (homes-below names.next homes b) (omega arith)))
  unwound-tree (below tag origin item u) b = (ItemBelow-later names.next after.next item (unwound-extends table loop names after fb u).next b.0, unwound-tree u b.1)
  unwound-tree (at_yes tag origin on other u) b =
      let le = (unwound-extends table loop names after fb u).next in
      (OperandBelow-later names.next after.next on le b.0, unwound-tree u b.1, TreeBelow-later names.next after.next other le b.2)
  unwound-tree (at_no tag origin on one u) b =
      let le = (unwound-extends table loop names after fb u).next in
      (OperandBelow-later names.next after.next on le b.0, TreeBelow-later names.next after.next one le b.1, unwound-tree u b.2)

  unwound-forms : {t u : Tree} → Unwound table loop names after t u → TreeBelow names.next t → FormsBelow after
  unwound-forms (at_stub region tag homes tree is kept) b =
      subst (λ (a : Supply). FormsBelow a) kept (graft-below table loop tag (region_tree table region) names (home_of homes) fb (homes-below names.next homes b))
  unwound-forms (below tag origin item u) b = unwound-forms u b.1
  unwound-forms (at_yes tag origin on other u) b = unwound-forms u b.1
  unwound-forms (at_no tag origin on one u) b = unwound-forms u b.2

  unwound-defines : {t u : Tree} → Unwound table loop names after t u → (x : ℕ) → defines u x ≡ true → (defines t x ≡ true) ⊎ (names.next ≤ x)
  unwound-defines (at_stub region tag homes tree is kept) x h =
      inr (graft-defines table loop tag (region_tree table region) names (home_of homes) x (ap (λ (t : Tree). defines t x) is ∙ h))
  unwound-defines (below tag origin item {rest = rest} {new = new} u) x h = elim (or_true (writes (dest_of item) x) (defines new x) h) [
    | inl p ↦ inl (or_first (writes (dest_of item) x) (defines rest x) p)
    | inr p ↦ elim (unwound-defines u x p) [ inl q ↦ inl (or_second (writes (dest_of item) x) (defines rest x) q) | inr q ↦ inr q ]
  ]
  unwound-defines (at_yes tag origin on {one = one} {new = new} other u) x h = elim (or_true (defines new x) (defines other x) h) [
    | inl p ↦ elim (unwound-defines u x p) [ inl q ↦ inl (or_first (defines one x) (defines other x) q) | inr q ↦ inr q ]
    | inr p ↦ inl (or_second (defines one x) (defines other x) p)
  ]
  unwound-defines (at_no tag origin on one {other = other} {new = new} u) x h = elim (or_true (defines one x) (defines new x) h) [
    | inl p ↦ inl (or_first (defines one x) (defines other x) p)
    | inr p ↦ elim (unwound-defines u x p) [ inl q ↦ inl (or_second (defines one x) (defines other x) q) | inr q ↦ inr q ]
  ]

  still_new : {t u : Tree} → Unwound table loop names after t u → (item : Item) → ItemBelow names.next item → Undefined (dest_of item) t → Undefined (dest_of item) u
  still_new {t} {u} un item b h = by_dest (dest_of item) (dest_below item b) h
    where
      dest_below : (item : Item) → ItemBelow names.next item → (d : ℕ) → dest_of item ≡ Some d → d < names.next
      dest_below (Bin op dest left right) b d e = let same : dest ≡ d = cc in let lt = b.0 in omega arith
      dest_below (Copy dest from) b d e = let same : dest ≡ d = cc in let lt = b.0 in omega arith
      dest_below (Load dest array index) b d e = let same : dest ≡ d = cc in let lt = b.0 in omega arith
      dest_below (Store array index value) b d e = absurd (cc)
      dest_below (Print value) b d e = absurd (cc)
      dest_below (Read dest) b d e = let same : dest ≡ d = cc in omega arith
      dest_below (More dest) b d e = let same : dest ≡ d = cc in omega arith

      by_dest : (d : Option ℕ) → ((n : ℕ) → d ≡ Some n → n < names.next) → Undefined d t → Undefined d u
      by_dest None lt h = tt
      by_dest (Some n) lt h = not_true (defines u n) (λ e. elim (unwound-defines un n e) [ inl p ↦ absurd (cc) | inr p ↦ let q = lt n refl in absurd (omega arith) ])

  unwound-once : {t u : Tree} → Unwound table loop names after t u → TreeBelow names.next t → OncePerPath t → OncePerPath u
  unwound-once (at_stub region tag homes tree is kept) b o = subst (λ (u : Tree). OncePerPath u) is (graft-once table loop tag (region_tree table region) names (home_of homes))
  unwound-once (below tag origin item u) b o = (still_new u item b.0 o.0, unwound-once u b.1 o.1)
  unwound-once (at_yes tag origin on other u) b o = (unwound-once u b.1 o.0, o.1)
  unwound-once (at_no tag origin on one u) b o = (o.0, unwound-once u b.2 o.1)

-- a sound window is sound after a stub was unwound
pub unwound-sound : (table : Table) (loop : Option ℕ) (least : ℕ) (before g : Grafted) → unwound_at table loop least before.names before.tree ≡ Some g → Sound before → Sound g
unfolding IsUnwound
unwound-sound table loop least before g e s =
    let u = unwound_is table loop least before.names before.tree g e in
    record {
      names_below = unwound-tree table loop before.names g.names s.forms_below u s.names_below;
      forms_below = unwound-forms table loop before.names g.names s.forms_below u s.names_below;
      once = unwound-once table loop before.names g.names s.forms_below u s.names_below s.once;
      apart = λ x used.
          let old = unwound-uses table loop before.names g.names s.forms_below u x used in
          let none = s.apart x old in
          let lt = used_below before.names.next before.tree x s.names_below old in
          not_true (defines g.tree x) (λ d. elim (unwound-defines table loop before.names g.names s.forms_below u x d) [ inl p ↦ absurd (cc) | inr p ↦ absurd (omega arith) ]);
    }
