-- Where that with which an entry begins agrees with a leaf, so does what was left.
use Rattle.std.proofs.Common.{◌≡◌, ℕ, suc, zero, Bool, true, false, List, length, Option, Some, None, refl, sym, ◌∙◌, ap, subst}
use Rattle.std.specs.Prelude.{◌&&◌, if◌then◌else◌, nat_lt}
use Rattle.pc_word.specs.declared.item.Limits.{Limits}
use Rattle.pc_cert.specs.declared.certificate.Opening.{Opening}
use Rattle.pc_table.specs.Table.{Table}
use Rattle.pc_machine.specs.declared.tree.Leaf.{Leaf}
use Rattle.pc_window.specs.Tree.{Tree, Pending, Undecided, Exit, Stop_exit, Trap_exit, whole}
use Rattle.pc_window.specs.WindowRun.{Window}
use Rattle.pc_window.specs.Steps.{Positive, IsProper, Tidies, opened_window}
use Rattle.pc_window.proofs.FirstJumps.{unwinding_one}
use Rattle.pc_window.proofs.Proper.{opens_proper}
use Rattle.pc_certified.specs.Facts.{Fact}
use Rattle.pc_certified.specs.Claims.{Claim}
use Rattle.pc_certified.specs.Changes.{OneChange, unwinds, tidies, regroups, ChangesTo, no_change, one_change}
use Rattle.pc_certified.specs.LeafAgrees.{LeafAgrees, leaf_changes, leaf_enters, LeafAgreesInRegion, region_changes, region_enters}
use Rattle.pc_settling.specs.Remaining.{Remaining}
use Rattle.pc_settling.specs.Begun.{in_region, is_stub, entered, entered_if, has_room, with_loop, given_loop, before_unwinding, Widens, Begun, BeginsWith}
use Rattle.pc_settling.specs.Laws.{OneBeginning, BegunAgrees, EnteredAgrees, BegunAgreesInRegion}
use Rattle.pc_settling.proofs.BegunWindows.{loop_proper}
use Rattle.pc_settling.proofs.FactLists.{listed_in_region_hold}

-- ---- one beginning

widens_one : (table : Table) (number : ℕ) (w a b : Window) → Widens table number w a → Widens table number w b → a ≡ b
widens_one table zero w a b p q = p ∙ sym q
widens_one table (suc number) w a b p q =
    let same = unwinding_one table (suc number) w p.0 q.0 p.1 q.1 in
    p.2 ∙ sym (subst (λ (u : Window). Tidies u b) (sym same) q.2)

some_one : {A : Type 0} (x y : A) → Some x ≡ Some y → x ≡ y
some_one x y e = cc

begins_one : (table : Table) (limits : Limits) (opening : Opening) (left : Remaining) (one other : Begun) → BeginsWith table limits opening left one
    → BeginsWith table limits opening left other → one ≡ other
begins_one table limits opening left one other p q =
    let same : p.before ≡ q.before = some_one p.before q.before (sym p.is_before ∙ q.is_before) in
    let windows : one.window ≡ other.window =
    widens_one table opening.window p.before.window one.window other.window p.widens (
    subst (λ (r : Remaining). Widens table opening.window r.window other.window) (sym same) q.widens
    ) in
    let facts : one.facts ≡ other.facts = p.facts ∙ ap (λ (r : Remaining). r.facts) same ∙ sym q.facts in
    let entered : one.entered ≡ other.entered = p.entered ∙ sym q.entered in
    λ i. record { window = windows i; facts = facts i; entered = entered i }

not_none : (table : Table) (limits : Limits) (opening : Opening) (left : Remaining) (begun : Begun) → BeginsWith table limits opening left begun
    → before_unwinding table limits opening left ≡ None → ⊥
not_none table limits opening left begun p none = let e : None ≡ Some p.before = sym none ∙ p.is_before in cc

pub one_beginning : OneBeginning
one_beginning table limits opening left None None p q = refl
one_beginning table limits opening left None (Some begun) p q = absurd (not_none table limits opening left begun q p)
one_beginning table limits opening left (Some begun) None p q = absurd (not_none table limits opening left begun p q)
one_beginning table limits opening left (Some one) (Some other) p q = ap Some (begins_one table limits opening left one other p q)

-- ---- what is before unwinding, taken apart

-- from what is left, or what was entered, the loop is given, and no more
pub record GivesLoop (loop : Option ℕ) (left before : Remaining) : Type 0 where
  pub window : before.window ≡ with_loop loop left.window
  pub facts : before.facts ≡ left.facts

gives_loop : (table : Table) (loop : Option ℕ) (left before : Remaining) → given_loop table loop (Some left) ≡ Some before → GivesLoop loop left before
gives_loop table loop left before is = choose (has_room table left.window) is
  where
    choose : (b : Bool) → (if b then Some (record { window = with_loop loop left.window; facts = left.facts }) else None) ≡ Some before → GivesLoop loop left before
    choose true e =
        let same : (let it : Remaining = record { window = with_loop loop left.window; facts = left.facts } in it) ≡ before =
        some_one (record { window = with_loop loop left.window; facts = left.facts }) before e in
        record { window = ap (λ (r : Remaining). r.window) (sym same); facts = ap (λ (r : Remaining). r.facts) (sym same) }
    choose false e = absurd (cc)

-- what is given a loop is there
given_there : (table : Table) (loop : Option ℕ) (found : Option Remaining) (before : Remaining) → given_loop table loop found ≡ Some before
    → (inside : Remaining) × (found ≡ Some inside) × GivesLoop loop inside before
given_there table loop None before is = absurd (cc)
given_there table loop (Some inside) before is = (inside, refl, gives_loop table loop inside before is)

-- ---- changes of what is begun

loop_changes : (table : Table) (loop : Option ℕ) (w : Window) → IsProper w → OneChange table w (with_loop loop w)
loop_changes table loop w p = regroups (record { tree = refl; forms = refl; proper = loop_proper loop w p })

widening_changes : (table : Table) (number : ℕ) (w v : Window) → Widens table number w v → ChangesTo table w v
widening_changes table zero w v is = subst (ChangesTo table w) (sym is) no_change
widening_changes table (suc number) w v (unwound, u, t) = one_change (unwinds (suc number) u) (one_change (tidies t) no_change)

-- the loop is given, and the window is widened
begun_changes : (table : Table) (loop : Option ℕ) (number : ℕ) (left before : Remaining) (v : Window) → IsProper left.window → GivesLoop loop left before
    → Widens table number before.window v → ChangesTo table left.window v
begun_changes table loop number left before v p gives widens =
    one_change (loop_changes table loop left.window p)
    (subst (λ (u : Window). ChangesTo table u v) gives.window (widening_changes table number before.window v widens))

module _ (table : Table) (limits : Limits) (claims : List Claim) (leaf : Leaf) where
  abbrev InRegion : List Fact → Window → Type 0
  InRegion held v = LeafAgreesInRegion table limits claims held leaf v

  region_all : {w v : Window} (held : List Fact) → ChangesTo table w v → InRegion held v → InRegion held w
  region_all held no_change h = h
  region_all held (one_change c more) h = region_changes c (region_all held more h)

  -- what was entered is proper, and where it agrees, so does what was left
  pub record Enters (left inside : Remaining) : Type 0 where
    pub proper : IsProper left.window → IsProper inside.window
    pub agrees : InRegion inside.facts inside.window → InRegion left.facts left.window

  enters_here : (left inside : Remaining) → Some left ≡ Some inside → Enters left inside
  enters_here left inside is =
      let same = some_one left inside is in
      record { proper = λ p. subst (λ (r : Remaining). IsProper r.window) same p; agrees = λ h. subst (λ (r : Remaining). InRegion r.facts r.window) (sym same) h }

  pub enters_all : Positive limits → (most : ℕ) (left inside : Remaining) (tree : Tree) → whole left.window.front ≡ tree
      → entered table limits left tree most ≡ Some inside → Enters left inside
  enters_all room most left inside (Pending tag origin item rest) tree_is is = enters_here left inside is
  enters_all room most left inside (Undecided tag origin on on_yes on_no) tree_is is = enters_here left inside is
  enters_all room most left inside Stop_exit tree_is is = enters_here left inside is
  enters_all room most left inside (Trap_exit kind line) tree_is is = enters_here left inside is
  enters_all room zero left inside (Exit region tag homes) tree_is is = absurd (cc)
  enters_all room (suc most) left inside (Exit region tag homes) tree_is is =
      choose (nat_lt region (length table.regions)) is (enters_all room most (in_region table limits region homes left.facts) inside
      (whole (opened_window table limits region).front) refl)
    where
      choose : (b : Bool)
          → (if b then entered table limits (in_region table limits region homes left.facts) (whole (opened_window table limits region).front) most else None) ≡ Some inside
          → (entered table limits (in_region table limits region homes left.facts) (whole (opened_window table limits region).front) most ≡ Some inside
          → Enters (in_region table limits region homes left.facts) inside) → Enters left inside
      choose true e more =
          let there = more e in
          record {
            proper = λ p. there.proper (opens_proper table limits region (opened_window table limits region) room refl);
            agrees = λ h. region_enters region tag homes tree_is (listed_in_region_hold left.facts homes) (there.agrees h);
          }
      choose false e more = absurd (cc)

  -- what is begun, where it may be entered or not
  pub begun_agrees_from : (opening : Opening) (left : Remaining) (begun : Begun) (p : BeginsWith table limits opening left begun) (inside : Remaining)
      → GivesLoop opening.inside inside p.before → IsProper inside.window → InRegion begun.facts begun.window → InRegion inside.facts inside.window
  begun_agrees_from opening left begun p inside gives proper h =
      region_all inside.facts (begun_changes table opening.inside opening.window inside p.before begun.window proper gives p.widens)
      (subst (λ (facts : List Fact). InRegion facts begun.window) (p.facts ∙ gives.facts) h)

  enters_if : Positive limits → (enters : Bool) (left inside : Remaining) → entered_if table limits enters left ≡ Some inside → Enters left inside
  enters_if room true left inside is = enters_all room (length table.regions) left inside (whole left.window.front) refl is
  enters_if room false left inside is = enters_here left inside is

  pub in_region_law : (opening : Opening) (left : Remaining) (begun : Begun) → Positive limits → IsProper left.window → BeginsWith table limits opening left begun
      → InRegion begun.facts begun.window → InRegion left.facts left.window
  in_region_law opening left begun room proper p h =
      let there = given_there table opening.inside (entered_if table limits opening.enters left) p.before p.is_before in
      let enters = enters_if room opening.enters left there.0 there.1 in
      enters.agrees (begun_agrees_from opening left begun p there.0 there.2 (enters.proper proper) h)

pub begun_agrees_in_region : BegunAgreesInRegion
begun_agrees_in_region table limits claims leaf opening left begun room proper p h = in_region_law table limits claims leaf opening left begun room proper p h

-- ---- before a region is entered

module _ (table : Table) (limits : Limits) (claims : List Claim) (claim : Claim) (leaf : Leaf) where
  abbrev Agrees : List Fact → Window → Type 0
  Agrees held v = LeafAgrees table limits claims claim held leaf v

  leaf_all : {w v : Window} (held : List Fact) → ChangesTo table w v → Agrees held v → Agrees held w
  leaf_all held no_change h = h
  leaf_all held (one_change c more) h = leaf_changes c (leaf_all held more h)

  -- a window that is no stub alone is not entered
  stays_left : (left inside : Remaining) (tree : Tree) (most : ℕ) → is_stub tree ≡ false → entered table limits left tree most ≡ Some inside → left ≡ inside
  stays_left left inside (Pending tag origin item rest) most none is = some_one left inside is
  stays_left left inside (Undecided tag origin on on_yes on_no) most none is = some_one left inside is
  stays_left left inside Stop_exit most none is = some_one left inside is
  stays_left left inside (Trap_exit kind line) most none is = some_one left inside is
  stays_left left inside (Exit region tag homes) most none is = absurd (cc)

  stays_if : (enters : Bool) (left inside : Remaining) → enters && is_stub (whole left.window.front) ≡ false → entered_if table limits enters left ≡ Some inside → left ≡ inside
  stays_if true left inside none is = stays_left left inside (whole left.window.front) (length table.regions) none is
  stays_if false left inside none is = some_one left inside is

  pub plain_law : (opening : Opening) (left : Remaining) (begun : Begun) → IsProper left.window → BeginsWith table limits opening left begun → begun.entered ≡ false
      → Agrees begun.facts begun.window → Agrees left.facts left.window
  plain_law opening left begun proper p none h =
      let there = given_there table opening.inside (entered_if table limits opening.enters left) p.before p.is_before in
      let same = stays_if opening.enters left there.0 (sym p.entered ∙ none) there.1 in
      let gives : GivesLoop opening.inside left p.before = subst (λ (r : Remaining). GivesLoop opening.inside r p.before) (sym same) there.2 in
      leaf_all left.facts (begun_changes table opening.inside opening.window left p.before begun.window proper gives p.widens)
      (subst (λ (facts : List Fact). Agrees facts begun.window) (p.facts ∙ gives.facts) h)

  -- a stub alone is entered
  pub entered_leads : (room : Positive limits) (left inside : Remaining) (tree : Tree) (most : ℕ) → whole left.window.front ≡ tree → is_stub tree ≡ true
      → entered table limits left tree most ≡ Some inside
      → IsProper inside.window × (LeafAgreesInRegion table limits claims inside.facts leaf inside.window → Agrees left.facts left.window)
  entered_leads room left inside (Pending tag origin item rest) most tree_is stub is = absurd (cc)
  entered_leads room left inside (Undecided tag origin on on_yes on_no) most tree_is stub is = absurd (cc)
  entered_leads room left inside Stop_exit most tree_is stub is = absurd (cc)
  entered_leads room left inside (Trap_exit kind line) most tree_is stub is = absurd (cc)
  entered_leads room left inside (Exit region tag homes) zero tree_is stub is = absurd (cc)
  entered_leads room left inside (Exit region tag homes) (suc most) tree_is stub is = choose (nat_lt region (length table.regions)) is
    where
      choose : (b : Bool)
          → (if b then entered table limits (in_region table limits region homes left.facts) (whole (opened_window table limits region).front) most else None) ≡ Some inside
          → IsProper inside.window × (LeafAgreesInRegion table limits claims inside.facts leaf inside.window → Agrees left.facts left.window)
      choose true e =
          let there = enters_all table limits claims leaf room most (in_region table limits region homes left.facts) inside
          (whole (opened_window table limits region).front) refl e in (
            there.proper (opens_proper table limits region (opened_window table limits region) room refl),
            λ h. leaf_enters region tag homes tree_is (listed_in_region_hold left.facts homes) (there.agrees h),
          )
      choose false e = absurd (cc)

  entering_if : (room : Positive limits) (enters : Bool) (left inside : Remaining) → enters && is_stub (whole left.window.front) ≡ true → entered_if table limits enters left ≡ Some inside
      → IsProper inside.window × (LeafAgreesInRegion table limits claims inside.facts leaf inside.window → Agrees left.facts left.window)
  entering_if room true left inside stub is = entered_leads room left inside (whole left.window.front) (length table.regions) refl stub is
  entering_if room false left inside stub is = absurd (cc)

  pub entered_law : (opening : Opening) (left : Remaining) (begun : Begun) → Positive limits → BeginsWith table limits opening left begun → begun.entered ≡ true
      → LeafAgreesInRegion table limits claims begun.facts leaf begun.window → Agrees left.facts left.window
  entered_law opening left begun room p some h =
      let there = given_there table opening.inside (entered_if table limits opening.enters left) p.before p.is_before in
      let enters = entering_if room opening.enters left there.0 (sym p.entered ∙ some) there.1 in
      enters.1 (begun_agrees_from table limits claims leaf opening left begun p there.0 there.2 enters.0 h)

pub begun_agrees : BegunAgrees
begun_agrees table limits claims claim leaf opening left begun proper p none h = plain_law table limits claims claim leaf opening left begun proper p none h

pub entered_agrees : EnteredAgrees
entered_agrees table limits claims claim leaf opening left begun room p some h = entered_law table limits claims claim leaf opening left begun room p some h
