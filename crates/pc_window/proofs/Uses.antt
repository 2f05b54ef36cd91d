-- The names that trees use: those of a grafted tree come from the homes of variables that its region's tree needs.
use Rattle.std.proofs.Common.{◌≡◌, ℕ, List, [], ◌∷◌, Option, Some, refl, sym, ◌∙◌, ap, arith, ◌⊎◌, inl, inr}
use Rattle.std.specs.Prelude.{None, Bool, true, false, if◌then◌else◌, nat_eq, ◌||◌, ◌&&◌, not}
use Rattle.std.specs.List.{list_any}
use Rattle.pc_word.specs.declared.item.Item.{Item}
use Rattle.pc_word.specs.declared.item.Item.TheVariants.{Bin, Copy, Load, Store, Print, Read, More}
use Rattle.pc_word.specs.declared.item.Operand.{Operand}
use Rattle.pc_word.specs.declared.item.Operand.TheVariants.{Name, Lit}
use Rattle.pc_word.specs.Items.{dest_of, reads, reads_name}
use Rattle.pc_word.specs.Commit.{writes}
use Rattle.pc_table.specs.Table.{TableTree, Does, Asks, Next, Stops_here, Traps_here, Table, region_live}
use Rattle.pc_table.specs.TableKeeps.{needs}
use Rattle.pc_window.specs.Names.{uses, homes_use}
use Rattle.pc_table.proofs.Tests.{needed_above}
use Rattle.pc_window.proofs.Grafts.{nat_eq-same}
use Rattle.pc_window.specs.Opening.{Supply, changed, with_name, at_home, Brought, Moves_home, Gets_name, Stays_plain, brought, Grafted, graft_item, homes_at, graft}
use Rattle.pc_word.proofs.Truth.{or_first, or_second, or_true}

pub unwritten : (w b : Bool) → (not w && b) ≡ true → (w ≡ false) × (b ≡ true)
unwritten true b h = absurd (cc)
unwritten false b h = (refl, h)

pub nat_eq-tells : (m n : ℕ) → nat_eq m n ≡ true → m ≡ n
nat_eq-tells m n h = grind arith

-- a name is the home of one of these variables
pub record IsHome (among : ℕ → Bool) (homes : ℕ → Operand) (x : ℕ) : Type 0 where
  pub variable : ℕ
  pub needed : among variable ≡ true
  pub is : homes variable ≡ Name x

-- of more variables
wider : (among more : ℕ → Bool) (homes : ℕ → Operand) (x : ℕ) → ((v : ℕ) → among v ≡ true → more v ≡ true) → IsHome among homes x → IsHome more homes x
wider among more homes x fewer h = record { variable = h.variable; needed = fewer h.variable h.needed; is = h.is }

-- an operand that reads a name is that name
pub reads_is : (o : Operand) (x : ℕ) → reads_name o x ≡ true → o ≡ Name x
reads_is (Name y) x h = ap (λ (z : ℕ). Name z) (nat_eq-tells y x h)
reads_is (Lit value) x h = absurd (cc)

at_home_is : (homes : ℕ → Operand) (o : Operand) (x : ℕ) → at_home homes o ≡ Name x → IsHome (reads_name o) homes x
at_home_is homes (Name v) x h = record { variable = v; needed = nat_eq-same v; is = h }
at_home_is homes (Lit value) x h = absurd (cc)

at_home_reads : (homes : ℕ → Operand) (o : Operand) (x : ℕ) → reads_name (at_home homes o) x ≡ true → IsHome (reads_name o) homes x
at_home_reads homes o x h = at_home_is homes o x (reads_is (at_home homes o) x h)

either_reads : (homes : ℕ → Operand) (l r : Operand) (x : ℕ) → (reads_name (at_home homes l) x || reads_name (at_home homes r) x) ≡ true
    → IsHome (λ v. reads_name l v || reads_name r v) homes x
either_reads homes l r x h = elim (or_true (reads_name (at_home homes l) x) (reads_name (at_home homes r) x) h) [
  | inl p ↦ wider (reads_name l) (λ v. reads_name l v || reads_name r v) homes x (λ v. or_first (reads_name l v) (reads_name r v)) (at_home_reads homes l x p)
  | inr p ↦ wider (reads_name r) (λ v. reads_name l v || reads_name r v) homes x (λ v. or_second (reads_name l v) (reads_name r v)) (at_home_reads homes r x p)
]

-- what becomes of an item reads homes of variables that the item reads, and it writes the variable that the item writes
abbrev pub ReadsHomes : Item → Supply → (ℕ → Operand) → Brought → Type 0
ReadsHomes item names homes (Moves_home variable from) = ((x : ℕ) → from ≡ Name x → IsHome (reads item) homes x) × (dest_of item ≡ Some variable)
ReadsHomes item names homes (Gets_name variable given form) =
    ((x : ℕ) → reads given x ≡ true → IsHome (reads item) homes x) × (dest_of given ≡ Some names.next) × (dest_of item ≡ Some variable)
ReadsHomes item names homes (Stays_plain given) = ((x : ℕ) → reads given x ≡ true → IsHome (reads item) homes x) × (dest_of item ≡ None)

brought-reads : (names : Supply) (homes : ℕ → Operand) (item : Item) → ReadsHomes item names homes (brought names homes item)
brought-reads names homes (Bin op dest left right) = (λ x h. either_reads homes left right x h, refl, refl)
brought-reads names homes (Copy dest from) = (λ x h. at_home_is homes from x h, refl)
brought-reads names homes (Load dest array index) = (λ x h. at_home_reads homes index x h, refl, refl)
brought-reads names homes (Store array index value) = (λ x h. either_reads homes index value x h, refl)
brought-reads names homes (Print value) = (λ x h. at_home_reads homes value x h, refl)
brought-reads names homes (Read dest) = (λ x h. absurd (cc), refl, refl)
brought-reads names homes (More dest) = (λ x h. absurd (cc), refl, refl)

changed_is : (homes : ℕ → Operand) (v : ℕ) (o : Operand) (x w : ℕ) (b : Bool) → nat_eq v w ≡ b → (if b then o else homes w) ≡ Name x
    → (o ≡ Name x) ⊎ ((nat_eq v w ≡ false) × (homes w ≡ Name x))
changed_is homes v o x w true e h = inl h
changed_is homes v o x w false e h = inr (e, h)

not_itself : (n x : ℕ) (o : Operand) → o ≡ Name n → nat_eq n x ≡ false → o ≡ Name x → ⊥
not_itself n x o p q r =
    let e : n ≡ x = cc in
    grind arith

homes_at_use : (homes : ℕ → Operand) (vs : List ℕ) (x : ℕ) → homes_use (homes_at homes vs) x ≡ true → IsHome (λ v. list_any (nat_eq v) vs) homes x
homes_at_use homes [] x h = absurd (cc)
homes_at_use homes (v ∷ vs) x h = elim (or_true (reads_name (homes v) x) (homes_use (homes_at homes vs) x) h) [
  | inl p ↦ record { variable = v; needed = or_first (nat_eq v v) (list_any (nat_eq v) vs) (nat_eq-same v); is = reads_is (homes v) x p }
  | inr p ↦ wider (λ w. list_any (nat_eq w) vs) (λ w. list_any (nat_eq w) (v ∷ vs)) homes x
      (λ w. or_second (nat_eq w v) (list_any (nat_eq w) vs)) (homes_at_use homes vs x p)
]

module _ (table : Table) (loop : Option ℕ) (tag : ℕ) where
  module _ (origin : ℕ) (item : Item) (below : TableTree) where
    abbrev among : ℕ → Bool
    among = needs table (Does origin item below)

    read_first : (homes : ℕ → Operand) (x : ℕ) → IsHome (reads item) homes x → IsHome among homes x
    read_first homes x = wider (reads item) among homes x (λ v. or_first (reads item v) (not (writes (dest_of item) v) && needs table below v))

    -- a home that the item does not change
    needed_later : (homes : ℕ → Operand) (x v : ℕ) → needs table below v ≡ true → writes (dest_of item) v ≡ false → homes v ≡ Name x → IsHome among homes x
    needed_later homes x v needed other is =
        record { variable = v; needed = needed_above (reads item v) (writes (dest_of item) v) (needs table below v) other needed; is = is }

    not_changed : (variable v : ℕ) → dest_of item ≡ Some variable → nat_eq variable v ≡ false → writes (dest_of item) v ≡ false
    not_changed variable v dest other = ap (λ (d : Option ℕ). writes d v) dest ∙ other

    graft_item-uses : (b : Brought) (names : Supply) (homes : ℕ → Operand) (rest : Supply → (ℕ → Operand) → Grafted) (x : ℕ) → ReadsHomes item names homes b
        → ((names : Supply) (homes : ℕ → Operand) → uses (rest names homes).tree x ≡ true → IsHome (needs table below) homes x)
        → uses (graft_item tag origin b names homes rest).tree x ≡ true → IsHome among homes x
    graft_item-uses (Moves_home variable from) names homes rest x r next h =
        let used = next names (changed homes variable from) h in
        elim (changed_is homes variable from x used.variable (nat_eq variable used.variable) refl used.is) [
          | inl p ↦ read_first homes x (r.0 x p)
          | inr p ↦ needed_later homes x used.variable used.needed (not_changed variable used.variable r.1 p.0) p.1
        ]
    graft_item-uses (Gets_name variable given form) names homes rest x r next h =
        let g = rest (with_name names form) (changed homes variable (Name names.next)) in
        elim (or_true (reads given x) (not (writes (dest_of given) x) && uses g.tree x) h) [
          | inl p ↦ read_first homes x (r.0 x p)
          | inr p ↦
              let q = unwritten (writes (dest_of given) x) (uses g.tree x) p in
              let used = next (with_name names form) (changed homes variable (Name names.next)) q.1 in
              let other : nat_eq names.next x ≡ false = sym (ap (λ (d : Option ℕ). writes d x) r.1) ∙ q.0 in
              elim (changed_is homes variable (Name names.next) x used.variable (nat_eq variable used.variable) refl used.is) [
                | inl e ↦ absurd (not_itself names.next x (Name names.next) refl other e)
                | inr e ↦ needed_later homes x used.variable used.needed (not_changed variable used.variable r.2 e.0) e.1
              ]
        ]
    graft_item-uses (Stays_plain given) names homes rest x r next h =
        let g = rest names homes in
        elim (or_true (reads given x) (not (writes (dest_of given) x) && uses g.tree x) h) [
          | inl p ↦ read_first homes x (r.0 x p)
          | inr p ↦
              let used = next names homes (unwritten (writes (dest_of given) x) (uses g.tree x) p).1 in
              needed_later homes x used.variable used.needed (ap (λ (d : Option ℕ). writes d used.variable) r.1) used.is
        ]

  -- a parameter of a grafted tree is the home of a variable that the region's tree needs
  pub graft-uses : (tree : TableTree) (names : Supply) (homes : ℕ → Operand) (x : ℕ) → uses (graft table loop tag tree names homes).tree x ≡ true → IsHome (needs table tree) homes x
  graft-uses (Does origin item rest) names homes x h =
      graft_item-uses origin item rest (brought names homes item) names homes (graft table loop tag rest) x (brought-reads names homes item)
      (λ names' homes' p. graft-uses rest names' homes' x p) h
  graft-uses (Asks origin on on_yes on_no) names homes x h =
      let one = graft table loop tag on_yes names homes in
      let other = graft table loop tag on_no one.names homes in
      let all = needs table (Asks origin on on_yes on_no) in
      elim (or_true (reads_name (at_home homes on) x) (uses one.tree x || uses other.tree x) h) [
        | inl p ↦ wider (reads_name on) all homes x (λ v. or_first (reads_name on v) (needs table on_yes v || needs table on_no v)) (at_home_reads homes on x p)
        | inr p ↦ elim (or_true (uses one.tree x) (uses other.tree x) p) [
          | inl q ↦ wider (needs table on_yes) all homes x
              (λ v n. or_second (reads_name on v) (needs table on_yes v || needs table on_no v) (or_first (needs table on_yes v) (needs table on_no v) n)) (graft-uses on_yes names homes x q)
          | inr q ↦ wider (needs table on_no) all homes x
              (λ v n. or_second (reads_name on v) (needs table on_yes v || needs table on_no v) (or_second (needs table on_yes v) (needs table on_no v) n)) (graft-uses on_no one.names homes x q)
        ]
      ]
  graft-uses (Next region) names homes x h = homes_at_use homes (region_live table region) x h
  graft-uses Stops_here names homes x h = absurd (cc)
  graft-uses (Traps_here kind line) names homes x h = absurd (cc)
