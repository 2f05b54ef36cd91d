-- An item that rises to the root, and a test that divides a tree, keep the walk and its forms.
use Rattle.std.proofs.Common.{◌≡◌, ℕ, zero, suc, ◌≤◌, Bool, true, false, List, [], ◌∷◌, ◌++◌}
use Rattle.std.proofs.Common.{Option, Some, None, refl, sym, ◌∙◌, ap, subst, drop, arith, ◌⊎◌, inl, inr}
use Rattle.std.specs.Prelude.{ℤ, ◌||◌, if◌then◌else◌, nat_eq}
use Rattle.std.proofs.lemmas.Bool.{eqb-true, eq-eqb}
use Rattle.pc_word.specs.declared.item.Item.{Item}
use Rattle.pc_word.specs.declared.item.Item.TheVariants.{Bin, Copy, Load, Store, Print, Read, More}
use Rattle.pc_word.specs.declared.item.Operand.{Operand}
use Rattle.pc_word.specs.declared.item.Operand.TheVariants.{Name, Lit}
use Rattle.pc_word.specs.declared.item.MachineFault.{MachineFault}
use Rattle.pc_word.specs.Word.{holds}
use Rattle.pc_word.specs.Run.{Begins}
use Rattle.pc_word.proofs.Runs.{Begins-refl, Begins-after}
use Rattle.pc_word.specs.State.{State}
use Rattle.pc_word.specs.Items.{operand_value, dest_of, value_of, operands_of, only_computes, reads}
use Rattle.pc_word.specs.Commit.{stores_of, prints_of, reads_of, fault_of, writes, cells_after}
use Rattle.pc_word.proofs.Lists.{all_imply}
use Rattle.pc_window.specs.Tree.{Tree, Pending, Undecided, Exit, Stop_exit, Trap_exit}
use Rattle.pc_window.specs.Walk.{Walked, Leaves, Finishes, IsWhole, printing, unless_fault, after_item, walk}
use Rattle.pc_window.proofs.Shown.{walk_length, shown}
use Rattle.pc_linear.specs.Form.{Form, Means}
use Rattle.pc_window.specs.Hold.{DefinedMeans, Side, DefinedHold, KnownHold}
use Rattle.pc_window.specs.Names.{IsKnown, ReadsKnown, IsNew, and_dest, Scoped, Unwritten, NotWritten}
use Rattle.pc_window.specs.Rename.{mapped}
use Rattle.pc_window.specs.Conflict.{NoConflict}
use Rattle.pc_window.specs.Jump.{Rises, Root, Past_item, Past_yes, Past_no, DividesTree, Root_test, Past}
use Rattle.pc_window.proofs.Undisturbed.{unmoved, operand-after}
use Rattle.pc_window.proofs.Exchange.{follows_first, follows_second, stores_apart, Exchangeable, states-exchanged, walk-exchanged, shown-exchanged}
use Rattle.pc_window.proofs.Renaming.{Carries, WindowKeeps, SameWalk, side_same, mapped-walks, agreed-walks}
use Rattle.pc_word.specs.Naming.{renamed, with_dest}
use Rattle.pc_word.proofs.Truth.{or_second, or_false}

-- ---- names that are written apart

pub eq_turned : (a b : ℕ) → nat_eq a b ≡ false → nat_eq b a ≡ false
eq_turned a b e = elim (nat_eq b a) as (λ c. nat_eq b a ≡ c → c ≡ false) [
  | false ↦ λ p. refl
  | true ↦ λ p. absurd (let same : b ≡ a = eqb-true b a p in let h : nat_eq a b ≡ true = eq-eqb a b (sym same) in cc)
] refl

-- two items that write different names
pub apart_turned : (d e : Option ℕ) → IsNew (writes d) e → IsNew (writes e) d
apart_turned (Some d) (Some e) h = eq_turned d e h
apart_turned (Some d) None h = refl
apart_turned None (Some e) h = tt
apart_turned None None h = tt

pub dests_apart : (d e : Option ℕ) → IsNew (writes d) e → (z : ℕ) → writes d z ≡ true → writes e z ≡ true → ⊥
dests_apart d (Some e) h z p q = let same : e ≡ z = eqb-true e z q in let k : writes d z ≡ false = sym (ap (writes d) same) ∙ h in cc
dests_apart d None h z p q = absurd (cc)

-- a name that a tree does not write, its first item does not write
pub not_written_here : (dest : Option ℕ) (t o : ℕ) (y : Item) (rest : Tree) → NotWritten dest (Pending t o y rest) → IsNew (writes (dest_of y)) dest
not_written_here (Some n) t o y rest h = h.0
not_written_here None t o y rest h = tt

pub not_written_below : (dest : Option ℕ) (t o : ℕ) (y : Item) (rest : Tree) → NotWritten dest (Pending t o y rest) → NotWritten dest rest
not_written_below (Some n) t o y rest h = h.1
not_written_below None t o y rest h = tt

pub not_written_yes : (dest : Option ℕ) (t o : ℕ) (on : Operand) (on_yes on_no : Tree) → NotWritten dest (Undecided t o on on_yes on_no) → NotWritten dest on_yes
not_written_yes (Some n) t o on on_yes on_no h = h.0
not_written_yes None t o on on_yes on_no h = tt

pub not_written_no : (dest : Option ℕ) (t o : ℕ) (on : Operand) (on_yes on_no : Tree) → NotWritten dest (Undecided t o on on_yes on_no) → NotWritten dest on_no
not_written_no (Some n) t o on on_yes on_no h = h.1
not_written_no None t o on on_yes on_no h = tt

-- new to both
pub new_to_both : (known : ℕ → Bool) (y : Item) (dest : Option ℕ) → IsNew known dest → IsNew (writes (dest_of y)) dest → IsNew (and_dest known y) dest
new_to_both known y (Some n) h k = rw (k, h) refl
new_to_both known y None h k = tt

pub new_to_either : (known : ℕ → Bool) (y : Item) (dest : Option ℕ) → IsNew (and_dest known y) dest → IsNew known dest × IsNew (writes (dest_of y)) dest
new_to_either known y (Some n) h = let k = or_false (writes (dest_of y) n) (known n) h in (k.1, k.0)
new_to_either known y None h = (tt, tt)

-- what is known stays known
pub still_known : (known : ℕ → Bool) (y : Item) (o : Operand) → IsKnown known o → IsKnown (and_dest known y) o
still_known known y (Name x) is = or_second (writes (dest_of y) x) (known x) is
still_known known y (Lit value) is = tt

pub still_reads : (known : ℕ → Bool) (y x : Item) → ReadsKnown known x → ReadsKnown (and_dest known y) x
still_reads known y x h = all_imply (IsKnown known) (IsKnown (and_dest known y)) (operands_of x) (still_known known y) h

-- ---- forms

-- all names but one have forms that mean the same
abbrev pub SameForms : Option ℕ → (ℕ → ℤ) → (ℕ → Form) → (ℕ → ℤ) → (ℕ → Form) → Type 0
SameForms dest σ forms σ' forms' = (y : ℕ) → writes dest y ≡ false → (value : ℤ) → Means σ (forms y) value → Means σ' (forms' y) value

pub writes_carried : (dest : Option ℕ) (σ : ℕ → ℤ) (forms : ℕ → Form) (σ' : ℕ → ℤ) (forms' : ℕ → Form) → SameForms dest σ forms σ' forms'
    → (d : Option ℕ) (v : ℤ) → IsNew (writes d) dest → DefinedMeans σ forms d v → DefinedMeans σ' forms' d v
writes_carried dest σ forms σ' forms' same (Some d) v apart h = same d (apart_turned (Some d) dest apart) v h
writes_carried dest σ forms σ' forms' same None v apart h = tt

-- a tree that does not write the one name
pub forms_carried : (lengths : List ℕ) (dest : Option ℕ) (σ : ℕ → ℤ) (forms : ℕ → Form) (σ' : ℕ → ℤ) (forms' : ℕ → Form) → SameForms dest σ forms σ' forms'
    → (tree : Tree) (s : State) → NotWritten dest tree → DefinedHold σ forms lengths tree s → DefinedHold σ' forms' lengths tree s
forms_carried lengths dest σ forms σ' forms' same (Pending t o y rest) s new h = (
  writes_carried dest σ forms σ' forms' same (dest_of y) (value_of lengths s y) (not_written_here dest t o y rest new) h.0,
  forms_carried lengths dest σ forms σ' forms' same rest (after_item lengths y s) (not_written_below dest t o y rest new) h.1,
)
forms_carried lengths dest σ forms σ' forms' same (Undecided t o on on_yes on_no) s new h =
    side_same (holds (operand_value s.names on)) (holds (operand_value s.names on)) _ _ _ _ refl
    (forms_carried lengths dest σ forms σ' forms' same on_yes s (not_written_yes dest t o on on_yes on_no new))
    (forms_carried lengths dest σ forms σ' forms' same on_no s (not_written_no dest t o on on_yes on_no new)) h
forms_carried lengths dest σ forms σ' forms' same (Exit region tag homes) s new h = tt
forms_carried lengths dest σ forms σ' forms' same Stop_exit s new h = tt
forms_carried lengths dest σ forms σ' forms' same (Trap_exit kind line) s new h = tt

-- known names have their forms' values behind an item too
pub known_forms_after : (lengths : List ℕ) (known : ℕ → Bool) (σ : ℕ → ℤ) (forms : ℕ → Form) (y : Item) (s : State)
    → KnownHold known σ forms s → DefinedMeans σ forms (dest_of y) (value_of lengths s y) → KnownHold (and_dest known y) σ forms (after_item lengths y s)
known_forms_after lengths known σ forms y s h w x is = by_dest (dest_of y) w is
  where
    by_dest : (dest : Option ℕ) → DefinedMeans σ forms dest (value_of lengths s y) → (writes dest x || known x) ≡ true
        → Means σ (forms x) (if writes dest x then value_of lengths s y else s.names x)
    by_dest None w is = h x is
    by_dest (Some d) w is = elim (nat_eq d x) as (λ b. nat_eq d x ≡ b → (b || known x) ≡ true → Means σ (forms x) (if b then value_of lengths s y else s.names x)) [
      | true ↦ λ e k. subst (λ (z : ℕ). Means σ (forms z) (value_of lengths s y)) (eqb-true d x e) w
      | false ↦ λ e k. h x k
    ] refl is

-- ---- walks

pub whole_below : (f : Option MachineFault) (p : List ℤ) (w : Walked) → IsWhole (unless_fault f (printing p w)) → IsWhole w
whole_below (Some f) p w ok = absurd ok
whole_below None p (Leaves printed region s) ok = tt
whole_below None p (Finishes printed end) ok = ok

-- the same walk, forms, no more to pass, and no number printed later
pub record Still (before : Walked) (after_item : Walked) (forms : Type 0) (length : ℕ) (now : ℕ) (prints prints' : ℕ → List ℤ) : Type 0 where
  pub same : after_item ≡ before
  pub defines : forms
  pub no_longer : now ≤ length
  pub no_later : (n : ℕ) → Begins (prints n) (prints' n)

-- on both sides of a test
pub still_at_test : (b c : Bool) (wy wn wy' wn' : Walked) (Dy Dn Dy' Dn' : Type 0) (ly ln ly' ln' : ℕ) (py pn py' pn' : ℕ → List ℤ) → c ≡ b
    → (IsWhole wy → Dy → Still wy wy' Dy' ly ly' py py') → (IsWhole wn → Dn → Still wn wn' Dn' ln ln' pn pn')
    → IsWhole (if b then wy else wn) → Side b Dy Dn
    → Still (if b then wy else wn) (if c then wy' else wn') (Side c Dy' Dn') (if b then ly else ln) (if c then ly' else ln') (λ n. if b then py n else pn n) (λ n. if c then py' n else pn' n)
still_at_test true true wy wn wy' wn' Dy Dn Dy' Dn' ly ln ly' ln' py pn py' pn' e f g ok h =
    let k = f ok h in record { same = k.same; defines = k.defines; no_longer = k.no_longer; no_later = k.no_later }
still_at_test false false wy wn wy' wn' Dy Dn Dy' Dn' ly ln ly' ln' py pn py' pn' e f g ok h =
    let k = g ok h in record { same = k.same; defines = k.defines; no_longer = k.no_longer; no_later = k.no_later }
still_at_test true false wy wn wy' wn' Dy Dn Dy' Dn' ly ln ly' ln' py pn py' pn' e f g ok h = absurd (cc)
still_at_test false true wy wn wy' wn' Dy Dn Dy' Dn' ly ln ly' ln' py pn py' pn' e f g ok h = absurd (cc)

-- ---- what is printed

pub Begins-none : (ys : List ℤ) → Begins [] ys
Begins-none ys = (ys, refl)

pub Begins-equal : (xs ys : List ℤ) → xs ≡ ys → Begins xs ys
Begins-equal xs ys e = subst (λ (l : List ℤ). Begins xs l) e (Begins-refl xs)

-- one item or test more prints no less
pub shown-grows : (lengths : List ℕ) (tree : Tree) (s : State) (n : ℕ) → Begins (shown lengths tree s n) (shown lengths tree s (suc n))
shown-grows lengths (Pending t o y rest) s zero = Begins-none _
shown-grows lengths (Pending t o y rest) s (suc n) = Begins-after (prints_of s (y ∷ [])) _ _ (shown-grows lengths rest (after_item lengths y s) n)
shown-grows lengths (Undecided t o on p q) s zero = Begins-none _
shown-grows lengths (Undecided t o on p q) s (suc n) = by_test (holds (operand_value s.names on)) (shown-grows lengths p s n) (shown-grows lengths q s n)
  where
    by_test : (b : Bool) → Begins (shown lengths p s n) (shown lengths p s (suc n)) → Begins (shown lengths q s n) (shown lengths q s (suc n))
        → Begins (if b then shown lengths p s n else shown lengths q s n) (if b then shown lengths p s (suc n) else shown lengths q s (suc n))
    by_test true h k = h
    by_test false h k = k
shown-grows lengths (Exit region tag homes) s n = Begins-none _
shown-grows lengths Stop_exit s n = Begins-none _
shown-grows lengths (Trap_exit kind line) s n = Begins-none _

-- ---- what rises

-- a quiet item neither faults nor prints nor stores nor takes input
pub record DoesNothing (lengths : List ℕ) (s : State) (x : Item) : Type 0 where
  pub fault : fault_of lengths s (x ∷ []) ≡ None
  pub prints : prints_of s (x ∷ []) ≡ []
  pub stores : stores_of lengths s (x ∷ []) ≡ []
  pub reads : reads_of (x ∷ []) ≡ 0

pub quiet : (lengths : List ℕ) (s : State) (x : Item) → only_computes x ≡ true → DoesNothing lengths s x
quiet lengths s (Bin op d l r) is = record { fault = refl; prints = refl; stores = refl; reads = refl }
quiet lengths s (Copy d f) is = record { fault = refl; prints = refl; stores = refl; reads = refl }
quiet lengths s (Load d a i) is = record { fault = refl; prints = refl; stores = refl; reads = refl }
quiet lengths s (Store a i v) is = absurd (cc)
quiet lengths s (Print v) is = absurd (cc)
quiet lengths s (Read d) is = absurd (cc)
quiet lengths s (More d) is = absurd (cc)

printing_nothing : (w : Walked) → printing [] w ≡ w
printing_nothing (Leaves printed region s) = refl
printing_nothing (Finishes printed end) = refl

-- it adds nothing to what is printed
pub quiet_shown : (lengths : List ℕ) (s : State) (x : Item) → only_computes x ≡ true → (xs ys : List ℤ) → Begins xs (prints_of s (x ∷ []) ++ ys) → Begins xs ys
quiet_shown lengths s x is xs ys h = subst (λ (p : List ℤ). Begins xs (p ++ ys)) (quiet lengths s x is).prints h

pub shown_quiet : (lengths : List ℕ) (s : State) (x : Item) → only_computes x ≡ true → (xs ys : List ℤ) → Begins xs ys → Begins xs (prints_of s (x ∷ []) ++ ys)
shown_quiet lengths s x is xs ys h = subst (λ (p : List ℤ). Begins xs (p ++ ys)) (sym (quiet lengths s x is).prints) h

-- a quiet item at the root
pub quiet_walk : (lengths : List ℕ) (t o : ℕ) (x : Item) (tree : Tree) (s : State) → only_computes x ≡ true → walk lengths (Pending t o x tree) s ≡ walk lengths tree (after_item lengths x s)
quiet_walk lengths t o x tree s is =
    let q = quiet lengths s x is in
    ap (λ (f : Option MachineFault). unless_fault f (printing (prints_of s (x ∷ [])) (walk lengths tree (after_item lengths x s)))) q.fault
    ∙ ap (λ (p : List ℤ). printing p (walk lengths tree (after_item lengths x s))) q.prints
    ∙ printing_nothing (walk lengths tree (after_item lengths x s))

-- known names have the same values behind a quiet item
pub quiet_carries : (lengths : List ℕ) (known : ℕ → Bool) (x : Item) (s : State) → only_computes x ≡ true → IsNew known (dest_of x) → Carries (λ o. o) known s (after_item lengths x s)
quiet_carries lengths known x s is new =
    let q = quiet lengths s x is in
    record {
      operands = λ o k. operand-after lengths known x s o new k;
      cells = ap (cells_after s.cells) q.stores;
      input = ap (λ (n : ℕ). drop n s.input) q.reads;
    }

-- what rises is what stood, but for its name
pub record SameBut (stood x : Item) : Type 0 where
  pub name : ℕ
  pub is : x ≡ with_dest name stood

-- it does the same, and writes a name where the other does
pub record Renames (lengths : List ℕ) (s : State) (stood x : Item) : Type 0 where
  pub value : value_of lengths s x ≡ value_of lengths s stood
  pub stores : stores_of lengths s (x ∷ []) ≡ stores_of lengths s (stood ∷ [])
  pub prints : prints_of s (x ∷ []) ≡ prints_of s (stood ∷ [])
  pub reads : reads_of (x ∷ []) ≡ reads_of (stood ∷ [])
  pub fault : fault_of lengths s (x ∷ []) ≡ fault_of lengths s (stood ∷ [])
  pub dests : ((dest_of stood ≡ None) × (dest_of x ≡ None)) ⊎ ((d : ℕ) × (e : ℕ) × (dest_of stood ≡ Some d) × (dest_of x ≡ Some e))

with_dest-does : (lengths : List ℕ) (s : State) (name : ℕ) (stood : Item) → Renames lengths s stood (with_dest name stood)
with_dest-does lengths s name (Bin op d l r) = record { value = refl; stores = refl; prints = refl; reads = refl; fault = refl; dests = inr (d, name, refl, refl) }
with_dest-does lengths s name (Copy d f) = record { value = refl; stores = refl; prints = refl; reads = refl; fault = refl; dests = inr (d, name, refl, refl) }
with_dest-does lengths s name (Load d a i) = record { value = refl; stores = refl; prints = refl; reads = refl; fault = refl; dests = inr (d, name, refl, refl) }
with_dest-does lengths s name (Store a i v) = record { value = refl; stores = refl; prints = refl; reads = refl; fault = refl; dests = inl (refl, refl) }
with_dest-does lengths s name (Print v) = record { value = refl; stores = refl; prints = refl; reads = refl; fault = refl; dests = inl (refl, refl) }
with_dest-does lengths s name (Read d) = record { value = refl; stores = refl; prints = refl; reads = refl; fault = refl; dests = inr (d, name, refl, refl) }
with_dest-does lengths s name (More d) = record { value = refl; stores = refl; prints = refl; reads = refl; fault = refl; dests = inr (d, name, refl, refl) }

renames : (lengths : List ℕ) (s : State) (stood x : Item) → SameBut stood x → Renames lengths s stood x
renames lengths s stood x same = subst (λ (y : Item). Renames lengths s stood y) (sym same.is) (with_dest-does lengths s same.name stood)

-- the renaming of uses carries what is known behind the one to behind the other
renamed-carries : (lengths : List ℕ) (known : ℕ → Bool) (s : State) (stood x : Item) → Renames lengths s stood x → IsNew known (dest_of x)
    → Carries (renamed (dest_of stood) (dest_of x)) (and_dest known stood) (after_item lengths stood s) (after_item lengths x s)
renamed-carries lengths known s stood x same new = record {
  operands = λ o is. carried (dest_of stood) (dest_of x) (value_of lengths s stood) (value_of lengths s x) same.dests same.value new o is;
  cells = ap (cells_after s.cells) same.stores;
  input = ap (λ (n : ℕ). drop n s.input) same.reads;
} where
  carried : (d e : Option ℕ) (v w : ℤ) → ((d ≡ None) × (e ≡ None)) ⊎ ((m : ℕ) × (n : ℕ) × (d ≡ Some m) × (e ≡ Some n)) → w ≡ v → IsNew known e
      → (o : Operand) → IsKnown (λ z. writes d z || known z) o
      → operand_value (λ z. if writes e z then w else s.names z) (renamed d e o) ≡ operand_value (λ z. if writes d z then v else s.names z) o
  carried None None v w both eq new o is = refl
  carried None (Some n) v w both eq new o is = elim both [ inl p ↦ absurd (cc) | inr p ↦ absurd (cc) ]
  carried (Some m) None v w both eq new o is = elim both [ inl p ↦ absurd (cc) | inr p ↦ absurd (cc) ]
  carried (Some m) (Some n) v w both eq new (Lit value) is = refl
  carried (Some m) (Some n) v w both eq new (Name z) is = elim (nat_eq m z) as (λ b. (b || known z) ≡ true
      → (if nat_eq n (if b then n else z) then w else s.names (if b then n else z)) ≡ (if b then v else s.names z)) [
        | true ↦ λ k. ap (λ (b : Bool). if b then w else s.names n) (eq-eqb n n refl) ∙ eq
        | false ↦ λ k. elim (nat_eq n z) as (λ b. nat_eq n z ≡ b → (if b then w else s.names z) ≡ s.names z) [
          | false ↦ λ e. refl
          | true ↦ λ e. absurd (let is : n ≡ z = eqb-true n z e in let h : known z ≡ false = sym (ap known is) ∙ new in cc)
        ] refl
      ] is

-- and keeps what the rest writes
pub renamed-keeps : (known : ℕ → Bool) (stood x : Item) (rest : Tree) → NotWritten (dest_of x) rest → WindowKeeps (renamed (dest_of stood) (dest_of x)) (and_dest known stood) rest
renamed-keeps known stood x rest new e unknown written = kept (dest_of stood) (dest_of x) new unknown
  where
    kept : (d n : Option ℕ) → NotWritten n rest → (writes d e || known e) ≡ false → (renamed d n (Name e) ≡ Name e) × ((o : Operand) → renamed d n o ≡ Name e → o ≡ Name e)
    kept None n new unknown = (refl, λ o p. p)
    kept (Some m) None new unknown = (refl, λ o p. p)
    kept (Some m) (Some n) new unknown = elim (nat_eq m e) as (λ b. (b || known e) ≡ false
        → (Name (if b then n else e) ≡ Name e) × ((o : Operand) → renamed (Some m) (Some n) o ≡ Name e → o ≡ Name e)) [
          | true ↦ λ k. absurd (cc)
          | false ↦ λ k. (refl, only)
        ] unknown
      where
        only : (o : Operand) → renamed (Some m) (Some n) o ≡ Name e → o ≡ Name e
        only (Lit value) p = absurd (cc)
        only (Name z) p = elim (nat_eq m z) as (λ b. Name (if b then n else z) ≡ Name e → Name z ≡ Name e) [
          | true ↦ λ q. absurd (let same : n ≡ e = cc in written (subst (λ (k : ℕ). Unwritten k rest) same new))
          | false ↦ λ q. q
        ] p

-- ---- the walk is kept

-- what is known where an item is to rise through a tree
pub record Ready (lengths : List ℕ) (known : ℕ → Bool) (σ : ℕ → ℤ) (forms : ℕ → Form) (σ' : ℕ
    → ℤ) (forms' : ℕ → Form) (stood x : Item) (from : Tree) (s : State) : Type 0 where
  pub scoped : Scoped known from
  pub reads : ReadsKnown known x
  pub new : IsNew known (dest_of x)
  pub same_but : SameBut stood x
  pub same_forms : SameForms (dest_of x) σ forms σ' forms'
  pub of_known : KnownHold known σ forms s
  pub defines : DefinedHold σ forms lengths from s

exchangeable : (lengths : List ℕ) (known : ℕ → Bool) (σ : ℕ → ℤ) (forms : ℕ → Form) (s : State) → KnownHold known σ forms s → (y x : Item)
    → ReadsKnown known y → ReadsKnown known x → IsNew known (dest_of y) → IsNew known (dest_of x) → NoConflict forms y x → IsNew (writes (dest_of y)) (dest_of x)
    → Exchangeable lengths s y x
exchangeable lengths known σ forms s holds y x yreads xreads ynew xnew clear apart = record {
  second = unmoved lengths known σ forms s holds y x yreads xreads ynew (follows_first forms y x clear);
  first = unmoved lengths known σ forms s holds x y xreads yreads xnew (follows_second forms y x clear);
  dests = dests_apart (dest_of y) (dest_of x) apart;
  stores = stores_apart lengths known σ forms s holds y x yreads xreads (follows_first forms y x clear).no_store_dependence;
  one_effect = clear.one_effect;
}

-- an item brought to the root keeps the walk, where it is no fault, and the forms
pub risen : (lengths : List ℕ) (σ : ℕ → ℤ) (forms : ℕ → Form) (σ' : ℕ → ℤ) (forms' : ℕ
    → Form) (tag origin : ℕ) (stood x : Item) (known : ℕ → Bool) (crosses : Bool) (from left : Tree) (s : State)
    → Rises forms tag origin stood x crosses from left → Ready lengths known σ forms σ' forms' stood x from s → IsWhole (walk lengths from s)
    → Still (walk lengths from s) (walk lengths (Pending tag origin x left) s) (DefinedHold σ' forms' lengths left (after_item lengths x s)) (walk_length lengths from s)
    (walk_length lengths left (after_item lengths x s))
    (shown lengths from s) (λ n. prints_of s (x ∷ []) ++ shown lengths left (after_item lengths x s) n)
risen lengths σ forms σ' forms' tag origin stood x known crosses from left s (Root rest unwritten) r ok =
    let does : Renames lengths s stood x = renames lengths s stood x r.same_but in
    let w : SameWalk lengths rest (after_item lengths stood s) (mapped (renamed (dest_of stood) (dest_of x)) rest) (after_item lengths x s) =
    mapped-walks lengths (renamed (dest_of stood) (dest_of x)) (and_dest known stood) rest (after_item lengths stood s) (after_item lengths x s) r.scoped.2
    (renamed-carries lengths known s stood x does r.new) (renamed-keeps known stood x rest unwritten) in
    record {
      same = ap (λ (u : Walked). unless_fault (fault_of lengths s (x ∷ [])) (printing (prints_of s (x ∷ [])) u)) w.same
          ∙ ap (λ (p : List ℤ). unless_fault (fault_of lengths s (x ∷ [])) (printing p (walk lengths rest (after_item lengths stood s)))) does.prints
          ∙ ap (λ (f : Option MachineFault). unless_fault f (printing (prints_of s (stood ∷ [])) (walk lengths rest (after_item lengths stood s)))) does.fault;
      defines = w.forms σ' forms' (forms_carried lengths (dest_of x) σ forms σ' forms' r.same_forms rest (after_item lengths stood s) unwritten r.defines.1);
      no_longer = let e = w.as_long in omega arith;
      no_later = λ n. at_root n w.shows does.prints;
    }
  where
    at_root : (n : ℕ) → ((m : ℕ) → shown lengths (mapped (renamed (dest_of stood) (dest_of x)) rest) (after_item lengths x s) m ≡ shown lengths rest (after_item lengths stood s) m)
        → prints_of s (x ∷ []) ≡ prints_of s (stood ∷ [])
        → Begins (shown lengths (Pending tag origin stood rest) s n) (prints_of s (x ∷ []) ++ shown lengths (mapped (renamed (dest_of stood) (dest_of x)) rest) (after_item lengths x s) n)
    at_root zero shows prints = Begins-none _
    at_root (suc n) shows prints =
        subst (λ (l : List ℤ). Begins (prints_of s (stood ∷ []) ++ shown lengths rest (after_item lengths stood s) n) l) (sym (λ i. prints i ++ shows (suc n) i))
        (Begins-after (prints_of s (stood ∷ [])) _ _ (shown-grows lengths rest (after_item lengths stood s) n))
risen lengths σ forms σ' forms' tag origin stood x known crosses from left s (Past_item t o y c rest left' clear apart rises) r ok =
    let step : Exchangeable lengths s y x = exchangeable lengths known σ forms s r.of_known y x r.scoped.0 r.reads r.scoped.1 r.new clear apart in
    let w : Still (walk lengths rest (after_item lengths y s)) (walk lengths (Pending tag origin x left') (after_item lengths y s))
    (DefinedHold σ' forms' lengths left' (after_item lengths x (after_item lengths y s)))
    (walk_length lengths rest (after_item lengths y s)) (walk_length lengths left' (after_item lengths x (after_item lengths y s)))
    (shown lengths rest (after_item lengths y s)) (λ n. prints_of (after_item lengths y s) (x ∷ []) ++ shown lengths left' (after_item lengths x (after_item lengths y s)) n) =
    risen lengths σ forms σ' forms' tag origin stood x (and_dest known y) c rest left' (after_item lengths y s) rises
    (record {
      scoped = r.scoped.2;
      reads = still_reads known y x r.reads;
      new = new_to_both known y (dest_of x) r.new apart;
      same_but = r.same_but;
      same_forms = r.same_forms;
      of_known = known_forms_after lengths known σ forms y s r.of_known r.defines.0;
      defines = r.defines.1;
    })
    (whole_below (fault_of lengths s (y ∷ [])) (prints_of s (y ∷ [])) (walk lengths rest (after_item lengths y s)) ok) in
    let behind : walk lengths (Pending t o y (Pending tag origin x left')) s ≡ walk lengths (Pending t o y rest) s =
    ap (λ (u : Walked). unless_fault (fault_of lengths s (y ∷ [])) (printing (prints_of s (y ∷ [])) u)) w.same in
    let states : after_item lengths x (after_item lengths y s) ≡ after_item lengths y (after_item lengths x s) = states-exchanged lengths s y x step in
    record {
      same = walk-exchanged lengths t o tag origin y x left' s step (subst IsWhole (sym behind) ok) ∙ behind;
      defines = (
        writes_same' (dest_of y) step.first.value (writes_carried (dest_of x) σ forms σ' forms' r.same_forms (dest_of y) (value_of lengths s y) apart r.defines.0),
        subst (DefinedHold σ' forms' lengths left') states w.defines,
      );
      no_longer = let e : walk_length lengths left' (after_item lengths x (after_item lengths y s))
          ≡ walk_length lengths left' (after_item lengths y (after_item lengths x s)) = ap (walk_length lengths left') states in
          let l = w.no_longer in omega arith;
      no_later = λ n. past n step w.no_later;
    }
  where
    past : (n : ℕ) → Exchangeable lengths s y x → ((m : ℕ) → Begins (shown lengths rest (after_item lengths y s) m)
        (prints_of (after_item lengths y s) (x ∷ []) ++ shown lengths left' (after_item lengths x (after_item lengths y s)) m))
        → Begins (shown lengths (Pending t o y rest) s n) (prints_of s (x ∷ []) ++ shown lengths (Pending t o y left') (after_item lengths x s) n)
    past zero step next = Begins-none _
    past (suc n) step next =
        subst (λ (l : List ℤ). Begins (prints_of s (y ∷ []) ++ shown lengths rest (after_item lengths y s) n) l) (shown-exchanged lengths y x left' s step n)
        (Begins-after (prints_of s (y ∷ [])) _ _ (next n))

    writes_same' : (d : Option ℕ) {v w : ℤ} → w ≡ v → DefinedMeans σ' forms' d v → DefinedMeans σ' forms' d w
    writes_same' d q h = subst (DefinedMeans σ' forms' d) (sym q) h
risen lengths σ forms σ' forms' tag origin stood x known crosses from left s (Past_yes t o on c on_yes on_no left' is unwritten rises) r ok =
    let at_no : SameWalk lengths on_no s on_no (after_item lengths x s) = agreed-walks lengths known on_no s (after_item lengths x s) r.scoped.2 (quiet_carries lengths known x s is r.new) in
    let w = still_at_test (holds (operand_value s.names on)) (holds (operand_value (after_item lengths x s).names on))
    (walk lengths on_yes s) (walk lengths on_no s) (walk lengths left' (after_item lengths x s)) (walk lengths on_no (after_item lengths x s))
    (DefinedHold σ forms lengths on_yes s) (DefinedHold σ forms lengths on_no s) (DefinedHold σ' forms' lengths left' (after_item lengths x s))
    (DefinedHold σ' forms' lengths on_no (after_item lengths x s))
    (walk_length lengths on_yes s) (walk_length lengths on_no s) (walk_length lengths left' (after_item lengths x s)) (walk_length lengths on_no (after_item lengths x s))
    (shown lengths on_yes s) (shown lengths on_no s) (shown lengths left' (after_item lengths x s)) (shown lengths on_no (after_item lengths x s))
    (ap holds (operand-after lengths known x s on r.new r.scoped.0))
    (λ ok' d. let k = risen lengths σ forms σ' forms' tag origin stood x known c on_yes left' s rises
    (record { scoped = r.scoped.1; reads = r.reads; new = r.new; same_but = r.same_but; same_forms = r.same_forms; of_known = r.of_known; defines = d }) ok' in
    record { same = sym (quiet_walk lengths tag origin x left' s is) ∙ k.same; defines = k.defines; no_longer = k.no_longer; no_later = λ n. quiet_shown lengths s x is _ _ (k.no_later n) })
    (λ ok' d. record {
      same = at_no.same;
      defines = at_no.forms σ' forms' (forms_carried lengths (dest_of x) σ forms σ' forms' r.same_forms on_no s unwritten d);
      no_longer = let e = at_no.as_long in omega arith;
      no_later = λ n. Begins-equal _ _ (sym (at_no.shows n));
    })
    ok r.defines in
    record {
      same = quiet_walk lengths tag origin x (Undecided t o on left' on_no) s is ∙ w.same;
      defines =
          w.defines;
      no_longer = let l = w.no_longer in omega arith;
      no_later = λ n. past n w.no_later;
    }
  where
    past : (n : ℕ) → ((m : ℕ) → Begins (if holds (operand_value s.names on) then shown lengths on_yes s m else shown lengths on_no s m)
        (if holds (operand_value (after_item lengths x s).names on) then shown lengths left' (after_item lengths x s) m else shown lengths on_no (after_item lengths x s) m))
        → Begins (shown lengths (Undecided t o on on_yes on_no) s n) (prints_of s (x ∷ []) ++ shown lengths (Undecided t o on left' on_no) (after_item lengths x s) n)
    past zero next = Begins-none _
    past (suc n) next = shown_quiet lengths s x is _ _ (next n)
risen lengths σ forms σ' forms' tag origin stood x known crosses from left s (Past_no t o on c on_yes on_no left' is unwritten rises) r ok =
    let at_yes : SameWalk lengths on_yes s on_yes (after_item lengths x s) = agreed-walks lengths known on_yes s (after_item lengths x s) r.scoped.1 (quiet_carries lengths known x s is r.new) in
    let w = still_at_test (holds (operand_value s.names on)) (holds (operand_value (after_item lengths x s).names on))
    (walk lengths on_yes s) (walk lengths on_no s) (walk lengths on_yes (after_item lengths x s)) (walk lengths left' (after_item lengths x s))
    (DefinedHold σ forms lengths on_yes s) (DefinedHold σ forms lengths on_no s) (DefinedHold σ' forms' lengths on_yes (after_item lengths x s))
    (DefinedHold σ' forms' lengths left' (after_item lengths x s))
    (walk_length lengths on_yes s) (walk_length lengths on_no s) (walk_length lengths on_yes (after_item lengths x s)) (walk_length lengths left' (after_item lengths x s))
    (shown lengths on_yes s) (shown lengths on_no s) (shown lengths on_yes (after_item lengths x s)) (shown lengths left' (after_item lengths x s))
    (ap holds (operand-after lengths known x s on r.new r.scoped.0))
    (λ ok' d. record {
      same = at_yes.same;
      defines = at_yes.forms σ' forms' (forms_carried lengths (dest_of x) σ forms σ' forms' r.same_forms on_yes s unwritten d);
      no_longer = let e = at_yes.as_long in omega arith;
      no_later = λ n. Begins-equal _ _ (sym (at_yes.shows n));
    })
    (λ ok' d. let k = risen lengths σ forms σ' forms' tag origin stood x known c on_no left' s rises
    (record { scoped = r.scoped.2; reads = r.reads; new = r.new; same_but = r.same_but; same_forms = r.same_forms; of_known = r.of_known; defines = d }) ok' in
    record { same = sym (quiet_walk lengths tag origin x left' s is) ∙ k.same; defines = k.defines; no_longer = k.no_longer; no_later = λ n. quiet_shown lengths s x is _ _ (k.no_later n) })
    ok r.defines in
    record {
      same = quiet_walk lengths tag origin x (Undecided t o on on_yes left') s is ∙ w.same;
      defines =
          w.defines;
      no_longer = let l = w.no_longer in omega arith;
      no_later = λ n. past n w.no_later;
    }
  where
    past : (n : ℕ) → ((m : ℕ) → Begins (if holds (operand_value s.names on) then shown lengths on_yes s m else shown lengths on_no s m)
        (if holds (operand_value (after_item lengths x s).names on) then shown lengths on_yes (after_item lengths x s) m else shown lengths left' (after_item lengths x s) m))
        → Begins (shown lengths (Undecided t o on on_yes on_no) s n) (prints_of s (x ∷ []) ++ shown lengths (Undecided t o on on_yes left') (after_item lengths x s) n)
    past zero next = Begins-none _
    past (suc n) next = shown_quiet lengths s x is _ _ (next n)

-- an item that keeps its name writes at the root what it wrote where it stood
pub kept_form : (lengths : List ℕ) (σ : ℕ → ℤ) (forms : ℕ → Form) (tag origin : ℕ) (x : Item) (known : ℕ → Bool) (crosses : Bool) (from left : Tree) (s : State)
    → Rises forms tag origin x x crosses from left → crosses ≡ false → Scoped known from → ReadsKnown known x → KnownHold known σ forms s → DefinedHold σ forms lengths from s
    → DefinedMeans σ forms (dest_of x) (value_of lengths s x)
kept_form lengths σ forms tag origin x known crosses from left s (Root rest unwritten) straight scoped reads holds defines = defines.0
kept_form lengths σ forms tag origin x known crosses from left s (Past_item t o y c rest left' clear apart rises) straight scoped reads holds defines =
    subst (DefinedMeans σ forms (dest_of x)) (unmoved lengths known σ forms s holds y x scoped.0 reads scoped.1 (follows_first forms y x clear)).value
    (kept_form lengths σ forms tag origin x (and_dest known y) c rest left' (after_item lengths y s) rises straight scoped.2 (still_reads known y x reads)
    (known_forms_after lengths known σ forms y s holds defines.0) defines.1)
kept_form lengths σ forms tag origin x known crosses from left s (Past_yes t o on c on_yes on_no left' is unwritten rises) straight scoped reads holds defines = absurd (cc)
kept_form lengths σ forms tag origin x known crosses from left s (Past_no t o on c on_yes on_no left' is unwritten rises) straight scoped reads holds defines = absurd (cc)

-- ---- a test that divides

abbrev pub pick : Bool → Tree → Tree → Tree
pick true p q = p
pick false p q = q

-- the walk goes on on the side that the test's value before the items tells
pub divided : (lengths : List ℕ) (σ : ℕ → ℤ) (forms : ℕ → Form) (tag origin : ℕ) (on : Operand) (b : Bool) (known : ℕ → Bool) (from on_yes on_no : Tree) (s : State)
    → DividesTree tag origin on from on_yes on_no → holds (operand_value s.names on) ≡ b → IsKnown known on → Scoped known from → DefinedHold σ forms lengths from s
    → Still (walk lengths from s) (walk lengths (pick b on_yes on_no) s) (DefinedHold σ forms lengths (pick b on_yes on_no) s) (walk_length lengths from s)
    (walk_length lengths (pick b on_yes on_no) s) (shown lengths from s) (shown lengths (pick b on_yes on_no) s)
divided lengths σ forms tag origin on b known from on_yes on_no s (Root_test p q) is reads scoped defines =
    elim b as (λ b. holds (operand_value s.names on) ≡ b
    → Still (walk lengths (Undecided tag origin on p q) s) (walk lengths (pick b p q) s) (DefinedHold σ forms lengths (pick b p q) s)
    (walk_length lengths (Undecided tag origin on p q) s) (walk_length lengths (pick b p q) s) (shown lengths (Undecided tag origin on p q) s) (shown lengths (pick b p q) s)) [
      | true ↦ λ e. record {
        same = sym (ap (λ (c : Bool). if c then walk lengths p s else walk lengths q s) e);
        defines = subst (λ (c : Bool). Side c (DefinedHold σ forms lengths p s) (DefinedHold σ forms lengths q s)) e defines;
        no_longer = (let l = ap (λ (c : Bool). if c then walk_length lengths p s else walk_length lengths q s) e in omega arith);
        no_later = λ n. at_test n true e;
      }
      | false ↦ λ e. record {
        same = sym (ap (λ (c : Bool). if c then walk lengths p s else walk lengths q s) e);
        defines = subst (λ (c : Bool). Side c (DefinedHold σ forms lengths p s) (DefinedHold σ forms lengths q s)) e defines;
        no_longer = (let l = ap (λ (c : Bool). if c then walk_length lengths p s else walk_length lengths q s) e in omega arith);
        no_later = λ n. at_test n false e;
      }
    ] is
  where
    at_test : (n : ℕ) (b : Bool) → holds (operand_value s.names on) ≡ b → Begins (shown lengths (Undecided tag origin on p q) s n) (shown lengths (pick b p q) s n)
    at_test zero b e = Begins-none _
    at_test (suc n) true e = subst (λ (c : Bool). Begins (if c then shown lengths p s n else shown lengths q s n) (shown lengths p s (suc n))) (sym e) (shown-grows lengths p s n)
    at_test (suc n) false e = subst (λ (c : Bool). Begins (if c then shown lengths p s n else shown lengths q s n) (shown lengths q s (suc n))) (sym e) (shown-grows lengths q s n)
divided lengths σ forms tag origin on b known from on_yes on_no s (Past t o y rest p q divides) is reads scoped defines =
    let w = divided lengths σ forms tag origin on b (and_dest known y) rest p q (after_item lengths y s) divides
    (ap holds (operand-after lengths known y s on scoped.1 reads) ∙ is) (still_known known y on reads) scoped.2 defines.1 in
    elim b as (λ b. Still (walk lengths rest (after_item lengths y s)) (walk lengths (pick b p q) (after_item lengths y s))
    (DefinedHold σ forms lengths (pick b p q) (after_item lengths y s)) (walk_length lengths rest (after_item lengths y s))
    (walk_length lengths (pick b p q) (after_item lengths y s)) (shown lengths rest (after_item lengths y s)) (shown lengths (pick b p q) (after_item lengths y s))
    → Still (walk lengths (Pending t o y rest) s) (walk lengths (pick b (Pending t o y p) (Pending t o y q)) s)
    (DefinedHold σ forms lengths (pick b (Pending t o y p) (Pending t o y q)) s) (walk_length lengths (Pending t o y rest) s)
    (walk_length lengths (pick b (Pending t o y p) (Pending t o y q)) s) (shown lengths (Pending t o y rest) s) (shown lengths (pick b (Pending t o y p) (Pending t o y q)) s)) [
      | true ↦ λ w. record {
        same = ap (λ (u : Walked). unless_fault (fault_of lengths s (y ∷ [])) (printing (prints_of s (y ∷ [])) u)) w.same;
        defines =
            (defines.0, w.defines);
        no_longer = (let l = w.no_longer in omega arith);
        no_later = λ n. later p n w.no_later;
      }
      | false ↦ λ w. record {
        same = ap (λ (u : Walked). unless_fault (fault_of lengths s (y ∷ [])) (printing (prints_of s (y ∷ [])) u)) w.same;
        defines =
            (defines.0, w.defines);
        no_longer = (let l = w.no_longer in omega arith);
        no_later = λ n. later q n w.no_later;
      }
    ] w
  where
    later : (side : Tree) (n : ℕ) → ((m : ℕ) → Begins (shown lengths rest (after_item lengths y s) m) (shown lengths side (after_item lengths y s) m))
        → Begins (shown lengths (Pending t o y rest) s n) (shown lengths (Pending t o y side) s n)
    later side zero next = Begins-none _
    later side (suc n) next = Begins-after (prints_of s (y ∷ [])) _ _ (next n)
