-- Tidying keeps the walk and the forms, and leaves nothing that may go.
use Rattle.std.proofs.Common.{◌≡◌, ℕ, zero, suc, ◌≤◌, List, [], ◌∷◌, ◌++◌, Option, Some, None, refl, sym, ◌∙◌, ap, subst, inl, inr, arith}
use Rattle.std.specs.Prelude.{ℤ, Bool, true, false, if◌then◌else◌, nat_eq, ◌||◌, ◌&&◌, not}
use Rattle.pc_word.specs.declared.item.Item.{Item}
use Rattle.pc_word.specs.declared.item.Item.TheVariants.{Bin, Copy, Load, Store, Print, Read, More}
use Rattle.pc_word.specs.declared.item.Operand.{Operand}
use Rattle.pc_word.specs.Word.{holds}
use Rattle.pc_word.specs.Run.{Begins}
use Rattle.pc_word.proofs.Runs.{Begins-refl, Begins-trans, Begins-after}
use Rattle.pc_word.specs.State.{State}
use Rattle.pc_word.specs.Items.{operand_value, dest_of, value_of, reads, reads_name}
use Rattle.pc_word.specs.Commit.{prints_of, fault_of, state_after, writes}
use Rattle.pc_linear.specs.Form.{Form}
use Rattle.pc_table.specs.RegionRun.{side_of}
use Rattle.pc_window.specs.Tree.{Tree, Pending, Undecided, Exit, Stop_exit, Trap_exit, home_of, state_at}
use Rattle.pc_window.specs.Walk.{Walked, Leaves, Finishes, printing, done_first, walk}
use Rattle.pc_window.proofs.Once.{defines, Undefined, OncePerPath, Sound}
use Rattle.pc_window.specs.Names.{uses}
use Rattle.pc_window.specs.Hold.{DefinedMeans, DefinedHold, TreeHolds, Side}
use Rattle.pc_window.specs.Opening.{Supply, TreeBelow}
use Rattle.pc_window.specs.Tidying.{kept_if_used, above, tidied, IsNeeded, IsTidy}
use Rattle.pc_window.proofs.Shown.{walk_length, shown}
use Rattle.pc_window.proofs.Rising.{Begins-none, shown-grows}
use Rattle.pc_table.proofs.Live.{pick_same}
use Rattle.pc_table.proofs.Tests.{needed_above}
use Rattle.pc_window.proofs.Uses.{unwritten, nat_eq-tells, reads_is}
use Rattle.pc_window.proofs.Unwinding.{home_of-used, Side-map}
use Rattle.pc_word.proofs.Evaluated.{bare, Alike, Alike-fault, Alike-prints, Alike-value, Alike-after, same_evaluated, same_operand, states_equal}
use Rattle.pc_word.proofs.Truth.{or_first, or_second, or_true}

-- ---- walks from states that agree on what is used

-- two states agree on the names that a tree uses, and are the same but for names
pub record AgreeOn (tree : Tree) (s t : State) : Type 0 where
  pub name : (x : ℕ) → uses tree x ≡ true → s.names x ≡ t.names x
  pub rest : bare s ≡ bare t

AgreeOn-alike : (tag origin : ℕ) (item : Item) (rest : Tree) (s t : State) → AgreeOn (Pending tag origin item rest) s t → Alike s item t item
AgreeOn-alike tag origin item rest s t a = record {
  items = same_evaluated s.names t.names item (λ x p. a.name x (or_first (reads item x) (not (writes (dest_of item) x) && uses rest x) p));
  states = a.rest;
}

AgreeOn-after : (lengths : List ℕ) (tag origin : ℕ) (item : Item) (rest : Tree) (s t : State) → AgreeOn (Pending tag origin item rest) s t
    → AgreeOn rest (state_after lengths s (item ∷ [])) (state_after lengths t (item ∷ []))
AgreeOn-after lengths tag origin item rest s t a =
    let alike = AgreeOn-alike tag origin item rest s t a in
    record {
      name = λ x p. pick_same (writes (dest_of item) x) (value_of lengths s item) (value_of lengths t item) (s.names x) (t.names x) (Alike-value lengths s item t item alike)
          (λ w. a.name x (needed_above (reads item x) (writes (dest_of item) x) (uses rest x) w p));
      rest = Alike-after lengths s item t item alike;
    }

AgreeOn-yes : (tag origin : ℕ) (on : Operand) (one other : Tree) (s t : State) → AgreeOn (Undecided tag origin on one other) s t → AgreeOn one s t
AgreeOn-yes tag origin on one other s t a = record { name = λ x p. a.name x (or_second (reads_name on x) (uses one x || uses other x) (or_first (uses one x) (uses other x) p)); rest = a.rest }

AgreeOn-no : (tag origin : ℕ) (on : Operand) (one other : Tree) (s t : State) → AgreeOn (Undecided tag origin on one other) s t → AgreeOn other s t
AgreeOn-no tag origin on one other s t a = record { name = λ x p. a.name x (or_second (reads_name on x) (uses one x || uses other x) (or_second (uses one x) (uses other x) p)); rest = a.rest }

AgreeOn-test : (tag origin : ℕ) (on : Operand) (one other : Tree) (s t : State) → AgreeOn (Undecided tag origin on one other) s t → operand_value s.names on ≡ operand_value t.names on
AgreeOn-test tag origin on one other s t a = same_operand s.names t.names on (λ x p. a.name x (or_first (reads_name on x) (uses one x || uses other x) p))

-- they walk alike
pub walk_agrees : (lengths : List ℕ) (tree : Tree) (s t : State) → AgreeOn tree s t → walk lengths tree s ≡ walk lengths tree t
walk_agrees lengths (Pending tag origin item rest) s t a =
    let alike = AgreeOn-alike tag origin item rest s t a in
    let next = walk_agrees lengths rest (state_after lengths s (item ∷ [])) (state_after lengths t (item ∷ [])) (AgreeOn-after lengths tag origin item rest s t a) in
    λ i. done_first (Alike-fault lengths s item t item alike i) (Alike-prints s item t item alike i) (next i)
walk_agrees lengths (Undecided tag origin on one other) s t a =
    let p = walk_agrees lengths one s t (AgreeOn-yes tag origin on one other s t a) in
    let q = walk_agrees lengths other s t (AgreeOn-no tag origin on one other s t a) in
    λ i. side_of (AgreeOn-test tag origin on one other s t a i) (p i) (q i)
walk_agrees lengths (Exit region tag homes) s t a =
    ap (λ (u : State). Leaves [] region u) (states_equal (state_at (home_of homes) s) (state_at (home_of homes) t)
    (λ v. same_operand s.names t.names (home_of homes v) (λ x p. a.name x (home_of-used homes v x (reads_is (home_of homes v) x p)))) a.rest)
walk_agrees lengths Stop_exit s t a = refl
walk_agrees lengths (Trap_exit kind line) s t a = refl

-- they pass as much
pub length_agrees : (lengths : List ℕ) (tree : Tree) (s t : State) → AgreeOn tree s t → walk_length lengths tree s ≡ walk_length lengths tree t
length_agrees lengths (Pending tag origin item rest) s t a =
    ap suc (length_agrees lengths rest (state_after lengths s (item ∷ [])) (state_after lengths t (item ∷ [])) (AgreeOn-after lengths tag origin item rest s t a))
length_agrees lengths (Undecided tag origin on one other) s t a =
    let p = length_agrees lengths one s t (AgreeOn-yes tag origin on one other s t a) in
    let q = length_agrees lengths other s t (AgreeOn-no tag origin on one other s t a) in
    λ i. suc (if holds (AgreeOn-test tag origin on one other s t a i) then p i else q i)
length_agrees lengths (Exit region tag homes) s t a = refl
length_agrees lengths Stop_exit s t a = refl
length_agrees lengths (Trap_exit kind line) s t a = refl

-- they print as soon
pub shown_agrees : (lengths : List ℕ) (tree : Tree) (s t : State) → AgreeOn tree s t → (n : ℕ) → shown lengths tree s n ≡ shown lengths tree t n
shown_agrees lengths (Pending tag origin item rest) s t a zero = refl
shown_agrees lengths (Pending tag origin item rest) s t a (suc n) =
    let alike = AgreeOn-alike tag origin item rest s t a in
    let next = shown_agrees lengths rest (state_after lengths s (item ∷ [])) (state_after lengths t (item ∷ [])) (AgreeOn-after lengths tag origin item rest s t a) n in
    λ i. Alike-prints s item t item alike i ++ next i
shown_agrees lengths (Undecided tag origin on one other) s t a zero = refl
shown_agrees lengths (Undecided tag origin on one other) s t a (suc n) =
    let p = shown_agrees lengths one s t (AgreeOn-yes tag origin on one other s t a) n in
    let q = shown_agrees lengths other s t (AgreeOn-no tag origin on one other s t a) n in
    λ i. if holds (AgreeOn-test tag origin on one other s t a i) then p i else q i
shown_agrees lengths (Exit region tag homes) s t a n = refl
shown_agrees lengths Stop_exit s t a n = refl
shown_agrees lengths (Trap_exit kind line) s t a n = refl

-- and define the same
pub defined_agrees : (σ : ℕ → ℤ) (forms : ℕ → Form) (lengths : List ℕ) (tree : Tree) (s t : State)
    → AgreeOn tree s t → DefinedHold σ forms lengths tree s → DefinedHold σ forms lengths tree t
defined_agrees σ forms lengths (Pending tag origin item rest) s t a h =
    let alike = AgreeOn-alike tag origin item rest s t a in (
      subst (λ (z : ℤ). DefinedMeans σ forms (dest_of item) z) (Alike-value lengths s item t item alike) h.0,
      defined_agrees σ forms lengths rest (state_after lengths s (item ∷ [])) (state_after lengths t (item ∷ [])) (AgreeOn-after lengths tag origin item rest s t a) h.1,
    )
defined_agrees σ forms lengths (Undecided tag origin on one other) s t a h =
    subst (λ (z : ℤ). Side (holds z) (DefinedHold σ forms lengths one t) (DefinedHold σ forms lengths other t)) (AgreeOn-test tag origin on one other s t a)
    (Side-map (holds (operand_value s.names on)) (DefinedHold σ forms lengths one s) (DefinedHold σ forms lengths other s) (DefinedHold σ forms lengths one t) (DefinedHold σ forms lengths other t)
    (λ p. defined_agrees σ forms lengths one s t (AgreeOn-yes tag origin on one other s t a) p) (λ p. defined_agrees σ forms lengths other s t (AgreeOn-no tag origin on one other s t a) p) h)
defined_agrees σ forms lengths (Exit region tag homes) s t a h = tt
defined_agrees σ forms lengths Stop_exit s t a h = tt
defined_agrees σ forms lengths (Trap_exit kind line) s t a h = tt

-- ---- an item that may go

printing-nil : (w : Walked) → printing [] w ≡ w
printing-nil (Leaves printed region s) = refl
printing-nil (Finishes printed end) = refl

-- an item that only writes a name: it has no fault, prints nothing and leaves all but that name
record OnlyWrites (lengths : List ℕ) (item : Item) (dest : ℕ) : Type 0 where
  no_fault : (s : State) → fault_of lengths s (item ∷ []) ≡ None
  prints_none : (s : State) → prints_of s (item ∷ []) ≡ []
  writes_it : dest_of item ≡ Some dest
  leaves : (s : State) → bare (state_after lengths s (item ∷ [])) ≡ bare s

unused_agrees : (lengths : List ℕ) (item : Item) (dest : ℕ) (rest : Tree) (s : State) → OnlyWrites lengths item dest
    → uses rest dest ≡ false → AgreeOn rest (state_after lengths s (item ∷ [])) s
unused_agrees lengths item dest rest s o u = record {
  name = λ x p.
      ap (λ (d : Option ℕ). if writes d x then value_of lengths s item else s.names x) o.writes_it
      ∙ ap (λ (b : Bool). if b then value_of lengths s item else s.names x) (other x p (nat_eq dest x) refl);
  rest = o.leaves s;
}
  where
    other : (x : ℕ) → uses rest x ≡ true → (b : Bool) → nat_eq dest x ≡ b → nat_eq dest x ≡ false
    other x p true e = let is = nat_eq-tells dest x e in let q : uses rest dest ≡ uses rest x = ap (uses rest) is in absurd (cc)
    other x p false e = e

pub not_true : (b : Bool) → (b ≡ true → ⊥) → b ≡ false
not_true true h = absurd (h refl)
not_true false h = refl

-- what is claimed of a tree in place of another
pub record Tidy (lengths : List ℕ) (new old : Tree) : Type 0 where
  pub walks : (s : State) → walk lengths new s ≡ walk lengths old s
  pub no_longer : (s : State) → walk_length lengths new s ≤ walk_length lengths old s
  pub no_later : (s : State) (n : ℕ) → Begins (shown lengths old s n) (shown lengths new s n)
  pub fewer : (x : ℕ) → uses new x ≡ true → uses old x ≡ true
  pub still_holds : (σ : ℕ → ℤ) (forms : ℕ → Form) (s : State) → DefinedHold σ forms lengths old s → DefinedHold σ forms lengths new s
  pub below : (n : ℕ) → TreeBelow n old → TreeBelow n new
  pub defines_less : (x : ℕ) → defines new x ≡ true → defines old x ≡ true
  pub once : OncePerPath old → OncePerPath new

Tidy-keeps : (lengths : List ℕ) (tag origin : ℕ) (item : Item) (new old : Tree) → Tidy lengths new old → Tidy lengths (Pending tag origin item new) (Pending tag origin item old)
Tidy-keeps lengths tag origin item new old t = record {
  walks = λ s. ap (λ (w : Walked). done_first (fault_of lengths s (item ∷ [])) (prints_of s (item ∷ [])) w) (t.walks (state_after lengths s (item ∷ [])));
  no_longer = λ s. let l = t.no_longer (state_after lengths s (item ∷ [])) in omega arith;
  no_later = later;
  fewer = λ x h. elim (or_true (reads item x) (not (writes (dest_of item) x) && uses new x) h) [
    | inl e ↦ or_first (reads item x) (not (writes (dest_of item) x) && uses old x) e
    | inr e ↦ let p = unwritten (writes (dest_of item) x) (uses new x) e in needed_above (reads item x) (writes (dest_of item) x) (uses old x) p.0 (t.fewer x p.1)
  ];
  still_holds = λ σ forms s h. (h.0, t.still_holds σ forms (state_after lengths s (item ∷ [])) h.1);
  below = λ n h. (h.0, t.below n h.1);
  defines_less = λ x h. elim (or_true (writes (dest_of item) x) (defines new x) h) [
    | inl e ↦ or_first (writes (dest_of item) x) (defines old x) e
    | inr e ↦ or_second (writes (dest_of item) x) (defines old x) (t.defines_less x e)
  ];
  once = λ h. (still_new (dest_of item) h.0, t.once h.1);
}
  where
    later : (s : State) (n : ℕ) → Begins (shown lengths (Pending tag origin item old) s n) (shown lengths (Pending tag origin item new) s n)
    later s zero = Begins-none _
    later s (suc n) = Begins-after (prints_of s (item ∷ [])) _ _ (t.no_later (state_after lengths s (item ∷ [])) n)

    still_new : (d : Option ℕ) → Undefined d old → Undefined d new
    still_new None h = tt
    still_new (Some x) h = not_true (defines new x) (λ e. let p = t.defines_less x e in absurd (cc))

Tidy-drops : (lengths : List ℕ) (tag origin : ℕ) (item : Item) (dest : ℕ) (new old : Tree) → OnlyWrites lengths item dest → uses new dest ≡ false → Tidy lengths new old
    → Tidy lengths new (Pending tag origin item old)
Tidy-drops lengths tag origin item dest new old o u t = record {
  walks = λ s.
      sym (walk_agrees lengths new (state_after lengths s (item ∷ [])) s (unused_agrees lengths item dest new s o u))
      ∙ t.walks (state_after lengths s (item ∷ []))
      ∙ sym (printing-nil (walk lengths old (state_after lengths s (item ∷ []))))
      ∙ sym (λ i. done_first (o.no_fault s i) (o.prints_none s i) (walk lengths old (state_after lengths s (item ∷ []))));
  no_longer = λ s.
      let l = t.no_longer (state_after lengths s (item ∷ [])) in
      let e = length_agrees lengths new (state_after lengths s (item ∷ [])) s (unused_agrees lengths item dest new s o u) in
      omega arith;
  no_later = later;
  fewer = λ x h. needed_above (reads item x) (writes (dest_of item) x) (uses old x) (other x h (writes (dest_of item) x) refl) (t.fewer x h);
  still_holds = λ σ forms s h. defined_agrees σ forms lengths new (state_after lengths s (item ∷ [])) s (unused_agrees lengths item dest new s o u)
      (t.still_holds σ forms (state_after lengths s (item ∷ [])) h.1);
  below = λ n h. t.below n h.1;
  defines_less = λ x h. or_second (writes (dest_of item) x) (defines old x) (t.defines_less x h);
  once = λ h. t.once h.1;
}
  where
    later : (s : State) (n : ℕ) → Begins (shown lengths (Pending tag origin item old) s n) (shown lengths new s n)
    later s zero = Begins-none _
    later s (suc n) =
        let s' = state_after lengths s (item ∷ []) in
        subst (λ (p : List ℤ). Begins (p ++ shown lengths old s' n) (shown lengths new s (suc n))) (sym (o.prints_none s))
        (Begins-trans (shown lengths old s' n) (shown lengths new s n) (shown lengths new s (suc n))
        (subst (λ (l : List ℤ). Begins (shown lengths old s' n) l) (shown_agrees lengths new s' s (unused_agrees lengths item dest new s o u) n) (t.no_later s' n))
        (shown-grows lengths new s n))

    other : (x : ℕ) → uses new x ≡ true → (b : Bool) → writes (dest_of item) x ≡ b → writes (dest_of item) x ≡ false
    other x h true e =
        let q : nat_eq dest x ≡ true = sym (ap (λ (d : Option ℕ). writes d x) o.writes_it) ∙ e in
        let is = nat_eq-tells dest x q in
        let r : uses new dest ≡ uses new x = ap (uses new) is in
        absurd (cc)
    other x h false e = e

-- ---- the tidied tree

Tidy-refl : (lengths : List ℕ) (tree : Tree) → Tidy lengths tree tree
Tidy-refl lengths tree = record {
  walks =
      λ s. refl;
  no_longer = λ s. omega arith;
  no_later = λ s n. Begins-refl _;
  fewer = λ x h. h;
  still_holds = λ σ forms s h. h;
  below = λ n h. h;
  defines_less = λ x h. h;
  once = λ h. h;
}

Tidy-if : (lengths : List ℕ) (dest tag origin : ℕ) (item : Item) (new old : Tree) → OnlyWrites lengths item dest → Tidy lengths new old
    → Tidy lengths (kept_if_used dest tag origin item new) (Pending tag origin item old)
Tidy-if lengths dest tag origin item new old o t = by_test (uses new dest) refl
  where
    by_test : (b : Bool) → uses new dest ≡ b → Tidy lengths (if b then Pending tag origin item new else new) (Pending tag origin item old)
    by_test true e = Tidy-keeps lengths tag origin item new old t
    by_test false e = Tidy-drops lengths tag origin item dest new old o e t

Tidy-above : (lengths : List ℕ) (tag origin : ℕ) (item : Item) (new old : Tree) → Tidy lengths new old → Tidy lengths (above tag origin item new) (Pending tag origin item old)
Tidy-above lengths tag origin (Bin op dest left right) new old t =
    Tidy-if lengths dest tag origin (Bin op dest left right) new old (record { no_fault = λ s. refl; prints_none = λ s. refl; writes_it = refl; leaves = λ s. refl }) t
Tidy-above lengths tag origin (Copy dest from) new old t = Tidy-keeps lengths tag origin (Copy dest from) new old t
Tidy-above lengths tag origin (Load dest array index) new old t =
    Tidy-if lengths dest tag origin (Load dest array index) new old (record { no_fault = λ s. refl; prints_none = λ s. refl; writes_it = refl; leaves = λ s. refl }) t
Tidy-above lengths tag origin (Store array index value) new old t = Tidy-keeps lengths tag origin (Store array index value) new old t
Tidy-above lengths tag origin (Print value) new old t = Tidy-keeps lengths tag origin (Print value) new old t
Tidy-above lengths tag origin (Read dest) new old t = Tidy-keeps lengths tag origin (Read dest) new old t
Tidy-above lengths tag origin (More dest) new old t =
    Tidy-if lengths dest tag origin (More dest) new old (record { no_fault = λ s. refl; prints_none = λ s. refl; writes_it = refl; leaves = λ s. refl }) t

Tidy-test : (lengths : List ℕ) (tag origin : ℕ) (on : Operand) (one one' other other' : Tree) → Tidy lengths one one' → Tidy lengths other other'
    → Tidy lengths (Undecided tag origin on one other) (Undecided tag origin on one' other')
Tidy-test lengths tag origin on one one' other other' p q = record {
  walks = λ s. (λ i. side_of (operand_value s.names on) (p.walks s i) (q.walks s i));
  no_longer = λ s. no_longer (holds (operand_value s.names on)) _ _ _ _ (p.no_longer s) (q.no_longer s);
  no_later = later;
  fewer = λ x h. elim (or_true (reads_name on x) (uses one x || uses other x) h) [
    | inl e ↦ or_first (reads_name on x) (uses one' x || uses other' x) e
    | inr e ↦ or_second (reads_name on x) (uses one' x || uses other' x) (elim (or_true (uses one x) (uses other x) e) [
      | inl d ↦ or_first (uses one' x) (uses other' x) (p.fewer x d)
      | inr d ↦ or_second (uses one' x) (uses other' x) (q.fewer x d)
    ])
  ];
  still_holds = λ σ forms s h.
      Side-map (holds (operand_value s.names on)) (DefinedHold σ forms lengths one' s) (DefinedHold σ forms lengths other' s)
      (DefinedHold σ forms lengths one s) (DefinedHold σ forms lengths other s)
      (λ d. p.still_holds σ forms s d) (λ d. q.still_holds σ forms s d) h;
  below = λ n h. (h.0, p.below n h.1, q.below n h.2);
  defines_less = λ x h. elim (or_true (defines one x) (defines other x) h) [
    | inl e ↦ or_first (defines one' x) (defines other' x) (p.defines_less x e)
    | inr e ↦ or_second (defines one' x) (defines other' x) (q.defines_less x e)
  ];
  once = λ h. (p.once h.0, q.once h.1);
}
  where
    no_longer : (b : Bool) (k m k' m' : ℕ) → k ≤ k' → m ≤ m' → suc (if b then k else m) ≤ suc (if b then k' else m')
    no_longer true k m k' m' h g = omega arith
    no_longer false k m k' m' h g = omega arith

    begins : (b : Bool) (xs ys xs' ys' : List ℤ) → Begins xs xs' → Begins ys ys' → Begins (if b then xs else ys) (if b then xs' else ys')
    begins true xs ys xs' ys' h g = h
    begins false xs ys xs' ys' h g = g

    later : (s : State) (n : ℕ) → Begins (shown lengths (Undecided tag origin on one' other') s n) (shown lengths (Undecided tag origin on one other) s n)
    later s zero = Begins-none _
    later s (suc n) = begins (holds (operand_value s.names on)) _ _ _ _ (p.no_later s n) (q.no_later s n)

pub tidied_tidy : (lengths : List ℕ) (tree : Tree) → Tidy lengths (tidied tree) tree
tidied_tidy lengths (Pending tag origin item rest) = Tidy-above lengths tag origin item (tidied rest) rest (tidied_tidy lengths rest)
tidied_tidy lengths (Undecided tag origin on one other) = Tidy-test lengths tag origin on (tidied one) one (tidied other) other (tidied_tidy lengths one) (tidied_tidy lengths other)
tidied_tidy lengths (Exit region tag homes) = Tidy-refl lengths (Exit region tag homes)
tidied_tidy lengths Stop_exit = Tidy-refl lengths Stop_exit
tidied_tidy lengths (Trap_exit kind line) = Tidy-refl lengths (Trap_exit kind line)

-- forms that held still hold
pub tidied_holds : (forms : ℕ → Form) (lengths : List ℕ) (tree : Tree) (s : State) → TreeHolds forms lengths tree s → TreeHolds forms lengths (tidied tree) s
tidied_holds forms lengths tree s h =
    let t = tidied_tidy lengths tree in
    (h.0, record { parameters = λ x u. h.1.parameters x (t.fewer x u); defined = t.still_holds h.0 forms s h.1.defined })

-- and so does all else that is kept of names
pub tidied_sound : (tree : Tree) (names : Supply) → Sound (record { tree = tree; names = names }) → Sound (record { tree = tidied tree; names = names })
tidied_sound tree names s =
    let t = tidied_tidy [] tree in
    record {
      names_below = t.below names.next s.names_below;
      forms_below = s.forms_below;
      once = t.once s.once;
      apart = λ x u. not_true (defines (tidied tree) x) (λ d. let p = t.defines_less x d in let q = s.apart x (t.fewer x u) in absurd (cc));
    }

-- nothing that may go is left
if_used : (tag origin : ℕ) (item : Item) (dest : ℕ) (rest : Tree) → (uses rest dest ≡ true → IsNeeded item rest) → IsTidy rest → IsTidy (kept_if_used dest tag origin item rest)
if_used tag origin item dest rest needed h = by_test (uses rest dest) refl
  where
    by_test : (b : Bool) → uses rest dest ≡ b → IsTidy (if b then Pending tag origin item rest else rest)
    by_test true e = (needed e, h)
    by_test false e = h

above-tidy : (tag origin : ℕ) (item : Item) (rest : Tree) → IsTidy rest → IsTidy (above tag origin item rest)
above-tidy tag origin (Bin op dest left right) rest h = if_used tag origin (Bin op dest left right) dest rest (λ e. e) h
above-tidy tag origin (Copy dest from) rest h = (tt, h)
above-tidy tag origin (Load dest array index) rest h = if_used tag origin (Load dest array index) dest rest (λ e. e) h
above-tidy tag origin (Store array index value) rest h = (tt, h)
above-tidy tag origin (Print value) rest h = (tt, h)
above-tidy tag origin (Read dest) rest h = (tt, h)
above-tidy tag origin (More dest) rest h = if_used tag origin (More dest) dest rest (λ e. e) h

pub tidied_is_tidy : (tree : Tree) → IsTidy (tidied tree)
tidied_is_tidy (Pending tag origin item rest) = above-tidy tag origin item (tidied rest) (tidied_is_tidy rest)
tidied_is_tidy (Undecided tag origin on one other) = (tidied_is_tidy one, tidied_is_tidy other)
tidied_is_tidy (Exit region tag homes) = tt
tidied_is_tidy Stop_exit = tt
tidied_is_tidy (Trap_exit kind line) = tt
