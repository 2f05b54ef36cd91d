-- The walk of a marked tree: it goes the same way, and shows the tags of what is printed.
use Rattle.std.proofs.Common.{◌≡◌, ℕ, Bool, true, false, List, [], ◌∷◌, ◌++◌, Option, Some, None, refl, sym, ◌∙◌, ap, subst}
use Rattle.std.specs.Prelude.{ℤ, max, if◌then◌else◌}
use Rattle.pc_word.specs.declared.item.Item.{Item}
use Rattle.pc_word.specs.declared.item.Item.TheVariants.{Bin, Copy, Load, Store, Print, Read, More}
use Rattle.pc_word.specs.declared.item.MachineFault.{MachineFault}
use Rattle.pc_word.specs.Word.{holds}
use Rattle.pc_word.specs.State.{State}
use Rattle.pc_word.specs.Items.{operand_value, dest_of, value_of}
use Rattle.pc_word.specs.Commit.{prints_of, fault_of, state_after}
use Rattle.pc_linear.specs.Form.{Form}
use Rattle.pc_window.specs.Tree.{Tree, Pending, Undecided, Exit, Stop_exit, Trap_exit}
use Rattle.pc_window.specs.Names.{IsNew, and_dest, Scoped}
use Rattle.pc_window.specs.Walk.{Walked, Leaves, Finishes, IsWhole, printing, done_first, after_item, walk}
use Rattle.pc_window.specs.Hold.{DefinedMeans, DefinedHold, Side}
use Rattle.pc_certified.proofs.Marked.{counted, mark, marked, dest_mark, reads_mark, known_mark}

-- what a walk prints, and the number of the region that it leaves for
abbrev pub printed_in : Walked → List ℤ
printed_in (Leaves printed region s) = printed
printed_in (Finishes printed end) = printed

abbrev pub level_in : Walked → ℕ
level_in (Leaves printed region s) = region
level_in (Finishes printed end) = 0

pub printed_after : (out : List ℤ) (w : Walked) → printed_in (printing out w) ≡ out ++ printed_in w
printed_after out (Leaves printed region s) = refl
printed_after out (Finishes printed end) = refl

pub level_after : (out : List ℤ) (w : Walked) → level_in (printing out w) ≡ level_in w
level_after out (Leaves printed region s) = refl
level_after out (Finishes printed end) = refl

pub whole_below : (out : List ℤ) (w : Walked) → IsWhole (printing out w) → IsWhole w
whole_below out (Leaves printed region s) h = h
whole_below out (Finishes printed end) h = h

pub whole_above : (out : List ℤ) (w : Walked) → IsWhole w → IsWhole (printing out w)
whole_above out (Leaves printed region s) h = h
whole_above out (Finishes printed end) h = h

-- ---- marked items

module _ (lengths : List ℕ) (base tag : ℕ) (s : State) where
  pub after_mark : (x : Item) → state_after lengths s (mark base tag x ∷ []) ≡ state_after lengths s (x ∷ [])
  after_mark (Bin op d l r) = refl
  after_mark (Copy d f) = refl
  after_mark (Load d a i) = refl
  after_mark (Store a i v) = refl
  after_mark (Print v) = refl
  after_mark (Read d) = refl
  after_mark (More d) = refl

  pub fault_mark : (x : Item) → fault_of lengths s (mark base tag x ∷ []) ≡ fault_of lengths s (x ∷ [])
  fault_mark (Bin op d l r) = refl
  fault_mark (Copy d f) = refl
  fault_mark (Load d a i) = refl
  fault_mark (Store a i v) = refl
  fault_mark (Print v) = refl
  fault_mark (Read d) = refl
  fault_mark (More d) = refl

  means_mark : (σ : ℕ → ℤ) (forms : ℕ → Form) (x : Item) → DefinedMeans σ forms (dest_of x) (value_of lengths s x)
      → DefinedMeans σ forms (dest_of (mark base tag x)) (value_of lengths s (mark base tag x))
  means_mark σ forms (Bin op d l r) h = h
  means_mark σ forms (Copy d f) h = h
  means_mark σ forms (Load d a i) h = h
  means_mark σ forms (Store a i v) h = h
  means_mark σ forms (Print v) h = h
  means_mark σ forms (Read d) h = h
  means_mark σ forms (More d) h = h

  -- it prints a tag where the item prints
  pub prints_none : (x : Item) → prints_of s (x ∷ []) ≡ [] → prints_of s (mark base tag x ∷ []) ≡ []
  prints_none (Bin op d l r) h = refl
  prints_none (Copy d f) h = refl
  prints_none (Load d a i) h = refl
  prints_none (Store a i v) h = refl
  prints_none (Print v) h = absurd (cc)
  prints_none (Read d) h = refl
  prints_none (More d) h = refl

  pub none_prints : (x : Item) → prints_of s (mark base tag x ∷ []) ≡ [] → prints_of s (x ∷ []) ≡ []
  none_prints (Bin op d l r) h = refl
  none_prints (Copy d f) h = refl
  none_prints (Load d a i) h = refl
  none_prints (Store a i v) h = refl
  none_prints (Print v) h = absurd (cc)
  none_prints (Read d) h = refl
  none_prints (More d) h = refl

-- the walk of a marked item and the rest
pub walk_marked : (lengths : List ℕ) (base top tag origin : ℕ) (x : Item) (rest : Tree) (s : State) → walk lengths (marked base top (Pending tag origin x rest)) s
    ≡ done_first (fault_of lengths s (x ∷ [])) (prints_of s (mark base tag x ∷ [])) (walk lengths (marked base top rest) (after_item lengths x s))
walk_marked lengths base top tag origin x rest s =
    ap (λ (f : Option MachineFault). done_first f (prints_of s (mark base tag x ∷ [])) (walk lengths (marked base top rest) (state_after lengths s (mark base tag x ∷ []))))
    (fault_mark lengths base tag s x)
    ∙ ap (λ (t : State). done_first (fault_of lengths s (x ∷ [])) (prints_of s (mark base tag x ∷ [])) (walk lengths (marked base top rest) t)) (after_mark lengths base tag s x)

-- no fault stands before a whole walk
pub no_fault : (f : Option MachineFault) (out : List ℤ) (w : Walked) → IsWhole (done_first f out w) → f ≡ None
no_fault None out w h = refl
no_fault (Some fault) out w h = absurd h

-- ---- what holds of the tree holds of the marked tree

pub scoped_marked : (base top : ℕ) (known : ℕ → Bool) (t : Tree) → Scoped known t → Scoped known (marked base top t)
scoped_marked base top known (Pending tag origin x rest) h = (
  reads_mark base tag known x h.0,
  subst (λ (d : Option ℕ). IsNew known d) (sym (dest_mark base tag x)) h.1,
  subst (λ (k : ℕ → Bool). Scoped k (marked base top rest)) (sym (known_mark base tag known x)) (scoped_marked base top (and_dest known x) rest h.2),
)
scoped_marked base top known (Undecided tag origin on p q) h =
    (h.0, scoped_marked base (max top (counted base tag)) known p h.1, scoped_marked base (max top (counted base tag)) known q h.2)
scoped_marked base top known (Exit region tag homes) h = tt
scoped_marked base top known Stop_exit h = tt
scoped_marked base top known (Trap_exit kind line) h = tt

side_both : (b : Bool) (P Q P' Q' : Type 0) → (P → P') → (Q → Q') → Side b P Q → Side b P' Q'
side_both true P Q P' Q' f g h = f h
side_both false P Q P' Q' f g h = g h

pub defined_marked : (lengths : List ℕ) (base top : ℕ) (σ : ℕ → ℤ) (forms : ℕ → Form) (t : Tree) (s : State) → DefinedHold σ forms lengths t s
    → DefinedHold σ forms lengths (marked base top t) s
defined_marked lengths base top σ forms (Pending tag origin x rest) s h = (
  means_mark lengths base tag s σ forms x h.0,
  subst (λ (u : State). DefinedHold σ forms lengths (marked base top rest) u) (sym (after_mark lengths base tag s x))
      (defined_marked lengths base top σ forms rest (state_after lengths s (x ∷ [])) h.1),
)
defined_marked lengths base top σ forms (Undecided tag origin on p q) s h =
    let m = max top (counted base tag) in
    side_both (holds (operand_value s.names on)) (DefinedHold σ forms lengths p s) (DefinedHold σ forms lengths q s)
    (DefinedHold σ forms lengths (marked base m p) s) (DefinedHold σ forms lengths (marked base m q) s)
    (defined_marked lengths base m σ forms p s) (defined_marked lengths base m σ forms q s) h
defined_marked lengths base top σ forms (Exit region tag homes) s h = tt
defined_marked lengths base top σ forms Stop_exit s h = tt
defined_marked lengths base top σ forms (Trap_exit kind line) s h = tt

-- ---- the marked walk

-- it is whole where the walk is, and has a tag where something is printed
pub record MarkedWalk (w m : Walked) : Type 0 where
  pub is_whole : IsWhole m
  pub none : printed_in w ≡ [] → printed_in m ≡ []
  pub only : printed_in m ≡ [] → printed_in w ≡ []

nil_left : (xs ys : List ℤ) → xs ++ ys ≡ [] → xs ≡ []
nil_left [] ys h = refl
nil_left (x ∷ xs) ys h = absurd (cc)

nil_right : (xs ys : List ℤ) → xs ++ ys ≡ [] → ys ≡ []
nil_right [] ys h = h
nil_right (x ∷ xs) ys h = absurd (cc)

nil_both : (xs ys : List ℤ) → xs ≡ [] → ys ≡ [] → xs ++ ys ≡ []
nil_both xs ys h k = ap (λ (l : List ℤ). l ++ ys) h ∙ k

marked_printing : (out out' : List ℤ) (w m : Walked) → (out ≡ [] → out' ≡ []) → (out' ≡ [] → out ≡ []) → MarkedWalk w m → MarkedWalk (printing out w) (printing out' m)
marked_printing out out' w m f g h = record {
  is_whole = whole_above out' m h.is_whole;
  none = λ e. let k = sym (printed_after out w) ∙ e in
      printed_after out' m ∙ nil_both out' (printed_in m) (f (nil_left out (printed_in w) k)) (h.none (nil_right out (printed_in w) k));
  only = λ e. let k = sym (printed_after out' m) ∙ e in
      printed_after out w ∙ nil_both out (printed_in w) (g (nil_left out' (printed_in m) k)) (h.only (nil_right out' (printed_in m) k));
}

pub marked_walk : (lengths : List ℕ) (base top : ℕ) (t : Tree) (s : State) → IsWhole (walk lengths t s) → MarkedWalk (walk lengths t s) (walk lengths (marked base top t) s)
marked_walk lengths base top (Pending tag origin x rest) s ok =
    by_fault (fault_of lengths s (x ∷ [])) refl ok (λ h. marked_walk lengths base top rest (after_item lengths x s) h)
  where
    by_fault : (f : Option MachineFault) → fault_of lengths s (x ∷ []) ≡ f → IsWhole (done_first f (prints_of s (x ∷ [])) (walk lengths rest (after_item lengths x s)))
        → (IsWhole (walk lengths rest (after_item lengths x s)) → MarkedWalk (walk lengths rest (after_item lengths x s)) (walk lengths (marked base top rest) (after_item lengths x s)))
        → MarkedWalk (walk lengths (Pending tag origin x rest) s) (walk lengths (marked base top (Pending tag origin x rest)) s)
    by_fault (Some fault) e h next = absurd h
    by_fault None e h next =
        let below = next (whole_below (prints_of s (x ∷ [])) (walk lengths rest (after_item lengths x s)) h) in
        subst (λ (m : Walked). MarkedWalk (walk lengths (Pending tag origin x rest) s) m) (sym (walk_marked lengths base top tag origin x rest s))
        (subst (λ (f : Option MachineFault). MarkedWalk (done_first f (prints_of s (x ∷ [])) (walk lengths rest (after_item lengths x s)))
        (done_first f (prints_of s (mark base tag x ∷ [])) (walk lengths (marked base top rest) (after_item lengths x s)))) (sym e)
        (marked_printing (prints_of s (x ∷ [])) (prints_of s (mark base tag x ∷ [])) (walk lengths rest (after_item lengths x s)) (walk lengths (marked base top rest) (after_item lengths x s))
        (prints_none lengths base tag s x) (none_prints lengths base tag s x) below))
marked_walk lengths base top (Undecided tag origin on p q) s ok = by_side (holds (operand_value s.names on)) ok
    (λ h. marked_walk lengths base (max top (counted base tag)) p s h) (λ h. marked_walk lengths base (max top (counted base tag)) q s h)
  where
    by_side : (b : Bool) → IsWhole (if b then walk lengths p s else walk lengths q s)
        → (IsWhole (walk lengths p s) → MarkedWalk (walk lengths p s) (walk lengths (marked base (max top (counted base tag)) p) s))
        → (IsWhole (walk lengths q s) → MarkedWalk (walk lengths q s) (walk lengths (marked base (max top (counted base tag)) q) s))
        → MarkedWalk (if b then walk lengths p s else walk lengths q s)
        (if b then walk lengths (marked base (max top (counted base tag)) p) s else walk lengths (marked base (max top (counted base tag)) q) s)
    by_side true h f g = f h
    by_side false h f g = g h
marked_walk lengths base top (Exit region tag homes) s ok = record { is_whole = tt; none = λ e. refl; only = λ e. refl }
marked_walk lengths base top Stop_exit s ok = record { is_whole = tt; none = λ e. refl; only = λ e. refl }
marked_walk lengths base top (Trap_exit kind line) s ok = record { is_whole = tt; none = λ e. refl; only = λ e. refl }
