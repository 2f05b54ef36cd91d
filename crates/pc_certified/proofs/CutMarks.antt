-- Where a front is cut off: what is pending behind it is what was pending, but for what the front printed; and the level does not rise.
use Rattle.std.proofs.Common.{◌≡◌, ℕ, suc, ◌≤◌, Bool, true, false, List, [], ◌∷◌, ◌++◌, Option, Some, None, refl, sym, ◌∙◌, ap, subst, drop, arith}
use Rattle.std.specs.Prelude.{ℤ, max, nat_eq, if◌then◌else◌}
use Rattle.pc_word.specs.declared.item.Item.{Item}
use Rattle.pc_word.specs.declared.item.Item.TheVariants.{Bin, Copy, Load, Store, Print, Read, More}
use Rattle.pc_word.specs.declared.item.MachineFault.{MachineFault}
use Rattle.pc_word.specs.Word.{holds}
use Rattle.pc_word.specs.State.{State}
use Rattle.pc_word.specs.Items.{operand_value, value_of}
use Rattle.pc_word.specs.Commit.{Stored, names_after, stores_of, cells_after, prints_of, reads_of, fault_of, state_after}
use Rattle.pc_linear.specs.Form.{Form}
use Rattle.pc_window.specs.Tree.{Tree, Pending, Undecided, Exit, Stop_exit, Trap_exit, Front, Issued, Split, Unfinished, whole}
use Rattle.pc_window.specs.Names.{uses, Scoped}
use Rattle.pc_window.specs.Walk.{Walked, IsWhole, printing, done_first, after_item, walk}
use Rattle.pc_window.specs.Hold.{TreeHolds, DefinedHold}
use Rattle.pc_window.specs.Conflict.{MayFollow}
use Rattle.pc_window.specs.Filled.{AllItems, Independent}
use Rattle.pc_window.specs.WindowRun.{Window}
use Rattle.pc_window.specs.Steps.{IsProper}
use Rattle.pc_window.proofs.Cutting.{rest_of, front_path, and_dests, cut}
use Rattle.pc_window.proofs.Parameters.{parameters_known}
use Rattle.pc_window.proofs.Exchange.{state_equal}
use Rattle.pc_certified.proofs.Maxima.{max_first, max_more}
use Rattle.pc_certified.proofs.Marked.{counted, mark, marked, marked_front, whole_marked, reads_mark, follow_mark}
use Rattle.pc_certified.proofs.MarkedWalks.{printed_in, level_in, printed_after, level_after, scoped_marked, defined_marked, marked_walk}

-- ---- a marked front

follows_marked : (forms : ℕ → Form) (base top t : ℕ) (x : Item) (front : Front) → AllItems (MayFollow forms x) front
    → AllItems (MayFollow forms (mark base t x)) (marked_front base top front)
follows_marked forms base top t x (Issued tag o y rest) h = (follow_mark forms base t tag x y h.0, follows_marked forms base top t x rest h.1)
follows_marked forms base top t x (Split tag o on p q) h =
    let m = max top (counted base tag) in
    (follows_marked forms base m t x p h.0, follows_marked forms base m t x q h.1)
follows_marked forms base top t x (Unfinished rest) h = tt

independent_marked : (forms : ℕ → Form) (base top : ℕ) (known : ℕ → Bool) (front : Front) → Independent forms known front → Independent forms known (marked_front base top front)
independent_marked forms base top known (Issued tag o x rest) h =
    (reads_mark base tag known x h.0, follows_marked forms base top tag x rest h.1, independent_marked forms base top known rest h.2)
independent_marked forms base top known (Split tag o on p q) h =
    let m = max top (counted base tag) in
    (h.0, independent_marked forms base m known p h.1, independent_marked forms base m known q h.2)
independent_marked forms base top known (Unfinished rest) h = tt

-- a path and its marked path
record SamePath (lengths : List ℕ) (s : State) (items others : List Item) : Type 0 where
  names : (x : ℕ) → names_after lengths s items x ≡ names_after lengths s others x
  stores : stores_of lengths s items ≡ stores_of lengths s others
  reads : reads_of items ≡ reads_of others
  none : prints_of s others ≡ [] → prints_of s items ≡ []

module _ (lengths : List ℕ) (base : ℕ) (s : State) where
  one_more : (tag : ℕ) (x : Item) (items others : List Item) → SamePath lengths s items others → SamePath lengths s (mark base tag x ∷ items) (x ∷ others)
  one_more tag (Bin op d l r) items others h = record {
    names = λ z. ap (λ (v : ℤ). if nat_eq d z then value_of lengths s (Bin op d l r) else v) (h.names z);
    stores = h.stores;
    reads = h.reads;
    none = h.none;
  }
  one_more tag (Copy d f) items others h = record {
    names = λ z. ap (λ (v : ℤ). if nat_eq d z then value_of lengths s (Copy d f) else v) (h.names z);
    stores = h.stores;
    reads = h.reads;
    none = h.none;
  }
  one_more tag (Load d a i) items others h = record {
    names = λ z. ap (λ (v : ℤ). if nat_eq d z then value_of lengths s (Load d a i) else v) (h.names z);
    stores = h.stores;
    reads = h.reads;
    none = h.none;
  }
  one_more tag (Store a i v) items others h = record {
    names = h.names;
    stores = ap (λ (l : List Stored). stores_of lengths s (Store a i v ∷ []) ++ l) h.stores;
    reads = h.reads;
    none = h.none;
  }
  one_more tag (Print v) items others h = record { names = h.names; stores = h.stores; reads = h.reads; none = λ e. absurd (cc) }
  one_more tag (Read d) items others h = record {
    names = λ z. ap (λ (v : ℤ). if nat_eq d z then value_of lengths s (Read d) else v) (h.names z);
    stores = h.stores;
    reads = ap suc h.reads;
    none = h.none;
  }
  one_more tag (More d) items others h = record {
    names = λ z. ap (λ (v : ℤ). if nat_eq d z then value_of lengths s (More d) else v) (h.names z);
    stores = h.stores;
    reads = h.reads;
    none = h.none;
  }

  by_test : (b : Bool) (p q p' q' : List Item) → SamePath lengths s p p' → SamePath lengths s q q' → SamePath lengths s (if b then p else q) (if b then p' else q')
  by_test true p q p' q' h k = h
  by_test false p q p' q' h k = k

  path_marked : (top : ℕ) (front : Front) → SamePath lengths s (front_path s.names (marked_front base top front)) (front_path s.names front)
  path_marked top (Issued tag o x rest) = one_more tag x (front_path s.names (marked_front base top rest)) (front_path s.names rest) (path_marked top rest)
  path_marked top (Split tag o on p q) =
      let m = max top (counted base tag) in
      by_test (holds (operand_value s.names on)) (front_path s.names (marked_front base m p)) (front_path s.names (marked_front base m q)) (front_path s.names p) (front_path s.names q)
      (path_marked m p) (path_marked m q)
  path_marked top (Unfinished rest) = record { names = λ x. refl; stores = refl; reads = refl; none = λ e. refl }

  same_after : (items others : List Item) → SamePath lengths s items others → state_after lengths s items ≡ state_after lengths s others
  same_after items others h = state_equal (state_after lengths s items) (state_after lengths s others) h.names
      (λ a p. ap (λ (l : List Stored). cells_after s.cells l a p) h.stores) (ap (λ (n : ℕ). drop n s.input) h.reads)

  -- what is left behind a marked front is marked, with a number that is no less
  abbrev RestMarked : ℕ → Front → Type 0
  RestMarked top front = (n : ℕ) × (top ≤ n) × (rest_of s.names (marked_front base top front) ≡ marked base n (rest_of s.names front))

  rest_side : (top : ℕ) (b : Bool) (p q p' q' : Tree) → (n : ℕ) × (top ≤ n) × (p ≡ marked base n p') → (n : ℕ) × (top ≤ n) × (q ≡ marked base n q')
      → (n : ℕ) × (top ≤ n) × ((if b then p else q) ≡ marked base n (if b then p' else q'))
  rest_side top true p q p' q' h k = h
  rest_side top false p q p' q' h k = k

  greater : (top m : ℕ) (front : Front) → top ≤ m → RestMarked m front → (n : ℕ) × (top ≤ n) × (rest_of s.names (marked_front base m front) ≡ marked base n (rest_of s.names front))
  greater top m front le h = let n = h.1 in (h.0, omega (arith, le, n), h.2)

  rest_marked : (top : ℕ) (front : Front) → RestMarked top front
  rest_marked top (Issued tag o x rest) = rest_marked top rest
  rest_marked top (Split tag o on p q) =
      let m = max top (counted base tag) in
      let le : top ≤ m = max_first top (counted base tag) in
      rest_side top (holds (operand_value s.names on)) (rest_of s.names (marked_front base m p)) (rest_of s.names (marked_front base m q)) (rest_of s.names p) (rest_of s.names q)
      (greater top m p le (rest_marked m p)) (greater top m q le (rest_marked m q))
  rest_marked top (Unfinished rest) = (top, omega arith, refl)

-- ---- a lesser number above

-- the tags are the same, and the level is no higher
pub record Lower (m k : Walked) : Type 0 where
  pub tags : printed_in m ≡ printed_in k
  pub level : level_in m ≤ level_in k

lower_printing : (out : List ℤ) (m k : Walked) → Lower m k → Lower (printing out m) (printing out k)
lower_printing out m k h = record {
  tags = printed_after out m ∙ ap (λ (l : List ℤ). out ++ l) h.tags ∙ sym (printed_after out k);
  level = (let a = level_after out m in let b = level_after out k in let c = h.level in omega (arith, a, b, c));
}

lower_first : (f : Option MachineFault) (out : List ℤ) (m k : Walked) → Lower m k → Lower (done_first f out m) (done_first f out k)
lower_first (Some fault) out m k h = record { tags = refl; level = omega arith }
lower_first None out m k h = lower_printing out m k h

lower_side : (b : Bool) (m k m' k' : Walked) → Lower m k → Lower m' k' → Lower (if b then m else m') (if b then k else k')
lower_side true m k m' k' p q = p
lower_side false m k m' k' p q = q

pub top_lower : (lengths : List ℕ) (base top more : ℕ) → top ≤ more → (t : Tree) (s : State) → Lower (walk lengths (marked base top t) s) (walk lengths (marked base more t) s)
top_lower lengths base top more le (Pending tag o x rest) s =
    lower_first (fault_of lengths s (mark base tag x ∷ [])) (prints_of s (mark base tag x ∷ [])) (walk lengths (marked base top rest) (after_item lengths (mark base tag x) s))
    (walk lengths (marked base more rest) (after_item lengths (mark base tag x) s)) (top_lower lengths base top more le rest (after_item lengths (mark base tag x) s))
top_lower lengths base top more le (Undecided tag o on p q) s =
    let a = max top (counted base tag) in
    let b = max more (counted base tag) in
    let ab : a ≤ b = max_more top more (counted base tag) le in
    lower_side (holds (operand_value s.names on)) (walk lengths (marked base a p) s) (walk lengths (marked base b p) s) (walk lengths (marked base a q) s) (walk lengths (marked base b q) s)
    (top_lower lengths base a b ab p s) (top_lower lengths base a b ab q s)
top_lower lengths base top more le (Exit region tag homes) s = record { tags = refl; level = omega arith }
top_lower lengths base top more le Stop_exit s = record { tags = refl; level = le }
top_lower lengths base top more le (Trap_exit kind line) s = record { tags = refl; level = le }

-- ---- the cut

pub record CutOn (table_lengths : List ℕ) (base : ℕ) (w : Window) (s : State) : Type 0 where
  pub no_fault : fault_of table_lengths s (front_path s.names w.front) ≡ None
  pub same : walk table_lengths (whole w.front) s
      ≡ printing (prints_of s (front_path s.names w.front)) (walk table_lengths (rest_of s.names w.front) (state_after table_lengths s (front_path s.names w.front)))
  pub forms : TreeHolds w.forms table_lengths (rest_of s.names w.front) (state_after table_lengths s (front_path s.names w.front))
  pub tags : prints_of s (front_path s.names w.front) ≡ []
      → printed_in (walk table_lengths (marked base 0 (rest_of s.names w.front)) (state_after table_lengths s (front_path s.names w.front)))
      ≡ printed_in (walk table_lengths (marked base 0 (whole w.front)) s)
  pub level : level_in (walk table_lengths (marked base 0 (rest_of s.names w.front)) (state_after table_lengths s (front_path s.names w.front)))
      ≤ level_in (walk table_lengths (marked base 0 (whole w.front)) s)

pub cut_on : (lengths : List ℕ) (base : ℕ) (w : Window) (s : State) → IsProper w → TreeHolds w.forms lengths (whole w.front) s → IsWhole (walk lengths (whole w.front) s)
    → CutOn lengths base w s
cut_on lengths base w s proper forms ok =
    let known = uses (whole w.front) in
    let front = w.front in
    let path = front_path s.names front in
    let path' = front_path s.names (marked_front base 0 front) in
    let c = cut lengths known forms.0 w.forms front known s (λ x k. k) proper.window.independent proper.window.scoped forms.1.parameters forms.1.defined ok in
    let same_tree = sym (whole_marked base 0 front) in
    let m = marked_walk lengths base 0 (whole front) s ok in
    let d = cut lengths known forms.0 w.forms (marked_front base 0 front) known s (λ x k. k) (independent_marked w.forms base 0 known front proper.window.independent)
    (subst (λ (t : Tree). Scoped known t) same_tree (scoped_marked base 0 known (whole front) proper.window.scoped)) forms.1.parameters
    (subst (λ (t : Tree). DefinedHold forms.0 w.forms lengths t s) same_tree (defined_marked lengths base 0 forms.0 w.forms (whole front) s forms.1.defined))
    (subst (λ (t : Tree). IsWhole (walk lengths t s)) same_tree m.is_whole) in
    let p = path_marked lengths base s 0 front in
    let r = rest_marked lengths base s 0 front in
    let next = state_after lengths s path in
    let there : walk lengths (marked base 0 (whole front)) s ≡ printing (prints_of s path') (walk lengths (marked base r.0 (rest_of s.names front)) next) =
    ap (λ (t : Tree). walk lengths t s) same_tree ∙ d.same
    ∙ ap (λ (u : State). printing (prints_of s path') (walk lengths (rest_of s.names (marked_front base 0 front)) u)) (same_after lengths base s path' path p)
    ∙ ap (λ (t : Tree). printing (prints_of s path') (walk lengths t next)) r.2 in
    let low = top_lower lengths base 0 r.0 r.1 (rest_of s.names front) next in
    record {
      no_fault = c.no_fault;
      same = c.same;
      forms = (
        forms.0,
        record { parameters = λ x u. c.of_known x (parameters_known (rest_of s.names front) (and_dests known path) c.scoped x u); defined = c.defines },
      );
      tags = λ e. low.tags ∙ sym (ap printed_in there ∙ printed_after (prints_of s path') (walk lengths (marked base r.0 (rest_of s.names front)) next)
          ∙ ap (λ (l : List ℤ). l ++ printed_in (walk lengths (marked base r.0 (rest_of s.names front)) next)) (p.none e));
      level = (let a = low.level in
          let b : level_in (walk lengths (marked base 0 (whole front)) s) ≡ level_in (walk lengths (marked base r.0 (rest_of s.names front)) next) =
          ap level_in there ∙ level_after (prints_of s path') (walk lengths (marked base r.0 (rest_of s.names front)) next) in
          omega (arith, a, b));
    }
