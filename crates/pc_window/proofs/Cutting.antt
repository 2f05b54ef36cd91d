-- The front as a row: where it does not hang on itself, its row does at once what the walk does on its path.
use Rattle.std.proofs.Common.{◌≡◌, ℕ, Bool, true, false, List, [], ◌∷◌, ◌++◌, Option, Some, None, refl, sym, ◌∙◌, ap, subst, append_assoc, length}
use Rattle.std.specs.Prelude.{ℤ, if◌then◌else◌}
use Rattle.std.specs.List.{AllByRecursion}
use Rattle.pc_word.specs.declared.item.Item.{Item}
use Rattle.pc_word.specs.declared.item.Operand.{Operand}
use Rattle.pc_word.specs.declared.item.Operand.TheVariants.{Name, Lit}
use Rattle.pc_word.specs.declared.item.MachineFault.{MachineFault}
use Rattle.pc_word.specs.Word.{holds}
use Rattle.pc_word.specs.State.{State}
use Rattle.pc_word.specs.Items.{operand_value, dest_of}
use Rattle.pc_word.specs.Commit.{prints_of, fault_of, writes, state_after}
use Rattle.pc_word.proofs.Lists.{all_imply}
use Rattle.pc_window.specs.Tree.{Tree, Front, Issued, Split, Unfinished, whole}
use Rattle.pc_window.specs.Walk.{Walked, Leaves, Finishes, IsWhole, printing, unless_fault, after_item, walk}
use Rattle.pc_window.proofs.Shown.{walk_length, behind_length, front_shown, shown}
use Rattle.pc_linear.specs.Form.{Form}
use Rattle.pc_window.specs.Hold.{Side, DefinedHold, KnownHold}
use Rattle.pc_window.specs.Names.{IsKnown, ReadsKnown, IsNew, and_dest, Scoped}
use Rattle.pc_window.specs.Conflict.{MayFollow}
use Rattle.pc_window.specs.Filled.{AllItems, Independent}
use Rattle.pc_window.proofs.Undisturbed.{unmoved, name-after}
use Rattle.pc_window.proofs.Exchange.{stores_apart}
use Rattle.pc_window.proofs.Renaming.{if_same}
use Rattle.pc_window.proofs.Rising.{known_forms_after, whole_below, dests_apart, new_to_either}
use Rattle.pc_window.proofs.Entering.{Within, reads_within}
use Rattle.pc_window.proofs.Rows.{Behind_in_row, AllBehind, state-behind, prints-all, no-fault-behind}
use Rattle.pc_word.proofs.Truth.{or_second}

-- ---- the path that is taken

-- what stands behind the leaf that is taken
abbrev pub rest_of : (ℕ → ℤ) → Front → Tree
rest_of names (Issued tag origin item rest) = rest_of names rest
rest_of names (Split tag origin on on_yes on_no) = if holds (operand_value names on) then rest_of names on_yes else rest_of names on_no
rest_of names (Unfinished rest) = rest

-- the items of the front's path that is taken
abbrev pub front_path : (ℕ → ℤ) → Front → List Item
front_path names (Issued tag origin item rest) = item ∷ front_path names rest
front_path names (Split tag origin on on_yes on_no) = if holds (operand_value names on) then front_path names on_yes else front_path names on_no
front_path names (Unfinished rest) = []

-- the known names, and those that a path writes
abbrev pub and_dests : (ℕ → Bool) → List Item → ℕ → Bool
and_dests known [] = known
and_dests known (item ∷ items) = and_dests (and_dest known item) items

-- ---- the promise

-- a walk is that of a path that is done at once, and then of what is left, from the state after the path, where names and
-- forms are as they must be; as much is unfinished, and printed as soon
pub record Cut (lengths : List ℕ) (known : ℕ → Bool) (σ : ℕ → ℤ) (forms : ℕ
    → Form) (s : State) (walked : Walked) (path : List Item) (rest : Tree) (length : ℕ) (prints : ℕ → List ℤ) : Type 0 where
  pub no_fault : fault_of lengths s path ≡ None
  pub same : walked ≡ printing (prints_of s path) (walk lengths rest (state_after lengths s path))
  pub shows : (n : ℕ) → prints n ≡ prints_of s path ++ shown lengths rest (state_after lengths s path) n
  pub scoped : Scoped (and_dests known path) rest
  pub of_known : KnownHold (and_dests known path) σ forms (state_after lengths s path)
  pub defines : DefinedHold σ forms lengths rest (state_after lengths s path)
  pub as_long : walk_length lengths rest (state_after lengths s path) ≡ length

-- ---- the path is the same behind its first item

-- an operand that is known before the window
same_operand : (base : ℕ → Bool) (names names' : ℕ → ℤ) → ((x : ℕ) → base x ≡ true → names' x ≡ names x)
    → (o : Operand) → IsKnown base o → operand_value names' o ≡ operand_value names o
same_operand base names names' same (Name x) is = same x is
same_operand base names names' same (Lit value) is = refl

path_same : (forms : ℕ → Form) (base : ℕ → Bool) (front : Front) (names names' : ℕ → ℤ) → Independent forms base front → ((x : ℕ) → base x ≡ true → names' x ≡ names x)
    → (front_path names' front ≡ front_path names front) × (rest_of names' front ≡ rest_of names front)
path_same forms base (Issued t o x rest) names names' independent same =
    let h = path_same forms base rest names names' independent.2 same in (ap (λ (l : List Item). x ∷ l) h.0, h.1)
path_same forms base (Split t o on p q) names names' independent same =
    let at_yes = path_same forms base p names names' independent.1 same in
    let at_no = path_same forms base q names names' independent.2 same in
    let test = ap holds (same_operand base names names' same on independent.0) in (
      if_same (holds (operand_value names on)) (holds (operand_value names' on)) _ _ _ _ test at_yes.0 at_no.0,
      if_same (holds (operand_value names on)) (holds (operand_value names' on)) _ _ _ _ test at_yes.1 at_no.1,
    )
path_same forms base (Unfinished rest) names names' independent same = (refl, refl)

-- ---- what stands on the path

-- what holds of each item on both sides of a test holds on the side that is taken
on_path : (P : Item → Type 0) (b : Bool) (xs ys : List Item) → AllByRecursion P xs → AllByRecursion P ys → AllByRecursion P (if b then xs else ys)
on_path P true xs ys h k = h
on_path P false xs ys h k = k

path_follows : (forms : ℕ → Form) (x : Item) (front : Front) (names : ℕ → ℤ) → AllItems (MayFollow forms x) front → AllByRecursion (MayFollow forms x) (front_path names front)
path_follows forms x (Issued t o y rest) names h = (h.0, path_follows forms x rest names h.1)
path_follows forms x (Split t o on p q) names h =
    on_path (MayFollow forms x) (holds (operand_value names on)) (front_path names p) (front_path names q) (path_follows forms x p names h.0) (path_follows forms x q names h.1)
path_follows forms x (Unfinished rest) names h = tt

path_reads : (forms : ℕ → Form) (base : ℕ → Bool) (front : Front) (names : ℕ → ℤ) → Independent forms base front → AllByRecursion (ReadsKnown base) (front_path names front)
path_reads forms base (Issued t o y rest) names h = (h.0, path_reads forms base rest names h.2)
path_reads forms base (Split t o on p q) names h =
    on_path (ReadsKnown base) (holds (operand_value names on)) (front_path names p) (front_path names q) (path_reads forms base p names h.1) (path_reads forms base q names h.2)
path_reads forms base (Unfinished rest) names h = tt

-- each name that a path writes is new
path_new : (front : Front) (known : ℕ → Bool) (names : ℕ → ℤ) → Scoped known (whole front) → AllByRecursion (λ y. IsNew known (dest_of y)) (front_path names front)
path_new (Issued t o y rest) known names h = (
  h.1,
  all_imply (λ z. IsNew (and_dest known y) (dest_of z)) (λ z. IsNew known (dest_of z)) (front_path names rest) (λ z n. (new_to_either known y (dest_of z) n).0)
      (path_new rest (and_dest known y) names h.2),
)
path_new (Split t o on p q) known names h =
    on_path (λ y. IsNew known (dest_of y)) (holds (operand_value names on)) (front_path names p) (front_path names q) (path_new p known names h.1) (path_new q known names h.2)
path_new (Unfinished rest) known names h = tt

-- all at once
all_three : (P Q R S : Item → Type 0) → ((y : Item) → P y → Q y → R y → S y) → (path : List Item)
    → AllByRecursion P path → AllByRecursion Q path → AllByRecursion R path → AllByRecursion S path
all_three P Q R S f [] p q r = tt
all_three P Q R S f (y ∷ path) p q r = (f y p.0 q.0 r.0, all_three P Q R S f path p.1 q.1 r.1)

-- so all that stand behind an item on the path stand behind it in the row
path_behind : (lengths : List ℕ) (base known : ℕ → Bool) (σ : ℕ → ℤ) (forms : ℕ → Form) (t o : ℕ) (x : Item) (rest : Front) (s : State) (names : ℕ → ℤ)
    → Within base known → Independent forms base (Issued t o x rest) → Scoped known (whole (Issued t o x rest)) → KnownHold known σ forms s
    → AllBehind lengths s x (front_path names rest)
path_behind lengths base known σ forms t o x rest s names within independent scoped holds =
    all_three (MayFollow forms x) (ReadsKnown base) (λ y. IsNew (and_dest known x) (dest_of y)) (Behind_in_row lengths s x)
    (λ y follows reads new. record {
      unmoved = unmoved lengths known σ forms s holds x y (reads_within base known within x independent.0) (reads_within base known within y reads) scoped.1 follows;
      dests = dests_apart (dest_of x) (dest_of y) (new_to_either known x (dest_of y) new).1;
      stores = stores_apart lengths known σ forms s holds x y (reads_within base known within x independent.0) (reads_within base known within y reads) follows.no_store_dependence;
    })
    (front_path names rest) (path_follows forms x rest names independent.1) (path_reads forms base rest names independent.2) (path_new rest (and_dest known x) names scoped.2)

-- ---- the front

no_fault_here : (f : Option MachineFault) (w : Walked) → IsWhole (unless_fault f w) → f ≡ None
no_fault_here None w ok = refl
no_fault_here (Some f) w ok = absurd ok

printing_append : (p q : List ℤ) (w : Walked) → printing p (printing q w) ≡ printing (p ++ q) w
printing_append p q (Leaves out region t) = ap (λ (z : List ℤ). Leaves z region t) (sym (append_assoc p q out))
printing_append p q (Finishes out end) = ap (λ (z : List ℤ). Finishes z end) (sym (append_assoc p q out))

printing_nothing : (w : Walked) → w ≡ printing [] w
printing_nothing (Leaves p region t) = refl
printing_nothing (Finishes p end) = refl

-- one item more in front
cut_item : (lengths : List ℕ) (known : ℕ → Bool) (σ : ℕ → ℤ) (forms : ℕ
    → Form) (s : State) (x : Item) (walked : Walked) (path : List Item) (rest : Tree) (length : ℕ) (prints : ℕ → List ℤ)
    → AllBehind lengths s x path → fault_of lengths s (x ∷ []) ≡ None → Cut lengths (and_dest known x) σ forms (after_item lengths x s) walked path rest length prints
    → Cut lengths known σ forms s (unless_fault (fault_of lengths s (x ∷ [])) (printing (prints_of s (x ∷ [])) walked)) (x ∷ path) rest length (λ n. prints_of s (x ∷ []) ++ prints n)
cut_item lengths known σ forms s x walked path rest length prints behind none h =
    let states : state_after lengths s (x ∷ path) ≡ state_after lengths (after_item lengths x s) path = state-behind lengths s x path behind in
    record {
      no_fault = no-fault-behind lengths s x path behind none h.no_fault;
      same = ap (λ (f : Option MachineFault). unless_fault f (printing (prints_of s (x ∷ [])) walked)) none
          ∙ ap (printing (prints_of s (x ∷ []))) h.same
          ∙ printing_append (prints_of s (x ∷ [])) (prints_of (after_item lengths x s) path) (walk lengths rest (state_after lengths (after_item lengths x s) path))
          ∙ ap (λ (p : List ℤ). printing p (walk lengths rest (state_after lengths (after_item lengths x s) path))) (sym (prints-all lengths s x path behind))
          ∙ ap (λ (t : State). printing (prints_of s (x ∷ path)) (walk lengths rest t)) (sym states);
      shows = λ n. ap (λ (l : List ℤ). prints_of s (x ∷ []) ++ l) (h.shows n)
          ∙ sym (append_assoc (prints_of s (x ∷ [])) (prints_of (after_item lengths x s) path) (shown lengths rest (state_after lengths (after_item lengths x s) path) n))
          ∙ ap (λ (p : List ℤ). p ++ shown lengths rest (state_after lengths (after_item lengths x s) path) n) (sym (prints-all lengths s x path behind))
          ∙ ap (λ (t : State). prints_of s (x ∷ path) ++ shown lengths rest t n) (sym states);
      scoped = h.scoped;
      of_known = subst (KnownHold (and_dests (and_dest known x) path) σ forms) (sym states) h.of_known;
      defines = subst (DefinedHold σ forms lengths rest) (sym states) h.defines;
      as_long = ap (walk_length lengths rest) states ∙ h.as_long;
    }

-- on both sides of a test
cut_at_test : (lengths : List ℕ) (known : ℕ → Bool) (σ : ℕ → ℤ) (forms : ℕ → Form) (s : State) (b : Bool) (wy wn : Walked) (py pn : List Item) (ry rn : Tree) (ly ln : ℕ)
    (sy sn : ℕ → List ℤ) (Dy Dn : Type 0)
    → (IsWhole wy → Dy → Cut lengths known σ forms s wy py ry ly sy) → (IsWhole wn → Dn → Cut lengths known σ forms s wn pn rn ln sn)
    → IsWhole (if b then wy else wn) → Side b Dy Dn
    → Cut lengths known σ forms s (if b then wy else wn) (if b then py else pn) (if b then ry else rn) (if b then ly else ln) (λ n. if b then sy n else sn n)
cut_at_test lengths known σ forms s true wy wn py pn ry rn ly ln sy sn Dy Dn f g ok d = f ok d
cut_at_test lengths known σ forms s false wy wn py pn ry rn ly ln sy sn Dy Dn f g ok d = g ok d

-- the front is cut off
pub cut : (lengths : List ℕ) (base : ℕ → Bool) (σ : ℕ → ℤ) (forms : ℕ → Form) (front : Front) (known : ℕ → Bool) (s : State)
    → Within base known → Independent forms base front → Scoped known (whole front) → KnownHold known σ forms s
    → DefinedHold σ forms lengths (whole front) s → IsWhole (walk lengths (whole front) s)
    → Cut lengths known σ forms s (walk lengths (whole front) s) (front_path s.names front) (rest_of s.names front) (behind_length lengths front s) (front_shown lengths front s)
cut lengths base σ forms (Issued t o x rest) known s within independent scoped holds defines ok =
    let h : Cut lengths (and_dest known x) σ forms (after_item lengths x s) (walk lengths (whole rest) (after_item lengths x s))
    (front_path (after_item lengths x s).names rest) (rest_of (after_item lengths x s).names rest) (behind_length lengths rest (after_item lengths x s))
    (front_shown lengths rest (after_item lengths x s)) =
    cut lengths base σ forms rest (and_dest known x) (after_item lengths x s) (λ z is. or_second (writes (dest_of x) z) (known z) (within z is)) independent.2 scoped.2
    (known_forms_after lengths known σ forms x s holds defines.0) defines.1
    (whole_below (fault_of lengths s (x ∷ [])) (prints_of s (x ∷ [])) (walk lengths (whole rest) (after_item lengths x s)) ok) in
    let same = path_same forms base rest s.names (after_item lengths x s).names independent.2 (λ z is. name-after lengths known x s z scoped.1 (within z is)) in
    cut_item lengths known σ forms s x (walk lengths (whole rest) (after_item lengths x s)) (front_path s.names rest) (rest_of s.names rest)
    (behind_length lengths rest (after_item lengths x s)) (front_shown lengths rest (after_item lengths x s))
    (path_behind lengths base known σ forms t o x rest s s.names within independent scoped holds)
    (no_fault_here (fault_of lengths s (x ∷ [])) (printing (prints_of s (x ∷ [])) (walk lengths (whole rest) (after_item lengths x s))) ok)
    (subst (λ (p : List Item). Cut lengths (and_dest known x) σ forms (after_item lengths x s) (walk lengths (whole rest) (after_item lengths x s)) p
    (rest_of s.names rest) (behind_length lengths rest (after_item lengths x s)) (front_shown lengths rest (after_item lengths x s))) same.0
    (subst (λ (r : Tree). Cut lengths (and_dest known x) σ forms (after_item lengths x s) (walk lengths (whole rest) (after_item lengths x s))
    (front_path (after_item lengths x s).names rest) r (behind_length lengths rest (after_item lengths x s)) (front_shown lengths rest (after_item lengths x s))) same.1 h))
cut lengths base σ forms (Split t o on p q) known s within independent scoped holds' defines ok =
    cut_at_test lengths known σ forms s (holds (operand_value s.names on)) (walk lengths (whole p) s) (walk lengths (whole q) s) (front_path s.names p)
    (front_path s.names q) (rest_of s.names p) (rest_of s.names q)
    (behind_length lengths p s) (behind_length lengths q s) (front_shown lengths p s) (front_shown lengths q s) (DefinedHold σ forms lengths (whole p) s) (DefinedHold σ forms lengths (whole q) s)
    (λ ok' d. cut lengths base σ forms p known s within independent.1 scoped.1 holds' d ok')
    (λ ok' d. cut lengths base σ forms q known s within independent.2 scoped.2 holds' d ok')
    ok defines
cut lengths base σ forms (Unfinished rest) known s within independent scoped holds defines ok = record {
  no_fault = refl;
  same = printing_nothing (walk lengths rest s);
  shows = λ n. refl;
  scoped = scoped;
  of_known = holds;
  defines = defines;
  as_long = refl;
}
