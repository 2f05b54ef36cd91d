-- A tree that prints tags: each print prints the number of its tag, and each end leaves with a number, that of its stub's tag, or the
-- greatest of the tests above it. What moves a tree moves the marked tree.
use Rattle.std.proofs.Common.{◌≡◌, ℕ, suc, ◌-◌, Bool, true, false, [], Option, Some, None, refl, sym, ◌∙◌, ap, subst}
use Rattle.std.specs.Prelude.{ℤ, pos, max, ◌||◌, ◌&&◌, not}
use Rattle.pc_word.specs.declared.item.Item.{Item}
use Rattle.pc_word.specs.declared.item.Item.TheVariants.{Bin, Copy, Load, Store, Print, Read, More}
use Rattle.pc_word.specs.declared.item.Operand.{Operand}
use Rattle.pc_word.specs.declared.item.Operand.TheVariants.{Lit}
use Rattle.pc_word.specs.Items.{dest_of, is_effect, reads, reads_name, only_computes}
use Rattle.pc_word.specs.Commit.{writes}
use Rattle.pc_word.specs.Naming.{map_operands, renamed, with_dest}
use Rattle.pc_linear.specs.Form.{Form}
use Rattle.pc_window.specs.Tree.{Tree, Pending, Undecided, Exit, Stop_exit, Trap_exit, Front, Issued, Split, Unfinished, whole}
use Rattle.pc_window.specs.Names.{uses, ReadsKnown, IsNew, and_dest, Unwritten, NotWritten}
use Rattle.pc_window.specs.declared.conflict.Touch.{Touch}
use Rattle.pc_window.specs.Conflict.{touch_of, NoDependence, NoStoreDependence, NoConflict, MayFollow}
use Rattle.pc_window.specs.Rename.{mapped}
use Rattle.pc_window.specs.Jump.{combined, Rises, Root, Past_item, Past_yes, Past_no, DividesTree, Root_test, Past, GivesForm, MayComeBehind, NewForm}
use Rattle.pc_window.specs.Jump.{EntersFront, Lands, Lands_renamed, Lands_test, Lands_once, Behind_item, On_yes, On_no}
use Rattle.pc_window.specs.Move.{is_deletable, IsUnused, Moves, Into_node, Deletes, Below, On_yes_side, On_no_side}
use Rattle.pc_certified.specs.Changes.{EntersWithSameTags, MovesWithSameTags}

-- ---- the marked tree

-- the number of a tag, counted from a base
abbrev pub counted : ℕ → ℕ → ℕ
counted base tag = suc tag - base

-- an item that prints the number of its tag in place of what it prints
abbrev pub mark : (base tag : ℕ) → Item → Item
mark base tag (Bin op dest left right) = Bin op dest left right
mark base tag (Copy dest from) = Copy dest from
mark base tag (Load dest array index) = Load dest array index
mark base tag (Store array index value) = Store array index value
mark base tag (Print value) = Print (Lit (pos (counted base tag)))
mark base tag (Read dest) = Read dest
mark base tag (More dest) = More dest

-- a tree of such items, whose ends leave with the number of their stub's tag, or with the greatest of those above
abbrev pub marked : (base top : ℕ) → Tree → Tree
marked base top (Pending tag origin item rest) = Pending tag origin (mark base tag item) (marked base top rest)
marked base top (Undecided tag origin on on_yes on_no) =
    Undecided tag origin on (marked base (max top (counted base tag)) on_yes) (marked base (max top (counted base tag)) on_no)
marked base top (Exit region tag homes) = Exit (counted base tag) 0 []
marked base top Stop_exit = Exit top 0 []
marked base top (Trap_exit kind line) = Exit top 0 []

-- the same of a front
abbrev pub marked_front : (base top : ℕ) → Front → Front
marked_front base top (Issued tag origin item rest) = Issued tag origin (mark base tag item) (marked_front base top rest)
marked_front base top (Split tag origin on on_yes on_no) =
    Split tag origin on (marked_front base (max top (counted base tag)) on_yes) (marked_front base (max top (counted base tag)) on_no)
marked_front base top (Unfinished rest) = Unfinished (marked base top rest)

pub whole_marked : (base top : ℕ) (front : Front) → whole (marked_front base top front) ≡ marked base top (whole front)
whole_marked base top (Issued tag origin item rest) = ap (λ (t : Tree). Pending tag origin (mark base tag item) t) (whole_marked base top rest)
whole_marked base top (Split tag origin on on_yes on_no) =
    ap (λ (t : Tree). Undecided tag origin on t (whole (marked_front base (max top (counted base tag)) on_no))) (whole_marked base (max top (counted base tag)) on_yes)
    ∙ ap (λ (t : Tree). Undecided tag origin on (marked base (max top (counted base tag)) (whole on_yes)) t) (whole_marked base (max top (counted base tag)) on_no)
whole_marked base top (Unfinished rest) = refl

-- ---- a marked item

module _ (base tag : ℕ) where
  pub dest_mark : (x : Item) → dest_of (mark base tag x) ≡ dest_of x
  dest_mark (Bin op d l r) = refl
  dest_mark (Copy d f) = refl
  dest_mark (Load d a i) = refl
  dest_mark (Store a i v) = refl
  dest_mark (Print v) = refl
  dest_mark (Read d) = refl
  dest_mark (More d) = refl

  pub touch_mark : (x : Item) → touch_of (mark base tag x) ≡ touch_of x
  touch_mark (Bin op d l r) = refl
  touch_mark (Copy d f) = refl
  touch_mark (Load d a i) = refl
  touch_mark (Store a i v) = refl
  touch_mark (Print v) = refl
  touch_mark (Read d) = refl
  touch_mark (More d) = refl

  pub effect_mark : (x : Item) → is_effect (mark base tag x) ≡ is_effect x
  effect_mark (Bin op d l r) = refl
  effect_mark (Copy d f) = refl
  effect_mark (Load d a i) = refl
  effect_mark (Store a i v) = refl
  effect_mark (Print v) = refl
  effect_mark (Read d) = refl
  effect_mark (More d) = refl

  quiet_mark : (x : Item) → only_computes x ≡ true → only_computes (mark base tag x) ≡ true
  quiet_mark (Bin op d l r) h = refl
  quiet_mark (Copy d f) h = refl
  quiet_mark (Load d a i) h = refl
  quiet_mark (Store a i v) h = h
  quiet_mark (Print v) h = h
  quiet_mark (Read d) h = h
  quiet_mark (More d) h = h

  deletable_mark : (x : Item) → is_deletable x ≡ true → is_deletable (mark base tag x) ≡ true
  deletable_mark (Bin op d l r) h = h
  deletable_mark (Copy d f) h = h
  deletable_mark (Load d a i) h = h
  deletable_mark (Store a i v) h = h
  deletable_mark (Print v) h = h
  deletable_mark (Read d) h = h
  deletable_mark (More d) h = h

  pub reads_mark : (known : ℕ → Bool) (x : Item) → ReadsKnown known x → ReadsKnown known (mark base tag x)
  reads_mark known (Bin op d l r) h = h
  reads_mark known (Copy d f) h = h
  reads_mark known (Load d a i) h = h
  reads_mark known (Store a i v) h = h
  reads_mark known (Print v) h = (tt, tt)
  reads_mark known (Read d) h = h
  reads_mark known (More d) h = h

  with_dest_mark : (name : ℕ) (x : Item) → mark base tag (with_dest name x) ≡ with_dest name (mark base tag x)
  with_dest_mark name (Bin op d l r) = refl
  with_dest_mark name (Copy d f) = refl
  with_dest_mark name (Load d a i) = refl
  with_dest_mark name (Store a i v) = refl
  with_dest_mark name (Print v) = refl
  with_dest_mark name (Read d) = refl
  with_dest_mark name (More d) = refl

  combined_mark : (forms : ℕ → Form) (x : Item) → combined forms (mark base tag x) ≡ combined forms x
  combined_mark forms (Bin op d l r) = refl
  combined_mark forms (Copy d f) = refl
  combined_mark forms (Load d a i) = refl
  combined_mark forms (Store a i v) = refl
  combined_mark forms (Print v) = refl
  combined_mark forms (Read d) = refl
  combined_mark forms (More d) = refl

  pub reads_less : (x : Item) (z : ℕ) → reads (mark base tag x) z ≡ true → reads x z ≡ true
  reads_less (Bin op d l r) z h = h
  reads_less (Copy d f) z h = h
  reads_less (Load d a i) z h = h
  reads_less (Store a i v) z h = h
  reads_less (Print v) z h = absurd (cc)
  reads_less (Read d) z h = h
  reads_less (More d) z h = h

  pub known_mark : (known : ℕ → Bool) (x : Item) → and_dest known (mark base tag x) ≡ and_dest known x
  known_mark known x = λ d z. writes (dest_mark x d) z || known z

  new_mark : (known : ℕ → Bool) (x : Item) → IsNew known (dest_of x) → IsNew known (dest_of (mark base tag x))
  new_mark known x h = subst (λ (d : Option ℕ). IsNew known d) (sym (dest_mark x)) h

  gives_mark : (forms forms' : ℕ → Form) (x : Item) (new : Option ℕ) → GivesForm forms forms' x new → GivesForm forms forms' (mark base tag x) new
  gives_mark forms forms' x None h = h
  gives_mark forms forms' x (Some name) h = (h.0, subst (λ (o : Option Form). NewForm forms o h.0) (sym (combined_mark forms x)) h.1, h.2)

-- two marked items
pub conflict_mark : (forms : ℕ → Form) (base t tag : ℕ) (y x : Item) → NoConflict forms y x → NoConflict forms (mark base t y) (mark base tag x)
conflict_mark forms base t tag y x h = record {
  no_dependence = subst (λ (a : Option Touch). NoDependence forms a (touch_of (mark base tag x))) (sym (touch_mark base t y))
      (subst (λ (b : Option Touch). NoDependence forms (touch_of y) b) (sym (touch_mark base tag x)) h.no_dependence);
  one_effect = ap (λ (b : Bool). b && is_effect (mark base tag x)) (effect_mark base t y) ∙ ap (λ (b : Bool). is_effect y && b) (effect_mark base tag x) ∙ h.one_effect;
}

pub follow_mark : (forms : ℕ → Form) (base t tag : ℕ) (y x : Item) → MayFollow forms y x → MayFollow forms (mark base t y) (mark base tag x)
follow_mark forms base t tag y x h = record {
  no_store_dependence = subst (λ (a : Option Touch). NoStoreDependence forms a (touch_of (mark base tag x))) (sym (touch_mark base t y))
      (subst (λ (b : Option Touch). NoStoreDependence forms (touch_of y) b) (sym (touch_mark base tag x)) h.no_store_dependence);
  one_effect = ap (λ (b : Bool). b && is_effect (mark base tag x)) (effect_mark base t y) ∙ ap (λ (b : Bool). is_effect y && b) (effect_mark base tag x) ∙ h.one_effect;
}

apart_mark : (base t tag : ℕ) (y x : Item) → IsNew (writes (dest_of y)) (dest_of x) → IsNew (writes (dest_of (mark base t y))) (dest_of (mark base tag x))
apart_mark base t tag y x h =
    subst (λ (d : Option ℕ). IsNew (writes d) (dest_of (mark base tag x))) (sym (dest_mark base t y))
    (subst (λ (d : Option ℕ). IsNew (writes (dest_of y)) d) (sym (dest_mark base tag x)) h)

apart_new : (base t : ℕ) (y : Item) (new : Option ℕ) → IsNew (writes (dest_of y)) new → IsNew (writes (dest_of (mark base t y))) new
apart_new base t y new h = subst (λ (d : Option ℕ). IsNew (writes d) new) (sym (dest_mark base t y)) h

-- ---- a marked tree

map_mark : (base tag : ℕ) (f : Operand → Operand) → ((v : ℤ) → f (Lit v) ≡ Lit v) → (x : Item) → mark base tag (map_operands f x) ≡ map_operands f (mark base tag x)
map_mark base tag f same (Bin op d l r) = refl
map_mark base tag f same (Copy d g) = refl
map_mark base tag f same (Load d a i) = refl
map_mark base tag f same (Store a i v) = refl
map_mark base tag f same (Print v) = ap (λ (o : Operand). Print o) (sym (same (pos (counted base tag))))
map_mark base tag f same (Read d) = refl
map_mark base tag f same (More d) = refl

pub marked_mapped : (base top : ℕ) (f : Operand → Operand) → ((v : ℤ) → f (Lit v) ≡ Lit v) → (t : Tree) → marked base top (mapped f t) ≡ mapped f (marked base top t)
marked_mapped base top f same (Pending tag origin item rest) =
    ap (λ (x : Item). Pending tag origin x (marked base top (mapped f rest))) (map_mark base tag f same item)
    ∙ ap (λ (t : Tree). Pending tag origin (map_operands f (mark base tag item)) t) (marked_mapped base top f same rest)
marked_mapped base top f same (Undecided tag origin on p q) =
    ap (λ (t : Tree). Undecided tag origin (f on) t (marked base (max top (counted base tag)) (mapped f q))) (marked_mapped base (max top (counted base tag)) f same p)
    ∙ ap (λ (t : Tree). Undecided tag origin (f on) (mapped f (marked base (max top (counted base tag)) p)) t) (marked_mapped base (max top (counted base tag)) f same q)
marked_mapped base top f same (Exit region tag homes) = refl
marked_mapped base top f same Stop_exit = refl
marked_mapped base top f same (Trap_exit kind line) = refl

renamed_literal : (d e : Option ℕ) (v : ℤ) → renamed d e (Lit v) ≡ Lit v
renamed_literal None e v = refl
renamed_literal (Some d) None v = refl
renamed_literal (Some d) (Some e) v = refl

unwritten_marked : (base top x : ℕ) (t : Tree) → Unwritten x t → Unwritten x (marked base top t)
unwritten_marked base top x (Pending tag origin item rest) h =
    (subst (λ (d : Option ℕ). writes d x ≡ false) (sym (dest_mark base tag item)) h.0, unwritten_marked base top x rest h.1)
unwritten_marked base top x (Undecided tag origin on p q) h =
    (unwritten_marked base (max top (counted base tag)) x p h.0, unwritten_marked base (max top (counted base tag)) x q h.1)
unwritten_marked base top x (Exit region tag homes) h = tt
unwritten_marked base top x Stop_exit h = tt
unwritten_marked base top x (Trap_exit kind line) h = tt

not_written_marked : (base top : ℕ) (d : Option ℕ) (t : Tree) → NotWritten d t → NotWritten d (marked base top t)
not_written_marked base top None t h = tt
not_written_marked base top (Some x) t h = unwritten_marked base top x t h

or_either : (a b c d : Bool) → (a ≡ true → c ≡ true) → (b ≡ true → d ≡ true) → (a || b) ≡ true → (c || d) ≡ true
or_either a b true d p q h = refl
or_either true b false d p q h = absurd (let e = p refl in cc)
or_either false b false d p q h = q h

and_second : (a b c : Bool) → (b ≡ true → c ≡ true) → (a && b) ≡ true → (a && c) ≡ true
and_second true b c p h = p h
and_second false b c p h = h

pub uses_less : (base top x : ℕ) (t : Tree) → uses (marked base top t) x ≡ true → uses t x ≡ true
uses_less base top x (Pending tag origin item rest) h =
    or_either (reads (mark base tag item) x) (not (writes (dest_of item) x) && uses (marked base top rest) x) (reads item x) (not (writes (dest_of item) x) && uses rest x)
    (reads_less base tag item x) (and_second (not (writes (dest_of item) x)) (uses (marked base top rest) x) (uses rest x) (uses_less base top x rest))
    (subst (λ (d : Option ℕ). (reads (mark base tag item) x || (not (writes d x) && uses (marked base top rest) x)) ≡ true) (dest_mark base tag item) h)
uses_less base top x (Undecided tag origin on p q) h =
    let m = max top (counted base tag) in
    or_either (reads_name on x) (uses (marked base m p) x || uses (marked base m q) x) (reads_name on x) (uses p x || uses q x) (λ e. e)
    (or_either (uses (marked base m p) x) (uses (marked base m q) x) (uses p x) (uses q x) (uses_less base m x p) (uses_less base m x q)) h
uses_less base top x (Exit region tag homes) h = absurd (cc)
uses_less base top x Stop_exit h = absurd (cc)
uses_less base top x (Trap_exit kind line) h = absurd (cc)

unused_marked : (base top : ℕ) (d : Option ℕ) (t : Tree) → IsUnused d t → IsUnused d (marked base top t)
unused_marked base top None t h = tt
unused_marked base top (Some x) t h = elim (uses (marked base top t) x) as (λ b. uses (marked base top t) x ≡ b → b ≡ false) [
  | true ↦ λ e. absurd (let is = uses_less base top x t e in cc)
  | false ↦ λ e. refl
] refl

-- ---- what moves it

module _ (forms : ℕ → Form) (base : ℕ) where
  pub rises_marked : {tag origin : ℕ} {stood x : Item} {crosses : Bool} {from left : Tree} → Rises forms tag origin stood x crosses from left
      → (top : ℕ) → Rises forms tag origin (mark base tag stood) (mark base tag x) crosses (marked base top from) (marked base top left)
  rises_marked {tag} {origin} {stood} {x} (Root rest unwritten) top =
      let f = renamed (dest_of stood) (dest_of x) in
      let same : mapped (renamed (dest_of (mark base tag stood)) (dest_of (mark base tag x))) (marked base top rest) ≡ marked base top (mapped f rest) =
      ap (λ (d : Option ℕ). mapped (renamed d (dest_of (mark base tag x))) (marked base top rest)) (dest_mark base tag stood)
      ∙ ap (λ (d : Option ℕ). mapped (renamed (dest_of stood) d) (marked base top rest)) (dest_mark base tag x)
      ∙ sym (marked_mapped base top f (renamed_literal (dest_of stood) (dest_of x)) rest) in
      subst (λ (t : Tree). Rises forms tag origin (mark base tag stood) (mark base tag x) false (Pending tag origin (mark base tag stood) (marked base top rest)) t) same
      (Root (marked base top rest) (subst (λ (d : Option ℕ). NotWritten d (marked base top rest)) (sym (dest_mark base tag x)) (not_written_marked base top (dest_of x) rest unwritten)))
  rises_marked {tag} {origin} {stood} {x} (Past_item t o y crosses rest left clear apart rises) top =
      Past_item t o (mark base t y) crosses (marked base top rest) (marked base top left) (conflict_mark forms base t tag y x clear) (apart_mark base t tag y x apart) (rises_marked rises top)
  rises_marked {tag} {origin} {stood} {x} (Past_yes t o on crosses p q left is unwritten rises) top =
      let m = max top (counted base t) in
      Past_yes t o on crosses (marked base m p) (marked base m q) (marked base m left) (quiet_mark base tag x is)
      (subst (λ (d : Option ℕ). NotWritten d (marked base m q)) (sym (dest_mark base tag x)) (not_written_marked base m (dest_of x) q unwritten)) (rises_marked rises m)
  rises_marked {tag} {origin} {stood} {x} (Past_no t o on crosses p q left is unwritten rises) top =
      let m = max top (counted base t) in
      Past_no t o on crosses (marked base m p) (marked base m q) (marked base m left) (quiet_mark base tag x is)
      (subst (λ (d : Option ℕ). NotWritten d (marked base m p)) (sym (dest_mark base tag x)) (not_written_marked base m (dest_of x) p unwritten)) (rises_marked rises m)

  pub divides_marked : {tag origin : ℕ} {on : Operand} {from p q : Tree} → DividesTree tag origin on from p q
      → (top : ℕ) → DividesTree tag origin on (marked base top from) (marked base (max top (counted base tag)) p) (marked base (max top (counted base tag)) q)
  divides_marked {tag} (Root_test p q) top = Root_test (marked base (max top (counted base tag)) p) (marked base (max top (counted base tag)) q)
  divides_marked {tag} (Past t o y rest p q divides) top =
      Past t o (mark base t y) (marked base top rest) (marked base (max top (counted base tag)) p) (marked base (max top (counted base tag)) q) (divides_marked divides top)

  -- what comes, marked
  abbrev pub mark_comes : ℕ → Option Item → Option Item
  mark_comes tag (Some x) = Some (mark base tag x)
  mark_comes tag None = None

  abbrev pub EntersMarked : (ℕ → Bool) → (ℕ → Form) → Option ℕ → Option Item → (from to : Front) → Type 0
  EntersMarked known forms' new comes from to = (tag : ℕ) × EntersFront known forms forms' new (mark_comes tag comes) from to

  renamed_at : (known : ℕ → Bool) (forms' : ℕ → Form) (new : Option ℕ) (tag origin name : ℕ) (stood x : Item) (from left : Tree) → x ≡ with_dest name stood
      → ReadsKnown known x → IsNew known (dest_of x) → new ≡ dest_of x → GivesForm forms forms' x new → Rises forms tag origin stood x true from left
      → EntersFront known forms forms' new (Some x) (Unfinished from) (Issued tag origin x (Unfinished left))
  renamed_at known forms' new tag origin name stood x from left e reads isnew is gives rises =
      subst (λ (z : Item). EntersFront known forms forms' new (Some z) (Unfinished from) (Issued tag origin z (Unfinished left))) (sym e)
      (Lands_renamed tag origin name stood from left (subst (ReadsKnown known) e reads) (subst (λ (z : Item). IsNew known (dest_of z)) e isnew)
      (is ∙ ap (λ (z : Item). dest_of z) e) (subst (λ (z : Item). GivesForm forms forms' z new) e gives)
      (subst (λ (z : Item). Rises forms tag origin stood z true from left) e rises))

  once_at : (known : ℕ → Bool) (forms' : ℕ → Form) (new : Option ℕ) (t o : ℕ) (on : Operand) (tag origin tag' origin' name : ℕ) (stood other x : Item) (c c' : Bool) (p q l m : Tree)
      → x ≡ with_dest name stood → with_dest name other ≡ with_dest name stood
      → ReadsKnown known x → IsNew known (dest_of x) → new ≡ dest_of x → GivesForm forms forms' x new → Rises forms tag origin stood x c p l → Rises forms tag' origin' other x c' q m
      → EntersFront known forms forms' new (Some x) (Split t o on (Unfinished p) (Unfinished q)) (Issued tag origin x (Split t o on (Unfinished l) (Unfinished m)))
  once_at known forms' new t o on tag origin tag' origin' name stood other x c c' p q l m e same reads isnew is gives rises rises' =
      subst (λ (z : Item). EntersFront known forms forms' new (Some z) (Split t o on (Unfinished p) (Unfinished q)) (Issued tag origin z (Split t o on (Unfinished l) (Unfinished m)))) (sym e)
      (Lands_once t o on tag origin tag' origin' name stood other c c' p q l m same (subst (ReadsKnown known) e reads) (subst (λ (z : Item). IsNew known (dest_of z)) e isnew)
      (is ∙ ap (λ (z : Item). dest_of z) e) (subst (λ (z : Item). GivesForm forms forms' z new) e gives)
      (subst (λ (z : Item). Rises forms tag origin stood z c p l) e rises) (subst (λ (z : Item). Rises forms tag' origin' other z c' q m) e rises'))

  behind_marked : (base_tag tag : ℕ) (y : Item) (comes : Option Item) → MayComeBehind forms y comes → MayComeBehind forms (mark base base_tag y) (mark_comes tag comes)
  behind_marked t tag y (Some x) h = (follow_mark forms base t tag y x h.0, apart_mark base t tag y x h.1)
  behind_marked t tag y None h = tt

  pub enters_marked : {known : ℕ → Bool} {forms' : ℕ → Form} {new : Option ℕ} {comes : Option Item} {from to : Front} → (enters : EntersFront known forms forms' new comes from to)
      → EntersWithSameTags enters → (top : ℕ) → EntersMarked known forms' new comes (marked_front base top from) (marked_front base top to)
  enters_marked {known} (Lands tag origin x from left reads isnew none same rises) twins top = (
    tag,
    Lands tag origin (mark base tag x) (marked base top from) (marked base top left) (reads_mark base tag known x reads) (new_mark base tag known x isnew) none same (rises_marked rises top),
  )
  enters_marked {known} {forms'} {new} (Lands_renamed tag origin name stood from left reads isnew is gives rises) twins top =
      let x = with_dest name stood in (
        tag,
        renamed_at known forms' new tag origin name (mark base tag stood) (mark base tag x) (marked base top from) (marked base top left) (with_dest_mark base tag name stood)
            (reads_mark base tag known x reads) (new_mark base tag known x isnew) (is ∙ sym (dest_mark base tag x)) (gives_mark base tag forms forms' x new gives) (rises_marked rises top),
      )
  enters_marked (Lands_test tag origin on from p q reads none same divides) twins top = (
    tag,
    Lands_test tag origin on (marked base top from) (marked base (max top (counted base tag)) p) (marked base (max top (counted base tag)) q) reads none same (divides_marked divides top),
  )
  enters_marked {known} {forms'} {new} (Lands_once t o on tag origin tag' origin' name stood other c c' p q l m equal reads isnew is gives rises rises') twins top =
      let x = with_dest name stood in
      let n = max top (counted base t) in
      let here : mark base tag x ≡ with_dest name (mark base tag stood) = with_dest_mark base tag name stood in
      let there : mark base tag' x ≡ mark base tag x = ap (λ (k : ℕ). mark base k x) twins in
      let twin : with_dest name (mark base tag' other) ≡ with_dest name (mark base tag stood) =
      sym (with_dest_mark base tag' name other) ∙ ap (λ (z : Item). mark base tag' z) equal ∙ there ∙ here in (
        tag,
        once_at known forms' new t o on tag origin tag' origin' name (mark base tag stood) (mark base tag' other) (mark base tag x) c c'
            (marked base n p) (marked base n q) (marked base n l) (marked base n m) here twin
            (reads_mark base tag known x reads) (new_mark base tag known x isnew) (is ∙ sym (dest_mark base tag x)) (gives_mark base tag forms forms' x new gives)
            (rises_marked rises n) (subst (λ (z : Item). Rises forms tag' origin' (mark base tag' other) z c' (marked base n q) (marked base n m)) there (rises_marked rises' n)),
      )
  enters_marked {new} (Behind_item t o y comes rest rest' may apart enters) twins top =
      let e = enters_marked enters twins top in (
        e.0,
        Behind_item t o (mark base t y) (mark_comes e.0 comes) (marked_front base top rest) (marked_front base top rest') (behind_marked t e.0 y comes may) (apart_new base t y new apart) e.1,
      )
  enters_marked {new} (On_yes t o on comes p q p' apart enters) twins top =
      let n = max top (counted base t) in
      let e = enters_marked enters twins n in (
        e.0,
        On_yes t o on (mark_comes e.0 comes) (marked_front base n p) (marked_front base n q) (marked_front base n p')
            (subst (NotWritten new) (sym (whole_marked base n q)) (not_written_marked base n new (whole q) apart)) e.1,
      )
  enters_marked {new} (On_no t o on comes p q q' apart enters) twins top =
      let n = max top (counted base t) in
      let e = enters_marked enters twins n in (
        e.0,
        On_no t o on (mark_comes e.0 comes) (marked_front base n p) (marked_front base n q) (marked_front base n q')
            (subst (NotWritten new) (sym (whole_marked base n p)) (not_written_marked base n new (whole p) apart)) e.1,
      )

  pub moves_marked : {forms' : ℕ → Form} {new : Option ℕ} {known : ℕ → Bool} {from to : Tree} → (moves : Moves forms forms' new known from to) → MovesWithSameTags moves
      → (top : ℕ) → Moves forms forms' new known (marked base top from) (marked base top to)
  moves_marked {forms'} {new} (Into_node known comes from to enters) tags top =
      let e = enters_marked enters tags top in
      subst (λ (t : Tree). Moves forms forms' new known t (marked base top (whole to))) (whole_marked base top from)
      (subst (λ (t : Tree). Moves forms forms' new known (whole (marked_front base top from)) t) (whole_marked base top to)
      (Into_node known (mark_comes e.0 comes) (marked_front base top from) (marked_front base top to) e.1))
  moves_marked (Deletes known tag origin x rest is unused none same) tags top =
      Deletes known tag origin (mark base tag x) (marked base top rest) (deletable_mark base tag x is)
      (subst (λ (d : Option ℕ). IsUnused d (marked base top rest)) (sym (dest_mark base tag x)) (unused_marked base top (dest_of x) rest unused)) none same
  moves_marked {forms'} {new} (Below known t o y rest rest' apart moves) tags top =
      Below known t o (mark base t y) (marked base top rest) (marked base top rest') (apart_new base t y new apart)
      (subst (λ (k : ℕ → Bool). Moves forms forms' new k (marked base top rest) (marked base top rest')) (sym (known_mark base t known y)) (moves_marked moves tags top))
  moves_marked {new} (On_yes_side known t o on p q p' apart moves) tags top =
      let n = max top (counted base t) in
      On_yes_side known t o on (marked base n p) (marked base n q) (marked base n p') (not_written_marked base n new q apart) (moves_marked moves tags n)
  moves_marked {new} (On_no_side known t o on p q q' apart moves) tags top =
      let n = max top (counted base t) in
      On_no_side known t o on (marked base n p) (marked base n q) (marked base n q') (not_written_marked base n new p apart) (moves_marked moves tags n)
