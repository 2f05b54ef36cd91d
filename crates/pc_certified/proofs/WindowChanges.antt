-- What changes of a window keep: windows stay proper, forms hold, and the walk and what is pending go on.
use Rattle.std.proofs.Common.{◌≡◌, ℕ, ◌+◌, Bool, true, false, List, [], ◌∷◌, Option, refl, sym, ◌∙◌, ap, subst, None, inl, inr, arith}
use Rattle.std.specs.Prelude.{ℤ, max, nat_eq, if◌then◌else◌}
use Rattle.pc_word.specs.declared.item.Item.{Item}
use Rattle.pc_word.specs.declared.item.Item.TheVariants.{Bin, Copy, Load, Store, Print, Read, More}
use Rattle.pc_word.specs.Word.{holds}
use Rattle.pc_word.specs.Run.{Seen, NeverFaults}
use Rattle.pc_word.specs.State.{State}
use Rattle.pc_word.specs.Items.{operand_value, value_of}
use Rattle.pc_word.specs.Commit.{prints_of, fault_of}
use Rattle.pc_word.proofs.Evaluated.{bare}
use Rattle.pc_linear.specs.Form.{Form}
use Rattle.pc_table.specs.Table.{Table}
use Rattle.pc_table.specs.RegionRun.{side_of}
use Rattle.pc_table.specs.TableKeeps.{TableKeeps}
use Rattle.pc_window.specs.Tree.{Tree, Pending, Undecided, Exit, Stop_exit, Trap_exit, whole}
use Rattle.pc_window.specs.Names.{uses}
use Rattle.pc_window.specs.Walk.{Walked, Leaves, Finishes, printing, done_first, after_item, walk}
use Rattle.pc_window.specs.Hold.{TreeHolds}
use Rattle.pc_window.specs.WindowRun.{Window, follow, FormsHold, supply_of}
use Rattle.pc_window.specs.Opening.{Supply, Grafted, with_name}
use Rattle.pc_window.specs.Unwinding.{Unwinds, unwinds_no_more, unwinds_once}
use Rattle.pc_window.specs.Tidying.{tidied, above}
use Rattle.pc_window.specs.Steps.{IsProper, grafted_of, window_of}
use Rattle.pc_window.proofs.Uses.{nat_eq-tells}
use Rattle.pc_window.proofs.Once.{Sound, defines}
use Rattle.pc_window.proofs.Tidying.{AgreeOn, walk_agrees, tidied_tidy, tidied_holds, not_true}
use Rattle.pc_window.proofs.Unwinding.{unwound_is, IsUnwound, Unwound, at_stub, below, at_yes, at_no, unwound-uses, unwound-extends, used_below}
use Rattle.pc_window.proofs.Soundness.{unwound-sound}
use Rattle.pc_window.proofs.Rebasing.{rebased_holds}
use Rattle.pc_window.specs.Rebasing.{rebased}
use Rattle.pc_window.proofs.Repeated.{once_is, unwinds_holds}
use Rattle.pc_window.proofs.Proper.{proper_sound, unwinds_proper, tidies_proper, rebases_proper, becomes_proper}
use Rattle.pc_window.proofs.Parameters.{parameters_known}
use Rattle.pc_window.proofs.CutRows.{whole_front_of}
use Rattle.pc_window.proofs.Moving.{moves_keep}
use Rattle.pc_window.proofs.GraftForms.{with_name-below}
use Rattle.pc_certified.specs.Somewhere.{Somewhere, here, behind_item, in_yes_side, in_no_side}
use Rattle.pc_certified.specs.Copies.{AddsCopy, UsesCopy}
use Rattle.pc_certified.specs.Changes.{rebases, IsMoved, unwinds, tidies, moves, regroups, opens, adds_copy, uses_copy, OneChange, ChangesTo, no_change, one_change, OpensHere, the_stub, OpensStub}
use Rattle.pc_certified.proofs.OneStub.{unwound_held, unwound-tree, unwound-forms, unwound-defines, unwound-once, once_scoped, written_later}
use Rattle.pc_certified.proofs.Copies.{copy_walks, copy_marks, copy_tags, copy_below, copy_scoped, copy_holds, use_walks, use_marked, use_defined, use_tags, use_below, use_scoped}
use Rattle.pc_certified.proofs.Bases.{TagsFrom}
use Rattle.pc_certified.proofs.Tags.{from_moved, from_tidied, from_unwound}
use Rattle.pc_certified.proofs.Marked.{counted, mark, marked, uses_less, moves_marked}
use Rattle.pc_certified.proofs.MarkedWalks.{walk_marked, scoped_marked, defined_marked, marked_walk}
use Rattle.pc_certified.proofs.Onward.{Onwards, onwards_same, onwards_then, unwound_on, follow_whole}

-- ---- tidying

printing_nothing : (w : Walked) → printing [] w ≡ w
printing_nothing (Leaves p region t) = refl
printing_nothing (Finishes p end) = refl

-- states that differ in a name that is not used
unused_apart : (base top dest : ℕ) (value : ℤ) (new : Tree) (s t : State) → bare s ≡ bare t → ((x : ℕ) → t.names x ≡ (if nat_eq dest x then value else s.names x))
    → uses new dest ≡ false → AgreeOn (marked base top new) s t
unused_apart base top dest value new s t same names unused = record {
  name = λ x is. sym (names x ∙ other x (uses_less base top x new is) (nat_eq dest x) refl);
  rest = same;
}
  where
    other : (x : ℕ) → uses new x ≡ true → (b : Bool) → nat_eq dest x ≡ b → (if b then value else s.names x) ≡ s.names x
    other x is false e = refl
    other x is true e = absurd (let same_name : dest ≡ x = nat_eq-tells dest x e in let u : uses new x ≡ false = subst (λ (z : ℕ). uses new z ≡ false) same_name unused in cc)

module _ (lengths : List ℕ) (base top tag origin : ℕ) (new old : Tree) (same : (s : State) → walk lengths (marked base top new) s ≡ walk lengths (marked base top old) s) where
  keeps_marks : (x : Item) (s : State) → walk lengths (marked base top (Pending tag origin x new)) s ≡ walk lengths (marked base top (Pending tag origin x old)) s
  keeps_marks x s =
      walk_marked lengths base top tag origin x new s
      ∙ ap (λ (w : Walked). done_first (fault_of lengths s (x ∷ [])) (prints_of s (mark base tag x ∷ [])) w) (same (after_item lengths x s))
      ∙ sym (walk_marked lengths base top tag origin x old s)

  drops_marks : (s t : State) (dest : ℕ) (value : ℤ) → bare s ≡ bare t → ((x : ℕ) → t.names x ≡ (if nat_eq dest x then value else s.names x)) → uses new dest ≡ false
      → walk lengths (marked base top new) s ≡ printing [] (walk lengths (marked base top old) t)
  drops_marks s t dest value alike names unused =
      walk_agrees lengths (marked base top new) s t (unused_apart base top dest value new s t alike names unused)
      ∙ same t ∙ sym (printing_nothing (walk lengths (marked base top old) t))

  bin_marks : (x : Item) (dest : ℕ) → ((s : State) → uses new dest ≡ false → walk lengths (marked base top new) s ≡ walk lengths (marked base top (Pending tag origin x old)) s)
      → (b : Bool) → uses new dest ≡ b → (s : State) → walk lengths (marked base top (if b then Pending tag origin x new else new)) s
      ≡ walk lengths (marked base top (Pending tag origin x old)) s
  bin_marks x dest drop true e s = keeps_marks x s
  bin_marks x dest drop false e s = drop s e

  above_marks : (x : Item) (s : State) → walk lengths (marked base top (above tag origin x new)) s ≡ walk lengths (marked base top (Pending tag origin x old)) s
  above_marks (Bin op d l r) s = bin_marks (Bin op d l r) d
      (λ s u. drops_marks s (after_item lengths (Bin op d l r) s) d (value_of lengths s (Bin op d l r)) refl (λ x. refl) u) (uses new d) refl s
  above_marks (Copy d f) s = keeps_marks (Copy d f) s
  above_marks (Load d a i) s = bin_marks (Load d a i) d
      (λ s u. drops_marks s (after_item lengths (Load d a i) s) d (value_of lengths s (Load d a i)) refl (λ x. refl) u) (uses new d) refl s
  above_marks (Store a i v) s = keeps_marks (Store a i v) s
  above_marks (Print v) s = keeps_marks (Print v) s
  above_marks (Read d) s = keeps_marks (Read d) s
  above_marks (More d) s = bin_marks (More d) d
      (λ s u. drops_marks s (after_item lengths (More d) s) d (value_of lengths s (More d)) refl (λ x. refl) u) (uses new d) refl s

pub tidied_marks : (lengths : List ℕ) (base top : ℕ) (t : Tree) (s : State) → walk lengths (marked base top (tidied t)) s ≡ walk lengths (marked base top t) s
tidied_marks lengths base top (Pending tag origin x rest) s = above_marks lengths base top tag origin (tidied rest) rest (λ u. tidied_marks lengths base top rest u) x s
tidied_marks lengths base top (Undecided tag origin on p q) s =
    let m = max top (counted base tag) in
    λ i. side_of (operand_value s.names on) (tidied_marks lengths base m p s i) (tidied_marks lengths base m q s i)
tidied_marks lengths base top (Exit region tag homes) s = refl
tidied_marks lengths base top Stop_exit s = refl
tidied_marks lengths base top (Trap_exit kind line) s = refl

-- ---- one change

module _ (table : Table) where
  -- one stub becomes its region's tree
  as_unwound : (loop : Option ℕ) (names after : Supply) {t u : Tree} → Somewhere (OpensHere table loop names after) t u → Unwound table loop names after t u
  as_unwound loop names after (here (the_stub region tag homes tree is kept)) = at_stub region tag homes tree is kept
  as_unwound loop names after (behind_item tag origin item o) = below tag origin item (as_unwound loop names after o)
  as_unwound loop names after (in_yes_side tag origin on other o) = at_yes tag origin on other (as_unwound loop names after o)
  as_unwound loop names after (in_no_side tag origin on one o) = at_no tag origin on one (as_unwound loop names after o)

  pub opens_proper : (w v : Window) → OpensStub table w v → IsProper w → IsProper v
  opens_proper w v o p =
      let names = supply_of w in
      let u = as_unwound o.loop names o.after o.opens in
      let sound = proper_sound w p in
      let below = unwound-tree table o.loop names o.after p.forms_below u p.names_below in
      let forms = unwound-forms table o.loop names o.after p.forms_below u p.names_below in
      let once = unwound-once table o.loop names o.after p.forms_below u p.names_below sound.once in
      let apart = λ (x : ℕ) (used : uses o.tree x ≡ true).
      (let old = unwound-uses table o.loop names o.after p.forms_below u x used in
      let none = sound.apart x old in
      let lt = used_below w.next (whole w.front) x p.names_below old in
      not_true (defines o.tree x) (λ d. elim (unwound-defines table o.loop names o.after p.forms_below u x d) [ inl q ↦ absurd (cc) | inr q ↦ absurd (omega (arith, lt, q)) ])) in
      subst IsProper (sym o.is) (becomes_proper o.tree o.after w.limits w.inside (uses o.tree) below forms p.room (once_scoped o.tree (uses o.tree) (λ z u. u) apart once))

module _ (table : Table) (keeps : TableKeeps table) (base : ℕ) where
  -- the walk of a tree, and its marks
  abbrev pub walked : Tree → State → Walked
  walked t s = walk table.arrays t s

  abbrev pub marks : Tree → State → Walked
  marks t s = walk table.arrays (marked base 0 t) s

  abbrev pub TreesOn : Tree → Tree → State → Type 0
  TreesOn t u s = Onwards table (walked t s) (walked u s) (marks t s) (marks u s)

  pub never_on : (t u : Tree) (s : State) → TreesOn t u s → NeverFaults (follow table (walked t s)) → NeverFaults (follow table (walked u s))
  never_on t u s on never n fault e = never (on.units + n) fault (sym (ap (λ (x : Seen). x.end) (on.same n)) ∙ e)

  unwinds_on : (loop : Option ℕ) (number : ℕ) (g k : Grafted) → Unwinds table loop number g k → Sound g → (s : State)
      → NeverFaults (follow table (walked g.tree s)) → TreesOn g.tree k.tree s
  unfolding IsUnwound
  unwinds_on loop number a b (unwinds_no_more g e) sound s never = onwards_same table (walked g.tree s) (walked g.tree s) (marks g.tree s) (marks g.tree s) refl refl
  unwinds_on loop number a b (unwinds_once g h k e u) sound s never =
      let at = once_is table loop number g h e in
      let one = unwound_on table keeps loop g.names h.names base (unwound_is table loop at.least g.names g.tree h at.is) sound.names_below s (follow_whole table (walked g.tree s) never) 0 in
      onwards_then table (walked g.tree s) (walked h.tree s) (walked k.tree s) (marks g.tree s) (marks h.tree s) (marks k.tree s) one
      (unwinds_on loop number h k u (unwound-sound table loop at.least g h at.is sound) s (never_on g.tree h.tree s one never))

  unwinds_from : (loop : Option ℕ) (number : ℕ) (g k : Grafted) → Unwinds table loop number g k → TagsFrom base g.tree → TagsFrom base k.tree
  unfolding IsUnwound
  unwinds_from loop number a b (unwinds_no_more g e) h = h
  unwinds_from loop number a b (unwinds_once g m k e u) h =
      let at = once_is table loop number g m e in
      unwinds_from loop number m k u (from_unwound base table loop g.names m.names (unwound_is table loop at.least g.names g.tree m at.is) h)

  -- what a change keeps
  pub record ChangeKept (w v : Window) (s : State) : Type 0 where
    pub proper : IsProper v
    pub forms : FormsHold table v s
    pub on : TreesOn (whole w.front) (whole v.front) s
    pub tags : TagsFrom base (whole w.front) → TagsFrom base (whole v.front)

  becomes : (w : Window) (tree : Tree) (names : Supply) (s : State) → IsProper (window_of tree names w.limits w.inside) → TreeHolds names.forms table.arrays tree s
      → TreesOn (whole w.front) tree s → (TagsFrom base (whole w.front) → TagsFrom base tree) → ChangeKept w (window_of tree names w.limits w.inside) s
  becomes w tree names s proper holds on tags =
      let same = sym (whole_front_of tree) in
      record {
        proper = proper;
        forms = subst (λ (t : Tree). TreeHolds names.forms table.arrays t s) same holds;
        on = subst (λ (t : Tree). TreesOn (whole w.front) t s) same on;
        tags = λ h. subst (TagsFrom base) same (tags h);
      }

  move_kept : (w v : Window) (s : State) → IsMoved w v → IsProper w → FormsHold table w s → NeverFaults (follow table (walked (whole w.front) s)) → ChangeKept w v s
  move_kept w v s m proper forms never =
      let from = whole w.front in
      let to = whole v.front in
      let known = uses from in
      let ok = follow_whole table (walked from s) never in
      let kept = moves_keep w.forms v.forms m.new known from to m.moves m.is_new proper.window.scoped in
      let k = kept.1 table.arrays forms.0 s forms.1 ok in
      let marked_kept = moves_keep w.forms v.forms m.new known (marked base 0 from) (marked base 0 to) (moves_marked w.forms base m.moves m.tags 0) m.is_new
      (scoped_marked base 0 known from proper.window.scoped) in
      let l = marked_kept.1 table.arrays forms.0 s (record { parameters = forms.1.parameters; defined = defined_marked table.arrays base 0 forms.0 w.forms from s forms.1.defined })
      (marked_walk table.arrays base 0 from s ok).is_whole in
      record {
        proper = m.proper;
        forms = (k.1, record { parameters = λ x is. k.2.parameters x (parameters_known to known kept.0 x is); defined = k.2.defined });
        on = onwards_same table (walked from s) (walked to s) (marks from s) (marks to s) k.0 l.0;
        tags = from_moved base m.moves;
      }

  open_kept : (w v : Window) (s : State) → OpensStub table w v → IsProper w → FormsHold table w s → NeverFaults (follow table (walked (whole w.front) s)) → ChangeKept w v s
  open_kept w v s o proper forms never =
      let names = supply_of w in
      let u = as_unwound table o.loop names o.after o.opens in
      let held = unwound_held table o.loop names o.after proper.forms_below u proper.names_below s forms.0 forms.1 in
      let more = unwound-extends table o.loop names o.after proper.forms_below u in
      subst (λ (x : Window). ChangeKept w x s) (sym o.is)
      (becomes w o.tree o.after s (subst IsProper o.is (opens_proper table w v o proper)) (
        held.values,
        record {
          parameters = λ x used.
              let old = unwound-uses table o.loop names o.after proper.forms_below u x used in
              written_later names o.after forms.0 held.values x (s.names x) more held.goes_on proper.forms_below (used_below w.next (whole w.front) x proper.names_below old)
              (forms.1.parameters x old);
          defined = held.defined;
        },
      )
      (unwound_on table keeps o.loop names o.after base u proper.names_below s (follow_whole table (walked (whole w.front) s) never) 0) (from_unwound base table o.loop names o.after u))

  -- a Copy is added
  pub adds_proper : (w v : Window) → AddsCopy w v → IsProper w → IsProper v
  adds_proper w v a p =
      let tree = whole w.front in
      let new : uses tree w.next ≡ false = not_true (uses tree w.next) (λ u. let lt = used_below w.next tree w.next p.names_below u in absurd (omega (arith, lt))) in
      subst IsProper (sym a.is)
      (becomes_proper a.tree (with_name (supply_of w) None) w.limits w.inside (uses tree) (copy_below w.next a.adds p.names_below) (with_name-below (supply_of w) None tt p.forms_below) p.room
      (copy_scoped w.next a.adds (uses tree) new p.names_below p.window.scoped))

  add_kept : (w v : Window) (s : State) → AddsCopy w v → IsProper w → FormsHold table w s → ChangeKept w v s
  add_kept w v s a proper forms =
      let tree = whole w.front in
      subst (λ (x : Window). ChangeKept w x s) (sym a.is)
      (becomes w a.tree (with_name (supply_of w) None) s (subst IsProper a.is (adds_proper w v a proper)) (copy_holds table.arrays (supply_of w) proper.forms_below a.adds proper.names_below s forms)
      (onwards_same table (walked tree s) (walked a.tree s) (marks tree s) (marks a.tree s) (copy_walks table.arrays w.next a.adds proper.names_below s)
      (copy_marks table.arrays w.next base 0 a.adds proper.names_below s)) (copy_tags base w.next a.adds))

  -- a Copy is used
  pub uses_proper : (w v : Window) → UsesCopy w v → IsProper w → IsProper v
  uses_proper w v c p =
      subst IsProper (sym c.is)
      (becomes_proper c.tree (supply_of w) w.limits w.inside (uses (whole w.front)) (use_below w.next c.changes p.names_below) p.forms_below p.room
      (use_scoped c.changes (uses (whole w.front)) p.window.scoped))

  use_kept : (w v : Window) (s : State) → UsesCopy w v → IsProper w → FormsHold table w s → ChangeKept w v s
  use_kept w v s c proper forms =
      let tree = whole w.front in
      let known = uses tree in
      let scoped = proper.window.scoped in
      subst (λ (x : Window). ChangeKept w x s) (sym c.is)
      (becomes w c.tree (supply_of w) s (subst IsProper c.is (uses_proper w v c proper)) (
        forms.0,
        record {
          parameters = λ x used. forms.1.parameters x (parameters_known c.tree known (use_scoped c.changes known scoped) x used);
          defined = use_defined forms.0 w.forms table.arrays c.changes known scoped s forms.1.defined;
        },
      )
      (onwards_same table (walked tree s) (walked c.tree s) (marks tree s) (marks c.tree s) (sym (use_walks table.arrays c.changes known scoped s))
      (sym (use_walks table.arrays (use_marked base 0 c.changes) known (scoped_marked base 0 known tree scoped) s))) (use_tags base c.changes))

  pub change_kept : (w v : Window) (s : State) → OneChange table w v → IsProper w → FormsHold table w s → NeverFaults (follow table (walked (whole w.front) s)) → ChangeKept w v s
  change_kept w v s (unwinds number u) proper forms never =
      let sound = proper_sound w proper in
      let p = unwinds_proper table number w v u proper in
      subst (λ (x : Window). ChangeKept w x s) (sym u.is)
      (becomes w u.unwound.tree u.unwound.names s (subst IsProper u.is p) (unwinds_holds table w.inside number (grafted_of w) u.unwound u.unwinds sound s forms)
      (unwinds_on w.inside number (grafted_of w) u.unwound u.unwinds sound s never) (unwinds_from w.inside number (grafted_of w) u.unwound u.unwinds))
  change_kept w v s (rebases is) proper forms never =
      let tree = whole w.front in
      let p = rebases_proper w v is proper in
      subst (λ (x : Window). ChangeKept w x s) (sym is)
      (becomes w tree (rebased tree (supply_of w)) s (subst IsProper is p) (rebased_holds tree (supply_of w) table.arrays s proper.forms_below proper.names_below forms)
      (onwards_same table (walked tree s) (walked tree s) (marks tree s) (marks tree s) refl refl) (λ h. h))
  change_kept w v s (tidies is) proper forms never =
      let tree = whole w.front in
      let p = tidies_proper w v is proper in
      subst (λ (x : Window). ChangeKept w x s) (sym is)
      (becomes w (tidied tree) (supply_of w) s (subst IsProper is p) (tidied_holds w.forms table.arrays tree s forms)
      (onwards_same table (walked tree s) (walked (tidied tree) s) (marks tree s) (marks (tidied tree) s) ((tidied_tidy table.arrays tree).walks s) (tidied_marks table.arrays base 0 tree s))
      (from_tidied base tree))
  change_kept w v s (moves m) proper forms never = move_kept w v s m proper forms never
  change_kept w v s (opens o) proper forms never = open_kept w v s o proper forms never
  change_kept w v s (adds_copy a) proper forms never = add_kept w v s a proper forms
  change_kept w v s (uses_copy c) proper forms never = use_kept w v s c proper forms
  change_kept w v s (regroups r) proper forms never = record {
    proper = r.proper;
    forms = subst (λ (t : Tree). TreeHolds v.forms table.arrays t s) (sym r.tree) (subst (λ (f : ℕ → Form). TreeHolds f table.arrays (whole w.front) s) (sym r.forms) forms);
    on = onwards_same table (walked (whole w.front) s) (walked (whole v.front) s) (marks (whole w.front) s) (marks (whole v.front) s)
        (ap (λ (t : Tree). walked t s) r.tree) (ap (λ (t : Tree). marks t s) r.tree);
    tags = subst (TagsFrom base) (sym r.tree);
  }

  -- ---- changes one after another

  pub changes_kept : (w v : Window) (s : State) → ChangesTo table w v
      → IsProper w → FormsHold table w s → NeverFaults (follow table (walked (whole w.front) s)) → ChangeKept w v s
  changes_kept w v s (no_change {w = u}) proper forms never = record {
    proper = proper;
    forms = forms;
    on = onwards_same table (walked (whole u.front) s) (walked (whole u.front) s) (marks (whole u.front) s) (marks (whole u.front) s) refl refl;
    tags = λ h. h;
  }
  changes_kept w v s (one_change {w = a} {v = b} {u = c} one more) proper forms never =
      let k = change_kept a b s one proper forms never in
      let l = changes_kept b c s more k.proper k.forms (never_on (whole a.front) (whole b.front) s k.on never) in
      record {
        proper = l.proper;
        forms = l.forms;
        on = onwards_then table (walked (whole a.front) s) (walked (whole b.front) s) (walked (whole c.front) s) (marks (whole a.front) s) (marks (whole b.front) s)
            (marks (whole c.front) s) k.on l.on;
        tags = λ h. l.tags (k.tags h);
      }
