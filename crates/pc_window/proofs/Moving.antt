-- Moves anywhere in a window keep the walk and its forms.
use Rattle.std.proofs.Common.{◌≡◌, ℕ, Bool, true, false, List, [], ◌∷◌, Option, Some, None, refl, sym, ◌∙◌, ap, subst, drop, arith}
use Rattle.std.specs.Prelude.{ℤ, ◌||◌, nat_eq}
use Rattle.pc_word.specs.declared.item.Item.{Item}
use Rattle.pc_word.specs.declared.item.Item.TheVariants.{Bin, Copy, Load, Store, Print, Read, More}
use Rattle.pc_word.specs.declared.item.MachineFault.{MachineFault}
use Rattle.pc_word.specs.Word.{holds}
use Rattle.std.proofs.lemmas.Bool.{eqb-true}
use Rattle.pc_word.specs.State.{State}
use Rattle.pc_word.specs.Items.{operand_value, dest_of, value_of}
use Rattle.pc_word.specs.Commit.{stores_of, prints_of, reads_of, fault_of, writes, cells_after}
use Rattle.pc_window.specs.Tree.{Tree}
use Rattle.pc_window.specs.Walk.{Walked, Leaves, Finishes, IsWhole, printing, unless_fault, after_item, walk}
use Rattle.pc_linear.specs.Form.{Form, Means}
use Rattle.pc_window.specs.Hold.{DefinedHold, KnownHold}
use Rattle.pc_window.specs.Names.{IsNew, and_dest, Scoped, uses, NotWritten}
use Rattle.pc_window.specs.Move.{is_deletable, IsUnused, Moves, Into_node, Deletes, Below, On_yes_side, On_no_side}
use Rattle.pc_window.proofs.Undisturbed.{operand-after, new-known}
use Rattle.pc_window.proofs.Renaming.{SameWalk, agreed-walks}
use Rattle.pc_window.proofs.Rising.{Begins-none, SameForms, writes_carried, forms_carried, known_forms_after, whole_below}
use Rattle.pc_window.proofs.Entering.{Outcome, Entered, entered, entered_forms, outcome_at_test}
use Rattle.pc_window.proofs.Scopes.{scoped_entered, enters_new}
use Rattle.pc_window.proofs.Parameters.{scoped_fewer, parameters_known}
use Rattle.pc_window.specs.Laws.{MovesKeep}

-- ---- deleting

-- what is deleted does nothing but write its name
pub record OnlyWrites (lengths : List ℕ) (s : State) (x : Item) : Type 0 where
  pub fault : fault_of lengths s (x ∷ []) ≡ None
  pub prints : prints_of s (x ∷ []) ≡ []
  pub stores : stores_of lengths s (x ∷ []) ≡ []
  pub reads : reads_of (x ∷ []) ≡ 0

only_writes : (lengths : List ℕ) (s : State) (x : Item) → is_deletable x ≡ true → OnlyWrites lengths s x
only_writes lengths s (Bin op d l r) is = record { fault = refl; prints = refl; stores = refl; reads = refl }
only_writes lengths s (Copy d f) is = absurd (cc)
only_writes lengths s (Load d a i) is = record { fault = refl; prints = refl; stores = refl; reads = refl }
only_writes lengths s (Store a i v) is = absurd (cc)
only_writes lengths s (Print v) is = absurd (cc)
only_writes lengths s (Read d) is = absurd (cc)
only_writes lengths s (More d) is = record { fault = refl; prints = refl; stores = refl; reads = refl }

-- without the unused name the rest is scoped
pub scoped_deleted : (known : ℕ → Bool) (x : Item) (rest : Tree) → Scoped (and_dest known x) rest → IsUnused (dest_of x) rest → Scoped known rest
scoped_deleted known x rest scoped unused =
    scoped_fewer rest known (and_dest known x) (λ z e. or_comes (writes (dest_of x) z) (known z) e)
    (λ z e. other (dest_of x) z unused e (parameters_known rest (and_dest known x) scoped z e)) scoped
  where
    or_comes : (a b : Bool) → b ≡ true → (a || b) ≡ true
    or_comes true b e = refl
    or_comes false b e = e

    other : (d : Option ℕ) (z : ℕ) → IsUnused d rest → uses rest z ≡ true → (writes d z || known z) ≡ true → known z ≡ true
    other None z u e h = h
    other (Some n) z u e h = elim (nat_eq n z) as (λ b. nat_eq n z ≡ b → (b || known z) ≡ true → known z ≡ true) [
      | true ↦ λ k g. absurd (let same : n ≡ z = eqb-true n z k in let m : uses rest z ≡ false = sym (ap (uses rest) same) ∙ u in cc)
      | false ↦ λ k g. g
    ] refl h

printing_nothing : (w : Walked) → w ≡ printing [] w
printing_nothing (Leaves p region t) = refl
printing_nothing (Finishes p end) = refl

-- ---- anywhere

abbrev pub Moved : List ℕ → (ℕ → ℤ) → (ℕ → Form) → (ℕ → Form) → Option ℕ → Tree → Tree → State → Type 0
Moved lengths σ forms forms' new from to s =
    Outcome σ forms forms' new (walk lengths from s) (walk lengths to s) (λ values. DefinedHold values forms' lengths to s) 0 0 (λ n. []) (λ n. [])

moves_forms : (forms forms' : ℕ → Form) (new : Option ℕ) (known : ℕ → Bool) (from to : Tree)
    → Moves forms forms' new known from to → (y : ℕ) → writes new y ≡ false → forms' y ≡ forms y
moves_forms forms forms' new known from to (Into_node k c f g enters) y d = entered_forms k forms forms' new c f g enters y d
moves_forms forms forms' new known from to (Deletes k tag origin x rest is unused none same) y d = ap (λ (f : ℕ → Form). f y) same
moves_forms forms forms' new known from to (Below k t o z rest rest' apart moves) y d = moves_forms forms forms' new (and_dest k z) rest rest' moves y d
moves_forms forms forms' new known from to (On_yes_side k t o on p q p' apart moves) y d = moves_forms forms forms' new k p p' moves y d
moves_forms forms forms' new known from to (On_no_side k t o on p q q' apart moves) y d = moves_forms forms forms' new k q q' moves y d

untouched : (lengths : List ℕ) (σ : ℕ → ℤ) (forms forms' : ℕ → Form) (new : Option ℕ) (side : Tree) (s : State)
    → ((y : ℕ) → writes new y ≡ false → forms' y ≡ forms y) → NotWritten new side
    → DefinedHold σ forms lengths side s → Moved lengths σ forms forms' new side side s
untouched lengths σ forms forms' new side s same apart d =
    record {
      values = σ;
      same_forms = λ y e v m. subst (λ (f : Form). Means σ f v) (sym (same y e)) m;
      still = record {
        same = refl;
        defines = forms_carried lengths new σ forms σ forms' (λ y e v m. subst (λ (f : Form). Means σ f v) (sym (same y e)) m) side s apart
            d;
        no_longer = omega arith;
        no_later = λ n. Begins-none [];
      };
    }

pub moved : (lengths : List ℕ) (σ : ℕ → ℤ) (forms forms' : ℕ → Form) (new : Option ℕ) (known : ℕ → Bool) (from to : Tree) (s : State)
    → Moves forms forms' new known from to → Scoped known from → KnownHold known σ forms s → DefinedHold σ forms lengths from s → IsWhole (walk lengths from s)
    → Moved lengths σ forms forms' new from to s
moved lengths σ forms forms' new known from to s (Into_node k c f g enters) scoped holds' defines ok =
    let e : Entered lengths σ forms forms' new f g s = entered lengths k σ forms forms' new k c f g s enters
    (record { within = λ x h. h; scoped = scoped; new = (enters_new k forms forms' new c f g enters).0; of_known = holds'; defines = defines }) ok in
    record { values = e.values; same_forms = e.same_forms; still = record { same = e.still.same; defines = e.still.defines; no_longer = omega arith; no_later = λ n. Begins-none [] } }
moved lengths σ forms forms' new known from to s (Deletes k tag origin x rest is unused none same) scoped holds' defines ok =
    let w : OnlyWrites lengths s x = only_writes lengths s x is in
    let agreed : SameWalk lengths rest s rest (after_item lengths x s) = agreed-walks lengths k rest s (after_item lengths x s) (scoped_deleted k x rest scoped.2 unused)
    (record { operands = λ o h. operand-after lengths k x s o scoped.1 h; cells = ap (cells_after s.cells) w.stores; input = ap (λ (n : ℕ). drop n s.input) w.reads }) in
    let turned : SameWalk lengths rest (after_item lengths x s) rest s = agreed-walks lengths k rest (after_item lengths x s) s (scoped_deleted k x rest scoped.2 unused)
    (record { operands = λ o h. sym (operand-after lengths k x s o scoped.1 h); cells = sym (ap (cells_after s.cells) w.stores); input = sym (ap (λ (n : ℕ). drop n s.input) w.reads) }) in
    record {
      values = σ;
      same_forms = λ y d v m. subst (λ (f : ℕ → Form). Means σ (f y) v) (sym same) m;
      still = record {
        same = sym agreed.same ∙ printing_nothing (walk lengths rest (after_item lengths x s))
            ∙ sym (ap (λ (p : List ℤ). printing p (walk lengths rest (after_item lengths x s))) w.prints)
            ∙ sym (ap (λ (f : Option MachineFault). unless_fault f (printing (prints_of s (x ∷ [])) (walk lengths rest (after_item lengths x s)))) w.fault);
        defines = turned.forms σ forms' (subst (λ (f : ℕ → Form). DefinedHold σ f lengths rest (after_item lengths x s)) (sym same) defines.1);
        no_longer = omega arith;
        no_later = λ n. Begins-none [];
      };
    }
moved lengths σ forms forms' new known from to s (Below k t o y rest rest' apart moves) scoped holds' defines ok =
    let w : Moved lengths σ forms forms' new rest rest' (after_item lengths y s) = moved lengths σ forms forms' new (and_dest k y) rest rest' (after_item lengths y s) moves scoped.2
    (known_forms_after lengths k σ forms y s holds' defines.0) defines.1 (whole_below (fault_of lengths s (y ∷ [])) (prints_of s (y ∷ [])) (walk lengths rest (after_item lengths y s)) ok) in
    record {
      values = w.values;
      same_forms = w.same_forms;
      still = record {
        same = ap (λ (u : Walked). unless_fault (fault_of lengths s (y ∷ [])) (printing (prints_of s (y ∷ [])) u)) w.still.same;
        defines = (writes_carried new σ forms w.values forms' w.same_forms (dest_of y) (value_of lengths s y) apart defines.0, w.still.defines);
        no_longer = omega arith;
        no_later = λ n. Begins-none [];
      };
    }
moved lengths σ forms forms' new known from to s (On_yes_side k t o on p q p' apart moves) scoped holds' defines ok =
    pass (outcome_at_test σ forms forms' new (holds (operand_value s.names on)) (walk lengths p s) (walk lengths q s) (walk lengths p' s) (walk lengths q s)
    (DefinedHold σ forms lengths p s) (DefinedHold σ forms lengths q s) (λ v. DefinedHold v forms' lengths p' s)
    (λ v. DefinedHold v forms' lengths q s) 0 0 0 0 (λ n. []) (λ n. []) (λ n. []) (λ n. [])
    (λ ok' d. moved lengths σ forms forms' new k p p' s moves scoped.1 holds' d ok')
    (λ ok' d. untouched lengths σ forms forms' new q s (moves_forms forms forms' new k p p' moves) apart d) ok defines)
  where
    pass : {v w : Walked} {D : (ℕ → ℤ) → Type 0} {l m : ℕ} {p q : ℕ → List ℤ}
        → Outcome σ forms forms' new v w D l m p q → Outcome σ forms forms' new v w D 0 0 (λ n. []) (λ n. [])
    pass h = record { values = h.values; same_forms = h.same_forms; still = record { same = h.still.same; defines = h.still.defines; no_longer = omega arith; no_later = λ n. Begins-none [] } }
moved lengths σ forms forms' new known from to s (On_no_side k t o on p q q' apart moves) scoped holds' defines ok =
    pass (outcome_at_test σ forms forms' new (holds (operand_value s.names on)) (walk lengths p s) (walk lengths q s) (walk lengths p s) (walk lengths q' s)
    (DefinedHold σ forms lengths p s) (DefinedHold σ forms lengths q s) (λ v. DefinedHold v forms' lengths p s)
    (λ v. DefinedHold v forms' lengths q' s) 0 0 0 0 (λ n. []) (λ n. []) (λ n. []) (λ n. [])
    (λ ok' d. untouched lengths σ forms forms' new p s (moves_forms forms forms' new k q q' moves) apart d)
    (λ ok' d. moved lengths σ forms forms' new k q q' s moves scoped.2 holds' d ok') ok defines)
  where
    pass : {v w : Walked} {D : (ℕ → ℤ) → Type 0} {l m : ℕ} {p q : ℕ → List ℤ}
        → Outcome σ forms forms' new v w D l m p q → Outcome σ forms forms' new v w D 0 0 (λ n. []) (λ n. [])
    pass h = record { values = h.values; same_forms = h.same_forms; still = record { same = h.still.same; defines = h.still.defines; no_longer = omega arith; no_later = λ n. Begins-none [] } }

-- and names stay as they must be
pub scoped_moved : (forms forms' : ℕ → Form) (new : Option ℕ) (known : ℕ → Bool) (from to : Tree)
    → Moves forms forms' new known from to → Scoped known from → Scoped known to
scoped_moved forms forms' new known from to (Into_node k c f g enters) scoped =
    scoped_entered k forms forms' new k c f g enters (λ x h. h) (enters_new k forms forms' new c f g enters).0 scoped
scoped_moved forms forms' new known from to (Deletes k tag origin x rest is unused none same) scoped = scoped_deleted k x rest scoped.2 unused
scoped_moved forms forms' new known from to (Below k t o y rest rest' apart moves) scoped = (scoped.0, scoped.1, scoped_moved forms forms' new (and_dest k y) rest rest' moves scoped.2)
scoped_moved forms forms' new known from to (On_yes_side k t o on p q p' apart moves) scoped = (scoped.0, scoped_moved forms forms' new k p p' moves scoped.1, scoped.2)
scoped_moved forms forms' new known from to (On_no_side k t o on p q q' apart moves) scoped = (scoped.0, scoped.1, scoped_moved forms forms' new k q q' moves scoped.2)

-- ---- the law

known_kept : (known : ℕ → Bool) (σ : ℕ → ℤ) (forms : ℕ → Form) (σ' : ℕ → ℤ) (forms' : ℕ → Form) (new : Option ℕ) (s : State)
    → IsNew known new → SameForms new σ forms σ' forms' → KnownHold known σ forms s → KnownHold known σ' forms' s
known_kept known σ forms σ' forms' new s isnew same h x is = same x (new-known known new x isnew is) (s.names x) (h x is)

pub moves_keep : MovesKeep
moves_keep forms forms' new known from to moves isnew scoped = (
  scoped_moved forms forms' new known from to moves scoped,
  λ lengths σ s hold ok. let m : Moved lengths σ forms forms' new from to s = moved lengths σ forms forms' new known from to s moves scoped hold.parameters hold.defined ok in
      (m.still.same, m.values, record { parameters = known_kept known σ forms m.values forms' new s isnew m.same_forms hold.parameters; defined = m.still.defines }),
)
