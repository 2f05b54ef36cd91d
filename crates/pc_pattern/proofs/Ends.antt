-- Where a window leads without a test, and what it uses, after it was unwound and tidied.
use Rattle.std.proofs.Common.{◌≡◌, ℕ, Option, Some, None, ◌⊎◌, inl, inr, refl, sym, ◌∙◌, ap}
use Rattle.std.specs.Prelude.{Bool, true, false, if◌then◌else◌}
use Rattle.pc_word.specs.declared.item.Item.{Item}
use Rattle.pc_word.specs.declared.item.Item.TheVariants.{Bin, Copy, Load, Store, Print, Read, More}
use Rattle.pc_word.specs.declared.item.Limits.{Limits}
use Rattle.pc_table.specs.Table.{TableTree, Table, region_tree}
use Rattle.pc_table.specs.TableKeeps.{untested, ComesUntested, By_one, By_more}
use Rattle.pc_window.specs.Tree.{Tree, Pending, Undecided, Exit, Stop_exit, Trap_exit, whole}
use Rattle.pc_window.specs.Names.{uses}
use Rattle.pc_window.specs.Opening.{Supply, Grafted, opened, first_supply, first_home}
use Rattle.pc_window.specs.Unwinding.{Unwinds, unwinds_no_more, unwinds_once}
use Rattle.pc_window.specs.Tidying.{above, tidied}
use Rattle.pc_window.specs.WindowRun.{Window}
use Rattle.pc_table.specs.Loops.{innermost_loop}
use Rattle.pc_window.specs.Steps.{opened_window, UnwindsTo, IsProper}
use Rattle.pc_window.proofs.CutRows.{whole_front_of}
use Rattle.pc_window.proofs.Proper.{proper_sound}
use Rattle.pc_window.proofs.Once.{Sound}
use Rattle.pc_window.proofs.Soundness.{unwound-sound}
use Rattle.pc_window.proofs.Unwinding.{IsUnwound, unwound_is, unwound-uses}
use Rattle.pc_unwind.proofs.Bringing.{Brings, brings_none, brings_item, brings_test, brings_stub, brings_stop, brings_trap, graft_brings}
use Rattle.pc_unwind.proofs.Reaching.{once_is}
use Rattle.pc_unwind.proofs.Replaced.{Replaced, at_stub, below, at_yes, at_no, replaced_at}

-- the region to which a tree leads that has no test
abbrev pub ends_in : Tree → Option ℕ
ends_in (Pending tag origin item rest) = ends_in rest
ends_in (Undecided tag origin on on_yes on_no) = None
ends_in (Exit region tag homes) = Some region
ends_in Stop_exit = None
ends_in (Trap_exit kind line) = None

-- ---- tidying

kept_ends : (b : Bool) (tag origin : ℕ) (item : Item) (rest : Tree) → ends_in (if b then Pending tag origin item rest else rest) ≡ ends_in rest
kept_ends true tag origin item rest = refl
kept_ends false tag origin item rest = refl

above_ends : (tag origin : ℕ) (item : Item) (rest : Tree) → ends_in (above tag origin item rest) ≡ ends_in rest
above_ends tag origin (Bin op d l r) rest = kept_ends (uses rest d) tag origin (Bin op d l r) rest
above_ends tag origin (Copy d from) rest = refl
above_ends tag origin (Load d a i) rest = kept_ends (uses rest d) tag origin (Load d a i) rest
above_ends tag origin (Store a i v) rest = refl
above_ends tag origin (Print v) rest = refl
above_ends tag origin (Read d) rest = refl
above_ends tag origin (More d) rest = kept_ends (uses rest d) tag origin (More d) rest

-- a tidied tree leads where it led
pub tidied_ends : (tree : Tree) → ends_in (tidied tree) ≡ ends_in tree
tidied_ends (Pending tag origin item rest) = above_ends tag origin item (tidied rest) ∙ tidied_ends rest
tidied_ends (Undecided tag origin on on_yes on_no) = refl
tidied_ends (Exit region tag homes) = refl
tidied_ends Stop_exit = refl
tidied_ends (Trap_exit kind line) = refl

-- ---- opening and unwinding

module _ (table : Table) (loop : Option ℕ) where
  brought_ends : {tag : ℕ} {from : TableTree} {old new : Supply} {tree : Tree} → Brings table loop tag from old tree new → ends_in tree ≡ untested from
  brought_ends (brings_none origin dest from brings) = brought_ends brings
  brought_ends (brings_item origin item given size array grows brings) = brought_ends brings
  brought_ends (brings_test origin on at one other) = refl
  brought_ends (brings_stub region homes names) = refl
  brought_ends (brings_stop names) = refl
  brought_ends (brings_trap kind line names) = refl

  -- where a stub was replaced, a tree leads where it led, or where the stub's region leads
  replaced_ends : {tag : ℕ} {old new : Supply} {tree later : Tree} (to : ℕ) → Replaced table loop tag old new tree later → ends_in later ≡ Some to
      → (ends_in tree ≡ Some to) ⊎ ((mid : ℕ) × (ends_in tree ≡ Some mid) × (untested (region_tree table mid) ≡ Some to))
  replaced_ends to (at_stub region homes inside brings) e = inr (region, refl, sym (brought_ends brings) ∙ e)
  replaced_ends to (below t o item replaced) e = replaced_ends to replaced e
  replaced_ends to (at_yes t o on other replaced) e = absurd (cc)
  replaced_ends to (at_no t o on one replaced) e = absurd (cc)

  module _ (number region : ℕ) where
    -- a tree leads only where the region leads without a test
    abbrev LeadsOn : Tree → Type 0
    LeadsOn tree = (to : ℕ) → ends_in tree ≡ Some to → ComesUntested table region to

    unwound_leads : {g k : Grafted} → Unwinds table loop number g k → LeadsOn g.tree → LeadsOn k.tree
    unwound_leads (unwinds_no_more g none) leads = leads
    unwound_leads (unwinds_once g h k is unwinds) leads =
        let once = once_is table loop number g h is in
        let replaced = replaced_at table loop once.tag g.names g.tree h once.unwound in
        unwound_leads unwinds (λ to e. elim (replaced_ends to replaced e) [
          | inl old ↦ leads to old
          | inr new ↦ By_more (leads new.0 new.1) new.2
        ])

    -- what is used after unwinding was used before
    unwound_fewer : {g k : Grafted} → Unwinds table loop number g k → Sound g → (x : ℕ) → uses k.tree x ≡ true → uses g.tree x ≡ true
    unfolding IsUnwound
    unwound_fewer (unwinds_no_more g none) sound x used = used
    unwound_fewer (unwinds_once g h k is unwinds) sound x used =
        let once = once_is table loop number g h is in
        unwound-uses table loop g.names h.names sound.forms_below (unwound_is table loop once.tag g.names g.tree h once.unwound) x
        (unwound_fewer unwinds (unwound-sound table loop once.tag g h once.unwound sound) x used)

-- an opened window that was unwound leads without a test only where its region does
pub unwound_untested : (table : Table) (limits : Limits) (number region to : ℕ) (v : Window) → UnwindsTo table number (opened_window table limits region) v
    → ends_in (whole v.front) ≡ Some to → ComesUntested table region to
unwound_untested table limits number region to v unwinds e =
    let loop = innermost_loop table region in
    let tree = (opened table loop region).tree in
    let same : ends_in (whole (opened_window table limits region).front) ≡ untested (region_tree table region) =
    ap ends_in (whole_front_of tree) ∙ brought_ends table loop (graft_brings table loop 0 (region_tree table region) first_supply first_home) in
    unwound_leads table loop number region unwinds.unwinds (λ to' e'. By_one (sym same ∙ e')) to
    (sym (ap ends_in (ap (λ (u : Window). whole u.front) unwinds.is ∙ whole_front_of unwinds.unwound.tree)) ∙ e)

-- a proper window uses no more once it was unwound
pub unwinds_fewer : (table : Table) (number x : ℕ) (w v : Window) → UnwindsTo table number w v → IsProper w
    → uses (whole v.front) x ≡ true → uses (whole w.front) x ≡ true
unwinds_fewer table number x w v unwinds proper used =
    unwound_fewer table w.inside number 0 unwinds.unwinds (proper_sound w proper) x
    (sym (ap (λ (t : Tree). uses t x) (ap (λ (u : Window). whole u.front) unwinds.is ∙ whole_front_of unwinds.unwound.tree)) ∙ used)
