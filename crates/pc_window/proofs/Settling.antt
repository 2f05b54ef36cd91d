-- Opening, rebasing, unwinding and tidying owe what they owe: the run, its pace, and the forms.
use Rattle.std.proofs.Common.{ℕ, Option, sym, subst}
use Rattle.std.specs.Prelude.{Bool}
use Rattle.pc_word.specs.declared.item.Item.{Item}
use Rattle.pc_word.specs.declared.item.Limits.{Limits}
use Rattle.pc_word.specs.Run.{Seen, Answers, Follows, Agree}
use Rattle.pc_word.proofs.Runs.{Answers-refl, Follows-refl, Follows-trans, Agree-trans}
use Rattle.pc_word.specs.State.{State}
use Rattle.pc_linear.specs.Form.{Form}
use Rattle.pc_table.specs.Table.{Table, Next}
use Rattle.pc_table.specs.RegionRun.{region_run}
use Rattle.pc_table.specs.TableKeeps.{TableKeeps}
use Rattle.pc_window.specs.Tree.{Tree, Pending, Undecided, Exit, Stop_exit, Trap_exit, Front, Issued, Split, Unfinished, whole, front_of}
use Rattle.pc_window.specs.Hold.{TreeHolds}
use Rattle.pc_window.specs.WindowRun.{Window, supply_of, tree_run, window_run, free_run}
use Rattle.pc_window.specs.Opening.{Supply, Grafted, first_supply, first_home, opened}
use Rattle.pc_window.proofs.Once.{Sound}
use Rattle.pc_window.specs.Unwinding.{Unwinds, unwinds_no_more, unwinds_once}
use Rattle.pc_window.specs.Tidying.{tidied}
use Rattle.pc_window.specs.Rebasing.{rebased}
use Rattle.pc_window.specs.Jump.{EntersFront, Lands, Lands_renamed, Lands_test, Lands_once, Behind_item, On_yes, On_no}
use Rattle.pc_window.specs.Filled.{Filled, Full, Goes_on}
use Rattle.pc_word.specs.Row.{Row}
use Rattle.pc_window.specs.Kept.{Left, KeepsPace, KeptIn, KeepsWalk, WalkIsKept, WindowKeeps, IsRooted, OpensAlike, HasFront, HasItems}
use Rattle.pc_table.specs.Loops.{innermost_loop}
use Rattle.pc_window.specs.Steps.{window_of, grafted_of, Opens, UnwindsTo, Tidies, Rebases, FillsTo, cut_row, Cuts, IsProper}
use Rattle.pc_window.proofs.Openings.{first_home-below, first_same, opened_agrees, opened_holds}
use Rattle.pc_window.proofs.GraftPaces.{region_pace}
use Rattle.pc_window.proofs.Soundness.{unwound-sound}
use Rattle.pc_window.proofs.Repeated.{once_is, unwinds_agrees, unwinds_holds}
use Rattle.pc_window.proofs.Unwinding.{unwound_is, IsUnwound}
use Rattle.pc_window.proofs.Tidying.{tidied_tidy, tidied_holds}
use Rattle.pc_window.proofs.Rebasing.{rebased_holds}
use Rattle.pc_window.proofs.Paces.{answer_of_answer}
use Rattle.pc_window.proofs.Units.{never_whole, NoSlower, NoSlower-pace, NoSlower-back}
use Rattle.pc_window.proofs.FreeRuns.{free_agrees}
use Rattle.pc_window.proofs.UnwoundPaces.{unwound_pace}
use Rattle.pc_window.specs.Names.{uses}
use Rattle.pc_window.proofs.CutRows.{whole_front_of}
use Rattle.pc_window.proofs.Proper.{proper_sound}
use Rattle.pc_word.specs.Items.{reads}

-- a tree that becomes a window keeps what it keeps as a tree
becomes_kept : (table : Table) (w : Window) (tree : Tree) (names : Supply) (limits : Limits) (inside : Option ℕ) (s : State)
    → KeepsPace (window_run table w s) (tree_run table tree s) → Follows (tree_run table tree s) (window_run table w s) → TreeHolds names.forms table.arrays tree s
    → KeptIn table w (window_of tree names limits inside) s
becomes_kept table w tree names limits inside s pace back holds =
    let same = sym (whole_front_of tree) in
    record {
      pace = subst (λ (t : Tree). KeepsPace (window_run table w s) (tree_run table t s)) same pace;
      back = subst (λ (t : Tree). Follows (tree_run table t s) (window_run table w s)) same back;
      forms = subst (λ (t : Tree). TreeHolds names.forms table.arrays t s) same holds;
    }

-- ---- unwinding

unwinds_pace : (table : Table) → TableKeeps table → (loop : Option ℕ) (window : ℕ) (g k : Grafted) → Unwinds table loop window g k → Sound g → (s : State)
    → KeepsPace (tree_run table g.tree s) (tree_run table k.tree s)
unfolding IsUnwound
unwinds_pace table keeps loop window a b (unwinds_no_more g e) sound s n = Answers-refl (tree_run table g.tree s n)
unwinds_pace table keeps loop window a b (unwinds_once g h k e u) sound s n =
    let at = once_is table loop window g h e in
    answer_of_answer (tree_run table g.tree s n) (tree_run table h.tree s n) (tree_run table k.tree s n)
    (unwound_pace table keeps loop g.names h.names (unwound_is table loop at.least g.names g.tree h at.is) sound.names_below s n)
    (unwinds_pace table keeps loop window h k u (unwound-sound table loop at.least g h at.is sound) s n)

pub unwinds_keep : (table : Table) → TableKeeps table → (number : ℕ) (w v : Window) → UnwindsTo table number w v → IsProper w → WindowKeeps table w v
unwinds_keep table keeps number w v h proper s forms never =
    let g = grafted_of w in
    let sound = proper_sound w proper in
    let free = unwinds_agrees table keeps w.inside number g h.unwound h.unwinds sound s in
    let back = Follows-trans (tree_run table h.unwound.tree s) (free_run table h.unwound.tree s) (window_run table w s) (free_agrees table h.unwound.tree s).forth
    (Follows-trans (free_run table h.unwound.tree s) (free_run table (whole w.front) s) (window_run table w s) free.forth (free_agrees table (whole w.front) s).back) in
    subst (λ (u : Window). KeptIn table w u s) (sym h.is)
    (becomes_kept table w h.unwound.tree h.unwound.names w.limits w.inside s
    (unwinds_pace table keeps w.inside number g h.unwound h.unwinds sound s) back
    (unwinds_holds table w.inside number g h.unwound h.unwinds sound s forms))

-- ---- tidying

pub tidies_keep : (table : Table) (w v : Window) → Tidies w v → WindowKeeps table w v
tidies_keep table w v is s forms never =
    let tree = whole w.front in
    let ok = never_whole table tree s never in
    let t = tidied_tidy table.arrays tree in
    let slower : NoSlower table (Unfinished tree) (Unfinished (tidied tree)) s = record { same = t.walks s; no_longer = t.no_longer s; no_later = t.no_later s } in
    subst (λ (u : Window). KeptIn table w u s) (sym is)
    (becomes_kept table w (tidied tree) (supply_of w) w.limits w.inside s
    (NoSlower-pace table (Unfinished tree) (Unfinished (tidied tree)) s ok slower) (NoSlower-back table (Unfinished tree) (Unfinished (tidied tree)) s ok slower)
    (tidied_holds w.forms table.arrays tree s forms))

-- a tidied window's tree is the tidied tree
pub tidies_keep_walk : (w v : Window) → Tidies w v → WalkIsKept w v
tidies_keep_walk w v is = subst (λ (u : Window). WalkIsKept w u) (sym is)
    (subst (λ (tree : Tree). KeepsWalk w.forms (whole w.front) w.forms tree) (sym (whole_front_of (tidied (whole w.front))))
    (λ lengths s forms ok. ((tidied_tidy lengths (whole w.front)).walks s, tidied_holds w.forms lengths (whole w.front) s forms)))

-- ---- rebasing

pub rebases_keep : (table : Table) (w v : Window) → Rebases w v → IsProper w → WindowKeeps table w v
rebases_keep table w v is proper s forms never =
    let names = supply_of w in
    subst (λ (u : Window). KeptIn table w u s) (sym is)
    (becomes_kept table w (whole w.front) (rebased (whole w.front) names) w.limits w.inside s
    (λ n. Answers-refl (window_run table w s n)) (Follows-refl (window_run table w s)) (rebased_holds (whole w.front) names table.arrays s proper.forms_below proper.names_below forms))

-- ---- opening

-- an opened region is not behind the region
opened_pace : (table : Table) → TableKeeps table → (loop : Option ℕ) (region : ℕ) (s : State)
    → KeepsPace (region_run table (Next region) s) (tree_run table (opened table loop region).tree s)
opened_pace table keeps loop region s n =
    subst (λ (x : Seen). Answers x (tree_run table (opened table loop region).tree s n) x.end) (first_same table keeps region n s)
    (region_pace table keeps loop 0 region first_supply first_home s first_home-below n)

pub opens_alike : (table : Table) → TableKeeps table → (limits : Limits) (region : ℕ) (w : Window) → Opens table limits region w → (s : State) → OpensAlike table region w s
opens_alike table keeps limits region w is s =
    let g = opened table (innermost_loop table region) region in
    let same = sym (whole_front_of g.tree) in
    subst (λ (u : Window). OpensAlike table region u s) (sym is) (record {
      forms = subst (λ (t : Tree). TreeHolds g.names.forms table.arrays t s) same (opened_holds table (innermost_loop table region) region s);
      agree = subst (λ (t : Tree). Agree (tree_run table t s) (region_run table (Next region) s)) same
          (Agree-trans (tree_run table g.tree s) (free_run table g.tree s) (region_run table (Next region) s)
          (free_agrees table g.tree s) (opened_agrees table keeps (innermost_loop table region) region s));
      pace = subst (λ (t : Tree). KeepsPace (region_run table (Next region) s) (tree_run table t s)) same (opened_pace table keeps (innermost_loop table region) region s);
    })

-- ---- fronts

front_of-rooted : (tree : Tree) → IsRooted (front_of tree)
front_of-rooted (Pending tag origin item rest) = tt
front_of-rooted (Undecided tag origin on on_yes on_no) = tt
front_of-rooted (Exit region tag homes) = tt
front_of-rooted Stop_exit = tt
front_of-rooted (Trap_exit kind line) = tt

pub tidies_roots : (w v : Window) → Tidies w v → IsRooted v.front
tidies_roots w v is = subst (λ (u : Window). IsRooted u.front) (sym is) (front_of-rooted (tidied (whole w.front)))

enters_front : (known : ℕ → Bool) (forms forms' : ℕ → Form) (new : Option ℕ) (comes : Option Item) (from to : Front) → EntersFront known forms forms' new comes from to → HasFront to
enters_front known forms forms' new comes from to (Lands tag origin x t left reads isnew none same rises) = tt
enters_front known forms forms' new comes from to (Lands_renamed tag origin name stood t left reads isnew is gives rises) = tt
enters_front known forms forms' new comes from to (Lands_test tag origin on t p q reads none same divides) = tt
enters_front known forms forms' new comes from to (Lands_once t o on tag origin tag' origin' name stood other c c' p q l m equal reads isnew is gives rises rises') = tt
enters_front known forms forms' new comes from to (Behind_item t o y c rest rest' may apart enters) = tt
enters_front known forms forms' new comes from to (On_yes t o on c p q p' apart enters) = tt
enters_front known forms forms' new comes from to (On_no t o on c p q q' apart enters) = tt

filled_front : (known : ℕ → Bool) (w v : Window) → Filled known w v → HasFront w.front → HasFront v.front
filled_front known w v (Full w' none) has = has
filled_front known w v (Goes_on w' v' u jump first filled) has = filled_front known v' u filled (enters_front known w'.forms v'.forms jump.new jump.comes w'.front v'.front jump.enters)

pub fills_front : (w v : Window) → FillsTo w v → HasFront w.front → HasFront v.front
fills_front w v filled has = filled_front (uses (whole w.front)) w v filled has

row_items : (table : Table) (w : Window) (front : Front) → HasFront front → HasItems (cut_row table w front)
row_items table w (Issued tag origin item rest) has = tt
row_items table w (Split tag origin on p q) has = tt
row_items table w (Unfinished rest) has = absurd has

pub cuts_front : (table : Table) (w : Window) (row : Row Left) → Cuts table w row → HasFront w.front → HasItems row
cuts_front table w row is has = subst (λ (r : Row Left). HasItems r) (sym is) (row_items table w w.front has)
