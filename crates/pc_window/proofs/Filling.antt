-- Filling keeps what it must: the run where fronts cost nothing, its pace, and the forms.
use Rattle.std.proofs.Common.{◌≡◌, ℕ, Option, refl, sym, ◌∙◌, subst, arith}
use Rattle.std.specs.Prelude.{ℤ, Bool, true, false, List, []}
use Rattle.pc_word.specs.declared.item.Item.{Item}
use Rattle.pc_word.specs.declared.item.Limits.{Limits}
use Rattle.pc_word.specs.declared.item.Operand.{Operand}
use Rattle.pc_word.proofs.Runs.{Begins-refl, Begins-trans}
use Rattle.pc_word.specs.State.{State}
use Rattle.pc_linear.specs.Form.{Form}
use Rattle.pc_table.specs.Table.{Table}
use Rattle.pc_window.specs.Tree.{Tree, Front, whole}
use Rattle.pc_window.specs.Names.{uses, IsNew}
use Rattle.pc_window.specs.Walk.{IsWhole, walk}
use Rattle.pc_window.proofs.Shown.{front_shown}
use Rattle.pc_window.specs.Hold.{KnownHold, HoldFor}
use Rattle.pc_window.specs.WindowRun.{Window}
use Rattle.pc_window.specs.Jump.{Rises, Root, Past_item, Past_yes, Past_no, DividesTree, Root_test, Past, EntersFront, Lands, Lands_renamed, Lands_test, Lands_once, Behind_item, On_yes, On_no}
use Rattle.pc_window.specs.Filled.{WithinLimits, IsWindow, Jump, Filled, Full, Goes_on}
use Rattle.pc_window.specs.Kept.{IsBare, FillKeeps, WalkIsKept}
use Rattle.pc_window.specs.Steps.{FillsTo, IsProper}
use Rattle.pc_window.proofs.Undisturbed.{new-known}
use Rattle.pc_window.proofs.Rising.{SameForms}
use Rattle.pc_window.proofs.Entering.{Entered, entered}
use Rattle.pc_window.proofs.Scopes.{scoped_entered, enters_new}
use Rattle.pc_window.proofs.Fronts.{independent_entered, within_entered}
use Rattle.pc_window.proofs.Parameters.{parameters_known}
use Rattle.pc_window.proofs.Units.{never_whole, NoSlower, NoSlower-pace, NoSlower-back}
use Rattle.pc_word.specs.Items.{reads}

-- ---- jumps

-- from a state where the walk is no fault, the second window is no slower than the first, and its forms hold
pub record SameFrom (table : Table) (known : ℕ → Bool) (w v : Window) (s : State) : Type 0 where
  pub values : ℕ → ℤ
  pub slower : NoSlower table w.front v.front s
  pub holds : HoldFor known values v.forms table.arrays (whole v.front) s

abbrev pub WalksOn : Table → (ℕ → Bool) → Window → Window → Type 0
WalksOn table known w v = (σ : ℕ → ℤ) (s : State) → HoldFor known σ w.forms table.arrays (whole w.front) s → IsWhole (walk table.arrays (whole w.front) s) → SameFrom table known w v s

-- known names keep the values of their forms where all forms but a new name's do
known_kept : (known : ℕ → Bool) (σ : ℕ → ℤ) (forms : ℕ → Form) (σ' : ℕ → ℤ) (forms' : ℕ → Form) (new : Option ℕ) (s : State)
    → IsNew known new → SameForms new σ forms σ' forms' → KnownHold known σ forms s → KnownHold known σ' forms' s
known_kept known σ forms σ' forms' new s isnew same h x is = same x (new-known known new x isnew is) (s.names x) (h x is)

jump_walks : (table : Table) (known : ℕ → Bool) (w v : Window) → Jump known w v → IsWindow known w → WalksOn table known w v
jump_walks table known w v jump is σ s hold ok =
    let isnew = enters_new known w.forms v.forms jump.new jump.comes w.front v.front jump.enters in
    let e : Entered table.arrays σ w.forms v.forms jump.new w.front v.front s =
    entered table.arrays known σ w.forms v.forms jump.new known jump.comes w.front v.front s jump.enters
    (record { within = λ x k. k; scoped = is.scoped; new = isnew.0; of_known = hold.parameters; defines = hold.defined }) ok in
    record {
      values = e.values;
      slower = record { same = e.still.same; no_longer = e.still.no_longer; no_later = e.still.no_later };
      holds = record { parameters = known_kept known σ w.forms e.values v.forms jump.new s isnew.1 e.same_forms hold.parameters; defined = e.still.defines };
    }

pub jump_window : (known : ℕ → Bool) (w v : Window) → Jump known w v → IsWindow known w → IsWindow known v
jump_window known w v jump is = record {
  scoped = scoped_entered known w.forms v.forms jump.new known jump.comes w.front v.front jump.enters (λ x k. k)
      (enters_new known w.forms v.forms jump.new jump.comes w.front v.front jump.enters).0 is.scoped;
  independent = independent_entered known w.forms v.forms jump.new jump.comes w.front v.front jump.enters is.independent;
  within = subst (λ (l : Limits). WithinLimits l v.front) (sym jump.limits)
      (within_entered known w.forms v.forms jump.new w.limits jump.comes w.front v.front jump.enters jump.room is.within);
}

-- ---- filling

keeps_nothing : (table : Table) (known : ℕ → Bool) (w : Window) → WalksOn table known w w
keeps_nothing table known w σ s hold ok = record { values = σ; slower = record { same = refl; no_longer = omega arith; no_later = λ n. Begins-refl _ }; holds = hold }

keeps_both : (table : Table) (known : ℕ → Bool) (w v u : Window) → WalksOn table known w v → WalksOn table known v u → WalksOn table known w u
keeps_both table known w v u first second σ s hold ok =
    let a : SameFrom table known w v s = first σ s hold ok in
    let b : SameFrom table known v u s = second a.values s a.holds (subst IsWhole (sym a.slower.same) ok) in
    record {
      values = b.values;
      slower = record {
        same = b.slower.same ∙ a.slower.same;
        no_longer = let p = a.slower.no_longer in let q = b.slower.no_longer in omega arith;
        no_later = λ n. Begins-trans (front_shown table.arrays w.front s n) (front_shown table.arrays v.front s n) (front_shown table.arrays u.front s n) (a.slower.no_later n) (b.slower.no_later n);
      };
      holds = b.holds;
    }

pub filling_walks : (table : Table) (known : ℕ → Bool) (w v : Window) → Filled known w v → IsWindow known w → IsWindow known v × WalksOn table known w v
filling_walks table known w v (Full w' none) is = (is, keeps_nothing table known w')
filling_walks table known w v (Goes_on w' v' u jump first filled) is =
    let a = filling_walks table known v' u filled (jump_window known w' v' jump is) in
    (a.0, keeps_both table known w' v' u (jump_walks table known w' v' jump is) a.1)

pub filling_window : (known : ℕ → Bool) (w v : Window) → Filled known w v → IsWindow known w → IsWindow known v
filling_window known w v (Full w' none) is = is
filling_window known w v (Goes_on w' v' u jump first filled) is = filling_window known v' u filled (jump_window known w' v' jump is)

pub filling_limits : (known : ℕ → Bool) (w v : Window) → Filled known w v → v.limits ≡ w.limits
filling_limits known w v (Full w' none) = refl
filling_limits known w v (Goes_on w' v' u jump first filled) = filling_limits known v' u filled ∙ jump.limits

-- ---- nothing comes out of a window without items and tests

pub rises_bare : (forms : ℕ → Form) (tag origin : ℕ) (stood x : Item) (crosses : Bool) (from left : Tree) → Rises forms tag origin stood x crosses from left → IsBare from → ⊥
rises_bare forms tag origin stood x crosses from left (Root rest unwritten) bare = bare
rises_bare forms tag origin stood x crosses from left (Past_item t o y c rest left' clear apart rises) bare = bare
rises_bare forms tag origin stood x crosses from left (Past_yes t o on c p q left' is unwritten rises) bare = bare
rises_bare forms tag origin stood x crosses from left (Past_no t o on c p q left' is unwritten rises) bare = bare

pub divides_bare : (tag origin : ℕ) (on : Operand) (from p q : Tree) → DividesTree tag origin on from p q → IsBare from → ⊥
divides_bare tag origin on from p q (Root_test p' q') bare = bare
divides_bare tag origin on from p q (Past t o y rest p' q' divides) bare = bare

pub enters_bare : (known : ℕ → Bool) (forms forms' : ℕ → Form) (new : Option ℕ) (comes : Option Item) (from to : Front)
    → EntersFront known forms forms' new comes from to → IsBare (whole from) → ⊥
enters_bare known forms forms' new comes from to (Lands tag origin x t left reads isnew none same rises) bare = rises_bare forms tag origin x x false t left rises bare
enters_bare known forms forms' new comes from to (Lands_renamed tag origin name stood t left reads isnew is gives rises) bare = rises_bare forms tag origin stood _ true t left rises bare
enters_bare known forms forms' new comes from to (Lands_test tag origin on t p q reads none same divides) bare = divides_bare tag origin on t p q divides bare
enters_bare known forms forms' new comes from to (Lands_once t o on tag origin tag' origin' name stood other c c' p q l m equal reads isnew is gives rises rises') bare = bare
enters_bare known forms forms' new comes from to (Behind_item t o y c rest rest' may apart enters) bare = bare
enters_bare known forms forms' new comes from to (On_yes t o on c p q p' apart enters) bare = bare
enters_bare known forms forms' new comes from to (On_no t o on c p q q' apart enters) bare = bare

filled_bare : (known : ℕ → Bool) (w v : Window) → Filled known w v → IsBare (whole w.front) → IsBare (whole v.front)
filled_bare known w v (Full w' none) bare = bare
filled_bare known w v (Goes_on w' v' u jump first filled) bare = absurd (enters_bare known w'.forms v'.forms jump.new jump.comes w'.front v'.front jump.enters bare)

-- ---- what filling owes

pub fills_keep : (table : Table) (w v : Window) → FillsTo w v → IsProper w → FillKeeps table w v
fills_keep table w v filled proper s forms never =
    let known = uses (whole w.front) in
    let ok = never_whole table (whole w.front) s never in
    let f = filling_walks table known w v filled proper.window in
    let k : SameFrom table known w v s = f.1 forms.0 s forms.1 ok in
    record {
      pace = NoSlower-pace table w.front v.front s ok k.slower;
      back = NoSlower-back table w.front v.front s ok k.slower;
      forms = (k.values, record { parameters = λ x u. k.holds.parameters x (parameters_known (whole v.front) known f.0.scoped x u); defined = k.holds.defined });
      bare = filled_bare known w v filled;
    }

-- a table that has arrays of these lengths, and nothing else
abbrev with_arrays : List ℕ → Table
with_arrays lengths = record { regions = []; loops = []; arrays = lengths }

-- the parameters of what was filled are known, and so forms hold there as well
pub fills_keep_walk : (w v : Window) → FillsTo w v → IsProper w → WalkIsKept w v
fills_keep_walk w v filled proper lengths s forms ok =
    let known = uses (whole w.front) in
    let f = filling_walks (with_arrays lengths) known w v filled proper.window in
    let k : SameFrom (with_arrays lengths) known w v s = f.1 forms.0 s forms.1 ok in
    (k.slower.same, (k.values, record { parameters = λ x u. k.holds.parameters x (parameters_known (whole v.front) known f.0.scoped x u); defined = k.holds.defined }))
