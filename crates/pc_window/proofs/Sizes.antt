-- How many items and tests stand behind the front, and in it, as filling goes on.
use Rattle.std.proofs.Common.{◌≡◌, ℕ, suc, ◌+◌, ◌<◌, Bool, Option, Some, None, refl, ap, arith}
use Rattle.pc_word.specs.declared.item.Item.{Item}
use Rattle.pc_word.specs.declared.item.Operand.{Operand}
use Rattle.pc_window.specs.Tree.{Tree, Pending, Undecided, Exit, Stop_exit, Trap_exit, Front, tree_size}
use Rattle.pc_linear.specs.Form.{Form}
use Rattle.pc_window.specs.Rename.{mapped}
use Rattle.pc_window.specs.Jump.{Rises, Root, Past_item, Past_yes, Past_no, DividesTree, Root_test, Past, EntersFront, Lands, Lands_renamed, Lands_test, Lands_once, Behind_item, On_yes, On_no}
use Rattle.pc_window.specs.Filled.{item_count, test_count, Full, Goes_on, MostBehind, front_size}
use Rattle.pc_window.specs.Laws.{JumpsFillTheFront, FillingIsBounded}
use Rattle.pc_window.proofs.Fronts.{one_item, one_test, counted}
use Rattle.pc_word.specs.Items.{reads}

pub size_mapped : (f : Operand → Operand) (tree : Tree) → tree_size (mapped f tree) ≡ tree_size tree
size_mapped f (Pending t o x rest) = ap suc (size_mapped f rest)
size_mapped f (Undecided t o on p q) = let a = size_mapped f p in let b = size_mapped f q in omega arith
size_mapped f (Exit region tag homes) = refl
size_mapped f Stop_exit = refl
size_mapped f (Trap_exit kind line) = refl

size_risen : (forms : ℕ → Form) (tag origin : ℕ) (stood x : Item) (crosses : Bool) (from left : Tree)
    → Rises forms tag origin stood x crosses from left → suc (tree_size left) ≡ tree_size from
size_risen forms tag origin stood x crosses from left (Root rest unwritten) = ap suc (size_mapped _ rest)
size_risen forms tag origin stood x crosses from left (Past_item t o y c rest left' clear apart rises) = ap suc (size_risen forms tag origin stood x c rest left' rises)
size_risen forms tag origin stood x crosses from left (Past_yes t o on c p q left' is unwritten rises) = let a = size_risen forms tag origin stood x c p left' rises in omega arith
size_risen forms tag origin stood x crosses from left (Past_no t o on c p q left' is unwritten rises) = let a = size_risen forms tag origin stood x c q left' rises in omega arith

pub size_divided : (tag origin : ℕ) (on : Operand) (from p q : Tree) → DividesTree tag origin on from p q → (tree_size p < tree_size from) × (tree_size q < tree_size from)
size_divided tag origin on from p q (Root_test p' q') = (omega arith, omega arith)
size_divided tag origin on from p q (Past t o y rest p' q' divides) = let a = size_divided tag origin on rest p' q' divides in let b = a.0 in let c = a.1 in (omega arith, omega arith)

pub most_entered : (known : ℕ → Bool) (forms forms' : ℕ → Form) (new : Option ℕ) (n : ℕ) (comes : Option Item) (from to : Front)
    → EntersFront known forms forms' new comes from to → MostBehind n from → MostBehind n to
most_entered known forms forms' new n comes from to (Lands tag origin x t left reads isnew none same rises) h = let a = size_risen forms tag origin x x _ t left rises in omega arith
most_entered known forms forms' new n comes from to (Lands_renamed tag origin name stood t left reads isnew is gives rises) h =
    let a = size_risen forms tag origin stood _ _ t left rises in omega arith
most_entered known forms forms' new n comes from to (Lands_test tag origin on t p q reads none same divides) h =
    let a = size_divided tag origin on t p q divides in let b = a.0 in let c = a.1 in (omega arith, omega arith)
most_entered known forms forms' new n comes from to (Lands_once t o on tag origin tag' origin' name stood other c c' p q l m equal reads isnew is gives rises rises') h =
    let a = size_risen forms tag origin stood _ _ p l rises in let b = size_risen forms tag' origin' other _ _ q m rises' in let d = h.0 in let e = h.1 in (omega arith, omega arith)
most_entered known forms forms' new n comes from to (Behind_item t o y c rest rest' may apart enters) h = most_entered known forms forms' new n c rest rest' enters h
most_entered known forms forms' new n comes from to (On_yes t o on c p q p' apart enters) h = (most_entered known forms forms' new n c p p' enters h.0, h.1)
most_entered known forms forms' new n comes from to (On_no t o on c p q q' apart enters) h = (h.0, most_entered known forms forms' new n c q q' enters h.1)

pub filling_bounded : FillingIsBounded
filling_bounded known w v (Full w' none) n h = h
filling_bounded known w v (Goes_on w' v' u jump first filled) n h =
    filling_bounded known v' u filled n (most_entered known w'.forms v'.forms jump.new n jump.comes w'.front v'.front jump.enters h)

pub jumps_count : JumpsFillTheFront
jumps_count known w v jump =
    let a = counted known w.forms v.forms jump.new jump.comes w.front v.front jump.enters in
    one_more jump.comes a.0 a.2
  where
    one_more : (c : Option Item) → item_count v.front ≡ one_item c + item_count w.front
        → test_count v.front ≡ one_test c + test_count w.front → front_size v.front ≡ suc (front_size w.front)
    one_more (Some x) p q = omega arith
    one_more None p q = omega arith
