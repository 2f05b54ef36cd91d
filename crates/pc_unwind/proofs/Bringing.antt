-- What a region's tree brings into a window.
use Rattle.std.proofs.Common.{◌≡◌, ℕ, suc, ◌+◌, ◌*◌, ◌<◌, ◌≤◌, Option, Some, None, length, refl, sym, ◌∙◌, ap, subst, arith}
use Rattle.pc_word.specs.Items.{array_of}
use Rattle.std.specs.Prelude.{IfSome, Bool, true, false, if◌then◌else◌}
use Rattle.pc_word.specs.declared.item.Item.{Item}
use Rattle.pc_word.specs.declared.item.Item.TheVariants.{Bin, Copy, Load, Store, Print, Read, More}
use Rattle.pc_word.specs.declared.item.Operand.{Operand}
use Rattle.pc_word.specs.declared.item.TrapKind.{TrapKind}
use Rattle.pc_linear.specs.Form.{Form}
use Rattle.pc_table.specs.Table.{TableTree, Does, Asks, Next, Stops_here, Traps_here, Table, region_live}
use Rattle.pc_table.specs.TableKeeps.{TableKeeps, TreeIsThere, units, untested}
use Rattle.pc_window.specs.Tree.{Tree, Pending, Undecided, Exit, Stop_exit, Trap_exit, tree_size}
use Rattle.pc_window.specs.Opening.{Supply, with_name, stub_tag, homes_at, graft}
use Rattle.pc_unwind.specs.models.Named.{TagsAtMost, ArraysAreThere, StubsAreThere}
use Rattle.pc_window.specs.Unwinding.{lesser_tag, least_tag}
use Rattle.pc_window.specs.models.Ranks.{rank}
use Rattle.pc_window.proofs.There.{homes_live}
use Rattle.pc_unwind.specs.models.Remaining.{tree_steps, stub_steps}
use Rattle.pc_unwind.specs.models.Walking.{brought_size, AtMostLeast, RootStaysAtMost}

-- names and form variables grow by at most so many
pub record GrowsBy (n : ℕ) (old new : Supply) : Type 0 where
  pub names : new.next ≤ old.next + n
  pub variables : new.next_variable ≤ old.next_variable + n

-- a region's tree comes to a tree at this tag: an item or a test each has this tag, and a copy goes
pub data Brings (table : Table) (loop : Option ℕ) (tag : ℕ) : TableTree → Supply → Tree → Supply → Type 0 where
  brings_none : (origin : ℕ) (dest : ℕ) (from : Operand) {rest : TableTree} {old new : Supply} {tree : Tree}
      → Brings table loop tag rest old tree new → Brings table loop tag (Does origin (Copy dest from) rest) old tree new
  brings_item : (origin : ℕ) (item given : Item) {rest : TableTree} {old mid new : Supply} {tree : Tree} → brought_size (Does origin item rest) ≡ suc (brought_size rest)
      → array_of given ≡ array_of item → GrowsBy 1 old mid → Brings table loop tag rest mid tree new → Brings table loop tag (Does origin item rest) old (Pending tag origin given tree) new
  brings_test : (origin : ℕ) (on at : Operand) {on_yes on_no : TableTree} {old mid new : Supply} {yes_tree no_tree : Tree}
      → Brings table loop tag on_yes old yes_tree mid → Brings table loop tag on_no mid no_tree new
      → Brings table loop tag (Asks origin on on_yes on_no) old (Undecided tag origin at yes_tree no_tree) new
  brings_stub : (region : ℕ) (homes : ℕ → Operand) (names : Supply)
      → Brings table loop tag (Next region) names (Exit region (stub_tag table loop region tag) (homes_at homes (region_live table region))) names
  brings_stop : (names : Supply) → Brings table loop tag Stops_here names Stop_exit names
  brings_trap : (kind : TrapKind) (line : ℕ) (names : Supply) → Brings table loop tag (Traps_here kind line) names (Trap_exit kind line) names

-- a name, with a form or a new form variable
one_name : (names : Supply) (form : Option Form) → GrowsBy 1 names (with_name names form)
one_name names None = record { names = omega arith; variables = omega arith }
one_name names (Some form) = record { names = omega arith; variables = omega arith }

no_name : (names : Supply) → GrowsBy 1 names names
no_name names = record { names = omega arith; variables = omega arith }

pub graft_brings : (table : Table) (loop : Option ℕ) (tag : ℕ) (from : TableTree) (names : Supply) (homes : ℕ → Operand)
    → Brings table loop tag from names (graft table loop tag from names homes).tree (graft table loop tag from names homes).names
graft_brings table loop tag (Does origin (Bin op dest left right) rest) names homes =
    brings_item origin (Bin op dest left right) _ refl refl (one_name names _) (graft_brings table loop tag rest _ _)
graft_brings table loop tag (Does origin (Copy dest from) rest) names homes = brings_none origin dest from (graft_brings table loop tag rest names _)
graft_brings table loop tag (Does origin (Load dest array index) rest) names homes =
    brings_item origin (Load dest array index) _ refl refl (one_name names None) (graft_brings table loop tag rest _ _)
graft_brings table loop tag (Does origin (Store array index value) rest) names homes =
    brings_item origin (Store array index value) _ refl refl (no_name names) (graft_brings table loop tag rest names homes)
graft_brings table loop tag (Does origin (Print value) rest) names homes =
    brings_item origin (Print value) _ refl refl (no_name names) (graft_brings table loop tag rest names homes)
graft_brings table loop tag (Does origin (Read dest) rest) names homes =
    brings_item origin (Read dest) _ refl refl (one_name names None) (graft_brings table loop tag rest _ _)
graft_brings table loop tag (Does origin (More dest) rest) names homes =
    brings_item origin (More dest) _ refl refl (one_name names None) (graft_brings table loop tag rest _ _)
graft_brings table loop tag (Asks origin on on_yes on_no) names homes =
    brings_test origin on _ (graft_brings table loop tag on_yes names homes) (graft_brings table loop tag on_no _ homes)
graft_brings table loop tag (Next region) names homes = brings_stub region homes names
graft_brings table loop tag Stops_here names homes = brings_stop names
graft_brings table loop tag (Traps_here kind line) names homes = brings_trap kind line names

-- ---- tags

-- not above the lesser of two
pub least_of_two : (tag : ℕ) (a b : Option ℕ) → AtMostLeast tag a → AtMostLeast tag b → AtMostLeast tag (lesser_tag a b)
least_of_two tag None b p q = q
least_of_two tag (Some a) None p q = p
least_of_two tag (Some a) (Some b) p q = omega arith

-- it brings no more than there is
pub brought_few : (from : TableTree) → brought_size from ≤ units from
brought_few (Does origin (Bin op dest left right) rest) = let le = brought_few rest in omega arith
brought_few (Does origin (Copy dest from) rest) = let le = brought_few rest in omega arith
brought_few (Does origin (Load dest array index) rest) = let le = brought_few rest in omega arith
brought_few (Does origin (Store array index value) rest) = let le = brought_few rest in omega arith
brought_few (Does origin (Print value) rest) = let le = brought_few rest in omega arith
brought_few (Does origin (Read dest) rest) = let le = brought_few rest in omega arith
brought_few (Does origin (More dest) rest) = let le = brought_few rest in omega arith
brought_few (Asks origin on on_yes on_no) = let le = brought_few on_yes in let le' = brought_few on_no in omega arith
brought_few (Next region) = omega arith
brought_few Stops_here = omega arith
brought_few (Traps_here kind line) = omega arith

module _ (table : Table) (loop : Option ℕ) (tag : ℕ) where
  -- the items and tests that it has
  pub brought_is : {from : TableTree} {old new : Supply} {tree : Tree} → Brings table loop tag from old tree new → tree_size tree ≡ brought_size from
  brought_is (brings_none origin dest at b) = brought_is b
  brought_is (brings_item origin item given is array grows b) = ap suc (brought_is b) ∙ sym is
  brought_is (brings_test origin on at b d) = let p = brought_is b in let q = brought_is d in omega arith
  brought_is (brings_stub region homes names) = refl
  brought_is (brings_stop names) = refl
  brought_is (brings_trap kind line names) = refl

  -- and no more names and form variables
  pub brought_names : {from : TableTree} {old new : Supply} {tree : Tree} → Brings table loop tag from old tree new → GrowsBy (tree_size tree) old new
  brought_names (brings_none origin dest at b) = brought_names b
  brought_names (brings_item origin item given is array grows b) =
      let more = brought_names b in let a = more.names in let c = more.variables in let d = grows.names in let e = grows.variables in
      record { names = omega arith; variables = omega arith }
  brought_names (brings_test origin on at b d) =
      let first = brought_names b in let second = brought_names d in
      let p = first.names in let q = first.variables in let r = second.names in let s = second.variables in
      record { names = omega arith; variables = omega arith }
  brought_names (brings_stub region homes names) = record { names = omega arith; variables = omega arith }
  brought_names (brings_stop names) = record { names = omega arith; variables = omega arith }
  brought_names (brings_trap kind line names) = record { names = omega arith; variables = omega arith }

  stub_at_most : (b : Bool) → (if b then suc tag else tag) ≤ suc tag
  stub_at_most true = omega arith
  stub_at_most false = omega arith

  pub stub_at_least : (b : Bool) → tag ≤ (if b then suc tag else tag)
  stub_at_least true = omega arith
  stub_at_least false = omega arith

  stub_tag-most : (region : ℕ) → stub_tag table loop region tag ≤ suc tag
  stub_tag-most region = stub_at_most _

  pub stub_tag-least : (region : ℕ) → tag ≤ stub_tag table loop region tag
  stub_tag-least region = stub_at_least _

  -- no tag is more than one higher
  pub brought_tags : {from : TableTree} {old new : Supply} {tree : Tree} (most : ℕ) → suc tag ≤ most → Brings table loop tag from old tree new → TagsAtMost most tree
  brought_tags most le (brings_none origin dest at b) = brought_tags most le b
  brought_tags most le (brings_item origin item given is array grows b) = (omega arith, brought_tags most le b)
  brought_tags most le (brings_test origin on at b d) = (omega arith, brought_tags most le b, brought_tags most le d)
  brought_tags most le (brings_stub region homes names) = let at = stub_tag-most region in omega arith
  brought_tags most le (brings_stop names) = tt
  brought_tags most le (brings_trap kind line names) = tt

  -- the least tag is not below this one
  pub brought_least : {from : TableTree} {old new : Supply} {tree : Tree} → Brings table loop tag from old tree new → AtMostLeast tag (least_tag tree)
  brought_least (brings_none origin dest at b) = brought_least b
  brought_least (brings_item origin item given is array grows b) = least_of_two tag (Some tag) _ (omega arith) (brought_least b)
  brought_least (brings_test origin on at b d) = least_of_two tag (Some tag) _ (omega arith) (least_of_two tag _ _ (brought_least b) (brought_least d))
  brought_least (brings_stub region homes names) = stub_tag-least region
  brought_least (brings_stop names) = tt
  brought_least (brings_trap kind line names) = tt

  -- the first item or test has this tag, or comes to have a tag that is not higher than the rank allows
  pub brought_root : {from : TableTree} {old new : Supply} {tree : Tree} (most below : ℕ) → tag + below ≤ most
      → ((next : ℕ) → untested from ≡ Some next → rank table next < below) → Brings table loop tag from old tree new → RootStaysAtMost table most tree
  brought_root most below le follows (brings_none origin dest at b) = brought_root most below le follows b
  brought_root most below le follows (brings_item origin item given is array grows b) = omega arith
  brought_root most below le follows (brings_test origin on at b d) = omega arith
  brought_root most below le follows (brings_stub region homes names) = let less = follows region refl in let at = stub_tag-most region in omega arith
  brought_root most below le follows (brings_stop names) = tt
  brought_root most below le follows (brings_trap kind line names) = tt

  -- what has neither item nor test has fewer steps to go
  pub brought_steps : {from : TableTree} {old new : Supply} {tree : Tree} (below : ℕ)
      → ((next : ℕ) → untested from ≡ Some next → rank table next < below) → Brings table loop tag from old tree new → tree_size tree ≡ 0 → tree_steps table tree ≤ 2 * below
  brought_steps below follows (brings_none origin dest at b) none = brought_steps below follows b none
  brought_steps below follows (brings_item origin item given is array grows b) none = absurd (omega arith)
  brought_steps below follows (brings_test origin on at b d) none = absurd (omega arith)
  brought_steps below follows (brings_stub region homes names) none = let less = follows region refl in omega arith
  brought_steps below follows (brings_stop names) none = omega arith
  brought_steps below follows (brings_trap kind line names) none = omega arith

  -- a stub has fewer steps to go
  pub brought_stub_steps : {from : TableTree} {old new : Supply} {tree : Tree} (below : ℕ)
      → ((next : ℕ) → untested from ≡ Some next → rank table next < below) → Brings table loop tag from old tree new → stub_steps table tree ≤ below
  brought_stub_steps below follows (brings_none origin dest at b) = brought_stub_steps below follows b
  brought_stub_steps below follows (brings_item origin item given is array grows b) = omega arith
  brought_stub_steps below follows (brings_test origin on at b d) = omega arith
  brought_stub_steps below follows (brings_stub region homes names) = let less = follows region refl in omega arith
  brought_stub_steps below follows (brings_stop names) = omega arith
  brought_stub_steps below follows (brings_trap kind line names) = omega arith

-- ---- stubs

-- a table's tree leads to no region that is not there
module _ (table : Table) (keeps : TableKeeps table) where
  -- what comes in has its stubs there
  pub brought_there : (loop : Option ℕ) (tag : ℕ) {from : TableTree} {old new : Supply} {tree : Tree} → TreeIsThere (length table.arrays) (length table.regions) from
      → Brings table loop tag from old tree new → StubsAreThere table tree
  brought_there loop tag there (brings_none origin dest at b) = brought_there loop tag there.1 b
  brought_there loop tag there (brings_item origin item given is array grows b) = brought_there loop tag there.1 b
  brought_there loop tag there (brings_test origin on at b d) = (brought_there loop tag there.1 b, brought_there loop tag there.2 d)
  brought_there loop tag there (brings_stub region homes names) = record { leads = there; live = homes_live table homes (region_live table region) }
  brought_there loop tag there (brings_stop names) = tt
  brought_there loop tag there (brings_trap kind line names) = tt

  -- and its arrays
  pub brought_arrays : (loop : Option ℕ) (tag : ℕ) {from : TableTree} {old new : Supply} {tree : Tree} → TreeIsThere (length table.arrays) (length table.regions) from
      → Brings table loop tag from old tree new → ArraysAreThere table tree
  brought_arrays loop tag there (brings_none origin dest at b) = brought_arrays loop tag there.1 b
  brought_arrays loop tag there (brings_item origin item given is array grows b) =
      (subst (λ (a : Option ℕ). IfSome a (λ n. n < length table.arrays)) (sym array) there.0.array, brought_arrays loop tag there.1 b)
  brought_arrays loop tag there (brings_test origin on at b d) = (brought_arrays loop tag there.1 b, brought_arrays loop tag there.2 d)
  brought_arrays loop tag there (brings_stub region homes names) = tt
  brought_arrays loop tag there (brings_stop names) = tt
  brought_arrays loop tag there (brings_trap kind line names) = tt
