-- Every step of a search keeps windows proper.
use Rattle.std.proofs.Common.{◌≡◌, ℕ, ◌+◌, ◌<◌, ◌≤◌, ◌⊎◌, List, [], ◌∷◌, Option, Some, None, refl, sym, ◌∙◌, ap, subst, arith, inl, inr}
use Rattle.std.specs.Prelude.{IfSome, Bool, true, false, ◌||◌, if◌then◌else◌, nat_eq}
use Rattle.pc_word.specs.declared.item.Item.{Item}
use Rattle.pc_word.specs.declared.item.Item.TheVariants.{Bin, Copy, Load, Store, Print, Read, More}
use Rattle.pc_word.specs.declared.item.Operand.{Operand}
use Rattle.pc_word.specs.declared.item.Operand.TheVariants.{Name, Lit}
use Rattle.pc_word.specs.declared.item.Limits.{Limits}
use Rattle.pc_word.specs.Items.{dest_of, is_memory, reads, reads_name}
use Rattle.pc_word.specs.Commit.{writes}
use Rattle.pc_table.specs.Loops.{is_inside, innermost_loop}
use Rattle.pc_window.specs.Opening.{Supply, with_name, OperandBelow, ItemBelow, StubBelow, Grafted, opened, TreeBelow, FormsBelow, FormBelow, TermsBelow}
use Rattle.pc_window.specs.Filled.{given_supply, IsNext, Jump, Full, Goes_on, WithinLimits, Filled, Independent}
use Rattle.pc_window.specs.Jump.{Rises, Root, Past_item, Past_yes, Past_no, DividesTree, Root_test, Past, combined, EntersFront, Lands, Lands_renamed, Lands_test, Lands_once}
use Rattle.pc_window.specs.Jump.{Behind_item, On_yes, On_no}
use Rattle.pc_window.proofs.GraftForms.{with_name-below}
use Rattle.pc_window.proofs.Tidying.{tidied_sound, not_true}
use Rattle.pc_linear.specs.Form.{Form}
use Rattle.pc_linear.specs.declared.term.Term.{Term}
use Rattle.pc_window.specs.Hold.{operand_form}
use Rattle.pc_window.specs.Rename.{map_homes, mapped}
use Rattle.pc_window.proofs.Once.{Sound, defines, Undefined, OncePerPath}
use Rattle.pc_window.proofs.Forms.{combine-below}
use Rattle.pc_window.specs.Names.{Unwritten, uses, IsNew, and_dest, Scoped}
use Rattle.pc_window.specs.Ready.{HasFresh}
use Rattle.pc_window.proofs.Grafts.{OperandBelow-later, nat_eq-same}
use Rattle.pc_window.proofs.Soundness.{TreeBelow-later, opened-sound}
use Rattle.pc_window.proofs.Unwinding.{used_below}
use Rattle.pc_window.proofs.Rebasing.{rebased-kept}
use Rattle.pc_table.specs.Table.{Table}
use Rattle.pc_window.specs.declared.home.Home.{Home}
use Rattle.pc_window.specs.Tree.{Tree, Pending, Undecided, Exit, Stop_exit, Trap_exit, Front, Issued, Split, Unfinished, whole, front_of}
use Rattle.pc_window.specs.WindowRun.{Window, supply_of}
use Rattle.pc_window.specs.Tidying.{tidied}
use Rattle.pc_window.specs.Kept.{Left, Rest, Gone}
use Rattle.pc_window.specs.Steps.{Positive, IsProper, LeftIs, EachLeft, window_of, with_tree, grafted_of, Opens, UnwindsTo, Tidies, Rebases, FillsTo, left_of, front_row, cut_row, Cuts}
use Rattle.pc_window.specs.Rebasing.{rebased}
use Rattle.pc_word.specs.Row.{Row}
use Rattle.pc_window.proofs.Undisturbed.{new-known}
use Rattle.pc_window.proofs.Uses.{nat_eq-tells}
use Rattle.pc_table.proofs.Tests.{needed_above}
use Rattle.pc_window.proofs.Parameters.{known_read, known_reads, known_homes, scoped_parameters, independent_parameters}
use Rattle.pc_window.proofs.Repeated.{unwinds-sound}
use Rattle.pc_window.proofs.Filling.{filling_window, filling_limits}
use Rattle.pc_window.proofs.CutRows.{whole_front_of}
use Rattle.std.specs.List.{AllByRecursion}
use Rattle.pc_word.specs.Naming.{map_operands, renamed, with_dest}
use Rattle.pc_word.proofs.Truth.{or_true, or_first, or_second, or_false, or_made_false}

-- ---- names once per path, in two ways

-- what is known is defined nowhere in a tree
abbrev Elsewhere : (ℕ → Bool) → Tree → Type 0
Elsewhere known tree = (z : ℕ) → known z ≡ true → defines tree z ≡ false

new_of : (known : ℕ → Bool) (d : Option ℕ) → ((z : ℕ) → known z ≡ true → writes d z ≡ false) → IsNew known d
new_of known None h = tt
new_of known (Some d) h = by_known (known d) refl
  where
    by_known : (b : Bool) → known d ≡ b → b ≡ false
    by_known true e = absurd (let k = h d e in let same : nat_eq d d ≡ true = nat_eq-same d in cc)
    by_known false e = refl

below_known : (known : ℕ → Bool) (x : Item) (rest : Tree) → ((z : ℕ) → known z ≡ true → defines rest z ≡ false) → Undefined (dest_of x) rest → Elsewhere (and_dest known x) rest
below_known known x rest other new z h = by_dest (dest_of x) new (or_true (writes (dest_of x) z) (known z) h)
  where
    by_dest : (d : Option ℕ) → Undefined d rest → (writes d z ≡ true) ⊎ (known z ≡ true) → defines rest z ≡ false
    by_dest d new (inr k) = other z k
    by_dest None new (inl w) = absurd (cc)
    by_dest (Some e) new (inl w) = sym (ap (defines rest) (nat_eq-tells e z w)) ∙ new

-- a tree whose names are defined once on a path, and its parameters nowhere, is scoped by its parameters
once_scoped : (tree : Tree) (known : ℕ → Bool) → ((z : ℕ) → uses tree z ≡ true → known z ≡ true) → Elsewhere known tree → OncePerPath tree → Scoped known tree
once_scoped (Pending t o x rest) known enough other once = (
  known_reads known x (λ z e. enough z (or_first (reads x z) _ e)),
  new_of known (dest_of x) (λ z k. (or_false (writes (dest_of x) z) (defines rest z) (other z k)).0),
  once_scoped rest (and_dest known x) (λ z u. below z (writes (dest_of x) z) refl u)
      (below_known known x rest (λ z k. (or_false (writes (dest_of x) z) (defines rest z) (other z k)).1) once.0) once.1,
)
  where
    below : (z : ℕ) (b : Bool) → writes (dest_of x) z ≡ b → uses rest z ≡ true → (b || known z) ≡ true
    below z true w u = refl
    below z false w u = enough z (needed_above (reads x z) (writes (dest_of x) z) (uses rest z) w u)
once_scoped (Undecided t o on p q) known enough other once = (
  known_read known on (λ z e. enough z (or_first (reads_name on z) _ e)),
  once_scoped p known (λ z u. enough z (or_second (reads_name on z) _ (or_first (uses p z) (uses q z) u))) (λ z k. (or_false (defines p z) (defines q z) (other z k)).0) once.0,
  once_scoped q known (λ z u. enough z (or_second (reads_name on z) _ (or_second (uses p z) (uses q z) u))) (λ z k. (or_false (defines p z) (defines q z) (other z k)).1) once.1,
)
once_scoped (Exit region tag homes) known enough other once = known_homes known homes enough
once_scoped Stop_exit known enough other once = tt
once_scoped (Trap_exit kind line) known enough other once = tt

undefined_of : (d : Option ℕ) (known : ℕ → Bool) (rest : Tree) → Elsewhere (λ z. writes d z || known z) rest → Undefined d rest
undefined_of None known rest h = tt
undefined_of (Some d) known rest h = h d (or_first (nat_eq d d) (known d) (nat_eq-same d))

not_written : (known : ℕ → Bool) (d : Option ℕ) (z : ℕ) → IsNew known d → known z ≡ true → writes d z ≡ false
not_written known d z new k = new-known known d z new k

-- and back
scoped_once : (tree : Tree) (known : ℕ → Bool) → Scoped known tree → Elsewhere known tree × OncePerPath tree
scoped_once (Pending t o x rest) known h =
    let b = scoped_once rest (and_dest known x) h.2 in (
      λ z k. or_made_false (writes (dest_of x) z) (defines rest z) (not_written known (dest_of x) z h.1 k) (b.0 z (or_second (writes (dest_of x) z) (known z) k)),
      (undefined_of (dest_of x) known rest b.0, b.1),
    )
scoped_once (Undecided t o on p q) known h =
    let a = scoped_once p known h.1 in
    let b = scoped_once q known h.2 in
    (λ z k. or_made_false (defines p z) (defines q z) (a.0 z k) (b.0 z k), (a.1, b.1))
scoped_once (Exit region tag homes) known h = (λ z k. refl, tt)
scoped_once Stop_exit known h = (λ z k. refl, tt)
scoped_once (Trap_exit kind line) known h = (λ z k. refl, tt)

-- ---- a tree that becomes a window

pub within_one : (limits : Limits) (tree : Tree) → Positive limits → WithinLimits limits (front_of tree)
within_one limits (Pending t o x rest) p = record { items = (let a = p.ops in omega arith); memory = one_memory (is_memory x) p.mem; tests = omega arith }
  where
    one_memory : (b : Bool) → 1 ≤ limits.mem → (if b then 1 else 0) + 0 ≤ limits.mem
    one_memory true h = omega arith
    one_memory false h = omega arith
within_one limits (Undecided t o on p q) r = record { items = omega arith; memory = omega arith; tests = (let a = r.tests in omega arith) }
within_one limits (Exit region tag homes) r = record { items = omega arith; memory = omega arith; tests = omega arith }
within_one limits Stop_exit r = record { items = omega arith; memory = omega arith; tests = omega arith }
within_one limits (Trap_exit kind line) r = record { items = omega arith; memory = omega arith; tests = omega arith }

pub independent_one : (forms : ℕ → Form) (known : ℕ → Bool) (tree : Tree) → Scoped known tree → Independent forms known (front_of tree)
independent_one forms known (Pending t o x rest) h = (h.0, tt, tt)
independent_one forms known (Undecided t o on p q) h = (h.0, tt, tt)
independent_one forms known (Exit region tag homes) h = tt
independent_one forms known Stop_exit h = tt
independent_one forms known (Trap_exit kind line) h = tt

-- a tree whose names are as they must be becomes a proper window
pub becomes_proper : (tree : Tree) (names : Supply) (limits : Limits) (inside : Option ℕ) (known : ℕ → Bool) → TreeBelow names.next tree → FormsBelow names
    → Positive limits → Scoped known tree → IsProper (window_of tree names limits inside)
becomes_proper tree names limits inside known names_below forms_below room scoped =
    let own = scoped_parameters tree known scoped in
    let same = sym (whole_front_of tree) in
    record {
      window = record {
        scoped = subst (λ (t : Tree). Scoped (uses t) t) same own;
        independent = subst (λ (t : Tree). Independent names.forms (uses t) (front_of tree)) same (independent_one names.forms (uses tree) tree own);
        within = within_one limits tree room;
      };
      room = room;
      names_below = subst (λ (t : Tree). TreeBelow names.next t) same names_below;
      forms_below = forms_below;
    }

sound_scoped : (g : Grafted) → Sound g → Scoped (uses g.tree) g.tree
sound_scoped g s = once_scoped g.tree (uses g.tree) (λ z u. u) s.apart s.once

-- a proper window is sound
pub proper_sound : (w : Window) → IsProper w → Sound (grafted_of w)
proper_sound w p =
    let h = scoped_once (whole w.front) (uses (whole w.front)) p.window.scoped in
    record { names_below = p.names_below; forms_below = p.forms_below; once = h.1; apart = h.0 }

-- a sound tree becomes a proper window
sound_proper : (g : Grafted) (limits : Limits) (inside : Option ℕ) → Positive limits → Sound g → IsProper (window_of g.tree g.names limits inside)
sound_proper g limits inside room s = becomes_proper g.tree g.names limits inside (uses g.tree) s.names_below s.forms_below room (sound_scoped g s)

-- ---- each step

pub opens_proper : (table : Table) (limits : Limits) (region : ℕ) (w : Window) → Positive limits → Opens table limits region w → IsProper w
opens_proper table limits region w room is =
    subst (λ (u : Window). IsProper u) (sym is)
    (sound_proper (opened table (innermost_loop table region) region) limits (innermost_loop table region) room (opened-sound table (innermost_loop table region) region))

pub unwinds_proper : (table : Table) (number : ℕ) (w v : Window) → UnwindsTo table number w v → IsProper w → IsProper v
unwinds_proper table number w v h p =
    subst (λ (u : Window). IsProper u) (sym h.is) (sound_proper h.unwound w.limits w.inside p.room (unwinds-sound table w.inside number (grafted_of w) h.unwound h.unwinds (proper_sound w p)))

pub tidies_proper : (w v : Window) → Tidies w v → IsProper w → IsProper v
tidies_proper w v is p =
    subst (λ (u : Window). IsProper u) (sym is)
    (sound_proper (record { tree = tidied (whole w.front); names = supply_of w }) w.limits w.inside p.room (tidied_sound (whole w.front) (supply_of w) (proper_sound w p)))

pub rebases_proper : (w v : Window) → Rebases w v → IsProper w → IsProper v
rebases_proper w v is p =
    let names = supply_of w in
    let kept = rebased-kept (whole w.front) names p.forms_below p.names_below in
    subst (λ (u : Window). IsProper u) (sym is)
    (becomes_proper (whole w.front) (rebased (whole w.front) names) w.limits w.inside (uses (whole w.front))
    (subst (λ (n : ℕ). TreeBelow n (whole w.front)) (sym kept.0) p.names_below) kept.1 p.room p.window.scoped)

-- ---- names and forms in filling

combined_below : (names : Supply) → FormsBelow names → (x : Item) → IfSome (combined names.forms x) (FormBelow names.next_variable)
combined_below names below (Bin op d l r) = combine-below names.next_variable op (operand_form names.forms l) (operand_form names.forms r) (operand_below l) (operand_below r)
  where
    operand_below : (o : Operand) → FormBelow names.next_variable (operand_form names.forms o)
    operand_below (Name x) = below.form x
    operand_below (Lit value) = tt
combined_below names below (Copy d from) = tt
combined_below names below (Load d a i) = tt
combined_below names below (Store a i v) = tt
combined_below names below (Print v) = tt
combined_below names below (Read d) = tt
combined_below names below (More d) = tt

given_below : (names : Supply) (new : Option ℕ) (comes : Option Item) → FormsBelow names → FormsBelow (given_supply names new comes)
given_below names (Some name) (Some x) b = with_name-below names (combined names.forms x) (combined_below names b x) b
given_below names (Some name) None b = b
given_below names None comes b = b

-- a name, if there is one, is below a number
abbrev NameBelow : ℕ → Option ℕ → Type 0
NameBelow n (Some x) = x < n
NameBelow n None = Unit {0}

pub given_next : (names : Supply) (new : Option ℕ) (comes : Option Item) → names.next ≤ (given_supply names new comes).next
given_next names (Some name) (Some x) = by_form (combined names.forms x)
  where
    by_form : (f : Option Form) → names.next ≤ (with_name names f).next
    by_form (Some f) = omega arith
    by_form None = omega arith
given_next names (Some name) None = omega arith
given_next names None comes = omega arith

new_name_below : (names : Supply) (new : Option ℕ) (comes : Option Item) → IsNext names.next new
    → (new ≡ None) ⊎ (comes ≡ None → ⊥) → NameBelow (given_supply names new comes).next new
new_name_below names (Some name) (Some x) is some = by_form (combined names.forms x)
  where
    by_form : (f : Option Form) → name < (with_name names f).next
    by_form (Some f) = omega arith
    by_form None = omega arith
new_name_below names (Some name) None is (inl e) = absurd (cc)
new_name_below names (Some name) None is (inr f) = absurd (f refl)
new_name_below names None comes is some = tt

mapped_item_below : (n m : ℕ) (f : Operand → Operand) → n ≤ m → ((o : Operand) → OperandBelow n o → OperandBelow m (f o))
    → (x : Item) → ItemBelow n x → ItemBelow m (map_operands f x)
mapped_item_below n m f le h (Bin op d l r) b = let a = b.0 in (omega arith, h l b.1, h r b.2)
mapped_item_below n m f le h (Copy d from) b = let a = b.0 in (omega arith, h from b.1)
mapped_item_below n m f le h (Load d array i) b = let a = b.0 in (omega arith, h i b.1)
mapped_item_below n m f le h (Store array i v) b = (h i b.0, h v b.1)
mapped_item_below n m f le h (Print v) b = h v b
mapped_item_below n m f le h (Read d) b = omega arith
mapped_item_below n m f le h (More d) b = omega arith

mapped_homes_below : (n m : ℕ) (f : Operand → Operand) → ((o : Operand) → OperandBelow n o → OperandBelow m (f o))
    → (homes : List Home) → StubBelow n homes → StubBelow m (map_homes f homes)
mapped_homes_below n m f h [] b = tt
mapped_homes_below n m f h (home ∷ homes) b = (h home.value b.0, mapped_homes_below n m f h homes b.1)

mapped_below : (n m : ℕ) (f : Operand → Operand) → n ≤ m → ((o : Operand) → OperandBelow n o → OperandBelow m (f o)) → (t : Tree) → TreeBelow n t → TreeBelow m (mapped f t)
mapped_below n m f le h (Pending t o x rest) b = (mapped_item_below n m f le h x b.0, mapped_below n m f le h rest b.1)
mapped_below n m f le h (Undecided t o on p q) b = (h on b.0, mapped_below n m f le h p b.1, mapped_below n m f le h q b.2)
mapped_below n m f le h (Exit region tag homes) b = mapped_homes_below n m f h homes b
mapped_below n m f le h Stop_exit b = tt
mapped_below n m f le h (Trap_exit kind line) b = tt

renamed_below : (n m : ℕ) (d e : Option ℕ) → n ≤ m → NameBelow m e → (o : Operand) → OperandBelow n o → OperandBelow m (renamed d e o)
renamed_below n m (Some d) (Some e) le h (Name x) b = by_test (nat_eq d x)
  where
    by_test : (c : Bool) → (if c then e else x) < m
    by_test true = h
    by_test false = omega arith
renamed_below n m (Some d) (Some e) le h (Lit value) b = tt
renamed_below n m (Some d) None le h o b = OperandBelow-later n m o le b
renamed_below n m None e le h o b = OperandBelow-later n m o le b

item_later : (n m : ℕ) (x : Item) → n ≤ m → ItemBelow n x → ItemBelow m x
item_later n m (Bin op d l r) le b = let a = b.0 in (omega arith, OperandBelow-later n m l le b.1, OperandBelow-later n m r le b.2)
item_later n m (Copy d from) le b = let a = b.0 in (omega arith, OperandBelow-later n m from le b.1)
item_later n m (Load d array i) le b = let a = b.0 in (omega arith, OperandBelow-later n m i le b.1)
item_later n m (Store array i v) le b = (OperandBelow-later n m i le b.0, OperandBelow-later n m v le b.1)
item_later n m (Print v) le b = OperandBelow-later n m v le b
item_later n m (Read d) le b = omega arith
item_later n m (More d) le b = omega arith

named_below : (n m name : ℕ) (x : Item) → n ≤ m → ItemBelow n x → NameBelow m (dest_of (with_dest name x)) → ItemBelow m (with_dest name x)
named_below n m name (Bin op d l r) le b h = (h, OperandBelow-later n m l le b.1, OperandBelow-later n m r le b.2)
named_below n m name (Copy d from) le b h = (h, OperandBelow-later n m from le b.1)
named_below n m name (Load d array i) le b h = (h, OperandBelow-later n m i le b.1)
named_below n m name (Store array i v) le b h = (OperandBelow-later n m i le b.0, OperandBelow-later n m v le b.1)
named_below n m name (Print v) le b h = OperandBelow-later n m v le b
named_below n m name (Read d) le b h = h
named_below n m name (More d) le b h = h

dest_below : (m : ℕ) (x : Item) → ItemBelow m x → NameBelow m (dest_of x)
dest_below m (Bin op d l r) b = b.0
dest_below m (Copy d from) b = b.0
dest_below m (Load d array i) b = b.0
dest_below m (Store array i v) b = tt
dest_below m (Print v) b = tt
dest_below m (Read d) b = b
dest_below m (More d) b = b

rises_item : (n : ℕ) (forms : ℕ → Form) (tag origin : ℕ) (stood x : Item) (crosses : Bool) (from left : Tree)
    → Rises forms tag origin stood x crosses from left → TreeBelow n from → ItemBelow n stood
rises_item n forms tag origin stood x crosses from left (Root rest unwritten) b = b.0
rises_item n forms tag origin stood x crosses from left (Past_item t o y c rest l clear apart rises) b = rises_item n forms tag origin stood x c rest l rises b.1
rises_item n forms tag origin stood x crosses from left (Past_yes t o on c p q l is unwritten rises) b = rises_item n forms tag origin stood x c p l rises b.1
rises_item n forms tag origin stood x crosses from left (Past_no t o on c p q l is unwritten rises) b = rises_item n forms tag origin stood x c q l rises b.2

rises_below : (n m : ℕ) (forms : ℕ → Form) (tag origin : ℕ) (stood x : Item) (crosses : Bool) (from left : Tree) → n ≤ m → NameBelow m (dest_of x)
    → Rises forms tag origin stood x crosses from left → TreeBelow n from → TreeBelow m left
rises_below n m forms tag origin stood x crosses from left le d (Root rest unwritten) b =
    mapped_below n m (renamed (dest_of stood) (dest_of x)) le (renamed_below n m (dest_of stood) (dest_of x) le d) rest b.1
rises_below n m forms tag origin stood x crosses from left le d (Past_item t o y c rest l clear apart rises) b =
    (item_later n m y le b.0, rises_below n m forms tag origin stood x c rest l le d rises b.1)
rises_below n m forms tag origin stood x crosses from left le d (Past_yes t o on c p q l is unwritten rises) b =
    (OperandBelow-later n m on le b.0, rises_below n m forms tag origin stood x c p l le d rises b.1, TreeBelow-later n m q le b.2)
rises_below n m forms tag origin stood x crosses from left le d (Past_no t o on c p q l is unwritten rises) b =
    (OperandBelow-later n m on le b.0, TreeBelow-later n m p le b.1, rises_below n m forms tag origin stood x c q l le d rises b.2)

divides_below : (n : ℕ) (tag origin : ℕ) (on : Operand) (from p q : Tree) → DividesTree tag origin on from p q → TreeBelow n from → OperandBelow n on × TreeBelow n p × TreeBelow n q
divides_below n tag origin on from p q (Root_test p' q') b = b
divides_below n tag origin on from p q (Past t o y rest p' q' divides) b = let k = divides_below n tag origin on rest p' q' divides b.1 in (k.0, (b.0, k.1), (b.0, k.2))

enters_below : (n m : ℕ) (known : ℕ → Bool) (forms forms' : ℕ → Form) (new : Option ℕ) (comes : Option Item) (from to : Front) → n ≤ m → NameBelow m new
    → EntersFront known forms forms' new comes from to
    → TreeBelow n (whole from) → TreeBelow m (whole to)
enters_below n m known forms forms' new comes from to le d (Lands tag origin x t left reads isnew none same rises) b =
    let i = rises_item n forms tag origin x x false t left rises b in
    let j = item_later n m x le i in
    (j, rises_below n m forms tag origin x x false t left le (dest_below m x j) rises b)
enters_below n m known forms forms' new comes from to le d (Lands_renamed tag origin name stood t left reads isnew is gives rises) b =
    let e = subst (NameBelow m) is d in (
      named_below n m name stood le (rises_item n forms tag origin stood (with_dest name stood) true t left rises b) e,
      rises_below n m forms tag origin stood (with_dest name stood) true t left le e rises b,
    )
enters_below n m known forms forms' new comes from to le d (Lands_test tag origin on t p q reads none same divides) b =
    let k = divides_below n tag origin on t p q divides b in
    (OperandBelow-later n m on le k.0, TreeBelow-later n m p le k.1, TreeBelow-later n m q le k.2)
enters_below n m known forms forms' new comes from to le d (Lands_once t o on tag origin tag' origin' name stood other c c' p q l k equal reads isnew is gives rises rises') b =
    let e = subst (NameBelow m) is d in (
      named_below n m name stood le (rises_item n forms tag origin stood (with_dest name stood) c p l rises b.1) e,
      (
        OperandBelow-later n m on le b.0,
        rises_below n m forms tag origin stood (with_dest name stood) c p l le e rises b.1,
        rises_below n m forms tag' origin' other (with_dest name stood) c' q k le e rises' b.2,
      ),
    )
enters_below n m known forms forms' new comes from to le d (Behind_item t o y c rest rest' may apart enters) b =
    (item_later n m y le b.0, enters_below n m known forms forms' new c rest rest' le d enters b.1)
enters_below n m known forms forms' new comes from to le d (On_yes t o on c p q p' apart enters) b =
    (OperandBelow-later n m on le b.0, enters_below n m known forms forms' new c p p' le d enters b.1, TreeBelow-later n m (whole q) le b.2)
enters_below n m known forms forms' new comes from to le d (On_no t o on c p q q' apart enters) b =
    (OperandBelow-later n m on le b.0, TreeBelow-later n m (whole p) le b.1, enters_below n m known forms forms' new c q q' le d enters b.2)

-- where a name is given, an item comes
given_comes : (known : ℕ → Bool) (forms forms' : ℕ → Form) (new : Option ℕ) (comes : Option Item) (from to : Front) → EntersFront known forms forms' new comes from to
    → (new ≡ None) ⊎ (comes ≡ None → ⊥)
given_comes known forms forms' new comes from to (Lands tag origin x t left reads isnew none same rises) = inl none
given_comes known forms forms' new comes from to (Lands_renamed tag origin name stood t left reads isnew is gives rises) = inr (λ e. cc)
given_comes known forms forms' new comes from to (Lands_test tag origin on t p q reads none same divides) = inl none
given_comes known forms forms' new comes from to (Lands_once t o on tag origin tag' origin' name stood other c c' p q l k equal reads isnew is gives rises rises') = inr (λ e. cc)
given_comes known forms forms' new comes from to (Behind_item t o y c rest rest' may apart enters) = given_comes known forms forms' new c rest rest' enters
given_comes known forms forms' new comes from to (On_yes t o on c p q p' apart enters) = given_comes known forms forms' new c p p' enters
given_comes known forms forms' new comes from to (On_no t o on c p q q' apart enters) = given_comes known forms forms' new c q q' enters

-- what is new stays new
pub record StaysNew (w : Window) : Type 0 where
  pub names_below : TreeBelow w.next (whole w.front)
  pub forms_below : FormsBelow (supply_of w)

pub jump_below : (known : ℕ → Bool) (w v : Window) → Jump known w v → StaysNew w → StaysNew v
jump_below known w v jump b =
    let given = given_supply (supply_of w) jump.new jump.comes in
    record {
      names_below = enters_below w.next v.next known w.forms v.forms jump.new jump.comes w.front v.front
          (subst (λ (n : Supply). w.next ≤ n.next) (sym jump.names) (given_next (supply_of w) jump.new jump.comes))
          (subst (λ (n : Supply). NameBelow n.next jump.new) (sym jump.names)
          (new_name_below (supply_of w) jump.new jump.comes jump.next (given_comes known w.forms v.forms jump.new jump.comes w.front v.front jump.enters)))
          jump.enters b.names_below;
      forms_below = subst (λ (n : Supply). FormsBelow n) (sym jump.names) (given_below (supply_of w) jump.new jump.comes b.forms_below);
    }

filled_below : (known : ℕ → Bool) (w v : Window) → Filled known w v → StaysNew w → StaysNew v
filled_below known w v (Full w' none) b = b
filled_below known w v (Goes_on w' v' u jump first filled) b = filled_below known v' u filled (jump_below known w' v' jump b)

pub fills_proper : (w v : Window) → FillsTo w v → IsProper w → IsProper v
fills_proper w v filled p =
    let known = uses (whole w.front) in
    let is = filling_window known w v filled p.window in
    let below = filled_below known w v filled (record { names_below = p.names_below; forms_below = p.forms_below }) in
    record {
      window = record { scoped = scoped_parameters (whole v.front) known is.scoped; independent = independent_parameters v.forms known v.front is.scoped is.independent; within = is.within };
      room = subst (λ (l : Limits). Positive l) (sym (filling_limits known w v filled)) p.room;
      names_below = below.names_below;
      forms_below = below.forms_below;
    }

module _ (table : Table) (w : Window) (below : FormsBelow (supply_of w)) (room : Positive w.limits) where
  left_proper : (tree : Tree) (known : ℕ → Bool) → TreeBelow w.next tree → Scoped known tree → LeftIs IsProper (left_of table w tree)
  left_proper (Pending t o x rest) known b h = becomes_proper (Pending t o x rest) (supply_of w) w.limits w.inside known b below room h
  left_proper (Undecided t o on p q) known b h = becomes_proper (Undecided t o on p q) (supply_of w) w.limits w.inside known b below room h
  left_proper (Exit region tag homes) known b h = by_loop (is_inside table w.inside region)
    where
      by_loop : (c : Bool) → LeftIs IsProper (if c then Rest (with_tree w (Exit region tag homes)) else Gone region homes)
      by_loop true = becomes_proper (Exit region tag homes) (supply_of w) w.limits w.inside known b below room h
      by_loop false = tt
  left_proper Stop_exit known b h = tt
  left_proper (Trap_exit kind line) known b h = tt

  row_proper : (front : Front) (known : ℕ → Bool) → TreeBelow w.next (whole front) → Scoped known (whole front) → EachLeft IsProper (front_row (left_of table w) front)
  row_proper (Issued t o x rest) known b h = row_proper rest (and_dest known x) b.1 h.2
  row_proper (Split t o on p q) known b h = (row_proper p known b.1 h.1, row_proper q known b.2 h.2)
  row_proper (Unfinished tree) known b h = left_proper tree known b h

  cut_proper : (front : Front) (known : ℕ → Bool) → TreeBelow w.next (whole front) → Scoped known (whole front) → EachLeft IsProper (cut_row table w front)
  cut_proper (Issued t o x rest) known b h = row_proper (Issued t o x rest) known b h
  cut_proper (Split t o on p q) known b h = row_proper (Split t o on p q) known b h
  cut_proper (Unfinished (Pending t o x rest)) known b h = left_proper (Pending t o x rest) known b h
  cut_proper (Unfinished (Undecided t o on p q)) known b h = left_proper (Undecided t o on p q) known b h
  cut_proper (Unfinished (Exit region tag homes)) known b h = tt
  cut_proper (Unfinished Stop_exit) known b h = tt
  cut_proper (Unfinished (Trap_exit kind line)) known b h = tt

-- each window that is left is proper
pub cuts_proper : (table : Table) (w : Window) (row : Row Left) → Cuts table w row → IsProper w → EachLeft IsProper row
cuts_proper table w row is p = subst (λ (r : Row Left). EachLeft IsProper r) (sym is) (cut_proper table w p.forms_below p.room w.front (uses (whole w.front)) p.names_below p.window.scoped)

-- ---- there is always something new

dest_new : (m : ℕ) (x : Item) → ItemBelow m x → writes (dest_of x) m ≡ false
dest_new m (Bin op d l r) h = let a = h.0 in other d a
  where
    other : (d : ℕ) → d < m → nat_eq d m ≡ false
    other d lt = grind arith
dest_new m (Copy d from) h = let a = h.0 in other d a
  where
    other : (d : ℕ) → d < m → nat_eq d m ≡ false
    other d lt = grind arith
dest_new m (Load d array i) h = let a = h.0 in other d a
  where
    other : (d : ℕ) → d < m → nat_eq d m ≡ false
    other d lt = grind arith
dest_new m (Store array i v) h = refl
dest_new m (Print v) h = refl
dest_new m (Read d) h = grind arith
dest_new m (More d) h = grind arith

pub tree_new : (m : ℕ) (tree : Tree) → TreeBelow m tree → Unwritten m tree
tree_new m (Pending t o x rest) h = (dest_new m x h.0, tree_new m rest h.1)
tree_new m (Undecided t o on left right) h = (tree_new m left h.1, tree_new m right h.2)
tree_new m (Exit region tag homes) h = tt
tree_new m Stop_exit h = tt
tree_new m (Trap_exit kind line) h = tt

pub without_new : (m : ℕ) (ts : List Term) → TermsBelow m ts → AllByRecursion (λ term. nat_eq m term.variable ≡ false) ts
without_new m [] h = tt
without_new m (t ∷ ts) h = (other t.variable h.0, without_new m ts h.1)
  where
    other : (v : ℕ) → v < m → nat_eq m v ≡ false
    other v lt = grind arith

-- a proper window's next name and form variable are new: so whatever is ready and has room can jump
pub proper_fresh : (w : Window) → IsProper w → HasFresh (uses (whole w.front)) w
proper_fresh w p = record {
  unknown = not_true (uses (whole w.front) w.next) (λ u. let lt = used_below w.next (whole w.front) w.next p.names_below u in absurd (omega arith));
  unwritten = tree_new w.next (whole w.front) p.names_below;
  without = λ x. without_new w.next_variable (w.forms x).terms (p.forms_below.form x);
}
