-- The steps of a search keep the terms of all forms in normal form.
use Rattle.std.proofs.Common.{ℕ, zero, suc, List, [], ◌∷◌, Option, Some, None, sym, subst}
use Rattle.std.specs.Prelude.{ℤ, pos, negsuc, Bool, true, false, if◌then◌else◌, nat_lt, length, IfSome}
use Rattle.pc_word.specs.declared.item.Item.{Item}
use Rattle.pc_word.specs.declared.item.Item.TheVariants.{Bin, Copy, Load, Store, Print, Read, More}
use Rattle.pc_word.specs.declared.item.Limits.{Limits}
use Rattle.pc_word.specs.declared.item.Operand.{Operand}
use Rattle.pc_word.specs.Row.{Row}
use Rattle.pc_linear.specs.declared.term.Term.{Term}
use Rattle.pc_linear.specs.Form.{Form, most_terms, factor_of}
use Rattle.pc_linear.specs.Combine.{constant_form, plus, variable_form}
use Rattle.std.specs.Int.{w32, int_wrap}
use Rattle.pc_table.specs.Table.{Table, TableTree, Does, Asks, Next, Stops_here, Traps_here, region_tree}
use Rattle.pc_table.specs.Loops.{is_inside, innermost_loop}
use Rattle.pc_window.specs.Filled.{given_supply, Filled, Full, Goes_on}
use Rattle.pc_window.specs.Hold.{operand_form}
use Rattle.pc_window.specs.Jump.{combined}
use Rattle.pc_window.specs.Kept.{Left, Rest, Gone}
use Rattle.pc_window.specs.Names.{parameters_of}
use Rattle.pc_window.specs.Opening.{Supply, changed, with_name, at_home, Brought, Moves_home, Gets_name, Stays_plain, brought, Grafted, graft_item, graft, first_new, first_supply, first_home}
use Rattle.pc_window.specs.Rebasing.{with_form, with_variable, settled, rewritten_by, rewritten, rewrite_all, one_variable_more, make_base, Turned, first_base, first_turn, first_turns, free_terms}
use Rattle.pc_window.specs.Rebasing.{second_choice, second_turn, second_turns, all_names}
use Rattle.pc_window.specs.Steps.{EachLeft, Opens, UnwindsTo, Tidies, Rebases, Cuts, LeftIs, left_of, left_at_root, front_row, cut_row, with_tree, grafted_of}
use Rattle.pc_window.specs.Tree.{Tree, Pending, Undecided, Exit, Stop_exit, Trap_exit, Front, Issued, Split, Unfinished, whole}
use Rattle.pc_window.specs.Unwinding.{Unwinds, unwinds_no_more, unwinds_once}
use Rattle.pc_window.specs.WindowRun.{Window, supply_of}
use Rattle.pc_window.proofs.Repeated.{once_is}
use Rattle.pc_window.proofs.Unwinding.{Unwound, at_stub, below, at_yes, at_no, unwound_is, IsUnwound}
use Rattle.pc_shifts.specs.Alike.{HasNormalTerms, HasNormalForms}
use Rattle.pc_shifts.proofs.Combined.{sum_normal, constant_normal}
use Rattle.pc_shifts.proofs.Supplies.{variable_normal, changed_normal}
use Rattle.pc_shifts.proofs.GraftedTrees.{combined_normal, operand_normal}

-- every form of a supply has its terms in normal form
abbrev pub AllNormal : Supply → Type 0
AllNormal names = (x : ℕ) → HasNormalTerms (names.forms x)

pub with_name_normal : (names : Supply) (form : Option Form) → AllNormal names → IfSome form HasNormalTerms → AllNormal (with_name names form)
with_name_normal names (Some f) h p = changed_normal names.forms names.next f h p
with_name_normal names None h p = changed_normal names.forms names.next (variable_form names.next_variable) h (variable_normal names.next_variable)

-- ---- opening and unwinding

abbrev FormNormal : Brought → Type 0
FormNormal (Moves_home variable from) = Unit {0}
FormNormal (Gets_name variable item form) = IfSome form HasNormalTerms
FormNormal (Stays_plain item) = Unit {0}

brought_normal : (names : Supply) (homes : ℕ → Operand) (item : Item) → AllNormal names → FormNormal (brought names homes item)
brought_normal names homes (Bin op dest left right) h =
    combined_normal op (operand_form names.forms (at_home homes left)) (operand_form names.forms (at_home homes right))
    (operand_normal names.forms (at_home homes left) h) (operand_normal names.forms (at_home homes right) h)
brought_normal names homes (Copy dest from) h = tt
brought_normal names homes (Load dest array index) h = tt
brought_normal names homes (Store array index value) h = tt
brought_normal names homes (Print value) h = tt
brought_normal names homes (Read dest) h = tt
brought_normal names homes (More dest) h = tt

module _ (table : Table) (loop : Option ℕ) (tag : ℕ) where
  item_normal : (origin : ℕ) (b : Brought) (names : Supply) (homes : ℕ → Operand) (rest : Supply → (ℕ → Operand) → Grafted) → FormNormal b → AllNormal names
      → ((names : Supply) (homes : ℕ → Operand) → AllNormal names → AllNormal (rest names homes).names) → AllNormal (graft_item tag origin b names homes rest).names
  item_normal origin (Moves_home variable from) names homes rest p h next = next names (changed homes variable from) h
  item_normal origin (Gets_name variable item form) names homes rest p h next = next (with_name names form) _ (with_name_normal names form h p)
  item_normal origin (Stays_plain item) names homes rest p h next = next names homes h

  pub graft_normal : (tree : TableTree) (names : Supply) (homes : ℕ → Operand) → AllNormal names → AllNormal (graft table loop tag tree names homes).names
  graft_normal (Does origin item rest) names homes h =
      item_normal origin (brought names homes item) names homes (graft table loop tag rest) (brought_normal names homes item h) h (graft_normal rest)
  graft_normal (Asks origin on on_yes on_no) names homes h = graft_normal on_no (graft table loop tag on_yes names homes).names homes (graft_normal on_yes names homes h)
  graft_normal (Next region) names homes h = h
  graft_normal Stops_here names homes h = h
  graft_normal (Traps_here kind line) names homes h = h

first_normal : AllNormal first_supply
first_normal v = by_test (nat_lt v first_new)
  where
    by_test : (b : Bool) → HasNormalTerms (if b then variable_form v else constant_form (pos 0))
    by_test true = variable_normal v
    by_test false = constant_normal (pos 0)

pub opened_normal : (table : Table) (limits : Limits) (region : ℕ) (w : Window) → Opens table limits region w → HasNormalForms w
opened_normal table limits region w is =
    subst HasNormalForms (sym is)
    (record { form = graft_normal table (innermost_loop table region) 0 (region_tree table region) first_supply first_home first_normal })

unwound_normal : {table : Table} {loop : Option ℕ} {names after : Supply} {t u : Tree} → Unwound table loop names after t u → AllNormal names → AllNormal after
unwound_normal {table} {loop} {names} (at_stub region tag homes tree is kept) h = subst AllNormal kept (graft_normal table loop tag (region_tree table region) names _ h)
unwound_normal (below tag origin item u) h = unwound_normal u h
unwound_normal (at_yes tag origin on other u) h = unwound_normal u h
unwound_normal (at_no tag origin on one u) h = unwound_normal u h

unwinds_normal : (table : Table) (loop : Option ℕ) (window : ℕ) (g k : Grafted) → Unwinds table loop window g k → AllNormal g.names → AllNormal k.names
unfolding IsUnwound
unwinds_normal table loop window a b (unwinds_no_more g e) h = h
unwinds_normal table loop window a b (unwinds_once g m k e u) h =
    let at = once_is table loop window g m e in
    unwinds_normal table loop window m k u (unwound_normal (unwound_is table loop at.least g.names g.tree m at.is) h)

pub unwinding_normal : (table : Table) (number : ℕ) (w v : Window) → UnwindsTo table number w v → HasNormalForms w → HasNormalForms v
unwinding_normal table number w v u h = subst HasNormalForms (sym u.is) (record { form = unwinds_normal table w.inside number (grafted_of w) u.unwound u.unwinds h.form })

pub tidying_normal : (w v : Window) → Tidies w v → HasNormalForms w → HasNormalForms v
tidying_normal w v is h = subst HasNormalForms (sym is) (record { form = h.form })

-- ---- filling and cutting

combined_item : (names : Supply) (x : Item) → AllNormal names → IfSome (combined names.forms x) HasNormalTerms
combined_item names (Bin op dest left right) h =
    combined_normal op (operand_form names.forms left) (operand_form names.forms right) (operand_normal names.forms left h) (operand_normal names.forms right h)
combined_item names (Copy dest from) h = tt
combined_item names (Load dest array index) h = tt
combined_item names (Store array index value) h = tt
combined_item names (Print value) h = tt
combined_item names (Read dest) h = tt
combined_item names (More dest) h = tt

given_normal : (names : Supply) (new : Option ℕ) (comes : Option Item) → AllNormal names → AllNormal (given_supply names new comes)
given_normal names (Some name) (Some x) h = with_name_normal names (combined names.forms x) h (combined_item names x h)
given_normal names (Some name) None h = h
given_normal names None comes h = h

pub filling_normal : (known : ℕ → Bool) (w v : Window) → Filled known w v → HasNormalForms w → HasNormalForms v
filling_normal known a b (Full w none) h = h
filling_normal known a b (Goes_on w v u jump first filled) h =
    filling_normal known v u filled (record { form = subst AllNormal (sym jump.names) (given_normal (supply_of w) jump.new jump.comes h.form) })

left_normal : (table : Table) (w : Window) (tree : Tree) → HasNormalForms w → LeftIs HasNormalForms (left_of table w tree)
left_normal table w (Pending tag origin item rest) h = record { form = h.form }
left_normal table w (Undecided tag origin on on_yes on_no) h = record { form = h.form }
left_normal table w (Exit region tag homes) h = by_loop (is_inside table w.inside region)
  where
    by_loop : (b : Bool) → LeftIs HasNormalForms (if b then Rest (with_tree w (Exit region tag homes)) else Gone region homes)
    by_loop true = record { form = h.form }
    by_loop false = tt
left_normal table w Stop_exit h = tt
left_normal table w (Trap_exit kind line) h = tt

root_normal : (table : Table) (w : Window) (tree : Tree) → HasNormalForms w → LeftIs HasNormalForms (left_at_root table w tree)
root_normal table w (Pending tag origin item rest) h = record { form = h.form }
root_normal table w (Undecided tag origin on on_yes on_no) h = record { form = h.form }
root_normal table w (Exit region tag homes) h = tt
root_normal table w Stop_exit h = tt
root_normal table w (Trap_exit kind line) h = tt

front_normal : (table : Table) (w : Window) (front : Front) → HasNormalForms w → EachLeft HasNormalForms (front_row (left_of table w) front)
front_normal table w (Issued tag origin item rest) h = front_normal table w rest h
front_normal table w (Split tag origin on on_yes on_no) h = (front_normal table w on_yes h, front_normal table w on_no h)
front_normal table w (Unfinished rest) h = left_normal table w rest h

cut_normal : (table : Table) (w : Window) (front : Front) → HasNormalForms w → EachLeft HasNormalForms (cut_row table w front)
cut_normal table w (Issued tag origin item rest) h = front_normal table w rest h
cut_normal table w (Split tag origin on on_yes on_no) h = (front_normal table w on_yes h, front_normal table w on_no h)
cut_normal table w (Unfinished rest) h = root_normal table w rest h

pub cutting_normal : (table : Table) (w : Window) (row : Row Left) → Cuts table w row → HasNormalForms w → EachLeft HasNormalForms row
cutting_normal table w row is h = subst (λ (r : Row Left). EachLeft HasNormalForms r) (sym is) (cut_normal table w w.front h)

-- ---- rebasing

rewritten_by_normal : (k : ℤ) (difference f : Form) → HasNormalTerms f → HasNormalTerms (rewritten_by k difference f)
rewritten_by_normal (pos zero) difference f h = h
rewritten_by_normal (pos (suc k)) difference f h = sum_normal f (pos (suc k)) difference h
rewritten_by_normal (negsuc k) difference f h = sum_normal f (negsuc k) difference h

settled_normal : (names : Supply) (n : ℕ) (f : Form) → AllNormal names → HasNormalTerms f → AllNormal (settled names n f)
settled_normal names n f h p = by_length (nat_lt most_terms (length f.terms))
  where
    by_length : (b : Bool) → AllNormal (if b then with_variable names n else with_form names n f)
    by_length true = changed_normal names.forms n (variable_form names.next_variable) h (variable_normal names.next_variable)
    by_length false = changed_normal names.forms n f h p

rewrite_normal : (x : ℕ) (difference : Form) (old : ℕ → Form) (ns : List ℕ) (names : Supply) → ((n : ℕ) → HasNormalTerms (old n)) → AllNormal names
    → AllNormal (rewrite_all x difference old ns names)
rewrite_normal x difference old [] names p h = h
rewrite_normal x difference old (n ∷ ns) names p h =
    rewrite_normal x difference old ns (settled names n (rewritten x difference (old n))) p
    (settled_normal names n (rewritten x difference (old n)) h (rewritten_by_normal (int_wrap w32 (factor_of (old n).terms x)) difference (old n) (p n)))

base_normal : (all : List ℕ) (parameter x : ℕ) (names : Supply) → AllNormal names → AllNormal (make_base all parameter x names)
base_normal all parameter x names h =
    rewrite_normal x (plus (variable_form names.next_variable) (negsuc 0) (names.forms parameter)) names.forms all (one_variable_more names) h h

first_turn_normal : (all : List ℕ) (p : ℕ) (found : Option ℕ) (turned : Turned) → AllNormal turned.names → AllNormal (first_turn all p found turned).names
first_turn_normal all p None turned h = h
first_turn_normal all p (Some x) turned h = base_normal all p x turned.names h

first_turns_normal : (all ps : List ℕ) (turned : Turned) → AllNormal turned.names → AllNormal (first_turns all ps turned).names
first_turns_normal all [] turned h = h
first_turns_normal all (p ∷ ps) turned h =
    let found = first_base turned.bases (turned.names.forms p).terms in
    first_turns_normal all ps (first_turn all p found turned) (first_turn_normal all p found turned h)

choice_normal : (all : List ℕ) (p : ℕ) (found : Option ℕ) (turned : Turned) → AllNormal turned.names → AllNormal (second_choice all p found turned).names
choice_normal all p None turned h = changed_normal turned.names.forms p (variable_form turned.names.next_variable) h (variable_normal turned.names.next_variable)
choice_normal all p (Some x) turned h = base_normal all p x turned.names h

second_turn_normal : (all : List ℕ) (p : ℕ) (ts : List Term) (turned : Turned) → AllNormal turned.names → AllNormal (second_turn all p ts turned).names
second_turn_normal all p [] turned h = h
second_turn_normal all p (t ∷ ts) turned h = choice_normal all p (first_base turned.bases (t ∷ ts)) turned h

second_turns_normal : (all ps : List ℕ) (turned : Turned) → AllNormal turned.names → AllNormal (second_turns all ps turned).names
second_turns_normal all [] turned h = h
second_turns_normal all (p ∷ ps) turned h =
    let terms = free_terms turned.bases (turned.names.forms p).terms in
    second_turns_normal all ps (second_turn all p terms turned) (second_turn_normal all p terms turned h)

pub rebasing_normal : (w v : Window) → Rebases w v → HasNormalForms w → HasNormalForms v
rebasing_normal w v is h =
    let tree = whole w.front in
    let all = all_names tree in
    let turned = first_turns all (parameters_of tree) (record { names = supply_of w; bases = []; left = [] }) in
    subst HasNormalForms (sym is)
    (record { form = second_turns_normal all turned.left turned (first_turns_normal all (parameters_of tree) (record { names = supply_of w; bases = []; left = [] }) h.form) })
