-- Windows whose definitions have been given one name where they are alike.
use Rattle.std.proofs.Common.{◌≡◌, ◌≢◌, ◌⊎◌, inl, inr, ℕ, zero, suc, ◌+◌, ◌<◌, ◌≤◌}
use Rattle.std.proofs.Common.{List, [], ◌∷◌, Option, Some, None, length, refl, sym, ◌∙◌, ap, subst, arith}
use Rattle.std.specs.Prelude.{Bool, true, false, not, ◌&&◌, ◌||◌, if◌then◌else◌, nat_eq, pos, ◌+ℤ◌}
use Rattle.std.specs.List.{AllByRecursion, IsDistinct}
use lib.IntN.{+ℤ_idl}
use Rattle.pc_word.specs.declared.item.Item.{Item}
use Rattle.pc_word.specs.Items.{dest_of}
use Rattle.pc_word.proofs.Truth.{or_made_false}
use Rattle.pc_linear.specs.declared.term.Term.{Term}
use Rattle.pc_linear.specs.Form.{Form, factor_of}
use Rattle.pc_table.specs.Table.{Table}
use Rattle.pc_window.specs.declared.window.Window.{Window as StoredWindow}
use Rattle.pc_window.specs.declared.tree.WindowTree.{WindowTree}
use Rattle.pc_window.specs.Tree.{Tree, Front, Pending, Undecided, Exit, Stop_exit, Trap_exit, whole, tree_size}
use Rattle.pc_window.specs.Names.{Scoped, uses, named, parameters_of}
use Rattle.pc_window.specs.Filled.{Independent, WithinLimits}
use Rattle.pc_window.specs.Opening.{Supply, TermsBelow, FormBelow, TreeBelow}
use Rattle.pc_window.specs.Rebasing.{is_in}
use Rattle.pc_window.specs.StoredWindow.{front_in, forms_in, supply_in, window_in}
use Rattle.pc_window.specs.Steps.{IsProper, Positive}
use Rattle.pc_window.specs.There.{PartsAreThere}
use Rattle.pc_window.proofs.Parameters.{scoped_parameters, independent_parameters}
use Rattle.pc_window.proofs.Unwinding.{used_below}
use Rattle.pc_window.proofs.WindowsStored.{whole_in}
use Rattle.pc_canon.specs.Pairs.{ones, others, corresponds, themselves}
use Rattle.pc_canon.specs.Shift.{OneToOne, EachPair, FormsAlike, Maps, TreesAlike, SameFront}
use Rattle.pc_canon.proofs.Keys.{keys_tell}
use Rattle.pc_canon.proofs.Membership.{has, Distinct, distinct_to}
use Rattle.pc_canon.proofs.ParameterLists.{parameters_listed, parameters_used, parameters_distinct}
use Rattle.pc_shared.specs.declared.merging.Definition.{Definition}
use Rattle.pc_shared.specs.declared.merging.Given.{Given}
use Rattle.pc_shared.specs.NodeTree.{nodes_in, plain_tree, plain_front}
use Rattle.pc_shared.specs.Merging.{numbers_below, SameButNames, Defined, OfDefined, EachDefined, OneName, NamedAlike, IsMerged, MergedFrom}
use Rattle.pc_shared.specs.models.Merges.{FirstFree, none_given, this_one, a_later, HasMerged}
use Rattle.pc_shared.proofs.Meaning.{plain_tree_in, plain_front_in}
use Rattle.pc_shared.proofs.Renamed.{Renamed, trees_alike, fronts_same}
use Rattle.pc_shared.proofs.RenamedScopes.{becomes_scoped, becomes_below, becomes_first, becomes_independent, as_large, parts_there}
use Rattle.pc_shared.proofs.GivenNames.{AreSound, HasBecome, becomes, later_same, few_new, one_definition}

-- ---- numbers that correspond to themselves

ones_of : (xs : List ℕ) → ones (themselves xs) ≡ xs
ones_of [] = refl
ones_of (x ∷ xs) = ap (λ (list : List ℕ). x ∷ list) (ones_of xs)

others_of : (xs : List ℕ) → others (themselves xs) ≡ xs
others_of [] = refl
others_of (x ∷ xs) = ap (λ (list : List ℕ). x ∷ list) (others_of xs)

each_itself : (R : ℕ → ℕ → Type 0) → ((x : ℕ) → R x x) → (xs : List ℕ) → EachPair (themselves xs) R
each_itself R h [] = tt
each_itself R h (x ∷ xs) = (h x, each_itself R h xs)

itself_corresponds : (xs : List ℕ) (x : ℕ) → is_in x xs ≡ true → corresponds (themselves xs) x x ≡ true
itself_corresponds [] x h = absurd (cc)
itself_corresponds (y ∷ ys) x h = by (nat_eq y x) refl (itself_corresponds ys x)
  where
    turned : nat_eq y x ≡ false → nat_eq x y ≡ false
    turned e = grind (arith, e)

    behind : (b c : Bool) → b ≡ false → (b || c) ≡ true → c ≡ true
    behind false c e h = h
    behind true c e h = absurd (cc)

    by : (b : Bool) → nat_eq y x ≡ b → (is_in x ys ≡ true → corresponds (themselves ys) x x ≡ true)
        → (if b then b else (not b && corresponds (themselves ys) x x)) ≡ true
    by true e next = refl
    by false e next = next (behind (nat_eq x y) (is_in x ys) (turned e) h)

-- ---- form variables that correspond to themselves

none_above : (n m : ℕ) → n ≤ m → has (numbers_below n) m ≡ false
none_above zero m le = refl
none_above (suc n) m le = or_made_false (nat_eq n m) (has (numbers_below n) m) (apart (nat_eq n m) refl) (none_above n m (omega (arith, le)))
  where
    apart : (b : Bool) → nat_eq n m ≡ b → b ≡ false
    apart false e = refl
    apart true e = absurd (let same : n ≡ m = grind (arith, e) in omega (arith, same, le))

below_distinct : (n : ℕ) → Distinct (numbers_below n)
below_distinct zero = tt
below_distinct (suc n) = (none_above n n (omega arith), below_distinct n)

there_below : (n x : ℕ) → x < n → is_in x (numbers_below n) ≡ true
there_below zero x lt = absurd (omega (arith, lt))
there_below (suc n) x lt = by (nat_eq x n) refl (there_below n x)
  where
    by : (b : Bool) → nat_eq x n ≡ b → (x < n → is_in x (numbers_below n) ≡ true) → (b || is_in x (numbers_below n)) ≡ true
    by true e next = refl
    by false e next = next (let differs : x ≢ n = grind (arith, e) in omega (arith, differs, lt))

no_factor : (n x : ℕ) → is_in x (numbers_below n) ≡ false → (ts : List Term) → TermsBelow n ts → factor_of ts x ≡ pos 0
no_factor n x out [] below = refl
no_factor n x out (t ∷ ts) below = (λ i. (if apart (nat_eq x t.variable) refl i then t.factor else pos 0) +ℤ no_factor n x out ts below.1 i) ∙ +ℤ_idl (pos 0)
  where
    apart : (b : Bool) → nat_eq x t.variable ≡ b → b ≡ false
    apart false e = refl
    apart true e = absurd (let same : x ≡ t.variable = grind (arith, e) in let k : is_in x (numbers_below n) ≡ true = there_below n x (subst (λ (y : ℕ). y < n) (sym same) below.0) in cc)

form_itself : (n : ℕ) (f : Form) → FormBelow n f → FormsAlike (themselves (numbers_below n)) f f
form_itself n f below = record {
  constants = refl;
  both_terms = refl;
  factors = each_itself (λ x y. factor_of f.terms x ≡ factor_of f.terms y) (λ x. refl) (numbers_below n);
  no_more = λ x out. no_factor n x (ap (is_in x) (sym (ones_of (numbers_below n))) ∙ out) f.terms below;
  no_others = λ y out. no_factor n y (ap (is_in y) (sym (others_of (numbers_below n))) ∙ out) f.terms below;
}

each_known : (R : ℕ → ℕ → Type 0) (P : ℕ → Type 0) → ((x : ℕ) → P x → R x x) → (xs : List ℕ) → AllByRecursion P xs → EachPair (themselves xs) R
each_known R P h [] all = tt
each_known R P h (x ∷ xs) all = (h x all.0, each_known R P h xs all.1)

distinct_itself : (xs : List ℕ) → IsDistinct nat_eq xs → OneToOne (themselves xs)
distinct_itself xs d = record {
  ones_differ = subst (IsDistinct nat_eq) (sym (ones_of xs)) d;
  others_differ = subst (IsDistinct nat_eq) (sym (others_of xs)) d;
}

-- ---- two that are the first that is free

two_first : {above other : List ℕ} {d : Definition} {given : List Given} {found found' : Option ℕ} (n m : ℕ) → FirstFree above d given found → FirstFree other d given found'
    → found ≡ Some n → found' ≡ Some m → (n ≡ m) ⊎ ((is_in n other ≡ true) ⊎ (is_in m above ≡ true))
two_first n m none_given _ e e' = absurd (cc)
two_first n m (this_one same apart) (this_one same' apart') e e' = inl (cc)
two_first {above} {other} n m (this_one {one} same apart) (a_later taken free) e e' =
    let is : one.name ≡ n = cc in inr (inl (subst (λ (x : ℕ). is_in x other ≡ true) is (taken same)))
two_first {above} {other} n m (a_later taken free) (this_one {one} same apart) e e' =
    let is : one.name ≡ m = cc in inr (inr (subst (λ (x : ℕ). is_in x above ≡ true) is (taken same)))
two_first n m (a_later taken free) (a_later taken' free') e e' = two_first n m free free' e e'

of_imply : (P Q : Defined → Type 0) (forms : ℕ → Form) → ((p : Defined) → P p → Q p) → (above : List ℕ) (tag origin : ℕ) (item : Item) (d : Option ℕ)
    → OfDefined P forms above tag origin item d → OfDefined Q forms above tag origin item d
of_imply P Q forms h above tag origin item (Some name) p = h _ p
of_imply P Q forms h above tag origin item None p = tt

each_imply : (P Q : Defined → Type 0) (forms : ℕ → Form) → ((p : Defined) → P p → Q p) → (above : List ℕ) (tree : Tree)
    → EachDefined P forms above tree → EachDefined Q forms above tree
each_imply P Q forms h above (Pending tag origin item rest) p =
    (of_imply P Q forms h above tag origin item (dest_of item) p.0, each_imply P Q forms h (named (dest_of item) above) rest p.1)
each_imply P Q forms h above (Undecided tag origin on one other) p = (each_imply P Q forms h above one p.0, each_imply P Q forms h above other p.1)
each_imply P Q forms h above (Exit region tag homes) p = tt
each_imply P Q forms h above Stop_exit p = tt
each_imply P Q forms h above (Trap_exit kind line) p = tt

-- ---- windows

module _ (w v : StoredWindow) (merged : HasMerged w v) (proper : IsProper (window_in w)) where
  abbrev tree : Tree
  tree = plain_tree (nodes_in w.tree)

  abbrev later : Tree
  later = plain_tree (nodes_in v.tree)

  whole_is : (t : WindowTree) → whole (front_in t) ≡ plain_tree (nodes_in t)
  whole_is t = whole_in t ∙ sym (plain_tree_in t)

  abbrev known : ℕ → Bool
  known = uses tree

  abbrev forms : ℕ → Form
  forms = forms_in w.names.forms

  abbrev next : ℕ
  next = length w.names.forms

  names_below : TreeBelow next tree
  names_below = subst (TreeBelow next) (whole_is w.tree) proper.names_below

  scoped : Scoped known tree
  scoped = subst (λ (t : Tree). Scoped (uses t) t) (whole_is w.tree) proper.window.scoped

  independent : Independent forms known (plain_front (nodes_in w.tree))
  independent =
      subst (λ (t : Tree). Independent forms (uses t) (plain_front (nodes_in w.tree))) (whole_is w.tree)
      (subst (λ (f : Front). Independent forms (uses (whole (front_in w.tree))) f) (sym (plain_front_in w.tree)) proper.window.independent)

  known_below : (x : ℕ) → known x ≡ true → x < next
  known_below x k = used_below next tree x names_below k

  start_sound : AreSound forms next w.names.next_variable known known_below (record { given = []; names = supply_in w.names })
  start_sound = record { least = omega arith; kept = λ x lt. refl; supply = refl; forms_below = proper.forms_below.form; given = tt; once = tt }

  begun : HasBecome forms next w.names.next_variable known known_below [] merged.giving (nodes_in w.tree) (nodes_in v.tree)
  begun = becomes forms next w.names.next_variable known known_below merged.merges start_sound tt known (λ x k. k) scoped names_below

  -- what the tree has become
  became : Renamed forms known merged.giving [] (nodes_in w.tree) (nodes_in v.tree)
  became = begun.renamed merged.giving (later_same merged.giving)

  abbrev last : ℕ → Form
  last = merged.giving.names.forms

  same_last : forms_in v.names.forms ≡ last
  same_last = ap (λ (s : Supply). s.forms) merged.names

  same_forms : (x : ℕ) → known x ≡ true → last x ≡ forms x
  same_forms x k = begun.sound.kept x (known_below x k)

  -- ---- equal but for names

  abbrev maps : Maps
  maps = record { variables = themselves (numbers_below w.names.next_variable); shift = 0; other_shift = 0 }

  forms_alike : (x y : ℕ) → last y ≡ forms x → FormsAlike maps.variables (forms x) (last y)
  forms_alike x y e = subst (FormsAlike maps.variables (forms x)) (sym e) (form_itself w.names.next_variable (forms x) (proper.forms_below.form x))

  parameters_alike : EachPair (themselves (parameters_of tree)) (λ x y. FormsAlike maps.variables (forms x) (last y))
  parameters_alike =
      each_known (λ x y. FormsAlike maps.variables (forms x) (last y)) (λ x. known x ≡ true) (λ x k. forms_alike x x (same_forms x k)) (parameters_of tree)
      (parameters_used tree)

  become_alike : TreesAlike maps forms last (themselves (parameters_of tree)) tree later
  become_alike =
      trees_alike forms known merged.giving (themselves (parameters_of tree)) (λ x k. itself_corresponds (parameters_of tree) x (parameters_listed tree x k))
      maps refl forms_alike became tt scoped

  same_fronts : SameFront (front_in w.tree) (front_in v.tree)
  same_fronts =
      subst (λ (f : Front). SameFront f (front_in v.tree)) (plain_front_in w.tree)
      (subst (SameFront (plain_front (nodes_in w.tree))) (plain_front_in v.tree) (fronts_same forms known merged.giving became))

  same_but_names : SameButNames (window_in w) (window_in v)
  same_but_names = record {
    variables_one_to_one = distinct_itself (numbers_below w.names.next_variable) (distinct_to _ (below_distinct w.names.next_variable));
    params_one_to_one = distinct_itself (parameters_of (whole (front_in w.tree))) (parameters_distinct (whole (front_in w.tree)));
    params_alike = subst (λ (t : Tree). EachPair (themselves (parameters_of t)) (λ x y. FormsAlike maps.variables (forms x) (forms_in v.names.forms y))) (sym (whole_is w.tree))
        (subst (λ (f : ℕ → Form). EachPair (themselves (parameters_of tree)) (λ x y. FormsAlike maps.variables (forms x) (f y))) (sym same_last) parameters_alike);
    fronts = same_fronts;
    trees = subst (λ (t : Tree). TreesAlike maps forms (forms_in v.names.forms) (themselves (parameters_of t)) t (whole (front_in v.tree))) (sym (whole_is w.tree))
        (subst (TreesAlike maps forms (forms_in v.names.forms) (themselves (parameters_of tree)) tree) (sym (whole_is v.tree))
        (subst (λ (f : ℕ → Form). TreesAlike maps forms f (themselves (parameters_of tree)) tree later) (sym same_last) become_alike));
    limits = sym merged.limits;
    inside = sym merged.inside;
  }

  -- ---- one name

  abbrev AllAlike : (ℕ → Form) → Tree → Type 0
  AllAlike f t = EachDefined (λ p. EachDefined (OneName p) f [] t) f [] t

  abbrev IsFirst : Defined → Type 0
  IsFirst p = FirstFree p.above p.definition merged.giving.given (Some p.name)

  each_first : EachDefined IsFirst last [] later
  each_first = becomes_first forms known merged.giving became

  named_alike : (p q : Defined) → IsFirst p → IsFirst q → NamedAlike p q
  named_alike p q one other e =
      two_first p.name q.name one (subst (λ (d : Definition). FirstFree q.above d merged.giving.given (Some q.name)) (sym e) other) refl refl

  alike_named : (p q : Defined) → IsFirst p → IsFirst q → p.name ≡ q.name → p.definition ≡ q.definition
  alike_named p q one other e = one_definition p.name begun.sound.once one other refl (ap (λ (n : ℕ). Some n) (sym e))

  one_name : (p q : Defined) → IsFirst p → IsFirst q → OneName p q
  one_name p q one other = record { alike = alike_named p q one other; named = named_alike p q one other }

  all_alike : AllAlike last later
  all_alike =
      each_imply IsFirst (λ p. EachDefined (OneName p) last [] later) last
      (λ p one. each_imply IsFirst (OneName p) last (λ q other. one_name p q one other) [] later each_first) [] later each_first

  is_merged : IsMerged (window_in v)
  is_merged =
      subst (AllAlike (forms_in v.names.forms)) (sym (whole_is v.tree)) (subst (λ (f : ℕ → Form). AllAlike f later) (sym same_last) all_alike)

  -- ---- proper

  later_scoped : Scoped known (whole (front_in v.tree))
  later_scoped = subst (Scoped known) (sym (whole_is v.tree)) (becomes_scoped forms known merged.giving became scoped)

  later_independent : Independent (forms_in v.names.forms) known (front_in v.tree)
  later_independent =
      subst (Independent (forms_in v.names.forms) known) (plain_front_in v.tree)
      (subst (λ (f : ℕ → Form). Independent f known (plain_front (nodes_in v.tree))) (sym same_last)
      (becomes_independent forms known merged.giving same_forms became tt scoped independent))

  within : WithinLimits v.limits (front_in v.tree)
  within =
      subst (λ limits. WithinLimits limits (front_in v.tree)) (sym merged.limits)
      (subst (WithinLimits w.limits) (plain_front_in v.tree)
      (let large = as_large forms known merged.giving became in
      let before : WithinLimits w.limits (plain_front (nodes_in w.tree)) = subst (WithinLimits w.limits) (sym (plain_front_in w.tree)) proper.window.within in record {
        items = subst (λ (n : ℕ). n ≤ w.limits.ops) (sym large.items) before.items;
        memory = subst (λ (n : ℕ). n ≤ w.limits.mem) (sym large.memory) before.memory;
        tests = subst (λ (n : ℕ). n ≤ w.limits.tests) (sym large.tests) before.tests;
      }))

  same_variables : v.names.next_variable ≡ w.names.next_variable
  same_variables = ap (λ (s : Supply). s.next_variable) merged.names ∙ begun.sound.supply

  next_is : length v.names.forms ≡ merged.giving.names.next
  next_is = ap (λ (s : Supply). s.next) merged.names

  is_proper : IsProper (window_in v)
  is_proper = record {
    window = record {
      scoped = scoped_parameters (whole (front_in v.tree)) known later_scoped;
      independent = independent_parameters (forms_in v.names.forms) known (front_in v.tree) later_scoped later_independent;
      within = within;
    };
    room = subst Positive (sym merged.limits) proper.room;
    names_below = subst (λ (n : ℕ). TreeBelow n (whole (front_in v.tree))) (sym next_is)
        (subst (TreeBelow merged.giving.names.next) (sym (whole_is v.tree)) (becomes_below forms known merged.giving next begun.sound.least became tt names_below));
    forms_below = record {
      form = λ x. subst (λ (n : ℕ). FormBelow n (forms_in v.names.forms x)) (sym same_variables)
          (subst (λ (f : ℕ → Form). FormBelow w.names.next_variable (f x)) (sym same_last) (begun.sound.forms_below x));
    };
  }

  -- ---- all of it

  same_size : tree_size (whole (front_in v.tree)) ≡ tree_size (whole (front_in w.tree))
  same_size = ap tree_size (whole_is v.tree) ∙ (as_large forms known merged.giving became).size ∙ ap tree_size (sym (whole_is w.tree))

  few_names : length v.names.forms ≤ length w.names.forms + tree_size (whole (front_in w.tree))
  few_names =
      let few = few_new merged.merges in
      subst (λ (n : ℕ). n ≤ length w.names.forms + tree_size (whole (front_in w.tree))) (sym next_is)
      (subst (λ (t : Tree). merged.giving.names.next ≤ length w.names.forms + tree_size t) (sym (whole_is w.tree)) few)

  still_there : (table : Table) (most : ℕ) → PartsAreThere table most (whole (front_in w.tree)) → PartsAreThere table most (whole (front_in v.tree))
  still_there table most parts =
      subst (PartsAreThere table most) (sym (whole_is v.tree))
      (parts_there forms known merged.giving became table most (subst (PartsAreThere table most) (whole_is w.tree) parts))

  pub merged_from : MergedFrom (window_in w) (window_in v)
  merged_from = record {
    same = same_but_names;
    merged = is_merged;
    key = sym ((keys_tell (window_in w) (window_in v)).1 (themselves (parameters_of (whole (front_in w.tree))), (maps, same_but_names)));
    proper = is_proper;
    size = same_size;
    names = few_names;
    variables = same_variables;
    parts = still_there;
  }
