-- A region's tree with alike homes in place of variables, from alike supplies, is alike.
use Rattle.std.proofs.Common.{◌≡◌, ℕ, suc, ◌<◌, List, ◌∷◌, Option, Some, None, refl, sym, subst, arith}
use Rattle.std.specs.Prelude.{pos, Bool, true, false, if◌then◌else◌, nat_lt, length, IfSome}
use Rattle.pc_word.specs.declared.item.Item.{Item}
use Rattle.pc_word.specs.declared.item.Item.TheVariants.{Bin, Copy, Load, Store, Print, Read, More}
use Rattle.pc_word.specs.declared.item.OpCode.{OpCode}
use Rattle.pc_word.specs.declared.item.Operand.{Operand}
use Rattle.pc_word.specs.declared.item.Operand.TheVariants.{Name, Lit}
use Rattle.pc_word.specs.Items.{dest_of}
use Rattle.pc_word.specs.Word.{word_apply}
use Rattle.pc_linear.specs.Form.{Form, most_terms}
use Rattle.pc_linear.specs.Combine.{fitting, combine}
use Rattle.pc_linear.proofs.Forms.{combine_keeps}
use Rattle.pc_table.specs.Table.{Table, TableTree, Does, Asks, Next, Stops_here, Traps_here, region_live}
use Rattle.pc_table.specs.Loops.{same_loop, headed_loop}
use Rattle.pc_window.specs.Hold.{operand_form}
use Rattle.pc_window.specs.Opening.{Supply, changed, with_name, at_home, Brought, Moves_home, Gets_name, Stays_plain, brought, Grafted, graft_item, graft}
use Rattle.pc_window.specs.Opening.{OperandBelow, FormBelow, FormsBelow}
use Rattle.pc_window.proofs.Forms.{combine-below}
use Rattle.pc_window.proofs.Grafts.{HomesBelow, at_home_below}
use Rattle.pc_window.proofs.Soundness.{graft-tree}
use Rattle.pc_canon.specs.Pairs.{Pair, defined, OperandsAlike}
use Rattle.pc_canon.specs.Shift.{FormsAlike, ItemsAlike, both_bin, both_load, both_store, both_print, both_read, both_more, Maps, DestsAlike, TagsAlike}
use Rattle.pc_canon.specs.Shift.{TreesAlike, both_then, both_either, both_exit, both_stop, both_trap}
use Rattle.pc_shifts.specs.Alike.{HasNormalTerms, ResultsAlike, with_variables}
use Rattle.pc_shifts.proofs.Combined.{sum_normal, constant_normal, combined_alike}
use Rattle.pc_shifts.specs.Supplies.{SuppliesAlike, HomesOf, GraftedAlike}
use Rattle.pc_shifts.proofs.Supplies.{SuppliesGrow, grow_not, grow_twice, forms_later, named_alike}
use Rattle.pc_shifts.proofs.LaterTrees.{tree_later}
use Rattle.pc_shifts.proofs.StubHomes.{OperandForms, HomesMatch, at_home_alike, at_home_forms, homes_listed, homes_changed, homes_later, homes_paired, new_corresponds}

-- ---- what becomes of items

-- alike homes, or alike items, each with the next name and alike forms, or alike items that write no name
pub data BroughtAlike (variables pairs : List Pair) (names names' : Supply) : Brought → Brought → Type 0 where
  both_move : {v : ℕ} {from from' : Operand} → OperandsAlike pairs from from' → OperandForms variables names names' from from' → OperandBelow names.next from
      → OperandBelow names'.next from' → BroughtAlike variables pairs names names' (Moves_home v from) (Moves_home v from')
  both_get : {v : ℕ} {item item' : Item} {form form' : Option Form} → ItemsAlike pairs item item' → dest_of item ≡ Some names.next → dest_of item' ≡ Some names'.next
      → ResultsAlike variables form form' → IfSome form (FormBelow names.next_variable) → IfSome form' (FormBelow names'.next_variable)
      → IfSome form HasNormalTerms → IfSome form' HasNormalTerms → BroughtAlike variables pairs names names' (Gets_name v item form) (Gets_name v item' form')
  both_stay : {item item' : Item} → ItemsAlike pairs item item' → dest_of item ≡ None → dest_of item' ≡ None
      → BroughtAlike variables pairs names names' (Stays_plain item) (Stays_plain item')

fitting_normal : (f : Form) → HasNormalTerms f → IfSome (fitting f) HasNormalTerms
fitting_normal f h = by_length (nat_lt most_terms (length f.terms))
  where
    by_length : (b : Bool) → IfSome (if b then None else Some f) HasNormalTerms
    by_length true = tt
    by_length false = h

pub combined_normal : (op : OpCode) (f g : Form) → HasNormalTerms f → HasNormalTerms g → IfSome (combine op f g) HasNormalTerms
combined_normal op f g p q =
    combine_keeps HasNormalTerms HasNormalTerms (constant_normal (pos 0)) (λ f n g r s. sum_normal f n g r) fitting_normal op f g p q
    (constant_normal (word_apply op f.constant g.constant))

operand_below : (names : Supply) (o : Operand) → FormsBelow names → FormBelow names.next_variable (operand_form names.forms o)
operand_below names (Name x) b = b.form x
operand_below names (Lit value) b = tt

pub operand_normal : (forms : ℕ → Form) (o : Operand) → ((x : ℕ) → HasNormalTerms (forms x)) → HasNormalTerms (operand_form forms o)
operand_normal forms (Name x) h = h x
operand_normal forms (Lit value) h = constant_normal value

module _ (variables pairs : List Pair) (names names' : Supply) (homes homes' : ℕ → Operand) (s : SuppliesAlike variables names names')
    (h : HomesMatch variables pairs names names' homes homes') where
  home_alike : (o : Operand) → OperandsAlike pairs (at_home homes o) (at_home homes' o)
  home_alike o = at_home_alike variables pairs names names' homes homes' h o

  home_forms : (o : Operand) → OperandForms variables names names' (at_home homes o) (at_home homes' o)
  home_forms o = at_home_forms variables pairs names names' homes homes' h o

  pub brought_alike : (item : Item) → BroughtAlike variables pairs names names' (brought names homes item) (brought names' homes' item)
  brought_alike (Bin op dest left right) =
      let f = operand_form names.forms (at_home homes left) in
      let g = operand_form names.forms (at_home homes right) in
      let f' = operand_form names'.forms (at_home homes' left) in
      let g' = operand_form names'.forms (at_home homes' right) in
      let p = operand_normal names.forms (at_home homes left) s.normal in
      let p' = operand_normal names'.forms (at_home homes' left) s.others_normal in
      both_get (both_bin (home_alike left) (home_alike right)) refl refl
      (combined_alike variables op f f' g g' s.once p p' (home_forms left) (home_forms right))
      (combine-below names.next_variable op f g (operand_below names (at_home homes left) s.below) (operand_below names (at_home homes right) s.below))
      (combine-below names'.next_variable op f' g' (operand_below names' (at_home homes' left) s.others_below) (operand_below names' (at_home homes' right) s.others_below))
      (combined_normal op f g p (operand_normal names.forms (at_home homes right) s.normal))
      (combined_normal op f' g' p' (operand_normal names'.forms (at_home homes' right) s.others_normal))
  brought_alike (Copy dest from) =
      both_move (home_alike from) (home_forms from) (at_home_below names.next homes from h.below) (at_home_below names'.next homes' from h.others_below)
  brought_alike (Load dest array index) = both_get (both_load (home_alike index)) refl refl tt tt tt tt tt
  brought_alike (Store array index value) = both_stay (both_store (home_alike index) (home_alike value)) refl refl
  brought_alike (Print value) = both_stay (both_print (home_alike value)) refl refl
  brought_alike (Read dest) = both_get both_read refl refl tt tt tt tt tt
  brought_alike (More dest) = both_get both_more refl refl tt tt tt tt tt

-- ---- grafted trees

-- two grafted trees are alike by variables that go on from those before
pub record GraftsMatch (maps : Maps) (variables pairs : List Pair) (names names' : Supply) (g g' : Grafted) : Type 0 where
  pub more : List Pair
  pub grow : SuppliesGrow variables names names' more g.names g'.names
  pub trees : TreesAlike (with_variables maps more) g.names.forms g'.names.forms pairs g.tree g'.tree

-- whatever the supplies and the homes
unfoldable pub GraftsAlike : Maps → Table → Option ℕ → ℕ → ℕ → TableTree → Type 0
GraftsAlike maps table loop tag tag' tree =
    (variables pairs : List Pair) (names names' : Supply) (homes homes' : ℕ → Operand) → SuppliesAlike variables names names'
    → HomesMatch variables pairs names names' homes homes'
    → GraftsMatch maps variables pairs names names' (graft table loop tag tree names homes) (graft table loop tag' tree names' homes')

next_grows : (names : Supply) (form : Option Form) → names.next < (with_name names form).next
next_grows names (Some form) = omega arith
next_grows names None = omega arith

pub dests_at : (maps : Maps) (f g : ℕ → Form) (d d' : Option ℕ) (x y : ℕ) → d ≡ Some x → d' ≡ Some y → FormsAlike maps.variables (f x) (g y) → DestsAlike maps f g d d'
dests_at maps f g d d' x y e e' h =
    subst (λ (z : Option ℕ). DestsAlike maps f g z d') (sym e) (subst (λ (z : Option ℕ). DestsAlike maps f g (Some x) z) (sym e') h)

dests_none : (maps : Maps) (f g : ℕ → Form) (d d' : Option ℕ) → d ≡ None → DestsAlike maps f g d d'
dests_none maps f g d d' e = subst (λ (z : Option ℕ). DestsAlike maps f g z d') (sym e) tt

module _ (maps : Maps) (table : Table) (loop : Option ℕ) (tag tag' : ℕ) (tags : TagsAlike maps tag tag') where
  stub_tags : (b : Bool) → TagsAlike maps (if b then suc tag else tag) (if b then suc tag' else tag')
  stub_tags true = omega (arith, tags)
  stub_tags false = tags

  named_match : (origin v : ℕ) (item item' : Item) (form form' : Option Form) (rest : TableTree) (variables pairs : List Pair) (names names' : Supply) (homes homes' : ℕ → Operand)
      → SuppliesAlike variables names names' → HomesMatch variables pairs names names' homes homes'
      → ItemsAlike pairs item item' → dest_of item ≡ Some names.next → dest_of item' ≡ Some names'.next
      → ResultsAlike variables form form' → IfSome form (FormBelow names.next_variable) → IfSome form' (FormBelow names'.next_variable)
      → IfSome form HasNormalTerms → IfSome form' HasNormalTerms → GraftsAlike maps table loop tag tag' rest
      → GraftsMatch maps variables pairs names names' (graft_item tag origin (Gets_name v item form) names homes (graft table loop tag rest))
      (graft_item tag' origin (Gets_name v item' form') names' homes' (graft table loop tag' rest))
  unfolding GraftsAlike
  named_match origin v item item' form form' rest variables pairs names names' homes homes' s h items d d' a b b' p p' holds =
      let n = named_alike variables names names' form form' s a b b' p p' in
      let t = with_name names form in
      let t' = with_name names' form' in
      let pair : Pair = record { one = names.next; other = names'.next } in
      let lt : names.next < t.next = next_grows names form in
      let lt' : names'.next < t'.next = next_grows names' form' in
      let later = homes_later variables n.more (pair ∷ pairs) names names' t t' homes homes' s n.grow (homes_paired variables pairs names names' homes homes' h) in
      let here = homes_changed n.more (pair ∷ pairs) t t' homes homes' later v (Name names.next) (Name names'.next) (new_corresponds pairs names.next names'.next) n.new lt lt' in
      let g = graft table loop tag rest t (changed homes v (Name names.next)) in
      let g' = graft table loop tag' rest t' (changed homes' v (Name names'.next)) in
      let m = holds n.more (pair ∷ pairs) t t' (changed homes v (Name names.next)) (changed homes' v (Name names'.next)) n.grow.alike here in
      let both : (pair ∷ pairs) ≡ defined pairs (dest_of item) (dest_of item') = λ i. defined pairs (sym d i) (sym d' i) in
      record {
        more = m.more;
        grow = grow_twice variables n.more m.more names names' t t' g.names g'.names n.grow m.grow;
        trees = both_then tags items
            (dests_at (with_variables maps m.more) g.names.forms g'.names.forms (dest_of item) (dest_of item') names.next names'.next d d'
            (forms_later n.more m.more t t' g.names g'.names n.grow.alike m.grow names.next names'.next lt lt' n.new))
            (subst (λ (z : List Pair). TreesAlike (with_variables maps m.more) g.names.forms g'.names.forms z g.tree g'.tree) both m.trees);
      }

  item_match : (origin : ℕ) (rest : TableTree) (variables pairs : List Pair) (names names' : Supply) (homes homes' : ℕ → Operand) {b b' : Brought}
      → SuppliesAlike variables names names' → HomesMatch variables pairs names names' homes homes' → GraftsAlike maps table loop tag tag' rest
      → BroughtAlike variables pairs names names' b b'
      → GraftsMatch maps variables pairs names names' (graft_item tag origin b names homes (graft table loop tag rest)) (graft_item tag' origin b' names' homes' (graft table loop tag' rest))
  unfolding GraftsAlike
  item_match origin rest variables pairs names names' homes homes' s h holds (both_move {v} {from} {from'} a f b b') =
      holds variables pairs names names' (changed homes v from) (changed homes' v from') s (homes_changed variables pairs names names' homes homes' h v from from' a f b b')
  item_match origin rest variables pairs names names' homes homes' s h holds (both_get {v} {item} {item'} {form} {form'} items d d' a b b' p p') =
      named_match origin v item item' form form' rest variables pairs names names' homes homes' s h items d d' a b b' p p' holds
  item_match origin rest variables pairs names names' homes homes' s h holds (both_stay {item} {item'} items d d') =
      let g = graft table loop tag rest names homes in
      let g' = graft table loop tag' rest names' homes' in
      let m = holds variables pairs names names' homes homes' s h in
      let both : pairs ≡ defined pairs (dest_of item) (dest_of item') = λ i. defined pairs (sym d i) (sym d' i) in
      record {
        more = m.more;
        grow = m.grow;
        trees = both_then tags items (dests_none (with_variables maps m.more) g.names.forms g'.names.forms (dest_of item) (dest_of item') d)
            (subst (λ (z : List Pair). TreesAlike (with_variables maps m.more) g.names.forms g'.names.forms z g.tree g'.tree) both m.trees);
      }

  pub grafts_alike : (tree : TableTree) → GraftsAlike maps table loop tag tag' tree
  unfolding GraftsAlike
  grafts_alike (Does origin item rest) variables pairs names names' homes homes' s h =
      item_match origin rest variables pairs names names' homes homes' s h (grafts_alike rest) (brought_alike variables pairs names names' homes homes' s h item)
  grafts_alike (Asks origin on on_yes on_no) variables pairs names names' homes homes' s h =
      let a = graft table loop tag on_yes names homes in
      let a' = graft table loop tag' on_yes names' homes' in
      let one = grafts_alike on_yes variables pairs names names' homes homes' s h in
      let b = graft table loop tag on_no a.names homes in
      let b' = graft table loop tag' on_no a'.names homes' in
      let other = grafts_alike on_no one.more pairs a.names a'.names homes homes' one.grow.alike
      (homes_later variables one.more pairs names names' a.names a'.names homes homes' s one.grow h) in
      record {
        more = other.more;
        grow = grow_twice variables one.more other.more names names' a.names a'.names b.names b'.names one.grow other.grow;
        trees = both_either tags (at_home_alike variables pairs names names' homes homes' h on)
            (tree_later (with_variables maps one.more) a.names.forms a'.names.forms other.more b.names.forms b'.names.forms a.names.next a'.names.next
            (forms_later one.more other.more a.names a'.names b.names b'.names one.grow.alike other.grow)
            (graft-tree table loop tag on_yes names homes a.names.next h.below (omega arith))
            (graft-tree table loop tag' on_yes names' homes' a'.names.next h.others_below (omega arith)) one.trees)
            other.trees;
      }
  grafts_alike (Next region) variables pairs names names' homes homes' s h = record {
    more = variables;
    grow = grow_not variables names names' s;
    trees = both_exit (stub_tags (same_loop (headed_loop table region) loop)) (homes_listed variables pairs names names' homes homes' h (region_live table region));
  }
  grafts_alike Stops_here variables pairs names names' homes homes' s h = record { more = variables; grow = grow_not variables names names' s; trees = both_stop }
  grafts_alike (Traps_here kind line) variables pairs names names' homes homes' s h = record { more = variables; grow = grow_not variables names names' s; trees = both_trap }

-- as a law: from supplies and homes that are alike
pub grafted_alike : (maps : Maps) (table : Table) (loop : Option ℕ) (tag tag' : ℕ) (tree : TableTree) (pairs : List Pair) (names names' : Supply) (homes homes' : ℕ → Operand)
    → TagsAlike maps tag tag' → SuppliesAlike maps.variables names names' → HomesOf maps.variables pairs names names' homes homes'
    → GraftedAlike maps pairs names names' (graft table loop tag tree names homes) (graft table loop tag' tree names' homes')
unfolding GraftsAlike HomesBelow
grafted_alike maps table loop tag tag' tree pairs names names' homes homes' tags s h =
    let m = grafts_alike maps table loop tag tag' tags tree maps.variables pairs names names' homes homes' s
    (record { home = h.home; form = h.form; below = h.below; others_below = h.others_below }) in
    record { more = m.more; supplies = m.grow.alike; still = m.grow.still; trees = m.trees }
