-- What comes, with its name, and the window that it comes to.
use Rattle.std.proofs.Common.{◌≡◌, ℕ, Bool, true, false, List, Option, Some, None, Result, Ok, Err, length, refl, sym, ◌∙◌, ap, subst}
use Rattle.std.specs.Prelude.{◌||◌, is_some, IfOk}
use Rattle.pc_word.specs.declared.item.Item.{Item}
use Rattle.pc_word.specs.declared.item.Item.TheVariants.{Bin, Copy, Load, Store, Print, Read, More}
use Rattle.pc_word.specs.Items.{dest_of}
use Rattle.pc_linear.specs.Form.{Form}
use Rattle.pc_window.specs.declared.tree.WindowTree.{WindowTree}
use Rattle.pc_window.specs.declared.names.NameTable.{NameTable}
use Rattle.pc_window.specs.declared.window.Window.{Window as StoredWindow}
use Rattle.pc_window.specs.Tree.{Front}
use Rattle.pc_window.specs.Opening.{Supply, with_name}
use Rattle.pc_window.specs.Jump.{combined}
use Rattle.pc_window.specs.Filled.{given_supply}
use Rattle.pc_window.specs.StoredWindow.{front_in, forms_in, supply_in, window_in}
use Rattle.pc_fill.specs.declared.walk.Found.{Found}
use Rattle.pc_fill.specs.models.Landing.{landed, came, new_name, FirstTwinOf, renames, coming_of, supply_after, landed_window, HasCome}
use Rattle.pc_fill.specs.models.Way.{Reaches, crosses_along, landed_along}
use Rattle.pc_fill.specs.models.Walk.{found_at}
use Rattle.pc_fill.proofs.Along.{crosses_reached, landed_reached}
use Rattle.pc_fill.proofs.Twins.{FirstAlong}
use Rattle.pc_fill.proofs.TagOrderKept.{come_in_order}
use Rattle.pc_word.specs.Naming.{with_dest}

-- ---- names

unnamed : (n : ℕ) (x : Item) → dest_of x ≡ None → dest_of (with_dest n x) ≡ None
unnamed n (Bin o d l r) e = absurd (cc)
unnamed n (Copy d from) e = absurd (cc)
unnamed n (Load d a index) e = absurd (cc)
unnamed n (Store a index v) e = refl
unnamed n (Print v) e = refl
unnamed n (Read d) e = absurd (cc)
unnamed n (More d) e = absurd (cc)

named : (n d : ℕ) (x : Item) → dest_of x ≡ Some d → dest_of (with_dest n x) ≡ Some n
named n e (Bin o d l r) h = refl
named n e (Copy d from) h = refl
named n e (Load d a index) h = refl
named n e (Store a index v) h = absurd (cc)
named n e (Print v) h = absurd (cc)
named n e (Read d) h = refl
named n e (More d) h = refl

same_combined : (forms : ℕ → Form) (n : ℕ) (x : Item) → combined forms (with_dest n x) ≡ combined forms x
same_combined forms n (Bin o d l r) = refl
same_combined forms n (Copy d from) = refl
same_combined forms n (Load d a index) = refl
same_combined forms n (Store a index v) = refl
same_combined forms n (Print v) = refl
same_combined forms n (Read d) = refl
same_combined forms n (More d) = refl

module _ (names : NameTable) (item : Item) (renamed : Bool) where
  -- without a new name
  pub kept_item : renamed ≡ false → Some item ≡ came (length names.forms) renamed (Some item)
  kept_item e = ap (λ (b : Bool). came (length names.forms) b (Some item)) (sym e)

  pub kept_names : renamed ≡ false → supply_in names ≡ given_supply (supply_in names) (new_name (length names.forms) renamed (Some item)) (came (length names.forms) renamed (Some item))
  kept_names e = ap (λ (b : Bool). given_supply (supply_in names) (new_name (length names.forms) b (Some item)) (came (length names.forms) b (Some item))) (sym e)

  -- with a name for an item that writes none
  pub plain_names : renamed ≡ true → dest_of item ≡ None → supply_in names ≡ given_supply (supply_in names) (new_name (length names.forms) renamed (Some item))
      (came (length names.forms) renamed (Some item))
  plain_names e none =
      ap (λ (d : Option ℕ). given_supply (supply_in names) d (Some (with_dest (length names.forms) item))) (sym (unnamed (length names.forms) item none))
      ∙ ap (λ (b : Bool). given_supply (supply_in names) (new_name (length names.forms) b (Some item)) (came (length names.forms) b (Some item))) (sym e)

  pub named_item : (n : ℕ) (it : Item) → renamed ≡ true → n ≡ length names.forms → it ≡ with_dest n item → Some it ≡ came (length names.forms) renamed (Some item)
  named_item n it e is h = ap Some (h ∙ ap (λ (k : ℕ). with_dest k item) is) ∙ ap (λ (b : Bool). came (length names.forms) b (Some item)) (sym e)

  -- with the next name
  pub named_names : (d : ℕ) (form : Option Form) (later : Supply) → renamed ≡ true → dest_of item ≡ Some d
      → form ≡ combined (forms_in names.forms) item → later ≡ with_name (supply_in names) form
      → later ≡ given_supply (supply_in names) (new_name (length names.forms) renamed (Some item)) (came (length names.forms) renamed (Some item))
  named_names d form later e some is h =
      let n = length names.forms in
      h ∙ ap (with_name (supply_in names)) (is ∙ sym (same_combined (forms_in names.forms) n item))
      ∙ ap (λ (o : Option ℕ). given_supply (supply_in names) o (Some (with_dest n item))) (sym (named n d item some))
      ∙ ap (λ (b : Bool). given_supply (supply_in names) (new_name n b (Some item)) (came n b (Some item))) (sym e)

-- a test comes without a name
pub test_names : (names : NameTable) (renamed : Bool) → supply_in names ≡ given_supply (supply_in names) (new_name (length names.forms) renamed None) (came (length names.forms) renamed None)
test_names names true = refl
test_names names false = refl

-- ---- twins

module _ (forms : ℕ → Form) (n tag origin : ℕ) (what : Option Item) (front : Front) (way : List Bool) (depth : ℕ) where
  pub item_twin : (item : Item) (found : Option ℕ) → what ≡ Some item → FirstAlong forms n tag origin item front way found
      → (place : ℕ) → Reaches front way depth place → FirstTwinOf forms n tag origin what front place found
  item_twin item found is h place r = subst (λ (w : Option Item). FirstTwinOf forms n tag origin w front place found) (sym is) (h depth place r)

  pub test_twin : what ≡ None → (place : ℕ) → Reaches front way depth place → FirstTwinOf forms n tag origin what front place None
  test_twin is place r = subst (λ (w : Option Item). FirstTwinOf forms n tag origin w front place None) (sym is) refl

-- ---- the window

pub comes_landed : (w : StoredWindow) (it : Found) (way : List Bool) (twin : Option ℕ) (renamed : Bool) (item : Option Item) (tree : WindowTree) (names : NameTable)
    → renamed ≡ (is_some twin || crosses_along (front_in w.tree) way)
    → item ≡ came (length w.names.forms) renamed it.item
    → supply_in names ≡ given_supply (supply_in w.names) (new_name (length w.names.forms) renamed it.item) (came (length w.names.forms) renamed it.item)
    → front_in tree ≡ landed_along (record { tag = it.tag; origin = it.origin; item = item; twin = twin }) (front_in w.tree) way it.depth
    → (place : ℕ) → Reaches (front_in w.tree) way it.depth place
    → window_in (record { tree = tree; names = names; limits = w.limits; inside = w.inside }) ≡ landed_window (window_in w) (found_at it place) twin
comes_landed w it way twin renamed item tree names is comes given lands place r =
    let n = length w.names.forms in
    let same : renamed ≡ renames (window_in w) (found_at it place) twin =
    is ∙ ap (λ (b : Bool). is_some twin || b) (crosses_reached (front_in w.tree) way it.depth place r) in
    let item_is : item ≡ came n (renames (window_in w) (found_at it place) twin) it.item = comes ∙ ap (λ (b : Bool). came n b it.item) same in
    let front_is : front_in tree ≡ landed (coming_of (window_in w) (found_at it place) twin) (front_in w.tree) place =
    lands ∙ landed_reached (record { tag = it.tag; origin = it.origin; item = item; twin = twin }) (front_in w.tree) way it.depth place r
    ∙ ap (λ (o : Option Item). landed (record { tag = it.tag; origin = it.origin; item = o; twin = twin }) (front_in w.tree) place) item_is in
    let names_is : supply_in names ≡ supply_after (window_in w) (found_at it place) twin =
    given ∙ ap (λ (b : Bool). given_supply (supply_in w.names) (new_name n b it.item) (came n b it.item)) same in
    λ i. record {
      front = front_is i;
      forms = (names_is i).forms;
      next = (names_is i).next;
      next_variable = (names_is i).next_variable;
      limits = w.limits;
      inside = w.inside;
    }

-- what comes with its first twin
pub comes_first : {E : Type 0} (w : StoredWindow) (it : Found) (way : List Bool) (twin : Option ℕ) (r : Result StoredWindow E)
    → ((place : ℕ) → Reaches (front_in w.tree) way it.depth place → FirstTwinOf (forms_in w.names.forms) (length w.names.forms) it.tag it.origin it.item (front_in w.tree) place twin)
    → ((place : ℕ) → Reaches (front_in w.tree) way it.depth place → IfOk r (λ later. window_in later ≡ landed_window (window_in w) (found_at it place) twin))
    → (place : ℕ) → Reaches (front_in w.tree) way it.depth place → IfOk r (λ later. HasCome (window_in w) (found_at it place) (window_in later))
comes_first w it way twin (Ok later) first come place r = record { twin = twin; first = first place r; is = come place r }
comes_first w it way twin (Err e) first come place r = tt

pub ruleset naming = (kept_item, kept_names, plain_names, named_item, named_names)

pub ruleset coming = (test_names)

pub ruleset twinned = (item_twin, test_twin)

pub ruleset jumping = (comes_landed, come_in_order)

pub ruleset first = (comes_first)
