-- Windows that arrive at entries, in memory.
use Rattle.std.proofs.Common.{◌≡◌, ℕ, zero, suc, ◌<◌, ◌≤◌, ◌^◌, inl, inr, Bool, true, List, [], ◌∷◌, length, get_or, Option, Some, None, sym, ◌∙◌, ap, subst, arith}
use Rattle.std.specs.Prelude.{IfSome, slice_get, slice_set}
use Rattle.std.proofs.lemmas.Bool.Decides.{eqb_tells}
use Rattle.std.proofs.lemmas.List.{length-map, length-set, map-set, set-set}
use Rattle.std.proofs.lemmas.Option.{slice_get-get_or}
use Rattle.pc_word.proofs.Places.{map_at, set_there, set_elsewhere}
use Rattle.pc_cert.specs.declared.certificate.Entry.{Entry}
use Rattle.pc_table.specs.Table.{Table}
use Rattle.pc_table.specs.StoredTable.{table_of}
use Rattle.pc_window.specs.declared.window.Window.{Window as StoredWindow}
use Rattle.pc_window.specs.Tree.{Tree, whole, tree_size}
use Rattle.pc_window.specs.Opening.{TreeBelow}
use Rattle.pc_window.specs.There.{PartsAreThere}
use Rattle.pc_window.specs.Steps.{IsProper}
use Rattle.pc_window.specs.WindowRun.{Window}
use Rattle.pc_window.specs.StoredWindow.{tree_in, window_in, InNodes}
use Rattle.pc_window.proofs.WindowsStored.{whole_in}
use Rattle.pc_renumber.specs.Renumbering.{Renumbers}
use Rattle.pc_renumber.proofs.Renumbered.{renumbered_parts}
use Rattle.pc_matching.specs.declared.fact.Fact as stored_fact
use Rattle.pc_matching.specs.Facts.{facts_of}
use Rattle.pc_settling.specs.Arrives.{facts_of_entry}
use Rattle.pc_settling.specs.Stored.{IsLeft, IsBegun}
use Rattle.pc_settling.specs.StoredFacts.{some_facts_of}
use Rattle.pc_accepted.specs.Arrivals.{FirstArrival, no_arrivals, first_arrival, arrival_with}
use Rattle.pc_checking.specs.declared.arrival.FirstArrival as stored_arrival
use Rattle.pc_checking.specs.declared.setting.Setting as stored_setting
use Rattle.pc_checking.specs.models.Stored.{arrival_in, some_arrival_in, arrivals_in, AreKept}

-- ---- a window numbered anew

-- a copy of what is left is left
pub copied_left : (w copy : StoredWindow) → IsLeft w → window_in copy ≡ window_in w → tree_in copy.tree ≡ tree_in w.tree
    → ((at_root : Bool) → InNodes at_root w.tree → InNodes at_root copy.tree) → IsLeft copy
copied_left w copy left same tree nodes = record {
  proper = subst IsProper (sym same) left.proper;
  nodes = nodes true left.nodes;
  size = subst (λ (t : Tree). tree_size t ≤ 4096) (sym tree) left.size;
}

-- a copy with which an entry may begin, numbered anew, is one
pub renumbered_begun : (table : Table) (w copy later : StoredWindow) → IsBegun table w → window_in copy ≡ window_in w → tree_in copy.tree ≡ tree_in w.tree
    → Renumbers (window_in copy) (window_in later) → InNodes true later.tree → IsProper (window_in later)
    → length later.names.forms ≤ length copy.names.forms → later.names.next_variable ≤ copy.names.next_variable
    → tree_size (tree_in later.tree) ≡ tree_size (tree_in copy.tree) → IsBegun table later
renumbered_begun table w copy later begun same tree is nodes proper fewer_names fewer_variables as_large =
    let names = begun.names in
    let variables = begun.variables in
    let size = begun.left.size in
    let same_names : length copy.names.forms ≡ length w.names.forms = ap (λ (u : Window). u.next) same in
    let same_variables : copy.names.next_variable ≡ w.names.next_variable = ap (λ (u : Window). u.next_variable) same in
    let same_size : tree_size (tree_in copy.tree) ≡ tree_size (tree_in w.tree) = ap tree_size tree in
    record {
      left = record { proper = proper; nodes = nodes; size = omega (arith, size, same_size, as_large) };
      names = omega (arith, names, same_names, fewer_names);
      variables = omega (arith, variables, same_variables, fewer_variables);
      parts = subst (λ (u : Window). PartsAreThere table (2 ^ 30) (whole u.front)) (sym is) (
          renumbered_parts table (2 ^ 30) (window_in copy) (
          subst (λ (u : Window). PartsAreThere table (2 ^ 30) (whole u.front)) (sym same) begun.parts
          )
          );
    }

-- ---- what an entry stands for

-- the names of a proper window are those that it has
pub names_there : (w : StoredWindow) → IsProper (window_in w) → TreeBelow (length w.names.forms) (tree_in w.tree)
names_there w proper = subst (TreeBelow (length w.names.forms)) (whole_in w.tree) proper.names_below

-- a window with facts, where nothing had arrived before
arrives_with : (w later : StoredWindow) (entry : Entry) (found : Option (List stored_fact.Fact)) → Renumbers (window_in w) (window_in later)
    → some_facts_of found ≡ facts_of_entry (tree_in later.tree) entry.facts
    → arrival_with (window_in later) (some_facts_of found) ≡ first_arrival None (window_in w) entry
arrives_with w later entry found is facts =
    ap (arrival_with (window_in later)) (facts ∙ ap (λ (t : Tree). facts_of_entry t entry.facts) (sym (whole_in later.tree)))
    ∙ ap (λ (u : Window). arrival_with u (facts_of_entry (whole u.front) entry.facts)) is

pub arrives_none : (w later : StoredWindow) (entry : Entry) → Renumbers (window_in w) (window_in later)
    → None ≡ facts_of_entry (tree_in later.tree) entry.facts → None ≡ first_arrival None (window_in w) entry
arrives_none w later entry is facts = arrives_with w later entry None is facts

pub arrives_some : (w later : StoredWindow) (entry : Entry) (facts : List stored_fact.Fact) → Renumbers (window_in w) (window_in later)
    → Some (facts_of facts) ≡ facts_of_entry (tree_in later.tree) entry.facts
    → (let it : FirstArrival = record { window = window_in later; facts = facts_of facts } in Some it) ≡ first_arrival None (window_in w) entry
arrives_some w later entry facts is found = arrives_with w later entry (Some facts) is found

pub ruleset arriving = (names_there, arrives_none, arrives_some)

-- ---- all entries

none_there : (entries : List Entry) (number : ℕ) (it : FirstArrival) → slice_get (no_arrivals entries) number ≡ Some (Some it) → ⊥
none_there [] number it is = cc
none_there (entry ∷ entries) zero it is = cc
none_there (entry ∷ entries) (suc number) it is = none_there entries number it is

-- before anything has arrived
pub nothing_kept : (s : stored_setting.Setting) (arrivals : List (Option stored_arrival.FirstArrival)) → arrivals_in arrivals ≡ no_arrivals s.entries.now → AreKept s arrivals
nothing_kept s arrivals is = record {
  as_many = sym (length-map arrivals some_arrival_in) ∙ ap length is ∙ length-map s.entries.now (λ entry. None);
  begun = λ number it there. absurd (none_there s.entries.now number (arrival_in it)
      (ap (λ list. slice_get list number) (sym is) ∙ map_at some_arrival_in arrivals number (Some it) there));
}

module _ (s : stored_setting.Setting) (arrivals : List (Option stored_arrival.FirstArrival)) (kept : AreKept s arrivals) (number : ℕ) (within : number < length s.entries.now) where
  -- what is put at an entry
  put_kept : (new : Option stored_arrival.FirstArrival) → IfSome new (λ it. IsBegun (table_of s.table.now) it.window) → AreKept s (slice_set arrivals number new)
  put_kept new begun = record {
    as_many = length-set arrivals number new ∙ kept.as_many;
    begun = λ n it there. elim (eqb_tells n number) [
      | inl same ↦ (
          let many = kept.as_many in
          let here : slice_get (slice_set arrivals number new) number ≡ Some new = set_there arrivals number new (omega (arith, many, within)) in
          let is : new ≡ Some it = some_one new (Some it) (sym here ∙ ap (λ (k : ℕ). slice_get (slice_set arrivals number new) k) (sym same.1) ∙ there) in
          subst (λ (o : Option stored_arrival.FirstArrival). IfSome o (λ it. IsBegun (table_of s.table.now) it.window)) is begun
          )
      | inr apart ↦ kept.begun n it (sym (set_elsewhere arrivals number n new (λ e. apart.1 (sym e))) ∙ there)
    ];
  }
    where
      some_one : {A : Type 0} (x y : A) → Some x ≡ Some y → x ≡ y
      some_one x y e = cc

  -- what has arrived is taken, and stands there again
  pub put_back_kept : (gone : Option stored_arrival.FirstArrival) (it : stored_arrival.FirstArrival) → IsBegun (table_of s.table.now) it.window
      → AreKept s (slice_set (slice_set arrivals number gone) number (Some it))
  put_back_kept gone it begun = subst (AreKept s) (sym (set-set arrivals number gone (Some it))) (put_kept (Some it) begun)

  -- an entry may begin with what has arrived there
  pub was_begun : (before : Option stored_arrival.FirstArrival) → slice_get arrivals number ≡ Some before → IfSome before (λ it. IsBegun (table_of s.table.now) it.window)
  was_begun None is = tt
  was_begun (Some it) is = kept.begun number it is

pub put_back_in : (arrivals : List (Option stored_arrival.FirstArrival)) (number : ℕ) (gone : Option stored_arrival.FirstArrival) (it : stored_arrival.FirstArrival)
    → arrivals_in (slice_set (slice_set arrivals number gone) number (Some it)) ≡ slice_set (arrivals_in arrivals) number (Some (arrival_in it))
put_back_in arrivals number gone it =
    ap arrivals_in (set-set arrivals number gone (Some it)) ∙ map-set some_arrival_in arrivals number (Some it)

-- what stood where something is taken
pub was_at : {X : Type 0} (xs : List X) (i : ℕ) (default taken : X) → i < length xs → taken ≡ get_or xs i default → slice_get xs i ≡ Some taken
was_at xs i default taken within is = slice_get-get_or xs i default within ∙ ap Some (sym is)

-- the same as what has arrived
pub was_in : (arrivals : List (Option stored_arrival.FirstArrival)) (number : ℕ) (before : Option stored_arrival.FirstArrival) → slice_get arrivals number ≡ Some before
    → slice_get (arrivals_in arrivals) number ≡ Some (some_arrival_in before)
was_in arrivals number before is = map_at some_arrival_in arrivals number before is

-- what has arrived at an entry that is read
pub was_so : (arrivals : List (Option stored_arrival.FirstArrival)) (number : ℕ) (default is : Option stored_arrival.FirstArrival) → number < length arrivals
    → get_or arrivals number default ≡ is → slice_get (arrivals_in arrivals) number ≡ Some (some_arrival_in is)
was_so arrivals number default is within same = was_in arrivals number is (was_at arrivals number default is within (sym same))

-- what stands at an entry is a window with which it may begin
pub begun_first : (table : Table) (first : Option stored_arrival.FirstArrival) (arrived : stored_arrival.FirstArrival) → first ≡ Some arrived
    → IfSome first (λ it. IsBegun table it.window) → IsBegun table arrived.window
begun_first table first arrived is begun = subst (λ (o : Option stored_arrival.FirstArrival). IfSome o (λ it. IsBegun table it.window)) is begun
