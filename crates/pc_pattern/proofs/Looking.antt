-- The row of a state looks at the leaves of a cut row: the search goes on by as many members as come of it, or has too many.
use Rattle.std.proofs.Common.{◌≡◌, ℕ, suc, List, [], ◌∷◌, ◌++◌, length, length-append, append-nil, append_assoc, map, refl, sym, ◌∙◌, ap, subst, arith}
use Rattle.std.specs.Prelude.{Some, slice_get}
use Rattle.std.proofs.lemmas.List.{length-map, map-append}
use Rattle.pc_word.specs.Row.{Row, leaves_of}
use Rattle.pc_table.specs.TableKeeps.{TableKeeps}
use Rattle.pc_window.specs.Tree.{whole}
use Rattle.pc_window.specs.WindowRun.{Window}
use Rattle.pc_window.specs.Kept.{Left, Rest}
use Rattle.pc_window.specs.Steps.{Positive, IsProper}
use Rattle.pc_canon.specs.Pairs.{Pair}
use Rattle.pc_canon.specs.Canonical.{parameter_pairs}
use Rattle.pc_canon.specs.Key.{key_of}
use Rattle.pc_canon.proofs.Keys.{keys_pair, keys_tell}
use Rattle.pc_renumber.specs.Renumbering.{renumbered, Renumbers}
use Rattle.pc_automaton.specs.declared.automaton.AutomatonLeaf.{AutomatonLeaf}
use Rattle.pc_pattern.specs.declared.error.SearchError.{SearchError}
use Rattle.pc_pattern.specs.Searches.{Rules, BringsOn, bare_leaf, IsNoMember, looks_new, looks_known, looks_bare, looks_out, looks_end, looks_trap}
use Rattle.pc_pattern.specs.Searches.{Search, looks, AreDifferent}
use Rattle.pc_pattern.specs.Pattern.{IsNotFound}
use Rattle.pc_pattern.specs.models.Pools.{Pool, IsNowhere, numbered_known, numbered_new}
use Rattle.pc_pattern.specs.models.Leading.{WindowLeads, leads_member, leads_bare, LeftLeads, leads_rest, leads_region, leads_end, leads_trap}
use Rattle.pc_pattern.specs.models.Leading.{RowLeads, leads_plain, leads_written, leads_test, leads_leaf}
use Rattle.pc_pattern.specs.models.Leading.{WindowRefused, refused_memory, refused_many, LeftRefused, refused_here, refused_rest}
use Rattle.pc_pattern.specs.models.Leading.{RowRefused, refused_row, refused_below, refused_yes, refused_no, refused_leaf}
use Rattle.pc_pattern.proofs.Brought.{member_shifted}
use Rattle.pc_pattern.proofs.Keeping.{brings_on_keeps}
use Rattle.pc_pattern.proofs.Members.{members_proper}
use Rattle.pc_pattern.proofs.Keys.{map_at, key_at, members_differ}
use Rattle.pc_pattern.proofs.LedRows.{none_bare, some_bare}

module _ (rules : Rules) (keeps : TableKeeps rules.table) (room : Positive rules.limits) (region number : ℕ) where
  -- the keys of members
  abbrev pub AreKeys : List Window → Pool → Type 0
  AreKeys members pool = pool.keys ≡ map key_of members

  -- leaves were looked at: these members came of it, and wait
  pub record Looked (members : List Window) (pool after : Pool) (lefts : List Left) : Type 0 where
    pub added : List Window
    pub waits : after.waiting ≡ pool.waiting ++ added
    pub keys : AreKeys (members ++ added) after
    pub steps : ℕ
    pub search : Search rules region steps (members ++ added) number lefts

  looked_none : (steps : ℕ) (members : List Window) (pool : Pool) (lefts : List Left) → AreKeys members pool → Search rules region steps members number lefts
      → Looked members pool pool lefts
  looked_none steps members pool lefts keys search =
      let same : members ≡ members ++ [] = sym (append-nil members) in
      record {
        added = [];
        waits = sym (append-nil pool.waiting);
        keys = keys ∙ ap (map key_of) same;
        steps = steps;
        search = subst (λ (l : List Window). Search rules region steps l number lefts) same search;
      }

  -- a window that waits to be looked at is proper once it is brought on
  brought_proper : {steps : ℕ} {members : List Window} {rest : Window} {lefts : List Left} (brought : Window)
      → Search rules region steps members number (Rest rest ∷ lefts) → BringsOn rules rest brought → IsProper brought
  brought_proper {rest} brought search brings =
      (brings_on_keeps rules keeps rest brought brings (members_proper rules keeps room region search).1.0).0

  -- a window whose key is new is no member
  new_member : (members : List Window) (pool : Pool) (w : Window) → AreKeys members pool → IsNowhere pool.keys (key_of w) → IsNoMember members w
  new_member members pool w keys new i member at shifted =
      new i (ap (λ (ks : List (List ℕ)). slice_get ks i) keys ∙ map_at key_of members i member at
      ∙ ap (λ (k : List ℕ). Some k) (sym ((keys_tell w member).1 shifted)))

  more_keys : (members : List Window) (pool : Pool) (rest brought member : Window) → AreKeys members pool → BringsOn rules rest brought → IsProper brought
      → Renumbers brought member → pool.keys ++ (key_of brought ∷ []) ≡ map key_of (members ++ (member ∷ []))
  more_keys members pool rest brought member keys brings proper renumbers =
      let shifted = member_shifted rules rest brought member brings renumbers proper in
      let same : key_of brought ≡ key_of member = (keys_tell brought member).1 (parameter_pairs brought member, shifted) in
      ap (λ (ks : List (List ℕ)). ks ++ (key_of brought ∷ [])) keys ∙ ap (λ (k : List ℕ). map key_of members ++ (k ∷ [])) same
      ∙ sym (map-append key_of members (member ∷ []))

  window_looked : {written : List Pair} {pool after : Pool} {leaf : AutomatonLeaf} (steps : ℕ) (members : List Window) (lefts : List Left) (rest brought : Window)
      → BringsOn rules rest brought → WindowLeads written pool brought leaf after → AreKeys members pool
      → Search rules region steps members number (Rest rest ∷ lefts) → Looked members pool after lefts
  window_looked {written} {pool} {leaf} steps members lefts rest brought brings (leads_bare some) keys search =
      looked_none (suc steps) members pool lefts keys (looks search (looks_bare brings (some_bare written (bare_leaf (whole brought.front)) leaf some).1))
  window_looked {written} {pool} steps members lefts rest brought brings (leads_member none (numbered_known {number = at} there)) keys search =
      let m = key_at members at (key_of brought) (sym (ap (λ (ks : List (List ℕ)). slice_get ks at) keys) ∙ there) in
      looked_none (suc steps) members pool lefts keys
      (looks search (looks_known brings (none_bare written (bare_leaf (whole brought.front)) none)
      (at, m.0, m.1, (parameter_pairs brought m.0, keys_pair brought m.0 (sym m.2)))))
  window_looked {written} {pool} steps members lefts rest brought brings (leads_member none (numbered_new {member} new renumbers)) keys search =
      record {
        added = member ∷ [];
        waits = refl;
        keys = more_keys members pool rest brought member keys brings (brought_proper brought search brings) renumbers;
        steps = suc steps;
        search = looks search (looks_new brings (none_bare written (bare_leaf (whole brought.front)) none) (new_member members pool brought keys new) renumbers);
      }

  left_looked : {written : List Pair} {pool after : Pool} {left : Left} {leaf : AutomatonLeaf} (steps : ℕ) (members : List Window) (lefts : List Left)
      → LeftLeads rules written pool left leaf after → AreKeys members pool → Search rules region steps members number (left ∷ lefts)
      → Looked members pool after lefts
  left_looked steps members lefts (leads_rest {rest} {brought} brings leads) keys search = window_looked steps members lefts rest brought brings leads keys search
  left_looked {pool} steps members lefts leads_region keys search = looked_none (suc steps) members pool lefts keys (looks search looks_out)
  left_looked {pool} steps members lefts leads_end keys search = looked_none (suc steps) members pool lefts keys (looks search looks_end)
  left_looked {pool} steps members lefts leads_trap keys search = looked_none (suc steps) members pool lefts keys (looks search looks_trap)

  -- the leaves of one side of a test stand before those of the other
  first_side : (steps : ℕ) (members : List Window) (one other : Row Left) (lefts : List Left)
      → Search rules region steps members number ((leaves_of one ++ leaves_of other) ++ lefts)
      → Search rules region steps members number (leaves_of one ++ (leaves_of other ++ lefts))
  first_side steps members one other lefts search =
      subst (λ (l : List Left). Search rules region steps members number l) (append_assoc (leaves_of one) (leaves_of other) lefts) search

  pub row_looked : {written : List Pair} {next later : ℕ} {pool after : Pool} {row : Row Left} {other : Row AutomatonLeaf} (steps : ℕ) (members : List Window)
      (lefts : List Left)
      → RowLeads rules written next pool row other later after → AreKeys members pool → Search rules region steps members number (leaves_of row ++ lefts)
      → Looked members pool after lefts
  row_looked steps members lefts (leads_plain none leads) keys search = row_looked steps members lefts leads keys search
  row_looked steps members lefts (leads_written some leads) keys search = row_looked steps members lefts leads keys search
  row_looked {pool} steps members lefts (leads_test {on_yes} {on_no} one other) keys search =
      let a = row_looked steps members (leaves_of on_no ++ lefts) one keys (first_side steps members on_yes on_no lefts search) in
      let b = row_looked a.steps (members ++ a.added) lefts other a.keys a.search in
      let same : (members ++ a.added) ++ b.added ≡ members ++ (a.added ++ b.added) = append_assoc members a.added b.added in
      record {
        added = a.added ++ b.added;
        waits = b.waits ∙ ap (λ (l : List Window). l ++ b.added) a.waits ∙ append_assoc pool.waiting a.added b.added;
        keys = b.keys ∙ ap (map key_of) same;
        steps = b.steps;
        search = subst (λ (l : List Window). Search rules region b.steps l number lefts) same b.search;
      }
  row_looked steps members lefts (leads_leaf leads) keys search = left_looked steps members lefts leads keys search

  -- ---- too many members

  module _ (rows : ℕ) where
    window_refused : {pool : Pool} {error : SearchError} (steps : ℕ) (members : List Window) (lefts : List Left) (rest brought : Window)
        → BringsOn rules rest brought → WindowRefused rows pool brought error → AreKeys members pool
        → Search rules region steps members number (Rest rest ∷ lefts) → IsNotFound rules region rows error
    window_refused steps members lefts rest brought brings refused_memory keys search = tt
    window_refused {pool} steps members lefts rest brought brings (refused_many {reached} none new many is) keys search =
        let member = renumbered brought in
        let more = looks search (looks_new brings none (new_member members pool brought keys new) refl) in
        let keys_more = is ∙ more_keys members pool rest brought member keys brings (brought_proper brought search brings) refl in
        let count = length-append members (member ∷ []) in
        let as_many = ap (λ (ks : List (List ℕ)). length ks) keys ∙ length-map members key_of in
        record {
          none = record {
            members = members ++ (member ∷ []);
            reached = (suc steps, number, lefts, more);
            many = omega (arith, count, as_many, many);
          };
          keys_of = keys_more;
          differ = subst AreDifferent (sym keys_more) (members_differ rules keeps room region more);
        }

    left_refused : {pool : Pool} {left : Left} {error : SearchError} (steps : ℕ) (members : List Window) (lefts : List Left)
        → LeftRefused rules rows pool left error → AreKeys members pool → Search rules region steps members number (left ∷ lefts)
        → IsNotFound rules region rows error
    left_refused steps members lefts refused_here keys search = tt
    left_refused steps members lefts (refused_rest {rest} {brought} brings refused) keys search =
        window_refused steps members lefts rest brought brings refused keys search

    -- a search that comes to too many members at a leaf of a row has no pattern
    pub row_refused : {pool : Pool} {row : Row Left} {error : SearchError} (steps : ℕ) (members : List Window) (lefts : List Left)
        → RowRefused rules rows pool row error → AreKeys members pool → Search rules region steps members number (leaves_of row ++ lefts)
        → IsNotFound rules region rows error
    row_refused steps members lefts refused_row keys search = tt
    row_refused steps members lefts (refused_below refused) keys search = row_refused steps members lefts refused keys search
    row_refused steps members lefts (refused_yes {on_yes} {on_no} refused) keys search =
        row_refused steps members (leaves_of on_no ++ lefts) refused keys (first_side steps members on_yes on_no lefts search)
    row_refused steps members lefts (refused_no {on_yes} {on_no} one refused) keys search =
        let a = row_looked steps members (leaves_of on_no ++ lefts) one keys (first_side steps members on_yes on_no lefts search) in
        row_refused a.steps (members ++ a.added) lefts refused a.keys a.search
    row_refused steps members lefts (refused_leaf refused) keys search = left_refused steps members lefts refused keys search
