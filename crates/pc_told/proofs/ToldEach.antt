-- A recorder that keeps what each window tells has told of each state of a search.
use Rattle.std.proofs.Common.{◌≡◌, ℕ, zero, suc, List, [], ◌∷◌, ◌++◌, length, map, refl, sym, ◌∙◌, ap, subst}
use Rattle.std.specs.Prelude.{Some, slice_get}
use Rattle.std.proofs.lemmas.List.{length-map, map-append}
use Rattle.std.proofs.Common.{append_assoc, append-nil}
use Rattle.pc_word.specs.Row.{Row}
use Rattle.pc_table.specs.Table.{Table}
use Rattle.pc_window.specs.Kept.{Left}
use Rattle.pc_window.specs.Names.{uses, parameters_of}
use Rattle.pc_window.specs.Steps.{FillsTo, cut_row}
use Rattle.pc_window.specs.Tree.{whole}
use Rattle.pc_window.specs.WindowRun.{Window}
use Rattle.pc_window.proofs.FirstJumps.{filled_one}
use Rattle.pc_canon.specs.Pairs.{themselves}
use Rattle.pc_automaton.specs.Automaton.{AutomatonState}
use Rattle.pc_pattern.specs.NamedRow.{RowsNamed}
use Rattle.pc_pattern.specs.Recording.{TakesEach, took_none, took_one_more, EachFilled, IsRecorded}
use Rattle.pc_pattern.specs.Searches.{Rules, LeafFor, StateFor, IsPattern}
use Rattle.pc_pattern.proofs.Keys.{map_at}
use Rattle.pc_waiting.specs.declared.obstacle.Waiting.{Waiting}
use Rattle.pc_waiting.specs.Waiting.{WhatWaits}
use Rattle.pc_told.specs.Tellings.{Telling, telling_of, row_told, first_iteration, HasToldWaits}
use Rattle.pc_told.specs.ToldRows.{LeafIsTold, IsTold, ToldAt, AreTold}
use Rattle.pc_told.proofs.ToldFronts.{front_told}

-- ---- what was taken

-- these wait behind the fronts of these windows, one by one
abbrev pub EachWaits : List Window → List (List Waiting) → Type 0
EachWaits [] [] = Unit {0}
EachWaits (w ∷ windows) (found ∷ waits) = WhatWaits (first_iteration w) w found × EachWaits windows waits
EachWaits _ _ = ⊥

-- the table stays, and what each window tells, and what waits behind it, are put behind what was told before
pub record Tells {R : Type 0} (table : R → Table) (rows : R → List Telling) (waits : R → List (List Waiting)) (before after : R) (windows : List Window) : Type 0 where
  pub stays : table after ≡ table before
  pub told : rows after ≡ rows before ++ map (telling_of (table before)) windows
  pub found : List (List Waiting)
  pub wait : EachWaits windows found
  pub told_waits : waits after ≡ waits before ++ found

each_waits-append : (windows : List Window) (found : List (List Waiting)) (w : Window) (last : List Waiting) → EachWaits windows found
    → WhatWaits (first_iteration w) w last → EachWaits (windows ++ (w ∷ [])) (found ++ (last ∷ []))
each_waits-append [] [] w last wait here = (here, tt)
each_waits-append [] (x ∷ found) w last wait here = absurd wait
each_waits-append (v ∷ windows) [] w last wait here = absurd wait
each_waits-append (v ∷ windows) (x ∷ found) w last wait here = (wait.0, each_waits-append windows found w last wait.1 here)

module _ {R : Type 0} (takes : R → Window → R → Type 0) (table : R → Table) (rows : R → List Telling) (waits : R → List (List Waiting))
    (one : (before after : R) (window : Window) → takes before window after
    → (table after ≡ table before) × (rows after ≡ rows before ++ (telling_of (table before) window ∷ [])) × HasToldWaits (waits before) (waits after) window) where
  pub each_told : {before after : R} {windows : List Window} → TakesEach takes before windows after → Tells table rows waits before after windows
  each_told {before} took_none =
      record { stays = refl; told = sym (append-nil (rows before)); found = []; wait = tt; told_waits = sym (append-nil (waits before)) }
  each_told {before} (took_one_more {windows} {mid} {after} {window} earlier last) =
      let h = each_told earlier in
      let more = one mid after window last in
      let here = more.2 in
      record {
        stays = more.0 ∙ h.stays;
        told = more.1
            ∙ ap (λ (t : Table). rows mid ++ (telling_of t window ∷ [])) h.stays
            ∙ ap (λ (l : List Telling). l ++ (telling_of (table before) window ∷ [])) h.told
            ∙ append_assoc (rows before) (map (telling_of (table before)) windows) (telling_of (table before) window ∷ [])
            ∙ ap (λ (l : List Telling). rows before ++ l) (sym (map-append (telling_of (table before)) windows (window ∷ [])));
        found = h.found ++ (here.found ∷ []);
        wait = each_waits-append windows h.found window here.found h.wait here.are;
        told_waits = here.told
            ∙ ap (λ (l : List (List Waiting)). l ++ (here.found ∷ [])) h.told_waits
            ∙ append_assoc (waits before) h.found (here.found ∷ []);
      }

-- ---- of which state

filled_at : (members filled : List Window) → EachFilled members filled → (number : ℕ) (w : Window) → slice_get members number ≡ Some w
    → (v : Window) × (slice_get filled number ≡ Some v) × FillsTo w v
filled_at [] [] fills number w at = absurd (cc)
filled_at [] (v ∷ filled) fills number w at = absurd fills
filled_at (x ∷ members) [] fills number w at = absurd fills
filled_at (x ∷ members) (v ∷ filled) fills zero w at =
    let same : x ≡ w = cc in (v, refl, subst (λ (u : Window). FillsTo u v) same fills.0)
filled_at (x ∷ members) (v ∷ filled) fills (suc number) w at = filled_at members filled fills.1 number w at

as_many_filled : (members filled : List Window) → EachFilled members filled → length filled ≡ length members
as_many_filled [] [] fills = refl
as_many_filled [] (v ∷ filled) fills = absurd fills
as_many_filled (x ∷ members) [] fills = absurd fills
as_many_filled (x ∷ members) (v ∷ filled) fills = ap (λ (n : ℕ). suc n) (as_many_filled members filled fills.1)

-- what waits behind the window with this number
waits_at : (windows : List Window) (waits : List (List Waiting)) → EachWaits windows waits → (number : ℕ) (w : Window) → slice_get windows number ≡ Some w
    → (found : List Waiting) × (slice_get waits number ≡ Some found) × WhatWaits (first_iteration w) w found
waits_at [] [] wait number w at = absurd (cc)
waits_at [] (found ∷ waits) wait number w at = absurd wait
waits_at (v ∷ windows) [] wait number w at = absurd wait
waits_at (v ∷ windows) (found ∷ waits) wait zero w at =
    let same : v ≡ w = cc in (found, refl, subst (λ (u : Window). WhatWaits (first_iteration u) u found) same wait.0)
waits_at (v ∷ windows) (found ∷ waits) wait (suc number) w at = waits_at windows waits wait.1 number w at

as_many_wait : (windows : List Window) (waits : List (List Waiting)) → EachWaits windows waits → length waits ≡ length windows
as_many_wait [] [] wait = refl
as_many_wait [] (found ∷ waits) wait = absurd wait
as_many_wait (v ∷ windows) [] wait = absurd wait
as_many_wait (v ∷ windows) (found ∷ waits) wait = ap (λ (n : ℕ). suc n) (as_many_wait windows waits wait.1)

-- what the window tells that a member is filled to is told of its state, with what waits there
is_told : (rules : Rules) (members : List Window) (w v : Window) (state : AutomatonState) (waiting : List Waiting) → StateFor rules members w state → FillsTo w v
    → WhatWaits (first_iteration v) v waiting → IsTold rules members w state (telling_of rules.table v) waiting
is_told rules members w v state waiting for_state fills waits =
    let filled = for_state.row_for.filled in
    let same : filled ≡ v = filled_one (uses (whole w.front)) w filled v for_state.row_for.fills fills in
    let cut : RowsNamed (LeafFor rules members) (themselves (parameters_of (whole w.front))) (cut_row rules.table filled filled.front) state.row =
    subst (λ (row : Row Left). RowsNamed (LeafFor rules members) (themselves (parameters_of (whole w.front))) row state.row) for_state.row_for.cuts
    for_state.matches in
    record {
      filled = filled;
      fills = for_state.row_for.fills;
      tells = ap (telling_of rules.table) (sym same);
      waits = subst (λ (u : Window). WhatWaits (first_iteration u) u waiting) (sym same) waits;
      matches = subst (λ (u : Window). RowsNamed (LeafIsTold rules members (first_iteration filled)) (themselves (parameters_of (whole w.front))) (row_told (telling_of rules.table u)) state.row)
          same (front_told rules members filled (first_iteration filled) filled.front cut);
    }

-- what the filled members tell is told of the states of a search, with what waits
pub are_told : (rules : Rules) (region rows : ℕ) (states : List AutomatonState) (pattern : IsPattern rules region rows states) (filled : List Window)
    → EachFilled pattern.members filled → (tellings : List Telling) → tellings ≡ map (telling_of rules.table) filled
    → (waits : List (List Waiting)) → EachWaits filled waits → AreTold rules region rows states tellings waits
are_told rules region rows states pattern filled fills tellings told waits wait =
    record {
      pattern = pattern;
      as_many = ap (λ (l : List Telling). length l) told ∙ length-map filled (telling_of rules.table)
          ∙ as_many_filled pattern.members filled fills ∙ sym pattern.automates.as_many;
      as_many_wait = as_many_wait filled waits wait ∙ as_many_filled pattern.members filled fills ∙ sym pattern.automates.as_many;
      each = λ number w at.
          let here = pattern.automates.each number w at in
          let window = filled_at pattern.members filled fills number w at in
          let found = waits_at filled waits wait number window.0 window.1 in
          record {
            state = here.0;
            telling = telling_of rules.table window.0;
            waiting = found.0;
            there = here.1;
            beside = subst (λ (l : List Telling). slice_get l number ≡ Some (telling_of rules.table window.0)) (sym told)
                (map_at (telling_of rules.table) filled number window.0 window.1);
            behind = found.1;
            is = is_told rules pattern.members w window.0 here.0 found.0 here.2 window.2 found.2;
          };
    }
