-- What a change of a window brings: the same run, some units on; and what is pending stays, or the walk's stub is some units on.
use Rattle.std.proofs.Common.{◌≡◌, ℕ, ◌+◌, ◌≤◌, Bool, true, false, List, [], ◌∷◌, ◌++◌, Option, Some, None, refl, sym}
use Rattle.std.proofs.Common.{◌∙◌, ap, subst, ◌⊎◌, inl, inr, append_assoc, append-nil, zero-add, arith}
use Rattle.std.specs.Prelude.{ℤ, max, if◌then◌else◌}
use Rattle.pc_word.specs.declared.item.MachineFault.{MachineFault}
use Rattle.pc_word.specs.declared.item.End.{End}
use Rattle.pc_word.specs.declared.item.End.TheVariants.{Ended, Trapped, Fault}
use Rattle.pc_word.specs.Word.{holds}
use Rattle.pc_word.specs.Run.{Seen, Grows, NeverFaults, after_printing}
use Rattle.pc_word.proofs.Runs.{Begins-refl, Begins-after, run_from-grows}
use Rattle.pc_word.specs.State.{State}
use Rattle.pc_word.specs.Items.{operand_value}
use Rattle.pc_word.specs.Commit.{prints_of, fault_of, state_after}
use Rattle.pc_table.specs.Table.{Table, Next, region_tree}
use Rattle.pc_table.specs.RegionRun.{place_at, region_step, region_run}
use Rattle.pc_table.specs.TableKeeps.{TableKeeps}
use Rattle.pc_window.specs.Tree.{Tree, Pending, Exit, home_of, home_state}
use Rattle.pc_window.specs.Walk.{Walked, Leaves, Finishes, IsWhole, IsWholeEnd, printing, done_first, walk}
use Rattle.pc_window.specs.WindowRun.{follow}
use Rattle.pc_window.specs.Opening.{Supply, graft, TreeBelow}
use Rattle.pc_window.proofs.Grafts.{follow-after}
use Rattle.pc_window.proofs.Unwinding.{Unwound, at_stub, below, at_yes, at_no, homes-below}
use Rattle.pc_certified.proofs.Marked.{counted, mark, marked}
use Rattle.pc_certified.proofs.MarkedWalks.{printed_in, level_in, printed_after, level_after, whole_below, walk_marked, no_fault}
use Rattle.pc_certified.proofs.Units.{grafted_on}

-- ---- what follows a walk

pub follow_grows : (table : Table) (w : Walked) → Grows (follow table w)
follow_grows table (Leaves printed region s) =
    let grows = run_from-grows (region_step table) (place_at table (Next region) s) in
    record {
      prints_more = λ n m le. Begins-after printed (region_run table (Next region) s n).printed (region_run table (Next region) s m).printed (grows.prints_more n m le);
      stays_ended = λ n m e le ended. ap (λ (x : Seen). after_printing printed x) (grows.stays_ended n m e le ended);
    }
follow_grows table (Finishes printed end) = record { prints_more = λ n m le. Begins-refl printed; stays_ended = λ n m e le ended. refl }

-- a walk that is followed by no fault is whole
pub follow_whole : (table : Table) (w : Walked) → NeverFaults (follow table w) → IsWhole w
follow_whole table (Leaves printed region s) never = tt
follow_whole table (Finishes printed end) never = by_end end (λ fault e. never 0 fault (ap (λ (d : End). Some d) e))
  where
    by_end : (d : End) → ((fault : MachineFault) → d ≡ Fault fault → ⊥) → IsWholeEnd d
    by_end Ended h = tt
    by_end (Trapped kind line) h = tt
    by_end (Fault fault) h = h fault refl

-- ---- onwards

-- from a walk w to a walk v, with their marks m and k: the same, some units on; the tags that were pending come first; and the level
-- does not rise, or some unit was passed and the walk did not end
pub record Onwards (table : Table) (w v m k : Walked) : Type 0 where
  pub units : ℕ
  pub same : (n : ℕ) → follow table v n ≡ follow table w (units + n)
  pub more : List ℤ
  pub tags : printed_in k ≡ printed_in m ++ more
  pub level : (level_in k ≤ level_in m) ⊎ ((1 ≤ units) × ((follow table w 0).end ≡ None))

module _ (table : Table) where
  pub onwards_same : (w v m k : Walked) → v ≡ w → k ≡ m → Onwards table w v m k
  onwards_same w v m k e d = record {
    units = 0;
    same = λ n. ap (λ (x : Walked). follow table x n) e ∙ ap (follow table w) (sym (zero-add n));
    more = [];
    tags = ap printed_in d ∙ sym (append-nil (printed_in m));
    level = inl (let h : level_in k ≡ level_in m = ap level_in d in omega (arith, h));
  }

  -- the end of one run is that of the other
  pub not_ended : (w v : Walked) (units : ℕ) → ((n : ℕ) → follow table v n ≡ follow table w (units + n)) → (follow table v 0).end ≡ None → (e : Option End)
      → (follow table w 0).end ≡ e
      → (follow table w 0).end ≡ None
  not_ended w v units same none None e = e
  not_ended w v units same none (Some end) e =
      absurd (let later : follow table w (units + 0) ≡ follow table w 0 = (follow_grows table w).stays_ended 0 (units + 0) end (omega arith) e in
      let ended : (follow table v 0).end ≡ Some end = ap (λ (x : Seen). x.end) (same 0 ∙ later) ∙ e in cc)

  pub onwards_then : (w v u m k l : Walked) → Onwards table w v m k → Onwards table v u k l → Onwards table w u m l
  onwards_then w v u m k l h g = record {
    units = h.units + g.units;
    same = λ n. g.same n ∙ h.same (g.units + n) ∙ ap (follow table w) (let a = h.units in let b = g.units in let e : a + (b + n) ≡ (a + b) + n = omega arith in e);
    more = h.more ++ g.more;
    tags = g.tags ∙ ap (λ (l : List ℤ). l ++ g.more) h.tags ∙ append_assoc (printed_in m) h.more g.more;
    level = levels h.level g.level;
  }
    where
      levels : (level_in k ≤ level_in m) ⊎ ((1 ≤ h.units) × ((follow table w 0).end ≡ None)) → (level_in l ≤ level_in k) ⊎ ((1 ≤ g.units) × ((follow table v 0).end ≡ None))
          → (level_in l ≤ level_in m) ⊎ ((1 ≤ h.units + g.units) × ((follow table w 0).end ≡ None))
      levels (inl p) (inl q) = inl (omega (arith, p, q))
      levels (inr p) q = inr (let one = p.0 in omega (arith, one), p.1)
      levels (inl p) (inr q) = inr (let one = q.0 in omega (arith, one), not_ended w v h.units h.same q.1 (follow table w 0).end refl)

  -- behind an item
  onwards_printing : (out out' : List ℤ) (w v m k : Walked) → Onwards table w v m k → Onwards table (printing out w) (printing out v) (printing out' m) (printing out' k)
  onwards_printing out out' w v m k h = record {
    units = h.units;
    same = λ n. follow-after table out v n ∙ ap (λ (x : Seen). after_printing out x) (h.same n) ∙ sym (follow-after table out w (h.units + n));
    more = h.more;
    tags = printed_after out' k ∙ ap (λ (l : List ℤ). out' ++ l) h.tags ∙ sym (append_assoc out' (printed_in m) h.more) ∙ ap (λ (l : List ℤ). l ++ h.more) (sym (printed_after out' m));
    level = levels h.level;
  }
    where
      levels : (level_in k ≤ level_in m) ⊎ ((1 ≤ h.units) × ((follow table w 0).end ≡ None))
          → (level_in (printing out' k) ≤ level_in (printing out' m)) ⊎ ((1 ≤ h.units) × ((follow table (printing out w) 0).end ≡ None))
      levels (inl p) = inl (let a = level_after out' k in let b = level_after out' m in omega (arith, a, b, p))
      levels (inr p) = inr (p.0, ap (λ (x : Seen). x.end) (follow-after table out w 0) ∙ p.1)

  onwards_item : (f : Option MachineFault) (out out' : List ℤ) (w v m k : Walked) → f ≡ None → Onwards table w v m k
      → Onwards table (done_first f out w) (done_first f out v) (done_first f out' m) (done_first f out' k)
  onwards_item f out out' w v m k e h =
      subst (λ (g : Option MachineFault). Onwards table (done_first g out w) (done_first g out v) (done_first g out' m) (done_first g out' k)) (sym e) (onwards_printing out out' w v m k h)

  onwards_side : (b : Bool) (w v m k w' v' m' k' : Walked) → (b ≡ true → Onwards table w v m k) → (b ≡ false → Onwards table w' v' m' k')
      → Onwards table (if b then w else w') (if b then v else v') (if b then m else m') (if b then k else k')
  onwards_side true w v m k w' v' m' k' p q = p refl
  onwards_side false w v m k w' v' m' k' p q = q refl

  -- ---- unwinding

  whole_side : (b : Bool) (p q : Walked) → IsWhole (if b then p else q) → (b ≡ true → IsWhole p) × (b ≡ false → IsWhole q)
  whole_side true p q h = (λ e. h, λ e. absurd (cc))
  whole_side false p q h = (λ e. absurd (cc), λ e. h)

  module _ (keeps : TableKeeps table) (loop : Option ℕ) (names after : Supply) (base : ℕ) where
    pub unwound_on : {t u : Tree} → Unwound table loop names after t u → TreeBelow names.next t → (s : State) → IsWhole (walk table.arrays t s) → (top : ℕ)
        → Onwards table (walk table.arrays t s) (walk table.arrays u s) (walk table.arrays (marked base top t) s) (walk table.arrays (marked base top u) s)
    unwound_on (at_stub region tag homes tree is kept) b s ok top =
        let later = grafted_on table keeps loop tag region names (home_of homes) s (homes-below names.next homes b) in
        subst (λ (u : Tree). Onwards table (Leaves [] region (home_state s homes)) (walk table.arrays u s) (walk table.arrays (marked base top (Exit region tag homes)) s)
        (walk table.arrays (marked base top u) s)) is
        (record {
          units = later.units;
          same = later.same;
          more = printed_in (walk table.arrays (marked base top (graft table loop tag (region_tree table region) names (home_of homes)).tree) s);
          tags = refl;
          level = inr (later.one, refl);
        })
    unwound_on (below tag origin item {rest = rest} {new = new} u) b s ok top =
        let s' = state_after table.arrays s (item ∷ []) in
        let none = no_fault (fault_of table.arrays s (item ∷ [])) (prints_of s (item ∷ [])) (walk table.arrays rest s') ok in
        let ok' = whole_below (prints_of s (item ∷ [])) (walk table.arrays rest s')
        (subst (λ (f : Option MachineFault). IsWhole (done_first f (prints_of s (item ∷ [])) (walk table.arrays rest s'))) none ok) in
        subst (λ (m : Walked). Onwards table (walk table.arrays (Pending tag origin item rest) s) (walk table.arrays (Pending tag origin item new) s) m
        (walk table.arrays (marked base top (Pending tag origin item new)) s))
        (sym (walk_marked table.arrays base top tag origin item rest s))
        (subst (λ (k : Walked). Onwards table (walk table.arrays (Pending tag origin item rest) s) (walk table.arrays (Pending tag origin item new) s)
        (done_first (fault_of table.arrays s (item ∷ [])) (prints_of s (mark base tag item ∷ [])) (walk table.arrays (marked base top rest) s')) k)
        (sym (walk_marked table.arrays base top tag origin item new s))
        (onwards_item (fault_of table.arrays s (item ∷ [])) (prints_of s (item ∷ [])) (prints_of s (mark base tag item ∷ [])) (walk table.arrays rest s') (walk table.arrays new s')
        (walk table.arrays (marked base top rest) s') (walk table.arrays (marked base top new) s') none (unwound_on u b.1 s' ok' top)))
    unwound_on (at_yes tag origin on {one = one} {new = new} other u) b s ok top =
        let m = max top (counted base tag) in
        let sides = whole_side (holds (operand_value s.names on)) (walk table.arrays one s) (walk table.arrays other s) ok in
        onwards_side (holds (operand_value s.names on)) (walk table.arrays one s) (walk table.arrays new s) (walk table.arrays (marked base m one) s) (walk table.arrays (marked base m new) s)
        (walk table.arrays other s) (walk table.arrays other s) (walk table.arrays (marked base m other) s) (walk table.arrays (marked base m other) s)
        (λ e. unwound_on u b.1 s (sides.0 e) m) (λ e. onwards_same (walk table.arrays other s) (walk table.arrays other s) (walk table.arrays (marked base m other) s)
        (walk table.arrays (marked base m other) s) refl refl)
    unwound_on (at_no tag origin on one {other = other} {new = new} u) b s ok top =
        let m = max top (counted base tag) in
        let sides = whole_side (holds (operand_value s.names on)) (walk table.arrays one s) (walk table.arrays other s) ok in
        onwards_side (holds (operand_value s.names on)) (walk table.arrays one s) (walk table.arrays one s) (walk table.arrays (marked base m one) s) (walk table.arrays (marked base m one) s)
        (walk table.arrays other s) (walk table.arrays new s) (walk table.arrays (marked base m other) s) (walk table.arrays (marked base m new) s)
        (λ e. onwards_same (walk table.arrays one s) (walk table.arrays one s) (walk table.arrays (marked base m one) s) (walk table.arrays (marked base m one) s) refl refl)
        (λ e. unwound_on u b.2 s (sides.1 e) m)
