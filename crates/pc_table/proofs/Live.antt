-- What a region's run shows depends on the variables that its tree needs alone.
use Rattle.std.proofs.Common.{◌≡◌, ℕ, zero, suc, [], ◌∷◌, Option, Some, None, refl, ◌∙◌, ap}
use Rattle.std.specs.Prelude.{ℤ, pos, Bool, true, false, if◌then◌else◌, ◌||◌, ◌&&◌, not}
use Rattle.pc_word.specs.declared.item.Item.{Item}
use Rattle.pc_word.specs.declared.item.MachineFault.{MachineFault}
use Rattle.pc_word.specs.Run.{Seen, after_printing, seen_of, run_from}
use Rattle.pc_word.specs.Word.{holds}
use Rattle.pc_word.specs.State.{State}
use Rattle.pc_word.specs.Items.{operand_value, dest_of, value_of, reads, reads_name}
use Rattle.pc_word.specs.Commit.{prints_of, fault_of, state_after, writes}
use Rattle.pc_word.specs.Row.{commit_of}
use Rattle.pc_table.specs.Table.{TableTree, Does, Asks, Next, Stops_here, Traps_here, Table, region_tree}
use Rattle.pc_table.specs.RegionRun.{Place, arrive, place_at, lead_on, side_of, region_step, region_run}
use Rattle.pc_table.specs.TableKeeps.{needs, TableKeeps}
use Rattle.pc_table.specs.Laws.{AlikeAtHead}
use Rattle.pc_table.proofs.Tests.{needed_above}
use Rattle.pc_word.proofs.Evaluated.{bare, Alike, Alike-fault, Alike-prints, Alike-value, Alike-after, same_evaluated, same_operand}
use Rattle.pc_word.proofs.Truth.{or_first, or_second}

-- one of two values by a test, where both pairs are equal as far as the test goes
pub pick_same : {X : Type 0} (b : Bool) (v w a c : X) → v ≡ w → (b ≡ false → a ≡ c) → (if b then v else a) ≡ (if b then w else c)
pick_same true v w a c p q = p
pick_same false v w a c p q = q refl

module _ (table : Table) (keeps : TableKeeps table) where
  -- what is needed where a region follows is needed by its tree
  arrive_needs : (tree : TableTree) (x : ℕ) → needs table (arrive table tree) x ≡ true → needs table tree x ≡ true
  arrive_needs (Does origin item rest) x h = h
  arrive_needs (Asks origin on on_yes on_no) x h = h
  arrive_needs (Next region) x h = keeps.live region x h
  arrive_needs Stops_here x h = h
  arrive_needs (Traps_here kind line) x h = h

  -- an item that prints the same, with the same seen after it
  item_same : (item : Item) (tree : TableTree) (s t : State) (rest : Place → Seen) (f : Option MachineFault)
      → prints_of s (item ∷ []) ≡ prints_of t (item ∷ [])
      → rest (place_at table tree (state_after table.arrays s (item ∷ []))) ≡ rest (place_at table tree (state_after table.arrays t (item ∷ [])))
      → seen_of (lead_on (commit_of table.arrays s (item ∷ []) tree f) (place_at table)) rest
      ≡ seen_of (lead_on (commit_of table.arrays t (item ∷ []) tree f) (place_at table)) rest
  item_same item tree s t rest (Some fault) p q = refl
  item_same item tree s t rest None p q = λ d. after_printing (p d) (q d)

  -- the side that a test takes
  side_same : (b : Bool) (one other : TableTree) (s t : State) (rest : Place → Seen)
      → rest (place_at table one s) ≡ rest (place_at table one t) → rest (place_at table other s) ≡ rest (place_at table other t)
      → rest (place_at table (if b then one else other) s) ≡ rest (place_at table (if b then one else other) t)
  side_same true one other s t rest p q = p
  side_same false one other s t rest p q = q

  -- states that agree on what a tree needs show the same from it
  pub run_same : (n : ℕ) (tree : TableTree) (s t : State) → ((x : ℕ) → needs table tree x ≡ true → s.names x ≡ t.names x) → bare s ≡ bare t
      → run_from (region_step table) n (record { tree = tree; state = s }) ≡ run_from (region_step table) n (record { tree = tree; state = t })
  run_same zero tree s t h b = refl
  run_same (suc n) (Does origin item rest) s t h b =
      let alike : Alike s item t item = record {
        items = same_evaluated s.names t.names item (λ x p. h x (or_first (reads item x) (not (writes (dest_of item) x) && needs table rest x) p));
        states = b;
      } in
      let s' = state_after table.arrays s (item ∷ []) in
      let t' = state_after table.arrays t (item ∷ []) in
      item_same item rest s t (run_from (region_step table) n) (fault_of table.arrays s (item ∷ [])) (Alike-prints s item t item alike)
      (run_same n (arrive table rest) s' t'
      (λ x p. pick_same (writes (dest_of item) x) (value_of table.arrays s item) (value_of table.arrays t item) (s.names x) (t.names x) (Alike-value table.arrays s item t item alike)
      (λ w. h x (needed_above (reads item x) (writes (dest_of item) x) (needs table rest x) w (arrive_needs rest x p))))
      (Alike-after table.arrays s item t item alike))
      ∙ ap (λ (f : Option MachineFault). seen_of (lead_on (commit_of table.arrays t (item ∷ []) rest f) (place_at table)) (run_from (region_step table) n))
      (Alike-fault table.arrays s item t item alike)
  run_same (suc n) (Asks origin on on_yes on_no) s t h b =
      let value : operand_value s.names on ≡ operand_value t.names on =
      same_operand s.names t.names on (λ x p. h x (or_first (reads_name on x) (needs table on_yes x || needs table on_no x) p)) in
      ap (λ (out : Seen). after_printing [] out)
      (side_same (holds (operand_value s.names on)) on_yes on_no s t (run_from (region_step table) n)
      (run_same n (arrive table on_yes) s t
      (λ x p. h x (or_second (reads_name on x) (needs table on_yes x || needs table on_no x) (or_first (needs table on_yes x) (needs table on_no x) (arrive_needs on_yes x p)))) b)
      (run_same n (arrive table on_no) s t
      (λ x p. h x (or_second (reads_name on x) (needs table on_yes x || needs table on_no x) (or_second (needs table on_yes x) (needs table on_no x) (arrive_needs on_no x p)))) b))
      ∙ ap (λ (z : ℤ). after_printing [] (run_from (region_step table) n (place_at table (side_of z on_yes on_no) t))) value
  run_same (suc n) (Next region) s t h b = ap (λ (out : Seen). after_printing [] out) (run_same n (region_tree table region) s t (λ x p. h x (arrive_needs (Next region) x p)) b)
  run_same (suc n) Stops_here s t h b = refl
  run_same (suc n) (Traps_here kind line) s t h b = refl

  -- so the run of a region depends on the variables that are live at its head alone
  pub region_same : (region n : ℕ) (s t : State) → AlikeAtHead table region s t → region_run table (Next region) t n ≡ region_run table (Next region) s n
  region_same region n s t alike =
      run_same n (region_tree table region) t s (λ x h. alike.names x (keeps.live region x h))
      (λ d. record { names = λ x. pos 0; cells = alike.cells d; input = alike.input d })
