-- The numbers of cycles are whole.
use Rattle.std.proofs.Common.{◌≡◌, refl, ℕ, suc, false, List, [], ◌∷◌, ◌++◌, map, Option, Some, None}
use Rattle.std.specs.Prelude.{codes}
use Rattle.std.specs.List.{AllByRecursion}
use Rattle.pc_cycles.specs.declared.chain.Chain.{Chain}
use Rattle.pc_cycles.specs.declared.chain.Link.{Link}
use Rattle.pc_cycles.specs.declared.cycle.Cycle.{Cycle}
use Rattle.pc_cycles.specs.declared.transition.Transition.{Transition}
use Rattle.serde_json.specs.Data.{Data}
use Rattle.serde_json.specs.View.{items_of}
use Rattle.serde_json.specs.Written.{has_float, items_have_float}
use Rattle.pc_json.specs.Json.{count_field, field, list_of, whole}
use Rattle.pc_json.proofs.Whole.{object-whole}
use Rattle.pc_explain.specs.Explained.{LoopSchedule}
use Rattle.pc_explain.specs.Links.{link_line}
use Rattle.pc_cycles.specs.Bounds.{chain_bound}
use Rattle.pc_explain_json.specs.CycleJson.{link_json, links_json, chain_json, way_fields, count_fields, bound_fields, cycle_json}

numbers-whole : (transitions : List Transition) → items_have_float (items_of (map (λ transition. whole transition.state) transitions)) ≡ false
numbers-whole [] = refl
numbers-whole (first ∷ rest) = numbers-whole rest

module _ (lines : List ℕ) (schedule : LoopSchedule) (transitions : List Transition) where
  -- the line of a link before others
  link-whole : (item line : Option ℕ) (others : List Data) → items_have_float (items_of others) ≡ false
      → items_have_float (items_of (link_json item line ++ others)) ≡ false
  link-whole None line others wholes = wholes
  link-whole (Some item) None others wholes = wholes
  link-whole (Some item) (Some line) others wholes = wholes

  links-whole : (at : ℕ) (links : List Link) → items_have_float (items_of (links_json lines schedule transitions at links)) ≡ false
  links-whole at [] = refl
  links-whole at (link ∷ rest) =
      link-whole link.item (link_line lines schedule.states schedule.tellings transitions at link) (links_json lines schedule transitions (suc at) rest)
      (links-whole (suc at) rest)

  chain-whole : (chain : Option Chain) → has_float (chain_json lines schedule transitions chain) ≡ false
  chain-whole None = refl
  chain-whole (Some chain) =
      object-whole
      (count_field (codes "items") chain.items
      ∷ count_field (codes "rounds") chain.rounds
      ∷ field (codes "lines") (list_of (links_json lines schedule transitions 0 chain.links))
      ∷ count_field (codes "least_rows") (chain_bound chain)
      ∷ [])
      (refl, (refl, (links-whole 0 chain.links, (refl, tt))))

module _ (lines : List ℕ) (schedule : LoopSchedule) where
  cycle-whole : (cycle : Cycle) → has_float (cycle_json lines schedule cycle) ≡ false
  cycle-whole cycle =
      object-whole (way_fields cycle.transitions ++ (count_fields cycle ++ bound_fields lines schedule cycle)) (
        numbers-whole cycle.transitions,
        (refl, (refl, (refl, (refl, (refl, (refl, (refl, (refl, (chain-whole lines schedule cycle.transitions cycle.chain, (refl, (refl, tt))))))))))),
      )

  pub cycles-whole : (cycles : List Cycle) → AllByRecursion (λ value. has_float value ≡ false) (map (cycle_json lines schedule) cycles)
  cycles-whole [] = tt
  cycles-whole (cycle ∷ rest) = (cycle-whole cycle, cycles-whole rest)
