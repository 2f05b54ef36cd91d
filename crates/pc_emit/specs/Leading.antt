-- To which regions a form leads, and which regions are reachable from region 0.
use Rattle.std.specs.Prelude.{◌≡◌, ℕ, List, [], ◌∷◌, ◌++◌, Contains, Option, Some}
use Rattle.std.specs.List.{flat_map}
use Rattle.pc_word.specs.Row.{leaves_of}
use Rattle.pc_table.specs.Table.{TableTree, Does, Asks, Next, Stops_here, Traps_here, Table, region_tree}
use Rattle.pc_automaton.specs.declared.automaton.AutomatonLeaf.{AutomatonLeaf}
use Rattle.pc_automaton.specs.declared.automaton.AutomatonLeaf.TheVariants.{To, Out, Stop, Trap}
use Rattle.pc_automaton.specs.Automaton.{AutomatonState}
use Rattle.pc_emit.specs.Emitted.{RegionForm, Plain, ByAutomaton}

-- the regions that a tree names, in preorder, the yes side first
abbrev pub tree_leads : TableTree → List ℕ
tree_leads (Does origin item rest) = tree_leads rest
tree_leads (Asks origin on on_yes on_no) = tree_leads on_yes ++ tree_leads on_no
tree_leads (Next region) = region ∷ []
tree_leads Stops_here = []
tree_leads (Traps_here kind line) = []

-- the region that a leaf of a state leads out to
abbrev pub leaf_leads : AutomatonLeaf → List ℕ
leaf_leads (To state arguments) = []
leaf_leads (Out region homes) = region ∷ []
leaf_leads Stop = []
leaf_leads (Trap kind line) = []

-- the regions that states lead out to, in the order of the states and then of their leaves
abbrev pub states_lead : List AutomatonState → List ℕ
states_lead states = flat_map (λ state. flat_map leaf_leads (leaves_of state.row)) states

-- the regions that a region with this tree leads to in a form
abbrev pub form_leads : TableTree → RegionForm → List ℕ
form_leads tree Plain = tree_leads tree
form_leads tree (ByAutomaton states registers) = states_lead states

-- region 0, and each region that such a region leads to in its form
pub data IsMet (table : Table) (forms : ℕ → Option RegionForm) : (region : ℕ) → Type 0 where
  Met_first : IsMet table forms 0
  Met_behind : {from region : ℕ} {form : RegionForm} →
      IsMet table forms from →
      forms from ≡ Some form →
      Contains (form_leads (region_tree table from) form) region →
      IsMet table forms region
