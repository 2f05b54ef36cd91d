-- The rows of one region.
use Rattle.std.proofs.Common.{◌≡◌, ℕ, ◌+◌, ◌<◌, ◌≤◌, List, length, Option, Some, None, sym, ◌∙◌, ap, subst, arith}
use Rattle.std.specs.Prelude.{slice_get, slice_index}
use Rattle.std.proofs.lemmas.List.{length-map}
use Rattle.std.proofs.lemmas.Option.{slice_get_within}
use Rattle.pc_table.specs.Table.{TableTree, region_tree}
use Rattle.pc_table.specs.TableKeeps.{units}
use Rattle.pc_automaton.specs.Automaton.{AutomatonState, state_in}
use Rattle.pc_word.specs.declared.row_tree.RowTree.{RowTree}
use Rattle.pc_machine.specs.declared.tree.Leaf.{Leaf}
use Rattle.pc_machine.specs.MachineCode.{rows_of}
use Rattle.pc_emit.specs.Bytes.{tree_bytes, states_bytes}
use Rattle.pc_emit.specs.Emitted.{RegionForm, Plain, ByAutomaton, RegionStands, StateStands}
use Rattle.pc_emit.specs.Emitting.{NamesHaveForms}
use Rattle.pc_emit.specs.declared.output.Output.{Output}
use Rattle.pc_emit.specs.declared.plan.Plan.{Plan}
use Rattle.pc_emit.specs.declared.packed.PackedSite.{PackedSite}
use Rattle.pc_emit.specs.models.Output.{bytes_of}
use Rattle.pc_emit.specs.models.Layout.{rows_in, table_in, forms_at, emission_in, rows_end, states_at, registers_at, IsPlan, IsSite}
use Rattle.pc_emit.specs.models.Packing.{StatesMade}
use Rattle.pc_emit.specs.models.Making.{bytes_in, TreeMade, RegionMade}
use Rattle.pc_emit.proofs.Entries.{region_within}
use Rattle.pc_emit.proofs.Ways.{same_copies}
use Rattle.pc_emit.proofs.States.{bytes_made}

-- two forms of one region are one
one_form : {forms : Option RegionForm} {form other : RegionForm} → forms ≡ Some form → forms ≡ Some other → form ≡ other
one_form e f = cc

module _ (plan : Plan) (region : ℕ) where
  -- a region without a form has no rows
  pub none_made : (output : Output) → forms_at plan region ≡ None → RegionMade plan output region
  none_made output e = record { stands = λ form has. absurd (none_given form (sym e ∙ has)) }
    where
      none_given : (form : RegionForm) → None ≡ Some form → ⊥
      none_given form bad = cc

  pub none_rows : forms_at plan region ≡ None → rows_in (region_tree (table_in plan) region) (forms_at plan region) ≡ 0
  none_rows e = ap (rows_in (region_tree (table_in plan) region)) e

  -- a plain one has those of its tree
  pub plain_made : (output : Output) (row : ℕ) (tree : TableTree) → forms_at plan region ≡ Some Plain → tree ≡ region_tree (table_in plan) region
      → row ≡ slice_index plan.entries.now region → TreeMade plan output row tree → RegionMade plan output region
  plain_made output row tree e is at made = record {
    stands = λ form has final stays.
        subst (RegionStands (emission_in plan) final region) (one_form e has)
        ((subst (λ (n : ℕ). TreeMade plan output n (region_tree (table_in plan) region)) at (subst (TreeMade plan output row) is made)).stands final stays);
  }

  pub plain_rows : (tree : TableTree) → forms_at plan region ≡ Some Plain → tree ≡ region_tree (table_in plan) region
      → rows_in (region_tree (table_in plan) region) (forms_at plan region) ≡ units tree
  plain_rows tree e is = ap (rows_in (region_tree (table_in plan) region)) e ∙ ap units (sym is)

  pub plain_short : (old new : Output) (tree : TableTree) → forms_at plan region ≡ Some Plain → tree ≡ region_tree (table_in plan) region
      → new.copies.items ≡ old.copies.items → bytes_of (rows_of new.rows) ≤ bytes_of (rows_of old.rows) + tree_bytes tree
      → bytes_made new ≤ bytes_made old + bytes_in (region_tree (table_in plan) region) (forms_at plan region)
  plain_short old new tree e is same short =
      let counted = ap (bytes_in (region_tree (table_in plan) region)) e ∙ ap tree_bytes (sym is) in
      let copies = ap (λ (l : List (RowTree Leaf)). bytes_of (rows_of l)) same in
      omega (arith, counted, copies, short)

  pub plain_names : (tree : TableTree) → IsPlan plan → forms_at plan region ≡ Some Plain → tree ≡ region_tree (table_in plan) region
      → NamesHaveForms (table_in plan) (forms_at plan) tree
  plain_names tree is e same = subst (NamesHaveForms (table_in plan) (forms_at plan)) (sym same) (is.forms.each region Plain e)

  pub plain_few : (tree : TableTree) (row : ℕ) → IsPlan plan → forms_at plan region ≡ Some Plain → tree ≡ region_tree (table_in plan) region
      → row ≡ slice_index plan.entries.now region → row + units tree ≤ rows_end plan
  plain_few tree row is e same at =
      let within = region_within plan is region Plain e in
      let many = ap units same in
      omega (arith, within, many, at)

  -- a packed one has those of its states
  module _ (site : PackedSite) (its : site.region ≡ region) (e : forms_at plan region ≡ Some (ByAutomaton (states_at site) (registers_at site))) where
    pub packed_site : IsPlan plan → site.first ≡ slice_index plan.entries.now region → IsSite plan site
    packed_site is at = record {
      begins = at ∙ ap (slice_index plan.entries.now) (sym its);
      form = ap (forms_at plan) its ∙ e;
      few =
          let within = region_within plan is region (ByAutomaton (states_at site) (registers_at site)) e in
          let many = length-map site.automaton.now state_in in
          omega (arith, within, many, at);
    }

    pub packed_made : (output : Output) → StatesMade plan site (length site.automaton.now) output → RegionMade plan output region
    packed_made output made = record {
      stands = λ form has final stays.
          subst (RegionStands (emission_in plan) final region) (one_form e has)
          (λ number state there. subst (λ (r : ℕ). StateStands (emission_in plan) final r (states_at site) (registers_at site) number state) its
          ((made.each number state (within number state there) there).stands final stays));
    }
      where
        within : (number : ℕ) (state : AutomatonState) → slice_get (states_at site) number ≡ Some state → number < length site.automaton.now
        within number state there =
            let less = slice_get_within (states_at site) number state there in
            let many = length-map site.automaton.now state_in in
            omega (arith, less, many)

    pub packed_rows : rows_in (region_tree (table_in plan) region) (forms_at plan region) ≡ length site.automaton.now
    packed_rows = ap (rows_in (region_tree (table_in plan) region)) e ∙ length-map site.automaton.now state_in

    pub packed_bytes_in : bytes_in (region_tree (table_in plan) region) (forms_at plan region) ≡ states_bytes (states_at site)
    packed_bytes_in = ap (bytes_in (region_tree (table_in plan) region)) e

pub ruleset regions = (
  none_made,
  none_rows,
  plain_made,
  plain_rows,
  plain_short,
  plain_names,
  plain_few,
  packed_site,
  packed_made,
  packed_rows,
  packed_bytes_in,
  same_copies,
)
