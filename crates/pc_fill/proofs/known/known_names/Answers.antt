use Rattle.std.proofs.Common.{ℕ, ◌≡◌, ◌<◌, ◌∙◌, sym, ap, subst, false}
use Rattle.std.specs.Prelude.{replicate}
use Rattle.std.specs.List.{AllByRecursion}
use Rattle.pc_window.specs.Tree.{whole}
use Rattle.pc_window.specs.Names.{parameters_of}
use Rattle.pc_window.specs.StoredWindow.{window_in}
use Rattle.pc_window.proofs.Listed.{parameters-below}
use Rattle.pc_fill.specs.models.Places.{known_in}
use Rattle.pc_fill.specs.models.Known.{with_names}
use Rattle.pc_fill.proofs.Marks.{written_back, parameters_are}
use Rattle.pc_fill.proofs.known.known_names.Goals as goal

pub mark_names-requires : goal.mark_names-requires
mark_names-requires c =
    let window = window_in c.args.window.now in
    let below : AllByRecursion (λ (name : ℕ). name < window.next) c.args.parameters.now =
    subst (AllByRecursion (λ (name : ℕ). name < window.next)) (sym c.requires.parameters) (parameters-below window.next (whole window.front) c.requires.proper.names_below) in
    subst (λ (n : ℕ). AllByRecursion (λ (name : ℕ). name < n) c.args.parameters.now) (sym (c.deref_mut.ensures.len ∙ c.in_ok-table.ensures.len ∙ c.len.ensures)) below

pub returns : goal.returns
returns c =
    let tree = whole (window_in c.args.window.now).front in
    let items : c.in_ok-table.table.items ≡ replicate c.len.result false = c.in_ok-table.ensures.items_if_clones_equal (λ y e. e) in
    let size = c.mark_names.auto.table ∙ c.deref_mut.ensures.len in
    let marked : known_in c.mark_names.new.table ≡ with_names (parameters_of tree) (known_in (replicate c.len.result false)) =
    c.mark_names.ensures ∙ (λ i. with_names (c.requires.parameters i) (known_in ((c.deref_mut.ensures.value ∙ items) i))) in
    ap known_in (written_back c.mark_names.new.table c.in_ok-table.table.items c.in_ok-table.table.len size) ∙ parameters_are tree c.mark_names.new.table c.len.result marked
