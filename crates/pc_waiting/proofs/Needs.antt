-- What something reads is known before the row exactly where nothing above it writes it.
use Rattle.std.proofs.Common.{◌≡◌, ℕ, suc, ◌+◌, ◌-◌, Bool, true, false, List, [], ◌∷◌, Option, Some, None, refl, ap, ◌∙◌, sym}
use Rattle.std.specs.Prelude.{◌||◌, if◌then◌else◌, nat_eq}
use Rattle.std.specs.List.{AllByRecursion}
use Rattle.std.specs.Option.{option_or}
use Rattle.std.proofs.lemmas.Bool.{eqb-true}
use Rattle.pc_word.proofs.Lists.{all_both}
use Rattle.pc_word.proofs.Truth.{or_second}
use Rattle.pc_word.specs.declared.item.Operand.{Operand}
use Rattle.pc_word.specs.declared.item.Operand.TheVariants.{Name, Lit}
use Rattle.pc_word.specs.Items.{dest_of}
use Rattle.pc_word.specs.Commit.{writes}
use Rattle.pc_window.specs.Tree.{Tree, Pending, Undecided, Exit, Stop_exit, Trap_exit, Front, Issued, Split, Unfinished, whole, tree_size}
use Rattle.pc_window.specs.Names.{IsKnown, IsNew, Scoped}
use Rattle.pc_waiting.specs.declared.obstacle.Obstacle.{Obstacle}
use Rattle.pc_waiting.specs.declared.obstacle.Obstacle.TheVariants as told
use Rattle.pc_waiting.specs.declared.path.Kind.TheVariants as kind
use Rattle.pc_waiting.specs.declared.path.Above.{Above}
use Rattle.pc_waiting.specs.Waiting.{Standing, standing_in, standing_behind, kind_writes, writer_of, needed_by, needed}

-- neither of two is there where the first of them is not
pub neither : (a b : Option Obstacle) → option_or a b ≡ None → (a ≡ None) × (b ≡ None)
neither None b e = (refl, e)
neither (Some a) b e = absurd (cc)

module _ (base : ℕ → Bool) (first : ℕ) where
  -- known names once these stand above
  abbrev pub known_below : List Above → ℕ → Bool
  known_below [] x = base x
  known_below (last ∷ above) x = kind_writes last.kind x || known_below above x

  -- none of these writes a name that is known before the window
  abbrev pub Apart : List Above → Type 0
  Apart above = AllByRecursion (λ last. (x : ℕ) → base x ≡ true → kind_writes last.kind x ≡ false) above

  -- ---- names, operands and lists of them

  unwritten_known : (above : List Above) (x : ℕ) → writer_of first above x ≡ None → known_below above x ≡ true → base x ≡ true
  unwritten_known [] x e h = h
  unwritten_known (last ∷ above) x e h = by (kind_writes last.kind x) (unwritten_known above x) e h
    where
      by : (b : Bool) → (writer_of first above x ≡ None → known_below above x ≡ true → base x ≡ true)
          → (if b then Some (told.Needs (last.tag - first) last.origin) else writer_of first above x) ≡ None → (b || known_below above x) ≡ true → base x ≡ true
      by true rest e h = absurd (cc)
      by false rest e h = rest e h

  known_unwritten : (above : List Above) (x : ℕ) → Apart above → base x ≡ true → writer_of first above x ≡ None
  known_unwritten [] x apart h = refl
  known_unwritten (last ∷ above) x apart h = rw (apart.0 x h) (known_unwritten above x apart.1 h)

  operand_known : (above : List Above) (o : Operand) → needed_by first above o ≡ None → IsKnown (known_below above) o → IsKnown base o
  operand_known above (Name x) e h = unwritten_known above x e h
  operand_known above (Lit value) e h = tt

  operand_free : (above : List Above) (o : Operand) → Apart above → IsKnown base o → needed_by first above o ≡ None
  operand_free above (Name x) apart h = known_unwritten above x apart h
  operand_free above (Lit value) apart h = refl

  all_known : (above : List Above) (operands : List Operand) → needed first above operands ≡ None → AllByRecursion (IsKnown (known_below above)) operands
      → AllByRecursion (IsKnown base) operands
  all_known above [] e h = tt
  all_known above (o ∷ []) e h = (operand_known above o e h.0, tt)
  all_known above (o ∷ p ∷ operands) e h =
      let both = neither (needed_by first above o) (needed first above (p ∷ operands)) e in
      (operand_known above o both.0 h.0, all_known above (p ∷ operands) both.1 h.1)

  all_free : (above : List Above) (operands : List Operand) → Apart above → AllByRecursion (IsKnown base) operands → needed first above operands ≡ None
  all_free above [] apart h = refl
  all_free above (o ∷ []) apart h = operand_free above o apart h.0
  all_free above (o ∷ p ∷ operands) apart h = rw (operand_free above o apart h.0) (all_free above (p ∷ operands) apart h.1)

  -- ---- what stands behind a front

  -- it needs nothing exactly where all that it reads is known before the window
  pub record NeedsWhatIsUnknown (it : Standing) : Type 0 where
    pub free : needed first it.above it.operands ≡ None → AllByRecursion (IsKnown base) it.operands
    pub known : AllByRecursion (IsKnown base) it.operands → needed first it.above it.operands ≡ None

  needs : (it : Standing) → Apart it.above → AllByRecursion (IsKnown (known_below it.above)) it.operands → NeedsWhatIsUnknown it
  needs it apart reads = record { free = λ e. all_known it.above it.operands e reads; known = all_free it.above it.operands apart }

  still_known : (above : List Above) (x : ℕ) → base x ≡ true → known_below above x ≡ true
  still_known [] x h = h
  still_known (last ∷ above) x h = or_second (kind_writes last.kind x) (known_below above x) (still_known above x h)

  -- what an item writes is known nowhere above it
  apart_dest : (above : List Above) (dest : Option ℕ) → IsNew (known_below above) dest → (x : ℕ) → base x ≡ true → writes dest x ≡ false
  apart_dest above None new x h = refl
  apart_dest above (Some d) new x h = elim (nat_eq d x) as (λ b. nat_eq d x ≡ b → b ≡ false) [
    | false ↦ λ e. refl
    | true ↦ λ e. absurd (
        let same : d ≡ x = eqb-true d x e in
        let known : known_below above x ≡ true = still_known above x h in
        let unknown : known_below above x ≡ false = sym (ap (known_below above) same) ∙ new in
        cc
        )
  ] refl

  tree_needs : (tree : Tree) (above : List Above) (place : ℕ) → Apart above → Scoped (known_below above) tree → AllByRecursion NeedsWhatIsUnknown (standing_in above place tree)
  tree_needs (Pending t o y rest) above place apart scoped = (
    needs _ apart scoped.0,
    tree_needs rest (record { tag = t; origin = o; kind = kind.Pending y } ∷ above) (suc place) (apart_dest above (dest_of y) scoped.1, apart) scoped.2,
  )
  tree_needs (Undecided t o on p q) above place apart scoped =
      let last : Above = record { tag = t; origin = o; kind = kind.Undecided } in (
        needs _ apart (scoped.0, tt),
        all_both NeedsWhatIsUnknown (standing_in (last ∷ above) (suc place) p) (standing_in (last ∷ above) (suc (place + tree_size p)) q)
            (tree_needs p (last ∷ above) (suc place) ((λ x h. refl), apart) scoped.1)
            (tree_needs q (last ∷ above) (suc (place + tree_size p)) ((λ x h. refl), apart) scoped.2),
      )
  tree_needs (Exit region tag homes) above place apart scoped = tt
  tree_needs Stop_exit above place apart scoped = tt
  tree_needs (Trap_exit what line) above place apart scoped = tt

  pub front_needs : (front : Front) (above : List Above) (place : ℕ) → Apart above → Scoped (known_below above) (whole front)
      → AllByRecursion NeedsWhatIsUnknown (standing_behind above place front)
  front_needs (Issued t o y rest) above place apart scoped =
      front_needs rest (record { tag = t; origin = o; kind = kind.Issued y } ∷ above) (suc place) (apart_dest above (dest_of y) scoped.1, apart) scoped.2
  front_needs (Split t o on p q) above place apart scoped =
      all_both NeedsWhatIsUnknown (standing_behind above (suc place) p) (standing_behind above (suc (place + tree_size (whole p))) q)
      (front_needs p above (suc place) apart scoped.1) (front_needs q above (suc (place + tree_size (whole p))) apart scoped.2)
  front_needs (Unfinished rest) above place apart scoped = tree_needs rest above place apart scoped
