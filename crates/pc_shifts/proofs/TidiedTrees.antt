-- Trees that are alike have tidied trees that are so too.
use Rattle.std.proofs.Common.{◌≡◌, ℕ, List, ◌∷◌, refl, ap}
use Rattle.std.specs.Prelude.{Bool, true, false, not, ◌&&◌, if◌then◌else◌, nat_eq}
use Rattle.std.proofs.lemmas.Bool.{eqb-true}
use Rattle.pc_word.specs.declared.item.Item.{Item}
use Rattle.pc_word.specs.Items.{dest_of}
use Rattle.pc_word.proofs.Truth.{and_true}
use Rattle.pc_linear.specs.Form.{Form}
use Rattle.pc_window.specs.Tree.{Tree, Pending}
use Rattle.pc_window.specs.Names.{uses}
use Rattle.pc_window.specs.Tidying.{kept_if_used, above, tidied}
use Rattle.pc_canon.specs.Pairs.{Pair, corresponds, defined}
use Rattle.pc_canon.specs.Shift.{ItemsAlike, both_bin, both_copy, both_load, both_store, both_print, both_read, both_more, Maps, DestsAlike, TagsAlike}
use Rattle.pc_canon.specs.Shift.{TreesAlike, both_then, both_either, both_exit, both_stop, both_trap}
use Rattle.pc_shifts.proofs.UsedNames.{used_same, Keeps, tree_kept}

-- what is used corresponds without a definition that is not
without_unused : (names : List Pair) (d d' : ℕ) (P Q : ℕ → Bool) → P d ≡ false → Keeps ((record { one = d; other = d' }) ∷ names) names P Q
without_unused names d d' P Q unused x y p q h = inner (nat_eq d x) (nat_eq d' y) (corresponds names x y) (other (nat_eq d x) refl) h
  where
    other : (b : Bool) → nat_eq d x ≡ b → b ≡ false
    other true e = let same : P d ≡ P x = ap P (eqb-true d x e) in absurd (cc)
    other false e = refl

    inner : (b b' c : Bool) → b ≡ false → (if b then b' else (not b' && c)) ≡ true → c ≡ true
    inner true b' c e h = absurd (cc)
    inner false b' c e h = (and_true (not b') c h).1

module _ {maps : Maps} {f g : ℕ → Form} {names : List Pair} where
  kept_alike : {tag tag' origin : ℕ} {item item' : Item} {rest rest' : Tree} (d d' : ℕ)
      → TreesAlike maps f g names (Pending tag origin item rest) (Pending tag' origin item' rest')
      → TreesAlike maps f g ((record { one = d; other = d' }) ∷ names) rest rest'
      → TreesAlike maps f g names (kept_if_used d tag origin item rest) (kept_if_used d' tag' origin item' rest')
  kept_alike {tag} {tag'} {origin} {item} {item'} {rest} {rest'} d d' whole below = by_use (uses rest d) (uses rest' d') refl (used_same d d' below)
    where
      by_use : (b b' : Bool) → uses rest d ≡ b → b ≡ b'
          → TreesAlike maps f g names (if b then Pending tag origin item rest else rest) (if b' then Pending tag' origin item' rest' else rest')
      by_use true true e k = whole
      by_use false false e k = tree_kept names (without_unused names d d' (λ x. uses rest x) (λ y. uses rest' y) e) below
      by_use true false e k = absurd (cc)
      by_use false true e k = absurd (cc)

  above_alike : (tag tag' origin : ℕ) {item item' : Item} {rest rest' : Tree} → TagsAlike maps tag tag' → DestsAlike maps f g (dest_of item) (dest_of item')
      → TreesAlike maps f g (defined names (dest_of item) (dest_of item')) rest rest' → ItemsAlike names item item'
      → TreesAlike maps f g names (above tag origin item rest) (above tag' origin item' rest')
  above_alike tag tag' origin tags dests below (both_bin {dest} {dest'} h k) = kept_alike dest dest' (both_then tags (both_bin h k) dests below) below
  above_alike tag tag' origin tags dests below (both_copy h) = both_then tags (both_copy h) dests below
  above_alike tag tag' origin tags dests below (both_load {dest} {dest'} h) = kept_alike dest dest' (both_then tags (both_load h) dests below) below
  above_alike tag tag' origin tags dests below (both_store h k) = both_then tags (both_store h k) dests below
  above_alike tag tag' origin tags dests below (both_print h) = both_then tags (both_print h) dests below
  above_alike tag tag' origin tags dests below both_read = both_then tags both_read dests below
  above_alike tag tag' origin tags dests below (both_more {dest} {dest'}) = kept_alike dest dest' (both_then tags both_more dests below) below

pub tidied_alike : (maps : Maps) (f g : ℕ → Form) (names : List Pair) (t u : Tree) → TreesAlike maps f g names t u → TreesAlike maps f g names (tidied t) (tidied u)
tidied_alike maps f g names t u h = by h
  where
    by : {names : List Pair} {t u : Tree} → TreesAlike maps f g names t u → TreesAlike maps f g names (tidied t) (tidied u)
    by (both_then {tag} {tag'} {origin} tags items dests below) = above_alike tag tag' origin tags dests (by below) items
    by (both_either tags test yes_side no_side) = both_either tags test (by yes_side) (by no_side)
    by (both_exit tags h) = both_exit tags h
    by both_stop = both_stop
    by both_trap = both_trap
