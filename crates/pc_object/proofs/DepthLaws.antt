-- A row that keeps its limits goes no deeper than a reader may, so a reader that may go deeper reads the same.
use Rattle.std.proofs.Common.{◌≡◌, ℕ, zero, suc, ◌+◌, ◌-◌, ◌<◌, ◌≤◌, ◌&&◌, leb, List, ◌++◌, Result, Ok, Err, refl, sym, ap, subst, ◌∙◌, arith}
use Rattle.std.proofs.lemmas.Bool.{leb-false}
use Rattle.pc_machine.specs.declared.code.Flaw.TheVariants as flaws
use Rattle.pc_machine.specs.declared.check.Bounds.{Bounds}
use Rattle.pc_machine.specs.declared.check.Counts.{Counts}
use Rattle.pc_word.specs.Row.{Then, Either}
use Rattle.pc_machine.specs.Flaws.{flaw_where, Above, above_with, no_counts, nothing_above, counts_with_item, counts_with_test, item_tag_flaws, test_tag_flaws}
use Rattle.pc_object.specs.declared.refusal.Refusal.{Refusal}
use Rattle.pc_object.specs.declared.tag.ItemKind.{ItemKind}
use Rattle.pc_object.specs.declared.tag.Tag.{Tag}
use Rattle.pc_object.specs.declared.tag.Tag.TheVariants as tags
use Rattle.pc_object.specs.Reading.{◌>>=◌, at_field, operand_at, tag_at, is_memory_kind, is_effect_kind, fields_at, ReadsPart, counted_item}
use Rattle.pc_object.specs.Reading.{counted_test, step_at, test_at, behind_tag, row_at, deepest}
use Rattle.pc_object.proofs.FieldLaws.{IsBytes, checked_ok, operand_takes, tag_takes}
use Rattle.pc_object.proofs.RowLaws.{fields_take, row_takes, where_nil, room, counts_grow, nil_parts, ReadsWell}
use Rattle.pc_word.specs.MachineLimits.{most_ops, most_tests}

-- two steps that go on alike from each value are alike
bind_same : {A B : Type 0} (r : Result A Refusal) (f g : A → Result B Refusal) → ((x : A) → r ≡ Ok x → f x ≡ g x) → (r >>= f) ≡ (r >>= g)
bind_same (Ok x) f g same = same x refl
bind_same (Err refusal) f g same = refl

-- two readers are alike where fewer items and tests than this may come
abbrev AreAlike : Bounds → ℕ → ReadsPart → ReadsPart → Type 0
AreAlike bounds depth first second = (counts : Counts) (above : Above) (bytes : List ℕ) → IsBytes bytes → room bounds counts < depth → first counts above bytes ≡ second counts above bytes

module _ (bounds : Bounds) (depth : ℕ) (first second : ReadsPart) (well : ReadsWell bounds first) (alike : AreAlike bounds depth first second) where
  step_same : (counts : Counts) (above : Above) (kind : ItemKind) (bytes : List ℕ) → IsBytes bytes → room bounds counts < depth
      → step_at bounds first counts above kind bytes ≡ step_at bounds second counts above kind bytes
  unfolding step_at
  step_same counts above kind bytes fits few =
      bind_same (fields_at bounds above kind bytes) (λ item. first counts (above_with item.0 above) item.1 >>= λ next. Ok (Then item.0 next.0, next.1, next.2))
      (λ item. second counts (above_with item.0 above) item.1 >>= λ next. Ok (Then item.0 next.0, next.1, next.2))
      (λ item e. rw (alike counts (above_with item.0 above) item.1 (fields_take bounds above kind bytes item fits e).takes.rest_fits few) refl)

  test_same : (counts : Counts) (above : Above) (bytes : List ℕ) → IsBytes bytes → room bounds counts < depth → test_at bounds first counts above bytes ≡ test_at bounds second counts above bytes
  unfolding test_at
  test_same counts above bytes fits few =
      bind_same (operand_at bounds.registers bytes) (λ on. first counts above on.1 >>= λ on_yes. first on_yes.1 above on_yes.2 >>= λ on_no. Ok (Either on.0 on_yes.0 on_no.0, on_no.1, on_no.2))
      (λ on. second counts above on.1 >>= λ on_yes. second on_yes.1 above on_yes.2 >>= λ on_no. Ok (Either on.0 on_yes.0 on_no.0, on_no.1, on_no.2))
      (λ on e.
      let on_fits = (operand_takes bounds.registers bytes on.0 on.1 fits e).0.rest_fits in
      bind_same (first counts above on.1) (λ on_yes. first on_yes.1 above on_yes.2 >>= λ on_no. Ok (Either on.0 on_yes.0 on_no.0, on_no.1, on_no.2))
      (λ on_yes. second on_yes.1 above on_yes.2 >>= λ on_no. Ok (Either on.0 on_yes.0 on_no.0, on_no.1, on_no.2))
      (λ on_yes f.
      let y = well counts above on.1 on_yes on_fits f in
      let grown = counts_grow on_yes.0 counts in
      let fewer : room bounds on_yes.1 < depth = subst (λ (c : Counts). room bounds c < depth) (sym y.counted) (omega (arith, grown.0, grown.1)) in
      rw (alike on_yes.1 above on_yes.2 y.takes.rest_fits fewer) refl)
      ∙ rw (alike counts above on.1 on_fits few) refl)

  behind_same : (counts : Counts) (above : Above) (bytes : List ℕ) (tag : Tag) (rest : List ℕ) → IsBytes rest → room bounds counts < suc depth
      → behind_tag bounds first counts above bytes tag rest ≡ behind_tag bounds second counts above bytes tag rest
  unfolding behind_tag
  behind_same counts above bytes tags.Goto rest fits few = refl
  behind_same counts above bytes tags.Stop rest fits few = refl
  behind_same counts above bytes tags.Trap rest fits few = refl
  behind_same counts above bytes tags.Test rest fits few =
      bind_same (at_field bytes (counted_test bounds.limits counts)) (λ more. test_at bounds first more above rest) (λ more. test_at bounds second more above rest) (λ more e.
      let k = checked_ok bytes (test_tag_flaws bounds.limits counts) (counts_with_test counts) more e in
      let some : counts.tests < bounds.limits.tests = leb-false _ _ (where_nil (leb bounds.limits.tests counts.tests) flaws.TooManyTests k.0) in
      let fewer : room bounds more < depth = subst (λ (c : Counts). room bounds c < depth) k.1 (omega (arith, some)) in
      test_same more above rest fits fewer)
  behind_same counts above bytes (tags.Item kind) rest fits few =
      bind_same (at_field bytes (counted_item bounds.limits counts above (is_memory_kind kind) (is_effect_kind kind))) (λ more. step_at bounds first more above kind rest)
      (λ more. step_at bounds second more above kind rest) (λ more e.
      let k = checked_ok bytes (item_tag_flaws bounds.limits counts above (is_memory_kind kind) (is_effect_kind kind)) (counts_with_item (is_memory_kind kind) counts) more e in
      let o = nil_parts (flaw_where (leb bounds.limits.ops counts.ops) flaws.TooManyOps)
      (flaw_where (is_memory_kind kind && leb bounds.limits.mem counts.mem) flaws.TooManyMem ++ flaw_where (is_effect_kind kind && above.effect) flaws.EffectTwice) k.0 in
      let some : counts.ops < bounds.limits.ops = leb-false _ _ (where_nil (leb bounds.limits.ops counts.ops) flaws.TooManyOps o.0) in
      let fewer : room bounds more < depth = subst (λ (c : Counts). room bounds c < depth) k.1 (omega (arith, some)) in
      step_same more above kind rest fits fewer)

-- one level more changes nothing
deeper_by_one : (bounds : Bounds) (depth : ℕ) → AreAlike bounds depth (row_at bounds depth) (row_at bounds (suc depth))
unfolding row_at
deeper_by_one bounds zero counts above bytes fits few = absurd (omega arith)
deeper_by_one bounds (suc depth) counts above bytes fits few =
    bind_same (tag_at bytes) (λ tag. behind_tag bounds (row_at bounds depth) counts above bytes tag.0 tag.1) (λ tag. behind_tag bounds (row_at bounds (suc depth)) counts above bytes tag.0 tag.1)
    (λ tag e. behind_same bounds depth (row_at bounds depth) (row_at bounds (suc depth)) (row_takes bounds depth) (deeper_by_one bounds depth) counts above bytes tag.0 tag.1
    (tag_takes bytes tag.0 tag.1 fits e).rest_fits few)

deeper_by : (bounds : Bounds) (more depth : ℕ) (counts : Counts) (above : Above) (bytes : List ℕ) → IsBytes bytes → room bounds counts < depth
    → row_at bounds depth counts above bytes ≡ row_at bounds (more + depth) counts above bytes
deeper_by bounds zero depth counts above bytes fits few = let e : depth ≡ zero + depth = omega arith in ap (λ (n : ℕ). row_at bounds n counts above bytes) e
deeper_by bounds (suc more) depth counts above bytes fits few =
    let e : suc (more + depth) ≡ suc more + depth = omega arith in
    deeper_by bounds more depth counts above bytes fits few ∙ deeper_by_one bounds (more + depth) counts above bytes fits (omega arith) ∙ ap (λ (n : ℕ). row_at bounds n counts above bytes) e

pub deepest_suffices : (bounds : Bounds) (depth : ℕ) (bytes : List ℕ) → bounds.limits.ops ≤ most_ops → bounds.limits.tests ≤ most_tests → IsBytes bytes → deepest ≤ depth
    → row_at bounds depth no_counts nothing_above bytes ≡ row_at bounds deepest no_counts nothing_above bytes
deepest_suffices bounds depth bytes ops tests fits le =
    let e : (depth - deepest) + deepest ≡ depth = omega arith in
    sym (deeper_by bounds (depth - deepest) deepest no_counts nothing_above bytes fits (omega arith) ∙ ap (λ (n : ℕ). row_at bounds n no_counts nothing_above bytes) e)
