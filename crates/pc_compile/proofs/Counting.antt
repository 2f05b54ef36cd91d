-- The bytes of an object where one region gets a form.
use Rattle.std.proofs.Common.{◌≡◌, ◌≢◌, ℕ, zero, suc, ◌+◌, ◌-◌, ◌<◌, ◌≤◌, cond, List, [], ◌∷◌, length, Option, Some, None, refl, ◌∙◌, ap, arith}
use Rattle.std.specs.Prelude.{ℤ, slice_get}
use Rattle.pc_table.specs.Table.{TableTree, TableRegion, Table, tree_of, region_tree}
use Rattle.pc_emit.specs.Emitted.{RegionForm, Plain}
use Rattle.pc_emit.specs.Bytes.{plain_bytes, form_bytes, regions_bytes, object_bytes}
use Rattle.pc_compile.specs.Choosing.{with_region_form, bytes_with}
use Rattle.pc_compile.specs.models.Counting.{all_plain_bytes, bytes_beside_rows}
use Rattle.pc_compile.specs.models.Giving.{bytes_of}
use Rattle.pc_word.proofs.Places.{own_number, number_apart}

-- ---- forms with one more

-- the region has the form
pub with_region_form-same : (forms : ℕ → Option RegionForm) (region : ℕ) (form : RegionForm) → with_region_form forms region form region ≡ Some form
with_region_form-same forms region form = ap (λ b. cond b (Some form) (forms region)) (own_number region)

-- the others have what they had
pub with_region_form-other : (forms : ℕ → Option RegionForm) (region other : ℕ) (form : RegionForm) → other ≢ region
    → with_region_form forms region form other ≡ forms other
with_region_form-other forms region other form differ = ap (λ b. cond b (Some form) (forms other)) (number_apart other region differ)

-- so does one that has a form keep it
pub form_stays : (forms : ℕ → Option RegionForm) (last region : ℕ) (chosen form : RegionForm) → forms last ≡ None → forms region ≡ Some form
    → with_region_form forms last chosen region ≡ Some form
form_stays forms last region chosen form free has = with_region_form-other forms last region chosen differ ∙ has
  where
    differ : region ≢ last
    differ same = let none : forms region ≡ None = ap forms same ∙ free in absurd (cc)

-- ---- regions

-- regions whose forms are the same have as many bytes
regions_same : (forms others : ℕ → Option RegionForm) (number : ℕ) (regions : List TableRegion)
    → ((at : ℕ) → number ≤ at → forms at ≡ others at) → regions_bytes forms number regions ≡ regions_bytes others number regions
regions_same forms others number [] same = refl
regions_same forms others number (region ∷ regions) same =
    let here = ap (form_bytes region.tree) (same number (omega arith)) in
    let rest = regions_same forms others (1 + number) regions (λ at up. same at (omega arith)) in
    omega (arith, here, rest)

-- where one of them gets a form, its bytes take the place of what it had
regions_with : (forms : ℕ → Option RegionForm) (region : ℕ) (form : RegionForm) (tree : TableTree) (number at : ℕ) (regions : List TableRegion)
    → region ≡ number + at → tree_of (slice_get regions at) ≡ tree → at < length regions
    → regions_bytes (with_region_form forms region form) number regions + form_bytes tree (forms region)
    ≡ regions_bytes forms number regions + form_bytes tree (Some form)
regions_with forms region form tree number at [] is there lt = absurd (omega arith)
regions_with forms region form tree number zero (first ∷ regions) is there lt =
    let same : number ≡ region = omega arith in
    let now =
    ap (form_bytes first.tree) (ap (with_region_form forms region form) same ∙ with_region_form-same forms region form)
    ∙ ap (λ (t : TableTree). form_bytes t (Some form)) there in
    let before = ap (form_bytes first.tree) (ap forms same) ∙ ap (λ (t : TableTree). form_bytes t (forms region)) there in
    let rest = regions_same (with_region_form forms region form) forms (1 + number) regions
    (λ other up. with_region_form-other forms region other form (λ e. absurd (omega arith))) in
    omega (arith, now, before, rest)
regions_with forms region form tree number (suc at) (first ∷ regions) is there lt =
    let here = ap (form_bytes first.tree) (with_region_form-other forms region number form (λ e. absurd (omega arith))) in
    let rest = regions_with forms region form tree (1 + number) at regions (omega arith) there (omega arith) in
    omega (arith, here, rest)

-- a plain region has a part of the bytes
regions_within : (forms : ℕ → Option RegionForm) (region : ℕ) (tree : TableTree) (number at : ℕ) (regions : List TableRegion)
    → region ≡ number + at → tree_of (slice_get regions at) ≡ tree → at < length regions
    → form_bytes tree (forms region) ≤ regions_bytes forms number regions
regions_within forms region tree number at [] is there lt = absurd (omega arith)
regions_within forms region tree number zero (first ∷ regions) is there lt =
    let same : number ≡ region = omega arith in
    let here = ap (form_bytes first.tree) (ap forms same) ∙ ap (λ (t : TableTree). form_bytes t (forms region)) there in
    omega (arith, here)
regions_within forms region tree number (suc at) (first ∷ regions) is there lt =
    let rest = regions_within forms region tree (1 + number) at regions (omega arith) there (omega arith) in omega (arith, rest)

-- regions without a form are plain
pub all_plain : (number : ℕ) (regions : List TableRegion) → regions_bytes (λ region. None) number regions ≡ all_plain_bytes regions
all_plain number [] = refl
all_plain number (region ∷ regions) = ap (λ (n : ℕ). plain_bytes region.tree + n) (all_plain (1 + number) regions)

-- ---- objects

-- an object whose regions are all plain
pub plain_object : (table : Table) (initial : List (List ℤ))
    → object_bytes table initial (λ region. None)
    ≡ bytes_beside_rows table initial + all_plain_bytes table.regions
plain_object table initial = let plain = all_plain 0 table.regions in omega (arith, plain)

module _ (table : Table) (initial : List (List ℤ)) (forms : ℕ → Option RegionForm) (region : ℕ) (there : region < length table.regions) (free : forms region ≡ None) where
  -- a region without a form has the bytes of a plain one
  plain_is : form_bytes (region_tree table region) (forms region) ≡ plain_bytes (region_tree table region)
  plain_is = ap (form_bytes (region_tree table region)) free

  pub plain_within : plain_bytes (region_tree table region) ≤ object_bytes table initial forms
  plain_within =
      let within = regions_within forms region (region_tree table region) 0 region table.regions (omega arith) refl there in
      let plain = plain_is in
      omega (arith, within, plain)

  -- what is counted beside it is what is counted where it has a form
  pub counted_with : (form : RegionForm)
      → bytes_of table region (object_bytes table initial forms - plain_bytes (region_tree table region)) form ≡ bytes_with table initial forms region form
  counted_with form =
      let changed = regions_with forms region form (region_tree table region) 0 region table.regions (omega arith) refl there in
      let within = plain_within in
      let plain = plain_is in
      omega (arith, changed, within, plain)

  pub counts_alike : bytes_of table region (object_bytes table initial forms - plain_bytes (region_tree table region)) ≡ bytes_with table initial forms region
  counts_alike = λ i form. counted_with form i

  -- where it is plain, as much is counted as before
  pub plain_counts : bytes_with table initial forms region Plain ≡ object_bytes table initial forms
  plain_counts =
      let with = counted_with Plain in
      let within = plain_within in
      omega (arith, with, within)
