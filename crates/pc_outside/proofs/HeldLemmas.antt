-- Files in memory as a map: what a look-up finds, and what an insertion makes.
use Rattle.std.proofs.Common.{◌≡◌, ◌≢◌, ℕ, Bool, true, false, cond, List, [], ◌∷◌, map as list_map, Option, Some, string_bytes, String, Vec}
use Rattle.std.proofs.Common.{refl, sym, ap, ◌∙◌}
use Rattle.std.specs.Option.{option_map}
use Rattle.std.specs.Ordering.{nat_cmp, is_eq}
use Rattle.std.specs.Cmp.{eq_by_cmp_equiv}
use Rattle.std.specs.Cmp.Lexicographic.{slice_cmp, nat_list_cmp_total}
use Rattle.std.specs.BTreeMap.{BTreeMap, get_by_text, UpdatesBy}
use Rattle.std.specs.Map.{lookup}
use Rattle.std.specs.Str.{bytes_eq}
use Rattle.std.specs.String.{string_cmp}
use Rattle.std.specs.FinMap.{get, insert, get-from_entries, get-insert, same_map, find, slice_cmp-IsAntisymmetric, nat_cmp-IsAntisymmetric}
use Rattle.std.specs.declared.alloc.Global.{Global}
use Rattle.std.proofs.lemmas.Bool.{false_from_ne_true}
use Rattle.std.proofs.lemmas.Slice.Eq.{bytes_eq-Decides}
use Rattle.std.proofs.lemmas.Map.Text.{is_eq-slice_cmp, btree_map_updates_text}
use Rattle.pc_outside.specs.Shelf.{Files}
use Rattle.pc_outside.specs.models.Files.{files_of}

-- a choice passes through a function of what is chosen
option_map-cond : (b : Bool) (x : Vec ℕ Global) (o : Option (Vec ℕ Global)) → cond b (Some x.items) (option_map (λ v. v.items) o) ≡ option_map (λ v. v.items) (cond b (Some x) o)
option_map-cond true x o = refl
option_map-cond false x o = refl

-- the first entry with these bytes as its name, by its bytes
find_file : (es : List (String Global × Vec ℕ Global)) (q : List ℕ)
    → find (slice_cmp nat_cmp) q (list_map (λ e. (string_bytes e.0, e.1.items)) es)
    ≡ option_map (λ v. v.items) (lookup (λ k. is_eq (slice_cmp nat_cmp q (string_bytes k))) es)
find_file [] q = refl
find_file (e ∷ es) q = ap (cond (is_eq (slice_cmp nat_cmp q (string_bytes e.0))) (Some e.1.items)) (find_file es q) ∙ option_map-cond _ e.1 _

-- a look-up in the map of files is one in the entries
pub get-files_of : (m : BTreeMap (String Global) (Vec ℕ Global)) (q : List ℕ) → get (files_of m) q ≡ option_map (λ v. v.items) (get_by_text m q)
get-files_of m q = get-from_entries nat_list_cmp_total _ q ∙ find_file m.entries q

-- a look-up after an insertion
update_file : (b : Bool) (x : Vec ℕ Global) (o : Option (Vec ℕ Global)) (p : Option (List ℕ)) → option_map (λ v. v.items) o ≡ p
    → option_map (λ v. v.items) (cond b (Some x) o) ≡ cond b (Some x.items) p
update_file true x o p e = refl
update_file false x o p e = e

-- entries that differ from others at one name make files that differ there
pub files_of-insert : (m n : BTreeMap (String Global) (Vec ℕ Global)) (k : String Global) (v : Vec ℕ Global)
    → UpdatesBy string_cmp (λ x. slice_cmp nat_cmp (string_bytes k) (string_bytes x)) m n (Some v) → files_of n ≡ insert (files_of m) (string_bytes k) v.items
files_of-insert m n k v h = same_map nat_list_cmp_total (slice_cmp-IsAntisymmetric nat_cmp-IsAntisymmetric) _ _ (λ q.
    get-files_of n q
    ∙ ap (option_map (λ x. x.items)) (btree_map_updates_text (string_bytes k) m n (Some v) h q)
    ∙ update_file (bytes_eq (string_bytes k) q) v (get_by_text m q) _ (sym (get-files_of m q))
    ∙ ap (λ b. cond b (Some v.items) (get (files_of m) q)) (sym (is_eq-slice_cmp (string_bytes k) q) ∙ (eq_by_cmp_equiv nat_list_cmp_total).symm (string_bytes k) q)
    ∙ sym (get-insert nat_list_cmp_total (files_of m) (string_bytes k) v.items q))

-- an insertion leaves every other file
pub get-insert-other : (files : Files) (name bytes other : List ℕ) → other ≢ name → get (insert files name bytes) other ≡ get files other
get-insert-other files name bytes other differs =
    get-insert nat_list_cmp_total files name bytes other
    ∙ ap (λ b. cond b (Some bytes) (get files other)) (is_eq-slice_cmp other name ∙ false_from_ne_true (bytes_eq other name) (λ e. differs ((bytes_eq-Decides other name).0 e)))
