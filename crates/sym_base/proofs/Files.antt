-- Files in memory, which a map from names to bytes keeps.
use Rattle.std.proofs.Common.{◌≡◌, ◌≢◌, ℕ, ◌∷◌, [], List, Bool, true, false, cond, refl, ap, sym, ◌∙◌, nat_eq, Contains}
use Rattle.std.specs.Prelude.{Option, Some, option_map, find}
use Rattle.std.specs.List.{list_any}
use Rattle.std.specs.BTreeMap as tree
use Rattle.std.specs.BTreeMap.{BTreeMap}
use Rattle.std.specs.Map.{lookup}
use Rattle.std.specs.Cmp.Lexicographic.{slice_cmp}
use Rattle.std.specs.Ordering.{nat_cmp, is_eq}
use Rattle.std.specs.Bool.{Decides}
use Rattle.std.specs.Str.{bytes_eq}
use Rattle.std.specs.String.{string_cmp, string_bytes}
use Rattle.std.specs.declared.string.String.{String}
use Rattle.std.proofs.lemmas.Bool.{false_from_ne_true}
use Rattle.std.proofs.lemmas.Bool.Decides.{Decides-eqb}
use Rattle.std.proofs.lemmas.List.Folds.{list_any_at}
use Rattle.std.proofs.lemmas.Map.Text.{is_eq-slice_cmp, btree_map_updates_text}
use Rattle.std.proofs.lemmas.Map.Views.{Contains-from_any}
use Rattle.std.proofs.lemmas.Slice.Eq.{bytes_eq-Decides}
use Rattle.sym_base.specs.InMemory.{File, file_at, files_of}

-- A slice's `contains` tells whether a number is listed.
pub listed-Decides : (xs : List ℕ) (x : ℕ) → Decides (list_any (λ y. nat_eq y x) xs) (Contains xs x)
listed-Decides xs x = (
  Contains-from_any {eq = λ a b. nat_eq b a} (λ a b h. sym ((Decides-eqb b a).0 h)) x xs,
  λ h. list_any_at (λ y. nat_eq y x) xs h.0 x h.1 ((Decides-eqb _ _).1 h.2),
)

-- The bytes of a file that is picked by a test, or of another one.
bytes_of-pick : (test : Bool) (file : File) (others : Option File) → option_map (λ f. f.bytes) (cond test (Some file) others) ≡ cond test (Some file.bytes) (option_map (λ f. f.bytes) others)
bytes_of-pick true file others = refl
bytes_of-pick false file others = refl

-- A file is what the map has at its name.
pub file_at-entries : {A : Type 0} (entries : List (String A × List ℕ)) (name : List ℕ) → file_at (files_of entries) name ≡ lookup (λ k. is_eq (slice_cmp nat_cmp name (string_bytes k))) entries
file_at-entries [] name = refl
file_at-entries (entry ∷ entries) name =
    bytes_of-pick (bytes_eq name (string_bytes entry.0)) (record { name = string_bytes entry.0; bytes = entry.1 }) (find (λ file. bytes_eq name file.name) (files_of entries))
    ∙ rw (is_eq-slice_cmp name (string_bytes entry.0)) (ap (λ o. cond (bytes_eq name (string_bytes entry.0)) (Some entry.1) o) (file_at-entries entries name))

-- Setting a file leaves the others.
pub file_at-update : {A : Type 0} (old new : BTreeMap (String A) (List ℕ)) (name bytes : List ℕ) → tree.UpdatesBy string_cmp (λ k. slice_cmp nat_cmp name (string_bytes k)) old new (Some bytes) → (other : List ℕ) → file_at (files_of new.entries) other ≡ cond (bytes_eq name other) (Some bytes) (file_at (files_of old.entries) other)
file_at-update old new name bytes u other =
    file_at-entries new.entries other ∙ btree_map_updates_text name old new (Some bytes) u other
    ∙ ap (λ o. cond (bytes_eq name other) (Some bytes) o) (sym (file_at-entries old.entries other))

pub file_at-set : {A : Type 0} (old new : BTreeMap (String A) (List ℕ)) (name bytes : List ℕ) → tree.UpdatesBy string_cmp (λ k. slice_cmp nat_cmp name (string_bytes k)) old new (Some bytes) → file_at (files_of new.entries) name ≡ Some bytes
file_at-set old new name bytes u = rw (file_at-update old new name bytes u name, (bytes_eq-Decides name name).1 refl) refl

pub file_at-others : {A : Type 0} (old new : BTreeMap (String A) (List ℕ)) (name bytes : List ℕ) → tree.UpdatesBy string_cmp (λ k. slice_cmp nat_cmp name (string_bytes k)) old new (Some bytes) → (other : List ℕ) → other ≢ name → file_at (files_of new.entries) other ≡ file_at (files_of old.entries) other
file_at-others old new name bytes u other ne = rw (file_at-update old new name bytes u other, false_from_ne_true _ (λ h. ne (sym ((bytes_eq-Decides name other).0 h)))) refl
