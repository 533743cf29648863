-- Files by name, from a map whose keys are texts.
use Rattle.std.proofs.Common.{◌≡◌, ℕ, Bool, true, false, List, [], ◌∷◌, map, Option, Some, String, Vec, option_map, if◌then◌else◌, refl, sym, ap, ◌∙◌}
use Rattle.std.specs.BTreeMap.{BTreeMap, UpdatesBy, get_by_text}
use Rattle.std.specs.Cmp.Lexicographic.{slice_cmp}
use Rattle.std.specs.Map.{lookup}
use Rattle.std.specs.Ordering.{is_eq, nat_cmp}
use Rattle.std.specs.Str.{bytes_eq}
use Rattle.std.specs.String.{string_bytes, string_cmp}
use Rattle.std.proofs.lemmas.Bool.{true≢false}
use Rattle.std.proofs.lemmas.Map.Text.{btree_map_updates_text, is_eq-slice_cmp}
use Rattle.bw_shell.specs.Folders.{Files, IsSet, file_of}

module _ {Z : Type 0} where
  by_test : (a b : Bool) (bytes : Vec ℕ Z) (found : Option (List ℕ)) (rest : Option (Vec ℕ Z)) → b ≡ a → found ≡ option_map (λ v. v.items) rest
      → (if a then Some bytes.items else found) ≡ option_map (λ v. v.items) (if b then Some bytes else rest)
  by_test true true bytes found rest same e = refl
  by_test true false bytes found rest same e = absurd (true≢false (sym same))
  by_test false true bytes found rest same e = absurd (true≢false same)
  by_test false false bytes found rest same e = e

  option_map-if : (b : Bool) (bytes : Vec ℕ Z) (rest : Option (Vec ℕ Z)) → option_map (λ v. v.items) (if b then Some bytes else rest) ≡ (if b then Some bytes.items else option_map (λ v. v.items) rest)
  option_map-if true bytes rest = refl
  option_map-if false bytes rest = refl

module _ {Y Z : Type 0} where
  abbrev pub files_of : List (String Y × Vec ℕ Z) → Files
  files_of entries = map (λ file. (string_bytes file.0, file.1.items)) entries

  file_of-files_of : (entries : List (String Y × Vec ℕ Z)) (name : List ℕ) → file_of (files_of entries) name ≡ option_map (λ v. v.items) (lookup (λ k. is_eq (slice_cmp nat_cmp name (string_bytes k))) entries)
  file_of-files_of [] name = refl
  file_of-files_of (entry ∷ entries) name =
      by_test (bytes_eq name (string_bytes entry.0)) (is_eq (slice_cmp nat_cmp name (string_bytes entry.0))) entry.1 _ _ (is_eq-slice_cmp name (string_bytes entry.0)) (file_of-files_of entries name)

  -- a file is what the map finds at its name
  pub file_is : (entries : List (String Y × Vec ℕ Z)) (name : List ℕ) (found : Option (Vec ℕ Z)) → found ≡ lookup (λ k. is_eq (slice_cmp nat_cmp name (string_bytes k))) entries → file_of (files_of entries) name ≡ option_map (λ v. v.items) found
  file_is entries name found e = file_of-files_of entries name ∙ ap (option_map (λ v. v.items)) (sym e)

  -- an update of the map sets that file
  pub set_by : (old new : BTreeMap (String Y) (Vec ℕ Z)) (name : List ℕ) (bytes : Vec ℕ Z) → UpdatesBy string_cmp (λ k. slice_cmp nat_cmp name (string_bytes k)) old new (Some bytes) → IsSet name bytes.items (files_of old.entries) (files_of new.entries)
  set_by old new name bytes updates other =
      file_of-files_of new.entries other
      ∙ ap (option_map (λ v. v.items)) (btree_map_updates_text name old new (Some bytes) updates other)
      ∙ option_map-if (bytes_eq name other) bytes (get_by_text old other)
      ∙ ap (λ o. if bytes_eq name other then Some bytes.items else o) (sym (file_of-files_of old.entries other))
