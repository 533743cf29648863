-- What the front of a file tells.
use Rattle.std.proofs.Common.{List, [], suc, ◌∷◌, Option, ap, arith, drop, length, subst, sym, take, ℕ, ℤ, ◌++◌, ◌-◌, ◌≡◌, ◌≤◌, ◌∙◌, inl, inr, refl}
use Rattle.std.proofs.lemmas.List.{length-append, length-drop, take-append-drop, take_all}
use Rattle.std.specs.List.{AllZip, flat_map}
use Rattle.std.specs.Prelude.{All}
use Rattle.byteorder.specs.Endian.{little_bytes, little_number}
use Rattle.byteorder.specs.Numbers.{little_number-reads_back}
use Rattle.bw_file.specs.Format.{HasType, SpelledBy, Spells, column_bytes, column_size, front_bytes, spelled_length, spelling, version_number}
use Rattle.bw_file.specs.Headers.{header_bytes}
use Rattle.bw_code.specs.Types.{IsTyped}
use Rattle.bw_file.specs.Table.{IsTable, Table, Header}
use Rattle.bw_file.specs.declared.version.Version.{Version}
use Rattle.bw_file.specs.declared.version.Version.TheVariants.{First, Second}
use Rattle.bw_file.proofs.FirstColumn.{all_fit, length-column}
use Rattle.bw_file.proofs.Joined.{columns-first, headers-first}
use Rattle.bw_file.proofs.Lengths.{length-headers, length-parts}

abbrev after_front : Version → Table → List ℕ
after_front version t = flat_map (header_bytes version) t.headers ++ flat_map (column_bytes version) t.columns

few_versions : (version : Version) → version_number version ≤ 2
few_versions First = omega arith
few_versions Second = omega arith

-- a version by its number
pub one_version : (a b : Version) → version_number a ≡ version_number b → a ≡ b
one_version First First e = refl
one_version First Second e = absurd (omega arith)
one_version Second First e = absurd (omega arith)
one_version Second Second e = refl

version_at : (version : Version) (t : Table) → little_number 2 (drop 6 (spelling version t)) ≡ version_number version
version_at version t =
    little_number-reads_back 2 (version_number version) (little_bytes 2 (length t.headers) ++ little_bytes 4 t.rows ++ after_front version t) (omega (arith, few_versions version))

columns_at : (version : Version) (t : Table) → IsTable t → little_number 2 (drop 8 (spelling version t)) ≡ length t.headers
columns_at version t h = let few = h.headers.few in little_number-reads_back 2 (length t.headers) (little_bytes 4 t.rows ++ after_front version t) (omega arith)

rows_at : (version : Version) (t : Table) → IsTable t → little_number 4 (drop 10 (spelling version t)) ≡ t.rows
rows_at version t h = let few = h.few in little_number-reads_back 4 t.rows (after_front version t) (omega arith)

module _ (version : Version) (bytes : List ℕ) (t : Table) (s : SpelledBy version bytes t) where
  pub told_long : 14 ≤ length bytes
  told_long = let long = ap length s.bytes_are in omega arith

  cut : (n : ℕ) → take (length bytes - n) (drop n bytes) ≡ drop n (spelling version t)
  cut n = take_all (length bytes - n) (drop n bytes) (omega (arith, length-drop n bytes)) ∙ ap (drop n) s.bytes_are

  pub told_version : little_number 2 (take (length bytes - 6) (drop 6 bytes)) ≡ version_number version
  told_version = ap (little_number 2) (cut 6) ∙ version_at version t

  pub told_columns : little_number 2 (take (length bytes - 8) (drop 8 bytes)) ≡ length t.headers
  told_columns = ap (little_number 2) (cut 8) ∙ columns_at version t s.table

  pub told_rows : little_number 4 (take (length bytes - 10) (drop 10 bytes)) ≡ t.rows
  told_rows = ap (little_number 4) (cut 10) ∙ rows_at version t s.table

  pub told_front : take 14 bytes ≡ front_bytes version (length t.headers) t.rows
  told_front = ap (take 14) s.bytes_are

  pub told_rest : take (length bytes - 14) (drop 14 bytes) ≡ flat_map (header_bytes version) t.headers ++ flat_map (column_bytes version) t.columns
  told_rest = cut 14

abbrev pub table : List Header → ℕ → List (List (Option ℤ)) → Table
table hs n cs = record { headers = hs; rows = n; columns = cs }

same-table : (t u : Table) → t.headers ≡ u.headers → t.rows ≡ u.rows → t.columns ≡ u.columns → t ≡ u
same-table t u a b c = ap (λ hs. table hs t.rows t.columns) a ∙ ap (λ n. table u.headers n t.columns) b ∙ ap (table u.headers u.rows) c

-- a column for each header
pub wide : (hs : List Header) (cs : List (List (Option ℤ))) → AllZip IsTyped hs cs → length hs ≡ length cs
wide [] [] h = refl
wide [] (c ∷ cs) h = absurd h
wide (x ∷ hs) [] h = absurd h
wide (x ∷ hs) (c ∷ cs) h = ap suc (wide hs cs h.1)

-- bytes spell one table by one version
same_version : (version : Version) (bytes : List ℕ) (t u : Table) → SpelledBy version bytes t → SpelledBy version bytes u → t ≡ u
same_version version bytes t u s v =
    let a = s.table in
    let b = v.table in
    let same : spelling version t ≡ spelling version u = sym s.bytes_are ∙ v.bytes_are in
    let width : length t.headers ≡ length u.headers = sym (columns_at version t a) ∙ ap (λ xs. little_number 2 (drop 8 xs)) same ∙ columns_at version u b in
    let rows : t.rows ≡ u.rows = sym (rows_at version t a) ∙ ap (λ xs. little_number 4 (drop 10 xs)) same ∙ rows_at version u b in
    let parts = headers-first version t.headers u.headers (flat_map (column_bytes version) t.columns) (flat_map (column_bytes version) u.columns) width s.types v.types (ap (drop 14) same) in
    let columns = columns-first version u.rows t.columns u.columns [] [] (sym (wide t.headers t.columns a.typed) ∙ width ∙ wide u.headers u.columns b.typed)
    (subst (λ n. All (λ c. length c ≡ n) t.columns) rows a.long) b.long (all_fit version t.headers t.columns s.types a.typed) (all_fit version u.headers u.columns v.types b.typed) (ap (λ xs. xs ++ []) parts.1) in
    same-table t u parts.0 rows columns.0

-- no bytes are of both versions
other_version : (bytes : List ℕ) (t u : Table) → SpelledBy First bytes t → SpelledBy Second bytes u → ⊥
other_version bytes t u s v =
    let both : 1 ≡ 2 = sym (version_at First t) ∙ ap (λ xs. little_number 2 (drop 6 xs)) (sym s.bytes_are ∙ v.bytes_are) ∙ version_at Second u in
    absurd (omega (arith, both))

-- bytes spell one table
pub one-table : (bytes : List ℕ) (t u : Table) → Spells bytes t → Spells bytes u → t ≡ u
one-table bytes t u (inl s) (inl v) = same_version First bytes t u s v
one-table bytes t u (inl s) (inr v) = absurd (other_version bytes t u s v)
one-table bytes t u (inr s) (inl v) = absurd (other_version bytes u t v s)
one-table bytes t u (inr s) (inr v) = same_version Second bytes t u s v

pub length-spelling : (version : Version) (t : Table) → length (spelling version t) ≡ spelled_length version t
length-spelling version t =
    let heads = length-headers version t.headers in
    let columns = length-parts (column_bytes version) (column_size version) (length-column version) t.columns in
    omega (arith, heads, columns, length-append (flat_map (header_bytes version) t.headers) (flat_map (column_bytes version) t.columns))

-- a front, headers and columns make a spelling
pub spelled : (version : Version) (bytes rest : List ℕ) (t : Table) → IsTable t → All (HasType version) t.headers → take 14 bytes ≡ front_bytes version (length t.headers) t.rows
    → take (length bytes - 14) (drop 14 bytes) ≡ flat_map (header_bytes version) t.headers ++ rest → rest ≡ flat_map (column_bytes version) t.columns → SpelledBy version bytes t
spelled version bytes rest t h types front heads columns =
    let all : drop 14 bytes ≡ take (length bytes - 14) (drop 14 bytes) = sym (take_all (length bytes - 14) (drop 14 bytes) (omega (arith, length-drop 14 bytes))) in
    record {
      table = h;
      types = types;
      bytes_are = sym (take-append-drop 14 bytes) ∙ ap (λ xs. xs ++ drop 14 bytes) front
          ∙ ap (λ xs. front_bytes version (length t.headers) t.rows ++ xs) (all ∙ heads ∙ ap (λ xs. flat_map (header_bytes version) t.headers ++ xs) columns);
    }

-- what was read after the front, where the bytes spell a table
pub told_headers : (version : Version) (bytes : List ℕ) (t : Table) (hs : List Header) (rest : List ℕ) (n : ℕ) → SpelledBy version bytes t → n ≡ length t.headers
    → length hs ≡ n → All (HasType version) hs → take (length bytes - 14) (drop 14 bytes) ≡ flat_map (header_bytes version) hs ++ rest → (hs ≡ t.headers) × (rest ≡ flat_map (column_bytes version) t.columns)
told_headers version bytes t hs rest n s many long types read =
    headers-first version hs t.headers rest (flat_map (column_bytes version) t.columns) (long ∙ many) types s.types (sym read ∙ told_rest version bytes t s)
