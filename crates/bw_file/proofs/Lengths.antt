-- How long the parts of a file are.
use Rattle.std.proofs.Common.{ap, sym, ◌∙◌, List, [], arith, length, refl, suc, zero, ℕ, ◌*◌, ◌+◌, ◌≡◌, ◌≤◌, ◌∷◌}
use Rattle.std.specs.Prelude.{All}
use Rattle.std.proofs.lemmas.List.{length-append}
use Rattle.std.proofs.lemmas.List.Sums.{sum_by-cons}
use Rattle.std.specs.List.{flat_map, sum_by}
use Rattle.bw_sql.specs.Names.{IsName, is_name}
use Rattle.bw_file.specs.Table.{Header}
use Rattle.bw_file.specs.Headers.{header_bytes, header_size, kind_number, layout_number, type_number}
use Rattle.bw_file.specs.declared.version.Version.{Version}
use Rattle.bw_file.specs.declared.version.Version.TheVariants.{First, Second}
use Rattle.std.proofs.lemmas.Grind.{common_steps}

-- a name has at most 128 bytes
pub name_short : (name : List ℕ) → IsName name → length name ≤ 128
unfolding is_name
name_short name h = grind (arith, common_steps)

length-header : (version : Version) (h : Header) → length (header_bytes version h) ≡ header_size version h
length-header First h = omega (arith, length-append h.name (layout_number h.layout ∷ kind_number h.kind ∷ []))
length-header Second h = omega (arith, length-append h.name (type_number h.column_type ∷ layout_number h.layout ∷ kind_number h.kind ∷ []))

pub length-parts : {X : Type 0} (f : X → List ℕ) (size : X → ℕ) → ((x : X) → length (f x) ≡ size x) → (xs : List X) → length (flat_map f xs) ≡ sum_by size xs
length-parts f size one [] = refl
length-parts f size one (x ∷ xs) =
    length-append (f x) (flat_map f xs) ∙ ap (λ n. n + length (flat_map f xs)) (one x) ∙ ap (λ n. size x + n) (length-parts f size one xs) ∙ sym (sum_by-cons size x xs)

pub length-headers : (version : Version) (headers : List Header) → length (flat_map (header_bytes version) headers) ≡ sum_by (header_size version) headers
length-headers version headers = length-parts (header_bytes version) (header_size version) (length-header version) headers

-- a name has at least one byte
name_long : (name : List ℕ) → IsName name → 1 ≤ length name
unfolding is_name
name_long name h = grind (arith, common_steps)

header_long : (version : Version) (h : Header) → 1 ≤ length h.name → 4 ≤ header_size version h
header_long First h some = omega (arith, some)
header_long Second h some = omega (arith, some)

-- a header has at least four bytes
pub headers_long : (version : Version) (headers : List Header) → All (λ header. IsName header.name) headers → 4 * length headers ≤ sum_by (header_size version) headers
headers_long version [] names = omega arith
headers_long version (h ∷ headers) names =
    let rest = headers_long version headers (λ i d l. names (suc i) d (omega (arith, l))) in
    let first = header_long version h (name_long h.name (names 0 h (omega arith))) in
    omega (arith, rest, first, sum_by-cons (header_size version) h headers)

-- four more of each
pub four_of_each : (n size : ℕ) → n * (4 + size) ≡ 4 * n + n * size
four_of_each zero size = omega arith
four_of_each (suc n) size = omega (arith, four_of_each n size)
