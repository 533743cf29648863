-- Values are of the types of their columns.
use Rattle.std.proofs.Common.{◌≡◌, ◌∙◌, ℕ, ◌<◌, IsTrue, List, [], ◌∷◌, get_or, length, map, position, Option, None, Some, zero, suc, sym, true, ap, subst, arith}
use Rattle.std.specs.Str.{bytes_eq}
use Rattle.std.proofs.lemmas.List.{length-map}
use Rattle.std.proofs.lemmas.List.Quantifiers.{position-Some}
use Rattle.std.proofs.lemmas.Slice.Eq.{bytes_eq-Decides}
use Rattle.std.proofs.lemmas.Slice.Zip.{AllZip-long}
use Rattle.bw_code.specs.Types.{IsNullOrOfType, are_of_types, is_null_or_of_type, types_of}
use Rattle.bw_code.specs.declared.kind.ColumnType.{ColumnType}
use Rattle.bw_code.specs.declared.kind.ColumnType.TheVariants.{Integer}
use Rattle.bw_code.proofs.Types.{null_or_of_type}
use Rattle.bw_model.specs.Refusals.{types_named}
use Rattle.bw_model.specs.Store.{Header, Row, Value, are_distinct, names, type_at, type_named, value_at, value_from}
use Rattle.bw_model.specs.WellFormed.{IsRow}
use Rattle.bw_model.proofs.OwnPlaces.{get_or-mapped, place_at, place_of-names}
use Rattle.bw_model.proofs.Passing.{two}

-- a row has as many values as there are columns
pub row_wide : (headers : List Header) (row : Row) → IsRow headers row → length row ≡ length headers
row_wide headers row is = AllZip-long IsNullOrOfType (types_of headers) row is ∙ length-map headers (λ header. header.column_type)

-- the value at a place of a row is of the type there
typed_at : (headers : List Header) (row : Row) (k : ℕ) → IsRow headers row → IsNullOrOfType (type_at headers (Some k)) (value_at row k)
typed_at [] [] k is = tt
typed_at [] (value ∷ row) k is = absurd is
typed_at (h ∷ headers) [] k is = absurd is
typed_at (h ∷ headers) (value ∷ row) zero is = is.0
typed_at (h ∷ headers) (value ∷ row) (suc k) is = typed_at headers row k is.1

pub typed_from : (headers : List Header) (row : Row) (place : Option ℕ) → IsRow headers row → IsNullOrOfType (type_at headers place) (value_from row place)
typed_from headers row None is = tt
typed_from headers row (Some k) is = typed_at headers row k is

-- the type of a column by its name
pub own_type : (headers : List Header) (k : ℕ) (d : Header) → IsTrue (are_distinct (names headers)) → k < length headers → type_named headers (get_or headers k d).name ≡ (get_or headers k d).column_type
own_type headers k d distinct low =
    let own = get_or-mapped (λ h. h.name) headers k d [] low in
    let place = place_of-names headers (get_or headers k d).name ∙ ap (λ n. position (bytes_eq n) (names headers)) (sym own) ∙ place_at (names headers) k [] distinct (omega (arith, low, length-map headers (λ h. h.name))) in
    ap (type_at headers) place ∙ get_or-mapped (λ h. h.column_type) headers k d Integer low

-- a row that is made column by column
pub row_made : (headers : List Header) (f : Header → Value) → ((k : ℕ) (d : Header) → k < length headers → IsNullOrOfType (get_or headers k d).column_type (f (get_or headers k d))) → IsRow headers (map f headers)
row_made [] f each = tt
row_made (h ∷ headers) f each = (each zero h (omega arith), row_made headers f (λ k d low. each (suc k) d (omega (arith, low))))

-- values that pass the test of their types
value_passes : (types : List ColumnType) (values : Row) (k : ℕ) → are_of_types types values ≡ true → k < length types → IsNullOrOfType (get_or types k Integer) (value_at values k)
value_passes [] values k e low = absurd (omega (arith, low))
value_passes (t ∷ types) [] k e low = tt
value_passes (t ∷ types) (value ∷ values) zero e low = null_or_of_type t value (two (is_null_or_of_type t value) (are_of_types types values) e).0
value_passes (t ∷ types) (value ∷ values) (suc k) e low = value_passes types values k (two (is_null_or_of_type t value) (are_of_types types values) e).1 (omega (arith, low))

-- of values for a list of columns, the one for a name is of its column's type
pub listed_typed : (headers : List Header) (list : List (List ℕ)) (values : Row) (name : List ℕ) (place : Option ℕ) → are_of_types (types_named headers list) values ≡ true
    → position (bytes_eq name) list ≡ place → IsNullOrOfType (type_named headers name) (value_from values place)
listed_typed headers list values name None e at = tt
listed_typed headers list values name (Some p) e at =
    let found = position-Some (bytes_eq name) list p [] at in
    let same = (bytes_eq-Decides name (get_or list p [])).0 found.1 in
    let type_is = get_or-mapped (type_named headers) list p [] Integer found.0 ∙ ap (type_named headers) (sym same) in
    subst (λ t. IsNullOrOfType t (value_at values p)) type_is (value_passes (types_named headers list) values p e (omega (arith, found.0, length-map list (type_named headers))))
