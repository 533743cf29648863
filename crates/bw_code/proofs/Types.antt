-- An integer passes the test of a type where it is of it, and there alone.
use Rattle.std.proofs.Common.{Bool, List, None, Option, Some, [], ap, arith, false, get_or, length, negsuc, pos, refl, suc, true, zero, ℕ, ℤ, ◌&&◌, ◌<◌, ◌∷◌, ◌≡◌}
use Rattle.std.specs.Prelude.{int_le}
use Rattle.std.specs.List.{AllZip}
use Rattle.std.proofs.lemmas.Bool.{le-leb}
use Rattle.std.proofs.lemmas.Int.{ints}
use Rattle.bw_code.specs.Types.{IsNullOrOfType, IsOfType, IsRowOf, are_of_types, is_null_or_of_type, is_of_type}
use Rattle.bw_code.specs.declared.kind.ColumnType.{ColumnType}
use Rattle.bw_code.specs.declared.kind.ColumnType.TheVariants.{BigInt, Integer}

both : (a b : Bool) → (a && b) ≡ true → (a ≡ true) × (b ≡ true)
both true true e = (refl, refl)
both true false e = absurd cc
both false b e = absurd cc

pub of_type : (t : ColumnType) (x : ℤ) → is_of_type t x ≡ true → IsOfType t x
of_type Integer x e = let p = both (int_le (negsuc 2147483647) x) (int_le x (pos 2147483647)) e in omega (arith, ints, p.0, p.1)
of_type BigInt x e = let p = both (int_le (negsuc 9223372036854775807) x) (int_le x (pos 9223372036854775807)) e in omega (arith, ints, p.0, p.1)

pub null_or_of_type : (t : ColumnType) (value : Option ℤ) → is_null_or_of_type t value ≡ true → IsNullOrOfType t value
null_or_of_type t None e = tt
null_or_of_type t (Some x) e = of_type t x e

pub passes : (t : ColumnType) (x : ℤ) → IsOfType t x → is_of_type t x ≡ true
passes Integer (pos n) h = le-leb n 2147483647 (omega (arith, h))
passes Integer (negsuc n) h = ap (λ b. b && true) (le-leb n 2147483647 (omega (arith, h)))
passes BigInt (pos n) h = le-leb n 9223372036854775807 (omega (arith, h))
passes BigInt (negsuc n) h = ap (λ b. b && true) (le-leb n 9223372036854775807 (omega (arith, h)))

pub null_or_passes : (t : ColumnType) (value : Option ℤ) → IsNullOrOfType t value → is_null_or_of_type t value ≡ true
null_or_passes t None h = refl
null_or_passes t (Some x) h = passes t x h

-- ---- two lists, place by place

pub zipped_at : {A B : Type 0} (R : A → B → Type 0) (xs : List A) (ys : List B) (i : ℕ) (d : A) (e : B) → AllZip R xs ys → i < length xs → R (get_or xs i d) (get_or ys i e)
zipped_at R [] ys i d e all low = absurd (omega (arith, low))
zipped_at R (x ∷ xs) [] i d e all low = absurd all
zipped_at R (x ∷ xs) (y ∷ ys) zero d e all low = all.0
zipped_at R (x ∷ xs) (y ∷ ys) (suc i) d e all low = zipped_at R xs ys i d e all.1 (omega (arith, low))

pub zipped_by : {A B : Type 0} (R : A → B → Type 0) (xs : List A) (ys : List B) → length ys ≡ length xs → ((i : ℕ) (d : A) (e : B) → i < length xs → R (get_or xs i d) (get_or ys i e)) → AllZip R xs ys
zipped_by R [] [] same each = tt
zipped_by R [] (y ∷ ys) same each = absurd (omega (arith, same))
zipped_by R (x ∷ xs) [] same each = absurd (omega (arith, same))
zipped_by R (x ∷ xs) (y ∷ ys) same each = (each zero x y (omega (arith)), zipped_by R xs ys (omega (arith, same)) (λ i d e low. each (suc i) d e (omega (arith, low))))

pub row_of_types : (types : List ColumnType) (row : List (Option ℤ)) → length row ≡ length types → are_of_types types row ≡ true → IsRowOf types row
row_of_types [] [] same e = tt
row_of_types [] (value ∷ row) same e = absurd (omega (arith, same))
row_of_types (t ∷ types) [] same e = absurd (omega (arith, same))
row_of_types (t ∷ types) (value ∷ row) same e =
    let p = both (is_null_or_of_type t value) (are_of_types types row) e in
    (null_or_of_type t value p.0, row_of_types types row (omega (arith, same)) p.1)
