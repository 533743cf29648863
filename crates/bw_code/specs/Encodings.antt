-- How integers become codes that keep their order: as distances from a base (frame of reference: Goldstein, Ramakrishnan and
-- Shaft, ICDE 1998), or as indices among the sorted distinct values (order-preserving dictionaries: Antoshenkov, Lomet and
-- Murray, ICDE 1996).
use Rattle.std.specs.Prelude.{Bool, false, Contains, FitsSigned, List, Option, [], count_by, if◌then◌else◌, int_le, int_lt, length, max, nat_le, pos, slice_index_or, unsigned_abs, ℕ, ℤ, ◌&&◌, ◌+ℤ◌, ◌-ℤ◌, ◌-◌, ◌<◌, ◌==◌, ◌^◌, ◌↔◌, ◌∷◌, ◌≡◌, ◌≤ℤ◌}
use Rattle.std.specs.Prelude.{All as Each, Some, None as no_code}
use Rattle.std.specs.Cmp.Lexicographic.{pointwise}
use Rattle.std.specs.List.{position}
use Rattle.std.specs.Ordering.{int_eq}
use Rattle.std.specs.Int.{int_max, int_min, leading_zeros, w64}
use Rattle.bw_code.specs.Ascending.{IsAscending}
use Rattle.bw_code.specs.declared.compare.CmpOp.{CmpOp}
use Rattle.bw_code.specs.declared.compare.CmpOp.TheVariants.{Eq, Ne, Lt, Le, Gt, Ge}
use Rattle.bw_code.specs.declared.compare.CodeTest.{CodeTest}
use Rattle.bw_code.specs.declared.compare.CodeTest.TheVariants.{All, Cmp, None, Range}
use Rattle.bw_code.specs.declared.encoding.Encoding.{Encoding}
use Rattle.bw_code.specs.declared.encoding.Encoding.TheVariants as by
use Rattle.bw_code.specs.declared.kind.Kind.{Kind}
use Rattle.bw_code.specs.declared.kind.Kind.TheVariants as kind
use Rattle.bw_code.specs.declared.offset.Offset.{Offset}

abbrev pub kind_of : Encoding → Kind
kind_of (by.Offset o) = kind.Offset
kind_of (by.Dictionary entries) = kind.Dictionary

-- whether two encodings are the same
abbrev pub same_encoding : Encoding → Encoding → Bool
same_encoding (by.Offset o) (by.Offset p) = int_eq o.base p.base && o.width == p.width
same_encoding (by.Dictionary a) (by.Dictionary b) = pointwise int_eq a b
same_encoding (by.Offset o) (by.Dictionary b) = false
same_encoding (by.Dictionary a) (by.Offset p) = false

-- how many bits a number below 2^64 needs, at least one
unfoldable pub bits_of : ℕ → ℕ
bits_of n = max (64 - leading_zeros w64 n) 1

-- the width of a code in bits: the codes of a dictionary go up to the number of its entries minus one
abbrev pub width : Encoding → ℕ
width (by.Offset o) = o.width
width (by.Dictionary entries) = bits_of (length entries - 1)

-- the absolute difference of two integers
abbrev pub distance : ℤ → ℤ → ℕ
distance a b = unsigned_abs (a -ℤ b)

-- the greatest value that has a code by an offset
abbrev pub top : Offset → ℤ
top o = o.base +ℤ pos (2 ^ o.width - 1)

-- from the base to the top
abbrev pub IsWithin : Offset → ℤ → Type 0
IsWithin o x = (o.base ≤ℤ x) × (x ≤ℤ top o)

-- the values that have a code
abbrev pub HasCode : Encoding → ℤ → Type 0
HasCode (by.Offset o) x = IsWithin o x
HasCode (by.Dictionary entries) x = Contains entries x

-- the code is the distance from the base, or the index of the entry
abbrev pub offset_code : Offset → ℤ → Option ℕ
offset_code o x = if int_le o.base x && int_le x (top o) then Some (distance x o.base) else no_code

abbrev pub entry_code : List ℤ → ℤ → Option ℕ
entry_code entries x = position (λ entry. int_eq entry x) entries

abbrev pub code_of : Encoding → ℤ → Option ℕ
code_of (by.Offset o) x = offset_code o x
code_of (by.Dictionary entries) x = entry_code entries x

-- the value that a code stands for
abbrev pub value_of : Encoding → ℕ → ℤ
value_of (by.Offset o) code = o.base +ℤ pos code
value_of (by.Dictionary entries) code = slice_index_or entries code (pos 0)

-- a code stands for an i64
pub record IsCode (e : Encoding) (code : ℕ) : Type 0 where
  pub value : ℤ
  pub fits : FitsSigned w64 value
  pub is : code_of e value ≡ Some code

-- the test where all values are below the constant, and where all are above it
abbrev pub test_below : CmpOp → CodeTest
test_below Ne = All
test_below Lt = All
test_below Le = All
test_below _ = None

abbrev pub test_above : CmpOp → CodeTest
test_above Ne = All
test_above Gt = All
test_above Ge = All
test_above _ = None

-- by whether the constant is below the base, above the top, or between them
abbrev pub offset_test : Offset → CmpOp → ℤ → CodeTest
offset_test o op c = if int_lt c o.base then test_above op else (if int_lt (top o) c then test_below op else Cmp op (distance c o.base))

-- how many entries are below an integer, and how many are below or equal to it
abbrev pub below : List ℤ → ℤ → ℕ
below entries x = count_by (λ entry. int_lt entry x) entries

abbrev pub upto : List ℤ → ℤ → ℕ
upto entries x = count_by (λ entry. int_le entry x) entries

-- among `count` entries, r of them below the constant and q of them below or equal to it
abbrev pub rank_test : CmpOp → ℕ → ℕ → ℕ → CodeTest
rank_test Eq r q count = if r == q then None else Cmp Eq r
rank_test Ne r q count = if r == q then All else Cmp Ne r
rank_test Lt r q count = if r == 0 then None else (if r == count then All else Cmp Lt r)
rank_test Le r q count = if q == 0 then None else (if q == count then All else Cmp Lt q)
rank_test Gt r q count = if q == count then None else (if q == 0 then All else Cmp Ge q)
rank_test Ge r q count = if r == count then None else (if r == 0 then All else Cmp Ge r)

-- the test of an operator and a constant
abbrev pub test_of : Encoding → CmpOp → ℤ → CodeTest
test_of (by.Offset o) op c = offset_test o op c
test_of (by.Dictionary entries) op c = rank_test op (below entries c) (upto entries c) (length entries)

-- the values from first to last, which lie between the base and the top
abbrev pub clipped_range : Offset → ℤ → ℤ → CodeTest
clipped_range o first last = if int_lt last first then None else (if int_eq first o.base && int_eq last (top o) then All else Range (distance first o.base) (distance last o.base))

abbrev pub offset_range : Offset → ℤ → ℤ → CodeTest
offset_range o low high = clipped_range o (int_max low o.base) (int_min high (top o))

-- among `count` entries, r of them below the low end and q below or equal to the high end
abbrev pub rank_range : ℕ → ℕ → ℕ → CodeTest
rank_range r q count = if nat_le q r then None else (if r == 0 && q == count then All else Range r (q - 1))

-- the test of the values from low to high
abbrev pub range_of : Encoding → ℤ → ℤ → CodeTest
range_of (by.Offset o) low high = offset_range o low high
range_of (by.Dictionary entries) low high = rank_range (below entries low) (upto entries high) (length entries)

pub record IsLeast (values : List ℤ) (least : ℤ) : Type 0 where
  pub reached : Contains values least
  pub bound : Each (λ x. least ≤ℤ x) values

pub record IsGreatest (values : List ℤ) (greatest : ℤ) : Type 0 where
  pub reached : Contains values greatest
  pub bound : Each (λ x. x ≤ℤ greatest) values

-- the base is the least value, and the width holds the greatest distance from it
pub record SpansValues (o : Offset) (values : List ℤ) : Type 0 where
  pub greatest : ℤ
  pub starts : IsLeast values o.base
  pub ends : IsGreatest values greatest
  pub wide : o.width ≡ bits_of (distance greatest o.base)

-- for no values the offset has base 0 and width 1
abbrev pub IsOffsetFit : List ℤ → Offset → Type 0
IsOffsetFit [] o = (o.base ≡ pos 0) × (o.width ≡ 1)
IsOffsetFit (x ∷ xs) o = SpansValues o (x ∷ xs)

-- the entries are the distinct values, ascending
pub record AreDistinct (values entries : List ℤ) : Type 0 where
  pub ascending : IsAscending entries
  pub same : (x : ℤ) → (Contains entries x ↔ Contains values x)

-- which encoding a list of values gets
abbrev pub IsFit : List ℤ → Encoding → Type 0
IsFit values (by.Offset o) = IsOffsetFit values o
IsFit values (by.Dictionary entries) = AreDistinct values entries

-- the codes of values, one by one
pub record AreCodes (code_for : ℤ → Option ℕ) (values : List ℤ) (codes : List ℕ) : Type 0 where
  pub count : length codes ≡ length values
  pub each : (i : ℕ) → i < length values → code_for (slice_index_or values i (pos 0)) ≡ Some (slice_index_or codes i 0)

-- entries ascend, and their indices fit 64 bits
pub record AreEntries (entries : List ℤ) : Type 0 where
  pub ascending : IsAscending entries
  pub few : length entries < 2 ^ 64

-- what holds of every encoding that the program makes
abbrev pub IsEncoding : Encoding → Type 0
IsEncoding (by.Offset o) = Unit {0}
IsEncoding (by.Dictionary entries) = AreEntries entries
