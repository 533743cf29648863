-- What set functions of integers say fits a cell.
use Rattle.std.proofs.Common.{◌≡◌, ℕ, ℤ, pos, negsuc, ◌+◌, ◌*◌, ◌≤◌, ◌^◌, ◌+ℤ◌, ◌≤ℤ◌, Bool, true, false, FitsSigned, List, [], ◌∷◌, int_le, is_none, length, map, slice_get, None, Some, cond, nat_lt, not, if◌then◌else◌, zero, suc, refl, sym, ap, arith, ◌∙◌, inl, inr}
use Rattle.std.specs.Int.{w128, w64}
use Rattle.std.specs.List.{All, dedup, insert, list_any, position, position_or_len}
use Rattle.std.specs.Ordering.{int_eq}
use Rattle.std.specs.Option.{unwrap_or}
use Rattle.std.proofs.lemmas.Bool.{cases_lt}
use Rattle.std.proofs.lemmas.List.Sums.{prefix_len-le-length}
use Rattle.std.proofs.lemmas.Bool.Decides.{nat_tests}
use Rattle.std.proofs.lemmas.Int.{ints}
use Rattle.std.proofs.lemmas.List.Elements.{All-append, All-cons, All-head, All-nil, All-tail}
use Rattle.std.proofs.lemmas.List.Filters.{All-dedup}
use Rattle.bw_model.specs.Select.{folded, shown}
use Rattle.bw_cells.specs.SetFunctions.{known, put_in, sorted, sum, total}
use Rattle.bw_model.specs.Groups.{group_values, null_of}
use Rattle.bw_model.specs.Store.{Value, row_limit}
use Rattle.bw_model.specs.Told.{IsCell}
use Rattle.bw_sql.specs.declared.tree.SetFunction.{SetFunction}
use Rattle.bw_sql.specs.declared.tree.SetFunction.TheVariants.{Count, Sum, Min, Max, Median}

-- a value of a column: an integer of 64 bits
abbrev pub IsStored : ℤ → Type 0
IsStored n = FitsSigned w64 n

integer_low : (n : ℤ) → IsStored n → pos 0 ≤ℤ (n +ℤ pos (2 ^ 63))
integer_low n e = omega (arith, ints, e)

integer_high : (n : ℤ) → IsStored n → n ≤ℤ pos (2 ^ 63)
integer_high n e = omega (arith, ints, e)

-- a sum is no further from 0 than so many integers
total_high : (xs : List ℤ) → All IsStored xs → total xs ≤ℤ pos (length xs * 2 ^ 63)
total_high [] all = omega (arith, ints)
total_high (x ∷ xs) all = let one = integer_high x (All-head IsStored x xs all) in let rest = total_high xs (All-tail IsStored x xs all) in omega (arith, ints, one, rest)

total_low : (xs : List ℤ) → All IsStored xs → pos 0 ≤ℤ (total xs +ℤ pos (length xs * 2 ^ 63))
total_low [] all = omega (arith, ints)
total_low (x ∷ xs) all = let one = integer_low x (All-head IsStored x xs all) in let rest = total_low xs (All-tail IsStored x xs all) in omega (arith, ints, one, rest)

fits_by : (t : ℤ) (n : ℕ) → n ≤ row_limit → t ≤ℤ pos (n * 2 ^ 63) → pos 0 ≤ℤ (t +ℤ pos (n * 2 ^ 63)) → FitsSigned w128 t
fits_by (pos t) n few high low = omega (arith, ints, few, high)
fits_by (negsuc t) n few high low = omega (arith, ints, few, low)

sum_fits : (xs : List ℤ) → length xs ≤ row_limit → All IsStored xs → IsCell (shown (sum xs))
sum_fits [] few all = tt
sum_fits (x ∷ xs) few all = fits_by (total (x ∷ xs)) (length (x ∷ xs)) few (total_high (x ∷ xs) all) (total_low (x ∷ xs) all)

-- sorting keeps what holds of each
module _ (P : ℤ → Type 0) where
  put_by : (b : Bool) (x y : ℤ) (ys : List ℤ) → P x → P y → All P ys → All P (put_in x ys) → All P (if b then x ∷ y ∷ ys else y ∷ put_in x ys)
  put_by true x y ys p q all rest = All-cons P x (y ∷ ys) p (All-cons P y ys q all)
  put_by false x y ys p q all rest = All-cons P y (put_in x ys) q rest

  all_put : (x : ℤ) (xs : List ℤ) → P x → All P xs → All P (put_in x xs)
  all_put x [] p all = All-cons P x [] p (All-nil P)
  all_put x (y ∷ ys) p all = put_by (int_le x y) x y ys p (All-head P y ys all) (All-tail P y ys all) (all_put x ys p (All-tail P y ys all))

  pub all_sorted : (xs : List ℤ) → All P xs → All P (sorted xs)
  all_sorted [] all = All-nil P
  all_sorted (x ∷ xs) all = all_put x (sorted xs) (All-head P x xs all) (all_sorted xs (All-tail P x xs all))

integer_fits : (n : ℤ) → IsStored n → FitsSigned w128 n
integer_fits n e = omega (arith, ints, e)

entry_fits : (xs : List ℤ) (n : ℕ) → All IsStored xs → IsCell (shown (slice_get xs n))
entry_fits [] n all = tt
entry_fits (x ∷ xs) zero all = integer_fits x (All-head IsStored x xs all)
entry_fits (x ∷ xs) (suc n) all = entry_fits xs n (All-tail IsStored x xs all)

sorted_fits : (xs : List ℤ) (n : ℕ) → All IsStored xs → IsCell (shown (slice_get (sorted xs) n))
sorted_fits xs n all = entry_fits (sorted xs) n (all_sorted IsStored xs all)

-- the values that are not null are no more, and integers, too
few_known : (values : List Value) → length (known values) ≤ length values
few_known [] = omega arith
few_known (None ∷ values) = let rest = few_known values in omega (arith, rest)
few_known (Some n ∷ values) = let rest = few_known values in omega (arith, rest)

-- NULL, or an integer of 64 bits
abbrev pub IsNullOrStored : Value → Type 0
IsNullOrStored None = Unit {0}
IsNullOrStored (Some n) = IsStored n

all_known : (values : List Value) → All IsNullOrStored values → All IsStored (known values)
all_known [] all = All-nil IsStored
all_known (None ∷ values) all = all_known values (All-tail IsNullOrStored None values all)
all_known (Some n ∷ values) all = All-cons IsStored n (known values) (All-head IsNullOrStored (Some n) values all) (all_known values (All-tail IsNullOrStored (Some n) values all))

folded_by : (f : SetFunction) (xs : List ℤ) → length xs ≤ row_limit → All IsStored xs → IsCell (folded f xs)
folded_by Count xs few all = omega (arith, few)
folded_by Sum xs few all = sum_fits xs few all
folded_by Min xs few all = sorted_fits xs _ all
folded_by Max xs few all = sorted_fits xs _ all
folded_by Median xs few all = sorted_fits xs _ all

all_shown : (xs : List ℤ) → All IsStored xs → All IsNullOrStored (map Some xs)
all_shown [] all = All-nil IsNullOrStored
all_shown (x ∷ xs) all = All-cons IsNullOrStored (Some x) (map Some xs) (All-head IsStored x xs all) (all_shown xs (All-tail IsStored x xs all))

null_fits : (b : Bool) → All IsNullOrStored (if b then None ∷ [] else [])
null_fits true = All-cons IsNullOrStored None [] tt (All-nil IsNullOrStored)
null_fits false = All-nil IsNullOrStored

-- the values that groups have are among those of the rows
pub all_grouped : (values : List Value) → All IsNullOrStored values → All IsNullOrStored (group_values values)
all_grouped values all =
    let once = All-dedup int_eq IsStored (sorted (known values)) (all_sorted IsStored (known values) (all_known values all)) in
    All-append IsNullOrStored (map Some (dedup int_eq (sorted (known values)))) (null_of values) (all_shown (dedup int_eq (sorted (known values))) once) (null_fits (list_any is_none values))

-- a set function of integers
pub folded_fits : (f : SetFunction) (values : List Value) → length values ≤ row_limit → All IsNullOrStored values → IsCell (folded f (known values))
folded_fits f values few all = let fewer = few_known values in folded_by f (known values) (omega (arith, few, fewer)) (all_known values all)

-- a value is put in front of the first that it is not above
len_or : (p : ℕ) (n : ℕ) → p ≤ n → unwrap_or (cond (nat_lt p n) (Some p) None) n ≡ p
len_or p n few = elim (cases_lt p n) [
  | inl there ↦ let yes : nat_lt p n ≡ true = grind (arith, nat_tests, there) in ap (λ b. unwrap_or (cond b (Some p) None) n) yes
  | inr past ↦ let no : nat_lt p n ≡ false = grind (arith, nat_tests, past) in ap (λ b. unwrap_or (cond b (Some p) None) n) no ∙ omega (arith, past, few)
]

put_by_place : (x : ℤ) (xs : List ℤ) → put_in x xs ≡ insert xs (position_or_len (λ y. int_le x y) xs) x
put_by_place x [] = refl
put_by_place x (y ∷ ys) = by (int_le x y) (1 + position_or_len (λ z. int_le x z) ys) (omega arith) (put_by_place x ys)
  where
    by : (b : Bool) (k : ℕ) → k ≡ suc (position_or_len (λ z. int_le x z) ys) → put_in x ys ≡ insert ys (position_or_len (λ z. int_le x z) ys) x
        → (if b then x ∷ y ∷ ys else y ∷ put_in x ys) ≡ insert (y ∷ ys) (cond (not b) k 0) x
    by true k e rest = refl
    by false k e rest = ap (λ l. y ∷ l) rest ∙ ap (λ n. insert (y ∷ ys) n x) (sym e)

pub put_is : (x : ℤ) (xs : List ℤ) → put_in x xs ≡ insert xs (unwrap_or (position (int_le x) xs) (length xs)) x
put_is x xs = put_by_place x xs ∙ ap (λ p. insert xs p x) (sym (len_or (position_or_len (λ y. int_le x y) xs) (length xs) (prefix_len-le-length (λ y. not (int_le x y)) xs)))
