-- What conditions find, counted by values.
use Rattle.std.proofs.Common.{Bool, List, None, Some, [], ap, arith, cond, false, int_le, int_lt, is_none, length, map, refl}
use Rattle.std.proofs.Common.{suc, sym, true, ℤ}
use Rattle.std.proofs.Common.{◌&&◌, ◌≡◌, ◌∙◌, ◌∷◌}
use Rattle.std.specs.List.{filter}
use Rattle.std.specs.Ordering.{int_cmp, is_eq}
use Rattle.std.specs.declared.cmp.Ordering.{Ordering}
use Rattle.std.specs.declared.cmp.Ordering.TheVariants.{Equal, Greater, Less}
use Rattle.std.proofs.lemmas.Int.{ints}
use Rattle.std.proofs.lemmas.List.Elements.{filter_agree}
use Rattle.std.proofs.lemmas.List.Sums.{length-filter}
use Rattle.bw_cells.specs.SetFunctions.{known}
use Rattle.bw_mask.specs.Truth.{and_of, is_value, truth_of_bool}
use Rattle.bw_mask.specs.declared.truth_value.TruthValue.{TruthValue}
use Rattle.bw_mask.specs.declared.truth_value.TruthValue.TheVariants.{False, True, Unknown}
use Rattle.bw_lex.specs.declared.token.CompareOp.TheVariants.{Eq, Ge, Le, Lt}
use Rattle.bw_sql.specs.Tree.{between, comparison, each_of, more}
use Rattle.bw_sql.specs.declared.tree.Operand.TheVariants.{Column}
use Rattle.bw_model.specs.Condition.{compared, each_truth, is_found, lies_between, order_meets, truth_at}
use Rattle.bw_model.specs.Groups.{is_same}
use Rattle.bw_model.specs.Store.{Row, Value, place_of, value_from}
use Rattle.bw_merge.specs.CountLaws.{AndNarrows, RowsBelowAreCounted, RowsInsideAreFound, RowsOfGroupAreFound, RowsUpToAreCounted}
use Rattle.bw_merge.specs.CountLaws.{has_value, number, values_of}

both_true : (a b : TruthValue) → is_value (and_of a b) True ≡ (is_value a True && is_value b True)
both_true True b = refl
both_true False b = refl
both_true Unknown True = refl
both_true Unknown False = refl
both_true Unknown Unknown = refl

-- what passes both tests passes one and then the other
module _ {A : Type 0} (p q r : A → Bool) (both : (x : A) → r x ≡ (p x && q x)) where
  filtered_twice : (xs : List A) → filter r xs ≡ filter q (filter p xs)
  filtered_twice [] = refl
  filtered_twice (x ∷ xs) = ap (λ b. cond b (x ∷ filter r xs) (filter r xs)) (both x) ∙ by (p x) (filtered_twice xs)
    where
      by : (b : Bool) → filter r xs ≡ filter q (filter p xs)
          → cond (b && q x) (x ∷ filter r xs) (filter r xs) ≡ filter q (cond b (x ∷ filter p xs) (filter p xs))
      by true rest = ap (λ l. cond (q x) (x ∷ l) l) rest
      by false rest = rest

pub and_narrows : AndNarrows
and_narrows headers part parts rows =
    filtered_twice (is_found headers (Some part)) (is_found headers (Some (each_of parts)))
    (is_found headers (Some (each_of (more part parts))))
    (λ row. both_true (truth_at headers row part) (each_truth headers row parts)) rows

truth_true : (b : Bool) → is_value (truth_of_bool b) True ≡ b
truth_true true = refl
truth_true false = refl

-- a test of a value, false at null
abbrev test_of : (ℤ → Bool) → Value → Bool
test_of test None = false
test_of test (Some x) = test x

meets_le : (x v : ℤ) → order_meets Le (int_cmp x v) ≡ int_le x v
meets_le x v = by (int_lt x v) (int_lt v x) refl refl
  where
    by : (a b : Bool) → int_lt x v ≡ a → int_lt v x ≡ b → order_meets Le (cond a Less (cond b Greater Equal)) ≡ int_le x v
    by true b e f = grind (arith, ints, e)
    by false true e f = grind (arith, ints, f)
    by false false e f = grind (arith, ints, f)

meets_lt : (x v : ℤ) → order_meets Lt (int_cmp x v) ≡ int_lt x v
meets_lt x v = by (int_lt x v) (int_lt v x) refl
  where
    by : (a b : Bool) → int_lt x v ≡ a → order_meets Lt (cond a Less (cond b Greater Equal)) ≡ int_lt x v
    by true b e = sym e
    by false true e = sym e
    by false false e = sym e

meets_ge : (x v : ℤ) → order_meets Ge (int_cmp x v) ≡ int_le v x
meets_ge x v = by (int_lt x v) (int_lt v x) refl refl
  where
    by : (a b : Bool) → int_lt x v ≡ a → int_lt v x ≡ b → order_meets Ge (cond a Less (cond b Greater Equal)) ≡ int_le v x
    by true b e f = grind (arith, ints, e)
    by false true e f = grind (arith, ints, f)
    by false false e f = grind (arith, ints, e)

found_up_to : (v : ℤ) (value : Value) → is_value (compared Le value (Some v)) True ≡ test_of (λ x. int_le x v) value
found_up_to v None = refl
found_up_to v (Some x) = truth_true (order_meets Le (int_cmp x v)) ∙ meets_le x v

found_below : (v : ℤ) (value : Value) → is_value (compared Lt value (Some v)) True ≡ test_of (λ x. int_lt x v) value
found_below v None = refl
found_below v (Some x) = truth_true (order_meets Lt (int_cmp x v)) ∙ meets_lt x v

found_inside : (low high : ℤ) (value : Value) → is_value (lies_between value (Some low) (Some high)) True
    ≡ test_of (λ x. int_le low x && int_le x high) value
found_inside low high None = refl
found_inside low high (Some x) =
    both_true (truth_of_bool (order_meets Ge (int_cmp x low))) (truth_of_bool (order_meets Le (int_cmp x high)))
    ∙ ap (λ b. b && is_value (truth_of_bool (order_meets Le (int_cmp x high))) True)
    (truth_true (order_meets Ge (int_cmp x low)) ∙ meets_ge x low)
    ∙ ap (λ b. int_le low x && b) (truth_true (order_meets Le (int_cmp x high)) ∙ meets_le x high)

-- rows by a test of a value of theirs
module _ (value : Row → Value) (test : ℤ → Bool) (is : Row → Bool) (same : (row : Row) → is row ≡ test_of test (value row)) where
  kept_values : (rows : List Row) → known (map value (filter is rows)) ≡ filter test (known (map value rows))
  kept_values [] = refl
  kept_values (row ∷ rows) = ap (λ b. known (map value (cond b (row ∷ filter is rows) (filter is rows)))) (same row)
      ∙ by (value row) refl (kept_values rows)
    where
      other : (x : ℤ) (b : Bool) → value row ≡ Some x → known (map value (filter is rows)) ≡ filter test (known (map value rows))
          → known (map value (cond b (row ∷ filter is rows) (filter is rows)))
          ≡ cond b (x ∷ filter test (known (map value rows))) (filter test (known (map value rows)))
      other x true e rest = ap (λ w. known (w ∷ map value (filter is rows))) e ∙ ap (λ l. x ∷ l) rest
      other x false e rest = rest

      by : (v : Value) → value row ≡ v → known (map value (filter is rows)) ≡ filter test (known (map value rows))
          → known (map value (cond (test_of test v) (row ∷ filter is rows) (filter is rows))) ≡ filter test (known (v ∷ map value rows))
      by None e rest = rest
      by (Some x) e rest = other x (test x) e rest

  -- no row is found whose value is null
  kept_length : (rows : List Row) → length (filter is rows) ≡ length (filter test (known (map value rows)))
  kept_length [] = refl
  kept_length (row ∷ rows) = ap (λ b. length (cond b (row ∷ filter is rows) (filter is rows))) (same row)
      ∙ by (value row) (kept_length rows)
    where
      other : (x : ℤ) (b : Bool) → length (filter is rows) ≡ length (filter test (known (map value rows)))
          → length (cond b (row ∷ filter is rows) (filter is rows))
          ≡ length (cond b (x ∷ filter test (known (map value rows))) (filter test (known (map value rows))))
      other x true rest = ap suc rest
      other x false rest = rest

      by : (v : Value) → length (filter is rows) ≡ length (filter test (known (map value rows)))
          → length (cond (test_of test v) (row ∷ filter is rows) (filter is rows)) ≡ length (filter test (known (v ∷ map value rows)))
      by None rest = rest
      by (Some x) rest = other x (test x) rest

pub up_to_counted : RowsUpToAreCounted
up_to_counted headers name v rows =
    let value = λ (row : Row). value_from row (place_of headers name) in
    kept_length value (λ x. int_le x v) (is_found headers (Some (comparison (Column name) Le (number v))))
    (λ row. found_up_to v (value row)) rows
    ∙ length-filter (λ x. int_le x v) (values_of headers name rows)

pub below_counted : RowsBelowAreCounted
below_counted headers name v rows =
    let value = λ (row : Row). value_from row (place_of headers name) in
    kept_length value (λ x. int_lt x v) (is_found headers (Some (comparison (Column name) Lt (number v))))
    (λ row. found_below v (value row)) rows
    ∙ length-filter (λ x. int_lt x v) (values_of headers name rows)

pub inside_found : RowsInsideAreFound
inside_found headers name low high rows =
    let value = λ (row : Row). value_from row (place_of headers name) in
    kept_values value (λ x. int_le low x && int_le x high) (is_found headers (Some (between (Column name) (number low) (number high))))
    (λ row. found_inside low high (value row)) rows

meets_eq : (o : Ordering) → order_meets Eq o ≡ is_eq o
meets_eq Less = refl
meets_eq Equal = refl
meets_eq Greater = refl

found_null : (value : Value) → is_value (truth_of_bool (is_none value)) True ≡ is_same value None
found_null None = refl
found_null (Some x) = refl

found_same : (v : ℤ) (value : Value) → is_value (compared Eq value (Some v)) True ≡ is_same value (Some v)
found_same v None = refl
found_same v (Some x) = truth_true (order_meets Eq (int_cmp x v)) ∙ meets_eq (int_cmp x v)

pub group_found : RowsOfGroupAreFound
group_found headers name None rows =
    filter_agree (is_found headers (Some (has_value name None))) (λ row. is_same (value_from row (place_of headers name)) None)
    (λ row. found_null (value_from row (place_of headers name))) rows
group_found headers name (Some v) rows =
    filter_agree (is_found headers (Some (has_value name (Some v)))) (λ row. is_same (value_from row (place_of headers name)) (Some v))
    (λ row. found_same v (value_from row (place_of headers name))) rows
