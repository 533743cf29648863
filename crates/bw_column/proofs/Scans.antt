-- What a scan of codes says of the values.
use Rattle.std.proofs.Common.{Bool, None, Option, Some, ap, arith, count_by, false, inl, inr, is_some, not, refl, sym, true, ℕ, ℤ, ◌&&◌, ◌*◌, ◌≡◌, ◌∙◌}
use Rattle.std.specs.Prelude.{if◌then◌else◌}
use Rattle.std.proofs.lemmas.List.{get_or-map, get_or_default, length-map, same_lists}
use Rattle.bw_mask.specs.Masks.{MaskRows, len, row_at}
use Rattle.bw_mask.specs.Truth.{is_value, truth_of_bool}
use Rattle.bw_mask.specs.Truths.{truth_from}
use Rattle.bw_mask.specs.declared.truth_value.TruthValue.TheVariants.{True, Unknown}
use Rattle.bw_code.specs.Columns.{CodeList, code_at, count}
use Rattle.bw_code.specs.Encodings.{code_of, value_of}
use Rattle.bw_code.proofs.UnitLemmas.{count_rows}
use Rattle.bw_code.specs.Units.{units_of_fetches}
use Rattle.bw_code.specs.Tests.{int_compares, meets}
use Rattle.bw_code.specs.declared.compare.CmpOp.{CmpOp}
use Rattle.bw_code.specs.declared.compare.CodeTest.{CodeTest}
use Rattle.bw_code.specs.declared.encoding.Encoding.{Encoding}
use Rattle.bw_code.specs.declared.kind.Layout.{Layout}
use Rattle.bw_column.specs.Codes.{AreRowCodes, IsRowCode, code_for, codes_for, value_from, values_from}
use Rattle.bw_column.specs.Comparisons.{compare_so, compared, holds_of, truth_of}
use Rattle.bw_column.specs.Values.{value_at}
use Rattle.bw_code.proofs.Lists.{made_len}
use Rattle.bw_column.proofs.Rows.{known_rows, row_codes, value_of_row}
use Rattle.std.proofs.lemmas.Bool.{both_ways, cases_lt}
use Rattle.std.proofs.lemmas.List.{get_or_past, take_all}

-- tests of the same rows are one
pub same_rows : {X : Type 0} (f g : ℕ → X) → ((i : ℕ) → f i ≡ g i) → f ≡ g
same_rows f g h = λ t i. h i t

module _ {l : Layout} (e : Encoding) (codes : CodeList) (nonnull : MaskRows) (are : AreRowCodes l e codes nonnull) where
  pub all_codes : codes.codes ≡ codes_for e (values_from e codes nonnull)
  all_codes =
      let long = made_len (count codes) (λ i. value_from e (code_at codes i) (row_at nonnull i)) in
      same_lists codes.codes (codes_for e (values_from e codes nonnull)) (sym (length-map (values_from e codes nonnull) (code_for e) ∙ long)) (λ k d h.
      get_or_default codes.codes k d 0 h ∙ row_codes e codes nonnull are k ∙ sym (get_or-map (code_for e) (values_from e codes nonnull) k None d (omega (arith, long, h))))

  module _ (test : CodeTest) (holds : ℤ → Bool) (exact : (x : ℤ) (code : ℕ) → code_of e x ≡ Some code → meets test code ≡ holds x) where
    met : (code : ℕ) (b : Bool) → IsRowCode e code b → (b && meets test code) ≡ holds_of holds (value_from e code b)
    met code true h = exact (value_of e code) code h.0
    met code false h = refl

    row_met : (i : ℕ) → (row_at nonnull i && meets test (code_at codes i)) ≡ holds_of holds (value_at (values_from e codes nonnull) i)
    row_met i =
        elim (cases_lt i (count codes)) [
          | inl h ↦ met (code_at codes i) (row_at nonnull i) (are.each i h) ∙ ap (holds_of holds) (sym (value_of_row e codes nonnull are i))
          | inr h ↦
              let away : row_at nonnull i ≡ false = get_or_past nonnull.rows i false (omega (arith, are.len)) in
              rw away (ap (holds_of holds) (sym (value_of_row e codes nonnull are i ∙ ap (value_from e (code_at codes i)) away)))
        ]

    -- rows that are not null
    pub known_met : (needed : Bool) (i : ℕ) → (needed ≡ true → is_some (value_at (values_from e codes nonnull) i) ≡ true) → (needed && meets test (code_at codes i)) ≡ (needed && holds_of holds (value_at (values_from e codes nonnull) i))
    known_met true i there = let b : row_at nonnull i ≡ true = known_rows e codes nonnull are i ∙ there refl in rw b at (row_met i)
    known_met false i there = refl

    -- the needed rows that a scan of the known ones sets
    pub rows_met : (needed : Bool) (i : ℕ) → ((needed && row_at nonnull i) && meets test (code_at codes i)) ≡ (needed && holds_of holds (value_at (values_from e codes nonnull) i))
    rows_met true i = row_met i
    rows_met false i = refl

pub left_out : (rest holds : Bool) → (rest && not (rest && holds)) ≡ (rest && not holds)
left_out true holds = refl
left_out false holds = refl

-- the truth of a row by the two masks
pub split_truth : (holds : ℤ → Bool) (need : Bool) (value : Option ℤ) (t f : Bool) → t ≡ (need && holds_of holds value) → f ≡ ((need && is_some value) && not t) → truth_from t f ≡ (if need then truth_of holds value else Unknown)
split_truth holds false value t f a b = rw (b, a) refl
split_truth holds true None t f a b = rw (b, a) refl
split_truth holds true (Some x) t f a b = rw (b, a) (one (holds x))
  where
    one : (h : Bool) → truth_from h (not h) ≡ truth_of_bool h
    one true = refl
    one false = refl

-- the needed rows where a test holds of a value that is there are those where its truth is true
pub met_true : (holds : ℤ → Bool) (need : Bool) (value : Option ℤ) → (need && holds_of holds value) ≡ (need && is_value (truth_of holds value) True)
met_true holds need None = refl
met_true holds need (Some x) = ap (λ b. need && b) (one (holds x))
  where
    one : (h : Bool) → h ≡ is_value (truth_of_bool h) True
    one true = refl
    one false = refl

pub known_true : (holds : ℤ → Bool) (need : Bool) (value : Option ℤ) → ((need && is_some value) && holds_of holds value) ≡ (need && is_value (truth_of holds value) True)
known_true holds false value = refl
known_true holds true None = refl
known_true holds true (Some x) = met_true holds true (Some x)

pub all_there : (need there : Bool) → (need ≡ true → there ≡ true) → need ≡ (need && there)
all_there true there all = sym (all refl)
all_there false there all = refl

pub both_there : (need there : Bool) → (need && there) ≡ true → there ≡ true
both_there true there h = h
both_there false there h = absurd (both_ways false refl h)

pub apart : (known t f : Bool) → f ≡ (known && not t) → t ≡ true → f ≡ false
apart true t f is h = is ∙ ap not h
apart false t f is h = is

-- the truth of a row of two columns
pub pair_truth : (op : CmpOp) (need : Bool) (x y : Option ℤ) (t f : Bool) → t ≡ (need && compare_so op x y) → f ≡ (((need && is_some x) && is_some y) && not t) → truth_from t f ≡ (if need then compared op x y else Unknown)
pair_truth op false x y t f a b = rw (b, a) refl
pair_truth op true None y t f a b = rw (b, a) refl
pair_truth op true (Some x) y t f a b = split_truth (λ z. int_compares op x z) true y t f a b

-- two fetches at each row
pub fetched : (rows : MaskRows) → 2 * count_by (λ row. row) rows.rows ≡ units_of_fetches (row_at rows) (len rows)
unfolding units_of_fetches
fetched rows = ap (λ n. 2 * n) (sym (count_rows rows.rows (len rows) (omega arith) ∙ ap (count_by (λ row. row)) (take_all (len rows) rows.rows (omega arith))))
