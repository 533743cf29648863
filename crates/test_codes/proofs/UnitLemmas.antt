-- The definitions of units, a step at a time.
use Rattle.std.proofs.Common.{Bool, add-one, ap, arith, false, if◌then◌else◌, max, refl, suc, true, zero, ℕ, ◌%◌, ◌*◌, ◌+◌, ◌-◌, ◌/◌, ◌<◌, ◌==◌, ◌^◌, ◌||◌, ◌≡◌, ◌∙◌, sym}
use Rattle.std.proofs.Common.{◌≤◌, List, inl, inr, length, slice_index}
use mathlib.Core.Logic.{◌≢◌}
use Rattle.std.proofs.lemmas.Bool.{cases_lt, eq-eqb, ne_eqb}
use Rattle.std.proofs.lemmas.List.{get_or_past}
use Rattle.bw_mask.specs.Masks.{MaskRows, len, row_at}
use Rattle.bw_code.specs.declared.compare.CmpOp.{CmpOp}
use Rattle.bw_code.specs.declared.compare.CodeTest.TheVariants.{All, Cmp, None, Range}
use Rattle.bw_code.specs.declared.kind.Layout.{Layout}
use Rattle.std.specs.Int.{div_ceil}
use Rattle.std.proofs.Math.Nat.{div-div-eq-div-mul, pow-suc}
use Rattle.bw_code.specs.Units.{Segmentation, agreement, cost_of, count_below, greatest_below, leading, segmentation, segments_of, some_below, sum_below, units_of_addition, units_of_fetches, units_of_pair, units_of_scan}

leading_same : (n : ℕ) (f g : ℕ → Bool) → ((j : ℕ) → j < n → f j ≡ g j) → leading n f ≡ leading n g
unfolding leading
leading_same zero f g same = refl
leading_same (suc n) f g same = rw (same 0 (omega arith), leading_same n (λ j. f (suc j)) (λ j. g (suc j)) (λ j h. same (suc j) (omega arith))) refl

-- one digit more, at the front
pub agreement_more : (base i x y : ℕ) → agreement base (i + 1) x y ≡ (if x / base ^ i % base == y / base ^ i % base then agreement base i x y + 1 else 0)
unfolding leading
agreement_more base i x y =
    let next : i + 1 ≡ suc i = omega arith in
    let first : suc i - 1 - 0 ≡ i = omega arith in
    rw (next, first) (ap (λ n. if x / base ^ i % base == y / base ^ i % base then n else 0)
    (ap suc (leading_same i _ _ (λ j h. let place : suc i - 1 - suc j ≡ i - 1 - j = omega arith in ap (λ e. x / base ^ e % base == y / base ^ e % base) place)) ∙ sym (add-one _)))

pub agreement_none : (base x y : ℕ) → agreement base 0 x y ≡ 0
unfolding leading
agreement_none base x y = refl

pub less_digits : (base i x : ℕ) → x / base ^ i / base ≡ x / base ^ (i + 1)
less_digits base i x = let next : i + 1 ≡ suc i = omega arith in rw next (div-div-eq-div-mul x (base ^ i) base ∙ ap (λ d. x / d) (sym (pow-suc base i)))

pub some_none : (test : ℕ → Bool) → some_below 0 test ≡ false
unfolding some_below
some_none test = refl

pub some_more : (n : ℕ) (test : ℕ → Bool) → some_below (n + 1) test ≡ (some_below n test || test n)
unfolding some_below
some_more n test = rw add-one refl

pub greatest_none : (value : ℕ → ℕ) → greatest_below 0 value ≡ 0
unfolding greatest_below
greatest_none value = refl

pub greatest_more : (n : ℕ) (value : ℕ → ℕ) → greatest_below (n + 1) value ≡ max (greatest_below n value) (value n)
unfolding greatest_below
greatest_more n value = rw add-one refl

pub sum_none : (value : ℕ → ℕ) → sum_below 0 value ≡ 0
unfolding sum_below
sum_none value = refl

pub sum_more : (n : ℕ) (value : ℕ → ℕ) → sum_below (n + 1) value ≡ sum_below n value + value n
unfolding sum_below
sum_more n value = rw add-one refl

sum_same : (n : ℕ) (f g : ℕ → ℕ) → ((j : ℕ) → j < n → f j ≡ g j) → sum_below n f ≡ sum_below n g
unfolding sum_below
sum_same zero f g same = refl
sum_same (suc n) f g same = rw (sum_same n f g (λ j h. same j (omega arith)), same n (omega arith)) refl

greatest_same : (n : ℕ) (f g : ℕ → ℕ) → ((j : ℕ) → f j ≡ g j) → greatest_below n f ≡ greatest_below n g
unfolding greatest_below
greatest_same zero f g same = refl
greatest_same (suc n) f g same = rw (greatest_same n f g same, same n) refl

-- what counts of a row is its agreement where it is needed
by_need : (needed : Bool) (a b : ℕ) → (needed ≡ true → a ≡ b) → (if needed then a else 0) ≡ (if needed then b else 0)
by_need true a b same = same refl
by_need false a b same = refl

pub costs_same : (cut : Segmentation) (segments : ℕ) (needed : ℕ → Bool) (a b : ℕ → ℕ) → ((i : ℕ) → needed i ≡ true → a i ≡ b i)
    → sum_below segments (λ q. cost_of cut (λ j. needed (cut.rows * q + j)) (λ j. a (cut.rows * q + j))) ≡ sum_below segments (λ q. cost_of cut (λ j. needed (cut.rows * q + j)) (λ j. b (cut.rows * q + j)))
costs_same cut segments needed a b same =
    sum_same segments _ _ (λ q h. ap (λ g. if some_below cut.rows (λ j. needed (cut.rows * q + j)) then cut.cost g else 0)
    (greatest_same cut.rows _ _ (λ j. by_need (needed (cut.rows * q + j)) (a (cut.rows * q + j)) (b (cut.rows * q + j)) (same (cut.rows * q + j)))))

pub no_units : (segments : ℕ) → sum_below segments (λ q. 0) ≡ 0
unfolding sum_below
no_units zero = refl
no_units (suc n) = ap (λ x. x + 0) (no_units n)

pub max_same : (a : ℕ) → max a a ≡ a
max_same a = omega arith

pub agreement_yes : (base i x y : ℕ) → x / base ^ i % base ≡ y / base ^ i % base → agreement base (i + 1) x y ≡ agreement base i x y + 1
agreement_yes base i x y e = agreement_more base i x y ∙ ap (λ b. if b then agreement base i x y + 1 else 0) (eq-eqb _ _ e)

pub agreement_no : (base i x y : ℕ) → x / base ^ i % base ≢ y / base ^ i % base → agreement base (i + 1) x y ≡ 0
agreement_no base i x y d = agreement_more base i x y ∙ ap (λ b. if b then agreement base i x y + 1 else 0) (ne_eqb _ _ d)

-- a needed row is one of the rows
pub is_row : (mask : MaskRows) (i : ℕ) → row_at mask i ≡ true → i < len mask
is_row mask i e =
    elim (cases_lt i (len mask)) [
      | inl h ↦ h
      | inr h ↦ let past = get_or_past mask.rows i false h in absurd (grind (arith, e, past))
    ]

module _ (layout : Layout) (width n : ℕ) (needed : ℕ → Bool) (codes : List ℕ) where
  abbrev cut : Segmentation
  cut = segmentation layout width

  pub units_of_none : units_of_scan layout width None needed codes ≡ 0
  unfolding units_of_scan
  units_of_none = no_units (segments_of cut.rows (length codes))

  pub units_of_all : units_of_scan layout width All needed codes ≡ 0
  unfolding units_of_scan
  units_of_all = no_units (segments_of cut.rows (length codes))

  -- a comparison costs what the range from its constant to its constant does
  pub units_of_cmp : (op : CmpOp) (constant : ℕ) → units_of_scan layout width (Cmp op constant) needed codes ≡ units_of_scan layout width (Range constant constant) needed codes
  unfolding units_of_scan
  units_of_cmp op constant =
      let agreed : ℕ → ℕ = λ i. cut.agree (slice_index codes i) constant in
      costs_same cut (segments_of cut.rows (length codes)) needed agreed (λ i. max (agreed i) (agreed i)) (λ i e. sym (max_same (agreed i)))

  pub units_of_range : (low high : ℕ) (agreed : ℕ → ℕ) → length codes ≡ n → ((i : ℕ) → needed i ≡ true → agreed i ≡ max (cut.agree (slice_index codes i) low) (cut.agree (slice_index codes i) high))
      → sum_below (segments_of cut.rows n) (λ q. cost_of cut (λ j. needed (cut.rows * q + j)) (λ j. agreed (cut.rows * q + j))) ≡ units_of_scan layout width (Range low high) needed codes
  unfolding units_of_scan
  units_of_range low high agreed same each =
      ap (λ m. sum_below (segments_of cut.rows m) (λ q. cost_of cut (λ j. needed (cut.rows * q + j)) (λ j. agreed (cut.rows * q + j)))) (sym same)
      ∙ costs_same cut (segments_of cut.rows (length codes)) needed agreed (λ i. max (cut.agree (slice_index codes i) low) (cut.agree (slice_index codes i) high)) each

  pub units_of_two : (others : List ℕ) (agreed : ℕ → ℕ) → length codes ≡ n → ((i : ℕ) → needed i ≡ true → agreed i ≡ cut.agree (slice_index codes i) (slice_index others i))
      → 2 * sum_below (segments_of cut.rows n) (λ q. cost_of cut (λ j. needed (cut.rows * q + j)) (λ j. agreed (cut.rows * q + j))) ≡ units_of_pair layout width needed codes others
  unfolding units_of_pair
  units_of_two others agreed same each =
      ap (λ m. 2 * sum_below (segments_of cut.rows m) (λ q. cost_of cut (λ j. needed (cut.rows * q + j)) (λ j. agreed (cut.rows * q + j)))) (sym same)
      ∙ ap (λ x. 2 * x) (costs_same cut (segments_of cut.rows (length codes)) needed agreed (λ i. cut.agree (slice_index codes i) (slice_index others i)) each)

module _ (width other n : ℕ) (needed : ℕ → Bool) where
  pub addition_of_some : some_below n needed ≡ true → units_of_addition width other needed n ≡ (width + other) * div_ceil n 256
  unfolding units_of_addition
  addition_of_some e = rw e refl

  pub addition_of_none : some_below n needed ≡ false → units_of_addition width other needed n ≡ 0
  unfolding units_of_addition
  addition_of_none e = rw e refl

pub fetches_are : (n : ℕ) (needed : ℕ → Bool) → units_of_fetches needed n ≡ 2 * count_below n needed
unfolding units_of_fetches
fetches_are n needed = refl

pub one_at_most : (b : Bool) (n : ℕ) → n ≡ (if b then 1 else 0) → n ≤ 1
one_at_most true n e = omega arith
one_at_most false n e = omega arith
