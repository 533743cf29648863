-- What scans cost.
use Rattle.std.proofs.Common.{Bool, List, ap, arith, cond, count_by, false, get_or, length, max, min, refl, suc, sum_by, sym, take, zero, ℕ, ◌%◌, ◌*◌, ◌+◌, ◌/◌, ◌<◌, ◌≡◌, ◌≤◌, ◌∙◌, if◌then◌else◌}
use Rattle.std.proofs.lemmas.List.{take_all}
use Rattle.std.proofs.lemmas.List.Sums.{sum_by_more}
use Rattle.bw_code.specs.Units.{Segmentation, greatest_below, segmentation, segments_of, segment_units, by_codes, cost_of, count_below, some_below, sum_below, units_of_fetches, units_of_pair, units_of_scan}
use Rattle.bw_code.specs.declared.compare.CodeTest.{CodeTest}
use Rattle.bw_code.specs.declared.compare.CodeTest.TheVariants.{All, Cmp, None, Range}
use Rattle.bw_code.specs.declared.compare.CmpOp.{CmpOp}
use Rattle.bw_code.specs.declared.kind.Layout.{Layout}
use Rattle.bw_code.specs.declared.kind.Layout.TheVariants.{P}

pub sum_same : (n : ℕ) (f g : ℕ → ℕ) → ((j : ℕ) → j < n → f j ≡ g j) → sum_below n f ≡ sum_below n g
unfolding sum_below
sum_same zero f g same = refl
sum_same (suc n) f g same = rw (sum_same n f g (λ j h. same j (omega arith)), same n (omega arith)) refl

pub sum_zero : (n : ℕ) → sum_below n (λ j. 0) ≡ 0
unfolding sum_below
sum_zero zero = refl
sum_zero (suc n) = ap (λ x. x + 0) (sum_zero n)

pub some_same : (n : ℕ) (f g : ℕ → Bool) → ((j : ℕ) → j < n → f j ≡ g j) → some_below n f ≡ some_below n g
unfolding some_below
some_same zero f g same = refl
some_same (suc n) f g same = rw (some_same n f g (λ j h. same j (omega arith)), same n (omega arith)) refl

pub greatest_same : (n : ℕ) (f g : ℕ → ℕ) → ((j : ℕ) → j < n → f j ≡ g j) → greatest_below n f ≡ greatest_below n g
unfolding greatest_below
greatest_same zero f g same = refl
greatest_same (suc n) f g same = rw (greatest_same n f g (λ j h. same j (omega arith)), same n (omega arith)) refl

-- what a segment costs is by its own rows alone
pub cost_same : (cut : Segmentation) (f g : ℕ → Bool) (a b : ℕ → ℕ) → ((j : ℕ) → j < cut.rows → f j ≡ g j) → ((j : ℕ) → j < cut.rows → a j ≡ b j) → cost_of cut f a ≡ cost_of cut g b
cost_same cut f g a b same also =
    rw (
      some_same cut.rows f g same,
      greatest_same cut.rows (λ j. if f j then a j else 0) (λ j. if g j then b j else 0) (λ j h. rw (same j h, also j h) refl),
    ) refl

pub segment_same : (cut : Segmentation) (test : CodeTest) (f g : ℕ → Bool) (code other : ℕ → ℕ) → ((j : ℕ) → j < cut.rows → f j ≡ g j) → ((j : ℕ) → j < cut.rows → code j ≡ other j)
    → segment_units cut test f code ≡ segment_units cut test g other
segment_same cut None f g code other same also = refl
segment_same cut All f g code other same also = refl
segment_same cut (Cmp op constant) f g code other same also = cost_same cut f g _ _ same (λ j h. ap (λ x. cut.agree x constant) (also j h))
segment_same cut (Range low high) f g code other same also = cost_same cut f g _ _ same (λ j h. ap (λ x. max (cut.agree x low) (cut.agree x high)) (also j h))

-- a segment without a needed row costs nothing
pub segment_none : (cut : Segmentation) (test : CodeTest) (needed : ℕ → Bool) (code : ℕ → ℕ) → some_below cut.rows needed ≡ false → segment_units cut test needed code ≡ 0
segment_none cut None needed code none = refl
segment_none cut All needed code none = refl
segment_none cut (Cmp op constant) needed code none = rw none refl
segment_none cut (Range low high) needed code none = rw none refl

-- a test that no code meets, or each code
module _ (layout : Layout) (width : ℕ) (needed : ℕ → Bool) (codes : List ℕ) where
  pub units_of_none : units_of_scan layout width None needed codes ≡ 0
  unfolding units_of_scan
  units_of_none = sum_zero (segments_of (segmentation layout width).rows (length codes))

  pub units_of_all : units_of_scan layout width All needed codes ≡ 0
  unfolding units_of_scan
  units_of_all = sum_zero (segments_of (segmentation layout width).rows (length codes))

-- a segment of one row
pub one_row : (needed : ℕ → Bool) (agreed : ℕ → ℕ) (q : ℕ) → cost_of by_codes (λ j. needed (1 * q + j)) agreed ≡ (if needed q then 1 else 0)
unfolding some_below
one_row needed agreed q = let place : 1 * q + 0 ≡ q = omega arith in ap (λ i. if needed i then 1 else 0) place

by_ones : (n : ℕ) → n / 1 + min 1 (n % 1) ≡ n
by_ones n = omega arith

-- how many rows of a mask are in
pub count_rows : (rows : List Bool) (n : ℕ) → n ≤ length rows → count_below n (λ i. get_or rows i false) ≡ count_by (λ row. row) (take n rows)
unfolding sum_below
count_rows rows zero h = refl
count_rows rows (suc n) h =
    let more = sum_by_more (λ row. cond row 1 0) rows n false (omega arith) in
    let next : suc n ≡ n + 1 = omega arith in
    ap (λ k. k + (if get_or rows n false then 1 else 0)) (count_rows rows n (omega arith)) ∙ sym more ∙ ap (λ k. sum_by (λ row. cond row 1 0) (take k rows)) (sym next)

-- a scan of plain codes costs the number of needed rows, where codes are looked at
module _ (width : ℕ) (rows : List Bool) (codes : List ℕ) (same : length codes ≡ length rows) where
  abbrev needed : ℕ → Bool
  needed i = get_or rows i false

  each_needed : (agreed : ℕ → ℕ → ℕ) → sum_below (length codes / 1 + min 1 (length codes % 1)) (λ q. cost_of by_codes (λ j. needed (1 * q + j)) (agreed q)) ≡ count_by (λ row. row) rows
  each_needed agreed =
      ap (λ n. sum_below n (λ q. cost_of by_codes (λ j. needed (1 * q + j)) (agreed q))) (by_ones (length codes))
      ∙ sum_same (length codes) _ (λ q. if needed q then 1 else 0) (λ q h. one_row needed (agreed q) q)
      ∙ count_rows rows (length codes) (omega arith) ∙ ap (count_by (λ row. row)) (take_all (length codes) rows (omega arith))

  pub units_of_cmp : (op : CmpOp) (constant : ℕ) → units_of_scan P width (Cmp op constant) needed codes ≡ count_by (λ row. row) rows
  unfolding units_of_scan
  units_of_cmp op constant = each_needed (λ q j. 0)

  pub units_of_range : (low high : ℕ) → units_of_scan P width (Range low high) needed codes ≡ count_by (λ row. row) rows
  unfolding units_of_scan
  units_of_range low high = each_needed (λ q j. 0)

  pub units_of_pairs : (others : List ℕ) → units_of_pair P width needed codes others ≡ 2 * count_by (λ row. row) rows
  unfolding units_of_pair
  units_of_pairs others = ap (λ n. 2 * n) (each_needed (λ q j. 0))

-- two lists of plain codes side by side cost what it costs to fetch both codes of each needed row
pub plain_pairs : (width : ℕ) (needed : ℕ → Bool) (codes others : List ℕ) → units_of_pair P width needed codes others ≡ units_of_fetches needed (length codes)
unfolding units_of_pair units_of_fetches
plain_pairs width needed codes others =
    let each : sum_below (length codes / 1 + min 1 (length codes % 1)) (λ q. cost_of by_codes (λ j. needed (1 * q + j)) (λ j. 0)) ≡ count_below (length codes) needed =
    ap (λ n. sum_below n (λ q. cost_of by_codes (λ j. needed (1 * q + j)) (λ j. 0))) (by_ones (length codes))
    ∙ sum_same (length codes) _ (λ q. if needed q then 1 else 0) (λ q h. one_row needed (λ j. 0) q) in
    ap (λ n. 2 * n) each
