-- Lines that lie flat, written one after the other.
use Rattle.std.proofs.Common.{append-nil, append_assoc, eq-zero-or-pos, inl, inr, min, ◌≡◌, ℕ, ◌+◌, ◌-◌, ◌*◌, ◌/◌, ◌<◌, ◌≤◌, List, [], ◌∷◌, ◌++◌, Option, refl, take, drop, length, replicate, zero, suc, sym, ap, ◌∙◌, subst, arith, length-drop, length-take}
use Rattle.std.proofs.Math.Nat.{mul-div_cancel}
use Rattle.std.proofs.lemmas.Nat.{mul-le}
use Rattle.std.proofs.lemmas.List.Concat.{flat_map-append}
use Rattle.std.proofs.lemmas.List.{drop-drop, drop-take, drop_all, take-take, take_all}
use Rattle.std.specs.Io.KnownBytes.{Appends}
use Rattle.bw_model.specs.Answers.{AreWholeLines, lines_of}
use Rattle.bw_model.specs.ReplyText.{cell_text, line, lines_text, with_commas}
use Rattle.bw_model.specs.declared.answer.Cell.{Cell}
use Rattle.bw_sql.specs.Rows.{rows_of}
use Rattle.bw_shell.specs.Writing.{AppendsPrefix}
use Rattle.bw_shell.proofs.Texts.{Progress, fails, more}

count_is : (width : ℕ) (cells : List Cell) (n : ℕ) → 0 < width → length cells ≡ n * width → length cells / width ≡ n
count_is width cells n some e = ap (λ l. l / width) e ∙ mul-div_cancel n some

suc_times : (n width : ℕ) → suc n * width ≡ width + n * width
suc_times n width = grind arith

rest_count : (width : ℕ) (cells : List Cell) (n : ℕ) → length cells ≡ suc n * width → length (drop width cells) ≡ n * width
rest_count width cells n e = omega (arith, length-drop width cells, suc_times n width)

lines_by : (width : ℕ) (cells : List Cell) (n : ℕ) → 0 < width → length cells ≡ n * width → lines_of width cells ≡ rows_of (replicate n width) cells
lines_by width cells n some e = ap (λ k. rows_of (replicate k width) cells) (count_is width cells n some e)

first_line_by : (width : ℕ) (cells : List Cell) (n : ℕ) → 0 < width → 0 < length cells → length cells ≡ n * width → lines_of width cells ≡ take width cells ∷ lines_of width (drop width cells)
first_line_by width cells zero some h e = absurd (omega arith)
first_line_by width cells (suc n) some h e =
    lines_by width cells (suc n) some e ∙ ap (λ l. take width cells ∷ l) (sym (lines_by width (drop width cells) n some (rest_count width cells n e)))

fits_by : (width : ℕ) (cells : List Cell) (n : ℕ) → 0 < length cells → length cells ≡ n * width → width ≤ length cells
fits_by width cells zero h e = absurd (omega arith)
fits_by width cells (suc n) h e = omega (arith, suc_times n width)

rest_by : (width : ℕ) (cells : List Cell) (n : ℕ) → 0 < width → 0 < length cells → length cells ≡ n * width → AreWholeLines width (drop width cells)
rest_by width cells zero some h e = absurd (omega arith)
rest_by width cells (suc n) some h e = record { some = some; count = n; whole = rest_count width cells n e }

module _ (width : ℕ) (cells : List Cell) (are : AreWholeLines width cells) (h : 0 < length cells) where
  pub line_fits : width ≤ length cells
  line_fits = fits_by width cells are.count h are.whole

  pub rest_whole : AreWholeLines width (drop width cells)
  rest_whole = rest_by width cells are.count are.some h are.whole

  first_line : lines_text (lines_of width cells) ≡ line (with_commas cell_text (take width cells)) ++ lines_text (lines_of width (drop width cells))
  first_line = ap lines_text (first_line_by width cells are.count are.some h are.whole)

  module _ (old now : Option (List ℕ)) (whole : List ℕ) (first : List Cell) (is : first ≡ take width cells) (p : Progress old now whole (lines_text (lines_of width cells))) where
    in_line : Progress old now whole (line (with_commas cell_text first) ++ lines_text (lines_of width (drop width cells)))
    in_line = rw is (subst (Progress old now whole) first_line p)

    pub line_fails : (new : Option (List ℕ)) → AppendsPrefix now new (line (with_commas cell_text first)) → AppendsPrefix old new whole
    line_fails new f = fails old now new whole _ _ in_line f

    pub line_more : (new : Option (List ℕ)) → Appends now new (line (with_commas cell_text first)) → Progress old new whole (lines_text (lines_of width (drop width cells)))
    line_more new grown = more old now new whole _ _ in_line grown

-- lines that are cut after one of them
take_first : (width k : ℕ) (cells : List Cell) → take width (take (width + k) cells) ≡ take width cells
take_first width k cells = take-take width (width + k) cells (omega arith)

no_lines : (width : ℕ) → 0 < width → lines_of {A = Cell} width [] ≡ []
no_lines width some = lines_by width [] 0 some (sym (zero-times width))
  where
    zero-times : (w : ℕ) → 0 * w ≡ 0
    zero-times w = grind arith

cut_by : (width k n : ℕ) (cells : List Cell) → 0 < width → k ≤ n → length cells ≡ n * width → lines_of width cells ≡ lines_of width (take (k * width) cells) ++ lines_of width (drop (k * width) cells)
cut_by width zero n cells some h e =
    let none : zero * width ≡ 0 = grind arith in
    rw (none, no_lines width some) refl
cut_by width (suc k) zero cells some h e = absurd (omega arith)
cut_by width (suc k) (suc n) cells some h e =
    let long : length cells ≡ width + n * width = e ∙ suc_times n width in
    let step : suc k * width ≡ width + k * width = suc_times k width in
    let under : k * width ≤ n * width = mul-le k width n width (omega arith) (omega arith) in
    let prefix : length (take (width + k * width) cells) ≡ suc k * width = omega (arith, length-take (width + k * width) cells) in
    rw step (
    first_line_by width cells (suc n) some (omega arith) e
    ∙ ap (λ l. take width cells ∷ l) (cut_by width k n (drop width cells) some (omega arith) (rest_count width cells n e))
    ∙ ap (λ l. (take width cells ∷ lines_of width (take (k * width) (drop width cells))) ++ lines_of width l) (drop-drop (k * width) width cells)
    ∙ ap (λ l. l ++ lines_of width (drop (width + k * width) cells))
    (ap (λ l. l ∷ lines_of width (take (k * width) (drop width cells))) (sym (take_first width (k * width) cells))
    ∙ ap (λ l. take width (take (width + k * width) cells) ∷ lines_of width l) (sym (drop-take width (k * width) cells))
    ∙ sym (first_line_by width (take (width + k * width) cells) (suc k) some (omega arith) prefix))
    )

-- the lines of a prefix and of the rest, where the cut is after k of n lines
module _ (width k n : ℕ) (cells : List Cell) (some : 0 < width) (h : k ≤ n) (e : length cells ≡ n * width) where
  under : k * width ≤ n * width
  under = mul-le k width n width h (omega arith)

  cut_prefix : AreWholeLines width (take (k * width) cells)
  cut_prefix = record { some = some; count = k; whole = omega (arith, length-take (k * width) cells, under) }

  cut_back : AreWholeLines width (drop (k * width) cells)
  cut_back =
      let parts : n * width ≡ k * width + (n - k) * width = ap (λ m. m * width) (omega arith) ∙ times_plus in
      record { some = some; count = n - k; whole = omega (arith, length-drop (k * width) cells, parts) }
    where
      times_plus : (k + (n - k)) * width ≡ k * width + (n - k) * width
      times_plus = grind arith

  cut_text : lines_text (lines_of width cells) ≡ lines_text (lines_of width (take (k * width) cells)) ++ lines_text (lines_of width (drop (k * width) cells))
  cut_text = ap lines_text (cut_by width k n cells some h e) ∙ flat_map-append (λ row. line (with_commas cell_text row)) (lines_of width (take (k * width) cells)) (lines_of width (drop (k * width) cells))

one_line : (width : ℕ) (cells : List Cell) → 0 < width → length cells ≡ width → lines_text (lines_of width cells) ≡ line (with_commas cell_text cells)
one_line width cells some e =
    let once : length cells ≡ 1 * width = e ∙ sym (one_times width) in
    ap lines_text (
    first_line_by width cells 1 some (omega arith) once
    ∙ ap (λ l. l ∷ lines_of width (drop width cells)) (take_all width cells (omega arith))
    ∙ ap (λ l. cells ∷ lines_of width l) (drop_all width cells (omega arith))
    ∙ ap (λ l. cells ∷ l) (no_lines width some)
    )
    ∙ append-nil (line (with_commas cell_text cells))
  where
    one_times : (w : ℕ) → 1 * w ≡ w
    one_times w = grind arith

-- all lines but the last, and the last
but_last_by : (width n : ℕ) (cells prefix last : List Cell) → 0 < width → 0 < length cells → length cells ≡ n * width → prefix ≡ take (length cells - width) cells → last ≡ drop (length cells - width) cells
    → AreWholeLines width prefix × (lines_text (lines_of width cells) ≡ lines_text (lines_of width prefix) ++ line (with_commas cell_text last))
but_last_by width zero cells prefix last some h e f b = absurd (omega arith)
but_last_by width (suc m) cells prefix last some h e f b =
    let at : length cells - width ≡ m * width = omega (arith, suc_times m width) in
    let prefix_is : prefix ≡ take (m * width) cells = f ∙ ap (λ k. take k cells) at in
    let last_is : last ≡ drop (m * width) cells = b ∙ ap (λ k. drop k cells) at in
    let long : length last ≡ width = ap length last_is ∙ omega (arith, length-drop (m * width) cells, suc_times m width) in (
      rw prefix_is (cut_prefix width m (suc m) cells some (omega arith) e),
      rw prefix_is (cut_text width m (suc m) cells some (omega arith) e ∙ ap (λ l. lines_text (lines_of width (take (m * width) cells)) ++ l) (ap (λ l. lines_text (lines_of width l)) (sym last_is) ∙ one_line width last some long)),
    )

module _ (width : ℕ) (cells prefix last : List Cell) (are : AreWholeLines width cells) (h : 0 < length cells) (f : prefix ≡ take (length cells - width) cells) (b : last ≡ drop (length cells - width) cells) where
  pub but_last_whole : AreWholeLines width prefix
  but_last_whole = (but_last_by width are.count cells prefix last are.some h are.whole f b).0

  pub but_last_text : (whole text new : List ℕ) → whole ≡ lines_text (lines_of width cells) ++ text → new ≡ line (with_commas cell_text last) ++ text → whole ≡ lines_text (lines_of width prefix) ++ new
  but_last_text whole text new before is =
      before
      ∙ ap (λ l. l ++ text) (but_last_by width are.count cells prefix last are.some h are.whole f b).1
      ∙ append_assoc (lines_text (lines_of width prefix)) (line (with_commas cell_text last)) text
      ∙ ap (λ l. lines_text (lines_of width prefix) ++ l) (sym is)

-- a block of b lines, or of all that are left
block_of : (width n b : ℕ) → (k : ℕ) × (k ≤ n) × (min (n * width) (b * width) ≡ k * width)
block_of width n b =
    elim (eq-zero-or-pos (n - b)) [
      | inl few ↦ (n, omega arith, omega (arith, mul-le n width b width (omega arith) (omega arith)))
      | inr many ↦ (b, omega arith, omega (arith, mul-le b width n width (omega arith) (omega arith)))
    ]

module _ (width b at : ℕ) (cells first after : List Cell) (are : AreWholeLines width cells) (cut : at ≡ min (length cells) (b * width)) (f : first ≡ take at cells) (g : after ≡ drop at cells) where
  at_is : at ≡ (block_of width are.count b).0 * width
  at_is = cut ∙ ap (λ n. min n (b * width)) are.whole ∙ (block_of width are.count b).2

  first_is : first ≡ take ((block_of width are.count b).0 * width) cells
  first_is = f ∙ ap (λ k. take k cells) at_is

  after_is : after ≡ drop ((block_of width are.count b).0 * width) cells
  after_is = g ∙ ap (λ k. drop k cells) at_is

  pub block_whole : AreWholeLines width first
  block_whole = rw first_is (cut_prefix width (block_of width are.count b).0 are.count cells are.some (block_of width are.count b).1 are.whole)

  pub after_whole : AreWholeLines width after
  after_whole = rw after_is (cut_back width (block_of width are.count b).0 are.count cells are.some (block_of width are.count b).1 are.whole)

  module _ (old now : Option (List ℕ)) (whole : List ℕ) (p : Progress old now whole (lines_text (lines_of width cells))) where
    in_block : Progress old now whole (lines_text (lines_of width first) ++ lines_text (lines_of width after))
    in_block = rw (first_is, after_is) (subst (Progress old now whole) (cut_text width (block_of width are.count b).0 are.count cells are.some (block_of width are.count b).1 are.whole) p)

    pub block_fails : (new : Option (List ℕ)) → AppendsPrefix now new (lines_text (lines_of width first)) → AppendsPrefix old new whole
    block_fails new prefix = fails old now new whole _ _ in_block prefix

    pub block_more : (new : Option (List ℕ)) → Appends now new (lines_text (lines_of width first)) → Progress old new whole (lines_text (lines_of width after))
    block_more new grown = more old now new whole _ _ in_block grown
