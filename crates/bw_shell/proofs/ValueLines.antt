-- Lines that show values.
use Rattle.std.proofs.Common.{ap, arith, drop, length, length-drop, min, refl, subst, sym, take, List, Option, [], ◌++◌, ◌*◌, ◌-◌, ◌<◌, ◌∙◌, ◌∷◌, ◌≡◌, ◌≤◌, ℕ, codes}
use Rattle.std.proofs.lemmas.List.{drop-map, length-map, take-map}
use Rattle.std.specs.Io.KnownBytes.{Appends}
use Rattle.bw_model.specs.Answers.{AreWholeLines, lines_of}
use Rattle.bw_model.specs.Cells.{shown_all}
use Rattle.bw_model.specs.ReplyText.{cell_text, line, lines_text, with_commas}
use Rattle.bw_model.specs.Select.{shown}
use Rattle.bw_model.specs.Store.{Value}
use Rattle.bw_shell.specs.ValueTexts.{value_text}
use Rattle.bw_shell.specs.Writing.{AppendsPrefix}
use Rattle.bw_shell.proofs.LineLemmas as cells
use Rattle.bw_shell.proofs.Texts.{Progress, others_text}

others_same : (values : List Value) → others_text value_text values ≡ others_text cell_text (shown_all values)
others_same [] = refl
others_same (value ∷ values) = ap (λ l. (codes "," ++ value_text value) ++ l) (others_same values)

line_same : (values : List Value) → line (with_commas value_text values) ≡ line (with_commas cell_text (shown_all values))
line_same [] = refl
line_same (value ∷ values) = ap (λ l. (value_text value ++ l) ++ codes "\n") (others_same values)

module _ (values part : List Value) (k : ℕ) where
  prefix_shown : part ≡ take k values → shown_all part ≡ take k (shown_all values)
  prefix_shown is = ap shown_all is ∙ sym (take-map shown k values)

  rest_shown : part ≡ drop k values → shown_all part ≡ drop k (shown_all values)
  rest_shown is = ap shown_all is ∙ sym (drop-map shown k values)

some_shown : (values : List Value) → 0 < length values → 0 < length (shown_all values)
some_shown values h = omega (arith, length-map values shown)

module _ (width : ℕ) (values prefix last : List Value) (are : AreWholeLines width (shown_all values)) (h : 0 < length values) (f : prefix ≡ take (length values - width) values) (b : last ≡ drop (length values - width) values) where
  same_cut : length values - width ≡ length (shown_all values) - width
  same_cut = ap (λ n. n - width) (sym (length-map values shown))

  pub last_fits : width ≤ length values
  last_fits = omega (arith, length-map values shown, cells.line_fits width (shown_all values) are (some_shown values h))

  -- a line has a value
  pub last_some : 0 < length last
  last_some = omega (arith, are.some, last_fits, ap length b, length-drop (length values - width) values)

  prefix_is : shown_all prefix ≡ take (length (shown_all values) - width) (shown_all values)
  prefix_is = prefix_shown values prefix (length (shown_all values) - width) (f ∙ ap (λ k. take k values) same_cut)

  last_is : shown_all last ≡ drop (length (shown_all values) - width) (shown_all values)
  last_is = rest_shown values last (length (shown_all values) - width) (b ∙ ap (λ k. drop k values) same_cut)

  pub but_last_whole : AreWholeLines width (shown_all prefix)
  but_last_whole = cells.but_last_whole width (shown_all values) (shown_all prefix) (shown_all last) are (some_shown values h) prefix_is last_is

  pub but_last_text : (whole text new : List ℕ) → whole ≡ lines_text (lines_of width (shown_all values)) ++ text → new ≡ line (with_commas value_text last) ++ text → whole ≡ lines_text (lines_of width (shown_all prefix)) ++ new
  but_last_text whole text new before is =
      cells.but_last_text width (shown_all values) (shown_all prefix) (shown_all last) are (some_shown values h) prefix_is last_is whole text new before (is ∙ ap (λ l. l ++ text) (line_same last))

-- the first line, and the others
module _ (width : ℕ) (values : List Value) (are : AreWholeLines width (shown_all values)) (h : 0 < length values) where
  pub line_fits : width ≤ length values
  line_fits = omega (arith, length-map values shown, cells.line_fits width (shown_all values) are (some_shown values h))

  pub rest_whole : (after : List Value) → after ≡ drop width values → AreWholeLines width (shown_all after)
  rest_whole after is = rw (rest_shown values after width is) (cells.rest_whole width (shown_all values) are (some_shown values h))

  module _ (old now : Option (List ℕ)) (whole : List ℕ) (first : List Value) (is : first ≡ take width values) (p : Progress old now whole (lines_text (lines_of width (shown_all values)))) where
    pub line_fails : (new : Option (List ℕ)) → AppendsPrefix now new (line (with_commas value_text first)) → AppendsPrefix old new whole
    line_fails new f =
        cells.line_fails width (shown_all values) are (some_shown values h) old now whole (shown_all first) (prefix_shown values first width is) p new (subst (AppendsPrefix now new) (line_same first) f)

    pub line_more : (after : List Value) → after ≡ drop width values → (new : Option (List ℕ)) → Appends now new (line (with_commas value_text first)) → Progress old new whole (lines_text (lines_of width (shown_all after)))
    line_more after so new grown =
        rw (rest_shown values after width so)
        (cells.line_more width (shown_all values) are (some_shown values h) old now whole (shown_all first) (prefix_shown values first width is) p new (subst (Appends now new) (line_same first) grown))

-- a block of lines, and the others
module _ (width b at : ℕ) (values first after : List Value) (are : AreWholeLines width (shown_all values)) (cut : at ≡ min (length values) (b * width)) (f : first ≡ take at values) (g : after ≡ drop at values) where
  cut_shown : at ≡ min (length (shown_all values)) (b * width)
  cut_shown = cut ∙ ap (λ n. min n (b * width)) (sym (length-map values shown))

  pub block_whole : AreWholeLines width (shown_all first)
  block_whole = cells.block_whole width b at (shown_all values) (shown_all first) (shown_all after) are cut_shown (prefix_shown values first at f) (rest_shown values after at g)

  pub after_whole : AreWholeLines width (shown_all after)
  after_whole = cells.after_whole width b at (shown_all values) (shown_all first) (shown_all after) are cut_shown (prefix_shown values first at f) (rest_shown values after at g)

  module _ (old now : Option (List ℕ)) (whole : List ℕ) (p : Progress old now whole (lines_text (lines_of width (shown_all values)))) where
    pub block_fails : (new : Option (List ℕ)) → AppendsPrefix now new (lines_text (lines_of width (shown_all first))) → AppendsPrefix old new whole
    block_fails new prefix = cells.block_fails width b at (shown_all values) (shown_all first) (shown_all after) are cut_shown (prefix_shown values first at f) (rest_shown values after at g) old now whole p new prefix

    pub block_more : (new : Option (List ℕ)) → Appends now new (lines_text (lines_of width (shown_all first))) → Progress old new whole (lines_text (lines_of width (shown_all after)))
    block_more new grown = cells.block_more width b at (shown_all values) (shown_all first) (shown_all after) are cut_shown (prefix_shown values first at f) (rest_shown values after at g) old now whole p new grown
