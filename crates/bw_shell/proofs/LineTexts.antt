-- A line of values that is written from its end.
use Rattle.std.proofs.Common.{ap, append_assoc, arith, codes, drop, get_or, length, sym, List, None, [], ◌++◌, ◌+◌, ◌∙◌, ◌<◌, ◌∷◌, ◌≡◌, ℕ}
use Rattle.std.proofs.lemmas.List.{drop_more}
use Rattle.bw_model.specs.ReplyText.{line, with_commas}
use Rattle.bw_model.specs.Store.{Value}
use Rattle.bw_shell.specs.ValueTexts.{value_text}
use Rattle.bw_shell.proofs.Texts.{others_text}

-- one more value: its comma stands before it, and what stood before the others after it
pub value_more : (values : List Value) (i mark : ℕ) (written after : List ℕ) → i < length values → mark ∷ written ≡ others_text value_text (drop (i + 1) values) ++ after
    → 44 ∷ (value_text (get_or values i None) ++ mark ∷ written) ≡ others_text value_text (drop i values) ++ after
value_more values i mark written after h so =
    let first = value_text (get_or values i None) in
    let others = others_text value_text (drop (i + 1) values) in
    ap (λ l. 44 ∷ (first ++ l)) so
    ∙ sym (append_assoc (44 ∷ first) others after)
    ∙ ap (λ l. others_text value_text l ++ after) (sym (drop_more values i None h))

-- all values of a line are written
pub line_whole : (values : List Value) (mark : ℕ) (written after : List ℕ) → 0 < length values → mark ∷ written ≡ others_text value_text values ++ 10 ∷ after
    → written ≡ line (with_commas value_text values) ++ after
line_whole [] mark written after h so = absurd (omega arith)
line_whole (value ∷ values) mark written after h so =
    ap (drop 1) so ∙ sym (append_assoc (with_commas value_text (value ∷ values)) (codes "\n") after)
