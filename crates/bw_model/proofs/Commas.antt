-- Texts with a comma between each two, as a loop makes them.
use Rattle.std.proofs.Common.{◌≡◌, ℕ, ◌+◌, ◌-◌, ◌<◌, List, [], ◌∷◌, ◌++◌, take, drop, length, get_or, codes, refl, sym, ap, ◌∙◌, append_assoc, arith, drop-cons, add-one}
use Rattle.std.proofs.lemmas.List.{take_all}
use Rattle.std.specs.List.{flat_map}
use Rattle.bw_model.specs.Answers.{AreWholeLines, lines_of}
use Rattle.bw_model.specs.ReplyText.{cell_text, line, lines_text, with_commas}
use Rattle.bw_model.specs.declared.answer.Cell.{Cell}
use Rattle.bw_model.proofs.Lines.{lines_of-first}

-- the texts after the first, each after a comma
abbrev pub others_text : {A : Type 0} → (A → List ℕ) → List A → List ℕ
others_text text others = flat_map (λ item. codes "," ++ text item) others

module _ {A : Type 0} (text : A → List ℕ) where
  -- the first item, and then the others, as a slice pattern takes them apart
  pub first_and_others : (xs : List A) (x : A) → 0 < length xs → x ≡ get_or xs 0 x → text x ++ others_text text (take (length xs - 1) (drop 1 xs)) ≡ with_commas text xs
  first_and_others [] x h is = absurd (omega arith)
  first_and_others (y ∷ ys) x h is =
      rw (take_all (length (y ∷ ys) - 1) ys (omega arith), ← is) refl

  -- one item more
  pub next_item : (xs : List A) (i : ℕ) (x : A) (so_far whole : List ℕ) → i < length xs → x ≡ get_or xs i x → so_far ++ others_text text (drop i xs) ≡ whole → ((so_far ++ codes ",") ++ text x) ++ others_text text (drop (i + 1) xs) ≡ whole
  next_item xs i x so_far whole h is e =
      let front : others_text text (drop i xs) ≡ (codes "," ++ text x) ++ others_text text (drop (i + 1) xs) = rw (drop-cons xs i x h, add-one i, ← is) refl in
      ap (λ l. l ++ others_text text (drop (i + 1) xs)) (append_assoc so_far (codes ",") (text x))
      ∙ append_assoc so_far (codes "," ++ text x) (others_text text (drop (i + 1) xs))
      ∙ ap (λ l. so_far ++ l) (sym front) ∙ e

-- one line more
pub next_line : (w : ℕ) (rest : List Cell) (so_far whole : List ℕ) → AreWholeLines w rest → 0 < length rest → so_far ++ lines_text (lines_of w rest) ≡ whole
    → ((so_far ++ with_commas cell_text (take w rest)) ++ codes "\n") ++ lines_text (lines_of w (drop w rest)) ≡ whole
next_line w rest so_far whole lines some e =
    ap (λ l. l ++ lines_text (lines_of w (drop w rest))) (append_assoc so_far (with_commas cell_text (take w rest)) (codes "\n"))
    ∙ append_assoc so_far (line (with_commas cell_text (take w rest))) (lines_text (lines_of w (drop w rest)))
    ∙ ap (λ l. so_far ++ lines_text l) (sym (lines_of-first w rest lines some)) ∙ e
