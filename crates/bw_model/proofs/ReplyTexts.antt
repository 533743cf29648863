-- Replies are told by their texts, one after the other.
use Rattle.std.proofs.Common.{◌≡◌, ℕ, ◌≤◌, ◌<◌, ◌^◌, List, [], ◌∷◌, ◌++◌, codes, decimal, drop, get_or, length, map, refl, ap, sym, ◌∙◌, append_assoc, arith}
use Rattle.std.specs.List.{All, flat_map}
use Rattle.std.proofs.lemmas.List.Elements.{All-head, All-tail}
use Rattle.bw_model.specs.Answers.{Shown}
use Rattle.bw_model.specs.ReplyText.{cell_text, heading_text, line, lines_text, refusal_text, reply_text, with_commas}
use Rattle.bw_model.specs.Told.{IsCell, IsHeading, IsReply, as_read, heading_as_read}
use Rattle.bw_model.specs.declared.answer.Cell.{Cell}
use Rattle.bw_model.specs.declared.answer.Heading.{Heading}
use Rattle.bw_model.specs.declared.refusal.Refusal.{Refusal}
use Rattle.bw_model.specs.declared.refusal.Refusal.TheVariants as refusal
use Rattle.bw_model.specs.declared.reply.Reply.{Reply}
use Rattle.bw_model.specs.declared.reply.Reply.TheVariants.{Done, Count, Units, Rows, Refused}
use Rattle.bw_model.proofs.CellTexts.{InCell, cell_clean, cell_some, cell_told, decimal_bytes, decimal_told}
use Rattle.bw_model.proofs.Cuts.{Between, Each, cut, each-append, each_between, each_weaker, items_clean, items_told}
use Rattle.bw_model.proofs.HeadingTexts.{InHeading, heading_clean, heading_some, heading_told}
use Rattle.bw_model.proofs.RefusalTexts.{refusal_clean, refusal_told}

each_of : {A : Type 0} (P : A → Type 0) (xs : List A) → All P xs → Each P xs
each_of P [] all = tt
each_of P (x ∷ xs) all = (All-head P x xs all, each_of P xs (All-tail P x xs all))

each_of_each : {A : Type 0} (P : A → Type 0) (xs : List (List A)) → All (All P) xs → Each (Each P) xs
each_of_each P [] all = tt
each_of_each P (x ∷ xs) all = (each_of P x (All-head (All P) x xs all), each_of_each P xs (All-tail (All P) x xs all))

cancel : (x s t : List ℕ) → x ++ s ≡ x ++ t → s ≡ t
cancel [] s t e = e
cancel (b ∷ x) s t e = cancel x s t (ap (drop 1) e)

-- what stands before a line feed

abbrev InLine : ℕ → Type 0
InLine = Between 11 122

no_feed : InLine 10 → ⊥
no_feed p = omega (arith, p.0)

first_low : (xs rest : List ℕ) → Each (Between 40 95) xs → get_or (xs ++ 10 ∷ rest) 0 0 ≤ 95
first_low [] rest p = omega arith
first_low (b ∷ xs) rest p = p.0.1

-- the cells of a line

no_comma_in : InCell 44 → ⊥
no_comma_in p = omega (arith, p.0)

cells_told : (x y : List Cell) → Each IsCell x → Each IsCell y → with_commas cell_text x ≡ with_commas cell_text y → x ≡ y
cells_told x y p q e = sym (map_same x) ∙ items_told cell_text IsCell (λ c. c) InCell no_comma_in cell_clean cell_some cell_told x y p q e ∙ map_same y
  where
    map_same : (cells : List Cell) → map (λ c. c) cells ≡ cells
    map_same [] = refl
    map_same (c ∷ cells) = ap (λ l. c ∷ l) (map_same cells)

cells_low : (x : List Cell) → Each IsCell x → Each (Between 40 95) (with_commas cell_text x)
cells_low x p = items_clean cell_text IsCell (λ c. c) InCell no_comma_in cell_clean cell_some cell_told (Between 40 95) (omega arith, omega arith) (λ b q. (omega (arith, q.0), q.1)) x p

low_in_line : (xs : List ℕ) → Each (Between 40 95) xs → Each InLine xs
low_in_line xs p = each_weaker (Between 40 95) InLine (λ b q. (omega (arith, q.0), omega (arith, q.1))) xs p

-- lines, up to the last one, which begins with an r

one_line : (x : List Cell) (xs : List (List Cell)) (rest : List ℕ) → lines_text (x ∷ xs) ++ rest ≡ with_commas cell_text x ++ 10 ∷ (lines_text xs ++ rest)
one_line x xs rest =
    append_assoc (line (with_commas cell_text x)) (lines_text xs) rest ∙ append_assoc (with_commas cell_text x) (codes "\n") (lines_text xs ++ rest)

lines_told : (xs ys : List (List Cell)) (r q : List ℕ) → Each (Each IsCell) xs → Each (Each IsCell) ys → lines_text xs ++ 114 ∷ r ≡ lines_text ys ++ 114 ∷ q → (xs ≡ ys) × (r ≡ q)
lines_told [] [] r q a b e = (refl, ap (drop 1) e)
lines_told [] (y ∷ ys) r q a b e =
    let low = first_low (with_commas cell_text y) (lines_text ys ++ 114 ∷ q) (cells_low y b.0) in
    let first : 114 ≡ get_or (with_commas cell_text y ++ 10 ∷ (lines_text ys ++ 114 ∷ q)) 0 0 = ap (λ l. get_or l 0 0) (e ∙ one_line y ys (114 ∷ q)) in
    absurd (omega arith)
lines_told (x ∷ xs) [] r q a b e =
    let low = first_low (with_commas cell_text x) (lines_text xs ++ 114 ∷ r) (cells_low x a.0) in
    let first : get_or (with_commas cell_text x ++ 10 ∷ (lines_text xs ++ 114 ∷ r)) 0 0 ≡ 114 = ap (λ l. get_or l 0 0) (sym (one_line x xs (114 ∷ r)) ∙ e) in
    absurd (omega arith)
lines_told (x ∷ xs) (y ∷ ys) r q a b e =
    let p = cut InLine 10 no_feed (with_commas cell_text x) (with_commas cell_text y) (lines_text xs ++ 114 ∷ r) (lines_text ys ++ 114 ∷ q) (low_in_line _ (cells_low x a.0)) (low_in_line _ (cells_low y b.0)) (sym (one_line x xs (114 ∷ r)) ∙ e ∙ one_line y ys (114 ∷ q)) in
    let rest = lines_told xs ys r q a.1 b.1 p.1 in
    ((λ j. cells_told x y a.0 b.0 p.0 j ∷ rest.0 j), rest.1)

-- the first line of a reply, and what follows it

abbrev first_line : Reply → List ℕ
first_line Done = codes "ok"
first_line (Count n) = codes "ok " ++ decimal n
first_line (Units n) = codes "units " ++ decimal n
first_line (Rows answer) = with_commas heading_text answer.headings
first_line (Refused r) = refusal_text r

abbrev other_lines : Reply → List ℕ
other_lines (Rows answer) = lines_text answer.lines ++ line (codes "rows " ++ decimal (length answer.lines))
other_lines _ = []

lines_of_reply : (a : Reply) (s : List ℕ) → reply_text a ++ s ≡ first_line a ++ 10 ∷ (other_lines a ++ s)
lines_of_reply Done s = refl
lines_of_reply (Count n) s = append_assoc (codes "ok " ++ decimal n) (codes "\n") s
lines_of_reply (Units n) s = append_assoc (codes "units " ++ decimal n) (codes "\n") s
lines_of_reply (Refused r) s = append_assoc (refusal_text r) (codes "\n") s
lines_of_reply (Rows answer) s =
    let heads = with_commas heading_text answer.headings in
    let last = line (codes "rows " ++ decimal (length answer.lines)) in
    ap (λ l. l ++ s) (append_assoc (line heads) (lines_text answer.lines) last)
    ∙ append_assoc (line heads) (lines_text answer.lines ++ last) s
    ∙ append_assoc heads (codes "\n") ((lines_text answer.lines ++ last) ++ s)

no_comma_heads : InHeading 44 → ⊥
no_comma_heads p = p.1 refl

heads_low : (xs : List Heading) → Each IsHeading xs → Each (Between 40 95) (with_commas heading_text xs)
heads_low xs p = items_clean heading_text IsHeading heading_as_read InHeading no_comma_heads heading_clean heading_some heading_told (Between 40 95) (omega arith, omega arith) (λ b q. q.0) xs p

wide : (n : ℕ) → n < 2 ^ 64 → n < 10 ^ 64
wide n h = omega arith

first_clean : (a : Reply) → IsReply a → Each InLine (first_line a)
first_clean Done is = each_between 11 122 (codes "ok") refl
first_clean (Count n) is =
    each-append InLine (codes "ok ") (decimal n) (each_between 11 122 (codes "ok ") refl)
    (each_weaker (Between 48 57) InLine (λ b p. (omega (arith, p.0), omega (arith, p.1))) (decimal n) (decimal_bytes n (wide n is)))
first_clean (Units n) is =
    each-append InLine (codes "units ") (decimal n) (each_between 11 122 (codes "units ") refl)
    (each_weaker (Between 48 57) InLine (λ b p. (omega (arith, p.0), omega (arith, p.1))) (decimal n) (decimal_bytes n (wide n is)))
first_clean (Rows answer) is = low_in_line _ (heads_low answer.headings (each_of IsHeading answer.headings is.0))
first_clean (Refused r) is = each_weaker (Between 32 122) InLine (λ b p. (omega (arith, p.0), p.1)) (refusal_text r) (refusal_clean r is)

first_of_refusal : (r : Refusal) → get_or (refusal_text r) 0 0 ≡ 101
first_of_refusal (refusal.WrongNumberOfFields record') = refl
first_of_refusal _ = refl

rows_low : (answer : Shown) → IsReply (Rows answer) → get_or (first_line (Rows answer)) 0 0 ≤ 95
rows_low answer is = low (with_commas heading_text answer.headings) (heads_low answer.headings (each_of IsHeading answer.headings is.0))
  where
    low : (xs : List ℕ) → Each (Between 40 95) xs → get_or xs 0 0 ≤ 95
    low [] p = omega arith
    low (b ∷ xs) p = p.0.1

-- two answers

answers_told : (x y : Shown) (s t : List ℕ) → IsReply (Rows x) → IsReply (Rows y) → first_line (Rows x) ≡ first_line (Rows y) → other_lines (Rows x) ++ s ≡ other_lines (Rows y) ++ t → (as_read (Rows x) ≡ as_read (Rows y)) × (s ≡ t)
answers_told x y s t p q heads lines =
    let last = λ (answer : Shown). line (codes "rows " ++ decimal (length answer.lines)) in
    let regrouped = sym (append_assoc (lines_text x.lines) (last x) s) ∙ lines ∙ append_assoc (lines_text y.lines) (last y) t in
    let same = lines_told x.lines y.lines (drop 1 (last x) ++ s) (drop 1 (last y) ++ t) (each_of_each IsCell x.lines p.1) (each_of_each IsCell y.lines q.1) regrouped in
    let headings = items_told heading_text IsHeading heading_as_read InHeading no_comma_heads heading_clean heading_some heading_told x.headings y.headings (each_of IsHeading x.headings p.0) (each_of IsHeading y.headings q.0) heads in (
      λ j. Rows (record { headings = headings j; lines = same.0 j }),
      cancel (drop 1 (last x)) s t (same.1 ∙ ap (λ l. drop 1 (line (codes "rows " ++ decimal (length l))) ++ t) (sym same.0)),
    )

-- two replies

by_kind : (a b : Reply) (s t : List ℕ) → IsReply a → IsReply b → first_line a ≡ first_line b → other_lines a ++ s ≡ other_lines b ++ t → (as_read a ≡ as_read b) × (s ≡ t)
by_kind Done Done s t p q first rest = (refl, rest)
by_kind Done (Count n) s t p q first rest = let no_way : [] ≡ 32 ∷ decimal n = ap (drop 2) first in cc
by_kind (Count n) Done s t p q first rest = let no_way : 32 ∷ decimal n ≡ [] = ap (drop 2) first in cc
by_kind (Count m) (Count n) s t p q first rest = (ap Count (decimal_told m n (wide m p) (wide n q) (ap (drop 3) first)), rest)
by_kind Done (Refused r) s t p q first rest = let other = first_of_refusal r in let same : 111 ≡ get_or (refusal_text r) 0 0 = ap (λ l. get_or l 0 0) first in absurd (omega arith)
by_kind (Refused r) Done s t p q first rest = let other = first_of_refusal r in let same : get_or (refusal_text r) 0 0 ≡ 111 = ap (λ l. get_or l 0 0) first in absurd (omega arith)
by_kind (Count n) (Refused r) s t p q first rest = let other = first_of_refusal r in let same : 111 ≡ get_or (refusal_text r) 0 0 = ap (λ l. get_or l 0 0) first in absurd (omega arith)
by_kind (Refused r) (Count n) s t p q first rest = let other = first_of_refusal r in let same : get_or (refusal_text r) 0 0 ≡ 111 = ap (λ l. get_or l 0 0) first in absurd (omega arith)
by_kind (Refused r) (Refused u) s t p q first rest = (ap Refused (refusal_told r u p q first), rest)
by_kind Done (Rows answer) s t p q first rest = let low = rows_low answer q in let same : 111 ≡ get_or (first_line (Rows answer)) 0 0 = ap (λ l. get_or l 0 0) first in absurd (omega arith)
by_kind (Rows answer) Done s t p q first rest = let low = rows_low answer p in let same : get_or (first_line (Rows answer)) 0 0 ≡ 111 = ap (λ l. get_or l 0 0) first in absurd (omega arith)
by_kind (Count n) (Rows answer) s t p q first rest = let low = rows_low answer q in let same : 111 ≡ get_or (first_line (Rows answer)) 0 0 = ap (λ l. get_or l 0 0) first in absurd (omega arith)
by_kind (Rows answer) (Count n) s t p q first rest = let low = rows_low answer p in let same : get_or (first_line (Rows answer)) 0 0 ≡ 111 = ap (λ l. get_or l 0 0) first in absurd (omega arith)
by_kind (Refused r) (Rows answer) s t p q first rest =
    let low = rows_low answer q in let other = first_of_refusal r in let same : get_or (refusal_text r) 0 0 ≡ get_or (first_line (Rows answer)) 0 0 = ap (λ l. get_or l 0 0) first in absurd (omega arith)
by_kind (Rows answer) (Refused r) s t p q first rest =
    let low = rows_low answer p in let other = first_of_refusal r in let same : get_or (first_line (Rows answer)) 0 0 ≡ get_or (refusal_text r) 0 0 = ap (λ l. get_or l 0 0) first in absurd (omega arith)
by_kind (Units m) (Units n) s t p q first rest = (ap Units (decimal_told m n (wide m p) (wide n q) (ap (drop 6) first)), rest)
by_kind Done (Units n) s t p q first rest = let same : ◌≡◌ {A = ℕ} 111 117 = ap (λ l. get_or l 0 0) first in absurd (omega arith)
by_kind (Units n) Done s t p q first rest = let same : ◌≡◌ {A = ℕ} 117 111 = ap (λ l. get_or l 0 0) first in absurd (omega arith)
by_kind (Count m) (Units n) s t p q first rest = let same : ◌≡◌ {A = ℕ} 111 117 = ap (λ l. get_or l 0 0) first in absurd (omega arith)
by_kind (Units m) (Count n) s t p q first rest = let same : ◌≡◌ {A = ℕ} 117 111 = ap (λ l. get_or l 0 0) first in absurd (omega arith)
by_kind (Units n) (Refused r) s t p q first rest = let other = first_of_refusal r in let same : 117 ≡ get_or (refusal_text r) 0 0 = ap (λ l. get_or l 0 0) first in absurd (omega arith)
by_kind (Refused r) (Units n) s t p q first rest = let other = first_of_refusal r in let same : get_or (refusal_text r) 0 0 ≡ 117 = ap (λ l. get_or l 0 0) first in absurd (omega arith)
by_kind (Units n) (Rows answer) s t p q first rest = let low = rows_low answer q in let same : 117 ≡ get_or (first_line (Rows answer)) 0 0 = ap (λ l. get_or l 0 0) first in absurd (omega arith)
by_kind (Rows answer) (Units n) s t p q first rest = let low = rows_low answer p in let same : get_or (first_line (Rows answer)) 0 0 ≡ 117 = ap (λ l. get_or l 0 0) first in absurd (omega arith)
by_kind (Rows x) (Rows y) s t p q first rest = answers_told x y s t p q first rest

one_told : (a b : Reply) (s t : List ℕ) → IsReply a → IsReply b → reply_text a ++ s ≡ reply_text b ++ t → (as_read a ≡ as_read b) × (s ≡ t)
one_told a b s t p q e =
    let c = cut InLine 10 no_feed (first_line a) (first_line b) (other_lines a ++ s) (other_lines b ++ t) (first_clean a p) (first_clean b q) (sym (lines_of_reply a s) ∙ e ∙ lines_of_reply b t) in
    by_kind a b s t p q c.0 c.1

-- and so each list of replies

behind : (x : List ℕ) (b : ℕ) (rest : List ℕ) → [] ≡ x ++ b ∷ rest → ⊥
behind [] b rest e = cc
behind (c ∷ x) b rest e = cc

pub told : (a b : List Reply) → All IsReply a → All IsReply b → flat_map reply_text a ≡ flat_map reply_text b → map as_read a ≡ map as_read b
told [] [] p q e = refl
told [] (y ∷ b) p q e = absurd (behind (first_line y) 10 (other_lines y ++ flat_map reply_text b) (e ∙ lines_of_reply y (flat_map reply_text b)))
told (x ∷ a) [] p q e = absurd (behind (first_line x) 10 (other_lines x ++ flat_map reply_text a) (sym e ∙ lines_of_reply x (flat_map reply_text a)))
told (x ∷ a) (y ∷ b) p q e =
    let first = one_told x y (flat_map reply_text a) (flat_map reply_text b) (All-head IsReply x a p) (All-head IsReply y b q) e in
    let rest = told a b (All-tail IsReply x a p) (All-tail IsReply y b q) first.1 in
    λ j. first.0 j ∷ rest j
