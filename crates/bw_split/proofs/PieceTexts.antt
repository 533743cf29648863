-- The parts that a script gives piece by piece.
use Rattle.std.proofs.Common.{◌≡◌, ℕ, Bool, true, false, not, cond, List, [], ◌∷◌, ◌++◌, refl, sym, ap, ◌∙◌, append_assoc, append-nil}
use Rattle.std.specs.List.{concat}
use Rattle.std.proofs.lemmas.Bool.{and_parts, not-true}
use Rattle.bw_split.specs.Splitting.{Fed, PiecesGive, PartText, part_text, at_end, at_first, closes, closing, cuts, fed, goes_on, going_on, is_blank_part, progress_of, step, texts_from}
use Rattle.bw_split.specs.Stretches.{has_no_cut}
use Rattle.bw_split.proofs.Progresses.{progress-append}

-- the parts once a piece was fed, where these bytes follow it
abbrev pub texts_fed : Fed → List ℕ → List PartText
texts_fed (goes_on next) more = texts_from next more
texts_fed (closes next left) more = part_text next true ∷ texts_from [] (left ++ more)

by_cut : (t u : Bool) (x : PartText) (dropped on : List PartText) (a b c : Fed) (more : List ℕ) → dropped ≡ texts_fed a more → x ∷ dropped ≡ texts_fed b more → on ≡ texts_fed c more → cond t (cond u dropped (x ∷ dropped)) on ≡ texts_fed (cond t (cond u a b) c) more
by_cut true true x dropped on a b c more p q r = p
by_cut true false x dropped on a b c more p q r = q
by_cut false u x dropped on a b c more p q r = r

pub texts_piece : (part piece more : List ℕ) → texts_from part (piece ++ more) ≡ texts_fed (fed part piece) more
unfolding texts_from fed
texts_piece part [] more = refl
texts_piece part (b ∷ piece) more =
    by_cut (cuts part b) (is_blank_part part) (part_text part true) (texts_from [] (piece ++ more)) (texts_from (part ++ b ∷ []) (piece ++ more)) (fed [] piece) (closes part piece) (fed (part ++ b ∷ []) piece) more
    (texts_piece [] piece more) refl (texts_piece (part ++ b ∷ []) piece more)

pub texts_on : (part piece next : List ℕ) → fed part piece ≡ goes_on next → (more : List ℕ) → texts_from part (piece ++ more) ≡ texts_from next more
texts_on part piece next e more = texts_piece part piece more ∙ ap (λ f. texts_fed f more) e

pub texts_closed : (part piece next left : List ℕ) → fed part piece ≡ closes next left → (more : List ℕ) → texts_from part (piece ++ more) ≡ part_text next true ∷ texts_from [] (left ++ more)
texts_closed part piece next left e more = texts_piece part piece more ∙ ap (λ f. texts_fed f more) e

-- pieces give what the script gives
pub gives_texts : (part : List ℕ) (pieces : List (List ℕ)) (all : List PartText) → PiecesGive part pieces all → all ≡ texts_from part (concat pieces)
gives_texts part pieces all at_end = refl
gives_texts part pieces all (going_on {pieces = rest} piece next e more) =
    gives_texts next rest all more ∙ sym (texts_on part piece next e (concat rest))
gives_texts part pieces all (closing {pieces = rest} {all = others} piece next left e more) =
    ap (λ l. part_text next true ∷ l) (gives_texts [] (left ∷ rest) others more) ∙ sym (texts_closed part piece next left e (concat rest))

-- bytes without a cut go to the part
pub texts_through : (part xs ys : List ℕ) → has_no_cut (progress_of part) xs ≡ true → texts_from part (xs ++ ys) ≡ texts_from (part ++ xs) ys
unfolding texts_from
texts_through part [] ys h = ap (λ l. texts_from l ys) (sym (append-nil part))
texts_through part (x ∷ xs) ys h =
    let both = and_parts (not (cuts part x)) (has_no_cut (step (progress_of part) x) xs) h in
    let more = texts_through (part ++ x ∷ []) xs ys (ap (λ p. has_no_cut p xs) (progress-append at_first part (x ∷ [])) ∙ both.1) in
    rw (not-true (cuts part x) both.0) (more ∙ ap (λ l. texts_from l ys) (append_assoc part (x ∷ []) xs))
