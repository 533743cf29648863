-- What a piece makes of a part, seen from an index in the piece.
use Rattle.std.proofs.Common.{◌≡◌, ℕ, ◌+◌, ◌<◌, ◌≤◌, true, false, ◌==◌, not, List, [], ◌∷◌, ◌++◌, length, take, drop, refl, sym, ap, ◌∙◌, subst, arith, append_assoc, append-nil, drop-drop}
use Rattle.std.proofs.lemmas.Bool.{and_parts, le-ltb, lt-ltb, ne_eqb, not-true}
use Rattle.std.proofs.lemmas.List.{drop_all, length-drop, take-append-drop}
use Rattle.bw_split.specs.declared.progress.Progress.{Progress}
use Rattle.bw_split.specs.declared.stretch.Stretch.{Stretch}
use Rattle.bw_split.specs.Splitting.{at_first, closes, cuts, fed, goes_on, is_all_blank, is_blank_part, is_cut, progress_from, progress_of, step}
use Rattle.bw_split.specs.Stretches.{IsFound, IsStretch, StopsBefore, carried, has_no_cut, joined}
use Rattle.bw_split.proofs.Progresses.{progress-append}

-- bytes without a cut go to the part
pub fed_through : (part xs ys : List ℕ) → has_no_cut (progress_of part) xs ≡ true → fed part (xs ++ ys) ≡ fed (part ++ xs) ys
unfolding fed
fed_through part [] ys h = ap (λ l. fed l ys) (sym (append-nil part))
fed_through part (x ∷ xs) ys h =
    let both = and_parts (not (cuts part x)) (has_no_cut (step (progress_of part) x) xs) h in
    let more = fed_through (part ++ x ∷ []) xs ys (ap (λ p. has_no_cut p xs) (progress-append at_first part (x ∷ [])) ∙ both.1) in
    rw (not-true (cuts part x) both.0) (more ∙ ap (λ l. fed l ys) (append_assoc part (x ∷ []) xs))

fed_end : (part : List ℕ) → fed part [] ≡ goes_on part
unfolding fed
fed_end part = refl

fed_dropped : (part rest : List ℕ) (b : ℕ) → cuts part b ≡ true → is_blank_part part ≡ true → fed part (b ∷ rest) ≡ fed [] rest
unfolding fed
fed_dropped part rest b cut blank = rw (cut, blank) refl

fed_closed : (part rest : List ℕ) (b : ℕ) → cuts part b ≡ true → is_blank_part part ≡ false → fed part (b ∷ rest) ≡ closes part rest
unfolding fed
fed_closed part rest b cut says = rw (cut, says) refl

-- the same from this index of the piece on
pub record GoesOnAt (part piece : List ℕ) (start : ℕ) (p : Progress) : Type 0 where
  pub fed_is : fed part piece ≡ fed (carried start part) (drop start piece)
  pub progress : p ≡ progress_of (carried start part)

pub at_start : (part piece : List ℕ) (progress : Progress) → progress ≡ progress_of part → GoesOnAt part piece 0 progress
at_start part piece progress e = record { fed_is = refl; progress = e }

-- what a cut follows
pub cut_next : (p : Progress) (xs : List ℕ) → StopsBefore p xs → 0 < length xs → (b : ℕ) × (xs ≡ b ∷ drop 1 xs) × (is_cut p.state b ≡ true)
cut_next p [] h some = absurd (omega arith)
cut_next p (b ∷ xs) h some = (b, refl, h)

pub end_within : (p : Progress) (w : Stretch) (piece : List ℕ) (start : ℕ) → IsStretch p (drop start piece) w → start ≤ length piece → start + w.len ≤ length piece
end_within p w piece start stretch in_piece = omega (arith, stretch.within, length-drop start piece)

module _ (part piece : List ℕ) (start : ℕ) (p : Progress) (w : Stretch) (here : GoesOnAt part piece start p) (stretch : IsStretch p (drop start piece) w) (stops : StopsBefore w.progress (drop w.len (drop start piece))) where
  front : List ℕ
  front = take w.len (drop start piece)

  whole : List ℕ
  whole = carried start part ++ take w.len (drop start piece)

  progress_is : w.progress ≡ progress_of whole
  unfolding whole
  progress_is = stretch.ends ∙ ap (λ q. progress_from q (take w.len (drop start piece))) here.progress ∙ sym (progress-append at_first (carried start part) (take w.len (drop start piece)))

  fed_on : fed part piece ≡ fed whole (drop (start + w.len) piece)
  unfolding whole
  fed_on =
      here.fed_is ∙ ap (fed (carried start part)) (sym (take-append-drop w.len (drop start piece)))
      ∙ fed_through (carried start part) (take w.len (drop start piece)) (drop w.len (drop start piece)) (ap (λ q. has_no_cut q (take w.len (drop start piece))) (sym here.progress) ∙ stretch.uncut)
      ∙ ap (fed (carried start part ++ take w.len (drop start piece))) (drop-drop w.len start piece)

  next_cut : start + w.len < length piece → (b : ℕ) × (drop (start + w.len) piece ≡ b ∷ drop (start + w.len + 1) piece) × (cuts whole b ≡ true)
  next_cut some =
      let cut = cut_next w.progress (drop (start + w.len) piece) (subst (StopsBefore w.progress) (drop-drop w.len start piece) stops) (omega (arith, length-drop (start + w.len) piece)) in
      (cut.0, cut.1 ∙ ap (λ l. cut.0 ∷ l) (drop-drop 1 (start + w.len) piece), ap (λ q. is_cut q.state cut.0) (sym progress_is) ∙ cut.2)

  -- a blank part is dropped at its cut
  pub dropped : start + w.len < length piece → is_all_blank w.progress ≡ true → GoesOnAt part piece (start + w.len + 1) at_first
  dropped some blank =
      let cut = next_cut some in
      let none : (start + w.len + 1 == 0) ≡ false = ne_eqb (start + w.len + 1) 0 (λ (z : start + w.len + 1 ≡ 0). omega (arith, z)) in
      let nothing : carried (start + w.len + 1) part ≡ [] = rw none refl in
      record {
        fed_is = fed_on ∙ ap (fed whole) cut.1 ∙ fed_dropped whole _ cut.0 cut.2 (ap is_all_blank (sym progress_is) ∙ blank) ∙ ap (λ l. fed l (drop (start + w.len + 1) piece)) (sym nothing);
        progress = ap progress_of (sym nothing);
      }

  same_whole : whole ≡ joined part piece (record { start = start; end = start + w.len; progress = w.progress })
  unfolding whole
  same_whole = ap (λ n. carried start part ++ take n (drop start piece)) (omega arith)

  pub closed : start + w.len < length piece → is_all_blank w.progress ≡ false → IsFound part piece (record { start = start; end = start + w.len; progress = w.progress })
  closed some says =
      let cut = next_cut some in
      record {
        fed_is = rw (lt-ltb (start + w.len) (length piece) some) (fed_on ∙ ap (fed whole) cut.1 ∙ fed_closed whole _ cut.0 cut.2 (ap is_all_blank (sym progress_is) ∙ says) ∙ ap (λ l. closes l (drop (start + w.len + 1) piece)) same_whole);
        progress = progress_is ∙ ap progress_of same_whole;
      }

  pub through : length piece ≤ start + w.len → IsFound part piece (record { start = start; end = start + w.len; progress = w.progress })
  through over =
      record {
        fed_is = rw (le-ltb (start + w.len) (length piece) over) (fed_on ∙ ap (fed whole) (drop_all (start + w.len) piece over) ∙ fed_end whole ∙ ap goes_on same_whole);
        progress = progress_is ∙ ap progress_of same_whole;
      }
