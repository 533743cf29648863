use Rattle.std.proofs.Common.{ap, arith, inl, inr, sym, ℕ, ◌*◌, ◌+◌, ◌%◌, ◌<◌, ◌≡◌, ◌≤◌, ◌∙◌}
use Rattle.std.proofs.lemmas.Bool.{cases_lt}
use Rattle.std.proofs.lemmas.Nat.{le-div}
use Rattle.std.proofs.Math.Nat.{mul-div-le, mul-le-mul_right}
use Rattle.bw_lane.specs.Sections.{sections_in}
use Rattle.bw_horizontal.specs.Words.{section_in, segment_rows}
use Rattle.bw_horizontal.proofs.Places.{next_section, next_segment, next_word}
use Rattle.bw_horizontal.proofs.place.Place.after.Goals as goal

more_sections : (k t : ℕ) → (t + 2) * (k + 1) ≤ 64 → t + 1 < sections_in k
more_sections k t h = let more = le-div (t + 2) 64 (k + 1) (omega arith) h in omega (arith, more)

no_more_sections : (k t : ℕ) → 64 < (t + 2) * (k + 1) → sections_in k ≤ t + 1
no_more_sections k t h =
    elim (cases_lt (t + 1) (sections_in k)) [
      | inl l ↦ absurd (omega (arith, h, mul-le-mul_right {m = t + 2} {n = sections_in k} (k + 1) (omega (arith, l)), mul-div-le 64 (k + 1)))
      | inr l ↦ l
    ]

pub invariant_of-result : goal.invariant_of-result
invariant_of-result c =
    let place = c.args.self in
    let k = place.masks.width in
    let n = c.args.rows in
    let low : place.row % segment_rows k % (k + 1) + n < k + 1 = omega (arith, place.word_is, c.if-self-rows.true) in
    let after = next_word k place.row n place.narrow low in
    record {
      narrow = place.narrow;
      start_is = place.start_is ∙ ap (λ q. q * (k + 1)) (sym after.0);
      word_is = ap (λ i. i + n) place.word_is ∙ sym after.1;
      section_is = place.section_is ∙ sym after.2;
    }

pub invariant_of-result-then-self-words-le64 : goal.invariant_of-result-then-self-words-le64
invariant_of-result-then-self-words-le64 c =
    let place = c.args.self in
    let k = place.masks.width in
    let n = c.args.rows in
    let end : place.row % segment_rows k % (k + 1) + n ≡ k + 1 = omega (arith, place.word_is, c.requires.run, c.if-self-rows.false) in
    let there : section_in k place.row + 1 < sections_in k = more_sections k (section_in k place.row) (omega (arith, ap (λ t. (t + 2) * (k + 1)) place.section_is, c.if-self-words-le64.true)) in
    let after = next_section k place.row n place.narrow end there in
    record {
      narrow = place.narrow;
      start_is = place.start_is ∙ ap (λ q. q * (k + 1)) (sym after.0);
      word_is = sym after.1;
      section_is = ap (λ t. t + 1) place.section_is ∙ sym after.2;
    }

pub invariant_of-result-2 : goal.invariant_of-result-2
invariant_of-result-2 c =
    let place = c.args.self in
    let k = place.masks.width in
    let n = c.args.rows in
    let end : place.row % segment_rows k % (k + 1) + n ≡ k + 1 = omega (arith, place.word_is, c.requires.run, c.if-self-rows.false) in
    let full : sections_in k ≤ section_in k place.row + 1 = no_more_sections k (section_in k place.row) (omega (arith, ap (λ t. (t + 2) * (k + 1)) place.section_is, c.if-self-words-le64.false)) in
    let after = next_segment k place.row n place.narrow end full in
    record {
      narrow = place.narrow;
      start_is = omega (arith, place.start_is, ap (λ q. q * (k + 1)) after.0);
      word_is = sym after.1;
      section_is = sym after.2;
    }
