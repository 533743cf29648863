use Rattle.std.proofs.Common.{ap, arith, drop, get_or, if◌then◌else◌, inl, inr, length, length-drop, length-take, refl, take, ℕ, ◌*◌, ◌+◌, ◌-◌, ◌/◌, ◌<◌, ◌^◌, ◌≡◌, ◌≤◌, ◌∙◌}
use Rattle.std.proofs.Math.Nat.{mul-le-mul_right}
use Rattle.std.proofs.Math.Pow.{pow_mono}
use Rattle.std.proofs.lemmas.Bool.{cases_lt}
use Rattle.std.proofs.lemmas.Nat.{div-add-mod'}
use Rattle.std.proofs.lemmas.List.{get_or-drop, get_or-take}
use Rattle.bw_mask.specs.Masks.{bit_of}
use Rattle.bw_lane.specs.Sections.{section_of, sections_in}
use Rattle.bw_code.proofs.Parts.{before_part, behind_part, in_part, part_length}
use Rattle.bw_code.proofs.Runs.{chosen_below}
use borrow.Rule.Slice.PartMut.{put_mid}
use Rattle.bw_horizontal.specs.Words.{segment_rows}
use Rattle.bw_horizontal.proofs.Places.{rest_low}
use Rattle.bw_horizontal.proofs.Runs.{part_stored}
use Rattle.bw_horizontal.proofs.Spans.{before_row, rows_most, segment_beside, segment_done}
use Rattle.bw_horizontal.proofs.blending.fill_segments.Goals as goal

pub overflow_cast-code : goal.overflow_cast-code
overflow_cast-code c =
    let most : 2 ^ c.args.width ≤ 2 ^ 32 = pow_mono {i = c.args.width} {j = 32} c.requires.narrow in
    record { fits = omega (arith, c.requires.fits, most) }

pub segments-init : goal.segments-init
segments-init c = record {
  from = omega arith;
  start = refl;
  len = refl;
  stored = c.requires.stored;
  done = λ j h. rw (chosen_below c.args.at c.args.rows j (before_row c.args.width c.args.at j c.requires.narrow h)) refl;
  left = λ j h. refl;
}

pub rows_from-chosen-requires-clause-behind : goal.rows_from-chosen-requires-clause-behind
rows_from-chosen-requires-clause-behind c =
    let k = c.args.width in
    let at = c.args.at in
    omega (arith, c.segments.invariant.start, mul-le-mul_right (segment_rows k) c.segments.invariant.from, div-add-mod' at (segment_rows k), rest_low k at c.requires.narrow, rows_most k)

pub segments-preserved : goal.segments-preserved
segments-preserved c =
    let k = c.args.width in
    let at = c.args.at in
    let rows = c.args.rows in
    let q = c.segments.q in
    let own = c.rows_from-chosen.result in
    let old = c.args.words.now in
    let words = c.segments.words in
    let part = c.fill_segment.new.segment in
    let narrow = c.requires.narrow in
    let start = c.segments.invariant.start in
    let before : q * segment_rows k < c.args.end = omega (arith, c.segments-test.true, start) in
    let there : q * (k + 1) + (k + 1) ≤ length words = omega (arith, c.requires.there q before, c.segments.invariant.len) in
    let first = q * (k + 1) in
    let n = first + (k + 1) - first in
    let after = put_mid first n words part in
    let mid = take n (drop first words) in
    let fits : first + n ≤ length words = omega (arith, there) in
    let whole : length mid ≡ n = omega (arith, length-take n (drop first words), length-drop first words, fits) in
    let long : length part ≡ n = c.fill_segment.ensures.len ∙ whole in
    let bits = rw start at c.rows_from-chosen.ensures in
    let codes = rw c.new-masks.ensures at c.fill_segment.ensures.codes in
    let each = rw c.new-masks.ensures at c.constant-new.ensures.each in
    let inside : (i t : ℕ) → i < k + 1 → t < sections_in k → section_of k t (get_or after (first + i) 0) ≡ (if bit_of own (i + t * (k + 1)) then c.args.code else section_of k t (get_or words (first + i) 0)) = λ i t low h.
    ap (section_of k t) (in_part first n words part 0 fits long (first + i) (omega arith) (omega (arith, low)) ∙ ap (λ m. get_or part m 0) (omega arith))
    ∙ codes i t low h
    ∙ ap (λ x. if bit_of own (i + t * (k + 1)) then x else section_of k t (get_or mid i 0)) (each t h)
    ∙ ap (λ w. if bit_of own (i + t * (k + 1)) then c.args.code else section_of k t w) (get_or-take n (drop first words) i 0 (omega (arith, low)) ∙ get_or-drop first words i 0) in
    let outside : (w : ℕ) → (first ≤ w → first + (k + 1) ≤ w) → get_or after w 0 ≡ get_or words w 0 = λ w apart.
    elim (cases_lt w first) [
      | inl l ↦ before_part first n words part 0 fits long w l
      | inr up ↦ behind_part first n words part 0 fits long w (omega (arith, apart up))
    ] in
    let here = segment_done k at rows q own c.args.code old words after narrow bits inside in
    let beside = segment_beside k q words after outside in
    record {
      from = omega (arith, c.segments.invariant.from);
      start = omega (arith, start);
      len = part_length first n words part 0 fits long ∙ c.segments.invariant.len;
      stored = part_stored k first n words part fits long c.segments.invariant.stored (rw c.new-masks.ensures at c.fill_segment.ensures.stored);
      done = λ j h.
          elim (cases_lt (j / segment_rows k) q) [
            | inl l ↦ beside j (λ e. omega (arith, e, l)) ∙ c.segments.invariant.done j l
            | inr l ↦ here j (omega (arith, h, l)) (c.segments.invariant.left j l)
          ];
      left = λ j h. beside j (λ e. omega (arith, e, h)) ∙ c.segments.invariant.left j (omega (arith, h));
    }

pub returns-clause-codes : goal.returns-clause-codes
returns-clause-codes c j =
    let k = c.args.width in
    let q = c.segments.q in
    elim (cases_lt (j / segment_rows k) q) [
      | inl l ↦ c.segments.invariant.done j l
      | inr l ↦
          let past : c.args.end ≤ j = omega (arith, c.segments-test.false, c.segments.invariant.start, mul-le-mul_right {m = q} {n = j / segment_rows k} (segment_rows k) l, div-add-mod' j (segment_rows k)) in
          c.segments.invariant.left j l ∙ rw (c.requires.none j past) refl
    ]
