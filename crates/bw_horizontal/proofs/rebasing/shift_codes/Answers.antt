use Rattle.std.proofs.Common.{List, ap, arith, drop, false, get_or, if◌then◌else◌, inl, inr, length, length-drop, length-take, refl, subst, sym, take, ℕ, ◌%◌, ◌*◌, ◌+◌, ◌-◌, ◌/◌, ◌<◌, ◌^◌, ◌≡◌, ◌≤◌, ◌∙◌}
use Rattle.std.proofs.Math.Nat.{mod-eq_of_lt, mul-div_cancel, mul-le-mul_right}
use Rattle.std.proofs.lemmas.Bool.{cases_lt, lt-ltb}
use Rattle.std.proofs.lemmas.Grind.{div_ceil_times}
use Rattle.std.proofs.lemmas.Nat.{div-add-mod'}
use Rattle.std.proofs.lemmas.List.{get_or-drop, get_or-take, get_or_past}
use Rattle.std.proofs.lemmas.List.Elements.{All-drop, All-take}
use Rattle.bw_mask.specs.Masks.{bit_of, len as mask_len, row_at}
use Rattle.bw_lane.specs.Sections.{IsStored, section_of, sections_in}
use Rattle.bw_code.specs.Units.{segments_of}
use Rattle.bw_code.proofs.Parts.{before_part, behind_part, in_part, part_length}
use borrow.Rule.Slice.PartMut.{put_mid}
use Rattle.bw_horizontal.specs.Words.{code_in, segment_rows}
use Rattle.bw_horizontal.proofs.Places.{rows_pos}
use Rattle.bw_horizontal.proofs.Runs.{part_stored}
use Rattle.bw_horizontal.proofs.Shifted.{segment_shifted}
use Rattle.bw_horizontal.proofs.Spans.{rows_most, segment_beside}
use Rattle.bw_horizontal.proofs.Views.{code_below}
use Rattle.bw_horizontal.proofs.rebasing.shift_codes.Goals as goal

pub loop-q-init : goal.loop-q-init
loop-q-init c = record {
  len = refl;
  stored = c.requires.stored;
  done = λ j h. absurd (omega (arith, h));
  left = λ j h. refl;
}

-- how many segments there are
segments_are : (k n : ℕ) (words : List ℕ) → length words ≡ segments_of (segment_rows k) n * (k + 1) → length words / (k + 1) ≡ segments_of (segment_rows k) n
segments_are k n words is = ap (λ m. m / (k + 1)) is ∙ mul-div_cancel (segments_of (segment_rows k) n) (omega arith)

pub overflow_mul-q : goal.overflow_mul-q
overflow_mul-q c =
    let k = c.args.width in
    let n = mask_len c.args.rows.now in
    let segments = segments_of (segment_rows k) n in
    let before : c.loop-q.q ≤ segments = omega (arith, c.loop-q-test.true, segments_are k n c.args.words.now c.requires.count) in
    record { fits = omega (arith, mul-le-mul_right (segment_rows k) before, (div_ceil_times n (segment_rows k) (rows_pos k c.requires.narrow)).1, c.requires.few, rows_most k) }

pub shift_segment-requires-clause-stored : goal.shift_segment-requires-clause-stored
shift_segment-requires-clause-stored c =
    let k = c.args.width in
    let first = c.loop-q.q * (k + 1) in
    let words = c.loop-q.words in
    rw c.new-masks.ensures (All-take (IsStored k) (first + (k + 1) - first) (drop first words) (All-drop (IsStored k) first words c.loop-q.invariant.stored))

pub loop-q-preserved : goal.loop-q-preserved
loop-q-preserved c =
    let k = c.args.width in
    let q = c.loop-q.q in
    let own = c.bits.result in
    let old = c.args.words.now in
    let words = c.loop-q.words in
    let part = c.shift_segment.new.segment in
    let narrow = c.requires.narrow in
    let first = q * (k + 1) in
    let n = first + (k + 1) - first in
    let after = put_mid first n words part in
    let mid = take n (drop first words) in
    let fits : first + n ≤ length words = omega (arith, there) in
    let whole : length mid ≡ n = omega (arith, length-take n (drop first words), length-drop first words, fits) in
    let long : length part ≡ n = c.shift_segment.ensures.len ∙ whole in
    let codes = rw c.new-masks.ensures at c.shift_segment.ensures.codes in
    let each = rw c.new-masks.ensures at c.constant-more.ensures.each in
    let bits : (r : ℕ) → r < segment_rows k → bit_of own r ≡ row_at c.args.rows.now (q * segment_rows k + r) = λ r h. c.bits.ensures r ∙ rw (lt-ltb r (segment_rows k) h) refl in
    let inside : (i t : ℕ) → i < k + 1 → t < sections_in k → section_of k t (get_or after (first + i) 0)
    ≡ (section_of k t (get_or words (first + i) 0) + (if bit_of own (i + t * (k + 1)) then c.args.by % 2 ^ k else 0)) % 2 ^ k = λ i t low h.
    ap (section_of k t) (in_part first n words part 0 fits long (first + i) (omega arith) (omega (arith, low)) ∙ ap (λ m. get_or part m 0) (omega arith))
    ∙ codes i t low h
    ∙ ap (λ x. (section_of k t (get_or mid i 0) + (if bit_of own (i + t * (k + 1)) then x else 0)) % 2 ^ k) (each t h ∙ c.low_code.ensures)
    ∙ ap (λ w. (section_of k t w + (if bit_of own (i + t * (k + 1)) then c.args.by % 2 ^ k else 0)) % 2 ^ k) (get_or-take n (drop first words) i 0 (omega (arith, low)) ∙ get_or-drop first words i 0) in
    let outside : (w : ℕ) → (first ≤ w → first + (k + 1) ≤ w) → get_or after w 0 ≡ get_or words w 0 = λ w apart.
    elim (cases_lt w first) [
      | inl l ↦ before_part first n words part 0 fits long w l
      | inr up ↦ behind_part first n words part 0 fits long w (omega (arith, apart up))
    ] in
    let here = segment_shifted k q own c.args.by (row_at c.args.rows.now) old words after narrow bits inside in
    let beside = segment_beside k q words after outside in
    record {
      len = part_length first n words part 0 fits long ∙ c.loop-q.invariant.len;
      stored = part_stored k first n words part fits long c.loop-q.invariant.stored (rw c.new-masks.ensures at c.shift_segment.ensures.stored);
      done = λ j h.
          elim (cases_lt (j / segment_rows k) q) [
            | inl l ↦ beside j (λ e. omega (arith, e, l)) ∙ c.loop-q.invariant.done j l
            | inr l ↦ here j (omega (arith, h, l)) (c.loop-q.invariant.left j l)
          ];
      left = λ j h. beside j (λ e. omega (arith, e, h)) ∙ c.loop-q.invariant.left j (omega (arith, h));
    }
  where
    there : c.loop-q.q * (c.args.width + 1) + (c.args.width + 1) ≤ length c.loop-q.words
    there = omega (arith, c.loop-q-test.true, c.loop-q.invariant.len, mul-le-mul_right {m = c.loop-q.q + 1} {n = length c.args.words.now / (c.args.width + 1)} (c.args.width + 1) (omega (arith, c.loop-q-test.true)), div-add-mod' (length c.args.words.now) (c.args.width + 1))

pub returns-clause-codes : goal.returns-clause-codes
returns-clause-codes c j =
    let k = c.args.width in
    let rows = c.args.rows.now in
    let n = mask_len rows in
    let q = c.loop-q.q in
    elim (cases_lt (j / segment_rows k) q) [
      | inl l ↦ c.loop-q.invariant.done j l
      | inr l ↦
          let segments : q ≡ segments_of (segment_rows k) n = omega (arith, c.loop-q-test.false, c.loop-q.auto.q-end, segments_are k n c.args.words.now c.requires.count) in
          let most : n ≤ segment_rows k * q = subst (λ m. n ≤ segment_rows k * m) (sym segments) (omega (arith, (div_ceil_times n (segment_rows k) (rows_pos k c.requires.narrow)).0)) in
          let past : n ≤ j = omega (arith, l, most, mul-le-mul_right {m = q} {n = j / segment_rows k} (segment_rows k) l, div-add-mod' j (segment_rows k)) in
          let none : row_at rows j ≡ false = get_or_past rows.rows j false (omega (arith, past)) in
          let same : code_in k c.args.words.now j + 0 ≡ code_in k c.args.words.now j = omega arith in
          c.loop-q.invariant.left j l ∙ rw none (sym (ap (λ m. m % 2 ^ k) same ∙ mod-eq_of_lt (code_below k c.args.words.now c.requires.narrow c.requires.stored j)))
    ]
