use Rattle.std.proofs.Common.{ap, arith, count_by, false, get_or, length, length-set, refl, set, sum_by, sym, take, ℕ, ◌&&◌, ◌*◌, ◌+◌, ◌<◌, ◌≡◌, ◌≤◌, ◌∙◌}
use Rattle.std.proofs.lemmas.List.{take_all}
use Rattle.std.specs.List.{items_where_true}
use Rattle.bw_mask.specs.Masks.{row_in}
use Rattle.bw_aggregate.specs.Left.{segment_count}
use Rattle.bw_aggregate.specs.Marks.{marked}
use Rattle.bw_aggregate.specs.declared.segments.Segment.{Segment}
use Rattle.bw_aggregate.proofs.LeftRows.{kept_more, marked_codes, none_of, one_at_most, segment_none}
use Rattle.bw_aggregate.proofs.Marks.{marked_add, marked_same, marked_zero}
use Rattle.bw_aggregate.proofs.segments.Left.of.Goals as goal

pub segments-init : goal.segments-init
segments-init c = record {
  kept = omega arith;
  len = omega (arith, c.in_ok-segments.ensures.len);
  counts = λ codes p same. sym (marked_zero (λ r. get_or c.args.rows.now.rows r false && p (get_or codes r 0)));
}

pub segments-preserved : goal.segments-preserved
segments-preserved c =
    let inv = c.segments.invariant in
    let items = c.segments.segments.items in
    let kept = c.segments.kept in
    let number = c.segments.number in
    let rows = c.args.rows.now.rows in
    let next : Segment = record { number = number; rows = c.rows_at-rows.result } in
    let there : kept < length items = omega (arith, inv.len, inv.kept, c.segments-test.true) in
    record {
      kept = omega (arith, inv.kept, c.from-kept.ensures, one_at_most c.has_row.result);
      len = length-set items kept next ∙ inv.len;
      counts = λ codes p same.
          let f = segment_count codes p in
          let test = λ (r : ℕ). get_or rows r false && p (get_or codes r 0) in
          let put = kept_more f items kept next next c.has_row.result there (λ no. segment_none codes p next (none_of _ (sym c.has_row.ensures ∙ no))) in
          let size : 256 * (number + 1) ≡ 256 * number + 256 = omega arith in
          let more = marked_add (256 * number) 256 test in
          let part : f next ≡ marked 256 (λ j. test (256 * number + j)) =
          marked_same 256 (λ j. row_in c.rows_at-rows.result j && p (get_or codes (256 * number + j) 0)) (λ j. test (256 * number + j))
          (λ j h. ap (λ b. b && p (get_or codes (256 * number + j) 0)) (c.rows_at-rows.ensures j h ∙ c.words-words.ensures.rows (256 * number + j))) in
          ap (λ n. sum_by f (take (kept + n) (set items kept next))) c.from-kept.ensures
          ∙ omega (arith, put, more, part, inv.counts codes p same) ∙ sym (ap (λ n. marked n test) size);
    }

pub returns : goal.returns
returns c codes same p =
    let rows = c.args.rows.now.rows in
    let n = 256 * c.segments.number in
    let all : length rows ≤ n = omega (arith, c.segments-test.false, c.requires.all) in
    let whole : items_where_true (take n rows) (take n codes) ≡ items_where_true rows codes = rw (take_all n rows all, take_all n codes (omega (arith, all, same))) refl in
    ap (sum_by (segment_count codes p)) c.truncate.ensures.items ∙ c.segments.invariant.counts codes p same
    ∙ marked_codes n rows codes p (sym same) ∙ ap (count_by p) whole
