use Rattle.std.proofs.Common.{ap, arith, get_or, length, length-set, set, sum_by, sym, take, ℕ, ◌&&◌, ◌+◌, ◌<◌, ◌≡◌, ◌∙◌}
use mathlib.Core.Logic.{◌≢◌}
use Rattle.std.proofs.lemmas.List.{get_or-set_other, take_all}
use Rattle.std.proofs.lemmas.List.Sums.{sum_by_more}
use Rattle.bw_aggregate.specs.Left.{segment_count}
use Rattle.bw_aggregate.specs.Planes.{has_bit}
use Rattle.bw_aggregate.specs.declared.segments.Segment.{Segment}
use Rattle.bw_aggregate.proofs.LeftRows.{kept_more, none_of, one_at_most, segment_none, segment_with}
use Rattle.bw_aggregate.proofs.segments.Left.keep.Goals as goal

pub segments-preserved : goal.segments-preserved
segments-preserved c =
    let inv = c.segments.invariant in
    let items = c.segments.self.segments.items in
    let old = c.args.self.now.segments.items in
    let kept = c.segments.kept in
    let k = c.segments.k in
    let segment = c.index.result.now in
    let next : Segment = record { number = segment.number; rows = c.rows_with-rows.result } in
    let within : k < length old = omega (arith, c.segments-test.true, c.len-k-end.ensures) in
    let there : kept < length items = omega (arith, within, inv.len, inv.kept) in
    record {
      kept = omega (arith, inv.kept, c.from-kept.ensures, one_at_most c.has_row.result);
      len = length-set items kept next ∙ inv.len;
      rest = λ m d h. let apart : m ≢ kept = λ e. absurd (omega (arith, e, h, inv.kept)) in get_or-set_other items kept m next d apart ∙ inv.rest m d (omega (arith, h));
      counts = λ codes i plane p.
          let f = segment_count codes p in
          let g = segment_count codes (λ (code : ℕ). has_bit i c.args.bit code && p code) in
          let put = kept_more f items kept next segment c.has_row.result there (λ no. segment_none codes p next (none_of _ (sym c.has_row.ensures ∙ no))) in
          let more = sum_by_more g old k segment within in
          let same : get_or old k segment ≡ segment = sym (inv.rest k segment (omega arith)) ∙ sym c.index.ensures in
          let here = ap g same in
          let row = segment_with codes i c.args.plane.now plane c.args.bit segment c.rows.result c.rows_with-rows.result c.rows.ensures c.rows_with-rows.ensures p in
          ap (λ n. sum_by f (take (kept + n) (set items kept next))) c.from-kept.ensures ∙ omega (arith, put, more, here, row, inv.counts codes i plane p);
    }

pub returns : goal.returns
returns c codes i plane p =
    let old = c.args.self.now.segments.items in
    ap (sum_by (segment_count codes p)) c.truncate.ensures.items ∙ c.segments.invariant.counts codes i plane p
    ∙ ap (sum_by (segment_count codes (λ (code : ℕ). has_bit i c.args.bit code && p code))) (take_all c.segments.k old (omega (arith, c.segments-test.false, c.len-k-end.ensures)))
