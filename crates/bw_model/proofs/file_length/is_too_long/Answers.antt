use Rattle.std.proofs.Common.{◌≡◌, ◌∙◌, ◌+◌, ap, arith, length, map, nat_lt, sym}
use Rattle.std.specs.List.{range_with_len, sum_by}
use Rattle.std.proofs.lemmas.List.FromFn.{map-range_with_len_more}
use Rattle.std.proofs.lemmas.List.Sums.{sum_by_push}
use Rattle.bw_file.specs.Format.{column_size}
use Rattle.bw_file.specs.Headers.{header_size}
use Rattle.bw_file.specs.declared.version.Version.TheVariants.{Second}
use Rattle.bw_model.specs.Filing.{column_of, file_limit, filed_length}
use Rattle.bw_model.proofs.Lengths.{too_many_rows}
use Rattle.bw_model.proofs.file_length.is_too_long.Goals as goal

pub returns-then-rows : goal.returns-then-rows
returns-then-rows c = sym (too_many_rows c.args.table.now c.headers-headers.ensures.some (omega (arith, c.if-rows.true, ap length c.rows-rows.ensures)))

pub loop-k-preserved : goal.loop-k-preserved
loop-k-preserved c =
    let rows = c.rows-rows.result.now in
    let k = c.loop-k.k in
    let more : sum_by (column_size Second) (map (column_of rows) (range_with_len 0 (k + 1))) ≡ sum_by (column_size Second) (map (column_of rows) (range_with_len 0 k)) + column_size Second (column_of rows k) =
    ap (sum_by (column_size Second)) (map-range_with_len_more (column_of rows) 0 k k (omega arith)) ∙ sum_by_push (column_size Second) (map (column_of rows) (range_with_len 0 k)) (column_of rows k) in
    record {
      size = omega (arith, more, c.loop-k.invariant.size, c.in_ok-length.ensures.size);
      bound = omega (arith, c.loop-k.invariant.bound, c.in_ok-length.ensures.bound);
    }

pub returns : goal.returns
returns c =
    let headers = c.headers-headers in
    let end : c.loop-k.k ≡ length headers.result.now = omega (arith, c.loop-k-test.false, c.loop-k.auto.k-end) in
    let is : c.loop-k.length ≡ filed_length c.args.table.now =
    c.loop-k.invariant.size
    ∙ ap (λ n. 14 + sum_by (header_size Second) c.args.table.now.headers + sum_by (column_size Second) (map (column_of c.rows-rows.result.now) (range_with_len 0 n))) end
    ∙ (λ j. 14 + sum_by (header_size Second) c.args.table.now.headers + sum_by (column_size Second) (map (column_of (c.rows-rows.ensures j)) (range_with_len 0 (length (headers.ensures.value j))))) in
    ap (nat_lt file_limit) is
