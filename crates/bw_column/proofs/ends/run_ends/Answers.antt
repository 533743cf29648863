use Rattle.std.proofs.Common.{arith, refl, drop, get_or, length, length-drop, length-take, take, ap, ℕ, ◌+◌, ◌<◌, ◌≡◌, ◌≤◌, ◌∙◌}
use Rattle.std.proofs.lemmas.Bool.{lt-ltb}
use Rattle.bw_mask.specs.Masks.{bit_of, row_at}
use Rattle.bw_code.specs.Columns.{code_at, count}
use Rattle.bw_code.proofs.Lists.{part_at}
use Rattle.bw_column.specs.Extremes.{IsGreatestFrom, IsLeastFrom}
use Rattle.bw_column.specs.Storing.{list_of}
use Rattle.bw_column.proofs.Extremes.{greatest_over, least_over}
use Rattle.bw_column.proofs.ends.run_ends.Goals as goal

pub loop-at-preserved : goal.loop-at-preserved
loop-at-preserved c =
    let i = c.loop-at.invariant in
    let codes = list_of c.args.codes.now in
    let nonnull = c.args.nonnull.now in
    let at = c.loop-at.at in
    let n = c.min-n.result in
    let block = c.read.new.out in
    let bits = c.bits.result in
    let inside : at + n ≤ count codes = omega (arith, c.min-n.ensures, c.len-in-loop-at.ensures.count, i.at) in
    let asked : length (take n c.loop-at.run) ≡ n = omega (arith, length-take n c.loop-at.run, c.min-n.ensures, c.min-n.array_long) in
    let is : block ≡ take n (drop at codes.codes) = c.read.ensures.codes ∙ ap (λ m. take m (drop at codes.codes)) asked in
    let long : length block ≡ n = ap length is ∙ omega (arith, length-take n (drop at codes.codes), length-drop at codes.codes, inside) in
    let rows : (k : ℕ) → k < n → bit_of bits k ≡ row_at nonnull (at + k) = λ k h. rw (c.bits.ensures k, lt-ltb k n h) refl in
    let each : (k : ℕ) → k < n → get_or block k 0 ≡ code_at codes (at + k) = λ k h. part_at codes.codes block at n k 0 is (omega (arith, long, h)) in
    let ends = c.ends_with-ends in
    let least : IsLeastFrom c.loop-at.ends.0 n (bit_of bits) (λ k. get_or block k 0) ends.result.0 = rw (← long) ends.ensures.least in
    let greatest : IsGreatestFrom c.loop-at.ends.1 n (bit_of bits) (λ k. get_or block k 0) ends.result.1 = rw (← long) ends.ensures.greatest in
    record {
      at = inside;
      least = least_over c.args.start at n (row_at nonnull) (bit_of bits) (code_at codes) (λ k. get_or block k 0) c.loop-at.ends.0 ends.result.0 rows each i.least least;
      greatest = greatest_over c.args.start at n (row_at nonnull) (bit_of bits) (code_at codes) (λ k. get_or block k 0) c.loop-at.ends.1 ends.result.1 rows each i.greatest greatest;
    }
