use Rattle.std.proofs.Common.{arith, drop, get_or, length, length-drop, length-take, refl, subst, take, ℕ, ◌+◌, ◌-◌, ◌<◌, ◌≡◌, ◌≤◌}
use Rattle.std.proofs.lemmas.Bool.{lt-ltb}
use Rattle.bw_mask.specs.Masks.{bit_of, row_at}
use Rattle.bw_code.proofs.Lists.{part_at}
use Rattle.bw_column.specs.Extremes.{IsGreatestFrom, IsLeastFrom}
use Rattle.bw_column.proofs.Extremes.{greatest_over, least_over}
use Rattle.bw_column.proofs.lent_ends.wide_ends.Goals as goal

pub loop-at-preserved : goal.loop-at-preserved
loop-at-preserved c =
    let i = c.loop-at.invariant in
    let codes = c.args.codes.now in
    let nonnull = c.args.nonnull.now in
    let at = c.loop-at.at in
    let n = c.min-n.result in
    let run = take (at + n - at) (drop at codes) in
    let bits = c.bits.result in
    let inside : at + n ≤ length codes = omega (arith, c.min-n.ensures, i.at) in
    let long : length run ≡ n = omega (arith, length-take (at + n - at) (drop at codes), length-drop at codes, inside) in
    let rows : (k : ℕ) → k < n → bit_of bits k ≡ row_at nonnull (at + k) = λ k h. rw (c.bits.ensures k, lt-ltb k n h) refl in
    let each : (k : ℕ) → k < n → get_or run k 0 ≡ get_or codes (at + k) 0 = λ k h. part_at codes run at (at + n - at) k 0 refl (omega (arith, long, h)) in
    let ends = c.ends_with-ends in
    let least : IsLeastFrom c.loop-at.ends.0 n (bit_of bits) (λ k. get_or run k 0) ends.result.0 = subst (λ m. IsLeastFrom c.loop-at.ends.0 m (bit_of bits) (λ k. get_or run k 0) ends.result.0) long ends.ensures.least in
    let greatest : IsGreatestFrom c.loop-at.ends.1 n (bit_of bits) (λ k. get_or run k 0) ends.result.1 = subst (λ m. IsGreatestFrom c.loop-at.ends.1 m (bit_of bits) (λ k. get_or run k 0) ends.result.1) long ends.ensures.greatest in
    record {
      at = inside;
      least = least_over c.args.start at n (row_at nonnull) (bit_of bits) (λ k. get_or codes k 0) (λ k. get_or run k 0) c.loop-at.ends.0 ends.result.0 rows each i.least least;
      greatest = greatest_over c.args.start at n (row_at nonnull) (bit_of bits) (λ k. get_or codes k 0) (λ k. get_or run k 0) c.loop-at.ends.1 ends.result.1 rows each i.greatest greatest;
    }
