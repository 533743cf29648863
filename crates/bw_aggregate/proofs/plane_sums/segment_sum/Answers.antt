use Rattle.std.proofs.Common.{All, ap, arith, map, subst, sym, ◌%◌, ◌*◌, ◌+◌, ◌-◌, ◌<◌, ◌^◌, ◌≡◌, ◌≤◌, ◌∙◌}
use Rattle.std.proofs.Math.Nat.{mod-eq_of_lt, mul-le-mul, pow-le-pow_right}
use Rattle.std.proofs.lemmas.List.{length-map}
use Rattle.bw_aggregate.specs.PlaneSums.{AreMadeOf}
use Rattle.bw_aggregate.proofs.Halves.{lower, lower_fit, lower_made, sums_between, upper, upper_fit, upper_made}
use Rattle.bw_aggregate.proofs.LeftRows.{none_of}
use Rattle.bw_aggregate.proofs.SegmentSums.{none_in}
use Rattle.bw_aggregate.proofs.plane_sums.segment_sum.Goals as goal

pub returns-then-not-has_row-clause-sum : goal.returns-then-not-has_row-clause-sum
returns-then-not-has_row-clause-sum c need same rows =
    none_in need c.args.codes.now.codes same c.args.q c.args.rows.now rows (none_of _ (sym c.has_row.ensures ∙ c.if-not-has_row.true))

pub returns-clause-sum : goal.returns-clause-sum
returns-clause-sum c need same rows =
    let codes = c.args.codes.now.codes in
    let k = c.width-k.result in
    let width : c.args.codes.now.width ≡ k = sym c.width-k.ensures.width in
    let s = 4 * c.upper_groups-groups.result in
    let m = k - s in
    let upto : s ≤ k = c.upper_groups-groups.ensures.few in
    let lows = map (lower m) codes in
    let highs = map (upper m) codes in
    let none : 0 ≡ c.args.codes.now.width - k = omega (arith, width) in
    let low : c.planes_sum-lower.result ≡ _ = c.planes_sum-lower.ensures need lows (same ∙ sym (length-map codes (lower m))) (lower_fit m codes) (subst (λ z. AreMadeOf codes z m lows) none (lower_made m codes)) rows in
    let whole : c.args.codes.now.width ≡ m + s = omega (arith, width, upto) in
    let from : s ≡ s - 4 * 0 = omega arith in
    let place : m ≡ c.args.codes.now.width - s = ap (λ z. z - s) (sym width) in
    let fit : All (λ x. x < 2 ^ s) highs = upper_fit m codes s (subst (λ z. All (λ x. x < 2 ^ z) codes) whole c.width-k.ensures.fit) in
    let made : AreMadeOf codes (c.args.codes.now.width - s) s highs = subst (λ z. AreMadeOf codes z s highs) place (upper_made m codes s) in
    let high : c.planes_sum-upper.result ≡ _ =
    c.planes_sum-upper.ensures need highs (same ∙ sym (length-map codes (upper m))) (subst (λ z. All (λ x. x < 2 ^ z) highs) from fit) (subst (λ z. AreMadeOf codes (c.args.codes.now.width - s) z highs) from made) rows in
    let half : m ≤ 32 = omega (arith, c.upper_groups-groups.ensures.lower) in
    let wide : 2 ^ m ≤ 2 ^ 32 = pow-le-pow_right {n = 2} (omega arith) {i = m} {j = 32} half in
    let most : c.from-3.result ≤ 2 ^ 64 = omega (arith, c.from-3.ensures, c.planes_sum-upper.type_inv) in
    let product : c.from-3.result * 2 ^ m ≤ 2 ^ 64 * 2 ^ 32 = mul-le-mul most wide in
    let cut : c.from-3.result * 2 ^ m % 2 ^ 128 ≡ c.from-3.result * 2 ^ m = mod-eq_of_lt (omega (arith, product)) in
    rw (cut, c.from-2.ensures, c.from-3.ensures, low, high) (sym (sums_between m need codes (256 * c.args.q) (256 * c.args.q + 256)))
