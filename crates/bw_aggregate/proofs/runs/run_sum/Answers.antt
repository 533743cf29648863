use Rattle.std.proofs.Common.{All, ap, arith, length, map, subst, sym, take, ◌+◌, ◌<◌, ◌^◌, ◌≡◌, ◌∙◌}
use Rattle.std.proofs.lemmas.List.{length-map}
use Rattle.bw_aggregate.specs.Runs.{IsRun, code_sum}
use Rattle.bw_aggregate.proofs.Halves.{fit_wider, half_part, lower, sums_in_front, upper, upper_fit}
use Rattle.bw_aggregate.proofs.runs.run_sum.Goals as goal

pub narrow_sum-upper-requires-clause-narrow : goal.narrow_sum-upper-requires-clause-narrow
narrow_sum-upper-requires-clause-narrow c =
    let codes = c.args.codes.now in
    subst (All (λ code. code < 2 ^ 32)) (sym c.upper_halves.ensures) (upper_fit 32 codes 32 (fit_wider c.args.bits 64 codes c.requires.narrow c.requires.fit))

pub returns-clause-sum : goal.returns-clause-sum
returns-clause-sum c need all at same is run =
    let codes = c.args.codes.now in
    let n = length codes in
    let lows = take n c.lower_halves.result in
    let highs = take n c.upper_halves.result in
    let low_long : length lows ≡ n = ap length c.lower_halves.ensures ∙ length-map codes (lower 32) in
    let high_long : length highs ≡ n = ap length c.upper_halves.ensures ∙ length-map codes (upper 32) in
    let low : code_sum need (map (lower 32) all) (at + n) ≡ code_sum need (map (lower 32) all) at + c.narrow_sum-lower.result =
    subst (λ k. code_sum need (map (lower 32) all) (at + k) ≡ code_sum need (map (lower 32) all) at + c.narrow_sum-lower.result) low_long
    (c.narrow_sum-lower.ensures.sum need (map (lower 32) all) at (same ∙ sym (length-map all (lower 32))) (half_part (lower 32) codes all lows at is c.lower_halves.ensures) (subst (λ k. IsRun need at k c.args.rows) (sym low_long) run)) in
    let high : code_sum need (map (upper 32) all) (at + n) ≡ code_sum need (map (upper 32) all) at + c.narrow_sum-upper.result =
    subst (λ k. code_sum need (map (upper 32) all) (at + k) ≡ code_sum need (map (upper 32) all) at + c.narrow_sum-upper.result) high_long
    (c.narrow_sum-upper.ensures.sum need (map (upper 32) all) at (same ∙ sym (length-map all (upper 32))) (half_part (upper 32) codes all highs at is c.upper_halves.ensures) (subst (λ k. IsRun need at k c.args.rows) (sym high_long) run)) in
    omega (arith, sums_in_front 32 need all (at + n), sums_in_front 32 need all at, low, high, c.from-2.ensures, c.from-3.ensures, c.narrow_sum-upper.ensures.small)

pub returns-clause-small : goal.returns-clause-small
returns-clause-small c = omega (arith, c.from-2.ensures, c.from-3.ensures, c.narrow_sum-lower.ensures.small, c.narrow_sum-upper.ensures.small)
