use Rattle.std.proofs.Common.{ap, arith, bit_and, get_or, length, rules, ℕ, ◌+◌, ◌<◌, ◌^◌, ◌≤◌, ◌∙◌}
use Rattle.std.proofs.lemmas.List.{take_all}
use Rattle.std.proofs.lemmas.List.Sums.{sum_by_more}
use Rattle.std.proofs.lemmas.Nat.{ones-le}
use Rattle.std.proofs.lemmas.Slice.Zip.{get_or-zip, length-zip}
use Rattle.std.specs.Int.Bits.{and_lt}
use Rattle.std.specs.Int.RustNames.{count_ones}
use Rattle.std.specs.List.{sum_by, zip}
use Rattle.bw_lane.proofs.words.count_and_words.Goals as goal

pub words-preserved : goal.words-preserved
words-preserved c =
    let a = c.args.a.now in
    let b = c.args.b.now in
    let i = c.words.i in
    let inside : i < length a = omega arith in
    let long : i < length (zip a b) = omega (arith, length-zip a b) in
    let both : ℕ = bit_and (get_or a i 0) (get_or b i 0) in
    let here = get_or-zip a b i (0, 0) inside (omega arith) in
    let more = sum_by_more (λ (p : ℕ × ℕ). count_ones (bit_and p.0 p.1)) (zip a b) i (0, 0) long in
    let fits-a : get_or a i 0 < 2 ^ 64 = search rules in
    let fits-b : get_or b i 0 < 2 ^ 64 = search rules in
    let few : count_ones both ≤ 64 = ones-le 64 both (and_lt 64 (get_or a i 0) (get_or b i 0) fits-a fits-b) in
    record {
      total = rw (more, here, c.from-total.ensures) (ap (λ t. t + count_ones both) c.words.invariant.total);
      small = omega (arith, few, c.words.invariant.small, c.from-total.ensures);
    }

pub returns : goal.returns
returns c =
    let a = c.args.a.now in
    let b = c.args.b.now in
    let all = take_all c.words.i (zip a b) (omega (arith, length-zip a b)) in
    c.words.invariant.total ∙ ap (sum_by (λ (p : ℕ × ℕ). count_ones (bit_and p.0 p.1))) all
