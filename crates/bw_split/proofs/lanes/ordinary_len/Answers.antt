use Rattle.std.proofs.Common.{◌==◌, ◌∙◌, ap, sym, arith}
use lib.Count.{count_trailing_zeros}
use lib.Lanes.{mask_l}
use Rattle.bw_lex.proofs.LaneLemmas.{rest_len, run_stops, run_through}
use Rattle.bw_lex.specs.Fronts.{is_plain}
use Rattle.bw_split.specs.Ordinary.{specials}
use Rattle.bw_split.proofs.SpecialBytes.{chunk_pairs, length_specials, rest_ordinary}
use Rattle.bw_split.proofs.lanes.ordinary_len.Goals as goal

pub returns-then-found-ne0 : goal.returns-then-found-ne0
returns-then-found-ne0 c =
    let d = c.args.bytes.now in
    let at = c.loop-at.at in
    let same = c.special-found.ensures ∙ ap mask_l (chunk_pairs at 16 d (omega arith)) in
    let run = run_stops (λ x. x == 0) (specials d) at 16 (omega (arith, length_specials d)) (omega arith) (omega (arith, same)) ∙ ap (count_trailing_zeros 64) (sym same) in
    omega (arith, run, c.loop-at.invariant.0)

pub loop-at-preserved : goal.loop-at-preserved
loop-at-preserved c =
    let d = c.args.bytes.now in
    let at = c.loop-at.at in
    let same = c.special-found.ensures ∙ ap mask_l (chunk_pairs at 16 d (omega arith)) in
    let run = run_through (λ x. x == 0) (specials d) at 16 (omega (arith, length_specials d)) (omega (arith, same)) in
    (omega (arith, run, c.loop-at.invariant.0), omega arith)

pub overflow_add-result-2 : goal.overflow_add-result-2
overflow_add-result-2 c =
    let d = c.args.bytes.now in
    omega (arith, c.loop-at.invariant.1, c.plain_one_by_one.ensures, rest_len is_plain d c.loop-at.at c.loop-at.invariant.1)

pub returns : goal.returns
returns c = omega (arith, c.loop-at.invariant.0, c.plain_one_by_one.ensures, rest_ordinary c.args.bytes.now c.loop-at.at)
