use Rattle.std.proofs.Common.{ap, arith, cond, div-le_self, not, rules, subst, sym, ℕ, ◌*◌, ◌+◌, ◌-◌, ◌<◌, ◌^◌, ◌≡◌, ◌∙◌}
use Rattle.bw_mask.specs.Masks.{row_in}
use Rattle.bw_code.specs.Columns.{code_at}
use Rattle.bw_aggregate.specs.Descents.{front, next}
use Rattle.bw_aggregate.specs.Ends.{distance, is_near}
use Rattle.bw_aggregate.proofs.Distances.{distance-more, distance-small}
use Rattle.bw_aggregate.proofs.LeftRows.{is_some}
use Rattle.bw_aggregate.proofs.NearRows.{AreLeft, code_small, found_nearest, left_start, none_nearer, one_down, small_front}
use Rattle.bw_aggregate.proofs.nearest_planes.nearest_of.Goals as goal

pub planes-init : goal.planes-init
planes-init c =
    let codes = c.args.codes.now in
    let k = codes.width in
    let code = λ (j : ℕ). code_at codes (256 * c.args.q + j) in
    let far = λ (j : ℕ). distance c.args.end (2 ^ k - 1) (code j) in
    let rows = row_in c.args.rows.now in
    let whole : k ≡ k - 0 = omega arith in
    let start = left_start rows far k (λ j. distance-small c.args.end k (code j) (code_small k codes.codes c.width-k.ensures.fit (256 * c.args.q + j))) (is_some _ c.requires.some) in
    record { left = subst (λ n. AreLeft rows rows far n 0) whole start; best = omega arith }

pub returns-then-found-best : goal.returns-then-found-best
returns-then-found-best c =
    let codes = c.args.codes.now in
    let k = codes.width in
    let i = c.planes.i in
    let m = k - 1 - i in
    let within : i < k = omega (arith, c.planes-test.true, c.width-k.ensures.width) in
    let code = λ (j : ℕ). code_at codes (256 * c.args.q + j) in
    let far = λ (j : ℕ). distance c.args.end (2 ^ k - 1) (code j) in
    let rows = row_in c.args.rows.now in
    let place : k - i ≡ m + 1 = omega (arith, within) in
    let old = subst (λ n. AreLeft rows (row_in c.planes.left) far n c.planes.found) place c.planes.invariant.left in
    let near = λ (j : ℕ). is_near c.args.end (row_in c.plane_at.result.now j) in
    let goes = one_down rows c.planes.left c.nearer_rows-nearer.result c.nearer_or_all-left.result far m c.planes.found near c.has_row-some.result old
    (λ j h. distance-more c.args.end k m (code j) (omega (arith, within)) (code_small k codes.codes c.width-k.ensures.fit (256 * c.args.q + j))
    ∙ ap (λ b. 2 * front (m + 1) (far j) + cond {A = ℕ} (is_near c.args.end b) 0 1) (sym (c.plane_at.ensures j h)))
    c.nearer_rows-nearer.ensures c.has_row-some.ensures c.nearer_or_all-left.ensures in
    let small : c.planes.found < 2 ^ 63 = small_front c.args.best c.planes.found (k - i) (search rules) (omega (arith, within)) c.planes.invariant.best in
    let found : c.with_bit-found.result ≡ next c.planes.found (not c.has_row-some.result) = c.with_bit-found.ensures small in
    let same : c.width-k.result - 1 - i ≡ m = omega (arith, c.width-k.ensures.width) in
    let past : front m c.args.best < next c.planes.found (not c.has_row-some.result) = rw (← same, ← found) c.if-found-best.true in
    none_nearer rows (row_in c.nearer_or_all-left.result) code c.args.end (2 ^ k - 1) c.args.best m _ goes past

pub planes-preserved : goal.planes-preserved
planes-preserved c =
    let codes = c.args.codes.now in
    let k = codes.width in
    let i = c.planes.i in
    let m = k - 1 - i in
    let within : i < k = omega (arith, c.planes-test.true, c.width-k.ensures.width) in
    let code = λ (j : ℕ). code_at codes (256 * c.args.q + j) in
    let far = λ (j : ℕ). distance c.args.end (2 ^ k - 1) (code j) in
    let rows = row_in c.args.rows.now in
    let place : k - i ≡ m + 1 = omega (arith, within) in
    let old = subst (λ n. AreLeft rows (row_in c.planes.left) far n c.planes.found) place c.planes.invariant.left in
    let near = λ (j : ℕ). is_near c.args.end (row_in c.plane_at.result.now j) in
    let goes = one_down rows c.planes.left c.nearer_rows-nearer.result c.nearer_or_all-left.result far m c.planes.found near c.has_row-some.result old
    (λ j h. distance-more c.args.end k m (code j) (omega (arith, within)) (code_small k codes.codes c.width-k.ensures.fit (256 * c.args.q + j))
    ∙ ap (λ b. 2 * front (m + 1) (far j) + cond {A = ℕ} (is_near c.args.end b) 0 1) (sym (c.plane_at.ensures j h)))
    c.nearer_rows-nearer.ensures c.has_row-some.ensures c.nearer_or_all-left.ensures in
    let small : c.planes.found < 2 ^ 63 = small_front c.args.best c.planes.found (k - i) (search rules) (omega (arith, within)) c.planes.invariant.best in
    let found : c.with_bit-found.result ≡ next c.planes.found (not c.has_row-some.result) = c.with_bit-found.ensures small in
    let next_place : m ≡ k - (i + 1) = omega arith in
    let same : c.width-k.result - 1 - i ≡ k - (i + 1) = omega (arith, c.width-k.ensures.width) in
    record {
      left = rw found (subst (λ n. AreLeft rows (row_in c.nearer_or_all-left.result) far n (next c.planes.found (not c.has_row-some.result))) next_place goes);
      best = rw same at c.if-found-best.false;
    }

pub returns : goal.returns
returns c =
    let codes = c.args.codes.now in
    let k = codes.width in
    let code = λ (j : ℕ). code_at codes (256 * c.args.q + j) in
    let far = λ (j : ℕ). distance c.args.end (2 ^ k - 1) (code j) in
    let rows = row_in c.args.rows.now in
    let none : k - c.planes.i ≡ 0 = omega (arith, c.planes-test.false, c.width-k.ensures.width) in
    let left = subst (λ n. AreLeft rows (row_in c.planes.left) far n c.planes.found) none c.planes.invariant.left in
    found_nearest rows (row_in c.planes.left) code c.args.end (2 ^ k - 1) c.args.best c.planes.found left
    (omega (arith, c.planes.invariant.best, div-le_self c.args.best (2 ^ (k - c.planes.i))))
