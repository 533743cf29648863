use Rattle.std.proofs.Common.{None, [], ap, arith, drop, length, length-take, min, sym, take, ◌*◌, ◌++◌, ◌+◌, ◌/◌, ◌<◌, ◌∙◌, ◌≡◌, ◌∷◌}
use Rattle.std.proofs.lemmas.List.{get_or-drop, length-drop, take_min, take_more}
use Rattle.std.proofs.lemmas.List.FromFn.{get_or-map-range_with_len, length-map-range_with_len}
use Rattle.bw_groups.proofs.Runs.{take_none}
use Rattle.bw_groups.proofs.column_values.ColumnValuesValueRuns.read_run.Goals as goal

pub overflow_mul-start : goal.overflow_mul-start
overflow_mul-start c =
    let values = c.args.self.now in
    let count = length-map-range_with_len (λ q. take 64 (drop (64 * q) values)) 0 ((length values + 63) / 64) in
    omega (arith, count, c.requires, c.len-len.ensures)

pub overflow_sub-rest : goal.overflow_sub-rest
overflow_sub-rest c =
    let values = c.args.self.now in
    let count = length-map-range_with_len (λ q. take 64 (drop (64 * q) values)) 0 ((length values + 63) / 64) in
    omega (arith, count, c.requires, c.len-len.ensures)

pub run-init : goal.run-init
run-init c = c.clear.ensures.items ∙ sym (take_none (drop (64 * c.args.q) c.args.self.now))

pub get-requires : goal.get-requires
get-requires c = omega (arith, c.run-test.true, c.min-n.ensures, c.len-len.ensures)

pub run-preserved : goal.run-preserved
run-preserved c =
    let values = c.args.self.now in
    let start = 64 * c.args.q in
    let k = c.run.k in
    let inside : k < length (drop start values) = omega (arith, length-drop start values, c.run-test.true, c.min-n.ensures, c.len-len.ensures) in
    let step = take_more (drop start values) k None inside ∙ ap (λ v. take k (drop start values) ++ v ∷ []) (get_or-drop start values k None) in
    rw c.in_ok-push.ensures.items
    (ap (λ l. l ++ c.get.result ∷ []) c.run.invariant ∙ ap (λ v. take k (drop start values) ++ v ∷ []) c.get.ensures ∙ sym step)

pub returns : goal.returns
returns c =
    let values = c.args.self.now in
    let q = c.args.q in
    let rest = drop (64 * q) values in
    let count = length-map-range_with_len (λ m. take 64 (drop (64 * m) values)) 0 ((length values + 63) / 64) in
    let low : q < (length values + 63) / 64 = omega (arith, count, c.requires) in
    let all : c.run.k ≡ min 64 (length rest) = omega (arith, length-drop (64 * q) values, c.run-test.false, c.run.auto.k-end, c.min-n.ensures, c.len-len.ensures) in
    let is = c.run.invariant ∙ ap (λ n. take n rest) all ∙ take_min 64 rest in
    record {
      few = omega (arith, ap length is, length-take 64 rest);
      values = is ∙ sym (get_or-map-range_with_len (λ m. take 64 (drop (64 * m) values)) 0 ((length values + 63) / 64) q q [] low (omega arith));
    }
