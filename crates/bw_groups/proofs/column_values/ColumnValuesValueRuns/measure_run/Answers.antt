use Rattle.std.proofs.Common.{List, None, Option, [], ap, arith, drop, get_or, length, map, min, of_z, replicate, subst, sym, take, to_z, w64, ℕ, ℤ, ◌*◌, ◌++◌, ◌+◌, ◌/◌, ◌<◌, ◌∙◌, ◌≡◌, ◌∷◌}
use Rattle.std.specs.List.{range_with_len}
use Rattle.std.proofs.lemmas.Int.{ints, to_z-of_z}
use Rattle.std.proofs.lemmas.List.{get_or-drop, length-drop, take_min, take_more}
use Rattle.std.proofs.lemmas.List.FromFn.{get_or-map-range_with_len, length-map-range_with_len}
use Rattle.bw_groups.specs.Runs.{AreFilled, IsMeasured}
use Rattle.bw_groups.proofs.Measured.{none_filled}
use Rattle.bw_groups.proofs.Runs.{take_none}
use Rattle.bw_groups.proofs.column_values.ColumnValuesValueRuns.measure_run.Goals as goal

pub overflow_mul-start : goal.overflow_mul-start
overflow_mul-start c =
    let values = c.args.self.now in
    let count = length-map-range_with_len (λ q. take 64 (drop (64 * q) values)) 0 ((length values + 63) / 64) in
    omega (arith, count, c.requires, c.len-len.ensures)

pub overflow_sub-rest : goal.overflow_sub-rest
overflow_sub-rest c =
    let values = c.args.self.now in
    let count = length-map-range_with_len (λ q. take 64 (drop (64 * q) values)) 0 ((length values + 63) / 64) in
    omega (arith, count, c.requires, c.len-len.ensures)

pub get-value-requires : goal.get-value-requires
get-value-requires c = omega (arith, c.run-test.true, c.min-n.ensures, c.len-len.ensures)

pub run-init : goal.run-init
run-init c =
    let base = to_z w64 (of_z w64 c.args.base) in
    let bytes : List ℕ = replicate 64 0 in
    subst (λ r. AreFilled base r 0 c.args.out.now bytes) (sym (take_none (drop (64 * c.args.q) c.args.self.now))) (none_filled base c.args.out.now bytes)

pub run-preserved : goal.run-preserved
run-preserved c =
    let base = to_z w64 (of_z w64 c.args.base) in
    let values = c.args.self.now in
    let start = 64 * c.args.q in
    let k = c.run.k in
    let v = c.get-value.result in
    let inside : k < length (drop start values) = omega (arith, length-drop start values, c.run-test.true, c.min-n.ensures, c.len-len.ensures) in
    let step = take_more (drop start values) k None inside ∙ ap (λ (x : Option ℤ). take k (drop start values) ++ x ∷ []) (get_or-drop start values k None) in
    let put = c.put_distance.ensures.put base (take k (drop start values)) v c.run.invariant c.distance_of.ensures.fits c.distance_of.ensures.distance c.is_some.ensures in
    subst (λ r. AreFilled base r (k + 1) c.put_distance.new.out c.put_distance.new.there) (ap (λ (x : Option ℤ). take k (drop start values) ++ x ∷ []) c.get-value.ensures ∙ sym step) put

pub returns : goal.returns
returns c =
    let base = to_z w64 (of_z w64 c.args.base) in
    let same : base ≡ c.args.base = search (arith, ints, to_z-of_z) in
    let values = c.args.self.now in
    let q = c.args.q in
    let rest = drop (64 * q) values in
    let run = get_or (map (λ m. take 64 (drop (64 * m) values)) (range_with_len 0 ((length values + 63) / 64))) q [] in
    let count = length-map-range_with_len (λ m. take 64 (drop (64 * m) values)) 0 ((length values + 63) / 64) in
    let low : q < (length values + 63) / 64 = omega (arith, count, c.requires) in
    let all : c.run.k ≡ min 64 (length rest) = omega (arith, length-drop (64 * q) values, c.run-test.false, c.run.auto.k-end, c.min-n.ensures, c.len-len.ensures) in
    let is : take c.run.k rest ≡ run = ap (λ n. take n rest) all ∙ take_min 64 rest ∙ sym (get_or-map-range_with_len (λ m. take 64 (drop (64 * m) values)) 0 ((length values + 63) / 64) q q [] low (omega arith)) in
    let filled = subst (λ r. AreFilled base r c.run.k c.run.out c.run.there) is c.run.invariant in
    let whole = subst (λ n. AreFilled base run n c.run.out c.run.there) (omega (arith, c.run-test.false, c.run.auto.k-end)) filled in
    subst (λ b. IsMeasured b run c.filled_run.result.len c.filled_run.result.present c.run.out) same (c.filled_run.ensures base run c.run.out whole)
