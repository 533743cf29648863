use Rattle.std.proofs.Common.{All, [], ap, arith, drop, get_or, length, pos, refl, subst, sym, take, ◌++◌, ◌+◌, ◌-◌, ◌<◌, ◌∙◌, ◌≡◌, ◌≤◌}
use Rattle.std.proofs.lemmas.List.{length-drop, length-take-le, take_all}
use Rattle.std.proofs.lemmas.List.Elements.{All-drop, All-take}
use Rattle.bw_groups.specs.Folding.{AreFolds}
use Rattle.bw_groups.specs.Runs.{IsMeasured, values_in}
use Rattle.bw_groups.proofs.Runs.{run_inside, runs_all, runs_more, runs_none, runs_reach, take_none, take_parts}
use Rattle.bw_groups.proofs.Telling.{before_any}
use Rattle.bw_groups.proofs.fold.fold_each.Goals as goal

pub runs-init : goal.runs-init
runs-init g c =
    let none = runs_none (g.C.ValueRuns.runs c.args.column.now) in
    record {
      count = c.in_ok-folds.ensures.count ∙ c.times.ensures.count;
      at = sym (ap length none);
      tells = before_any g.F.Fold.tells (take 0 c.ranks-ranks.result.now) (values_in (take 0 (g.C.ValueRuns.runs c.args.column.now))) c.in_ok-folds.folds.items (take_none c.ranks-ranks.result.now) none c.in_ok-folds.ensures.none;
    }

pub overflow_add-end : goal.overflow_add-end
overflow_add-end g c =
    let runs = g.C.ValueRuns.runs c.args.column.now in
    let low : c.runs.q < length runs = omega (arith, c.runs-test.true, c.run_count-q-end.ensures) in
    let inside = run_inside runs c.runs.q c.runs.at (get_or runs c.runs.q []) low refl c.runs.invariant.at in
    omega (arith, inside, c.measure_run-len.ensures.long, c.requires, c.times.ensures.counted.few)

pub offset_bounds-ranks-at : goal.offset_bounds-ranks-at
offset_bounds-ranks-at g c =
    let runs = g.C.ValueRuns.runs c.args.column.now in
    let low : c.runs.q < length runs = omega (arith, c.runs-test.true, c.run_count-q-end.ensures) in
    let inside = run_inside runs c.runs.q c.runs.at (get_or runs c.runs.q []) low refl c.runs.invariant.at in
    omega (arith, inside, c.requires, c.times.ensures.counted.few)

pub slice_bounds-fold_run-start : goal.slice_bounds-fold_run-start
slice_bounds-fold_run-start g c = omega arith

pub slice_bounds-fold_run-end : goal.slice_bounds-fold_run-end
slice_bounds-fold_run-end g c =
    let runs = g.C.ValueRuns.runs c.args.column.now in
    let low : c.runs.q < length runs = omega (arith, c.runs-test.true, c.run_count-q-end.ensures) in
    let inside = run_inside runs c.runs.q c.runs.at (get_or runs c.runs.q []) low refl c.runs.invariant.at in
    omega (arith, inside, c.measure_run-len.ensures.long, c.requires, ap length c.ranks-ranks.ensures.ranks)

pub fold_run-requires : goal.fold_run-requires
fold_run-requires g c =
    let ranks = c.ranks-ranks.result.now in
    let runs = g.C.ValueRuns.runs c.args.column.now in
    let run = get_or runs c.runs.q [] in
    let at = c.runs.at in
    let end = at + c.measure_run-len.result.len in
    let low : c.runs.q < length runs = omega (arith, c.runs-test.true, c.run_count-q-end.ensures) in
    let inside = run_inside runs c.runs.q at run low refl c.runs.invariant.at in
    let many = ap length c.ranks-ranks.ensures.ranks in
    let part = length-take-le (end - at) (drop at ranks) (omega (arith, length-drop at ranks, inside, c.measure_run-len.ensures.long, c.requires, many)) in
    let front = length-take-le at ranks (omega (arith, inside, c.requires, many)) in
    let all : All (λ r. r < length c.runs.folds.items) ranks = λ k d h. let one = rw (sym c.ranks-ranks.ensures.ranks) at c.times.ensures.counted.inside k d h in omega (arith, one, c.times.ensures.count, c.runs.invariant.count) in
    record {
      few = omega (arith, part, c.measure_run-len.ensures.long, c.measure_run-len.ensures.few);
      inside = All-take (λ r. r < length c.runs.folds.items) (end - at) (drop at ranks) (All-drop (λ r. r < length c.runs.folds.items) at ranks all);
      tells = (
        take at ranks,
        values_in (take c.runs.q runs),
        run,
        omega (arith, front, c.runs.invariant.at),
        omega (arith, front, part, inside, many, c.requires, c.times.ensures.counted.few, c.measure_run-len.ensures.long),
        subst (λ m. IsMeasured (pos 0) run m c.measure_run-len.result.present c.measure_run-len.new.out) (omega (arith, part)) c.measure_run-len.ensures,
        c.runs.invariant.tells,
      );
    }

pub runs-preserved : goal.runs-preserved
runs-preserved g c =
    let ranks = c.ranks-ranks.result.now in
    let runs = g.C.ValueRuns.runs c.args.column.now in
    let run = get_or runs c.runs.q [] in
    let at = c.runs.at in
    let n = c.measure_run-len.result.len in
    let end = at + n in
    let low : c.runs.q < length runs = omega (arith, c.runs-test.true, c.run_count-q-end.ensures) in
    let inside = run_inside runs c.runs.q at run low refl c.runs.invariant.at in
    let many = ap length c.ranks-ranks.ensures.ranks in
    let long : n ≡ length run = c.measure_run-len.ensures.long in
    let part = length-take-le (end - at) (drop at ranks) (omega (arith, length-drop at ranks, inside, long, c.requires, many)) in
    let front = length-take-le at ranks (omega (arith, inside, c.requires, many)) in
    let size : end - at ≡ n = omega arith in
    let measured = subst (λ m. IsMeasured (pos 0) run m c.measure_run-len.result.present c.measure_run-len.new.out) (omega (arith, part)) c.measure_run-len.ensures in
    let told = c.fold_run.ensures.tells (take at ranks) (values_in (take c.runs.q runs)) run (omega (arith, front, c.runs.invariant.at)) (omega (arith, front, part, inside, many, c.requires, c.times.ensures.counted.few, long)) measured c.runs.invariant.tells in
    let rows : take at ranks ++ take (end - at) (drop at ranks) ≡ take end ranks = ap (λ m. take at ranks ++ take m (drop at ranks)) size ∙ take_parts at n ranks in
    let values : values_in (take c.runs.q runs) ++ run ≡ values_in (take (c.runs.q + 1) runs) = sym (runs_more runs c.runs.q low) in
    record {
      count = c.fold_run.ensures.count ∙ c.runs.invariant.count;
      at = ap (λ m. at + m) long ∙ runs_reach runs c.runs.q at run low refl c.runs.invariant.at;
      tells = subst (λ xs. AreFolds g.F.Fold.tells xs (values_in (take (c.runs.q + 1) runs)) c.fold_run.new.folds.items) rows
          (subst (λ ys. AreFolds g.F.Fold.tells (take at ranks ++ take (end - at) (drop at ranks)) ys c.fold_run.new.folds.items) values told);
    }

pub returns-clause-tells : goal.returns-clause-tells
returns-clause-tells g c =
    let ranks = c.ranks-ranks.result.now in
    let runs = g.C.ValueRuns.runs c.args.column.now in
    let folds = c.runs.folds.items in
    let all = runs_all runs c.runs.q (omega (arith, c.runs-test.false, c.run_count-q-end.ensures)) in
    let most : length ranks ≤ c.runs.at = omega (arith, c.runs.invariant.at, ap length all, c.requires, ap length c.ranks-ranks.ensures.ranks) in
    subst (λ xs. AreFolds g.F.Fold.tells xs (values_in runs) folds) (take_all c.runs.at ranks most ∙ c.ranks-ranks.ensures.ranks)
    (subst (λ ys. AreFolds g.F.Fold.tells (take c.runs.at ranks) ys folds) all c.runs.invariant.tells)
