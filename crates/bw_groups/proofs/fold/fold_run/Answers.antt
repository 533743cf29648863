use Rattle.std.proofs.Common.{ap, append-nil, arith, get_or, inl, inr, length, length-set, of_z, pos, refl, subst, sym, take, to_z, w64, ◌++◌, ◌<◌, ◌∙◌, ◌≡◌}
use Rattle.std.proofs.lemmas.Bool.{cases_Bool}
use Rattle.std.proofs.lemmas.Int.{ints, to_z-of_z}
use Rattle.std.proofs.lemmas.List.{take_all}
use Rattle.bw_cells.specs.Distances.{distance_from}
use Rattle.bw_cells.specs.SetFunctions.{known}
use Rattle.bw_groups.specs.Folding.{AreFolds}
use Rattle.bw_groups.specs.Grouping.{members}
use Rattle.bw_groups.proofs.Measured.{measured_none, measured_some}
use Rattle.bw_groups.proofs.Runs.{take_none}
use Rattle.bw_groups.proofs.Telling.{after_same, after_value, few}
use Rattle.bw_groups.proofs.fold.fold_run.Goals as goal

pub rows-init : goal.rows-init
rows-init g c = record {
  count = refl;
  tells = λ rows values run_values long room measured are.
      rw (take_none c.args.ranks.now, take_none run_values, append-nil rows, append-nil values) are;
}

pub with-requires-clause-few : goal.with-requires-clause-few
with-requires-clause-few g c =
    let ranks = c.args.ranks.now in
    let i = c.rows.i in
    let q = get_or ranks i 0 in
    let given = c.requires.tells in
    let rows = given.0 in
    let values = given.1 in
    let run = given.2 in
    let long = given.3 in
    let room = given.4 in
    let measured = given.5 in
    let inside : q < length c.args.folds.now.items = c.requires.inside i 0 c.rows-test.true in
    let low : q < length c.rows.folds.items = omega (arith, inside, c.rows.invariant.count) in
    let told = c.rows.invariant.tells rows values run long room measured given.6 in
    let most = few rows ranks values run long (sym measured.long) i c.rows-test.true q in
    let before = known (members (rows ++ take i ranks) (values ++ take i run) q) in
    (before, omega (arith, most, room, c.rows-test.true), subst (λ f. g.F.Fold.tells f before) (sym c.index.ensures) (told q c.index.result.now low))

pub with-requires-clause-null : goal.with-requires-clause-null
with-requires-clause-null g c out =
    let i = c.rows.i in
    let given = c.requires.tells in
    let run = given.2 in
    let measured = given.5 in
    let here : i < length run = omega (arith, measured.long, c.rows-test.true) in
    let none = measured_none run (length c.args.ranks.now) c.args.present c.args.run.now measured i here (sym c.has_bit.ensures ∙ out) in
    let zero : get_or c.args.run.now i 0 ≡ 0 = measured.far i here ∙ ap (distance_from (pos 0)) none in
    let back : to_z w64 (of_z w64 c.cast_signed.result) ≡ c.cast_signed.result = search (arith, ints, to_z-of_z) in
    rw (back, c.cast_signed.ensures, zero) refl

pub rows-preserved : goal.rows-preserved
rows-preserved g c =
    let ranks = c.args.ranks.now in
    let i = c.rows.i in
    let q = get_or ranks i 0 in
    let number = get_or c.args.run.now i 0 in
    let inside : q < length c.args.folds.now.items = c.requires.inside i 0 c.rows-test.true in
    let low : q < length c.rows.folds.items = omega (arith, inside, c.rows.invariant.count) in
    record {
      count = length-set c.rows.folds.items q c.with.result ∙ c.rows.invariant.count;
      tells = λ rows values run long room measured are.
          let told = c.rows.invariant.tells rows values run long room measured are in
          let here : i < length run = omega (arith, measured.long, c.rows-test.true) in
          let most = few rows ranks values run long (sym measured.long) i c.rows-test.true q in
          let before = known (members (rows ++ take i ranks) (values ++ take i run) q) in
          let new = c.with.ensures before (omega (arith, most, room, c.rows-test.true)) (subst (λ f. g.F.Fold.tells f before) (sym c.index.ensures) (told q c.index.result.now low)) in
          elim (cases_Bool c.has_bit.result) [
            | inl t ↦
                let is = measured_some run (length ranks) c.args.present c.args.run.now measured i here (sym c.has_bit.ensures ∙ t) in
                let back : to_z w64 (of_z w64 c.cast_signed.result) ≡ c.cast_signed.result = search (arith, ints, to_z-of_z) in
                let one = rw (t, back, c.cast_signed.ensures) at new in
                after_value rows ranks values run long (sym measured.long) i c.rows-test.true g.F.Fold.tells c.rows.folds.items told (to_z w64 number) c.with.result is one
            | inr f ↦
                let is = measured_none run (length ranks) c.args.present c.args.run.now measured i here (sym c.has_bit.ensures ∙ f) in
                let none = rw (f, append-nil before) at new in
                after_same rows ranks values run long (sym measured.long) i c.rows-test.true g.F.Fold.tells c.rows.folds.items told c.with.result is none
          ];
    }

pub returns-clause-tells : goal.returns-clause-tells
returns-clause-tells g c = λ rows values run long room measured are.
    let all = take_all c.rows.i c.args.ranks.now (omega (arith, c.rows-test.false)) in
    let whole = take_all c.rows.i run (omega (arith, c.rows-test.false, measured.long)) in
    subst (λ xs. AreFolds g.F.Fold.tells (rows ++ xs) (values ++ run) c.rows.folds.items) all
    (subst (λ ys. AreFolds g.F.Fold.tells (rows ++ take c.rows.i c.args.ranks.now) (values ++ ys) c.rows.folds.items) whole
    (c.rows.invariant.tells rows values run long room measured are))
