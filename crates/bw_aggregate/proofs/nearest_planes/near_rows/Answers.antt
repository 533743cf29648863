use Rattle.std.proofs.Common.{ap, arith, ℕ, ◌*◌, ◌+◌, ◌-◌, ◌<◌, ◌^◌}
use Rattle.bw_mask.specs.Masks.{row_in}
use Rattle.bw_code.specs.Columns.{code_at}
use Rattle.bw_aggregate.specs.Ends.{is_near}
use Rattle.bw_aggregate.specs.declared.end.End.TheVariants.{Greatest, Least}
use Rattle.bw_aggregate.proofs.NearRows.{all_near, code_small, nearer_left}
use Rattle.bw_aggregate.proofs.nearest_planes.near_rows.Goals as goal

pub groups-init : goal.groups-init
groups-init c =
    let codes = c.args.codes.now in
    let code = λ (j : ℕ). code_at codes (256 * c.args.q + j) in
    record {
      least = all_near codes.width (row_in c.args.rows.now) code Least (2 ^ codes.width - 1);
      greatest = all_near codes.width (row_in c.args.rows.now) code Greatest (2 ^ codes.width - 1);
    }

pub planes-preserved : goal.planes-preserved
planes-preserved c =
    let codes = c.args.codes.now in
    let k = codes.width in
    let i = c.planes.i in
    let code = λ (j : ℕ). code_at codes (256 * c.args.q + j) in
    let within : i < k = omega (arith, c.planes-test.true, c.groups-test.true, c.requires.within) in
    let small = λ (j : ℕ). code_small k codes.codes c.requires.fit (256 * c.args.q + j) in
    let plane = row_in c.plane_at-plane.result.now in
    record {
      least = nearer_left k i (row_in c.args.rows.now) (row_in c.planes.least) (row_in c.nearer_rows-least.result) (λ j. is_near Least (plane j)) code Least within small
          (λ j h. ap (is_near Least) (c.plane_at-plane.ensures j h)) c.nearer_rows-least.ensures c.planes.invariant.least;
      greatest = nearer_left k i (row_in c.args.rows.now) (row_in c.planes.greatest) (row_in c.nearer_rows-greatest.result) (λ j. is_near Greatest (plane j)) code Greatest within small
          (λ j h. ap (is_near Greatest) (c.plane_at-plane.ensures j h)) c.nearer_rows-greatest.ensures c.planes.invariant.greatest;
    }
