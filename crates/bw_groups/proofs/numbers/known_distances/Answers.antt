use Rattle.std.proofs.Common.{map, of_z, pos, to_z, w64, ◌+ℤ◌, ◌≡◌, ◌∙◌, ap, arith}
use Rattle.std.specs.Prelude.{filter_map, option_map, unsigned_abs, ◌-ℤ◌}
use Rattle.std.proofs.lemmas.Int.{ints, to_z-of_z}
use Rattle.std.proofs.lemmas.Result.{IfOk-weaker}
use Rattle.bw_cells.specs.SetFunctions.{known}
use Rattle.bw_groups.proofs.Distances.{known_again}
use Rattle.bw_groups.proofs.numbers.known_distances.Goals as goal

pub returns : goal.returns
returns c =
    let back : to_z w64 (of_z w64 c.args.ends.now.least) ≡ c.args.ends.now.least = search (arith, ints, to_z-of_z) in
    IfOk-weaker c.distances_from.result (λ distances. distances.items ≡ filter_map (λ value. option_map (λ x. unsigned_abs (x -ℤ to_z w64 (of_z w64 c.args.ends.now.least))) value) c.args.values.now)
    (λ distances. map (λ n. c.args.ends.now.least +ℤ pos n) distances.items ≡ known c.args.values.now)
    (λ distances h.
    ap (map (λ n. c.args.ends.now.least +ℤ pos n)) h
    ∙ ap (λ b. map (λ n. c.args.ends.now.least +ℤ pos n) (filter_map (λ value. option_map (λ x. unsigned_abs (x -ℤ b)) value) c.args.values.now)) back
    ∙ known_again c.args.ends.now.least c.args.values.now c.requires)
    c.distances_from.ensures
