use Rattle.std.proofs.Common.{ap, arith, drop, length, length-drop, length-take, length-take-le, map, of_z, sym, take, to_z, w64, ◌++◌, ◌+◌, ◌∙◌, ◌≡◌, ◌≤◌}
use Rattle.std.proofs.Math.Seq.{take-add, take-append_seam}
use Rattle.std.proofs.lemmas.List.{length-map, map-append}
use Rattle.bw_cells.specs.Distances.{distance_from}
use Rattle.bw_dictionary.proofs.ranked_cells.distances_of.Goals as goal

pub loop-at-preserved : goal.loop-at-preserved
loop-at-preserved g c =
    let cells = g.C.Cells.cells c.args.cells.now in
    let at = c.loop-at.at in
    let n = c.min-n.result in
    let i = c.loop-at.invariant in
    let base = to_z w64 (of_z w64 c.args.base) in
    let inside : at + n ≤ length cells = omega (arith, c.min-n.ensures, c.len-in-loop-at.ensures, i.at) in
    let here = take n (drop at cells) in
    let width : length (take n c.loop-at.run) ≡ n = length-take-le n c.loop-at.run (omega (arith, c.min-n.ensures, c.min-n.array_long)) in
    let made : c.distances.new.out ≡ map (distance_from base) here = c.distances.ensures.distances ∙ ap (λ k. map (distance_from base) (take k (drop at cells))) width in
    let long : length c.distances.new.out ≡ n = ap length made ∙ length-map here (distance_from base) ∙ omega (arith, length-take n (drop at cells), length-drop at cells, inside) in
    let front = ap (λ k. take k (c.distances.new.out ++ drop n c.loop-at.run)) (sym long) ∙ take-append_seam c.distances.new.out (drop n c.loop-at.run) ∙ made in
    record {
      at = inside;
      distances =
          c.in_ok-extend_from_slice.ensures.items
          ∙ ap (λ xs. c.loop-at.distances.items ++ xs) front
          ∙ ap (λ xs. xs ++ map (distance_from base) here) i.distances
          ∙ sym (map-append (distance_from base) (take at cells) here)
          ∙ ap (map (distance_from base)) (sym (take-add at n cells));
    }
