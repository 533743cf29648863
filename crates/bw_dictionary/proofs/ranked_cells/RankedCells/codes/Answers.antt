use Rattle.std.proofs.Common.{List, None, Option, ap, arith, drop, get_or, is_some, length, length-drop, length-take, length-take-le, map, sym, take, ℕ, ℤ, ◌++◌, ◌+◌, ◌∙◌, ◌≡◌, ◌≤◌}
use Rattle.std.proofs.Math.Seq.{take-add}
use Rattle.std.proofs.lemmas.List.{length-map, map-append}
use Rattle.bw_mask.specs.Masks.{bit_of}
use Rattle.bw_dictionary.specs.Moving.{moved_place}
use Rattle.bw_dictionary.proofs.Moved.{moved, moves_inside}
use Rattle.bw_dictionary.proofs.ranked_cells.RankedCells.codes.Goals as goal

-- the run of places, which are as many as the distances that lay there before
part : (places : List ℕ) (cells : List (Option ℤ)) (before run : List ℕ) (m at n : ℕ) (f : Option ℤ → ℕ) → before ≡ map f (take m (drop at cells)) → run ≡ take (length before) (drop at places) → m ≡ n → at + n ≤ length cells → run ≡ take n (drop at places)
part places cells before run m at n f are is same inside =
    let long : length before ≡ n = ap length are ∙ length-map (take m (drop at cells)) f ∙ omega (arith, same, inside, length-take m (drop at cells), length-drop at cells) in
    is ∙ ap (λ k. take k (drop at places)) long

pub move_codes-requires-clause-inside : goal.move_codes-requires-clause-inside
move_codes-requires-clause-inside g c =
    let cells = g.C.Cells.cells c.args.cells.now in
    let ranked = c.args.self.now in
    let at = c.loop-at.at in
    let n = c.min-n.result in
    let inside : at + n ≤ length cells = omega (arith, c.min-n.ensures, c.len-in-loop-at.ensures, c.loop-at.invariant.at) in
    let long : length (take n c.loop-at.list) ≡ n = length-take-le n c.loop-at.list (omega (arith, c.min-n.ensures, c.min-n.array_long)) in
    let run = part ranked.places.items cells c.distances-present.new.out c.read_codes.new.codes (length (take n c.loop-at.list)) at n _ c.distances-present.ensures.distances c.read_codes.ensures long inside in
    let bits : (i : ℕ) → bit_of c.distances-present.result i ≡ is_some (get_or (take n (drop at cells)) i None) = rw long at c.distances-present.ensures.present in
    moves_inside cells ranked.entries.items c.args.table.now ranked.places.items c.requires.ranked.entries c.requires.ranked.places c.requires.table at n c.read_codes.new.codes c.distances-present.result inside run bits

pub loop-at-preserved : goal.loop-at-preserved
loop-at-preserved g c =
    let cells = g.C.Cells.cells c.args.cells.now in
    let ranked = c.args.self.now in
    let table = c.args.table.now in
    let at = c.loop-at.at in
    let n = c.min-n.result in
    let inside : at + n ≤ length cells = omega (arith, c.min-n.ensures, c.len-in-loop-at.ensures, c.loop-at.invariant.at) in
    let long : length (take n c.loop-at.list) ≡ n = length-take-le n c.loop-at.list (omega (arith, c.min-n.ensures, c.min-n.array_long)) in
    let run = part ranked.places.items cells c.distances-present.new.out c.read_codes.new.codes (length (take n c.loop-at.list)) at n _ c.distances-present.ensures.distances c.read_codes.ensures long inside in
    let bits : (i : ℕ) → bit_of c.distances-present.result i ≡ is_some (get_or (take n (drop at cells)) i None) = rw long at c.distances-present.ensures.present in
    let here = moved cells ranked.entries.items table ranked.places.items c.requires.ranked.entries c.requires.ranked.places c.requires.table at n c.read_codes.new.codes c.distances-present.result inside run bits c.move_codes.new.codes c.move_codes.ensures.count c.move_codes.ensures.each in
    let f = moved_place table ranked.entries.items in
    record {
      at = inside;
      codes =
          c.in_ok-extend_from_slice.ensures.items
          ∙ ap (λ xs. c.loop-at.codes.items ++ xs) here
          ∙ ap (λ xs. xs ++ map f (take n (drop at cells))) c.loop-at.invariant.codes
          ∙ sym (map-append f (take at cells) (take n (drop at cells)))
          ∙ ap (map f) (sym (take-add at n cells));
    }
