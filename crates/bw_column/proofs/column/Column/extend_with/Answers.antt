use Rattle.std.proofs.Common.{ap, arith, drop, get_or, is_some, length, length-drop, length-take, length-take-le, None, take, ℕ, ◌++◌, ◌+◌, ◌-◌, ◌∙◌, ◌≡◌, ◌≤◌}
use Rattle.std.proofs.lemmas.List.{length-map}
use Rattle.bw_mask.specs.Masks.{bit_of}
use Rattle.bw_code.proofs.Lists.{part_fits, part_over}
use Rattle.bw_column.specs.Codes.{code_for, codes_for}
use Rattle.bw_column.proofs.Blocks.{rows}
use Rattle.bw_column.proofs.Coded.{coded_run}
use Rattle.bw_column.proofs.column.Column.extend_with.Goals as goal

pub extend_rows-requires-clause-rows : goal.extend_rows-requires-clause-rows
extend_rows-requires-clause-rows g c =
    let i = c.loop-at.invariant in
    let cells = g.C.Cells.cells c.args.cells.now in
    let l = c.args.self.now.layout in
    let e = c.args.self.now.encoding in
    let at = c.loop-at.at in
    let n = c.min-n.result in
    let inside : at + n ≤ length cells = omega (arith, c.min-n.ensures, c.len-in-loop-at.ensures, i.at) in
    let long : length (take n c.loop-at.list) ≡ n = length-take-le n c.loop-at.list (omega (arith, c.min-n.ensures, c.min-n.array_long)) in
    let bits : (i : ℕ) → bit_of c.distances-present.result i ≡ is_some (get_or (take n (drop at cells)) i None) = rw long at c.distances-present.ensures.present in
    let as_many : at + n - at ≡ n = omega arith in
    let codes = take (at + n - at) (drop at c.args.codes.now) in
    let part : codes ≡ take n (drop at (codes_for e cells)) = ap (λ m. take m (drop at c.args.codes.now)) as_many ∙ ap (λ xs. take n (drop at xs)) c.requires.codes in
    let here = coded_run l e c.encoding-sound.ensures.sound cells codes c.distances-present.result at n c.requires.coded c.requires.held part bits in
    rw i.encoding here.each

pub extend_rows-requires-clause-held : goal.extend_rows-requires-clause-held
extend_rows-requires-clause-held g c =
    let i = c.loop-at.invariant in
    let cells = g.C.Cells.cells c.args.cells.now in
    let l = c.args.self.now.layout in
    let e = c.args.self.now.encoding in
    let at = c.loop-at.at in
    let n = c.min-n.result in
    let inside : at + n ≤ length cells = omega (arith, c.min-n.ensures, c.len-in-loop-at.ensures, i.at) in
    let long : length (take n c.loop-at.list) ≡ n = length-take-le n c.loop-at.list (omega (arith, c.min-n.ensures, c.min-n.array_long)) in
    let bits : (i : ℕ) → bit_of c.distances-present.result i ≡ is_some (get_or (take n (drop at cells)) i None) = rw long at c.distances-present.ensures.present in
    let as_many : at + n - at ≡ n = omega arith in
    let codes = take (at + n - at) (drop at c.args.codes.now) in
    let part : codes ≡ take n (drop at (codes_for e cells)) = ap (λ m. take m (drop at c.args.codes.now)) as_many ∙ ap (λ xs. take n (drop at xs)) c.requires.codes in
    let here = coded_run l e c.encoding-sound.ensures.sound cells codes c.distances-present.result at n c.requires.coded c.requires.held part bits in
    rw (i.encoding, i.layout) here.held

pub extend_rows-requires-clause-room : goal.extend_rows-requires-clause-room
extend_rows-requires-clause-room g c =
    let i = c.loop-at.invariant in
    let cells = g.C.Cells.cells c.args.cells.now in
    let l = c.args.self.now.layout in
    let e = c.args.self.now.encoding in
    let at = c.loop-at.at in
    let n = c.min-n.result in
    let inside : at + n ≤ length cells = omega (arith, c.min-n.ensures, c.len-in-loop-at.ensures, i.at) in
    let long : length (take n c.loop-at.list) ≡ n = length-take-le n c.loop-at.list (omega (arith, c.min-n.ensures, c.min-n.array_long)) in
    let bits : (i : ℕ) → bit_of c.distances-present.result i ≡ is_some (get_or (take n (drop at cells)) i None) = rw long at c.distances-present.ensures.present in
    let as_many : at + n - at ≡ n = omega arith in
    let codes = take (at + n - at) (drop at c.args.codes.now) in
    let part : codes ≡ take n (drop at (codes_for e cells)) = ap (λ m. take m (drop at c.args.codes.now)) as_many ∙ ap (λ xs. take n (drop at xs)) c.requires.codes in
    let here = coded_run l e c.encoding-sound.ensures.sound cells codes c.distances-present.result at n c.requires.coded c.requires.held part bits in
    let many : length codes ≡ n = ap length part ∙ omega (arith, inside, length-take n (drop at (codes_for e cells)), length-drop at (codes_for e cells), length-map cells (code_for e)) in
    omega (arith, many, part_fits c.loop-at.self.values (drop at cells) c.args.self.now.values cells n i.values, length-take-le n (drop at cells) (omega (arith, inside, length-drop at cells)), c.requires.room, i.room)

pub extend_rows-requires-clause-few : goal.extend_rows-requires-clause-few
extend_rows-requires-clause-few g c =
    let i = c.loop-at.invariant in
    let cells = g.C.Cells.cells c.args.cells.now in
    let l = c.args.self.now.layout in
    let e = c.args.self.now.encoding in
    let at = c.loop-at.at in
    let n = c.min-n.result in
    let inside : at + n ≤ length cells = omega (arith, c.min-n.ensures, c.len-in-loop-at.ensures, i.at) in
    let long : length (take n c.loop-at.list) ≡ n = length-take-le n c.loop-at.list (omega (arith, c.min-n.ensures, c.min-n.array_long)) in
    let bits : (i : ℕ) → bit_of c.distances-present.result i ≡ is_some (get_or (take n (drop at cells)) i None) = rw long at c.distances-present.ensures.present in
    let as_many : at + n - at ≡ n = omega arith in
    let codes = take (at + n - at) (drop at c.args.codes.now) in
    let part : codes ≡ take n (drop at (codes_for e cells)) = ap (λ m. take m (drop at c.args.codes.now)) as_many ∙ ap (λ xs. take n (drop at xs)) c.requires.codes in
    let here = coded_run l e c.encoding-sound.ensures.sound cells codes c.distances-present.result at n c.requires.coded c.requires.held part bits in
    let many : length codes ≡ n = ap length part ∙ omega (arith, inside, length-take n (drop at (codes_for e cells)), length-drop at (codes_for e cells), length-map cells (code_for e)) in
    omega (arith, many, part_fits c.loop-at.self.values (drop at cells) c.args.self.now.values cells n i.values, length-take-le n (drop at cells) (omega (arith, inside, length-drop at cells)), c.requires.few)

pub loop-at-preserved : goal.loop-at-preserved
loop-at-preserved g c =
    let i = c.loop-at.invariant in
    let cells = g.C.Cells.cells c.args.cells.now in
    let l = c.args.self.now.layout in
    let e = c.args.self.now.encoding in
    let at = c.loop-at.at in
    let n = c.min-n.result in
    let inside : at + n ≤ length cells = omega (arith, c.min-n.ensures, c.len-in-loop-at.ensures, i.at) in
    let long : length (take n c.loop-at.list) ≡ n = length-take-le n c.loop-at.list (omega (arith, c.min-n.ensures, c.min-n.array_long)) in
    let bits : (i : ℕ) → bit_of c.distances-present.result i ≡ is_some (get_or (take n (drop at cells)) i None) = rw long at c.distances-present.ensures.present in
    let as_many : at + n - at ≡ n = omega arith in
    let codes = take (at + n - at) (drop at c.args.codes.now) in
    let part : codes ≡ take n (drop at (codes_for e cells)) = ap (λ m. take m (drop at c.args.codes.now)) as_many ∙ ap (λ xs. take n (drop at xs)) c.requires.codes in
    let here = coded_run l e c.encoding-sound.ensures.sound cells codes c.distances-present.result at n c.requires.coded c.requires.held part bits in
    let added : rows c.loop-at.self.encoding codes c.distances-present.result ≡ take n (drop at cells) = rw i.encoding here.are in
    record {
      at = inside;
      values =
          ap (λ xs. xs ++ drop (at + n) cells) (c.extend_rows.ensures.values ∙ ap (λ ys. c.loop-at.self.values ++ ys) added)
          ∙ part_over (c.args.self.now.values ++ cells) c.loop-at.self.values cells at n i.values;
      room = omega (arith, c.extend_rows.ensures.room, i.room);
      layout = c.extend_rows.ensures.layout ∙ i.layout;
      encoding = c.extend_rows.ensures.encoding ∙ i.encoding;
    }
