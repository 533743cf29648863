use Rattle.std.proofs.Common.{All, None, ap, arith, drop, get_or, is_some, length, length-take-le, take, ℕ, ◌++◌, ◌+◌, ◌≡◌, ◌≤◌, ◌∙◌}
use Rattle.bw_mask.specs.Masks.{bit_of}
use Rattle.bw_code.proofs.Lists.{part_over}
use Rattle.bw_column.specs.Codes.{codes_for}
use Rattle.bw_column.specs.Values.{IsNullOrHeld}
use Rattle.bw_column.proofs.Blocks.{are_row_codes, rows, rows_are_values}
use Rattle.bw_column.proofs.Held.{all_storable}
use Rattle.bw_column.proofs.Pieces.{all_here}
use Rattle.bw_column.proofs.Standing.{codes_moved, moves_inside, values_coded}
use Rattle.bw_column.proofs.column.Column.mapped.Goals as goal

pub map_codes-requires-clause-inside : goal.map_codes-requires-clause-inside
map_codes-requires-clause-inside c =
    let own = c.args.self.now.encoding in
    let values = c.args.self.now.values in
    let at = c.loop-at.at in
    let n = c.min-n.result in
    let inside : at + n ≤ length values = omega (arith, c.min-n.ensures, c.len-in-loop-at-2.ensures.count, c.loop-at.invariant.at) in
    let long : length (take n c.loop-at.list) ≡ n = length-take-le n c.loop-at.list (omega (arith, c.min-n.ensures, c.min-n.array_long)) in
    let run : c.read_codes-present.new.codes ≡ take n (drop at (codes_for own values)) = rw long at c.read_codes-present.ensures.codes in
    let bits : (i : ℕ) → bit_of c.read_codes-present.result i ≡ is_some (get_or (take n (drop at values)) i None) = rw long at c.read_codes-present.ensures.present in
    moves_inside own c.encoding-sound.ensures.sound values c.encoding-sound.ensures.coded at n c.read_codes-present.new.codes c.read_codes-present.result inside run bits c.args.encoding c.args.moves.now c.requires.moved

pub extend_rows-requires-clause-rows : goal.extend_rows-requires-clause-rows
extend_rows-requires-clause-rows c =
    let own = c.args.self.now.encoding in
    let values = c.args.self.now.values in
    let e = c.args.encoding in
    let at = c.loop-at.at in
    let n = c.min-n.result in
    let inside : at + n ≤ length values = omega (arith, c.min-n.ensures, c.len-in-loop-at-2.ensures.count, c.loop-at.invariant.at) in
    let long : length (take n c.loop-at.list) ≡ n = length-take-le n c.loop-at.list (omega (arith, c.min-n.ensures, c.min-n.array_long)) in
    let run : c.read_codes-present.new.codes ≡ take n (drop at (codes_for own values)) = rw long at c.read_codes-present.ensures.codes in
    let bits : (i : ℕ) → bit_of c.read_codes-present.result i ≡ is_some (get_or (take n (drop at values)) i None) = rw long at c.read_codes-present.ensures.present in
    let sound = c.encoding-sound.ensures.sound in
    let coded = c.encoding-sound.ensures.coded in
    let codes = codes_moved own sound values coded at n c.read_codes-present.new.codes c.read_codes-present.result inside run bits e c.args.moves.now c.requires.moved c.map_codes.new.codes c.map_codes.ensures.count c.map_codes.ensures.each in
    let here_coded = values_coded own sound values coded at n c.read_codes-present.new.codes c.read_codes-present.result inside run bits e c.args.moves.now c.requires.moved c.width-other_sound.ensures.sound in
    let l = c.args.layout in
    let here = take n (drop at values) in
    rw c.loop-at.invariant.encoding (are_row_codes e c.width-other_sound.ensures.sound here c.map_codes.new.codes c.read_codes-present.result here_coded (all_storable l here (all_here (IsNullOrHeld l) values at n c.requires.held)) codes bits)

pub extend_rows-requires-clause-held : goal.extend_rows-requires-clause-held
extend_rows-requires-clause-held c =
    let own = c.args.self.now.encoding in
    let values = c.args.self.now.values in
    let e = c.args.encoding in
    let at = c.loop-at.at in
    let n = c.min-n.result in
    let inside : at + n ≤ length values = omega (arith, c.min-n.ensures, c.len-in-loop-at-2.ensures.count, c.loop-at.invariant.at) in
    let long : length (take n c.loop-at.list) ≡ n = length-take-le n c.loop-at.list (omega (arith, c.min-n.ensures, c.min-n.array_long)) in
    let run : c.read_codes-present.new.codes ≡ take n (drop at (codes_for own values)) = rw long at c.read_codes-present.ensures.codes in
    let bits : (i : ℕ) → bit_of c.read_codes-present.result i ≡ is_some (get_or (take n (drop at values)) i None) = rw long at c.read_codes-present.ensures.present in
    let sound = c.encoding-sound.ensures.sound in
    let coded = c.encoding-sound.ensures.coded in
    let codes = codes_moved own sound values coded at n c.read_codes-present.new.codes c.read_codes-present.result inside run bits e c.args.moves.now c.requires.moved c.map_codes.new.codes c.map_codes.ensures.count c.map_codes.ensures.each in
    let here_coded = values_coded own sound values coded at n c.read_codes-present.new.codes c.read_codes-present.result inside run bits e c.args.moves.now c.requires.moved c.width-other_sound.ensures.sound in
    let l = c.args.layout in
    let here = take n (drop at values) in
    let here_held : All (IsNullOrHeld l) here = all_here (IsNullOrHeld l) values at n c.requires.held in
    let is = rows_are_values e c.width-other_sound.ensures.sound here c.map_codes.new.codes c.read_codes-present.result here_coded (all_storable l here here_held) codes bits in
    let held : All (IsNullOrHeld l) (rows e c.map_codes.new.codes c.read_codes-present.result) = rw is here_held in
    rw (c.loop-at.invariant.encoding, c.loop-at.invariant.layout) held

pub loop-at-preserved : goal.loop-at-preserved
loop-at-preserved c =
    let own = c.args.self.now.encoding in
    let values = c.args.self.now.values in
    let e = c.args.encoding in
    let at = c.loop-at.at in
    let n = c.min-n.result in
    let i = c.loop-at.invariant in
    let inside : at + n ≤ length values = omega (arith, c.min-n.ensures, c.len-in-loop-at-2.ensures.count, i.at) in
    let long : length (take n c.loop-at.list) ≡ n = length-take-le n c.loop-at.list (omega (arith, c.min-n.ensures, c.min-n.array_long)) in
    let run : c.read_codes-present.new.codes ≡ take n (drop at (codes_for own values)) = rw long at c.read_codes-present.ensures.codes in
    let bits : (i : ℕ) → bit_of c.read_codes-present.result i ≡ is_some (get_or (take n (drop at values)) i None) = rw long at c.read_codes-present.ensures.present in
    let sound = c.encoding-sound.ensures.sound in
    let coded = c.encoding-sound.ensures.coded in
    let codes = codes_moved own sound values coded at n c.read_codes-present.new.codes c.read_codes-present.result inside run bits e c.args.moves.now c.requires.moved c.map_codes.new.codes c.map_codes.ensures.count c.map_codes.ensures.each in
    let here_coded = values_coded own sound values coded at n c.read_codes-present.new.codes c.read_codes-present.result inside run bits e c.args.moves.now c.requires.moved c.width-other_sound.ensures.sound in
    let l = c.args.layout in
    let here = take n (drop at values) in
    let here_held : All (IsNullOrHeld l) here = all_here (IsNullOrHeld l) values at n c.requires.held in
    let is = rows_are_values e c.width-other_sound.ensures.sound here c.map_codes.new.codes c.read_codes-present.result here_coded (all_storable l here here_held) codes bits in
    let added : rows c.loop-at.column.encoding c.map_codes.new.codes c.read_codes-present.result ≡ here = rw i.encoding is in
    record {
      at = inside;
      values = ap (λ xs. xs ++ drop (at + n) values) (c.extend_rows.ensures.values ∙ ap (λ xs. c.loop-at.column.values ++ xs) added) ∙ part_over values c.loop-at.column.values values at n i.values;
      layout = c.extend_rows.ensures.layout ∙ i.layout;
      encoding = c.extend_rows.ensures.encoding ∙ i.encoding;
      room = omega (arith, c.extend_rows.ensures.room, i.room);
    }
