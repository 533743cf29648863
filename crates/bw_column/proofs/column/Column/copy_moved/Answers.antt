use Rattle.std.proofs.Common.{None, ap, arith, drop, get_or, is_some, length, length-take, replicate, take, ℕ, ◌∙◌, ◌≡◌, ◌≤◌}
use Rattle.std.specs.List.{All}
use Rattle.std.proofs.lemmas.List.{length-replicate}
use Rattle.bw_mask.specs.Masks.{bit_of}
use Rattle.bw_column.specs.Codes.{codes_for}
use Rattle.bw_column.specs.Places.{put_values}
use Rattle.bw_column.specs.Values.{IsNullOrHeld}
use Rattle.bw_column.proofs.Held.{all_storable}
use Rattle.bw_column.proofs.Pieces.{all_here}
use Rattle.bw_column.proofs.Standing.{moved_rows, moves_inside}
use Rattle.bw_column.proofs.column.Column.copy_moved.Goals as goal

-- how many codes there is room for
long : (n : ℕ) → n ≤ 64 → length (take n (replicate {A = ℕ} 64 0)) ≡ n
long n few = omega (arith, few, length-take n (replicate {A = ℕ} 64 0), length-replicate {A = ℕ} 64 0)

pub move_codes-requires-clause-inside : goal.move_codes-requires-clause-inside
move_codes-requires-clause-inside c =
    let e = c.args.copy.now.encoding in
    let cells = c.args.copy.now.values in
    let at = c.args.at in
    let n = c.args.n in
    let run : c.read_codes-present.new.codes ≡ take n (drop at (codes_for e cells)) = c.read_codes-present.ensures.codes ∙ ap (λ k. take k (drop at (codes_for e cells))) (long n c.requires.few) in
    let there : (i : ℕ) → bit_of c.read_codes-present.result i ≡ is_some (get_or (take n (drop at cells)) i None) = λ i. c.read_codes-present.ensures.present i ∙ ap (λ k. is_some (get_or (take k (drop at cells)) i None)) (long n c.requires.few) in
    moves_inside e c.encoding-sound.ensures.sound cells c.encoding-sound.ensures.coded at n c.read_codes-present.new.codes c.read_codes-present.result c.requires.copied run there c.args.self.now.encoding c.args.moves.now c.requires.moved

pub put_coded-requires-clause-few : goal.put_coded-requires-clause-few
put_coded-requires-clause-few c =
    let e = c.args.copy.now.encoding in
    let cells = c.args.copy.now.values in
    let at = c.args.at in
    let n = c.args.n in
    let run : c.read_codes-present.new.codes ≡ take n (drop at (codes_for e cells)) = c.read_codes-present.ensures.codes ∙ ap (λ k. take k (drop at (codes_for e cells))) (long n c.requires.few) in
    let there : (i : ℕ) → bit_of c.read_codes-present.result i ≡ is_some (get_or (take n (drop at cells)) i None) = λ i. c.read_codes-present.ensures.present i ∙ ap (λ k. is_some (get_or (take k (drop at cells)) i None)) (long n c.requires.few) in
    let here : All (IsNullOrHeld c.args.self.now.layout) (take n (drop at cells)) = all_here (IsNullOrHeld c.args.self.now.layout) cells at n c.requires.held in
    let rows = moved_rows e c.encoding-sound.ensures.sound cells c.encoding-sound.ensures.coded at n c.read_codes-present.new.codes c.read_codes-present.result c.requires.copied run there c.args.self.now.encoding c.args.moves.now c.requires.moved c.encoding-own.ensures.sound (all_storable c.args.self.now.layout (take n (drop at cells)) here) c.move_codes.new.codes c.move_codes.ensures.count c.move_codes.ensures.each in
    omega (arith, rows.0, c.requires.few)

pub put_coded-requires-clause-there : goal.put_coded-requires-clause-there
put_coded-requires-clause-there c =
    let e = c.args.copy.now.encoding in
    let cells = c.args.copy.now.values in
    let at = c.args.at in
    let n = c.args.n in
    let run : c.read_codes-present.new.codes ≡ take n (drop at (codes_for e cells)) = c.read_codes-present.ensures.codes ∙ ap (λ k. take k (drop at (codes_for e cells))) (long n c.requires.few) in
    let there : (i : ℕ) → bit_of c.read_codes-present.result i ≡ is_some (get_or (take n (drop at cells)) i None) = λ i. c.read_codes-present.ensures.present i ∙ ap (λ k. is_some (get_or (take k (drop at cells)) i None)) (long n c.requires.few) in
    let here : All (IsNullOrHeld c.args.self.now.layout) (take n (drop at cells)) = all_here (IsNullOrHeld c.args.self.now.layout) cells at n c.requires.held in
    let rows = moved_rows e c.encoding-sound.ensures.sound cells c.encoding-sound.ensures.coded at n c.read_codes-present.new.codes c.read_codes-present.result c.requires.copied run there c.args.self.now.encoding c.args.moves.now c.requires.moved c.encoding-own.ensures.sound (all_storable c.args.self.now.layout (take n (drop at cells)) here) c.move_codes.new.codes c.move_codes.ensures.count c.move_codes.ensures.each in
    omega (arith, rows.0, c.requires.there)

pub put_coded-requires-clause-given : goal.put_coded-requires-clause-given
put_coded-requires-clause-given c i h =
    let e = c.args.copy.now.encoding in
    let cells = c.args.copy.now.values in
    let at = c.args.at in
    let n = c.args.n in
    let run : c.read_codes-present.new.codes ≡ take n (drop at (codes_for e cells)) = c.read_codes-present.ensures.codes ∙ ap (λ k. take k (drop at (codes_for e cells))) (long n c.requires.few) in
    let there : (i : ℕ) → bit_of c.read_codes-present.result i ≡ is_some (get_or (take n (drop at cells)) i None) = λ i. c.read_codes-present.ensures.present i ∙ ap (λ k. is_some (get_or (take k (drop at cells)) i None)) (long n c.requires.few) in
    let here : All (IsNullOrHeld c.args.self.now.layout) (take n (drop at cells)) = all_here (IsNullOrHeld c.args.self.now.layout) cells at n c.requires.held in
    let rows = moved_rows e c.encoding-sound.ensures.sound cells c.encoding-sound.ensures.coded at n c.read_codes-present.new.codes c.read_codes-present.result c.requires.copied run there c.args.self.now.encoding c.args.moves.now c.requires.moved c.encoding-own.ensures.sound (all_storable c.args.self.now.layout (take n (drop at cells)) here) c.move_codes.new.codes c.move_codes.ensures.count c.move_codes.ensures.each in
    c.requires.given i (omega (arith, h, rows.0))

pub put_coded-requires-clause-each : goal.put_coded-requires-clause-each
put_coded-requires-clause-each c =
    let e = c.args.copy.now.encoding in
    let cells = c.args.copy.now.values in
    let at = c.args.at in
    let n = c.args.n in
    let run : c.read_codes-present.new.codes ≡ take n (drop at (codes_for e cells)) = c.read_codes-present.ensures.codes ∙ ap (λ k. take k (drop at (codes_for e cells))) (long n c.requires.few) in
    let there : (i : ℕ) → bit_of c.read_codes-present.result i ≡ is_some (get_or (take n (drop at cells)) i None) = λ i. c.read_codes-present.ensures.present i ∙ ap (λ k. is_some (get_or (take k (drop at cells)) i None)) (long n c.requires.few) in
    let here : All (IsNullOrHeld c.args.self.now.layout) (take n (drop at cells)) = all_here (IsNullOrHeld c.args.self.now.layout) cells at n c.requires.held in
    let rows = moved_rows e c.encoding-sound.ensures.sound cells c.encoding-sound.ensures.coded at n c.read_codes-present.new.codes c.read_codes-present.result c.requires.copied run there c.args.self.now.encoding c.args.moves.now c.requires.moved c.encoding-own.ensures.sound (all_storable c.args.self.now.layout (take n (drop at cells)) here) c.move_codes.new.codes c.move_codes.ensures.count c.move_codes.ensures.each in
    rows.1

pub put_coded-requires-clause-held : goal.put_coded-requires-clause-held
put_coded-requires-clause-held c =
    let e = c.args.copy.now.encoding in
    let cells = c.args.copy.now.values in
    let at = c.args.at in
    let n = c.args.n in
    let run : c.read_codes-present.new.codes ≡ take n (drop at (codes_for e cells)) = c.read_codes-present.ensures.codes ∙ ap (λ k. take k (drop at (codes_for e cells))) (long n c.requires.few) in
    let there : (i : ℕ) → bit_of c.read_codes-present.result i ≡ is_some (get_or (take n (drop at cells)) i None) = λ i. c.read_codes-present.ensures.present i ∙ ap (λ k. is_some (get_or (take k (drop at cells)) i None)) (long n c.requires.few) in
    let here : All (IsNullOrHeld c.args.self.now.layout) (take n (drop at cells)) = all_here (IsNullOrHeld c.args.self.now.layout) cells at n c.requires.held in
    let rows = moved_rows e c.encoding-sound.ensures.sound cells c.encoding-sound.ensures.coded at n c.read_codes-present.new.codes c.read_codes-present.result c.requires.copied run there c.args.self.now.encoding c.args.moves.now c.requires.moved c.encoding-own.ensures.sound (all_storable c.args.self.now.layout (take n (drop at cells)) here) c.move_codes.new.codes c.move_codes.ensures.count c.move_codes.ensures.each in
    rw rows.2 here

pub returns-clause-values : goal.returns-clause-values
returns-clause-values c =
    let e = c.args.copy.now.encoding in
    let cells = c.args.copy.now.values in
    let at = c.args.at in
    let n = c.args.n in
    let run : c.read_codes-present.new.codes ≡ take n (drop at (codes_for e cells)) = c.read_codes-present.ensures.codes ∙ ap (λ k. take k (drop at (codes_for e cells))) (long n c.requires.few) in
    let there : (i : ℕ) → bit_of c.read_codes-present.result i ≡ is_some (get_or (take n (drop at cells)) i None) = λ i. c.read_codes-present.ensures.present i ∙ ap (λ k. is_some (get_or (take k (drop at cells)) i None)) (long n c.requires.few) in
    let here : All (IsNullOrHeld c.args.self.now.layout) (take n (drop at cells)) = all_here (IsNullOrHeld c.args.self.now.layout) cells at n c.requires.held in
    let rows = moved_rows e c.encoding-sound.ensures.sound cells c.encoding-sound.ensures.coded at n c.read_codes-present.new.codes c.read_codes-present.result c.requires.copied run there c.args.self.now.encoding c.args.moves.now c.requires.moved c.encoding-own.ensures.sound (all_storable c.args.self.now.layout (take n (drop at cells)) here) c.move_codes.new.codes c.move_codes.ensures.count c.move_codes.ensures.each in
    c.put_coded.ensures.values ∙ ap (put_values c.args.self.now.values at c.args.rows) rows.2
