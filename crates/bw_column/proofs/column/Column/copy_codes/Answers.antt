use Rattle.std.proofs.Common.{FitsSigned, ap, arith, drop, length, length-drop, length-take, map, replicate, rules, take, w64, ℕ, ◌∙◌, ◌≡◌, ◌≤◌}
use Rattle.std.specs.List.{All}
use Rattle.std.proofs.lemmas.Int.{to_z-of_z}
use Rattle.std.proofs.lemmas.List.{length-map, length-replicate}
use Rattle.bw_cells.specs.Distances.{distance_from}
use Rattle.bw_column.specs.Codes.{IsCoded}
use Rattle.bw_column.specs.Places.{put_values}
use Rattle.bw_column.specs.Values.{IsNullOrHeld}
use Rattle.bw_column.proofs.Bases.{measured_rows}
use Rattle.bw_column.proofs.Held.{all_storable}
use Rattle.bw_column.proofs.Pieces.{all_here}
use Rattle.bw_column.proofs.column.Column.copy_codes.Goals as goal

-- how many codes there is room for
long : (n : ℕ) → n ≤ 64 → length (take n (replicate {A = ℕ} 64 0)) ≡ n
long n few = omega (arith, few, length-take n (replicate {A = ℕ} 64 0), length-replicate {A = ℕ} 64 0)

many : (c : goal.After-put_coded-arg-1) → length c.distances-present.new.out ≡ c.args.n
many c =
    let n = c.args.n in
    let cells = c.args.copy.now.values in
    let m = length (take n (replicate {A = ℕ} 64 0)) in
    ap length c.distances-present.ensures.distances ∙ length-map (take m (drop c.args.at cells)) _ ∙ omega (arith, long n c.requires.few, length-take m (drop c.args.at cells), length-drop c.args.at cells, c.requires.copied)

pub put_coded-requires-clause-few : goal.put_coded-requires-clause-few
put_coded-requires-clause-few c = omega (arith, many c, c.requires.few)

pub put_coded-requires-clause-there : goal.put_coded-requires-clause-there
put_coded-requires-clause-there c = omega (arith, many c, c.requires.there)

pub put_coded-requires-clause-given : goal.put_coded-requires-clause-given
put_coded-requires-clause-given c i h = c.requires.given i (omega (arith, h, many c))

pub put_coded-requires-clause-each : goal.put_coded-requires-clause-each
put_coded-requires-clause-each c =
    let cells = c.args.copy.now.values in
    let m = length (take c.args.n (replicate {A = ℕ} 64 0)) in
    let e = c.args.self.now.encoding in
    let base = c.args.offset.base in
    let fits : FitsSigned w64 base = search rules in
    let distances : c.distances-present.new.out ≡ map (distance_from base) (take m (drop c.args.at cells)) = rw (to_z-of_z w64 base fits) at c.distances-present.ensures.distances in
    (measured_rows c.args.offset e (take m (drop c.args.at cells)) c.distances-present.new.out c.distances-present.result c.requires.encoding fits
    (all_here (IsCoded e) cells c.args.at m c.requires.coded) (all_storable c.args.self.now.layout (take m (drop c.args.at cells)) (all_here (IsNullOrHeld c.args.self.now.layout) cells c.args.at m c.requires.held)) distances c.distances-present.ensures.present).0

pub put_coded-requires-clause-held : goal.put_coded-requires-clause-held
put_coded-requires-clause-held c =
    let cells = c.args.copy.now.values in
    let m = length (take c.args.n (replicate {A = ℕ} 64 0)) in
    let e = c.args.self.now.encoding in
    let base = c.args.offset.base in
    let fits : FitsSigned w64 base = search rules in
    let distances : c.distances-present.new.out ≡ map (distance_from base) (take m (drop c.args.at cells)) = rw (to_z-of_z w64 base fits) at c.distances-present.ensures.distances in
    let here : All (IsNullOrHeld c.args.self.now.layout) (take m (drop c.args.at cells)) = all_here (IsNullOrHeld c.args.self.now.layout) cells c.args.at m c.requires.held in
    let rows =
    (measured_rows c.args.offset e (take m (drop c.args.at cells)) c.distances-present.new.out c.distances-present.result c.requires.encoding fits
    (all_here (IsCoded e) cells c.args.at m c.requires.coded) (all_storable c.args.self.now.layout (take m (drop c.args.at cells)) here) distances c.distances-present.ensures.present).1 in
    rw rows here

pub returns-clause-values : goal.returns-clause-values
returns-clause-values c =
    let cells = c.args.copy.now.values in
    let n = c.args.n in
    let at = c.args.at in
    let m = length (take n (replicate {A = ℕ} 64 0)) in
    let e = c.args.self.now.encoding in
    let base = c.args.offset.base in
    let fits : FitsSigned w64 base = search rules in
    let distances : c.distances-present.new.out ≡ map (distance_from base) (take m (drop at cells)) = rw (to_z-of_z w64 base fits) at c.distances-present.ensures.distances in
    let rows =
    (measured_rows c.args.offset e (take m (drop at cells)) c.distances-present.new.out c.distances-present.result c.requires.encoding fits
    (all_here (IsCoded e) cells at m c.requires.coded) (all_storable c.args.self.now.layout (take m (drop at cells)) (all_here (IsNullOrHeld c.args.self.now.layout) cells at m c.requires.held)) distances c.distances-present.ensures.present).1 in
    c.put_coded.ensures.values ∙ ap (put_values c.args.self.now.values at c.args.rows) (rows ∙ ap (λ k. take k (drop at cells)) (long n c.requires.few))
