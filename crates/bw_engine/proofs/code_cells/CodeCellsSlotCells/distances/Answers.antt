use Rattle.std.proofs.Common.{All, ap, arith, drop, length, map, of_z, pos, rules, subst, sym, take, to_z, w64, ◌<◌, ◌∙◌, ◌≡◌, ◌^◌}
use Rattle.std.proofs.lemmas.Int.{ints, to_z-of_z}
use Rattle.bw_cells.specs.Distances.{distance_from}
use Rattle.bw_code.specs.Encodings.{IsEncoding}
use Rattle.bw_column.specs.Codes.{IsCoded, codes_for}
use Rattle.bw_column.proofs.Pieces.{map_part}
use Rattle.bw_engine.specs.Codes.{codes_in}
use Rattle.bw_engine.proofs.CodeLaws.{rebased_run, zero_far}
use Rattle.bw_engine.proofs.code_cells.CodeCellsSlotCells.distances.Goals as goal

pub returns-then-base-ne0-clause-distances : goal.returns-then-base-ne0-clause-distances
returns-then-base-ne0-clause-distances c =
    let column = c.args.self.now.column.now in
    let base = to_z w64 (of_z w64 c.args.base) in
    let same : base ≡ c.args.base = search (arith, ints, to_z-of_z) in
    let at = c.args.at in
    let n = length c.args.out.now in
    subst (λ b. c.rebase.new.numbers ≡ map (distance_from b) (take n (drop at (codes_in column.encoding column.values)))) same
    (rebased_run column.encoding base column.values c.read_codes-present.new.codes c.rebase.new.numbers c.read_codes-present.result at n c.read_codes-present.ensures.codes c.read_codes-present.ensures.present c.rebase.ensures.count c.rebase.ensures.each)

pub returns-else-base-ne0-clause-distances : goal.returns-else-base-ne0-clause-distances
returns-else-base-ne0-clause-distances c =
    let column = c.args.self.now.column.now in
    let entries = c.entries-few.result.now in
    let is = c.entries-few.ensures.is in
    let few : length entries < 2 ^ 64 = search rules in
    let at = c.args.at in
    let n = length c.args.out.now in
    let zero : c.args.base ≡ pos 0 = omega (arith, ints, c.if-base-ne0.false) in
    let sound = subst IsEncoding is c.encoding-coded.ensures.sound in
    let coded = subst (λ e. All (IsCoded e) column.values) is c.encoding-coded.ensures.coded in
    let far : codes_for column.encoding column.values ≡ map (distance_from (pos 0)) (codes_in column.encoding column.values) =
    subst (λ e. codes_for e column.values ≡ map (distance_from (pos 0)) (codes_in e column.values)) (sym is) (sym (zero_far entries sound few column.values coded)) in
    c.read_codes-present.ensures.codes
    ∙ ap (λ l. take n (drop at l)) far
    ∙ sym (map_part (distance_from (pos 0)) (codes_in column.encoding column.values) at n)
    ∙ ap (λ b. map (distance_from b) (take n (drop at (codes_in column.encoding column.values)))) (sym zero)
