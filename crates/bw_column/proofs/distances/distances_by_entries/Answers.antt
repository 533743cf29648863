use Rattle.std.proofs.Common.{FitsSigned, ap, arith, length, nat_lt, of_z, rules, sym, to_z, w64, ◌&&◌, ◌+◌, ◌<◌, ◌∙◌, ◌≡◌}
use Rattle.std.proofs.lemmas.Bool.{lt-ltb}
use Rattle.std.proofs.lemmas.Int.{to_z-of_z}
use Rattle.bw_mask.specs.Masks.{row_at}
use Rattle.bw_code.specs.Columns.{code_at, count}
use Rattle.bw_code.specs.declared.encoding.Encoding.TheVariants as by
use Rattle.bw_code.proofs.Lists.{part_at}
use Rattle.bw_column.specs.Codes.{values_from}
use Rattle.bw_column.specs.Storing.{list_of}
use Rattle.bw_column.proofs.Bases.{present_part}
use Rattle.bw_column.proofs.Measuring.{distance_of_entry, distance_of_none, entry_inside, measured_run, none_left, some_left}
use Rattle.bw_column.proofs.Rows.{known_rows}
use Rattle.bw_column.proofs.distances.distances_by_entries.Goals as goal

pub measure_entries-requires-clause-inside : goal.measure_entries-requires-clause-inside
measure_entries-requires-clause-inside c k h =
    let entries = c.args.entries.now in
    let codes = list_of c.args.codes.now in
    let at = c.args.at in
    let long : length c.read.new.out ≡ length c.args.out.now = search rules in
    let row : at + k < count codes = omega (arith, h, long, c.requires.there) in
    rw (part_at codes.codes c.read.new.out at _ k 0 c.read.ensures.codes h)
    (entry_inside entries c.requires.rows.sound (some_left _ (sym c.is_empty.ensures ∙ c.if-is_empty.false)) (code_at codes (at + k)) (row_at c.args.nonnull.now (at + k)) (c.requires.rows.each (at + k) row))

pub returns-then-is_empty-clause-distances : goal.returns-then-is_empty-clause-distances
returns-then-is_empty-clause-distances c =
    let entries = c.args.entries.now in
    let codes = list_of c.args.codes.now in
    let nonnull = c.args.nonnull.now in
    let at = c.args.at in
    let n = length c.args.out.now in
    let long : length c.read.new.out ≡ n = search rules in
    measured_run (by.Dictionary entries) codes nonnull c.requires.rows c.args.base c.read.new.out at n long c.requires.there (λ k h.
    part_at codes.codes c.read.new.out at _ k 0 c.read.ensures.codes (omega (arith, h, long))
    ∙ distance_of_none entries c.requires.rows.sound (none_left _ (sym c.is_empty.ensures ∙ c.if-is_empty.true)) c.args.base (code_at codes (at + k)) (row_at nonnull (at + k)) (c.requires.rows.each (at + k) (omega (arith, h, c.requires.there))))

pub returns-then-is_empty-clause-present : goal.returns-then-is_empty-clause-present
returns-then-is_empty-clause-present c i =
    let e = by.Dictionary c.args.entries.now in
    let codes = list_of c.args.codes.now in
    let long : length c.read.new.out ≡ length c.args.out.now = search rules in
    c.bits.ensures i
    ∙ ap (λ n. nat_lt i n && row_at c.args.nonnull.now (c.args.at + i)) long
    ∙ present_part (values_from e codes c.args.nonnull.now) (row_at c.args.nonnull.now) c.args.at (length c.args.out.now) i (known_rows e codes c.args.nonnull.now c.requires.rows)

pub returns-clause-distances : goal.returns-clause-distances
returns-clause-distances c =
    let entries = c.args.entries.now in
    let codes = list_of c.args.codes.now in
    let nonnull = c.args.nonnull.now in
    let at = c.args.at in
    let n = length c.args.out.now in
    let long : length c.read.new.out ≡ n = search rules in
    let fits : FitsSigned w64 c.args.base = search rules in
    let base : to_z w64 (of_z w64 c.args.base) ≡ c.args.base = to_z-of_z w64 c.args.base fits in
    measured_run (by.Dictionary entries) codes nonnull c.requires.rows c.args.base c.measure_entries.new.codes at n (c.measure_entries.ensures.count ∙ long) c.requires.there (λ k h.
    let low : k < length c.read.new.out = omega (arith, h, long) in
    c.measure_entries.ensures.each k low
    ∙ rw (part_at codes.codes c.read.new.out at _ k 0 c.read.ensures.codes low, c.bits-present.ensures k, lt-ltb k (length c.read.new.out) low, base)
    (distance_of_entry entries c.args.base (code_at codes (at + k)) (row_at nonnull (at + k))))

pub returns-clause-present : goal.returns-clause-present
returns-clause-present c i =
    let e = by.Dictionary c.args.entries.now in
    let codes = list_of c.args.codes.now in
    let long : length c.read.new.out ≡ length c.args.out.now = search rules in
    c.bits-present.ensures i
    ∙ ap (λ n. nat_lt i n && row_at c.args.nonnull.now (c.args.at + i)) long
    ∙ present_part (values_from e codes c.args.nonnull.now) (row_at c.args.nonnull.now) c.args.at (length c.args.out.now) i (known_rows e codes c.args.nonnull.now c.requires.rows)
