use Rattle.std.proofs.Common.{FitsSigned, None, ap, arith, drop, false, length, map, nat_lt, of_z, rules, sym, take, w64, ◌&&◌, ◌+◌, ◌<◌, ◌∙◌, ◌≡◌}
use Rattle.std.proofs.lemmas.Bool.{lt-ltb}
use Rattle.std.proofs.lemmas.Int.{to_z-of_z}
use Rattle.std.proofs.lemmas.List.{get_or-map, length-map}
use Rattle.bw_mask.specs.Masks.{row_at}
use Rattle.bw_cells.specs.Distances.{distance_from}
use Rattle.bw_code.specs.Columns.{code_at, count}
use Rattle.bw_code.specs.declared.encoding.Encoding.TheVariants as by
use Rattle.bw_code.proofs.Lists.{made_len, part_at, part_is}
use Rattle.bw_column.specs.Codes.{IsRowCode, value_from, values_from}
use Rattle.bw_column.specs.Storing.{list_of}
use Rattle.bw_column.proofs.Bases.{distance_of_row, present_part}
use Rattle.bw_column.proofs.Pieces.{map_part}
use Rattle.bw_column.proofs.Rows.{known_rows, value_of_row}
use Rattle.bw_column.proofs.distances.distances_by_offset.Goals as goal

pub add_where_set-requires-clause-clear : goal.add_where_set-requires-clause-clear
add_where_set-requires-clause-clear c k h none =
    let e = by.Offset c.args.offset in
    let codes = list_of c.args.codes.now in
    let nonnull = c.args.nonnull.now in
    let at = c.args.at in
    let long : length c.read.new.out ≡ length c.args.out.now = search rules in
    let row : at + k < count codes = omega (arith, h, long, c.requires.there) in
    let null : row_at nonnull (at + k) ≡ false = sym (rw (lt-ltb k (length c.read.new.out) h) at (c.bits-present.ensures k)) ∙ none in
    let sound : IsRowCode e (code_at codes (at + k)) (row_at nonnull (at + k)) = c.requires.rows.each (at + k) row in
    part_at codes.codes c.read.new.out at _ k 0 c.read.ensures.codes h ∙ rw null at sound

pub returns-clause-distances : goal.returns-clause-distances
returns-clause-distances c =
    let e = by.Offset c.args.offset in
    let codes = list_of c.args.codes.now in
    let nonnull = c.args.nonnull.now in
    let at = c.args.at in
    let n = length c.args.out.now in
    let values = values_from e codes nonnull in
    let f = distance_from c.args.base in
    let fits : FitsSigned w64 c.args.offset.base = search rules in
    let fits_base : FitsSigned w64 c.args.base = search rules in
    let from : c.cast_unsigned.result ≡ of_z w64 c.args.offset.base = rw (to_z-of_z w64 c.args.offset.base fits) at c.cast_unsigned.ensures in
    let to : c.cast_unsigned-2.result ≡ of_z w64 c.args.base = rw (to_z-of_z w64 c.args.base fits_base) at c.cast_unsigned-2.ensures in
    let long : length c.read.new.out ≡ n = search rules in
    let many : length c.add_where_set.new.numbers ≡ n = c.add_where_set.ensures.count ∙ long in
    let all : length (map f values) ≡ count codes = length-map values f ∙ made_len (count codes) (λ i. value_from e (code_at codes i) (row_at nonnull i)) in
    part_is (map f values) c.add_where_set.new.numbers at 0 (omega (arith, many, all, c.requires.there)) (λ k h.
    let low : k < length c.read.new.out = omega (arith, h, many, long) in
    let row : at + k < count codes = omega (arith, low, long, c.requires.there) in
    c.add_where_set.ensures.each k low
    ∙ rw (part_at codes.codes c.read.new.out at _ k 0 c.read.ensures.codes low, c.bits-present.ensures k, lt-ltb k (length c.read.new.out) low, from, to)
    (distance_of_row c.args.offset c.args.base (code_at codes (at + k)) (row_at nonnull (at + k)) fits fits_base (c.requires.rows.each (at + k) row))
    ∙ ap f (sym (value_of_row e codes nonnull c.requires.rows (at + k)))
    ∙ sym (get_or-map f values (at + k) None 0 (omega (arith, row, all, length-map values f))))
    ∙ ap (λ m. take m (drop at (map f values))) many
    ∙ sym (map_part f values at n)

pub returns-clause-present : goal.returns-clause-present
returns-clause-present c i =
    let e = by.Offset c.args.offset in
    let codes = list_of c.args.codes.now in
    let long : length c.read.new.out ≡ length c.args.out.now = search rules in
    c.bits-present.ensures i
    ∙ ap (λ n. nat_lt i n && row_at c.args.nonnull.now (c.args.at + i)) long
    ∙ present_part (values_from e codes c.args.nonnull.now) (row_at c.args.nonnull.now) c.args.at (length c.args.out.now) i (known_rows e codes c.args.nonnull.now c.requires.rows)
