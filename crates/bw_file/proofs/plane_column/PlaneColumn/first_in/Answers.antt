use Rattle.std.proofs.Common.{FitsSigned, ap, arith, of_z, refl, rules, slice_index, subst, suc, sym, to_z, w64, ℕ, ◌++◌, ◌<◌, ◌≡◌, ◌∙◌, ◌∷◌}
use Rattle.std.specs.Int.{cast_unsigned}
use Rattle.std.specs.Prelude.{All}
use Rattle.std.proofs.lemmas.Int.{to_z-of_z}
use Rattle.byteorder.specs.Endian.{little_bytes}
use Rattle.bw_cells.specs.Known.{known}
use Rattle.bw_code.specs.Encodings.{IsOffsetFit}
use Rattle.bw_code.specs.Types.{IsNullOrOfType}
use Rattle.bw_file.specs.Cells.{presence_size}
use Rattle.bw_file.specs.Planes.{ArePlanes, HasNoStrayBit, cells_in, column_bytes}
use Rattle.bw_file.proofs.FirstColumn.{all_wide}
use Rattle.bw_file.proofs.Looked.{column_spelled, same_integer, small_back, small_front, that_base, that_cells, that_planes, that_presence, that_width}
use Rattle.bw_file.proofs.PlaneEnds.{length-plane_cells}
use Rattle.bw_file.proofs.plane_column.PlaneColumn.first_in.Goals as goal

pub returns-then-has_spare_bit-clause-none : goal.returns-then-has_spare_bit-clause-none
returns-then-has_spare_bit-clause-none c e cells tail count all same =
    let p = c.in-Some.parts in
    let fits : FitsSigned w64 c.in-Some.parts.base = search rules in
    c.has_spare_bit.ensures.yes c.if-has_spare_bit.true cells count
    (that_presence c.args.rows c.args.bytes.now p.present.now p.planes.now p.after.now tail p.base p.width cells count (all_wide c.args.column_type cells all) fits c.in-Some.ensures.bits c.in-Some.ensures.long c.in-Some.ensures.spelled same)

pub returns-then-has_stray_bit-clause-none : goal.returns-then-has_stray_bit-clause-none
returns-then-has_stray_bit-clause-none c e cells tail count all same =
    let p = c.in-Some.parts in
    let fits : FitsSigned w64 c.in-Some.parts.base = search rules in
    let size : presence_size c.args.rows ≡ c.div_ceil.result = omega (arith, c.div_ceil.ensures) in
    let are = that_planes c.args.rows c.args.bytes.now p.present.now p.planes.now p.after.now tail p.base p.width cells count (all_wide c.args.column_type cells all) fits c.in-Some.ensures.bits c.in-Some.ensures.long c.in-Some.ensures.spelled same in
    c.has_stray_bit.ensures.yes c.if-has_stray_bit.true (subst (λ n. HasNoStrayBit p.width n p.present.now p.planes.now) size are.inside)

pub returns-in_default-values_in-clause-none : goal.returns-in_default-values_in-clause-none
returns-in_default-values_in-clause-none c e cells tail count all same =
    let p = c.in-Some.parts in
    let fits : FitsSigned w64 c.in-Some.parts.base = search rules in
    let base : to_z w64 (of_z w64 p.base) ≡ p.base = to_z-of_z w64 p.base fits in
    let back = that_cells c.args.rows c.args.bytes.now p.present.now p.planes.now p.after.now tail p.base p.width cells count (all_wide c.args.column_type cells all) fits c.in-Some.ensures.bits c.in-Some.ensures.long c.in-Some.ensures.spelled same in
    c.values_in.ensures.beyond c.in_default-values_in.is
    (subst (All (IsNullOrOfType c.args.column_type)) (sym back ∙ ap (λ z. cells_in c.args.rows z p.width p.present.now p.planes.now) (sym base)) all)

pub returns-then-fit-parts-clause-none : goal.returns-then-fit-parts-clause-none
returns-then-fit-parts-clause-none c e cells tail count all same =
    let p = c.in-Some.parts in
    let fits : FitsSigned w64 c.in-Some.parts.base = search rules in
    let base : to_z w64 (of_z w64 p.base) ≡ p.base = to_z-of_z w64 p.base fits in
    let fit : IsOffsetFit (known (cells_in c.args.rows p.base p.width p.present.now p.planes.now)) c.spanning-fit.result =
    subst (λ z. IsOffsetFit (known (cells_in c.args.rows z p.width p.present.now p.planes.now)) c.spanning-fit.result) base (c.spanning-fit.ensures.fits _ (c.values_in.ensures.ends c.in-OfType.ends c.in-OfType.is)) in
    c.if-fit-parts.true (ap (of_z w64) (that_base c.args.rows c.args.bytes.now p.present.now p.planes.now p.after.now tail p.base p.width cells count (all_wide c.args.column_type cells all) fits c.in-Some.ensures.bits c.in-Some.ensures.long c.in-Some.ensures.spelled same c.spanning-fit.result fit))

pub returns-then-fit-parts-2-clause-none : goal.returns-then-fit-parts-2-clause-none
returns-then-fit-parts-2-clause-none c e cells tail count all same =
    let p = c.in-Some.parts in
    let fits : FitsSigned w64 c.in-Some.parts.base = search rules in
    let base : to_z w64 (of_z w64 p.base) ≡ p.base = to_z-of_z w64 p.base fits in
    let fit : IsOffsetFit (known (cells_in c.args.rows p.base p.width p.present.now p.planes.now)) c.spanning-fit.result =
    subst (λ z. IsOffsetFit (known (cells_in c.args.rows z p.width p.present.now p.planes.now)) c.spanning-fit.result) base (c.spanning-fit.ensures.fits _ (c.values_in.ensures.ends c.in-OfType.ends c.in-OfType.is)) in
    c.if-fit-parts-2.true (that_width c.args.rows c.args.bytes.now p.present.now p.planes.now p.after.now tail p.base p.width cells count (all_wide c.args.column_type cells all) fits c.in-Some.ensures.bits c.in-Some.ensures.long c.in-Some.ensures.spelled same c.spanning-fit.result fit)

pub invariant_of-column : goal.invariant_of-column
invariant_of-column c =
    let size : c.div_ceil.result ≡ presence_size c.args.rows = omega (arith, c.div_ceil.ensures) in
    let are : ArePlanes c.args.rows c.in-Some.parts.width c.in-Some.parts.present.now c.in-Some.parts.planes.now =
    record {
      bits = c.in-Some.ensures.bits;
      long = c.in-Some.ensures.long;
      spare = c.has_spare_bit.ensures.no c.if-has_spare_bit.false;
      inside = subst (λ n. HasNoStrayBit c.in-Some.parts.width n c.in-Some.parts.present.now c.in-Some.parts.planes.now) size (c.has_stray_bit.ensures.no c.if-has_stray_bit.false);
    } in
    record {
      few = c.requires.few;
      narrow = c.in-Some.ensures.narrow;
      are = are;
      wide = all_wide c.args.column_type _ (c.values_in.ensures.typed c.in-OfType.ends c.in-OfType.is);
      measured = c.values_in.ensures.ends c.in-OfType.ends c.in-OfType.is;
    }

pub returns-clause-count : goal.returns-clause-count
returns-clause-count c = length-plane_cells c.args.rows (to_z w64 (of_z w64 c.in-Some.parts.base)) c.in-Some.parts.width c.in-Some.parts.present.now c.in-Some.parts.planes.now

pub returns-clause-spelled : goal.returns-clause-spelled
returns-clause-spelled c =
    let p = c.in-Some.parts in
    let fits : FitsSigned w64 c.in-Some.parts.base = search rules in
    let base : to_z w64 (of_z w64 p.base) ≡ p.base = to_z-of_z w64 p.base fits in
    let fit : IsOffsetFit (known (cells_in c.args.rows p.base p.width p.present.now p.planes.now)) c.spanning-fit.result =
    subst (λ z. IsOffsetFit (known (cells_in c.args.rows z p.width p.present.now p.planes.now)) c.spanning-fit.result) base (c.spanning-fit.ensures.fits _ (c.values_in.ensures.ends c.in-OfType.ends c.in-OfType.is)) in
    let size : c.div_ceil.result ≡ presence_size c.args.rows = omega (arith, c.div_ceil.ensures) in
    let are : ArePlanes c.args.rows c.in-Some.parts.width c.in-Some.parts.present.now c.in-Some.parts.planes.now =
    record {
      bits = c.in-Some.ensures.bits;
      long = c.in-Some.ensures.long;
      spare = c.has_spare_bit.ensures.no c.if-has_spare_bit.false;
      inside = subst (λ n. HasNoStrayBit c.in-Some.parts.width n c.in-Some.parts.present.now c.in-Some.parts.planes.now) size (c.has_stray_bit.ensures.no c.if-has_stray_bit.false);
    } in
    let small : (k : ℕ) → slice_index c.args.bytes.now k < 256 = λ k. omega (arith, c.type_inv.bytes k) in
    let behind = little_bytes 8 (cast_unsigned w64 p.base) ++ (p.width ∷ (p.planes.now ++ p.after.now)) in
    let rest = small_back p.present.now behind c.args.bytes.now c.in-Some.ensures.spelled small in
    let more = small_back (little_bytes 8 (cast_unsigned w64 p.base)) (p.width ∷ (p.planes.now ++ p.after.now)) behind refl rest in
    let low = small_front p.planes.now p.after.now (p.planes.now ++ p.after.now) refl (λ k. more (suc k)) in
    let fit_base : c.spanning-fit.result.base ≡ p.base = same_integer c.spanning-fit.result.base p.base (search rules) fits c.if-fit-parts.false in
    subst (λ z. c.args.bytes.now ≡ column_bytes (cells_in c.args.rows z p.width p.present.now p.planes.now) ++ p.after.now) (sym base)
    (column_spelled c.args.rows c.args.bytes.now p.present.now p.planes.now p.after.now p.base p.width c.spanning-fit.result are (small_front p.present.now behind c.args.bytes.now c.in-Some.ensures.spelled small) low
    c.in-Some.ensures.spelled fit fit_base c.if-fit-parts-2.false)
