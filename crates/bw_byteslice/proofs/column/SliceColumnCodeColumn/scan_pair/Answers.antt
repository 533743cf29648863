use Rattle.std.proofs.Common.{ap, arith, get_or, length, subst, sym, ◌&&◌, ◌*◌, ◌≡◌, ◌∙◌}
use Rattle.bw_mask.specs.Masks.{len, row_at}
use Rattle.bw_code.specs.Tests.{code_compares}
use Rattle.bw_code.specs.Units.{by_slices, segments_of, side_units, units_of_pair}
use Rattle.bw_code.specs.declared.kind.Layout.TheVariants.{S}
use Rattle.bw_byteslice.specs.Slices.{AreStored, code_in, slices_of}
use Rattle.bw_byteslice.specs.Storing.{bytes_of, units_of}
use Rattle.bw_byteslice.proofs.InUnits.{code_here, stored_len, stored_units}
use Rattle.bw_byteslice.proofs.Scanned.{pair_units_are}
use Rattle.bw_byteslice.proofs.Views.{also_code, also_stored, code_is, count_is, width_is}
use Rattle.bw_byteslice.proofs.column.SliceColumnCodeColumn.scan_pair.Goals as goal

pub pair_from-requires-clause-few : goal.pair_from-requires-clause-few
pair_from-requires-clause-few c = omega (arith, count_is c.self.inside.width c.self.inside.len c.self.inside.slices.items c.args.self.now c.self.invariant c.self.view_is, c.requires.need, c.self.invariant.few)

pub pair_from-requires-clause-units : goal.pair_from-requires-clause-units
pair_from-requires-clause-units c =
    let same = c.new-left.ensures.slices ∙ ap bytes_of c.deref.ensures.value in
    let rows : c.self.inside.len ≡ len c.args.need.now = omega (arith, count_is c.self.inside.width c.self.inside.len c.self.inside.slices.items c.args.self.now c.self.invariant c.self.view_is, c.requires.need) in
    ap (λ slices. length (units_of slices)) same ∙ stored_len c.self.inside.width c.self.inside.len (bytes_of c.self.inside.slices.items) c.self.invariant ∙ ap (λ n. segments_of 32 n * slices_of c.self.inside.width) rows

pub pair_from-requires-clause-other_units : goal.pair_from-requires-clause-other_units
pair_from-requires-clause-other_units c =
    let also = c.new-right.ensures.slices ∙ ap bytes_of c.deref-2.ensures.value in
    let width = c.requires.width ∙ sym (width_is c.self.inside.width c.self.inside.len c.self.inside.slices.items c.args.self.now c.self.invariant c.self.view_is) in
    let rows : c.other.inside.len ≡ len c.args.need.now = omega (arith, count_is c.other.inside.width c.other.inside.len c.other.inside.slices.items c.args.other.now c.other.invariant c.other.view_is, c.requires.other, c.requires.need) in
    ap (λ slices. length (units_of slices)) also ∙ stored_len c.self.inside.width c.other.inside.len (bytes_of c.other.inside.slices.items) (also_stored c.self.inside.width c.other.inside.width c.other.inside.len c.other.inside.slices.items c.args.other.now c.other.invariant c.other.view_is width) ∙ ap (λ n. segments_of 32 n * slices_of c.self.inside.width) rows

pub pair_from-requires-clause-stored : goal.pair_from-requires-clause-stored
pair_from-requires-clause-stored c =
    let same = c.new-left.ensures.slices ∙ ap bytes_of c.deref.ensures.value in
    subst (λ slices. AreStored c.self.inside.width (units_of slices)) (sym same) (stored_units c.self.inside.width c.self.inside.len (bytes_of c.self.inside.slices.items) c.self.invariant)

pub pair_from-requires-clause-other_stored : goal.pair_from-requires-clause-other_stored
pair_from-requires-clause-other_stored c =
    let also = c.new-right.ensures.slices ∙ ap bytes_of c.deref-2.ensures.value in
    let width = c.requires.width ∙ sym (width_is c.self.inside.width c.self.inside.len c.self.inside.slices.items c.args.self.now c.self.invariant c.self.view_is) in
    subst (λ slices. AreStored c.self.inside.width (units_of slices)) (sym also) (stored_units c.self.inside.width c.other.inside.len (bytes_of c.other.inside.slices.items) (also_stored c.self.inside.width c.other.inside.width c.other.inside.len c.other.inside.slices.items c.args.other.now c.other.invariant c.other.view_is width))

pub returns-clause-rows : goal.returns-clause-rows
returns-clause-rows c r =
    let same = c.new-left.ensures.slices ∙ ap bytes_of c.deref.ensures.value in
    let also = c.new-right.ensures.slices ∙ ap bytes_of c.deref-2.ensures.value in
    let width = c.requires.width ∙ sym (width_is c.self.inside.width c.self.inside.len c.self.inside.slices.items c.args.self.now c.self.invariant c.self.view_is) in
    let k = c.self.inside.width in
    let need = row_at c.args.need.now r in
    let code = code_here k c.self.inside.len (bytes_of c.self.inside.slices.items) c.self.invariant r ∙ code_is c.self.inside.width c.self.inside.len c.self.inside.slices.items c.args.self.now c.self.invariant c.self.view_is r in
    let other = code_here k c.other.inside.len (bytes_of c.other.inside.slices.items) (also_stored c.self.inside.width c.other.inside.width c.other.inside.len c.other.inside.slices.items c.args.other.now c.other.invariant c.other.view_is width) r ∙ also_code c.self.inside.width c.other.inside.width c.other.inside.len c.other.inside.slices.items c.args.other.now c.other.invariant c.other.view_is width r in
    c.pair_from.ensures.rows r
    ∙ ap (λ slices. need && code_compares c.args.op (code_in k (units_of slices) r) (code_in k (units_of c.new-right.result.slices) r)) same
    ∙ ap (λ slices. need && code_compares c.args.op (code_in k (units_of (bytes_of c.self.inside.slices.items)) r) (code_in k (units_of slices) r)) also
    ∙ ap (λ x. need && code_compares c.args.op x (code_in k (units_of (bytes_of c.other.inside.slices.items)) r)) code
    ∙ ap (λ x. need && code_compares c.args.op (get_or c.args.self.now.codes r 0) x) other

pub returns-clause-units : goal.returns-clause-units
returns-clause-units c =
    let same = c.new-left.ensures.slices ∙ ap bytes_of c.deref.ensures.value in
    let also = c.new-right.ensures.slices ∙ ap bytes_of c.deref-2.ensures.value in
    let width = c.requires.width ∙ sym (width_is c.self.inside.width c.self.inside.len c.self.inside.slices.items c.args.self.now c.self.invariant c.self.view_is) in
    let k = c.self.inside.width in
    let need = row_at c.args.need.now in
    let n = len c.args.need.now in
    let codes = c.args.self.now.codes in
    let others = c.args.other.now.codes in
    let cost =
    ap (λ slices. side_units (by_slices k (slices_of k)) need (code_in k (units_of slices)) (code_in k (units_of c.new-right.result.slices)) (segments_of 32 n)) same
    ∙ ap (λ slices. side_units (by_slices k (slices_of k)) need (code_in k (units_of (bytes_of c.self.inside.slices.items))) (code_in k (units_of slices)) (segments_of 32 n)) also in
    let both =
    pair_units_are k c.self.inside.len c.other.inside.len (bytes_of c.self.inside.slices.items) (bytes_of c.other.inside.slices.items) c.self.invariant (also_stored c.self.inside.width c.other.inside.width c.other.inside.len c.other.inside.slices.items c.args.other.now c.other.invariant c.other.view_is width) need codes others (code_is c.self.inside.width c.self.inside.len c.self.inside.slices.items c.args.self.now c.self.invariant c.self.view_is) (also_code c.self.inside.width c.other.inside.width c.other.inside.len c.other.inside.slices.items c.args.other.now c.other.invariant c.other.view_is width) n c.requires.need
    ∙ ap (λ w. units_of_pair S w need codes others) (width_is c.self.inside.width c.self.inside.len c.self.inside.slices.items c.args.self.now c.self.invariant c.self.view_is) in
    omega (arith, c.add.ensures, c.add-2.ensures, c.reads.ensures, c.reads-2.ensures, c.pair_from.ensures.reads, c.pair_from.ensures.other_reads, c.new-left.ensures.none, c.new-right.ensures.none, cost, both)
