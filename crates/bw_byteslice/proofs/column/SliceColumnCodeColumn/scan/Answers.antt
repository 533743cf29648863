use Rattle.std.proofs.Common.{ap, arith, length, subst, sym, ◌&&◌, ◌*◌, ◌≡◌, ◌∙◌}
use Rattle.bw_mask.specs.Masks.{len, row_at}
use Rattle.bw_code.specs.Meters.{raised}
use Rattle.bw_code.specs.Tests.{meets}
use Rattle.bw_code.specs.Units.{by_slices, scan_units, segments_of, units_of_scan}
use Rattle.bw_code.specs.declared.kind.Layout.TheVariants.{S}
use Rattle.bw_byteslice.specs.Slices.{AreStored, code_in, slices_of}
use Rattle.bw_byteslice.specs.Storing.{bytes_of, units_of}
use Rattle.bw_byteslice.proofs.InUnits.{code_here, stored_len, stored_units}
use Rattle.bw_byteslice.proofs.Scanned.{units_are}
use Rattle.bw_byteslice.proofs.Views.{code_is, count_is, width_is}
use Rattle.bw_byteslice.proofs.column.SliceColumnCodeColumn.scan.Goals as goal

pub scan_from-requires-clause-few : goal.scan_from-requires-clause-few
scan_from-requires-clause-few c = omega (arith, count_is c.self.inside.width c.self.inside.len c.self.inside.slices.items c.args.self.now c.self.invariant c.self.view_is, c.requires.need, c.self.invariant.few)

pub scan_from-requires-clause-units : goal.scan_from-requires-clause-units
scan_from-requires-clause-units c =
    let same = c.new-source.ensures.slices ∙ ap bytes_of c.deref.ensures.value in
    let rows : c.self.inside.len ≡ len c.args.need.now = omega (arith, count_is c.self.inside.width c.self.inside.len c.self.inside.slices.items c.args.self.now c.self.invariant c.self.view_is, c.requires.need) in
    ap (λ slices. length (units_of slices)) same ∙ stored_len c.self.inside.width c.self.inside.len (bytes_of c.self.inside.slices.items) c.self.invariant ∙ ap (λ n. segments_of 32 n * slices_of c.self.inside.width) rows

pub scan_from-requires-clause-stored : goal.scan_from-requires-clause-stored
scan_from-requires-clause-stored c =
    let same = c.new-source.ensures.slices ∙ ap bytes_of c.deref.ensures.value in
    subst (λ slices. AreStored c.self.inside.width (units_of slices)) (sym same) (stored_units c.self.inside.width c.self.inside.len (bytes_of c.self.inside.slices.items) c.self.invariant)

pub returns-clause-rows : goal.returns-clause-rows
returns-clause-rows c r =
    let same = c.new-source.ensures.slices ∙ ap bytes_of c.deref.ensures.value in
    let code = code_here c.self.inside.width c.self.inside.len (bytes_of c.self.inside.slices.items) c.self.invariant r ∙ code_is c.self.inside.width c.self.inside.len c.self.inside.slices.items c.args.self.now c.self.invariant c.self.view_is r in
    c.scan_from.ensures.rows r
    ∙ ap (λ slices. row_at c.args.need.now r && meets c.args.test (code_in c.self.inside.width (units_of slices) r)) same
    ∙ ap (λ x. row_at c.args.need.now r && meets c.args.test x) code

pub returns-clause-units : goal.returns-clause-units
returns-clause-units c =
    let k = c.self.inside.width in
    let need = row_at c.args.need.now in
    let same = c.new-source.ensures.slices ∙ ap bytes_of c.deref.ensures.value in
    let rows : len c.args.need.now ≡ length c.args.self.now.codes = c.requires.need in
    let cost =
    ap (λ slices. scan_units (by_slices k (slices_of k)) c.args.test need (code_in k (units_of slices)) (segments_of 32 (len c.args.need.now))) same
    ∙ units_are k c.self.inside.len (bytes_of c.self.inside.slices.items) c.self.invariant c.args.test need c.args.self.now.codes (code_is c.self.inside.width c.self.inside.len c.self.inside.slices.items c.args.self.now c.self.invariant c.self.view_is) (len c.args.need.now) rows
    ∙ ap (λ w. units_of_scan S w c.args.test need c.args.self.now.codes) (width_is c.self.inside.width c.self.inside.len c.self.inside.slices.items c.args.self.now c.self.invariant c.self.view_is) in
    let reads : c.reads.result ≡ units_of_scan S c.args.self.now.width c.args.test need c.args.self.now.codes = c.reads.ensures ∙ omega (arith, c.scan_from.ensures.reads, c.new-source.ensures.none, cost) in
    c.add.ensures ∙ ap (raised c.args.meter.now) reads
