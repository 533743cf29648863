use Rattle.std.proofs.Common.{ap, arith, get_or, length, sym, ◌&&◌, ◌≡◌, ◌∙◌}
use Rattle.bw_mask.specs.Masks.{len, row_at}
use Rattle.bw_code.specs.Columns.{CodeList}
use Rattle.bw_code.specs.Meters.{raised}
use Rattle.bw_code.specs.Tests.{code_compares}
use Rattle.bw_code.specs.Units.{by_words, segments_of, side_units}
use Rattle.bw_horizontal.specs.Words.{code_in, codes_of, segment_rows}
use Rattle.bw_horizontal.proofs.Costs.{pair_units_are, raised_twice}
use Rattle.bw_horizontal.proofs.Views.{code_is, count_is}
use Rattle.bw_horizontal.proofs.column.HorizontalColumnCodeColumn.scan_pair.Goals as goal

pub pair_from-requires-clause-other_units : goal.pair_from-requires-clause-other_units
pair_from-requires-clause-other_units c =
    let other = c.other.inside in
    let width : other.width ≡ c.self.inside.width = ap (λ (v : CodeList). v.width) c.other.view_is ∙ c.requires.width ∙ sym (ap (λ (v : CodeList). v.width) c.self.view_is) in
    let count : other.len ≡ len c.args.need.now = grind (arith, count_is) in
    rw (c.new-others.ensures.words, c.deref-2.ensures.value, ← width, ← count) c.other.invariant.segments

pub returns-clause-rows : goal.returns-clause-rows
returns-clause-rows c r =
    let inside = c.self.inside in
    let other = c.other.inside in
    let k = inside.width in
    let width : other.width ≡ k = ap (λ (v : CodeList). v.width) c.other.view_is ∙ c.requires.width ∙ sym (ap (λ (v : CodeList). v.width) c.self.view_is) in
    let found = rw (c.new-words.ensures.words, c.deref.ensures.value, c.new-others.ensures.words, c.deref-2.ensures.value) at c.pair_from.ensures.rows in
    let code : code_in k inside.words.items r ≡ get_or (codes_of k inside.len inside.words.items) r 0 = sym (code_is k inside.len inside.words.items c.self.invariant r) in
    let other_code : code_in k other.words.items r ≡ get_or (codes_of other.width other.len other.words.items) r 0 =
    ap (λ w. code_in w other.words.items r) (sym width) ∙ sym (code_is other.width other.len other.words.items c.other.invariant r) in
    rw (← c.self.view_is, ← c.other.view_is) (
    found r
    ∙ ap (λ x. row_at c.args.need.now r && code_compares c.args.op x (code_in k other.words.items r)) code
    ∙ ap (λ y. row_at c.args.need.now r && code_compares c.args.op (get_or (codes_of k inside.len inside.words.items) r 0) y) other_code)

pub returns-clause-units : goal.returns-clause-units
returns-clause-units c =
    let inside = c.self.inside in
    let need = c.args.need.now in
    let codes = codes_of inside.width inside.len inside.words.items in
    let count : length codes ≡ len need = grind (arith, count_is) in
    let code = code_in inside.width c.new-words.result.words.now in
    let other = code_in inside.width c.new-others.result.words.now in
    let side = side_units (by_words inside.width) (row_at need) code other (segments_of (segment_rows inside.width) (len need)) in
    let first : c.reads.result ≡ side = omega (arith, c.reads.ensures, c.pair_from.ensures.reads, c.new-words.ensures.none) in
    let second : c.reads-2.result ≡ side = omega (arith, c.reads-2.ensures, c.pair_from.ensures.other_reads, c.new-others.ensures.none) in
    let units = pair_units_are inside.width (len need) (row_at need) codes c.args.other.now.codes code other count in
    rw (← c.self.view_is, units) (c.add-2.ensures ∙ ap (λ m. raised m c.reads-2.result) (c.add.ensures ∙ ap (raised c.args.meter.now) first) ∙ ap (raised (raised c.args.meter.now side)) second ∙ raised_twice c.args.meter.now side)
