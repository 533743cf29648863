use Rattle.std.proofs.Common.{ap, arith, length, sym, ◌-◌, ◌/◌, ◌≡◌, ◌<◌, ◌∙◌}
use Rattle.std.proofs.lemmas.List.{length-map}
use Rattle.std.specs.List.{items_where_true}
use Rattle.bw_code.specs.Encodings.{width}
use Rattle.bw_column.specs.Codes.{code_for, codes_for}
use Rattle.bw_aggregate.specs.Descents.{Holds}
use Rattle.bw_aggregate.proofs.Descents.{descent_end}
use Rattle.bw_aggregate.proofs.Told.{begins_all, fit_by}
use Rattle.bw_aggregate.proofs.middle.code_by_planes.Goals as goal

pub returns : goal.returns
returns c =
    let column = c.args.column.now in
    let codes = codes_for column.encoding column.values in
    let k = c.width-bits.result in
    let bits : k ≡ width column.encoding = c.width-bits.ensures.is ∙ ap width c.encoding.ensures.is in
    let fit = fit_by column.encoding c.encoding.ensures.sound column.values c.encoding.ensures.coded k bits in
    let rows = c.args.rows.now.rows in
    let held = items_where_true rows codes in
    let n = (c.args.count - 1) / 2 in
    let same : length rows ≡ length codes = c.requires.len ∙ sym (length-map column.values (code_for column.encoding)) in
    let holds : Holds codes held c.in_ok-left.left = c.in_ok-left.ensures codes (sym same) in
    let low : n < c.args.count = omega (arith, c.requires.some) in
    let begun = c.from_top-descent.ensures codes held k holds (begins_all k rows codes fit c.width-bits.ensures.few) c.requires.count low in
    let done = c.in_ok-descended.ensures held n begun in
    rw c.code.ensures (descent_end held n _ _ done.leads.rest)
