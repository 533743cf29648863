use Rattle.std.proofs.Common.{IfSome, ap, arith, length, set, subst, sym, ◌<◌, ◌∙◌}
use Rattle.std.proofs.lemmas.List.{get_or_read}
use Rattle.bw_groups.specs.Entries.{IsIndexOf}
use Rattle.bw_groups.proofs.Entries.{entries_more, known_at, length_done, value_left}
use Rattle.bw_groups.proofs.groups.entries_at.Goals as goal

pub entry_at-requires : goal.entry_at-requires
entry_at-requires c =
    let entries = c.args.entries.now in
    let values = c.args.values.items in
    let done = c.groups.values.items in
    let g = c.groups.g in
    let long = length_done entries values done g c.groups.invariant in
    let low : g < length values = omega (arith, c.groups-test.true, c.len-g-end.ensures) in
    let read = get_or_read done g _ (omega (arith, low, long)) c.index.ensures c.index.result.now in
    let is = value_left entries values done g c.index.result.now low c.groups.invariant read in
    subst (λ v. IfSome v (IsIndexOf entries)) (sym is) (known_at (IsIndexOf entries) values c.requires g)

pub groups-preserved : goal.groups-preserved
groups-preserved c =
    let entries = c.args.entries.now in
    let values = c.args.values.items in
    let done = c.groups.values.items in
    let g = c.groups.g in
    let long = length_done entries values done g c.groups.invariant in
    let low : g < length values = omega (arith, c.groups-test.true, c.len-g-end.ensures) in
    let read = get_or_read done g _ (omega (arith, low, long)) c.index.ensures c.index.result.now in
    ap (λ x. set done g x) c.entry_at.ensures ∙ entries_more entries values done g c.index.result.now low c.groups.invariant read
