use Rattle.std.proofs.Common.{refl, ◌++◌}
use Rattle.std.proofs.lemmas.List.Elements.{filter_map-append}
use Rattle.bw_code.specs.Fittings.{AreEnds}
use Rattle.bw_code.specs.declared.encoding.Encoding.TheVariants as by
use Rattle.bw_column.specs.Values.{known}
use Rattle.bw_column.proofs.Known.{both_coded}
use Rattle.bw_column.proofs.Narrow.{held_of_both, narrow}
use Rattle.bw_column.proofs.column.Column.offset_with.Goals as goal

pub returns-clause-fits : goal.returns-clause-fits
returns-clause-fits g c =
    let own = c.args.self.now.values in
    let values = g.C.Cells.cells c.args.values.now in
    let ends : AreEnds (known (own ++ values)) c.ends_of_both.result = rw (filter_map-append (λ value. value) own values) (c.ends_of_both.ensures (known own) (known values) c.ends.ensures c.ends-2.ensures) in
    c.spanning.ensures.fits (known (own ++ values)) ends

pub returns-clause-own : goal.returns-clause-own
returns-clause-own g c =
    let own = c.args.self.now.values in
    let values = g.C.Cells.cells c.args.values.now in
    let ends : AreEnds (known (own ++ values)) c.ends_of_both.result = rw (filter_map-append (λ value. value) own values) (c.ends_of_both.ensures (known own) (known values) c.ends.ensures c.ends-2.ensures) in
    (both_coded (by.Offset c.spanning.result) own values (known (own ++ values)) refl (c.spanning.ensures.coded (known (own ++ values)) ends)).0

pub returns-clause-coded : goal.returns-clause-coded
returns-clause-coded g c =
    let own = c.args.self.now.values in
    let values = g.C.Cells.cells c.args.values.now in
    let ends : AreEnds (known (own ++ values)) c.ends_of_both.result = rw (filter_map-append (λ value. value) own values) (c.ends_of_both.ensures (known own) (known values) c.ends.ensures c.ends-2.ensures) in
    (both_coded (by.Offset c.spanning.result) own values (known (own ++ values)) refl (c.spanning.ensures.coded (known (own ++ values)) ends)).1

pub returns-clause-narrow : goal.returns-clause-narrow
returns-clause-narrow g c =
    let l = c.args.self.now.layout in
    let own = c.args.self.now.values in
    let values = g.C.Cells.cells c.args.values.now in
    let ends : AreEnds (known (own ++ values)) c.ends_of_both.result = rw (filter_map-append (λ value. value) own values) (c.ends_of_both.ensures (known own) (known values) c.ends.ensures c.ends-2.ensures) in
    narrow l (known (own ++ values)) (by.Offset c.spanning.result) (held_of_both l own values (known (own ++ values)) refl c.len-held.ensures.held c.requires.held) (c.spanning.ensures.fits (known (own ++ values)) ends)
