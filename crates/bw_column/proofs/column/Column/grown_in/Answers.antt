use Rattle.std.proofs.Common.{refl, ◌++◌, ◌≡◌, ◌∙◌}
use Rattle.bw_code.specs.declared.encoding.Encoding.TheVariants as by
use Rattle.bw_dictionary.specs.Merging.{IsUnion}
use Rattle.bw_column.specs.Values.{known}
use Rattle.bw_column.proofs.Grown.{standing_moved, union_fits}
use Rattle.bw_column.proofs.Narrow.{held_of_both, narrow}
use Rattle.bw_column.proofs.column.Column.grown_in.Goals as goal

pub moved-requires-clause-moved : goal.moved-requires-clause-moved
moved-requires-clause-moved g c =
    let mine = c.args.own in
    let more = c.args.others in
    let merged = c.in_ok-entries.field-0 in
    let put : IsUnion mine.entries.now mine.stands.now more.entries.now more.stands.now merged.entries.items merged.moves.items merged.places.items = c.in_ok-entries.ensures in
    let e : c.dictionary_of-encoding.result ≡ by.Dictionary merged.entries.items = c.dictionary_of-encoding.ensures in
    rw (c.requires.own, e, c.deref.ensures.value) (standing_moved mine.entries.now mine.stands.now c.args.self.now.values c.requires.own_stands mine.ascending (by.Dictionary merged.entries.items) merged.moves.items put.moved)

pub moved-requires-clause-narrow : goal.moved-requires-clause-narrow
moved-requires-clause-narrow g c =
    let l = c.args.layout in
    let mine = c.args.own in
    let more = c.args.others in
    let own = c.args.self.now.values in
    let cells = g.C.Cells.cells c.args.cells.now in
    let merged = c.in_ok-entries.field-0 in
    let put : IsUnion mine.entries.now mine.stands.now more.entries.now more.stands.now merged.entries.items merged.moves.items merged.places.items = c.in_ok-entries.ensures in
    let fits = union_fits mine.entries.now mine.stands.now more.entries.now more.stands.now merged.entries.items merged.moves.items merged.places.items put own cells c.requires.own_stands c.requires.others in
    let e : c.dictionary_of-encoding.result ≡ by.Dictionary merged.entries.items = c.dictionary_of-encoding.ensures in
    rw e (narrow l (known (own ++ cells)) (by.Dictionary merged.entries.items) (held_of_both l own cells (known (own ++ cells)) refl c.requires.own_held c.requires.held) fits)

pub returns-clause-fits : goal.returns-clause-fits
returns-clause-fits g c =
    let mine = c.args.own in
    let more = c.args.others in
    let own = c.args.self.now.values in
    let cells = g.C.Cells.cells c.args.cells.now in
    let merged = c.in_ok-entries.field-0 in
    let put : IsUnion mine.entries.now mine.stands.now more.entries.now more.stands.now merged.entries.items merged.moves.items merged.places.items = c.in_ok-entries.ensures in
    let e : c.in_ok-column.column.encoding ≡ by.Dictionary merged.entries.items = c.in_ok-column.ensures.encoding ∙ c.dictionary_of-encoding.ensures in
    rw e (union_fits mine.entries.now mine.stands.now more.entries.now more.stands.now merged.entries.items merged.moves.items merged.places.items put own cells c.requires.own_stands c.requires.others)

pub returns-clause-codes : goal.returns-clause-codes
returns-clause-codes g c =
    let mine = c.args.own in
    let more = c.args.others in
    let merged = c.in_ok-entries.field-0 in
    let put : IsUnion mine.entries.now mine.stands.now more.entries.now more.stands.now merged.entries.items merged.moves.items merged.places.items = c.in_ok-entries.ensures in
    let e : c.in_ok-column.column.encoding ≡ by.Dictionary merged.entries.items = c.in_ok-column.ensures.encoding ∙ c.dictionary_of-encoding.ensures in
    rw e put.placed
