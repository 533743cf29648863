use Rattle.std.proofs.Common.{ap, arith, length, w64, ℕ, ◌<◌, ◌≡◌}
use Rattle.std.proofs.lemmas.Int.{to_z-of_z}
use Rattle.bw_code.specs.Encodings.{width}
use Rattle.bw_column.specs.Columns.{ColumnView}
use Rattle.bw_dictionary.specs.Adding.{IsEntryAdded}
use Rattle.bw_dictionary.specs.Merging.{StandsAt}
use Rattle.bw_column.proofs.RaisedHere.{all_fit, can_raise, new_codes}
use Rattle.bw_column.proofs.column.Column.raise_for.Goals as goal

pub returns-clause-can : goal.returns-clause-can
returns-clause-can c =
    let added = c.in_ok-entries.field-0 in
    let is : IsEntryAdded c.args.own.entries.now c.args.x added.entries.items added.index = rw (to_z-of_z w64 c.args.x c.ranges.x) at c.in_ok-entries.ensures in
    let own : c.self.inside.encoding ≡ c.args.self.now.encoding = ap (λ (v : ColumnView). v.encoding) c.self.view_is in
    let wide : width c.dictionary_of-encoding.result ≡ width c.args.self.now.encoding = rw (← own) (omega (arith, c.width.ensures.is, c.width-2.ensures.is, c.if-width.false)) in
    can_raise c.args.self.now (record { encoding = c.dictionary_of-encoding.result; above = c.in_ok-above.above }) c.args.own.entries.now added.entries.items c.args.x added.index is
    c.requires.own c.dictionary_of-encoding.ensures c.width.ensures.sound wide c.in_ok-above.ensures.count c.encoding-sound.ensures.sound c.encoding-sound.ensures.coded c.in_ok-above.ensures.rows

pub returns-clause-fits : goal.returns-clause-fits
returns-clause-fits c =
    let added = c.in_ok-entries.field-0 in
    let is : IsEntryAdded c.args.own.entries.now c.args.x added.entries.items added.index = rw (to_z-of_z w64 c.args.x c.ranges.x) at c.in_ok-entries.ensures in
    let marked : (m : ℕ) → m < length c.args.own.entries.now → StandsAt c.args.own.stands.now m = λ m h. c.first_unmarked.ensures.marked m (omega (arith, h, c.if-first_unmarked-own.false)) in
    rw c.dictionary_of-encoding.ensures (all_fit c.args.own.entries.now added.entries.items c.args.x added.index is c.args.own.stands.now c.args.self.now.values c.requires.own_stands marked)

pub returns-clause-code : goal.returns-clause-code
returns-clause-code c =
    let added = c.in_ok-entries.field-0 in
    let is : IsEntryAdded c.args.own.entries.now c.args.x added.entries.items added.index = rw (to_z-of_z w64 c.args.x c.ranges.x) at c.in_ok-entries.ensures in
    rw c.dictionary_of-encoding.ensures (new_codes c.args.own.entries.now added.entries.items c.args.x added.index is)
