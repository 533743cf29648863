use Rattle.std.proofs.Common.{All, ap, arith, is_some, length, map, refl, sym, true, true≢false, ◌+◌, ◌++◌, ◌^◌, ◌≡◌, ◌≤◌, ◌∙◌}
use Rattle.bw_dictionary.specs.Moving.{moved_place}
use Rattle.bw_column.specs.Codes.{IsCoded}
use Rattle.bw_column.specs.Preparing.{after, more}
use Rattle.bw_column.specs.Values.{known}
use Rattle.bw_column.proofs.Grown.{codes_by_table, fit_coded}
use Rattle.bw_column.proofs.Known.{both_coded}
use Rattle.bw_column.proofs.RaisedHere.{fits_anew}
use Rattle.bw_column.proofs.column.Column.room_ranked.Goals as goal

pub returns-clause-prepared : goal.returns-clause-prepared
returns-clause-prepared g c =
    let own = c.args.self.now in
    let cells = g.C.Cells.cells c.args.values.now in
    let both = c.in_ok-step in
    let keeps = both.ensures.keeps in
    let e = (after c.step_to_entries.new.self both.step).encoding in
    let list = known (own.values ++ cells) in
    let none : All (IsCoded own.encoding) cells → ⊥ = λ all.
    let it : is_some c.in_ok-codes.field-0 ≡ true = c.in_ok-codes.ensures.all.1 (rw (← c.self.view_is) at all) in
    true≢false (sym it ∙ ap is_some c.in_default.is) in
    let few : length own.values + more c.args.grow cells ≤ 2 ^ 24 = c.requires.few in
    let codes : c.in_ok-codes-2.field-0.items ≡ map (moved_place both.table.items c.in_ok-ranked.ranked.entries.items) cells = rw c.deref-2.ensures.value at c.in_ok-codes-2.ensures in
    let coded = (both_coded e own.values cells list refl (fit_coded list e both.ensures.kind both.ensures.fits)).1 in
    record {
      can = both.ensures.can;
      same = both.ensures.values ∙ sym keeps.values;
      layout = both.ensures.layout ∙ sym keeps.layout;
      encoding = fits_anew own c.step_to_entries.new.self cells e keeps none both.ensures.fits (both.ensures.kind ∙ sym c.requires.kind);
      coded = coded;
      codes = codes ∙ codes_by_table cells c.in_ok-ranked.ranked.entries.items c.in_ok-ranked.ensures.entries e both.table.items (rw c.deref.ensures.value at both.ensures.codes);
      held = rw keeps.layout c.requires.held;
      few = omega (arith, few, ap length keeps.values);
      room = omega (arith, both.ensures.room, c.count_more-more.ensures, ap length keeps.values);
    }
