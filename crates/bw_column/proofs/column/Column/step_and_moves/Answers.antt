use Rattle.std.proofs.Common.{All, ap, arith, is_some, length, refl, sym, true, true≢false, ℤ, ◌++◌, ◌∙◌, ◌≡◌}
use Rattle.std.specs.Prelude.{Contains, ◌↔◌}
use Rattle.bw_code.specs.Encodings.{entry_code}
use Rattle.bw_code.specs.declared.encoding.Encoding.TheVariants as by
use Rattle.bw_dictionary.specs.Merging.{AreStandingCodes, StandsIn}
use Rattle.bw_column.specs.Codes.{IsCoded}
use Rattle.bw_column.specs.Places.{chosen_values}
use Rattle.bw_column.specs.Preparing.{IsEncodingFor}
use Rattle.bw_column.specs.Values.{IsNullOrHeld, known}
use Rattle.bw_column.proofs.Grown.{coded_standing, fit_coded, standing_coded, standing_moved}
use Rattle.bw_column.proofs.Known.{both_coded}
use Rattle.bw_column.proofs.Masked.{for_chosen}
use Rattle.bw_column.proofs.Ordered.{all_chosen}
use Rattle.bw_column.proofs.column.Column.step_and_moves.Goals as goal

pub returns-in-Some-clause-prepared : goal.returns-in-Some-clause-prepared
returns-in-Some-clause-prepared c =
    let entries = c.entries-entries.result.now in
    let values = c.args.copy.now.values in
    let stands = c.in_ok-stands.stands.items in
    let others = c.entries.result.now in
    let stand : (x : ℤ) → (StandsIn entries stands x ↔ Contains (known values) x) = c.in_ok-stands.ensures.stands in
    let places = c.args.places.now in
    let column = c.reserve.new.self in
    let keeps = c.reserve.ensures.keeps in
    let all : (x : ℤ) → StandsIn entries stands x → Contains others x = rw c.deref.ensures.value at (c.in_ok-moves.ensures.all.0 (rw c.in-Some.is refl)) in
    let own : All (IsCoded c.args.self.now.encoding) values = rw c.entries.ensures.is (standing_coded entries stands values stand others all) in
    let coded : All (IsCoded column.encoding) (chosen_values places values) = rw keeps.encoding (all_chosen (IsCoded c.args.self.now.encoding) places values tt own) in
    record {
      can = tt;
      same = refl;
      layout = refl;
      encoding = record { stays = λ _. refl; anew = λ none. absurd (none coded) };
      coded = coded;
      codes = tt;
      held = rw keeps.layout (all_chosen (IsNullOrHeld c.args.self.now.layout) places values tt c.requires.held);
      few = omega (arith, c.len-few.ensures.few, ap length keeps.values);
      room = omega (arith, c.in_ok-reserve.ensures.room, ap length keeps.values);
    }

pub returns-in-Some-clause-moves : goal.returns-in-Some-clause-moves
returns-in-Some-clause-moves c =
    let entries = c.entries-entries.result.now in
    let values = c.args.copy.now.values in
    let stands = c.in_ok-stands.stands.items in
    let others = c.entries.result.now in
    let are : AreStandingCodes (entry_code others) entries stands c.in-Some.moves.items = rw c.deref.ensures.value at (rw c.in-Some.is at c.in_ok-moves.ensures.places) in
    rw (c.entries-entries.ensures.is, c.reserve.ensures.keeps.encoding, c.entries.ensures.is)
    (standing_moved entries stands values c.in_ok-stands.ensures.stands c.entries-entries.ensures.ascending (by.Dictionary others) c.in-Some.moves.items are)

pub grown_in-requires-clause-own_stands : goal.grown_in-requires-clause-own_stands
grown_in-requires-clause-own_stands c = rw c.deref-2.ensures.value c.in_ok-own_stands.ensures.stands

pub grown_in-requires-clause-others : goal.grown_in-requires-clause-others
grown_in-requires-clause-others c = rw c.deref-3.ensures.value c.in_ok-stands.ensures.stands

pub returns-clause-prepared : goal.returns-clause-prepared
returns-clause-prepared c =
    let entries = c.entries-entries.result.now in
    let values = c.args.copy.now.values in
    let stands = c.in_ok-stands.stands.items in
    let others = c.entries.result.now in
    let stand : (x : ℤ) → (StandsIn entries stands x ↔ Contains (known values) x) = c.in_ok-stands.ensures.stands in
    let places = c.args.places.now in
    let own = c.args.self.now in
    let grown = c.in_ok-grown in
    let column = grown.grown.column in
    let none : All (IsCoded own.encoding) values → ⊥ = λ all.
    let there : (x : ℤ) → StandsIn entries stands x → Contains others x = coded_standing entries stands values stand others (rw c.entries.ensures.is at all) in
    let it : is_some c.in_ok-moves.field-0 ≡ true = c.in_ok-moves.ensures.all.1 (rw c.deref.ensures.value there) in
    true≢false (sym it ∙ ap is_some c.in_default.is) in
    let for : IsEncodingFor own.values own.encoding values column.encoding = record { stays = λ all. absurd (none all); anew = λ _. (grown.ensures.fits, grown.ensures.kind ∙ sym c.requires.own) } in
    let list = known (own.values ++ values) in
    let coded = (both_coded column.encoding own.values values list refl (fit_coded list column.encoding grown.ensures.kind grown.ensures.fits)).1 in
    record {
      can = tt;
      same = grown.ensures.values;
      layout = grown.ensures.layout ∙ c.layout.ensures;
      encoding = for_chosen places values c.requires.masked own.values own.encoding column.encoding for;
      coded = all_chosen (IsCoded column.encoding) places values tt coded;
      codes = tt;
      held = all_chosen (IsNullOrHeld own.layout) places values tt c.requires.held;
      few = omega (arith, c.len-few.ensures.few, c.len-few.ensures.count);
      room = omega (arith, grown.ensures.room);
    }

pub returns-clause-moves : goal.returns-clause-moves
returns-clause-moves c =
    let entries = c.entries-entries.result.now in
    let values = c.args.copy.now.values in
    let stands = c.in_ok-stands.stands.items in
    let grown = c.in_ok-grown.grown in
    rw c.entries-entries.ensures.is
    (standing_moved entries stands values c.in_ok-stands.ensures.stands c.entries-entries.ensures.ascending grown.column.encoding grown.codes.items (rw c.deref-3.ensures.value at c.in_ok-grown.ensures.codes))
