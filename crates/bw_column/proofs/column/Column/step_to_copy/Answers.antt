use Rattle.std.proofs.Common.{All, ap, arith, length, refl, sym, ◌∙◌}
use Rattle.std.proofs.lemmas.Bool.{both_ways}
use Rattle.bw_column.specs.Codes.{IsCoded}
use Rattle.bw_column.specs.Places.{chosen_values}
use Rattle.bw_column.specs.Preparing.{IsEncodingFor, after}
use Rattle.bw_column.specs.Values.{IsNullOrHeld}
use Rattle.bw_column.proofs.Grown.{for_same}
use Rattle.bw_column.proofs.Masked.{for_chosen}
use Rattle.bw_column.proofs.Ordered.{all_chosen}
use Rattle.bw_column.proofs.column.Column.step_to_copy.Goals as goal

pub returns-then-has_codes_of-clause-prepared : goal.returns-then-has_codes_of-clause-prepared
returns-then-has_codes_of-clause-prepared c =
    let places = c.args.places.now in
    let values = c.args.copy.now.values in
    let column = c.reserve.new.self in
    let keeps = c.reserve.ensures.keeps in
    let coded : All (IsCoded column.encoding) values = rw keeps.encoding (c.has_codes_of.ensures.0 c.if-has_codes_of.true) in
    let all : All (IsCoded column.encoding) (chosen_values places values) = all_chosen (IsCoded column.encoding) places values tt coded in
    record {
      can = tt;
      same = refl;
      layout = refl;
      encoding = record { stays = λ _. refl; anew = λ none. absurd (none all) };
      coded = all;
      codes = tt;
      held = rw keeps.layout (all_chosen (IsNullOrHeld c.args.self.now.layout) places values tt c.requires.held);
      few = omega (arith, c.len-few.ensures.few, ap length keeps.values);
      room = omega (arith, c.in_ok-reserve.ensures.room, ap length keeps.values);
    }

pub returns-clause-prepared : goal.returns-clause-prepared
returns-clause-prepared c =
    let places = c.args.places.now in
    let values = c.args.copy.now.values in
    let old = c.args.self.now in
    let column = c.step_with.new.self in
    let keeps = c.in_ok-step.ensures.keeps in
    let e = (after column c.in_ok-step.step).encoding in
    let none : All (IsCoded old.encoding) values → ⊥ = λ all. both_ways c.has_codes_of.result c.if-has_codes_of.false (c.has_codes_of.ensures.1 all) in
    let for : IsEncodingFor old.values old.encoding values e = record { stays = λ all. absurd (none all); anew = λ _. (c.in_ok-step.ensures.fits, c.in_ok-step.ensures.kind) } in
    record {
      can = c.in_ok-step.ensures.can;
      same = c.in_ok-step.ensures.values ∙ sym keeps.values;
      layout = c.in_ok-step.ensures.layout ∙ sym keeps.layout;
      encoding = for_same old.values column.values (chosen_values places values) old.encoding column.encoding e keeps.values keeps.encoding (for_chosen places values c.requires.masked old.values old.encoding e for);
      coded = all_chosen (IsCoded e) places values tt c.in_ok-step.ensures.coded;
      codes = tt;
      held = rw keeps.layout (all_chosen (IsNullOrHeld old.layout) places values tt c.requires.held);
      few = omega (arith, c.len-few.ensures.few, ap length keeps.values);
      room = omega (arith, c.in_ok-step.ensures.room, ap length keeps.values);
    }
