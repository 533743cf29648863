use Rattle.std.proofs.Common.{All, [], ◌∷◌, ◌++◌, ap, arith, length, refl, replicate, sym, ◌^◌, ◌≤◌, ◌∙◌}
use Rattle.std.proofs.lemmas.Bool.{both_ways}
use Rattle.std.proofs.lemmas.List.Elements.{All-replicate}
use Rattle.bw_code.specs.Encodings.{IsFit}
use Rattle.bw_code.proofs.Lists.{made_len}
use Rattle.bw_column.specs.Codes.{IsCoded}
use Rattle.bw_column.specs.Preparing.{after}
use Rattle.bw_column.specs.Values.{IsNullOrHeld, known}
use Rattle.bw_column.proofs.Grown.{for_same}
use Rattle.bw_column.proofs.Repeated.{fit_times, once, some_times}
use Rattle.bw_column.proofs.column.Column.room_to_fill.Goals as goal

pub reserve-requires : goal.reserve-requires
reserve-requires c = grind (arith, made_len)

pub step_with-requires-clause-few : goal.step_with-requires-clause-few
step_with-requires-clause-few c = grind (arith, made_len)

pub returns-then-has_code_times-clause-prepared : goal.returns-then-has_code_times-clause-prepared
returns-then-has_code_times-clause-prepared c =
    let values = replicate c.args.count c.args.value in
    let column = c.reserve.new.self in
    let keeps = c.reserve.ensures.keeps in
    let all : All (IsCoded column.encoding) values = rw (keeps.encoding, ← c.self.view_is) (c.has_code_times.ensures.0 c.if-has_code_times.true) in
    let few : length c.args.self.now.values ≤ 2 ^ 24 = grind (arith, made_len) in
    record {
      can = tt;
      same = refl;
      layout = refl;
      encoding = record { stays = λ _. refl; anew = λ none. absurd (none all) };
      coded = all;
      codes = tt;
      held = rw keeps.layout c.requires;
      few = omega (arith, few, ap length keeps.values);
      room = omega (arith, c.in_ok-reserve.ensures.room, ap length keeps.values);
    }

pub step_with-requires-clause-held : goal.step_with-requires-clause-held
step_with-requires-clause-held c =
    let none : All (IsCoded c.self.inside.encoding) (replicate c.args.count c.args.value) → ⊥ = λ all. both_ways c.has_code_times.result c.if-has_code_times.false (c.has_code_times.ensures.1 all) in
    let some = some_times (IsCoded c.self.inside.encoding) c.args.count c.args.value none in
    rw c.as_slice.ensures (All-replicate (IsNullOrHeld c.args.self.now.layout) 1 c.args.value (once (IsNullOrHeld c.args.self.now.layout) c.args.count c.args.value some c.requires))

pub returns-clause-prepared : goal.returns-clause-prepared
returns-clause-prepared c =
    let value = c.args.value in
    let n = c.args.count in
    let old = c.args.self.now in
    let column = c.step_with.new.self in
    let keeps = c.in_ok-step.ensures.keeps in
    let e = (after column c.in_ok-step.step).encoding in
    let none : All (IsCoded old.encoding) (replicate n value) → ⊥ = λ all.
    let own : All (IsCoded c.self.inside.encoding) (replicate n value) = rw (← c.self.view_is) at all in
    both_ways c.has_code_times.result c.if-has_code_times.false (c.has_code_times.ensures.1 own) in
    let some = some_times (IsCoded old.encoding) n value none in
    let few : length old.values ≤ 2 ^ 24 = grind (arith, made_len) in
    let fits : IsFit (known (old.values ++ value ∷ [])) e = rw (← c.as_slice.ensures) c.in_ok-step.ensures.fits in
    let one : All (IsCoded e) (value ∷ []) = rw c.as_slice.ensures at c.in_ok-step.ensures.coded in
    let coded : IsCoded e value = one 0 value (omega arith) in
    record {
      can = c.in_ok-step.ensures.can;
      same = c.in_ok-step.ensures.values ∙ sym keeps.values;
      layout = c.in_ok-step.ensures.layout ∙ sym keeps.layout;
      encoding = for_same old.values column.values (replicate n value) old.encoding column.encoding e keeps.values keeps.encoding record {
        stays = λ all. absurd (none all);
        anew = λ _. (fit_times old.values value n e some fits, c.in_ok-step.ensures.kind);
      };
      coded = All-replicate (IsCoded e) n value coded;
      codes = tt;
      held = rw keeps.layout c.requires;
      few = omega (arith, few, ap length keeps.values);
      room = omega (arith, c.in_ok-step.ensures.room, ap length keeps.values);
    }
