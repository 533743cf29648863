use Rattle.std.proofs.Common.{None, Option, ap, arith, drop, get_or, length, take, ℕ, ℤ, ◌%◌, ◌+◌, ◌-◌, ◌≡◌, ◌≤◌, ◌∙◌}
use Rattle.bw_mask.specs.Masks.{row_at}
use Rattle.bw_column.specs.Places.{chosen_values}
use Rattle.bw_column.specs.Values.{value_at}
use Rattle.bw_column.proofs.Filled.{all_filled, filled_len, outside_word, rest_unfilled, run_filled, taken_of_run}
use Rattle.bw_column.proofs.Ordered.{chosen_at}
use Rattle.bw_column.proofs.Overwriting.{below_len}
use Rattle.bw_column.proofs.column.Column.copy_runs.Goals as goal

pub loop-place-preserved : goal.loop-place-preserved
loop-place-preserved c =
    let places = c.args.places.now in
    let copy = c.args.copy.now.values in
    let v : ℕ → Option ℤ = value_at copy in
    let old = c.args.self.now.values in
    let now = c.loop-place.self.values in
    let at = c.loop-place.at in
    let i = c.loop-place.invariant in
    let is = c.in-Some.ensures in
    let place = c.in-Some.place in
    let start = place - place % 64 in
    let n = c.min-n.result in
    let rows = c.bits.result in
    let u : ℕ → Option ℤ = λ j. value_at (take n (drop start copy)) (j - start) in
    let there = below_len places place is.1 in
    let inside : start + n ≤ length old = omega (arith, c.min-n.ensures, c.len-end.ensures.rows, there, c.requires.places) in
    let past : at ≤ start + n = omega (arith, c.min-n.ensures, c.len-end.ensures.rows, there, is.0) in
    let to : start ≤ place = omega arith in
    let agree = taken_of_run copy start rows n (omega (arith, inside, c.requires.copied)) (outside_word rows n (λ i. row_at places (start + i)) c.bits.ensures) in
    let long : length c.copy_codes.new.self.values ≡ length old = ap length c.copy_codes.ensures.values ∙ filled_len places v old now at i.len i.done i.rest start n rows place inside past to is.2 c.bits.ensures u agree in
    record {
      at = omega (arith, inside, c.requires.places);
      len = long;
      done = λ k h. ap (λ xs. get_or xs k None) c.copy_codes.ensures.values ∙ run_filled places v old now at i.len i.done i.rest start n rows place inside past to is.2 c.bits.ensures u agree k h;
      rest = λ k h. ap (λ xs. get_or xs k None) c.copy_codes.ensures.values ∙ rest_unfilled places v old now at i.len i.done i.rest start n rows place inside past to is.2 c.bits.ensures u agree k h;
      layout = c.copy_codes.ensures.layout ∙ i.layout;
      encoding = c.copy_codes.ensures.encoding ∙ i.encoding;
    }

pub returns-clause-values : goal.returns-clause-values
returns-clause-values c =
    let i = c.loop-place.invariant in
    let places = c.args.places.now in
    let copy = c.args.copy.now.values in
    all_filled places (value_at copy) c.args.self.now.values c.loop-place.self.values c.loop-place.at i.len i.done i.rest (chosen_values places copy) (chosen_at places copy) c.in_default.ensures
