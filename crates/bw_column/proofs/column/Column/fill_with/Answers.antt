use Rattle.std.proofs.Common.{None, ap, arith, count_by, get_or, length, refl, replicate, ◌%◌, ◌+◌, ◌-◌, ◌≡◌, ◌≤◌, ◌∙◌}
use Rattle.bw_column.proofs.Filled.{all_filled, filled_len, one_for_all, rest_unfilled, run_filled}
use Rattle.bw_column.proofs.Overwriting.{below_len}
use Rattle.bw_column.proofs.column.Column.fill_with.Goals as goal

pub loop-place-preserved : goal.loop-place-preserved
loop-place-preserved c =
    let places = c.args.places.now in
    let value = c.args.value in
    let old = c.args.self.now.values in
    let now = c.loop-place.self.values in
    let at = c.loop-place.at in
    let i = c.loop-place.invariant in
    let is = c.in-Some.ensures in
    let place = c.in-Some.place in
    let start = place - place % 64 in
    let n = c.min-n.result in
    let rows = c.bits.result in
    let there = below_len places place is.1 in
    let inside : start + n ≤ length old = omega (arith, c.min-n.ensures, c.len-end.ensures.rows, there, c.requires.places) in
    let past : at ≤ start + n = omega (arith, c.min-n.ensures, c.len-end.ensures.rows, there, is.0) in
    let to : start ≤ place = omega arith in
    let long : length c.fill_rows.new.self.values ≡ length old = ap length c.fill_rows.ensures.values ∙ filled_len places (λ _. value) old now at i.len i.done i.rest start n rows place inside past to is.2 c.bits.ensures (λ _. value) (λ j t. refl) in
    record {
      at = omega (arith, inside, c.requires.places);
      len = long;
      done = λ k h. ap (λ xs. get_or xs k None) c.fill_rows.ensures.values ∙ run_filled places (λ _. value) old now at i.len i.done i.rest start n rows place inside past to is.2 c.bits.ensures (λ _. value) (λ j t. refl) k h;
      rest = λ k h. ap (λ xs. get_or xs k None) c.fill_rows.ensures.values ∙ rest_unfilled places (λ _. value) old now at i.len i.done i.rest start n rows place inside past to is.2 c.bits.ensures (λ _. value) (λ j t. refl) k h;
      layout = c.fill_rows.ensures.layout ∙ i.layout;
      encoding = c.fill_rows.ensures.encoding ∙ i.encoding;
    }

pub returns-clause-values : goal.returns-clause-values
returns-clause-values c =
    let i = c.loop-place.invariant in
    all_filled c.args.places.now (λ _. c.args.value) c.args.self.now.values c.loop-place.self.values c.loop-place.at i.len i.done i.rest (replicate (count_by (λ row. row) c.args.places.now.rows) c.args.value) (one_for_all c.args.places.now c.args.value) c.in_default.ensures
