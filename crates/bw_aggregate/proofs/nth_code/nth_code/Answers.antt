use Rattle.std.proofs.Common.{ap, arith, length, subst, sym, ◌<◌, ◌==◌, ◌^◌, ◌≡◌, ◌∙◌}
use Rattle.std.specs.List.{items_where_true}
use Rattle.std.specs.Prelude.{All}
use Rattle.bw_aggregate.specs.Descents.{IsRest, front}
use Rattle.bw_aggregate.proofs.Descents.{all_chosen, descent_end, descent_start}
use Rattle.bw_aggregate.proofs.DigitCounts.{begin_of, left_alike, left_start}
use Rattle.bw_aggregate.proofs.nth_code.nth_code.Goals as goal

pub digits-init : goal.digits-init
digits-init g c =
    let column = g.C.CodeColumn.seen c.args.column.now in
    let width = c.width.result in
    let low : All (λ x. x < 2 ^ width) column.codes = subst (λ k. All (λ x. x < 2 ^ k) column.codes) (sym c.width.ensures.width) c.width.ensures.fit in
    let held = items_where_true c.args.rows.now.rows column.codes in
    record {
      long = omega (arith, c.in_ok-counts.ensures.len);
      below = omega (arith, c.width.ensures.width);
      small = rw c.width.ensures.width (omega arith);
      rest = descent_start held c.args.nth width (all_chosen width c.args.rows.now.rows column.codes low) c.requires.there;
      len = ap length c.in_ok-left.ensures ∙ c.requires.len;
      left = λ some. left_start c.args.rows.now c.in_ok-left.left column.codes width c.in_ok-left.ensures low;
    }

pub next_digit-way-requires-clause-begin : goal.next_digit-way-requires-clause-begin
next_digit-way-requires-clause-begin g c r h is_in =
    begin_of c.args.rows.now (g.C.CodeColumn.seen c.args.column.now).codes c.digits.way.below c.digits.way.found c.digits.left (c.digits.invariant.left (omega (arith, c.digits-test.true))) r is_in

pub next_digit-way-requires-clause-there : goal.next_digit-way-requires-clause-there
next_digit-way-requires-clause-there g c =
    let column = g.C.CodeColumn.seen c.args.column.now in
    let way = c.digits.way in
    let left = c.digits.invariant.left (omega (arith, c.digits-test.true)) in
    let same : length c.args.rows.now.rows ≡ length column.codes = c.requires.len in
    let alike = left_alike c.args.rows.now.rows c.digits.left.rows column.codes same c.digits.invariant.len (λ x. front way.below x == way.found) (λ x. front way.below x == way.found) left.each (λ x h. h) in
    omega (arith, alike, c.digits.invariant.rest.there)

pub digits-preserved-then-way-gt0 : goal.digits-preserved-then-way-gt0
digits-preserved-then-way-gt0 g c =
    let before = c.digits.invariant in
    let left = before.left (omega (arith, c.digits-test.true)) in
    let next = c.next_digit-way.ensures in
    record {
      long = next.long;
      below = omega (arith, next.nearer, before.below);
      small = next.small;
      rest = next.rest c.args.rows.now c.args.nth left before.rest;
      len = c.in_ok-left-2.ensures.len ∙ before.len;
      left = λ some. record { len = c.in_ok-left-2.ensures.len ∙ before.len ∙ sym c.requires.len; each = λ r. c.in_ok-left-2.ensures.rows r ∙ next.within c.args.rows.now r left };
    }

pub digits-preserved : goal.digits-preserved
digits-preserved g c =
    let before = c.digits.invariant in
    let left = before.left (omega (arith, c.digits-test.true)) in
    let next = c.next_digit-way.ensures in
    record {
      long = next.long;
      below = omega (arith, next.nearer, before.below);
      small = next.small;
      rest = next.rest c.args.rows.now c.args.nth left before.rest;
      len = before.len;
      left = λ some. absurd (omega (arith, some, c.if-way-gt0.false));
    }

pub returns : goal.returns
returns g c =
    let held = items_where_true c.args.rows.now.rows (g.C.CodeColumn.seen c.args.column.now).codes in
    let way = c.digits.way in
    let none : way.below ≡ 0 = omega (arith, c.digits-test.false) in
    descent_end held c.args.nth way.rest way.found (subst (λ i. IsRest held c.args.nth i way.rest way.found) none c.digits.invariant.rest)
