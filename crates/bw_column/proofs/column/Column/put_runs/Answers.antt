use Rattle.std.proofs.Common.{None, ap, arith, get_or, length, length-set, min, sym, ◌%◌, ◌+◌, ◌-◌, ◌≡◌, ◌≤◌, ◌∙◌}
use Rattle.std.proofs.lemmas.Bool.{both_ways, lt-ltb}
use Rattle.bw_mask.specs.Masks.{len}
use Rattle.bw_column.specs.Places.{ArePutFrom, rank}
use Rattle.bw_column.proofs.Overwriting.{all_done, below_len, done_more, next_below, next_rank, place_below, rest_less, run_done, run_rest}
use Rattle.bw_column.proofs.Ranks.{rank_skip}
use Rattle.bw_column.proofs.column.Column.put_runs.Goals.{else-start-at, then-start-at}
use Rattle.bw_column.proofs.column.Column.put_runs.Goals as goal

pub bounds-values-next : goal.bounds-values-next
bounds-values-next c =
    let old = c.args.self.now.values in
    let i = c.loop-place.invariant in
    omega (arith, c.requires.count, next_below c.args.places.now c.args.values.now old c.loop-place.self.values c.loop-place.at i.len i.done i.rest c.in-Some.place c.loop-place.next c.in-Some.ensures i.next)

pub code_of-code-requires-clause-inside : goal.code_of-code-requires-clause-inside
code_of-code-requires-clause-inside c =
    let old = c.args.self.now.values in
    let i = c.loop-place.invariant in
    omega (arith, c.requires.count, next_below c.args.places.now c.args.values.now old c.loop-place.self.values c.loop-place.at i.len i.done i.rest c.in-Some.place c.loop-place.next c.in-Some.ensures i.next)

pub loop-place-preserved-then-bits-lt-FEW : goal.loop-place-preserved-then-bits-lt-FEW
loop-place-preserved-then-bits-lt-FEW c =
    let places = c.args.places.now in
    let values = c.args.values.now in
    let old = c.args.self.now.values in
    let now = c.loop-place.self.values in
    let place = c.in-Some.place in
    let next = c.loop-place.next in
    let i = c.loop-place.invariant in
    let is = c.in-Some.ensures in
    let low = place_below places values old now c.loop-place.at i.len i.done i.rest place next is i.next c.requires.places in
    let long : length c.put.new.self.values ≡ length now = ap length c.put.ensures.values ∙ length-set now place (get_or values next None) in
    record {
      at = omega (arith, long, low);
      next = next_rank places values old now c.loop-place.at i.len i.done i.rest place next is i.next;
      len = long ∙ i.len;
      done = λ k h. ap (λ xs. get_or xs k None) c.put.ensures.values ∙ done_more places values old now c.loop-place.at i.len i.done i.rest place next is i.next c.requires.places k h;
      rest = λ k h. ap (λ xs. get_or xs k None) c.put.ensures.values ∙ rest_less places values old now c.loop-place.at i.len i.done i.rest place next is i.next c.requires.places k h;
      layout = c.put.ensures.layout ∙ i.layout;
      encoding = c.put.ensures.encoding ∙ i.encoding;
    }

pub put_word-next-requires-clause-first : goal.put_word-next-requires-clause-first
put_word-next-requires-clause-first c =
    let places = c.args.places.now in
    let is = c.in-Some.ensures in
    let place = c.in-Some.place in
    let start = place - place % 64 in
    let from : c.loop-place.at ≤ start =
    elim c.if-start-at.branch [
      | then-start-at w ↦ absurd (both_ways c.if-start-at.value c.if-bits-lt-FEW.false (w.value-is ∙ lt-ltb start c.loop-place.at w.if-start-at.true))
      | else-start-at w ↦ omega (arith, w.if-start-at.false)
    ] in
    c.loop-place.invariant.next ∙ sym (rank_skip places c.loop-place.at start from (λ j a b. is.2 j a (omega (arith, b))))

pub loop-place-preserved : goal.loop-place-preserved
loop-place-preserved c =
    let places = c.args.places.now in
    let values = c.args.values.now in
    let old = c.args.self.now.values in
    let now = c.loop-place.self.values in
    let i = c.loop-place.invariant in
    let is = c.in-Some.ensures in
    let n = c.min-n.result in
    let there = below_len places c.in-Some.place is.1 in
    let place = c.in-Some.place in
    let start = place - place % 64 in
    let from : c.loop-place.at ≤ start =
    elim c.if-start-at.branch [
      | then-start-at w ↦ absurd (both_ways c.if-start-at.value c.if-bits-lt-FEW.false (w.value-is ∙ lt-ltb start c.loop-place.at w.if-start-at.true))
      | else-start-at w ↦ omega (arith, w.if-start-at.false)
    ] in
    let to : start ≤ place = omega arith in
    let inside : start + n ≤ len places = omega (arith, c.min-n.ensures, c.len-end.ensures.rows, there) in
    let size : min (len places - start) 64 ≡ n = rw (← c.len-end.ensures.rows) (sym c.min-n.ensures) in
    let new = c.put_word-next.new.self.values in
    let put : ArePutFrom places values start n new now = rw size at c.put_word-next.ensures.put in
    let long : length new ≡ length old = put.count ∙ i.len in
    record {
      at = omega (arith, long, inside, c.requires.places);
      next = c.put_word-next.ensures.next ∙ ap (λ m. rank places (start + m)) size;
      len = long;
      done = run_done places values old now c.loop-place.at i.len i.done i.rest start n place new put from to is.2;
      rest = run_rest places values old now c.loop-place.at i.len i.done i.rest start n place new put from to is.2;
      layout = c.put_word-next.ensures.layout ∙ i.layout;
      encoding = c.put_word-next.ensures.encoding ∙ i.encoding;
    }

pub returns-clause-values : goal.returns-clause-values
returns-clause-values c =
    let old = c.args.self.now.values in
    let i = c.loop-place.invariant in
    all_done c.args.places.now c.args.values.now old c.loop-place.self.values c.loop-place.at i.len i.done i.rest c.in_default.ensures
