use Rattle.std.proofs.Common.{All, arith, length, of_z, subst, sym, take, to_z, w64, ◌<◌, ◌∙◌, ◌≡◌, ◌≤ℤ◌, [], ◌∷◌}
use Rattle.std.proofs.lemmas.Int.{ints, to_z-of_z}
use Rattle.std.proofs.lemmas.List.{take_all}
use Rattle.std.proofs.lemmas.List.Elements.{All-append, All-cons, All-nil}
use Rattle.bw_cells.specs.SetFunctions.{known}
use Rattle.bw_groups.proofs.KnownMore.{from_above, from_below, kept_more, kept_same}
use Rattle.bw_groups.proofs.numbers.known_ends.Goals.{in-Some, in_default}
use Rattle.bw_groups.proofs.numbers.known_ends.Goals as goal

pub values-preserved : goal.values-preserved
values-preserved c =
    let values = c.args.values.now in
    let i = c.values.i in
    let l : i < length values = omega (arith, c.values-test.true, c.len-i-end.ensures) in
    elim c.match-get.branch [
      | in-Some w ↦
          let more = kept_more (λ value. value) values i l w.in-Some.value (sym c.get.ensures ∙ w.in-Some.is) in
          let so_far = known (take i values) in
          let x = w.in-Some.value in
          let least = w.min-least.result in
          let greatest = w.max-greatest.result in
          let value_back : to_z w64 (of_z w64 x) ≡ x = search (arith, ints, to_z-of_z) in
          let least_back : to_z w64 (of_z w64 least) ≡ least = search (arith, ints, to_z-of_z) in
          let greatest_back : to_z w64 (of_z w64 greatest) ≡ greatest = search (arith, ints, to_z-of_z) in
          let below : least ≤ℤ to_z w64 c.values.least-bits = omega (arith, ints, w.min-least.ensures.self_bound) in
          let below_x : least ≤ℤ x = omega (arith, ints, w.min-least.ensures.other_bound, value_back) in
          let above : to_z w64 c.values.greatest-bits ≤ℤ greatest = omega (arith, ints, w.max-greatest.ensures.self_bound) in
          let above_x : x ≤ℤ greatest = omega (arith, ints, w.max-greatest.ensures.other_bound, value_back) in
          rw (w.least-is, w.greatest-is, least_back, greatest_back, more) (record {
            least = All-append (λ y. least ≤ℤ y) so_far (x ∷ []) (from_below (to_z w64 c.values.least-bits) least so_far below c.values.invariant.least) (All-cons (λ y. least ≤ℤ y) x [] below_x (All-nil (λ y. least ≤ℤ y)));
            greatest = All-append (λ y. y ≤ℤ greatest) so_far (x ∷ []) (from_above (to_z w64 c.values.greatest-bits) greatest so_far above c.values.invariant.greatest) (All-cons (λ y. y ≤ℤ greatest) x [] above_x (All-nil (λ y. y ≤ℤ greatest)));
          })
      | in_default w ↦
          let same = kept_same (λ value. value) values i l (sym c.get.ensures ∙ w.in_default.is) in
          rw (w.least-is, w.greatest-is, same) c.values.invariant
    ]

pub returns-clause-least : goal.returns-clause-least
returns-clause-least c =
    let values = c.args.values.now in
    let all : take c.values.i values ≡ values = take_all c.values.i values (omega (arith, c.values-test.false, c.values.auto.i-end, c.len-i-end.ensures)) in
    subst (λ vs. All (λ x. to_z w64 c.values.least-bits ≤ℤ x) (known vs)) all c.values.invariant.least

pub returns-clause-greatest : goal.returns-clause-greatest
returns-clause-greatest c =
    let values = c.args.values.now in
    let all : take c.values.i values ≡ values = take_all c.values.i values (omega (arith, c.values-test.false, c.values.auto.i-end, c.len-i-end.ensures)) in
    subst (λ vs. All (λ x. x ≤ℤ to_z w64 c.values.greatest-bits) (known vs)) all c.values.invariant.greatest
