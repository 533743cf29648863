use Rattle.std.proofs.Common.{None, ap, arith, get_or, length, of_z, option_map, sym, take, to_z, w64, [], ◌++◌, ◌<◌, ◌∙◌, ◌∷◌, ◌≡◌, unsigned_abs, filter_map, Option, ℤ, ℕ}
use Rattle.std.specs.Prelude.{◌-ℤ◌}
use Rattle.std.proofs.lemmas.Int.{ints, to_z-of_z}
use Rattle.std.proofs.lemmas.List.{take_all}
use Rattle.bw_groups.proofs.KnownMore.{kept_more, kept_same}
use Rattle.bw_groups.proofs.numbers.distances_from.Goals.{in-Some+in_ok-push, in_default}
use Rattle.bw_groups.proofs.numbers.distances_from.Goals as goal

pub values-preserved : goal.values-preserved
values-preserved c =
    let values = c.args.values.now in
    let i = c.values.i in
    let l : i < length values = omega (arith, c.values-test.true, c.len-i-end.ensures) in
    let h : Option ℤ → Option ℕ = λ value. option_map (λ x. unsigned_abs (x -ℤ to_z w64 (of_z w64 c.args.base))) value in
    let is : c.distance.result ≡ h (get_or values i None) = c.distance.ensures ∙ ap h c.get.ensures in
    elim c.match-distance.branch [
      | in-Some+in_ok-push w ↦ rw (w.distances-is, w.in_ok-push.ensures.items) (ap (λ ds. ds ++ w.in-Some.distance ∷ []) c.values.invariant ∙ sym (kept_more h values i l w.in-Some.distance (sym is ∙ w.in-Some.is)))
      | in_default w ↦ rw w.distances-is (c.values.invariant ∙ sym (kept_same h values i l (sym is ∙ w.in_default.is)))
    ]

pub returns : goal.returns
returns c =
    let values = c.args.values.now in
    let back : to_z w64 (of_z w64 c.args.base) ≡ c.args.base = search (arith, ints, to_z-of_z) in
    let h : ℤ → Option ℤ → Option ℕ = λ b value. option_map (λ x. unsigned_abs (x -ℤ b)) value in
    let all : take c.values.i values ≡ values = take_all c.values.i values (omega (arith, c.values-test.false, c.len-i-end.ensures)) in
    c.values.invariant ∙ ap (filter_map (h (to_z w64 (of_z w64 c.args.base)))) all ∙ ap (λ b. filter_map (h b) values) back
