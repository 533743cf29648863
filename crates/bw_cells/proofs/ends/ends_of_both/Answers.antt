use Rattle.std.proofs.Common.{of_z, rules, to_z, w64, ◌≡◌, ◌∙◌}
use Rattle.std.proofs.lemmas.Int.{to_z-of_z}
use Rattle.bw_cells.proofs.KnownEnds.{greatest_both, least_both}
use Rattle.bw_cells.proofs.ends.ends_of_both.Goals as goal

pub returns : goal.returns
returns c =
    let least_a : to_z w64 (of_z w64 c.in-Some.a.least) ≡ c.in-Some.a.least = to_z-of_z w64 c.in-Some.a.least (search rules) in
    let least_b : to_z w64 (of_z w64 c.in-Some-second.b.least) ≡ c.in-Some-second.b.least = to_z-of_z w64 c.in-Some-second.b.least (search rules) in
    let greatest_a : to_z w64 (of_z w64 c.in-Some.a.greatest) ≡ c.in-Some.a.greatest = to_z-of_z w64 c.in-Some.a.greatest (search rules) in
    let greatest_b : to_z w64 (of_z w64 c.in-Some-second.b.greatest) ≡ c.in-Some-second.b.greatest = to_z-of_z w64 c.in-Some-second.b.greatest (search rules) in
    let least : to_z w64 (of_z w64 c.min.result) ≡ c.min.result = to_z-of_z w64 c.min.result (search rules) in
    let greatest : to_z w64 (of_z w64 c.max.result) ≡ c.max.result = to_z-of_z w64 c.max.result (search rules) in
    λ xs ys first second. (
      least_both xs ys c.in-Some.a.least c.in-Some-second.b.least _ (rw c.in-Some.is at first).0 (rw c.in-Some-second.is at second).0 (least ∙ rw (least_a, least_b) at c.min.ensures.value),
      greatest_both xs ys c.in-Some.a.greatest c.in-Some-second.b.greatest _ (rw c.in-Some.is at first).1 (rw c.in-Some-second.is at second).1 (greatest ∙ rw (greatest_a, greatest_b) at c.max.ensures.value),
    )
