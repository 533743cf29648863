use Rattle.std.proofs.Common.{ap, arith, length, map, rules, take, ◌++◌, ◌∙◌, ◌≡◌}
use Rattle.bw_groups.specs.Scales.{number_on}
use Rattle.bw_groups.proofs.Measured.{measured_number}
use Rattle.bw_groups.proofs.Values.{front_is}
use Rattle.bw_groups.proofs.scale.put_numbers.Goals as goal

pub returns : goal.returns
returns c = λ values measured all.
    let scale = c.args.scale.now in
    let number = number_on scale.ends.least scale.null in
    let each = measured_number scale.ends.least scale.null scale.narrow scale.held values c.args.measured.len c.args.measured.present c.args.run.now measured all in
    let wide : length c.numbers_of-new.result ≡ 64 = search rules in
    let new : take (length values) c.numbers_of-new.result ≡ map number values = front_is number 0 values c.numbers_of-new.result (omega (arith, wide, measured.few)) (λ k h. c.numbers_of-new.ensures k (omega (arith, h, measured.long)) ∙ each k h) in
    c.in_ok-extend_from_slice.ensures.items ∙ ap (λ n. c.args.numbers.now.items ++ take n c.numbers_of-new.result) measured.long ∙ ap (λ l. c.args.numbers.now.items ++ l) new
