use Rattle.std.proofs.Common.{ap, arith, get_or, inl, inr, rules, true, ◌<◌, ◌^◌, ◌≡◌, ◌∙◌}
use Rattle.std.proofs.lemmas.Bool.{cases_Bool}
use Rattle.bw_mask.specs.Masks.{bit_of}
use Rattle.bw_column.proofs.Full.{full}
use Rattle.bw_column.proofs.distances.add_where_set.Goals as goal

pub returns-then-more-eq0-clause-each : goal.returns-then-more-eq0-clause-each
returns-then-more-eq0-clause-each c k h =
    let old = c.args.numbers.now in
    let fits : get_or old k 0 < 2 ^ 64 = search rules in
    elim (cases_Bool (bit_of c.args.set k)) [
      | inl set ↦ rw (set, c.if-more-eq0.true) (omega (arith, fits))
      | inr clear ↦ rw clear (c.requires.clear k h clear)
    ]

pub returns-then-set-eq18446744073709551615-clause-each : goal.returns-then-set-eq18446744073709551615-clause-each
returns-then-set-eq18446744073709551615-clause-each c k h =
    let set : bit_of c.args.set k ≡ true = ap (λ w. bit_of w k) c.if-set-eq18446744073709551615.true ∙ full k (omega (arith, h, c.requires.few)) in
    rw set (c.add_to_each.ensures.each k h)
