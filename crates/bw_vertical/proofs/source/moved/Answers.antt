use Rattle.std.proofs.Common.{ap, arith, subst, ◌*◌, ◌+◌, ◌/◌, ◌≡◌, ◌∙◌}
use Rattle.std.proofs.lemmas.Nat.{div-mul-add}
use Rattle.bw_vertical.specs.Storage.{HasSegment, lists}
use Rattle.bw_vertical.proofs.source.moved.Goals as goal

pub at_group-requires-clause-there : goal.at_group-requires-clause-there
at_group-requires-clause-there c =
    let k = c.args.k in
    let next : c.args.i ≡ (c.args.from.segment + 1) * k + 0 = omega (arith, c.if-i-from.true, c.requires.from.start_is) in
    let segment = ap (λ n. n / k) next ∙ div-mul-add (c.args.from.segment + 1) k 0 c.requires.some in
    subst (HasSegment k (lists c.args.groups.now)) segment c.requires.there
