use Rattle.std.proofs.Common.{ap, arith, length, subst, ◌*◌, ◌+◌, ◌-◌, ◌/◌, ◌≡◌, ◌∙◌}
use Rattle.std.proofs.lemmas.Nat.{div-mul-add}
use Rattle.bw_vertical.specs.Storage.{HasSegment, lists}
use Rattle.bw_vertical.proofs.source.stepped.Goals as goal

pub at_group-requires-clause-there : goal.at_group-requires-clause-there
at_group-requires-clause-there c =
    let k = c.args.k in
    let next : c.args.i ≡ (c.args.from.segment + 1) * k + 0 = omega (arith, c.requires.next, c.requires.none, c.requires.from.end, c.if-from-gt0.false, c.requires.from.start_is) in
    let segment = ap (λ n. n / k) next ∙ div-mul-add (c.args.from.segment + 1) k 0 c.requires.some in
    subst (HasSegment k (lists c.args.groups.now)) segment c.requires.there

pub next_group-requires-clause-there : goal.next_group-requires-clause-there
next_group-requires-clause-there c =
    let k = c.args.k in
    let f = c.args.from in
    let none : length f.rest.now ≡ 0 = c.requires.none in
    let here : c.args.i ≡ f.segment * k + (k - f.left) = omega (arith, none, c.requires.from.end, c.requires.from.start_is, c.requires.from.within, c.requires.next) in
    let segment = ap (λ n. n / k) here ∙ div-mul-add f.segment k (k - f.left) (omega (arith, c.if-from-gt0.true, c.requires.from.within, c.requires.some)) in
    subst (HasSegment k (lists c.args.groups.now)) segment c.requires.there
