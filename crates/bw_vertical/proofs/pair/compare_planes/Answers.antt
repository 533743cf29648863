use Rattle.std.proofs.Common.{List, [], arith, get_or, length, ℕ, ◌*◌, ◌+◌, ◌<◌, ◌≡◌, ◌≤◌, ◌∙◌}
use Rattle.std.proofs.Math.Nat.{add-mul}
use Rattle.std.proofs.lemmas.List.{get_or_default}
use Rattle.bw_vertical.proofs.pair.compare_planes.Goals as goal

there : (q k i n : ℕ) → i < k → (q + 1) * k ≤ n → q * k + i < n
there q k i n within long = omega (arith, within, long, add-mul q 1 k)

-- a unit that was read, past the last too
unit_is : (units : List (List ℕ)) (i : ℕ) (read : List ℕ) → i < length units → read ≡ get_or units i read → read ≡ get_or units i []
unit_is units i read inside is = is ∙ get_or_default units i read [] inside

pub read-left-requires-clause-there : goal.read-left-requires-clause-there
read-left-requires-clause-there g c = there c.args.q c.args.k c.args.i _ c.requires.within c.requires.there

pub read-right-requires-clause-there : goal.read-right-requires-clause-there
read-right-requires-clause-there g c = there c.args.q c.args.k c.args.i _ c.requires.within c.requires.other_there

pub returns-clause-less : goal.returns-clause-less
returns-clause-less g c j h =
    let at = c.args.q * c.args.k + c.args.i in
    let left = unit_is (g.A.Source.units c.args.a.now) at c.read-left.result (there c.args.q c.args.k c.args.i _ c.requires.within c.requires.there) c.read-left.ensures.unit in
    let right = unit_is (g.B.Source.units c.args.b.now) at c.read-right.result (there c.args.q c.args.k c.args.i _ c.requires.within c.requires.other_there) c.read-right.ensures.unit in
    rw (← left, ← right) (c.plane_pair_step.ensures.less j h)

pub returns-clause-same : goal.returns-clause-same
returns-clause-same g c j h =
    let at = c.args.q * c.args.k + c.args.i in
    let left = unit_is (g.A.Source.units c.args.a.now) at c.read-left.result (there c.args.q c.args.k c.args.i _ c.requires.within c.requires.there) c.read-left.ensures.unit in
    let right = unit_is (g.B.Source.units c.args.b.now) at c.read-right.result (there c.args.q c.args.k c.args.i _ c.requires.within c.requires.other_there) c.read-right.ensures.unit in
    rw (← left, ← right) (c.plane_pair_step.ensures.same j h)
