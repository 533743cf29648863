use Rattle.std.proofs.Common.{[], arith, false, refl, ◌==◌, ◌≡◌}
use Rattle.std.proofs.lemmas.Bool.{ne_eqb}
use Rattle.bw_split.specs.Stretches.{carried}
use Rattle.bw_split.proofs.part_prefix.PartPrefix.carry.Goals as goal

pub returns-then-start-gt0 : goal.returns-then-start-gt0
returns-then-start-gt0 c part held =
    let some : (c.args.start == 0) ≡ false = ne_eqb c.args.start 0 (λ (none : c.args.start ≡ 0). omega (arith, none, c.if-start-gt0.true)) in
    let nothing : carried c.args.start part ≡ [] = rw some refl in
    rw nothing c.clear.ensures

pub returns-else-start-gt0 : goal.returns-else-start-gt0
returns-else-start-gt0 c part held =
    let none : c.args.start ≡ 0 = omega (arith, c.if-start-gt0.false) in
    let same : carried c.args.start part ≡ part = rw none refl in
    rw same held
