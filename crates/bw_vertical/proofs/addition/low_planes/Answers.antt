use Rattle.std.proofs.Common.{ap, arith, refl, sym, ◌*◌, ◌+◌, ◌-◌, ◌<◌, ◌≤◌, ◌∙◌}
use Rattle.bw_mask.specs.Masks.{bit_of}
use Rattle.bw_vertical.specs.Planes.{code_in}
use Rattle.bw_vertical.proofs.Lanes.{no_rows}
use Rattle.bw_vertical.proofs.Sums.{no_bit, plane_read, three_more}
use Rattle.bw_vertical.proofs.addition.low_planes.Goals as goal

pub returns-then-n-k : goal.returns-then-n-k
returns-then-n-k g c =
    let k = c.args.k in
    let q = c.args.q in
    let n = c.args.n in
    let units = g.S.Source.units c.args.source.now in
    let fourth = c.read-fourth.ensures in
    let third = c.read-third.ensures in
    let second = c.read-second.ensures in
    let first = c.read-first.ensures in
    let some : n + 4 ≤ k = omega (arith, c.if-n-k.true) in
    let at = q * k + (k - 4 - n) in
    record {
      units = first.units ∙ second.units ∙ third.units ∙ fourth.units;
      reads = omega (arith, some, first.reads, second.reads, third.reads, fourth.reads);
      first = plane_read k q n (at + 3) units _ c.read-first.result (second.units ∙ third.units ∙ fourth.units) first.unit (omega (arith, some)) (omega (arith, some)) c.requires.there;
      second = plane_read k q (n + 1) (at + 2) units _ c.read-second.result (third.units ∙ fourth.units) second.unit (omega (arith, some)) (omega (arith, some)) c.requires.there;
      third = plane_read k q (n + 2) (at + 1) units _ c.read-third.result fourth.units third.unit (omega (arith, some)) (omega (arith, some)) c.requires.there;
      fourth = plane_read k q (n + 3) at units units c.read-fourth.result refl fourth.unit (omega (arith, some)) (omega (arith, some)) c.requires.there;
    }

pub returns-else-n-k : goal.returns-else-n-k
returns-else-n-k g c =
    let k = c.args.k in
    let q = c.args.q in
    let n = c.args.n in
    let units = g.S.Source.units c.args.source.now in
    let first = c.low_plane-first.ensures in
    let second = c.low_plane-second.ensures in
    let third = c.low_plane-third.ensures in
    let few : k < n + 4 = omega (arith, c.if-n-k.false) in
    record {
      units = third.units ∙ second.units ∙ first.units;
      reads = omega (arith, three_more n k few, first.reads, second.reads, third.reads);
      first = first.rows;
      second = λ j h. second.rows j h ∙ ap (λ us. bit_of (code_in k us (256 * q + j)) (n + 1)) first.units;
      third = λ j h. third.rows j h ∙ ap (λ us. bit_of (code_in k us (256 * q + j)) (n + 2)) (second.units ∙ first.units);
      fourth = λ j h. no_rows j h ∙ sym (no_bit k (n + 3) (256 * q + j) units (omega (arith, few)));
    }
