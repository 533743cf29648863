use Rattle.std.proofs.Common.{arith, drop, length, refl, subst, sym, take, ◌+◌, ◌≤◌}
use Rattle.std.proofs.lemmas.List.{take_all}
use Rattle.bw_code.specs.Fittings.{AreEnds}
use Rattle.bw_code.proofs.Lists.{front_is}
use Rattle.bw_cells.specs.Known.{known}
use Rattle.bw_cells.proofs.Known.{known_part}
use Rattle.bw_cells.proofs.ends.ends_in_runs.Goals as goal

pub loop-at-init : goal.loop-at-init
loop-at-init g c = record { at = omega arith; ends = refl }

pub loop-at-preserved : goal.loop-at-preserved
loop-at-preserved g c =
    let i = c.loop-at.invariant in
    let cells = g.C.Cells.cells c.args.cells.now in
    let at = c.loop-at.at in
    let n = c.min-n.result in
    let inside : at + n ≤ length cells = omega (arith, c.min-n.ensures, c.len-in-loop-at.ensures, i.at) in
    let run = front_is c.loop-at.run c.read.new.out cells at n (omega (arith, c.min-n.ensures, c.min-n.array_long)) inside c.read.ensures in
    let both = c.ends_of_both-ends.ensures (known (take at cells)) (known (take n (drop at cells))) i.ends (subst (λ xs. AreEnds (known xs) c.known_ends.result) run c.known_ends.ensures) in
    record {
      at = inside;
      ends = subst (λ xs. AreEnds xs c.ends_of_both-ends.result) (sym (known_part cells at n)) both;
    }

pub returns : goal.returns
returns g c =
    let cells = g.C.Cells.cells c.args.cells.now in
    subst (λ xs. AreEnds (known xs) c.loop-at.ends) (take_all c.loop-at.at cells (omega (arith, c.loop-at-test.false, c.len.ensures))) c.loop-at.invariant.ends
