use Rattle.std.proofs.Common.{arith, drop, length, refl, ◌+◌, ◌<◌, ◌≡◌, ◌≤◌}
use Rattle.std.proofs.lemmas.Bool.{le-ltb, lt-ltb}
use Rattle.bw_split.specs.Splitting.{closes, fed, goes_on}
use Rattle.bw_split.specs.Stretches.{IsFound, joined}
use Rattle.bw_split.proofs.splitter.Splitter.feed.Goals as goal

pub returns-then-found-piece-clause-fed : goal.returns-then-found-piece-clause-fed
returns-then-found-piece-clause-fed c part begun =
    let begun_so = rw (← c.self.view_is) at begun in
    let found : IsFound part c.args.piece.now c.find_part-found.result = c.find_part-found.ensures.found part begun_so.0.progress in
    let whole = joined part c.args.piece.now c.find_part-found.result in
    let over : length c.args.piece.now ≤ c.find_part-found.result.end = omega (arith, c.if-found-piece.true) in
    let goes : fed part c.args.piece.now ≡ goes_on whole = rw (le-ltb c.find_part-found.result.end (length c.args.piece.now) over) at found.fed_is in
    (whole, goes, (record { prefix = c.add.ensures _ (c.carry.ensures part begun_so.0.prefix); progress = found.progress }, begun_so.1))

pub returns-clause-fed : goal.returns-clause-fed
returns-clause-fed c part begun =
    let begun_so = rw (← c.self.view_is) at begun in
    let found : IsFound part c.args.piece.now c.find_part-found.result = c.find_part-found.ensures.found part begun_so.0.progress in
    let whole = joined part c.args.piece.now c.find_part-found.result in
    let some : c.find_part-found.result.end < length c.args.piece.now = omega (arith, c.if-found-piece.false, c.find_part-found.ensures.within) in
    let cut : fed part c.args.piece.now ≡ closes whole (drop (c.find_part-found.result.end + 1) c.args.piece.now) = rw (lt-ltb c.find_part-found.result.end (length c.args.piece.now) some) at found.fed_is in
    (whole, cut, (record { prefix = c.add.ensures _ (c.carry.ensures part begun_so.0.prefix); progress = found.progress }, refl))
