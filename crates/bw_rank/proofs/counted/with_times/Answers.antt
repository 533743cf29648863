use Rattle.std.proofs.Common.{List, ap, arith, get_or, length, subst, ◌<◌, ◌≡◌, ℕ}
use Rattle.bw_rank.specs.Tables.{AreCounts}
use Rattle.bw_rank.proofs.Times.{times_are}
use Rattle.bw_rank.proofs.counted.with_times.Goals as goal

pub counts_below-requires-clause-small : goal.counts_below-requires-clause-small
counts_below-requires-clause-small c k d h =
    let here = c.requires.inside k d (subst (λ (xs : List ℕ). k < length xs) c.deref.ensures.value h) in
    let is = ap (λ (xs : List ℕ). get_or xs k d) c.deref.ensures.value in
    omega (arith, here, is, c.len.ensures, c.args.entries.ok.0)

pub returns : goal.returns
returns c numbers are =
    let found = c.args.entries.items in
    let ranks = c.args.ranks.items in
    let end : c.len.result ≡ length found = omega (arith, c.len.ensures, c.args.entries.ok.0) in
    let counts : AreCounts ranks (length found) c.in_ok-times.times.items = subst (λ (n : ℕ). AreCounts ranks n c.in_ok-times.times.items) end (subst (λ (xs : List ℕ). AreCounts xs c.len.result c.in_ok-times.times.items) c.deref.ensures.value c.in_ok-times.ensures) in
    record {
      ranks = are;
      times = times_are found are.ascending numbers ranks c.in_ok-times.times.items are.inside are.each counts;
    }
