use Rattle.std.proofs.Common.{length, subst, ℕ, ◌*◌, ◌+◌, ◌<◌, ◌≤◌}
use Rattle.bw_horizontal.specs.Words.{segment_rows}
use Rattle.bw_horizontal.proofs.FullWords.{segments_there}
use Rattle.bw_horizontal.proofs.blending.fill_run.Goals as goal

pub fill_run-requires-clause-there : goal.fill_run-requires-clause-there
fill_run-requires-clause-there c =
    let end = c.args.end in
    let size = length c.args.words.now in
    segments_there end size (subst (λ k. (q : ℕ) → q * segment_rows k < end → q * (k + 1) + (k + 1) ≤ size) c.if-width-eq-FULL.true c.requires.there)
