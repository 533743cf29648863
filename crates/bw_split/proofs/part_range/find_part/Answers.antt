use Rattle.std.proofs.Common.{◌+◌, ◌<◌, drop, length, subst, sym, ◌∙◌, arith}
use Rattle.bw_split.specs.Stretches.{IsStretch, StopsBefore}
use Rattle.bw_split.proofs.Feeding.{GoesOnAt, closed, dropped, end_within, through}
use Rattle.bw_split.proofs.StretchLemmas.{rest_is}
use Rattle.bw_split.proofs.part_range.find_part.Goals as goal
use Rattle.bw_split.proofs.part_range.find_part.Goals.{then-end-piece-via-then-end-piece, then-end-piece-via-else-end-piece+then-not-is_all_blank}

pub returns-then-end-piece-clause-found : goal.returns-then-end-piece-clause-found
returns-then-end-piece-clause-found c =
    let piece = c.args.piece.now in
    let start = c.loop-stretch.start in
    let w = c.up_to_cut-stretch.result in
    let stretch = subst (λ l. IsStretch c.loop-stretch.progress l w) (rest_is piece start) c.up_to_cut-stretch.ensures.stretch in
    let stops = subst (λ l. StopsBefore w.progress (drop w.len l)) (rest_is piece start) c.up_to_cut-stretch.ensures.stops in
    λ part same.
    let here = c.loop-stretch.invariant.1 part same in
    elim c.then-end-piece.branch [
      | then-end-piece-via-then-end-piece b ↦ through part piece start c.loop-stretch.progress w here stretch stops (omega (arith, b.if-end-piece.true))
      | then-end-piece-via-else-end-piece+then-not-is_all_blank b ↦ closed part piece start c.loop-stretch.progress w here stretch stops
          (omega (arith, b.if-end-piece.false, end_within c.loop-stretch.progress w piece start stretch c.loop-stretch.invariant.0)) (sym b.is_all_blank.ensures ∙ b.if-not-is_all_blank.true)
    ]

pub loop-stretch-preserved : goal.loop-stretch-preserved
loop-stretch-preserved c =
    let piece = c.args.piece.now in
    let start = c.loop-stretch.start in
    let w = c.up_to_cut-stretch.result in
    let stretch = subst (λ l. IsStretch c.loop-stretch.progress l w) (rest_is piece start) c.up_to_cut-stretch.ensures.stretch in
    let stops = subst (λ l. StopsBefore w.progress (drop w.len l)) (rest_is piece start) c.up_to_cut-stretch.ensures.stops in
    let within = end_within c.loop-stretch.progress w piece start stretch c.loop-stretch.invariant.0 in
    let some : start + w.len < length piece = omega (arith, c.if-end-piece.false, within) in (
      omega (arith, some),
      λ part same. subst (GoesOnAt part piece (start + w.len + 1)) (sym c.at_first-progress.ensures)
          (dropped part piece start c.loop-stretch.progress w (c.loop-stretch.invariant.1 part same) stretch stops some (sym c.is_all_blank.ensures ∙ c.if-not-is_all_blank.false)),
    )
