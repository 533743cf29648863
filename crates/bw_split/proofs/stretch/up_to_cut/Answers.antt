use Rattle.std.proofs.Common.{sym, subst, ◌∙◌, ◌+◌, arith}
use Rattle.bw_split.specs.Stretches.{IsStretch}
use Rattle.bw_split.proofs.StretchLemmas.{further, join_rest}
use Rattle.bw_split.proofs.stretch.up_to_cut.Goals as goal

pub returns-then-len-bytes-clause-stretch : goal.returns-then-len-bytes-clause-stretch
returns-then-len-bytes-clause-stretch c = join_rest c.args.progress c.loop-len.progress c.args.bytes.now c.loop-len.len c.next_stretch-more.result c.loop-len.invariant c.next_stretch-more.ensures

pub loop-len-preserved : goal.loop-len-preserved
loop-len-preserved c =
    let more = c.next_stretch-more.result in
    let walked = join_rest c.args.progress c.loop-len.progress c.args.bytes.now c.loop-len.len more c.loop-len.invariant c.next_stretch-more.ensures in
    subst (λ s. IsStretch c.args.progress c.args.bytes.now (record { len = c.loop-len.len + more.len + 1; progress = s })) (sym c.step-progress.ensures)
    (further c.args.progress more.progress c.args.bytes.now (c.loop-len.len + more.len) walked (omega (arith, walked.within, c.if-len-bytes.false)) (sym c.is_cut.ensures ∙ c.if-is_cut.false))
