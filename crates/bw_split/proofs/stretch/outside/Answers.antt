use Rattle.std.proofs.Common.{false, sym, subst, arith}
use Rattle.bw_split.specs.declared.progress.LexicalState.TheVariants.{Outside}
use Rattle.bw_split.specs.Stretches.{IsStretch}
use Rattle.bw_split.proofs.OrdinaryStretches.{ordinary_stretch, ordinary_within}
use Rattle.bw_split.proofs.StretchLemmas.{at}
use Rattle.bw_split.proofs.stretch.outside.Goals as goal

pub bounds-bytes-len : goal.bounds-bytes-len
bounds-bytes-len c = omega (arith, ordinary_within c.args.bytes.now c.ordinary_len-len.result c.ordinary_len-len.ensures, c.if-len-eq0.false)

pub returns-else-len-eq0 : goal.returns-else-len-eq0
returns-else-len-eq0 c =
    let n = c.ordinary_len-len.result in
    subst (λ q. IsStretch (at Outside false) c.args.bytes.now (record { len = n; progress = at q false })) (sym c.opened_by-state.ensures) (ordinary_stretch c.args.bytes.now n c.ordinary_len-len.ensures (omega (arith, c.if-len-eq0.false)))
