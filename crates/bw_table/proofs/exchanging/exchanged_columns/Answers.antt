use Rattle.std.proofs.Common.{None, arith, get_or, length, ap, subst, sym, true, ◌≡◌, ◌∙◌, ℕ}
use Rattle.bw_column.specs.Columns.{ColumnView}
use Rattle.bw_column.specs.Costs.{are_alike}
use Rattle.bw_table.specs.declared.setting.SetTo.{SetTo}
use Rattle.bw_table.specs.declared.setting.SetTo.TheVariants.{Column, Value}
use Rattle.bw_table.proofs.Exchanged.{by_first, by_second}
use Rattle.bw_table.proofs.exchanging.exchanged_columns.Goals as goal

abbrev none : ℕ × SetTo
none = (0, Value None)

pub returns-then-k-from : goal.returns-then-k-from
returns-then-k-from c =
    let sets = c.args.sets.now in
    let columns = c.args.columns.now in
    let s = get_or sets 0 none in
    let t = get_or sets 1 none in
    let in_ = c.in-Column-Column in
    let two : length sets ≡ 2 = omega (arith, c.if-sets-ne2.false) in
    let source : in_.source ≡ t.0 = omega (arith, c.if-source-from.false) in
    let alike : are_alike (get_or columns.items s.0 c.index.result.now) (get_or columns.items t.0 c.index-2.result.now) ≡ true =
    subst (λ (v : ColumnView). are_alike v (get_or columns.items t.0 c.index-2.result.now) ≡ true) c.index.ensures
    (subst (λ (w : ColumnView). are_alike c.index.result.now w ≡ true) c.index-2.ensures (sym c.is_alike.ensures ∙ c.if-not-is_alike.false)) in
    let other : in_.other ≡ s.0 = omega (arith, c.if-other-k.false) in
    by_first columns.items sets two none c.requires.apart (in_.is-0 ∙ ap Column source) (in_.is-1 ∙ ap Column other)
    (omega (arith, c.requires.named 0 none (omega (arith, two)), columns.ok.0)) (omega (arith, c.requires.named 1 none (omega (arith, two)), columns.ok.0))
    c.index.result.now c.index-2.result.now alike _

pub returns-else-k-from : goal.returns-else-k-from
returns-else-k-from c =
    let sets = c.args.sets.now in
    let columns = c.args.columns.now in
    let s = get_or sets 0 none in
    let t = get_or sets 1 none in
    let in_ = c.in-Column-Column in
    let two : length sets ≡ 2 = omega (arith, c.if-sets-ne2.false) in
    let source : in_.source ≡ t.0 = omega (arith, c.if-source-from.false) in
    let alike : are_alike (get_or columns.items s.0 c.index.result.now) (get_or columns.items t.0 c.index-2.result.now) ≡ true =
    subst (λ (v : ColumnView). are_alike v (get_or columns.items t.0 c.index-2.result.now) ≡ true) c.index.ensures
    (subst (λ (w : ColumnView). are_alike c.index.result.now w ≡ true) c.index-2.ensures (sym c.is_alike.ensures ∙ c.if-not-is_alike.false)) in
    let other : in_.other ≡ s.0 = omega (arith, c.if-other-k.false) in
    by_second columns.items sets two none c.requires.apart (in_.is-0 ∙ ap Column source) (in_.is-1 ∙ ap Column other)
    (omega (arith, c.requires.named 0 none (omega (arith, two)), columns.ok.0)) (omega (arith, c.requires.named 1 none (omega (arith, two)), columns.ok.0))
    c.index.result.now c.index-2.result.now alike _
