use Rattle.std.proofs.Common.{ap, arith, sym, ◌∙◌}
use Rattle.bw_code.specs.Encodings.{kind_of}
use Rattle.bw_table.proofs.Heads.{kind_at, kinds_count, layout_at, typed_column}
use Rattle.bw_table.proofs.table.Table.column.Goals as goal

pub returns-clause-layout : goal.returns-clause-layout
returns-clause-layout g c =
    let low = rw (← c.self.view_is) at c.requires in
    rw (← c.self.view_is) (λ d. c.column.ensures.layout d.layout ∙ sym (layout_at c.self.inside.headers.items c.self.inside.slots c.self.invariant c.args.k d d.layout low))

pub returns-clause-kind : goal.returns-clause-kind
returns-clause-kind g c =
    let low = rw (← c.self.view_is) at c.requires in
    let headers = c.self.inside.headers.items in
    let slots = c.self.inside.slots in
    let e = c.column.result.now.encoding in
    rw (← c.self.view_is) (λ d. ap kind_of (c.column.ensures.encoding e) ∙ sym (kind_at headers slots c.self.invariant c.args.k d e low (omega (arith, low, kinds_count headers slots c.self.invariant))))

pub returns-clause-typed : goal.returns-clause-typed
returns-clause-typed g c =
    let low = rw (← c.self.view_is) at c.requires in
    rw (← c.self.view_is, c.column.ensures.values) (λ h. typed_column c.self.inside.headers.items c.self.inside.slots c.self.invariant c.args.k h low)
