use Rattle.bw_code.specs.Types.{types_of}
use Rattle.bw_table.proofs.Heads.{headers_kept, rows_held}
use Rattle.bw_table.proofs.Typed.{typed_after, typed_inserted}
use Rattle.bw_table.proofs.table.Table.insert.Goals as goal

pub invariant_of-self : goal.invariant_of-self
invariant_of-self g c =
    let headers = c.self.inside.headers.items in
    let slots = c.self.inside.slots in
    let new = c.insert.new.self in
    let rows = c.args.rows.now in
    let typed = c.self.invariant.typed in
    headers_kept headers slots new c.self.invariant c.insert.ensures.layouts c.insert.ensures.kinds
    (typed_after (types_of headers) c.insert.result slots new typed c.insert.ensures.inserted (λ are. typed_inserted (types_of headers) slots new rows are typed (rw (← c.self.view_is) at c.requires.typed)) c.insert.ensures.unchanged)

pub insert-requires : goal.insert-requires
insert-requires g c = record { held = rows_held c.self.inside.headers.items c.self.inside.slots c.self.invariant c.args.rows.now (rw (← c.self.view_is) at c.requires.typed) }
