use Rattle.bw_table.proofs.Across.{no_column}
use Rattle.bw_table.proofs.Heads.{headers_rebuilt, hold_as_chosen, rebuilt_in}
use Rattle.bw_table.proofs.table.Table.rebuild.Goals as goal

pub invariant_of-self : goal.invariant_of-self
invariant_of-self g c =
    headers_rebuilt c.args.choices.now c.self.inside.headers.items c.choose_all.new.headers.items c.self.inside.slots c.in_ok-self-inside.field-0 no_column.encoding c.self.invariant c.choose_all.ensures (rw (← c.self.view_is) at c.requires.held) c.in_ok-self-inside.ensures

pub returns-clause-rebuilt : goal.returns-clause-rebuilt
returns-clause-rebuilt g c =
    let new = c.in_ok-self-inside.field-0 in
    let headers = c.choose_all.new.headers.items in
    let are = headers_rebuilt c.args.choices.now c.self.inside.headers.items headers c.self.inside.slots new no_column.encoding c.self.invariant c.choose_all.ensures (rw (← c.self.view_is) at c.requires.held) c.in_ok-self-inside.ensures in
    rw (← c.self.view_is) (rebuilt_in c.args.choices.now c.self.inside.headers.items headers c.self.inside.slots new c.self.invariant are c.in_ok-self-inside.ensures)

pub rebuilt-requires : goal.rebuilt-requires
rebuilt-requires g c = hold_as_chosen c.args.choices.now c.self.inside.headers.items c.self.inside.slots c.self.invariant (rw (← c.self.view_is) at c.requires.held)
