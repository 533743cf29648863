use Rattle.std.proofs.Common.{[]}
use Rattle.bw_table.proofs.Across.{no_column}
use Rattle.bw_table.proofs.Heads.{headers_rebuilt, hold_as_chosen, nothing_chosen}
use Rattle.bw_table.proofs.table.Table.compact.Goals as goal

pub invariant_of-self : goal.invariant_of-self
invariant_of-self g c =
    headers_rebuilt [] c.self.inside.headers.items c.self.inside.headers.items c.self.inside.slots c.in_ok-self-inside.field-0 no_column.encoding c.self.invariant (nothing_chosen c.self.inside.headers.items) (λ k h l. c.self.invariant.held k h l) c.in_ok-self-inside.ensures

pub rebuilt-requires : goal.rebuilt-requires
rebuilt-requires g c = hold_as_chosen [] c.self.inside.headers.items c.self.inside.slots c.self.invariant (λ k h l. c.self.invariant.held k h l)
