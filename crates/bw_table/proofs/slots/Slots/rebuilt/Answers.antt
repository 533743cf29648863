use Rattle.std.proofs.Common.{ap, ◌∙◌, replicate, true}
use Rattle.bw_table.proofs.Updated.{are_rebuilt, chosen_held, columns_built}
use Rattle.bw_table.proofs.slots.Slots.rebuilt.Goals as goal

pub invariant_of-result : goal.invariant_of-result
invariant_of-result c =
    columns_built c.args.choices.now c.in_ok-columns.columns.items c.self.inside.columns.items c.self.inside.live c.in_ok-live.live c.self.invariant c.in_ok-columns.ensures (c.in_ok-live.ensures ∙ ap (λ n. replicate n true) c.count.ensures.rows) (chosen_held c.args.choices.now c.self.inside.columns.items c.self.inside.live c.self.invariant (rw (← c.self.view_is) at c.requires))

pub build_anew-requires-clause-held : goal.build_anew-requires-clause-held
build_anew-requires-clause-held c = chosen_held c.args.choices.now c.self.inside.columns.items c.self.inside.live c.self.invariant (rw (← c.self.view_is) at c.requires)

pub returns : goal.returns
returns c =
    rw (← c.self.view_is) (are_rebuilt c.args.choices.now c.in_ok-columns.columns.items c.self.inside.columns.items c.self.inside.live c.in_ok-live.live c.self.invariant c.in_ok-columns.ensures (c.in_ok-live.ensures ∙ ap (λ n. replicate n true) c.count.ensures.rows))
