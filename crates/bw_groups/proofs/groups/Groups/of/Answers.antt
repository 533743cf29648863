use Rattle.std.proofs.Common.{IfOk, ap, arith, length, subst, ◌≡◌}
use Rattle.bw_groups.specs.Grouping.{AreGroups}
use Rattle.bw_groups.proofs.groups.Groups.of.Goals as goal

pub on_scale-requires-clause-within : goal.on_scale-requires-clause-within
on_scale-requires-clause-within g c = c.in-Some.ensures

pub of_list-requires : goal.of_list-requires
of_list-requires g c = omega (arith, ap length c.in_ok-values.ensures, c.requires)

pub returns-clause-groups : goal.returns-clause-groups
returns-clause-groups g c = subst (λ values. IfOk c.of_list.result (AreGroups values)) c.in_ok-values.ensures c.of_list.ensures.groups

pub returns-clause-rows : goal.returns-clause-rows
returns-clause-rows g c = subst (λ values. IfOk c.of_list.result (λ groups. length groups.ranks ≡ length values)) c.in_ok-values.ensures c.of_list.ensures.rows
