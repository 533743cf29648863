use Rattle.std.proofs.Common.{ap, subst, sym, ◌∙◌, ◌≡◌}
use Rattle.bw_groups.specs.Entries.{entries_of}
use Rattle.bw_groups.specs.Grouping.{AreGroups, Grouping}
use Rattle.bw_groups.proofs.Entries.{entries_groups}
use Rattle.bw_groups.proofs.groups.Groups.through.Goals as goal

pub returns-clause-groups : goal.returns-clause-groups
returns-clause-groups c indices are =
    let entries = c.args.entries.now in
    let values : c.entries_at.result.items ≡ entries_of entries c.args.self.values = c.entries_at.ensures ∙ ap (λ (groups : Grouping). entries_of entries groups.values) c.self.view_is in
    let ranks : c.self.inside.ranks.items ≡ c.args.self.ranks = ap (λ (groups : Grouping). groups.ranks) c.self.view_is in
    let result : Grouping = record { values = c.entries_at.result.items; ranks = c.self.inside.ranks.items } in
    let same : record { values = entries_of entries c.args.self.values; ranks = c.args.self.ranks } ≡ result = λ j. record { values = sym values j; ranks = sym ranks j } in
    subst (AreGroups (entries_of entries indices)) same (entries_groups entries c.requires.ascending indices c.args.self are c.requires.inside)
