use Rattle.std.proofs.Common.{subst, sym, ◌∙◌}
use Rattle.bw_split.specs.Prefixes.{Holds}
use Rattle.bw_split.proofs.PrefixLemmas.{held_whole}
use Rattle.bw_split.proofs.part_prefix.PartPrefix.text.Goals as goal

pub returns-else-self : goal.returns-else-self
returns-else-self c =
    λ part held.
    let whole = held_whole part c.self.inside.bytes.items c.self.inside.is_longer (subst (λ v. Holds v part) (sym c.self.view_is) held) c.if-self.false in
    (whole.0, c.deref.ensures.value ∙ whole.1)
