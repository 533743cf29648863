use Rattle.std.proofs.Common.{subst, sym}
use Rattle.bw_split.specs.Prefixes.{Holds}
use Rattle.bw_split.proofs.PrefixLemmas.{held_more, prefix_short}
use Rattle.bw_split.proofs.part_prefix.PartPrefix.add.Goals as goal

pub invariant_of-self : goal.invariant_of-self
invariant_of-self c = (prefix_short c.self.inside.bytes.items c.args.bytes.now _ c.keep-fits.ensures.prefix, c.keep-fits.ensures.room)

pub returns : goal.returns
returns c =
    λ part held. held_more part c.args.bytes.now c.self.inside.bytes.items _ c.self.inside.is_longer _ (subst (λ v. Holds v part) (sym c.self.view_is) held) c.keep-fits.ensures.prefix c.keep-fits.ensures.fits
