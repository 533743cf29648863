use Rattle.std.proofs.Common.{rules, ◌-◌, ap, length, min, ◌∙◌}
use Rattle.bw_split.specs.Prefixes.{longest_part}
use Rattle.bw_split.proofs.PrefixLemmas.{prefix_kept}
use Rattle.bw_split.proofs.part_prefix.keep.Goals as goal

pub returns-clause-prefix : goal.returns-clause-prefix
returns-clause-prefix c =
    c.in-Ok.ensures.items ∙ prefix_kept longest_part c.min.result c.args.prefix.now.items c.args.bytes.now c.requires.short
    (c.min.ensures ∙ ap (λ l. min (length c.args.bytes.now) (longest_part - l)) (search rules))
