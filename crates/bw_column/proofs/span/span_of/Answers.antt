use Rattle.std.proofs.Common.{All, subst}
use Rattle.bw_code.specs.declared.encoding.Encoding.{Encoding}
use Rattle.bw_code.specs.Fittings.{AreEnds}
use Rattle.bw_column.specs.Codes.{IsCoded}
use Rattle.bw_column.proofs.Between.{all_within}
use Rattle.bw_column.proofs.Bounded.{within_entries}
use Rattle.bw_column.proofs.span.span_of.Goals as goal

pub returns-in-Offset : goal.returns-in-Offset
returns-in-Offset c values coded = all_within c.in-Offset.offset values (subst (λ (e : Encoding). All (IsCoded e) values) c.in-Offset.is coded)

pub returns-in-Dictionary : goal.returns-in-Dictionary
returns-in-Dictionary c values coded =
    let entries = c.in-Dictionary.dictionary in
    within_entries c.spanning.result entries values
    (c.spanning.ensures.coded entries (subst (λ es. AreEnds es c.entry_ends.result) c.entries.ensures.is c.entry_ends.ensures.ends))
    (subst (λ (e : Encoding). All (IsCoded e) values) c.in-Dictionary.is coded)
