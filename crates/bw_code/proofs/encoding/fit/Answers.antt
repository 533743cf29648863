use Rattle.std.proofs.Common.{get_or}
use Rattle.std.proofs.lemmas.List.Elements.{Contains-get_or}
use Rattle.bw_code.proofs.encoding.fit.Goals as goal

pub returns-in_ok-of_values-in-Dictionary-clause-coded : goal.returns-in_ok-of_values-in-Dictionary-clause-coded
returns-in_ok-of_values-in-Dictionary-clause-coded c = λ k d l. (c.in_ok-of_values-in-Dictionary.ensures.same (get_or c.args.values.now k d)).1 (Contains-get_or c.args.values.now k d l)
