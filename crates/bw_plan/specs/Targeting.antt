-- The target columns of an INSERT.
use Rattle.std.specs.Prelude.{List, ℕ}
use Rattle.bw_model.specs.Store.{Header, names}
use Rattle.bw_plan.specs.declared.targets.Targets.{Targets}
use Rattle.bw_plan.specs.declared.targets.Targets.TheVariants.{All, Listed}

abbrev pub names_of : List Header → Targets → List (List ℕ)
names_of headers All = names headers
names_of headers (Listed list) = list.now
