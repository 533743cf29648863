use Rattle.std.proofs.Common.{◌≡◌, map, take}
use Rattle.bw_model.specs.Store.{names}
use Rattle.bw_model.specs.declared.answer.Heading.TheVariants.{Column}
use Rattle.bw_engine.proofs.select.all_headings.Given as goal

-- the names of the columns before this one
abbrev pub invariant-loop-i : goal.invariant-loop-i
invariant-loop-i l = l.headings.items ≡ take l.i (map (λ name. Column name) (names l.headers))
