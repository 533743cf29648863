use Rattle.std.proofs.Common.{ap, arith, not, sym, ◌∙◌}
use Rattle.std.proofs.lemmas.List.{drop_all}
use Rattle.bw_sql.specs.Names.{are_distinct}
use Rattle.bw_file.proofs.Distinct.{names, once_here, twice_here}
use Rattle.bw_file.proofs.headers.has_name_twice.Goals as goal

pub returns-then-has_name : goal.returns-then-has_name
returns-then-has_name c =
    twice_here c.args.headers.now c.names.i c.index-headers-i.result c.has_name.result c.names-test.true c.has_name.ensures c.names.invariant c.if-has_name.true

pub names-preserved : goal.names-preserved
names-preserved c =
    once_here c.args.headers.now c.names.i c.index-headers-i.result c.has_name.result c.names-test.true c.has_name.ensures c.names.invariant c.if-has_name.false

pub returns : goal.returns
returns c = sym (ap not (c.names.invariant ∙ ap (λ hs. are_distinct (names hs)) (drop_all c.names.i c.args.headers.now (omega (arith, c.names-test.false)))))
