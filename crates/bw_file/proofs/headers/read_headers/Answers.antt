use Rattle.std.proofs.Common.{IsTrue, arith, get_or, length, ◌<◌}
use Rattle.std.proofs.lemmas.List.Elements.{All-get_or}
use Rattle.bw_sql.specs.Names.{IsName}
use Rattle.bw_file.specs.Format.{HasType}
use Rattle.bw_code.specs.Types.{holds_its_type}
use Rattle.bw_file.proofs.Joined.{blank, header_next}
use Rattle.bw_file.proofs.headers.read_headers.Goals as goal

pub returns-in_default-clause-none : goal.returns-in_default-clause-none
returns-in_default-clause-none c e hs tail many names types held whole =
    let inv = c.headers.invariant in
    let version = c.args.version in
    let i = c.headers.i in
    let there : i < length hs = omega (arith, c.headers-test.true) in
    c.in_ok-found.ensures.none c.in_default.is (get_or hs i blank) _ (All-get_or (λ header. IsName header.name) hs i blank there names)
    (All-get_or (HasType c.args.version) hs i blank there types) (All-get_or (λ header. IsTrue (holds_its_type header)) hs i blank there held)
    (header_next c.args.version hs c.headers.headers.items tail c.headers.rest.now c.args.bytes.now i there inv.count types inv.types inv.bytes whole)
