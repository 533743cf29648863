use Rattle.std.proofs.Common.{ap, map}
use Rattle.bw_code.specs.Encodings.{kind_of}
use Rattle.bw_code.specs.Types.{types_of}
use Rattle.bw_table.proofs.Heads.{headers_kept}
use Rattle.bw_table.proofs.Typed.{typed_deleted}
use Rattle.bw_table.proofs.table.Table.delete.Goals as goal

pub invariant_of-self : goal.invariant_of-self
invariant_of-self g c =
    let headers = c.self.inside.headers.items in
    let slots = c.self.inside.slots in
    headers_kept headers slots c.delete.new.self c.self.invariant c.delete.ensures.layouts (ap (map kind_of) c.delete.ensures.encodings)
    (rw c.delete.ensures.slots (typed_deleted (types_of headers) c.args.found.now slots.slots c.self.invariant.typed))
