use Rattle.std.proofs.Common.{◌≡◌, Some, None, sym, w64, to_z, of_z, arith}
use Rattle.std.proofs.lemmas.Int.{to_z-of_z}
use Rattle.bw_code.specs.Encodings.{AreEntries, entry_code}
use Rattle.bw_code.specs.declared.encoding.Encoding.TheVariants as by
use Rattle.bw_code.proofs.Codes.{coded}
use Rattle.bw_code.proofs.Entries.{found, not_found}
use Rattle.bw_code.proofs.dictionary.Dictionary.encode.Goals as goal

pub returns-in-Ok : goal.returns-in-Ok
returns-in-Ok c =
    let entries = c.self.inside.entries.items in
    let h = c.in-Ok.ensures in
    let e : to_z w64 (of_z w64 c.args.x) ≡ c.args.x = to_z-of_z w64 c.args.x c.ranges.x in
    let is : entry_code entries c.args.x ≡ Some c.in-Ok.place = found entries c.as_slice.result.now c.args.x c.in-Ok.place c.self.invariant c.as_slice.ensures.value h.bound (rw e at h.ok) in
    let ok : AreEntries entries = record { ascending = c.self.invariant; few = omega arith } in
    rw (← c.self.view_is) record { is = sym is; coded = rw is at (coded (by.Dictionary entries) ok c.args.x); entries = ok }

pub returns-in-Err : goal.returns-in-Err
returns-in-Err c =
    let entries = c.self.inside.entries.items in
    let h = c.in-Err.ensures in
    let e : to_z w64 (of_z w64 c.args.x) ≡ c.args.x = to_z-of_z w64 c.args.x c.ranges.x in
    let is : entry_code entries c.args.x ≡ None = not_found entries c.as_slice.result.now c.args.x c.in-Err.field-0 c.self.invariant c.as_slice.ensures.value (rw e at h.position) in
    let ok : AreEntries entries = record { ascending = c.self.invariant; few = omega arith } in
    rw (← c.self.view_is) record { is = sym is; coded = rw is at (coded (by.Dictionary entries) ok c.args.x); entries = ok }
