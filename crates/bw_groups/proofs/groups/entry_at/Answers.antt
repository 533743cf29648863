use Rattle.std.proofs.Common.{IfSome, arith, length, of_z, subst, to_z, w64, ◌<◌, ◌≡◌}
use Rattle.std.specs.Prelude.{unsigned_abs}
use Rattle.std.proofs.lemmas.Int.{ints, to_z-of_z}
use Rattle.bw_groups.specs.Entries.{IsIndexOf}
use Rattle.bw_groups.proofs.groups.entry_at.Goals as goal

pub overflow_cast-result : goal.overflow_cast-result
overflow_cast-result c =
    let p : IsIndexOf c.args.entries.now c.in-Some.index = subst (λ v. IfSome v (IsIndexOf c.args.entries.now)) c.in-Some.is c.requires in
    let back : to_z w64 (of_z w64 c.in-Some.index) ≡ c.in-Some.index = search (arith, ints, to_z-of_z) in
    let above = p.0 in
    let below = p.1 in
    rw back (search (arith, ints, above, below))

pub offset_bounds-entries-index : goal.offset_bounds-entries-index
offset_bounds-entries-index c =
    let p : IsIndexOf c.args.entries.now c.in-Some.index = subst (λ v. IfSome v (IsIndexOf c.args.entries.now)) c.in-Some.is c.requires in
    let back : to_z w64 (of_z w64 c.in-Some.index) ≡ c.in-Some.index = search (arith, ints, to_z-of_z) in
    let low : unsigned_abs c.in-Some.index < length c.args.entries.now = omega (arith, ints, p.0, p.1) in
    rw back (search (arith, low))

pub bounds-entries-index : goal.bounds-entries-index
bounds-entries-index c =
    let p : IsIndexOf c.args.entries.now c.in-Some.index = subst (λ v. IfSome v (IsIndexOf c.args.entries.now)) c.in-Some.is c.requires in
    let back : to_z w64 (of_z w64 c.in-Some.index) ≡ c.in-Some.index = search (arith, ints, to_z-of_z) in
    let low : unsigned_abs c.in-Some.index < length c.args.entries.now = omega (arith, ints, p.0, p.1) in
    rw back low
