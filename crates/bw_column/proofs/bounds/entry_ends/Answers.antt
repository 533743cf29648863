use Rattle.std.proofs.Common.{arith, get_or, length, of_z, pos, sym, to_z, w64, ◌-◌, ◌∙◌, ◌≡◌}
use Rattle.std.proofs.lemmas.Int.{ints, to_z-of_z}
use Rattle.bw_column.proofs.Bounded.{between_entries, entries_end, not_empty}
use Rattle.bw_column.proofs.bounds.entry_ends.Goals as goal

pub returns-clause-bounds : goal.returns-clause-bounds
returns-clause-bounds c = λ x there.
    let entries = c.args.entries.now in
    let least : to_z w64 (of_z w64 (get_or entries 0 (pos 0))) ≡ get_or entries 0 (pos 0) = search (arith, ints, to_z-of_z) in
    let greatest : to_z w64 (of_z w64 (get_or entries (length entries - 1) (pos 0))) ≡ get_or entries (length entries - 1) (pos 0) = search (arith, ints, to_z-of_z) in
    rw (least, greatest) (between_entries entries x c.requires there)

pub returns-clause-ends : goal.returns-clause-ends
returns-clause-ends c =
    let entries = c.args.entries.now in
    let least : to_z w64 (of_z w64 (get_or entries 0 (pos 0))) ≡ get_or entries 0 (pos 0) = search (arith, ints, to_z-of_z) in
    let greatest : to_z w64 (of_z w64 (get_or entries (length entries - 1) (pos 0))) ≡ get_or entries (length entries - 1) (pos 0) = search (arith, ints, to_z-of_z) in
    rw (least, greatest) (entries_end entries c.requires (not_empty entries (sym c.is_empty.ensures ∙ c.if-is_empty.false)))
