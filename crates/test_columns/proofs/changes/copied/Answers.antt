use Rattle.std.proofs.Common.{rules, ◌≡◌}
use Rattle.test_columns.proofs.changes.copied.Goals as goal

pub room_to_copy-requires-clause-held : goal.room_to_copy-requires-clause-held
room_to_copy-requires-clause-held g c =
    let held = rw c.expect-copy.ensures at c.copy_at.ensures.held in
    let same : c.args.column.layout ≡ c.args.other.now.layout = search rules in
    rw same held
