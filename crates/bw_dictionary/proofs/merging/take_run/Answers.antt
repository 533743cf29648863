use Rattle.std.proofs.Common.{ap, arith, get_or, length, pos, w64, [], ℤ, ◌++◌, ◌≡◌, ◌∙◌, ◌∷◌}
use Rattle.std.proofs.lemmas.Int.{ints, to_z-of_z}
use mir.Val.{of_z, to_z}
use Rattle.bw_dictionary.proofs.Union.{took_old}
use Rattle.bw_dictionary.proofs.merging.take_run.Goals as goal

pub push_reserved-requires : goal.push_reserved-requires
push_reserved-requires c =
    let m = c.requires.merging in
    let v = c.run.invariant.merging m.0 m.1 m.2 in
    let turn = c.is_old_next.ensures c.run-test.true in
    omega (arith, v.few, turn.0, c.requires.taken, c.requires.entries_room, c.run.invariant.entries_room)

pub push_reserved-requires-in-run : goal.push_reserved-requires-in-run
push_reserved-requires-in-run c =
    let m = c.requires.merging in
    let v = c.run.invariant.merging m.0 m.1 m.2 in
    let turn = c.is_old_next.ensures c.run-test.true in
    omega (arith, v.moved.count, turn.0, c.requires.moves_room, c.run.invariant.moves_room)

pub run-preserved : goal.run-preserved
run-preserved c =
    let v = c.run.invariant in
    let turn = c.is_old_next.ensures c.run-test.true in
    let x = get_or c.args.old.now c.run.i (pos 0) in
    let back : to_z w64 (of_z w64 x) ≡ x = search (arith, ints, to_z-of_z) in
    let union = c.push_reserved.ensures.items ∙ ap (λ (y : ℤ). c.run.entries.items ++ y ∷ []) back in
    let place : c.len-index.result ≡ length c.run.entries.items = omega (arith, c.len-index.ensures, c.run.entries.ok.0) in
    record {
      from = omega (arith, v.from);
      inside = omega (arith, turn.0);
      entries_room = omega (arith, c.push_reserved.ensures.capacity, v.entries_room);
      moves_room = omega (arith, c.push_reserved-in-run.ensures.capacity, v.moves_room);
      merging = λ new_stands places m. rw (union, c.push_reserved-in-run.ensures.items) (took_old c.args.old.now c.args.stands.now c.args.new.now new_stands c.run.i c.args.j c.run.entries.items c.run.moves.items places c.requires.old c.requires.new (v.merging new_stands places m) c.len-index.result turn.0 turn.1 turn.2 place);
    }
