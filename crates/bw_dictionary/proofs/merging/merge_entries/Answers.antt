use Rattle.std.proofs.Common.{[], ap, arith, get_or, length, pos, w64, ℤ, ◌++◌, ◌≡◌, ◌∙◌, ◌∷◌}
use Rattle.std.proofs.lemmas.Int.{ints, to_z-of_z}
use mir.Val.{of_z, to_z}
use Rattle.bw_dictionary.proofs.Union.{is_union, skipped_new, skipped_old, took_both, took_new, took_old}
use Rattle.bw_dictionary.proofs.merging.merge_entries.Goals as goal

pub merge-preserved-in-SkipOld : goal.merge-preserved-in-SkipOld
merge-preserved-in-SkipOld c =
    let v = c.merge.invariant in
    let turn = c.in-SkipOld.ensures in
    record {
      old = omega (arith, turn.0);
      new = v.new;
      entries_room = v.entries_room;
      moves_room = omega (arith, c.push_reserved.ensures.capacity, v.moves_room);
      places_room = v.places_room;
      merging = rw c.push_reserved.ensures.items (skipped_old c.args.old.now c.args.old_stands.now c.args.new.now c.args.new_stands.now c.merge.i c.merge.j c.merge.entries.items c.merge.moves.items c.merge.places.items c.requires.old c.requires.new v.merging turn.1);
    }

pub merge-preserved-in-SkipNew : goal.merge-preserved-in-SkipNew
merge-preserved-in-SkipNew c =
    let v = c.merge.invariant in
    let turn = c.in-SkipNew.ensures in
    record {
      old = v.old;
      new = omega (arith, turn.0);
      entries_room = v.entries_room;
      moves_room = v.moves_room;
      places_room = omega (arith, c.push_reserved-in-SkipNew.ensures.capacity, v.places_room);
      merging = rw c.push_reserved-in-SkipNew.ensures.items (skipped_new c.args.old.now c.args.old_stands.now c.args.new.now c.args.new_stands.now c.merge.i c.merge.j c.merge.entries.items c.merge.moves.items c.merge.places.items c.requires.old c.requires.new v.merging turn.1);
    }

pub take_run-i-requires-clause-merging : goal.take_run-i-requires-clause-merging
take_run-i-requires-clause-merging c =
    let v = c.merge.invariant in
    let turn = c.in-Old.ensures in
    let x = get_or c.args.old.now c.merge.i (pos 0) in
    let back : to_z w64 (of_z w64 x) ≡ x = search (arith, ints, to_z-of_z) in
    let union = c.push_reserved-in-Old.ensures.items ∙ ap (λ (y : ℤ). c.merge.entries.items ++ y ∷ []) back in
    let place : c.len-place.result ≡ length c.merge.entries.items = omega (arith, c.len-place.ensures, c.merge.entries.ok.0) in
    (c.args.new_stands.now, c.merge.places.items, rw (union, c.push_reserved-in-Old-2.ensures.items) (took_old c.args.old.now c.args.old_stands.now c.args.new.now c.args.new_stands.now c.merge.i c.merge.j c.merge.entries.items c.merge.moves.items c.merge.places.items c.requires.old c.requires.new v.merging c.len-place.result turn.0 turn.1 turn.2 place))

pub merge-preserved-in-Old : goal.merge-preserved-in-Old
merge-preserved-in-Old c =
    let v = c.merge.invariant in
    let turn = c.in-Old.ensures in
    let x = get_or c.args.old.now c.merge.i (pos 0) in
    let back : to_z w64 (of_z w64 x) ≡ x = search (arith, ints, to_z-of_z) in
    let union = c.push_reserved-in-Old.ensures.items ∙ ap (λ (y : ℤ). c.merge.entries.items ++ y ∷ []) back in
    let place : c.len-place.result ≡ length c.merge.entries.items = omega (arith, c.len-place.ensures, c.merge.entries.ok.0) in
    record {
      old = c.take_run-i.ensures.inside;
      new = v.new;
      entries_room = omega (arith, c.push_reserved-in-Old.ensures.capacity, c.take_run-i.ensures.entries_room, v.entries_room);
      moves_room = omega (arith, c.push_reserved-in-Old-2.ensures.capacity, c.take_run-i.ensures.moves_room, v.moves_room);
      places_room = v.places_room;
      merging = c.take_run-i.ensures.merging c.args.new_stands.now c.merge.places.items (rw (union, c.push_reserved-in-Old-2.ensures.items) (took_old c.args.old.now c.args.old_stands.now c.args.new.now c.args.new_stands.now c.merge.i c.merge.j c.merge.entries.items c.merge.moves.items c.merge.places.items c.requires.old c.requires.new v.merging c.len-place.result turn.0 turn.1 turn.2 place));
    }

pub merge-preserved-in-New : goal.merge-preserved-in-New
merge-preserved-in-New c =
    let v = c.merge.invariant in
    let turn = c.in-New.ensures in
    let x = get_or c.args.new.now c.merge.j (pos 0) in
    let back : to_z w64 (of_z w64 x) ≡ x = search (arith, ints, to_z-of_z) in
    let union = c.push_reserved-in-New.ensures.items ∙ ap (λ (y : ℤ). c.merge.entries.items ++ y ∷ []) back in
    let place : c.len-place.result ≡ length c.merge.entries.items = omega (arith, c.len-place.ensures, c.merge.entries.ok.0) in
    record {
      old = v.old;
      new = omega (arith, turn.0);
      entries_room = omega (arith, c.push_reserved-in-New.ensures.capacity, v.entries_room);
      moves_room = v.moves_room;
      places_room = omega (arith, c.push_reserved-in-New-2.ensures.capacity, v.places_room);
      merging = rw (union, c.push_reserved-in-New-2.ensures.items) (took_new c.args.old.now c.args.old_stands.now c.args.new.now c.args.new_stands.now c.merge.i c.merge.j c.merge.entries.items c.merge.moves.items c.merge.places.items c.requires.old c.requires.new v.merging c.len-place.result turn.0 turn.1 turn.2 place);
    }

pub merge-preserved : goal.merge-preserved
merge-preserved c =
    let v = c.merge.invariant in
    let turn = c.in-Both.ensures in
    let x = get_or c.args.old.now c.merge.i (pos 0) in
    let back : to_z w64 (of_z w64 x) ≡ x = search (arith, ints, to_z-of_z) in
    let union = c.push_reserved-in-Both.ensures.items ∙ ap (λ (y : ℤ). c.merge.entries.items ++ y ∷ []) back in
    let place : c.len-place.result ≡ length c.merge.entries.items = omega (arith, c.len-place.ensures, c.merge.entries.ok.0) in
    record {
      old = omega (arith, turn.0);
      new = omega (arith, turn.1);
      entries_room = omega (arith, c.push_reserved-in-Both.ensures.capacity, v.entries_room);
      moves_room = omega (arith, c.push_reserved-in-Both-2.ensures.capacity, v.moves_room);
      places_room = omega (arith, c.push_reserved-in-Both-3.ensures.capacity, v.places_room);
      merging = rw (union, c.push_reserved-in-Both-2.ensures.items, c.push_reserved-in-Both-3.ensures.items) (took_both c.args.old.now c.args.old_stands.now c.args.new.now c.args.new_stands.now c.merge.i c.merge.j c.merge.entries.items c.merge.moves.items c.merge.places.items c.requires.old c.requires.new v.merging c.len-place.result turn.0 turn.1 turn.2 turn.4 place);
    }

pub returns : goal.returns
returns c =
    let v = c.merge.invariant in
    is_union c.args.old.now c.args.old_stands.now c.args.new.now c.args.new_stands.now c.merge.i c.merge.j c.merge.entries.items c.merge.moves.items c.merge.places.items
    (omega (arith, c.if-i-old.false, v.old)) (omega (arith, c.if-j-new.false, v.new)) v.merging
