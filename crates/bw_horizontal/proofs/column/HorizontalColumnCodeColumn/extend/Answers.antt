use Rattle.std.proofs.Common.{arith, length, refl, vec_capacity, ◌*◌, ◌+◌, ◌^◌, ◌≡◌, ◌≤◌}
use Rattle.bw_code.specs.Units.{segments_of}
use Rattle.bw_horizontal.specs.Words.{segment_rows}
use Rattle.bw_horizontal.proofs.Views.{all_stored, codes_longer, count_is, room_grows, room_serves, word_there, words_longer, words_more, written}
use Rattle.bw_horizontal.proofs.column.HorizontalColumnCodeColumn.extend.Goals as goal

pub fill_up-requires-clause-most : goal.fill_up-requires-clause-most
fill_up-requires-clause-most c =
    let inside = c.self.inside in
    omega (arith, c.self.invariant.segments.count, inside.words.ok.0, words_more inside.width inside.len (inside.len + length c.args.codes.now) c.self.invariant.narrow (omega arith))

pub fill_up-requires-clause-room : goal.fill_up-requires-clause-room
fill_up-requires-clause-room c =
    let inside = c.self.inside in
    let room = rw (← c.self.view_is, count_is inside.width inside.len inside.words.items) at c.requires.room in
    room_serves inside.width (inside.len + length c.args.codes.now) (vec_capacity inside.words) c.self.invariant.narrow room

pub put_codes-requires-clause-there : goal.put_codes-requires-clause-there
put_codes-requires-clause-there c j h =
    let inside = c.self.inside in
    omega (arith, word_there inside.width (inside.len + length c.args.codes.now) j c.self.invariant.narrow h, c.deref_mut.ensures.len, c.fill_up.ensures.len)

pub put_codes-requires-clause-stored : goal.put_codes-requires-clause-stored
put_codes-requires-clause-stored c =
    let inside = c.self.inside in
    rw c.deref_mut.ensures.value (all_stored inside.width inside.words.items c.fill_up.new.words.items c.self.invariant.segments.stored c.fill_up.ensures.words)

pub invariant_of-self : goal.invariant_of-self
invariant_of-self c =
    let inside = c.self.inside in
    let filled = c.fill_up.new.words in
    let new = c.put_codes.new.words in
    let few : inside.len + length c.args.codes.now ≤ 2 ^ 24 = grind (arith, count_is) in
    let len : length new ≡ segments_of (segment_rows inside.width) (inside.len + length c.args.codes.now) * (inside.width + 1) = omega (arith, c.put_codes.auto.words, c.deref_mut.ensures.len, c.fill_up.ensures.len) in
    let other = rw c.deref_mut.ensures.value at c.put_codes.ensures.other in
    rw (written filled.len new filled.items (omega (arith, len, c.fill_up.ensures.len))) (words_longer inside.width inside.len c.args.codes.now inside.words.items filled.items new c.self.invariant few c.fill_up.ensures.words len c.put_codes.ensures.stored c.put_codes.ensures.put other)

pub returns-clause-shape : goal.returns-clause-shape
returns-clause-shape c =
    let inside = c.self.inside in
    rw (← c.self.view_is) (record { width = refl; room = room_grows inside.width (vec_capacity inside.words) (vec_capacity c.fill_up.new.words) c.fill_up.ensures.capacity })

pub returns-clause-codes : goal.returns-clause-codes
returns-clause-codes c =
    let inside = c.self.inside in
    let filled = c.fill_up.new.words in
    let new = c.put_codes.new.words in
    let few : inside.len + length c.args.codes.now ≤ 2 ^ 24 = grind (arith, count_is) in
    let len : length new ≡ segments_of (segment_rows inside.width) (inside.len + length c.args.codes.now) * (inside.width + 1) = omega (arith, c.put_codes.auto.words, c.deref_mut.ensures.len, c.fill_up.ensures.len) in
    let other = rw c.deref_mut.ensures.value at c.put_codes.ensures.other in
    rw (written filled.len new filled.items (omega (arith, len, c.fill_up.ensures.len)), ← c.self.view_is) (codes_longer inside.width inside.len c.args.codes.now inside.words.items filled.items new c.self.invariant few c.fill_up.ensures.words len c.put_codes.ensures.stored c.put_codes.ensures.put other)
