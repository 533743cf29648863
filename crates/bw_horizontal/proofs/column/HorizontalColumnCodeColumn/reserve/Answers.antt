use Rattle.std.proofs.Common.{arith, refl, vec_capacity, vec_len, ◌+◌, ◌-◌, ◌^◌, ◌≤◌}
use Rattle.std.proofs.lemmas.Result.{on_ok_weaker}
use Rattle.bw_horizontal.proofs.Views.{count_is, room_grows, room_made, words_more}
use Rattle.bw_horizontal.proofs.column.HorizontalColumnCodeColumn.reserve.Goals as goal

pub overflow_sub-more_words : goal.overflow_sub-more_words
overflow_sub-more_words c =
    let inside = c.self.inside in
    omega (arith, c.len.ensures, c.words_for.ensures, c.self.invariant.segments.count, inside.words.ok.0, words_more inside.width inside.len (inside.len + c.args.more) c.self.invariant.narrow (omega arith))

pub returns-clause-shape : goal.returns-clause-shape
returns-clause-shape c =
    let inside = c.self.inside in
    rw (← c.self.view_is) (record { width = refl; room = room_grows inside.width (vec_capacity inside.words) (vec_capacity c.reserve.new.self) c.reserve.ensures.capacity })

pub returns-clause-room : goal.returns-clause-room
returns-clause-room c =
    let inside = c.self.inside in
    let n = inside.len + c.args.more in
    let few : n ≤ 2 ^ 24 = grind (arith, count_is) in
    let most = words_more inside.width inside.len n c.self.invariant.narrow (omega arith) in
    rw (← c.self.view_is, count_is inside.width inside.len inside.words.items) (on_ok_weaker c.reserve.result
    (λ (room : vec_len c.reserve.new.self + (c.words_for.result - c.len.result) ≤ vec_capacity c.reserve.new.self).
    room_made inside.width n (vec_capacity c.reserve.new.self) c.self.invariant.narrow few (omega (arith, room, most, c.reserve.ensures.len, c.len.ensures, c.words_for.ensures, c.self.invariant.segments.count, inside.words.ok.0)))
    c.reserve.ensures.ok)
