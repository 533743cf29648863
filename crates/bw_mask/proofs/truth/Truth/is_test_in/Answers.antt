use Rattle.std.proofs.Common.{arith, ◌≡◌, ◌∙◌}
use Rattle.bw_mask.specs.Masks.{len}
use Rattle.bw_mask.proofs.Pairs.{tested, tested_not, truths_len}
use Rattle.bw_mask.proofs.truth.Truth.is_test_in.Goals as goal

pub returns-then-negated-clause-rows : goal.returns-then-negated-clause-rows
returns-then-negated-clause-rows c i =
    let need_len : len c.args.need.now ≡ len c.self.inside.t = grind (arith, truths_len) in
    rw (c.if-negated.true, ← c.self.view_is, c.swap.ensures.x_after, c.swap.ensures.y_after) (
    tested_not c.self.inside.t c.self.inside.f c.keep_value.new.t c.args.need.now c.and_in.new.self c.become_difference.new.self c.args.value c.self.invariant need_len
    (c.and_in.ensures.shape.0 ∙ c.keep_value.ensures.t_len) (c.become_difference.ensures.shape.0 ∙ c.keep_value.ensures.f_len) c.keep_value.ensures.rows c.and_in.ensures.rows c.become_difference.ensures.rows i)

pub returns-else-negated-clause-rows : goal.returns-else-negated-clause-rows
returns-else-negated-clause-rows c i =
    let need_len : len c.args.need.now ≡ len c.self.inside.t = grind (arith, truths_len) in
    rw (c.if-negated.false, ← c.self.view_is) (
    tested c.self.inside.t c.self.inside.f c.keep_value.new.t c.args.need.now c.and_in.new.self c.become_difference.new.self c.args.value c.self.invariant need_len
    (c.and_in.ensures.shape.0 ∙ c.keep_value.ensures.t_len) (c.become_difference.ensures.shape.0 ∙ c.keep_value.ensures.f_len) c.keep_value.ensures.rows c.and_in.ensures.rows c.become_difference.ensures.rows i)
