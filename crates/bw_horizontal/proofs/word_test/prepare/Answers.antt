use Rattle.std.proofs.Common.{ap, arith, false, nat_le, nat_lt, true, ◌∙◌}
use Rattle.std.proofs.lemmas.Bool.{le-leb, le-ltb}
use Rattle.bw_code.specs.Tests.{code_compares}
use Rattle.bw_lane.specs.Sections.{holds, section_of}
use Rattle.bw_lane.specs.declared.sections.LaneOp.TheVariants.{Ge, Le, Lt}
use Rattle.bw_horizontal.proofs.Marks.{both_delimiters, compared_delimiters}
use Rattle.bw_horizontal.proofs.word_test.prepare.Goals as goal

pub returns-in-None : goal.returns-in-None
returns-in-None c word stored =
    let k = c.args.masks.now.width in
    rw c.in-None.is (compared_delimiters Lt k word _ _ (λ x. false) (λ t h. ap (nat_lt (section_of k t word)) (c.constant.ensures.each t h) ∙ le-ltb (section_of k t word) 0 (omega arith)) (c.against.ensures word stored))

pub returns-in-All : goal.returns-in-All
returns-in-All c word stored =
    let k = c.args.masks.now.width in
    rw c.in-All.is (compared_delimiters Ge k word _ _ (λ x. true) (λ t h. ap (λ y. nat_le y (section_of k t word)) (c.constant-in-All.ensures.each t h) ∙ le-leb 0 (section_of k t word) (omega arith)) (c.against-in-All.ensures word stored))

pub returns-in-Cmp : goal.returns-in-Cmp
returns-in-Cmp c word stored =
    let k = c.args.masks.now.width in
    rw c.in-Cmp.is (compared_delimiters c.lane_op.result k word _ _ (λ x. code_compares c.in-Cmp.op x c.in-Cmp.constant)
    (λ t h. ap (holds c.lane_op.result _) (c.constant-in-Cmp.ensures.each t h) ∙ c.lane_op.ensures _ _) (c.against-in-Cmp.ensures word stored))

pub returns-in-Range : goal.returns-in-Range
returns-in-Range c word stored =
    let k = c.args.masks.now.width in
    rw c.in-Range.is (both_delimiters k word _ _ (λ x. nat_le c.in-Range.low x) (λ x. nat_le x c.in-Range.high)
    (compared_delimiters Ge k word _ _ (λ x. nat_le c.in-Range.low x) (λ t h. ap (λ y. nat_le y (section_of k t word)) (c.constant-in-Range.ensures.each t h)) (c.against-in-Range.ensures word stored))
    (compared_delimiters Le k word _ _ (λ x. nat_le x c.in-Range.high) (λ t h. ap (λ y. nat_le (section_of k t word) y) (c.constant-in-Range-2.ensures.each t h)) (c.against-in-Range-2.ensures word stored)))
