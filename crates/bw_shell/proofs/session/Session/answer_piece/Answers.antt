use Rattle.std.proofs.Common.{[], refl, sym, ◌∙◌, arith}
use Rattle.bw_shell.proofs.PieceByPiece.{at_piece, part_answered, part_ended, piece_over, rest_left, rest_shorter}
use Rattle.bw_shell.proofs.session.Session.answer_piece.Goals as goal

pub loop-taken-init : goal.loop-taken-init
loop-taken-init g c = record { going = λ part begun. (part, (begun, at_piece _ part _ _ _)); stage = refl; on_error = refl; few = omega arith }

pub feed-requires : goal.feed-requires
feed-requires g c = c.loop-taken.invariant.stage ∙ c.requires.begun

pub answer_part-requires-clause-failures : goal.answer_part-requires-clause-failures
answer_part-requires-clause-failures g c = omega (arith, c.loop-taken.invariant.few, c.requires.failures)

pub returns-in-Some-answer_part-clause-answers : goal.returns-in-Some-answer_part-clause-answers
returns-in-Some-answer_part-clause-answers g c part begun =
    let went = c.loop-taken.invariant.going part begun in
    let fed = c.in-Some.ensures.fed went.0 went.1.0 in
    let answered = rw c.loop-taken.invariant.on_error at (c.in-Some-answer_part.ensures.answers fed.0 fed.2) in
    part_ended _ part _ _ _ _ _ went.0 _ went.1.1 fed.0 _ fed.1 _ answered.0 _ answered.1 _ answered.2

pub returns-in-Some-answer_part-clause-failures : goal.returns-in-Some-answer_part-clause-failures
returns-in-Some-answer_part-clause-failures g c = omega (arith, c.loop-taken.invariant.few, c.answer_part.ensures.failures, c.in-Some.ensures.within)

pub returns-in-Some-answer_part-clause-on_error : goal.returns-in-Some-answer_part-clause-on_error
returns-in-Some-answer_part-clause-on_error g c = c.answer_part.ensures.on_error ∙ c.loop-taken.invariant.on_error

pub loop-taken-smaller : goal.loop-taken-smaller
loop-taken-smaller g c = rest_shorter _ _ c.in-Some.ensures.within.0 c.in-Some.ensures.within.1

pub loop-taken-preserved : goal.loop-taken-preserved
loop-taken-preserved g c = record {
  going = λ part begun.
      let went = c.loop-taken.invariant.going part begun in
      let fed = c.in-Some.ensures.fed went.0 went.1.0 in
      let answered = rw c.loop-taken.invariant.on_error at (c.in_default-answer_part.ensures.answers fed.0 fed.2) in
      ([], (c.in_default-answer_part.ensures.begun, rw (rest_left c.in-Some.taken c.loop-taken.rest.now) (part_answered _ part _ _ _ _ _ went.0 _ went.1.1 fed.0 _ fed.1 _ answered.0 _ answered.1 answered.2)));
  stage = c.in_default-answer_part.ensures.begun.1 ∙ sym c.requires.begun;
  on_error = c.in_default-answer_part.ensures.on_error ∙ c.loop-taken.invariant.on_error;
  few =
      let shorter = rest_shorter c.in-Some.taken c.loop-taken.rest.now c.in-Some.ensures.within.0 c.in-Some.ensures.within.1 in
      let more = c.in_default-answer_part.ensures.failures in
      let few = c.loop-taken.invariant.few in
      omega arith;
}

pub returns-clause-answers : goal.returns-clause-answers
returns-clause-answers g c part begun =
    let went = c.loop-taken.invariant.going part begun in
    let fed = c.in_default.ensures.fed went.0 went.1.0 in
    (fed.0, fed.2, piece_over _ part _ _ _ _ _ went.0 _ went.1.1 fed.0 fed.1)

pub returns-clause-failures : goal.returns-clause-failures
returns-clause-failures g c = omega (arith, c.loop-taken.invariant.few)

pub returns-clause-on_error : goal.returns-clause-on_error
returns-clause-on_error g c = c.loop-taken.invariant.on_error
