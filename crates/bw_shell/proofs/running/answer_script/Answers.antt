use Rattle.std.proofs.Common.{[], refl, ◌∙◌, arith}
use Rattle.std.proofs.lemmas.List.{length-take-le}
use Rattle.bw_shell.proofs.Scripts.{at_start, ends_broken, ends_early, ends_reached, more_read}
use Rattle.bw_shell.proofs.running.answer_script.Goals as goal

pub loop-n-init : goal.loop-n-init
loop-n-init g c = record {
  part = ([], (c.requires.begun, rw c.requires.fresh (at_start _ _ _ _)));
  on_error = refl;
  room = c.requires.room;
  fits = omega arith;
  few = omega arith;
}

pub answer_piece-requires-clause-begun : goal.answer_piece-requires-clause-begun
answer_piece-requires-clause-begun g c = c.loop-n.invariant.part.1.0.1

pub answer_piece-requires-clause-failures : goal.answer_piece-requires-clause-failures
answer_piece-requires-clause-failures g c =
    let size = length-take-le c.in-Piece.n c.read_piece.new.buffer c.in-Piece.ensures.2 in
    omega (arith, size, c.in-Piece.ensures.1, c.loop-n.invariant.few, c.requires.failures)

pub returns-in-Some : goal.returns-in-Some
returns-in-Some g c =
    let so = c.loop-n.invariant.part in
    let answers = rw c.loop-n.invariant.on_error at (c.in-Some.ensures.answers so.0 so.1.0) in
    ends_early _ _ _ _ _ _ _ so.0 _ so.1.1 _ c.read_piece.new.buffer c.in-Piece.n c.in-Piece.ensures _ c.in-Some.end c.answer_piece.new.self.engine _ answers

pub loop-n-smaller : goal.loop-n-smaller
loop-n-smaller g c = omega (arith, c.in-Piece.ensures.0, c.in-Piece.ensures.1)

pub loop-n-preserved : goal.loop-n-preserved
loop-n-preserved g c =
    let so = c.loop-n.invariant.part in
    let answers = rw c.loop-n.invariant.on_error at (c.in_default.ensures.answers so.0 so.1.0) in
    let size = length-take-le c.in-Piece.n c.read_piece.new.buffer c.in-Piece.ensures.2 in
    record {
      part = (answers.0, (answers.1, more_read _ _ _ _ _ _ _ so.0 _ so.1.1 _ c.read_piece.new.buffer c.in-Piece.n c.in-Piece.ensures _ answers.0 _ answers.2));
      on_error = c.in_default.ensures.on_error ∙ c.loop-n.invariant.on_error;
      room = omega (arith, c.in-Piece.ensures.0, c.in-Piece.ensures.2);
      fits = omega (arith, c.loop-n.invariant.fits);
      few = omega (arith, size, c.in-Piece.ensures.1, c.in_default.ensures.failures, c.loop-n.invariant.few);
    }

pub answer_rest-requires-clause-begun : goal.answer_rest-requires-clause-begun
answer_rest-requires-clause-begun g c = c.loop-n.invariant.part.1.0.1

pub answer_rest-requires-clause-failures : goal.answer_rest-requires-clause-failures
answer_rest-requires-clause-failures g c = omega (arith, c.loop-n.invariant.few, c.requires.failures)

pub returns-in-End-Reached : goal.returns-in-End-Reached
returns-in-End-Reached g c =
    let so = c.loop-n.invariant.part in
    let gives = rw c.in-End-Reached.field-0-is at c.in-End-Reached.ensures in
    let answers = rw c.loop-n.invariant.on_error at (c.answer_rest.ensures.answers so.0 so.1.0) in
    ends_reached _ _ _ _ _ _ _ so.0 _ so.1.1 _ _ c.read_piece.new.buffer c.answer_rest.result c.answer_rest.new.self.engine _ gives answers

pub returns-in-End-Fault : goal.returns-in-End-Fault
returns-in-End-Fault g c =
    let so = c.loop-n.invariant.part in
    let gives = rw c.in-End-Fault.field-0-is at c.in-End-Fault.ensures in
    ends_broken _ _ _ _ _ _ _ so.0 _ so.1.1 _ c.read_piece.new.buffer c.loop-n.session.engine _ refl gives
