use Rattle.std.proofs.Common.{Bool, ap, arith, false, refl, subst, ℕ, ◌*◌, ◌≡◌, ◌≤◌, ◌∙◌}
use Rattle.std.specs.Int.{div_ceil}
use Rattle.std.proofs.lemmas.Bool.{le-ltb, lt-ltb}
use Rattle.bw_mask.specs.Masks.{bit_of, len}
use Rattle.bw_mask.proofs.Bits.{bit_of_zero}
use Rattle.bw_horizontal.specs.Words.{code_in, segment_rows}
use Rattle.bw_horizontal.specs.Gathering.{AreGathered}
use Rattle.bw_horizontal.proofs.Gathered.{none_gathered}
use Rattle.bw_horizontal.proofs.Places.{rows_pos}
use Rattle.bw_horizontal.proofs.Rows.{code_here, rows_whole}
use Rattle.bw_horizontal.proofs.planes.plane.Goals as goal

pub loop-q-init : goal.loop-q-init
loop-q-init c = record {
  shape = (refl, refl);
  rows = subst (λ at. AreGathered c.args.out.now at 0 (λ r. bit_of (code_in c.args.width c.args.words.now r) c.args.i)) (omega arith) (none_gathered c.args.out.now _);
}

pub loop-q-preserved : goal.loop-q-preserved
loop-q-preserved c =
    let k = c.args.width in
    let q = c.loop-q.q in
    let words = c.args.words.now in
    let wanted : ℕ → Bool = λ r. bit_of (code_in k words r) c.args.i in
    let found = rw c.new-masks.ensures at c.rows_with_bit-found.ensures in
    let rows = c.gather-rest.ensures.rows wanted c.loop-q.invariant.rows (λ r h. found r ∙ rw (lt-ltb r (segment_rows k) h, code_here k words q r h) refl) in
    record {
      shape = (c.gather-rest.ensures.shape.0 ∙ c.loop-q.invariant.shape.0, c.gather-rest.ensures.shape.1 ∙ c.loop-q.invariant.shape.1);
      rows = subst (λ at. AreGathered c.gather-rest.new.out at c.gather-rest.result wanted) (omega arith) rows;
    }

pub returns-clause-rows : goal.returns-clause-rows
returns-clause-rows c =
    let k = c.args.width in
    let n = len c.args.out.now in
    let words = c.args.words.now in
    let wanted : ℕ → Bool = λ r. bit_of (code_in k words r) c.args.i in
    let past : (r : ℕ) → n ≤ r → wanted r ≡ false = λ r h. ap (λ code. bit_of code c.args.i) (c.requires.words.clean r h) ∙ bit_of_zero c.args.i in
    let all : segment_rows k * c.loop-q.q ≡ segment_rows k * c.div_ceil-segments.result = ap (λ q. segment_rows k * q) (omega (arith, c.loop-q-test.false)) in
    let gathered = subst (λ at. AreGathered c.loop-q.out at c.loop-q.rest wanted) all c.loop-q.invariant.rows in
    rows_whole n (segment_rows k) c.div_ceil-segments.result c.finish.new.out wanted past (rows_pos k c.requires.words.narrow) (c.finish.ensures.shape.0 ∙ c.loop-q.invariant.shape.0)
    (omega (arith, c.div_ceil-segments.ensures, ap (λ m. div_ceil m (segment_rows k)) c.len.ensures.rows))
    (λ r h l. c.finish.ensures.rows wanted gathered r h (omega (arith, l, c.loop-q.invariant.shape.0)))

pub gather-rest-requires-clause-clean : goal.gather-rest-requires-clause-clean
gather-rest-requires-clause-clean c r h =
    let found = rw c.new-masks.ensures at c.rows_with_bit-found.ensures in
    found r ∙ rw (le-ltb r (segment_rows c.args.width) h) refl
