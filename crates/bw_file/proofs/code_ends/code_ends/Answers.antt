use Rattle.std.proofs.Common.{ap, arith, inl, inr, subst, sym, ℕ, ◌*◌, ◌+◌, ◌/◌, ◌==◌, ◌≡◌, ◌≤◌, ◌∙◌}
use Rattle.std.proofs.lemmas.Bool.{cases_lt}
use Rattle.bw_vertical.specs.Descents.{AreCodeEnds}
use Rattle.bw_file.specs.Cells.{presence_size}
use Rattle.bw_file.specs.Descents.{bit_at_row}
use Rattle.bw_file.specs.Planes.{code_in, has_in}
use Rattle.bw_file.proofs.BlockEnds.{first_rows}
use Rattle.bw_file.proofs.RowBytes.{past_row}
use Rattle.bw_file.proofs.code_ends.code_ends.Goals as goal

pub ends_with_block-ends-requires-clause-within : goal.ends_with_block-ends-requires-clause-within
ends_with_block-ends-requires-clause-within c r past = c.block_of-there.ensures.rest r (omega (arith, past, c.min.ensures))

pub runs-preserved : goal.runs-preserved
runs-preserved c =
    let present = c.args.present.now in
    let planes = c.args.planes.now in
    let k = c.args.k in
    let b = c.runs.b in
    let from = c.runs.b * 512 in
    let size : c.div_ceil-size.result ≡ presence_size c.args.rows = omega (arith, c.div_ceil-size.ensures) in
    let more : 4096 * c.runs.b + 4096 ≡ 4096 * (c.runs.b + 1) = omega arith in
    let place : (r : ℕ) → 8 * (c.runs.b * 512) + r ≡ 4096 * c.runs.b + r = λ r. omega arith in
    subst (λ m. AreCodeEnds (has_in c.args.present.now) (code_in c.args.k (presence_size c.args.rows) c.args.planes.now) m c.ends_with_block-ends.result) more
    (c.ends_with_block-ends.ensures (has_in present) (code_in k (presence_size c.args.rows) planes) (4096 * b)
    (λ r h.
    elim (cases_lt (r / 8) c.min.result) [
      | inl here ↦ ap (bit_at_row c.args.present.now) (sym (place r)) ∙ sym (c.block_of-there.ensures.bits r here)
      | inr past ↦
          let beyond : presence_size c.args.rows ≤ (4096 * c.runs.b + r) / 8 = omega (arith, h, past, c.min.ensures, size) in
          past_row (presence_size c.args.rows) present c.requires.present (4096 * b + r) beyond ∙ sym (c.block_of-there.ensures.rest r past)
    ])
    (λ r h. ap (λ s. code_in c.args.k s c.args.planes.now (4096 * c.runs.b + r)) (sym size) ∙ ap (code_in c.args.k c.div_ceil-size.result c.args.planes.now) (sym (place r)))
    c.runs.invariant)

pub returns : goal.returns
returns c =
    let all : c.args.rows ≤ 4096 * c.runs.b = omega (arith, c.runs-test.false, c.div_ceil-b-end.ensures, c.div_ceil-size.ensures) in
    first_rows (has_in c.args.present.now) (code_in c.args.k (presence_size c.args.rows) c.args.planes.now) c.args.rows (4096 * c.runs.b) c.runs.ends all (λ r h. ap (λ w. w == 1) (c.requires.spare r h)) c.runs.invariant
