use Rattle.std.proofs.Common.{ap, append_assoc, arith, get_or, length, length-append, min, ◌*◌, ◌++◌, ◌<◌, ◌≡◌, ◌∙◌}
use Rattle.bw_mask.specs.Masks.{bit_of, row_in}
use Rattle.bw_code.specs.Lists.{made}
use Rattle.bw_code.proofs.Lists.{made_len}
use Rattle.bw_column.proofs.BlockWords.{rows_and_word}
use Rattle.bw_column.proofs.extending.push_words.Goals as goal

pub loop-j-preserved : goal.loop-j-preserved
loop-j-preserved c =
    let j = c.loop-j.j in
    let n = c.args.n in
    let words = c.args.words.now in
    let i = c.loop-j.invariant in
    let inside : 64 * j < n = omega (arith, c.loop-j-test.true, c.div_ceil-j-end.ensures) in
    record {
      rows =
          c.push_bits.ensures.rows
          ∙ ap (λ xs. xs ++ made c.min.result (bit_of (get_or words j 0))) i.rows
          ∙ append_assoc c.args.mask.now.rows (made (min (64 * j) n) (row_in words)) (made c.min.result (bit_of (get_or words j 0)))
          ∙ ap (λ xs. c.args.mask.now.rows ++ xs) (rows_and_word words j n c.min.result inside c.min.ensures);
      room = omega (arith, c.push_bits.ensures.room, i.room);
    }

pub returns-clause-rows : goal.returns-clause-rows
returns-clause-rows c =
    let all : min (64 * c.loop-j.j) c.args.n ≡ c.args.n = omega (arith, c.loop-j-test.false, c.div_ceil-j-end.ensures) in
    c.loop-j.invariant.rows ∙ ap (λ k. c.args.mask.now.rows ++ made k (row_in c.args.words.now)) all

pub push_bits-requires-clause-room : goal.push_bits-requires-clause-room
push_bits-requires-clause-room c =
    let j = c.loop-j.j in
    let inside : 64 * j < c.args.n = omega (arith, c.loop-j-test.true, c.div_ceil-j-end.ensures) in
    let start = made (min (64 * j) c.args.n) (row_in c.args.words.now) in
    omega (arith, inside, c.min.ensures, c.requires.room, c.loop-j.invariant.room, ap length c.loop-j.invariant.rows, length-append c.args.mask.now.rows start, made_len (min (64 * j) c.args.n) (row_in c.args.words.now))

pub push_bits-requires-clause-few : goal.push_bits-requires-clause-few
push_bits-requires-clause-few c =
    let j = c.loop-j.j in
    let inside : 64 * j < c.args.n = omega (arith, c.loop-j-test.true, c.div_ceil-j-end.ensures) in
    let start = made (min (64 * j) c.args.n) (row_in c.args.words.now) in
    omega (arith, inside, c.min.ensures, c.requires.few, ap length c.loop-j.invariant.rows, length-append c.args.mask.now.rows start, made_len (min (64 * j) c.args.n) (row_in c.args.words.now))
