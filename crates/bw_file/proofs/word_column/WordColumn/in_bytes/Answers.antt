use Rattle.std.proofs.Common.{ap, arith, drop, length, slice_index, sym, take, take-append-drop, ℕ, ◌*◌, ◌++◌, ◌<◌, ◌≡◌, ◌∙◌}
use Rattle.bw_file.specs.Cells.{presence_bytes, presence_size}
use Rattle.bw_file.proofs.Blocks.{spelled-column, spelled-numbers}
use Rattle.bw_file.proofs.Lent.{back_small, front_small, integers_in, length-cells_in}
use Rattle.bw_file.proofs.Places.{column_presence, column_words}
use Rattle.bw_file.proofs.word_column.WordColumn.in_bytes.Goals as goal

pub returns-then-has_spare_bit-clause-none : goal.returns-then-has_spare_bit-clause-none
returns-then-has_spare_bit-clause-none c e cells long all spelled =
    let size : c.div_ceil.result ≡ presence_size (length cells) = omega (arith, c.div_ceil.ensures) in
    let present = c.split_at.ensures.front ∙ ap (take c.div_ceil.result) spelled ∙ column_presence cells c.div_ceil.result size in
    c.has_spare_bit.ensures.yes c.if-has_spare_bit.true cells long (present ∙ ap (λ n. presence_bytes (presence_size n) cells) long)

pub returns-in_default-clause-none : goal.returns-in_default-clause-none
returns-in_default-clause-none c e cells long all spelled =
    let size : c.div_ceil.result ≡ presence_size (length cells) = omega (arith, c.div_ceil.ensures) in
    let present = c.split_at.ensures.front ∙ ap (take c.div_ceil.result) spelled ∙ column_presence cells c.div_ceil.result size in
    let words = c.split_at.ensures.back ∙ ap (drop c.div_ceil.result) spelled ∙ column_words cells c.div_ceil.result size in
    let numbers = spelled-numbers cells c.split_at.result.0.now c.split_at.result.1.now all present words in
    c.spelled_ends.ensures.wrong c.in_default.is (λ i h. numbers i (omega (arith, long)))

-- bits and words are bytes
small_bits : (c : goal.In-Right) → (k : ℕ) → slice_index c.split_at.result.0.now k < 256
small_bits c k = rw c.split_at.ensures.front (front_small c.div_ceil.result c.args.bytes.now (λ i. (c.type_inv.bytes i).fits) k)

small_words : (c : goal.In-Right) → (k : ℕ) → slice_index c.split_at.result.1.now k < 256
small_words c k = rw c.split_at.ensures.back (back_small c.div_ceil.result c.args.bytes.now (λ i. (c.type_inv.bytes i).fits) k)

pub invariant_of-result : goal.invariant_of-result
invariant_of-result c =
    let present = c.split_at.result.0.now in
    let words = c.split_at.result.1.now in
    let long : length words ≡ 4 * c.args.rows = omega (arith, c.split_at.ensures.back_len, c.div_ceil.ensures, c.requires.long) in
    record {
      few = c.requires.few;
      bits = omega (arith, c.split_at.ensures.front_len, c.div_ceil.ensures);
      numbers = long;
      spare = c.has_spare_bit.ensures.no c.if-has_spare_bit.false;
      spelled = c.spelled_ends.ensures.right c.in-Right.ends c.in-Right.is;
      integers = integers_in c.args.rows present words (small_words c);
      measured = c.spelled_ends.ensures.ends c.in-Right.ends c.in-Right.is;
    }

pub returns-clause-count : goal.returns-clause-count
returns-clause-count c = length-cells_in c.args.rows c.split_at.result.0.now c.split_at.result.1.now

pub returns-clause-integers : goal.returns-clause-integers
returns-clause-integers c = integers_in c.args.rows c.split_at.result.0.now c.split_at.result.1.now (small_words c)

pub returns-clause-spelled : goal.returns-clause-spelled
returns-clause-spelled c =
    let present = c.split_at.result.0.now in
    let words = c.split_at.result.1.now in
    let bits : length present ≡ presence_size c.args.rows = omega (arith, c.split_at.ensures.front_len, c.div_ceil.ensures) in
    let long : length words ≡ 4 * c.args.rows = omega (arith, c.split_at.ensures.back_len, c.div_ceil.ensures, c.requires.long) in
    let whole : c.args.bytes.now ≡ present ++ words =
    sym (take-append-drop c.div_ceil.result c.args.bytes.now) ∙ ap (λ xs. xs ++ drop c.div_ceil.result c.args.bytes.now) (sym c.split_at.ensures.front) ∙ ap (λ xs. present ++ xs) (sym c.split_at.ensures.back) in
    whole ∙ spelled-column c.args.rows present words (small_bits c) (small_words c) bits long (c.has_spare_bit.ensures.no c.if-has_spare_bit.false) (c.spelled_ends.ensures.right c.in-Right.ends c.in-Right.is)
