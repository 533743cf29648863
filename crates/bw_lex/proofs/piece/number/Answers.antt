use Rattle.std.proofs.Common.{arith}
use Rattle.std.proofs.lemmas.List.Sums.{prefix_len-le-length}
use Rattle.std.specs.Char.{is_ascii_digit}
use Rattle.bw_lex.proofs.piece.number.Goals as goal

pub slice_bounds-word_goes_on-count : goal.slice_bounds-word_goes_on-count
slice_bounds-word_goes_on-count c = omega (arith, prefix_len-le-length is_ascii_digit c.args.bytes.now)

pub slice_bounds-word_goes_on-start : goal.slice_bounds-word_goes_on-start
slice_bounds-word_goes_on-start c = omega (arith, prefix_len-le-length is_ascii_digit c.args.bytes.now)
