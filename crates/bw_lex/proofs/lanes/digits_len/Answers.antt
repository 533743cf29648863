use Rattle.std.proofs.Common.{◌∙◌, ap, sym, arith}
use Rattle.std.specs.Char.{is_ascii_digit}
use Rattle.std.specs.List.{prefix_len}
use lib.Count.{count_trailing_zeros}
use Rattle.bw_lex.proofs.LaneLemmas.{run_stops}
use Rattle.bw_lex.proofs.Lexing.{drop_none}
use Rattle.bw_lex.proofs.lanes.digits_len.Goals as goal

pub returns-then-found-ne0 : goal.returns-then-found-ne0
returns-then-found-ne0 c =
    let found = c.no_digits-found in
    ap (count_trailing_zeros 64) found.ensures
    ∙ sym (run_stops is_ascii_digit c.args.bytes.now 0 16 (omega arith) (omega arith) (omega (arith, found.ensures)))
    ∙ ap (prefix_len is_ascii_digit) (drop_none c.args.bytes.now)
