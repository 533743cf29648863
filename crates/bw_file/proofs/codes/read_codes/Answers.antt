use Rattle.std.proofs.Common.{length, ◌∙◌}
use Rattle.bw_file.proofs.Turned.{turned_code}
use Rattle.bw_file.proofs.codes.read_codes.Goals as goal

pub returns-clause-codes : goal.returns-clause-codes
returns-clause-codes c r h =
    c.put_codes_of_words.ensures.codes r h
    ∙ turned_code c.args.k c.args.size c.args.at r (length c.args.out.now) c.args.planes.now c.words_at-words.result h (λ b l. c.words_at-words.ensures.bits b r l)
