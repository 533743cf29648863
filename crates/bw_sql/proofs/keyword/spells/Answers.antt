use Rattle.std.proofs.Common.{◌∙◌}
use Rattle.std.specs.Char.{to_ascii_uppercase}
use Rattle.bw_sql.proofs.Spelling.{all_pairs}
use Rattle.bw_sql.proofs.keyword.spells.Goals as goal

pub returns-then-word-spelling : goal.returns-then-word-spelling
returns-then-word-spelling c = c.agree.ensures ∙ all_pairs to_ascii_uppercase c.args.word.now c.args.spelling.now c.if-word-spelling.true
