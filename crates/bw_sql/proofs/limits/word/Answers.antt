use Rattle.std.proofs.Common.{◌∙◌, sym}
use Rattle.bw_sql.proofs.NameLemmas.{word_is_name}
use Rattle.bw_sql.proofs.limits.word.Goals as goal

pub new-requires : goal.new-requires
new-requires c = word_is_name c.args.bytes.now c.requires.word c.requires.short (sym c.reserved_word.ensures ∙ c.in-None.is)
