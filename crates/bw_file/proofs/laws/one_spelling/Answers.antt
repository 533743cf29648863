use Rattle.std.proofs.Common.{sym, ◌∙◌}
use Rattle.bw_file.proofs.Fronts.{one-table}
use Rattle.bw_file.proofs.laws.one_spelling.Goals as goal

pub returns-clause-bytes : goal.returns-clause-bytes
returns-clause-bytes c version a b t s v = s.bytes_are ∙ sym v.bytes_are

pub returns-clause-tables : goal.returns-clause-tables
returns-clause-tables c bytes t u s v = one-table bytes t u s v
