use Rattle.bw_code.proofs.Codes.{coded, code_low, code_back, one_value}
use Rattle.bw_code.proofs.laws.codes_of_values.Goals as goal

pub returns : goal.returns
returns c = record { coded = coded; low = code_low; back = code_back; one_value = one_value }
