use Rattle.bw_code.proofs.Codes.{code_less, value_less}
use Rattle.bw_code.proofs.laws.codes_keep_order.Goals as goal

pub returns : goal.returns
returns c = λ e ok x y i j a b. (code_less e ok x y i j a b, value_less e ok x y i j a b)
