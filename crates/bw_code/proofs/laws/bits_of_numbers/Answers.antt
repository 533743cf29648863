use Rattle.bw_code.proofs.Widths.{bits_of_is}
use Rattle.bw_code.proofs.laws.bits_of_numbers.Goals as goal

pub returns : goal.returns
returns c = record {
  some = λ n h. (bits_of_is n h).some;
  holds = λ n h. (bits_of_is n h).holds;
  least = λ n bits h. (bits_of_is n h).least bits;
}
