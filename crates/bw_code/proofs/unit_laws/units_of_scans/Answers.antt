use Rattle.bw_code.proofs.UnitLemmas.{plain_pairs, units_of_all, units_of_cmp, units_of_none, units_of_range}
use Rattle.bw_code.proofs.unit_laws.units_of_scans.Goals as goal

pub returns : goal.returns
returns c = record {
  none = units_of_none;
  all = units_of_all;
  plain_comparison = λ width op constant need codes same. units_of_cmp width need.rows codes same op constant;
  plain_pair = plain_pairs;
  plain_range = λ width low high need codes same. units_of_range width need.rows codes same low high;
}
