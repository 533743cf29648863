use Rattle.bw_mask.proofs.Tables.{is_bool_True, is_of_True, is_of_False, is_of_Unknown, is_of_not_of}
use Rattle.bw_mask.proofs.laws.is_tests.Goals as goal

pub returns : goal.returns
returns c = record { of_bool = is_bool_True; is_true = is_of_True; is_false = is_of_False; is_unknown = is_of_Unknown; after_not = is_of_not_of }
