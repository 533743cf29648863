-- The truth tables of NOT, AND, OR and the IS tests (SQL-92, search condition).
use Rattle.std.specs.Prelude.{Bool, true, false}
use Rattle.bw_mask.specs.declared.truth_value.TruthValue.{TruthValue}
use Rattle.bw_mask.specs.declared.truth_value.TruthValue.TheVariants.{True, False, Unknown}

abbrev pub truth_of_bool : Bool → TruthValue
truth_of_bool true = True
truth_of_bool false = False

abbrev pub not_of : TruthValue → TruthValue
not_of True = False
not_of False = True
not_of Unknown = Unknown

abbrev pub and_of : TruthValue → TruthValue → TruthValue
and_of True b = b
and_of False b = False
and_of Unknown True = Unknown
and_of Unknown False = False
and_of Unknown Unknown = Unknown

abbrev pub or_of : TruthValue → TruthValue → TruthValue
or_of True b = True
or_of False b = b
or_of Unknown True = True
or_of Unknown False = Unknown
or_of Unknown Unknown = Unknown

-- whether the truth is this value
abbrev pub is_value : TruthValue → TruthValue → Bool
is_value True True = true
is_value True _ = false
is_value False False = true
is_value False _ = false
is_value Unknown Unknown = true
is_value Unknown _ = false

-- an IS test is never unknown
abbrev pub is_of : TruthValue → TruthValue → TruthValue
is_of truth value = truth_of_bool (is_value truth value)

-- an IS test, or an IS NOT test
abbrev pub is_test : TruthValue → Bool → TruthValue → TruthValue
is_test value false truth = is_of truth value
is_test value true truth = not_of (is_of truth value)
