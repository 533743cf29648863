-- Laws of the truth tables.
use Rattle.std.proofs.Common.{◌≡◌, Bool, true, false, refl}
use Rattle.bw_mask.specs.Truth.{and_of, is_of, is_value, not_of, or_of, truth_of_bool}
use Rattle.bw_mask.specs.declared.truth_value.TruthValue.{TruthValue}
use Rattle.bw_mask.specs.declared.truth_value.TruthValue.TheVariants.{True, False, Unknown}

pub and_of_assoc : (a b c : TruthValue) → and_of (and_of a b) c ≡ and_of a (and_of b c)
and_of_assoc True b c = refl
and_of_assoc False b c = refl
and_of_assoc Unknown True c = refl
and_of_assoc Unknown False c = refl
and_of_assoc Unknown Unknown True = refl
and_of_assoc Unknown Unknown False = refl
and_of_assoc Unknown Unknown Unknown = refl

pub or_of_assoc : (a b c : TruthValue) → or_of (or_of a b) c ≡ or_of a (or_of b c)
or_of_assoc True b c = refl
or_of_assoc False b c = refl
or_of_assoc Unknown True c = refl
or_of_assoc Unknown False c = refl
or_of_assoc Unknown Unknown True = refl
or_of_assoc Unknown Unknown False = refl
or_of_assoc Unknown Unknown Unknown = refl

pub and_of_True : (a : TruthValue) → and_of a True ≡ a
and_of_True True = refl
and_of_True False = refl
and_of_True Unknown = refl

pub and_of_False : (a : TruthValue) → and_of a False ≡ False
and_of_False True = refl
and_of_False False = refl
and_of_False Unknown = refl

pub or_of_False : (a : TruthValue) → or_of a False ≡ a
or_of_False True = refl
or_of_False False = refl
or_of_False Unknown = refl

pub or_of_True : (a : TruthValue) → or_of a True ≡ True
or_of_True True = refl
or_of_True False = refl
or_of_True Unknown = refl

pub and_of_Unknown : (a : TruthValue) → and_of a Unknown ≡ and_of Unknown a
and_of_Unknown True = refl
and_of_Unknown False = refl
and_of_Unknown Unknown = refl

pub or_of_Unknown : (a : TruthValue) → or_of a Unknown ≡ or_of Unknown a
or_of_Unknown True = refl
or_of_Unknown False = refl
or_of_Unknown Unknown = refl

pub and_of_comm : (a b : TruthValue) → and_of a b ≡ and_of b a
and_of_comm a True = and_of_True a
and_of_comm a False = and_of_False a
and_of_comm a Unknown = and_of_Unknown a

pub or_of_comm : (a b : TruthValue) → or_of a b ≡ or_of b a
or_of_comm a True = or_of_True a
or_of_comm a False = or_of_False a
or_of_comm a Unknown = or_of_Unknown a

pub and_of_same : (a : TruthValue) → and_of a a ≡ a
and_of_same True = refl
and_of_same False = refl
and_of_same Unknown = refl

pub or_of_same : (a : TruthValue) → or_of a a ≡ a
or_of_same True = refl
or_of_same False = refl
or_of_same Unknown = refl

pub not_of_not_of : (a : TruthValue) → not_of (not_of a) ≡ a
not_of_not_of True = refl
not_of_not_of False = refl
not_of_not_of Unknown = refl

pub not_of_and_of : (a b : TruthValue) → not_of (and_of a b) ≡ or_of (not_of a) (not_of b)
not_of_and_of True b = refl
not_of_and_of False b = refl
not_of_and_of Unknown True = refl
not_of_and_of Unknown False = refl
not_of_and_of Unknown Unknown = refl

pub not_of_or_of : (a b : TruthValue) → not_of (or_of a b) ≡ and_of (not_of a) (not_of b)
not_of_or_of True b = refl
not_of_or_of False b = refl
not_of_or_of Unknown True = refl
not_of_or_of Unknown False = refl
not_of_or_of Unknown Unknown = refl

pub is_bool_True : (b : Bool) → is_of (truth_of_bool b) True ≡ truth_of_bool b
is_bool_True true = refl
is_bool_True false = refl

pub is_bool_False : (b : Bool) → is_of (truth_of_bool b) False ≡ not_of (truth_of_bool b)
is_bool_False true = refl
is_bool_False false = refl

pub is_bool_Unknown : (b : Bool) → is_of (truth_of_bool b) Unknown ≡ False
is_bool_Unknown true = refl
is_bool_Unknown false = refl

pub is_of_True : (a v : TruthValue) → is_of (is_of a v) True ≡ is_of a v
is_of_True a v = is_bool_True (is_value a v)

pub is_of_False : (a v : TruthValue) → is_of (is_of a v) False ≡ not_of (is_of a v)
is_of_False a v = is_bool_False (is_value a v)

pub is_of_Unknown : (a v : TruthValue) → is_of (is_of a v) Unknown ≡ False
is_of_Unknown a v = is_bool_Unknown (is_value a v)

pub is_of_not_of : (a v : TruthValue) → is_of (not_of a) v ≡ is_of a (not_of v)
is_of_not_of True True = refl
is_of_not_of True False = refl
is_of_not_of True Unknown = refl
is_of_not_of False True = refl
is_of_not_of False False = refl
is_of_not_of False Unknown = refl
is_of_not_of Unknown True = refl
is_of_not_of Unknown False = refl
is_of_not_of Unknown Unknown = refl
