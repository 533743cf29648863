-- Values between two that have codes.
use Rattle.std.proofs.Common.{[], List, None, Option, Some, ap, arith, get_or, ℕ, ℤ, ◌≡◌, ◌≤ℤ◌, length}
use Rattle.std.specs.List.{All}
use Rattle.std.proofs.lemmas.Int.{ints}
use Rattle.std.proofs.lemmas.List.{get_or_default}
use Rattle.std.proofs.lemmas.List.Elements.{All-contains}
use Rattle.bw_cells.proofs.Known.{all_known, known_at}
use Rattle.bw_code.specs.Encodings.{IsGreatest, IsLeast, IsWithin, top}
use Rattle.bw_code.specs.declared.encoding.Encoding.TheVariants as by
use Rattle.bw_code.specs.declared.offset.Offset.{Offset}
use Rattle.bw_column.specs.Codes.{IsCoded}
use Rattle.bw_column.specs.Values.{known}
use Rattle.bw_column.proofs.Chosen.{holds_any}

module _ (o : Offset) (least greatest : ℤ) (values : List (Option ℤ)) (low : o.base ≤ℤ least) (high : greatest ≤ℤ top o) (first : IsLeast (known values) least) (last : IsGreatest (known values) greatest) where
  coded_value : (k : ℕ) (v : Option ℤ) → get_or values k None ≡ v → IsCoded (by.Offset o) v
  coded_value k None is = tt
  coded_value k (Some x) is =
      let from : least ≤ℤ x = All-contains (λ y. least ≤ℤ y) (known values) x first.bound (known_at values k x is) in
      let to : x ≤ℤ greatest = All-contains (λ y. y ≤ℤ greatest) (known values) x last.bound (known_at values k x is) in
      (omega (arith, ints, low, from), omega (arith, ints, high, to))

  pub coded_between : All (IsCoded (by.Offset o)) values
  coded_between k d h = coded_value k (get_or values k d) (get_or_default values k None d h)

-- where all are null, each has a code
none_coded_at : (o : Offset) (values : List (Option ℤ)) → known values ≡ [] → (k : ℕ) (v : Option ℤ) → get_or values k None ≡ v → IsCoded (by.Offset o) v
none_coded_at o values none k None is = tt
none_coded_at o values none k (Some x) is = let at = known_at values k x is in absurd (omega (arith, at.1, ap length none))

pub none_coded : (o : Offset) (values : List (Option ℤ)) → known values ≡ [] → All (IsCoded (by.Offset o)) values
none_coded o values none k d h = none_coded_at o values none k (get_or values k d) (get_or_default values k None d h)

-- the values that are not null of those that have codes
pub all_within : (o : Offset) (values : List (Option ℤ)) → All (IsCoded (by.Offset o)) values → All (IsWithin o) (known values)
all_within o values all = all_known (IsWithin o) values (λ i x is. rw is at (holds_any (IsCoded (by.Offset o)) values tt all i))
