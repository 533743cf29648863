-- Entries of the sorted values of some rows, by the codes of those that are not null.
use Rattle.std.proofs.Common.{Bool, List, None, Option, Some, ap, count_by, inl, inr, length, map, subst, sym, w64, ℕ, ℤ, ◌≡◌, ◌∙◌}
use Rattle.std.proofs.lemmas.Bool.{cases_lt}
use Rattle.std.proofs.lemmas.List.{get_or_past, length-map}
use Rattle.std.specs.List.{items_where_true}
use Rattle.std.specs.Prelude.{All, FitsSigned, slice_get}
use Rattle.bw_code.specs.Encodings.{IsCode, IsEncoding, value_of}
use Rattle.bw_code.specs.declared.encoding.Encoding.{Encoding}
use Rattle.bw_column.specs.Codes.{IsCoded, code_for}
use Rattle.bw_column.specs.Values.{IsNullOrStorable, value_at}
use Rattle.bw_cells.specs.SetFunctions.{known, sorted}
use Rattle.bw_aggregate.specs.Descents.{IsNthCode}
use Rattle.bw_aggregate.proofs.Counting.{length_chosen}
use Rattle.bw_aggregate.proofs.KnownValues.{AreKnown, all_of_known, all_own, coded_all, known_is}
use Rattle.bw_aggregate.proofs.Ranks.{ranked-sorted}
use Rattle.bw_aggregate.proofs.Values.{IsOwn, holds_of_one, nth_value}

integer_at : (values : List (Option ℤ)) → All IsNullOrStorable values → (r : ℕ) (x : ℤ) → value_at values r ≡ Some x → FitsSigned w64 x
integer_at values all r x is =
    elim (cases_lt r (length values)) [
      | inl there ↦ subst IsNullOrStorable is (all r None there)
      | inr past ↦ let none = get_or_past values r None past in absurd (let both = sym none ∙ is in cc)
    ]

module _ (e : Encoding) (sound : IsEncoding e) (keep rows : List Bool) (values : List (Option ℤ)) (a : length keep ≡ length values) (b : length rows ≡ length values) (each : AreKnown keep rows values) (all : All (IsCoded e) values) where
  abbrev codes : List ℕ
  codes = items_where_true keep (map (code_for e) values)

  own : All (IsOwn e) codes
  own = all_own e sound keep rows values a b each (coded_all e sound values all)

  pub codes_len : length codes ≡ count_by (λ b. b) keep
  codes_len = length_chosen keep (map (code_for e) values) (a ∙ sym (length-map values (code_for e)))

  pub nth_is : (n code : ℕ) → IsNthCode codes n code → slice_get (sorted (known (items_where_true rows values))) n ≡ Some (value_of e code)
  nth_is n code nth =
      ap (λ xs. slice_get (sorted xs) n) (known_is e sound keep rows values a b each (coded_all e sound values all))
      ∙ ranked-sorted (map (value_of e) codes) n (value_of e code) (nth_value e sound codes n code own nth)

  pub is_code : All IsNullOrStorable values → (n code : ℕ) → IsNthCode codes n code → IsCode e code
  is_code integers n code nth = record {
    value = value_of e code;
    fits = holds_of_one (λ c. FitsSigned w64 (value_of e c)) code codes
        (all_of_known e sound (FitsSigned w64) keep rows values a b each (coded_all e sound values all) (integer_at values integers)) nth.there;
    is = holds_of_one (IsOwn e) code codes own nth.there;
  }
