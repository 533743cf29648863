-- The least and the greatest value of some rows that are not null, by the distances of the codes.
use Rattle.std.proofs.Common.{Bool, List, Option, Some, ap, arith, false, get_or, length, map, pow_pos, sym, ℕ, ℤ, ◌&&◌, ◌-◌, ◌<◌, ◌^◌, ◌≡◌, ◌≤◌, ◌∙◌}
use Rattle.std.proofs.Math.Nat.{pow-le-pow_right}
use Rattle.std.proofs.lemmas.List.{get_or_past, length-map}
use Rattle.std.specs.List.{items_where_true}
use Rattle.std.specs.Prelude.{All, is_some, slice_get}
use Rattle.bw_mask.specs.Masks.{rows_of}
use Rattle.bw_mask.proofs.Views.{rows_clean, rows_len}
use Rattle.bw_code.specs.Encodings.{IsCode, IsEncoding, value_of, width}
use Rattle.bw_code.specs.declared.encoding.Encoding.{Encoding}
use Rattle.bw_column.specs.Codes.{IsCoded, code_for}
use Rattle.bw_column.specs.Values.{IsNullOrStorable, value_at}
use Rattle.bw_cells.specs.SetFunctions.{known, sorted}
use Rattle.bw_aggregate.specs.Descents.{IsNthCode, end_of}
use Rattle.bw_aggregate.specs.Ends.{IsNearest, distance}
use Rattle.bw_aggregate.specs.declared.end.End.{End}
use Rattle.bw_aggregate.proofs.KnownValues.{AreKnown, codes_low}
use Rattle.bw_aggregate.proofs.Nearest.{is_there, nearest_code, nearest_in}
use Rattle.bw_aggregate.proofs.SortedValues.{is_code, nth_is}
use Rattle.bw_aggregate.proofs.Told.{many_codes}

module _ (e : Encoding) (sound : IsEncoding e) (narrow : width e ≤ 64) (rows : List Bool) (values : List (Option ℤ)) (same : length rows ≡ length values) (all : All (IsCoded e) values) (some : 0 < length (known (items_where_true rows values))) where
  abbrev in_and_known : ℕ → Bool
  in_and_known r = get_or rows r false && is_some (value_at values r)

  abbrev keep : List Bool
  keep = rows_of (length rows) in_and_known

  abbrev codes : List ℕ
  codes = map (code_for e) values

  abbrev held : List ℕ
  held = items_where_true keep codes

  abbrev top : ℕ
  top = 2 ^ width e - 1

  keep_len : length keep ≡ length values
  keep_len = rows_len (length rows) in_and_known ∙ same

  keep_at : AreKnown keep rows values
  keep_at r = rows_clean (length rows) in_and_known (λ j h. ap (λ b. b && is_some (value_at values j)) (get_or_past rows j false h)) r

  many : length held ≡ length (known (items_where_true rows values))
  many = many_codes e sound keep rows values keep_len same keep_at all

  low : All (λ c. c ≤ top) codes
  low i d h = let small = codes_low e sound values all i d h in omega (arith, small)

  beyond : top ≤ 2 ^ 64 - 1
  beyond = let most : 2 ^ width e ≤ 2 ^ 64 = pow-le-pow_right {n = 2} (omega arith) {i = width e} {j = 64} narrow in omega (arith, most, pow_pos (width e))

  lined : length keep ≡ length codes
  lined = keep_len ∙ sym (length-map values (code_for e))

  module _ (end : End) (nearest : ℕ) (is : IsNearest (length codes) in_and_known (λ r. get_or codes r 0) end top (2 ^ 64 - 1) nearest) where
    near : IsNearest (length codes) (λ r. get_or keep r false) (λ r. get_or codes r 0) end top (2 ^ 64 - 1) nearest
    near = nearest_in (length codes) in_and_known (λ r. get_or keep r false) (λ r. get_or codes r 0) end top (2 ^ 64 - 1) nearest (λ j. sym (keep_at j)) is

    pub is_within : nearest ≤ top
    is_within = is_there keep codes lined top low end (2 ^ 64 - 1) nearest beyond near (omega (arith, some, many))

    nth : IsNthCode held (end_of end (length held)) (distance end top nearest)
    nth = nearest_code keep codes lined top low end (2 ^ 64 - 1) nearest beyond near (omega (arith, some, many))

    pub end_is : slice_get (sorted (known (items_where_true rows values))) (end_of end (length (known (items_where_true rows values)))) ≡ Some (value_of e (distance end top nearest))
    end_is =
        ap (λ n. slice_get (sorted (known (items_where_true rows values))) (end_of end n)) (sym many)
        ∙ nth_is e sound keep rows values keep_len same keep_at all _ (distance end top nearest) nth

    pub end_is_code : All IsNullOrStorable values → IsCode e (distance end top nearest)
    end_is_code integers = is_code e sound keep rows values keep_len same keep_at all integers _ (distance end top nearest) nth
