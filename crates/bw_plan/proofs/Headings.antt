-- Columns by their names.
use Rattle.std.proofs.Common.{◌≡◌, ◌∙◌, ℕ, ◌+◌, ◌<◌, ◌≤◌, List, [], ◌∷◌, ◌++◌, Option, None, arith, get_or, length, map, position, sym, take, ap}
use Rattle.std.specs.Str.{bytes_eq}
use Rattle.std.proofs.lemmas.List.{get_or-map, length-map, take_all, take_more}
use Rattle.bw_code.specs.declared.kind.Kind.TheVariants.{Offset}
use Rattle.bw_code.specs.declared.kind.ColumnType.TheVariants.{Integer}
use Rattle.bw_code.specs.declared.kind.Layout.TheVariants.{V}
use Rattle.bw_model.specs.Store as store

-- for each column the place at which it is named
module _ (headers : List store.Header) (names : List (List ℕ)) (i : ℕ) (sources : List (Option ℕ)) where
  pub next_source : (more : List (Option ℕ)) (name : List ℕ) → i < length headers → sources ≡ take i (map (λ h. position (bytes_eq h.name) names) headers) → ((d : store.Header) → name ≡ (get_or headers i d).name) → more ≡ sources ++ position (bytes_eq name) names ∷ []
      → more ≡ take (i + 1) (map (λ h. position (bytes_eq h.name) names) headers)
  next_source more name within so_far is e =
      let place = λ (h : store.Header). position (bytes_eq h.name) names in
      let inside : i < length (map place headers) = omega (arith, within, length-map headers place) in
      e ∙ ap (λ l. l ++ position (bytes_eq name) names ∷ []) so_far
      ∙ ap (λ o. take i (map place headers) ++ o ∷ []) (ap (λ n. position (bytes_eq n) names) (is some) ∙ sym (get_or-map place headers i some None within))
      ∙ sym (take_more (map place headers) i None inside)
    where
      some : store.Header
      some = get_or headers i (record { name = []; column_type = Integer; layout = V; kind = Offset })

  pub all_sources : length headers ≤ i → sources ≡ take i (map (λ h. position (bytes_eq h.name) names) headers) → sources ≡ map (λ h. position (bytes_eq h.name) names) headers
  all_sources upto so_far = so_far ∙ take_all i (map (λ h. position (bytes_eq h.name) names) headers) (omega (arith, upto, length-map headers (λ h. position (bytes_eq h.name) names)))
