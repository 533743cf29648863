-- Names of headers of which none stands twice.
use Rattle.std.proofs.Common.{Bool, List, [], add-one, ap, drop, drop-cons, get_or, length, map, not, arith, false, length-drop, refl, sym, take, true, ℕ, ◌&&◌, ◌+◌, ◌-◌, ◌<◌, ◌||◌, ◌≡◌, ◌∙◌, ◌∷◌}
use Rattle.std.proofs.lemmas.Bool.{true≢false}
use Rattle.std.proofs.lemmas.List.{take_all}
use Rattle.std.specs.List.{list_any}
use Rattle.std.specs.Str.{bytes_eq}
use Rattle.bw_sql.specs.Names.{are_distinct}
use Rattle.bw_file.specs.Table.{Header}

abbrev pub names : List Header → List (List ℕ)
names headers = map (λ header. header.name) headers

any_name : (n : List ℕ) (headers : List Header) → list_any (bytes_eq n) (names headers) ≡ list_any (λ header. bytes_eq n header.name) headers
any_name n [] = refl
any_name n (h ∷ headers) = ap (λ b. bytes_eq n h.name || b) (any_name n headers)

-- the names from one place on, by those after it
distinct_at : (headers : List Header) (i : ℕ) (x : Header) → i < length headers
    → are_distinct (names (drop i headers)) ≡ (not (list_any (λ header. bytes_eq (get_or headers i x).name header.name) (drop (i + 1) headers)) && are_distinct (names (drop (i + 1) headers)))
distinct_at headers i x h =
    let after = drop (i + 1) headers in
    let next : drop i headers ≡ get_or headers i x ∷ after = rw (add-one i) (drop-cons headers i x h) in
    ap (λ hs. are_distinct (names hs)) next ∙ ap (λ b. not b && are_distinct (names after)) (any_name (get_or headers i x).name after)

-- a name looked for among those after it
module _ (headers : List Header) (i : ℕ) (x : Header) (found : Bool) (h : i < length headers)
    (says : found ≡ list_any (λ header. bytes_eq (get_or headers i x).name header.name) (take (length headers - (i + 1)) (drop (i + 1) headers)))
    (before : are_distinct (names headers) ≡ are_distinct (names (drop i headers))) where
  step : are_distinct (names headers) ≡ (not found && are_distinct (names (drop (i + 1) headers)))
  step =
      let slice = take_all (length headers - (i + 1)) (drop (i + 1) headers) (omega (arith, length-drop (i + 1) headers)) in
      before ∙ distinct_at headers i x h ∙ ap (λ b. not b && are_distinct (names (drop (i + 1) headers))) (sym (says ∙ ap (list_any (λ header. bytes_eq (get_or headers i x).name header.name)) slice))

  pub twice_here : found ≡ true → true ≡ not (are_distinct (names headers))
  twice_here e = sym (ap not (step ∙ ap (λ b. not b && are_distinct (names (drop (i + 1) headers))) e))

  pub once_here : found ≡ false → are_distinct (names headers) ≡ are_distinct (names (drop (i + 1) headers))
  once_here e = step ∙ ap (λ b. not b && are_distinct (names (drop (i + 1) headers))) e

-- where the names of a table are distinct, none stands twice
pub none_twice : (hs ds ts : List Header) (twice : Bool) → are_distinct (names ts) ≡ true → ds ≡ hs → hs ≡ ts → twice ≡ not (are_distinct (names ds)) → twice ≡ true → ⊥
none_twice hs ds ts twice distinct d h says e = true≢false (sym e ∙ says ∙ ap (λ xs. not (are_distinct (names xs))) (d ∙ h) ∙ ap not distinct)
