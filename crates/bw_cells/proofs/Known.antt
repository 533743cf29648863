-- The cells that are integers.
use Rattle.std.proofs.Common.{append_assoc, drop, sym, ◌≡◌, ℕ, suc, zero, ℤ, ◌+◌, ◌<◌, List, [], ◌∷◌, ◌++◌, length, get_or, take, refl, ap, ◌∙◌, arith, Option, Some, None, false, is_some, unwrap_or}
use Rattle.std.proofs.Math.Seq.{take-add}
use Rattle.std.specs.List.{All, Contains}
use Rattle.std.specs.Option.{option_to_list}
use Rattle.std.proofs.lemmas.List.{drop-drop, take-append-drop, take_more}
use Rattle.std.proofs.lemmas.List.Elements.{filter_map-append}
use Rattle.bw_cells.specs.Known.{known}

known_one : (value : Option ℤ) → known (value ∷ []) ≡ option_to_list value
known_one None = refl
known_one (Some x) = refl

pub known_more : (xs : List (Option ℤ)) (i : ℕ) → i < length xs → known (take (i + 1) xs) ≡ known (take i xs) ++ option_to_list (get_or xs i None)
known_more xs i h =
    ap known (take_more xs i None h) ∙ filter_map-append (λ value. value) (take i xs) (get_or xs i None ∷ []) ∙ ap (λ ys. known (take i xs) ++ ys) (known_one (get_or xs i None))

-- what is known of a list goes over part by part
pub known_over : (whole done : List ℤ) (xs : List (Option ℤ)) (at n : ℕ) → done ++ known (drop at xs) ≡ whole → (done ++ known (take n (drop at xs))) ++ known (drop (at + n) xs) ≡ whole
known_over whole done xs at n is =
    let rest = drop at xs in
    append_assoc done (known (take n rest)) (known (drop (at + n) xs))
    ∙ ap (λ ys. done ++ (known (take n rest) ++ known ys)) (sym (drop-drop n at xs))
    ∙ ap (λ ys. done ++ ys) (sym (filter_map-append (λ value. value) (take n rest) (drop n rest)) ∙ ap known (take-append-drop n rest))
    ∙ is

-- what holds of each value that is not null, by the places
pub all_known : (P : ℤ → Type 0) (xs : List (Option ℤ)) → ((i : ℕ) (x : ℤ) → get_or xs i None ≡ Some x → P x) → All P (known xs)
all_known P [] h k d l = absurd (omega arith)
all_known P (None ∷ xs) h k d l = all_known P xs (λ i x is. h (suc i) x is) k d l
all_known P (Some y ∷ xs) h zero d l = h 0 y refl
all_known P (Some y ∷ xs) h (suc k) d l = all_known P xs (λ i x is. h (suc i) x is) k d (omega arith)

pub known_at : (xs : List (Option ℤ)) (i : ℕ) (x : ℤ) → get_or xs i None ≡ Some x → Contains (known xs) x
known_at [] i x is = absurd cc
known_at (None ∷ xs) zero x is = absurd cc
known_at (None ∷ xs) (suc i) x is = known_at xs i x is
known_at (Some y ∷ xs) zero x is = (0, omega arith, ap (λ (o : Option ℤ). unwrap_or o x) is)
known_at (Some y ∷ xs) (suc i) x is = let rest = known_at xs i x is in (suc rest.0, omega (arith, rest.1), rest.2)

pub none_known : (xs : List (Option ℤ)) → ((i : ℕ) → is_some (get_or xs i None) ≡ false) → known xs ≡ []
none_known [] h = refl
none_known (None ∷ xs) h = none_known xs (λ i. h (suc i))
none_known (Some x ∷ xs) h = absurd (let first = h 0 in cc)

-- a run more
pub known_part : (xs : List (Option ℤ)) (at n : ℕ) → known (take (at + n) xs) ≡ known (take at xs) ++ known (take n (drop at xs))
known_part xs at n = ap known (take-add at n xs) ∙ filter_map-append (λ cell. cell) (take at xs) (take n (drop at xs))
