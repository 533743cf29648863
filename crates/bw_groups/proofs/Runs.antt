-- Values in runs.
use Rattle.std.proofs.Common.{List, Option, [], ap, append-nil, arith, drop, get_or, length, length-append, map, refl, suc, sym, take, zero, ℕ, ℤ, ◌*◌, ◌++◌, ◌+◌, ◌/◌, ◌<◌, ◌∙◌, ◌∷◌, ◌≡◌, ◌≤◌}
use Rattle.std.specs.List.{range_with_len}
use Rattle.std.proofs.lemmas.List.{drop-drop, drop-take, drop_all, take-append-drop, take-take, take_all, take_more}
use Rattle.std.proofs.lemmas.List.Concat.{flat_map-append}
use Rattle.bw_groups.specs.Runs.{runs_of, values_in}

pub runs_none : (runs : List (List (Option ℤ))) → values_in (take 0 runs) ≡ []
runs_none [] = refl
runs_none (run ∷ runs) = refl

pub take_none : {A : Type 0} (xs : List A) → take 0 xs ≡ []
take_none [] = refl
take_none (x ∷ xs) = refl

-- a run more
pub runs_more : (runs : List (List (Option ℤ))) (q : ℕ) → q < length runs → values_in (take (q + 1) runs) ≡ values_in (take q runs) ++ get_or runs q []
runs_more runs q low =
    ap values_in (take_more runs q [] low)
    ∙ flat_map-append (λ (run : List (Option ℤ)). run) (take q runs) (get_or runs q [] ∷ [])
    ∙ ap (λ l. values_in (take q runs) ++ l) (append-nil (get_or runs q []))

pub runs_all : (runs : List (List (Option ℤ))) (q : ℕ) → length runs ≤ q → values_in (take q runs) ≡ values_in runs
runs_all runs q all = ap values_in (take_all q runs all)

runs_within : (runs : List (List (Option ℤ))) (q : ℕ) → length (values_in (take q runs)) ≤ length (values_in runs)
runs_within runs q =
    let whole = ap (λ rs. length (values_in rs)) (take-append-drop q runs) in
    let parts = ap length (flat_map-append (λ (run : List (Option ℤ)). run) (take q runs) (drop q runs)) in
    let both = length-append (values_in (take q runs)) (values_in (drop q runs)) in
    omega (arith, whole, parts, both)

-- a run lies within the values
pub run_inside : (runs : List (List (Option ℤ))) (q at : ℕ) (run : List (Option ℤ)) → q < length runs → run ≡ get_or runs q [] → at ≡ length (values_in (take q runs)) → at + length run ≤ length (values_in runs)
run_inside runs q at run low is here =
    let more = ap length (runs_more runs q low) in
    let both = length-append (values_in (take q runs)) (get_or runs q []) in
    let long = ap length is in
    let within = runs_within runs (q + 1) in
    omega (arith, more, both, long, within, here)

-- how far the values reach after a run
pub runs_reach : (runs : List (List (Option ℤ))) (q at : ℕ) (run : List (Option ℤ)) → q < length runs → run ≡ get_or runs q [] → at ≡ length (values_in (take q runs)) → at + length run ≡ length (values_in (take (q + 1) runs))
runs_reach runs q at run low is here =
    let more = ap length (runs_more runs q low) in
    let both = length-append (values_in (take q runs)) (get_or runs q []) in
    let long = ap length is in
    omega (arith, more, both, long, here)

-- the front of a list, in two parts
pub take_parts : {A : Type 0} (n m : ℕ) (xs : List A) → take n xs ++ take m (drop n xs) ≡ take (n + m) xs
take_parts n m xs =
    ap (λ l. l ++ take m (drop n xs)) (sym (take-take n (n + m) xs (omega arith)))
    ∙ ap (λ l. take n (take (n + m) xs) ++ l) (sym (drop-take n m xs))
    ∙ take-append-drop n (take (n + m) xs)

-- runs of 64 have the values of the list
chunks : (values : List (Option ℤ)) (n a : ℕ) → length values ≤ 64 * (a + n) → values_in (map (λ q. take 64 (drop (64 * q) values)) (range_with_len a n)) ≡ drop (64 * a) values
chunks values zero a le = sym (drop_all (64 * a) values (omega (arith, le)))
chunks values (suc n) a le =
    let next : 64 * (a + 1) ≡ 64 * a + 64 = omega arith in
    ap (λ l. take 64 (drop (64 * a) values) ++ l) (chunks values n (a + 1) (omega (arith, le)) ∙ ap (λ m. drop m values) next ∙ sym (drop-drop 64 (64 * a) values))
    ∙ take-append-drop 64 (drop (64 * a) values)

pub chunks_all : (values : List (Option ℤ)) → values_in (runs_of values) ≡ values
chunks_all values = chunks values ((length values + 63) / 64) 0 (omega arith) ∙ none values
  where
    none : (vs : List (Option ℤ)) → drop (64 * 0) vs ≡ vs
    none [] = refl
    none (v ∷ vs) = refl
