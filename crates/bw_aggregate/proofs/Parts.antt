-- What is found of two parts of some codes.
use Rattle.std.proofs.Common.{Bool, List, [], ap, arith, count_by, drop, false, length, nat_le, nat_lt, refl, suc, sym, take, true, zero, ℕ, ◌+◌, ◌++◌, ◌-◌, ◌==◌, ◌≡◌, ◌≤◌, ◌∙◌, ◌∷◌}
use Rattle.std.proofs.lemmas.Bool.Decides.{nat_tests}
use Rattle.std.proofs.lemmas.List.{take_all}
use Rattle.std.specs.List.{items_where_true}
use Rattle.bw_aggregate.specs.Left.{codes_between}
use Rattle.bw_aggregate.proofs.Counting.{count_split}

pub upto_split : (code : ℕ) (xs : List ℕ) → count_by (λ c. nat_le c code) xs ≡ count_by (λ c. nat_lt c code) xs + count_by (λ c. c == code) xs
upto_split code xs = count_split (λ c. nat_lt c code) (λ c. c == code) (λ c. nat_le c code) xs (λ c. grind (arith, nat_tests))

no_codes : (n : ℕ) → items_where_true {X = ℕ} (take n []) (take n []) ≡ []
no_codes zero = refl
no_codes (suc n) = refl

-- the codes of the first m rows that are in, and those of k more
between_more : (rows : List Bool) (codes : List ℕ) (m k : ℕ) → length rows ≡ length codes
    → items_where_true (take m rows) (take m codes) ++ items_where_true (take k (drop m rows)) (take k (drop m codes)) ≡ items_where_true (take (m + k) rows) (take (m + k) codes)
between_more rows codes zero k same = let e : k ≡ 0 + k = omega arith in ap (λ n. items_where_true (take n rows) (take n codes)) e
between_more [] [] (suc m) k same = no_codes k ∙ sym (no_codes (suc m + k))
between_more [] (c ∷ codes) (suc m) k same = absurd (omega (arith, same))
between_more (b ∷ rows) [] (suc m) k same = absurd (omega (arith, same))
between_more (true ∷ rows) (c ∷ codes) (suc m) k same =
    let e : suc (m + k) ≡ suc m + k = omega arith in
    ap (λ xs. c ∷ xs) (between_more rows codes m k (omega (arith, same))) ∙ ap (λ n. items_where_true (take n (true ∷ rows)) (take n (c ∷ codes))) e
between_more (false ∷ rows) (c ∷ codes) (suc m) k same =
    let e : suc (m + k) ≡ suc m + k = omega arith in
    between_more rows codes m k (omega (arith, same)) ∙ ap (λ n. items_where_true (take n (false ∷ rows)) (take n (c ∷ codes))) e

between_front : (rows : List Bool) (codes : List ℕ) (n : ℕ) → codes_between rows codes 0 n ≡ items_where_true (take n rows) (take n codes)
between_front rows codes n = let e : n - 0 ≡ n = omega arith in ap (λ k. items_where_true (take k rows) (take k codes)) e

pub between_append : (rows : List Bool) (codes : List ℕ) (m n : ℕ) → length rows ≡ length codes → m ≤ n
    → codes_between rows codes 0 m ++ codes_between rows codes m n ≡ codes_between rows codes 0 n
between_append rows codes m n same order =
    let e : m + (n - m) ≡ n = omega (arith, order) in
    ap (λ xs. xs ++ codes_between rows codes m n) (between_front rows codes m)
    ∙ between_more rows codes m (n - m) same
    ∙ ap (λ k. items_where_true (take k rows) (take k codes)) e
    ∙ sym (between_front rows codes n)

pub between_all : (rows : List Bool) (codes : List ℕ) (n : ℕ) → length rows ≡ length codes → length rows ≤ n → codes_between rows codes 0 n ≡ items_where_true rows codes
between_all rows codes n same all = between_front rows codes n ∙ rw (take_all n rows all, take_all n codes (omega (arith, all, same))) refl
