-- From codes to the values that they stand for, which are in the same order.
use Rattle.std.proofs.Common.{Bool, List, Some, [], ap, arith, count_by, length, map, nat_le, nat_lt, pos, refl, sum, sym, true, ℕ, ℤ, ◌+ℤ◌, ◌*ℤ◌, ◌<◌, ◌==◌, ◌≡◌, ◌∙◌, ◌∷◌, int_le, cond, false, inl, inr, not, subst, suc, ◌+◌}
use Rattle.std.proofs.lemmas.Bool.{cases_eq, cases_lt}
use Rattle.std.proofs.lemmas.Bool.Decides.{nat_tests}
use Rattle.std.proofs.lemmas.Int.{ints}
use Rattle.std.proofs.lemmas.List.Elements.{All-head, All-tail}
use Rattle.std.proofs.lemmas.List.Sums.{sum_by-cons}
use Rattle.std.proofs.Math.IntN.{suc_ℤ-*ℤ, zero-*ℤ}
use Rattle.std.specs.Prelude.{All, int_lt}
use Rattle.bw_code.specs.Encodings.{IsEncoding, code_of, value_of}
use Rattle.bw_code.specs.declared.encoding.Encoding.{Encoding}
use Rattle.bw_code.proofs.Codes.{value_less}
use Rattle.bw_cells.specs.SetFunctions.{total}
use Rattle.bw_aggregate.proofs.Counting.{count_cons, count_no}
use Rattle.bw_aggregate.specs.Descents.{IsNthCode}
use Rattle.bw_aggregate.proofs.Ranks.{IsRanked}

-- tests that say the same of each entry count the same
count_map : (Q : ℕ → Type 0) (p : ℤ → Bool) (q : ℕ → Bool) (f : ℕ → ℤ) → ((c : ℕ) → Q c → p (f c) ≡ q c) → (codes : List ℕ) → All Q codes → count_by p (map f codes) ≡ count_by q codes
count_map Q p q f same [] all = refl
count_map Q p q f same (c ∷ codes) all =
    count_cons p (f c) (map f codes)
    ∙ ap (λ b. cond b 1 0 + count_by p (map f codes)) (same c (All-head Q c codes all))
    ∙ ap (λ n. cond (q c) 1 0 + n) (count_map Q p q f same codes (All-tail Q c codes all))
    ∙ sym (count_cons q c codes)

-- what holds of each entry holds of one that is there
pub holds_of_one : (Q : ℕ → Type 0) (code : ℕ) (codes : List ℕ) → All Q codes → 0 < count_by (λ c. c == code) codes → Q code
holds_of_one Q code [] all some = absurd (omega (arith, some))
holds_of_one Q code (c ∷ codes) all some =
    elim (cases_eq c code) [
      | inl e ↦ subst Q e (All-head Q c codes all)
      | inr d ↦
          let not_it : (c == code) ≡ false = grind (arith, nat_tests, d) in
          holds_of_one Q code codes (All-tail Q c codes all) (omega (arith, some, count_no (λ x. x == code) c codes not_it))
    ]

-- a code that is that of its value
abbrev pub IsOwn : Encoding → ℕ → Type 0
IsOwn e code = code_of e (value_of e code) ≡ Some code

module _ (e : Encoding) (sound : IsEncoding e) where
  less_as : (c d : ℕ) → IsOwn e c → IsOwn e d → int_lt (value_of e c) (value_of e d) ≡ nat_lt c d
  less_as c d own other =
      elim (cases_lt c d) [
        | inl less ↦
            let values = value_less e sound (value_of e c) (value_of e d) c d own other less in
            let a : int_lt (value_of e c) (value_of e d) ≡ true = grind (arith, ints, values) in
            let b : nat_lt c d ≡ true = grind (arith, nat_tests, less) in
            a ∙ sym b
        | inr more ↦
            let b : nat_lt c d ≡ false = grind (arith, nat_tests, more) in
            elim (cases_eq c d) [
              | inl same ↦
                  let values : value_of e c ≡ value_of e d = ap (value_of e) same in
                  let a : int_lt (value_of e c) (value_of e d) ≡ false = grind (arith, ints, values) in
                  a ∙ sym b
              | inr apart ↦
                  let values = value_less e sound (value_of e d) (value_of e c) d c other own (omega (arith, more, apart)) in
                  let a : int_lt (value_of e c) (value_of e d) ≡ false = grind (arith, ints, values) in
                  a ∙ sym b
            ]
      ]

  upto_as : (c d : ℕ) → IsOwn e c → IsOwn e d → int_le (value_of e c) (value_of e d) ≡ nat_le c d
  upto_as c d own other =
      let less = less_as d c other own in
      let a : int_le (value_of e c) (value_of e d) ≡ not (int_lt (value_of e d) (value_of e c)) = grind (arith, ints) in
      let b : nat_le c d ≡ not (nat_lt d c) = grind (arith, nat_tests) in
      a ∙ ap not less ∙ sym b

  -- the value of the n-th code is the n-th of the values
  pub nth_value : (codes : List ℕ) (n code : ℕ) → All (IsOwn e) codes → IsNthCode codes n code → IsRanked (map (value_of e) codes) n (value_of e code)
  nth_value codes n code all nth =
      let own = holds_of_one (IsOwn e) code codes all nth.there in
      record {
        below = omega (arith, nth.below, count_map (IsOwn e) (λ x. int_lt x (value_of e code)) (λ c. nat_lt c code) (value_of e) (λ c q. less_as c code q own) codes all);
        upto = omega (arith, nth.upto, count_map (IsOwn e) (λ x. int_le x (value_of e code)) (λ c. nat_le c code) (value_of e) (λ c q. upto_as c code q own) codes all);
      }

-- so many bases, and the sum of the codes
pub total_from : (base : ℤ) (codes : List ℕ) → total (map (λ c. base +ℤ pos c) codes) ≡ (pos (length codes) *ℤ base) +ℤ pos (sum codes)
total_from base [] = let none = zero-*ℤ base in rw none (omega (arith, ints))
total_from base (c ∷ codes) =
    let more : pos (suc (length codes)) *ℤ base ≡ (pos (length codes) *ℤ base) +ℤ base = suc_ℤ-*ℤ (pos (length codes)) base in
    ap (λ t. (base +ℤ pos c) +ℤ t) (total_from base codes) ∙ rw (more, sum_by-cons (λ x. x) c codes) (omega (arith, ints))
