-- Bytes that begin something, seen through the mask of a vector of them.
use Rattle.std.proofs.Common.{◌≡◌, ℕ, zero, suc, ◌+◌, ◌-◌, ◌%◌, ◌^◌, ◌<◌, ◌≤◌, Bool, true, false, ◌&&◌, ◌||◌, ◌==◌, not, cond, eqb, List, [], ◌∷◌, map, length, take, drop, refl, sym, ap, ap₂, ◌∙◌, arith, drop-drop, length-drop}
use Rattle.std.specs.List.{prefix_len}
use Rattle.std.proofs.lemmas.Bool.{and_parts, not-true}
use Rattle.std.proofs.lemmas.List.{take_all}
use Rattle.std.proofs.lemmas.Simd.{mask_l-mod}
use lib.Bits.{bit_and, bit_or}
use lib.Lanes.{chunk, mask_l, top, zip2}
use Rattle.bw_lex.proofs.LaneLemmas.{marked}
use Rattle.bw_lex.specs.Fronts.{is_plain, plain_len}
use Rattle.bw_split.specs.Ordinary.{begins_before, is_special, specials, ordinary_len}

-- one lane
lane : ℕ → ℕ → ℕ
lane b n = bit_or (bit_or (marked (eqb b 39)) (marked (eqb b 59))) (bit_and (marked (eqb b 45)) (marked (eqb n 45)))

top_of : (a b c d : Bool) → top 7 (bit_or (bit_or (marked a) (marked b)) (bit_and (marked c) (marked d))) ≡ ((a || b) || (c && d))
top_of true true true true = refl
top_of true true true false = refl
top_of true true false true = refl
top_of true true false false = refl
top_of true false true true = refl
top_of true false true false = refl
top_of true false false true = refl
top_of true false false false = refl
top_of false true true true = refl
top_of false true true false = refl
top_of false true false true = refl
top_of false true false false = refl
top_of false false true true = refl
top_of false false true false = refl
top_of false false false true = refl
top_of false false false false = refl

tops_are : (a b : List ℕ) → map (top 7) (zip2 bit_or (zip2 bit_or (map (λ x. marked (eqb x 39)) a) (map (λ x. marked (eqb x 59)) a)) (zip2 bit_and (map (λ x. marked (eqb x 45)) a) (map (λ x. marked (eqb x 45)) b))) ≡ zip2 (λ b n. begins_before n b) a b
tops_are [] b = refl
tops_are (x ∷ a) [] = refl
tops_are (x ∷ a) (y ∷ b) = ap₂ (λ t l. t ∷ l) (top_of (eqb x 39) (eqb x 59) (eqb x 45) (eqb y 45)) (tops_are a b)

length_zip : (a b : List ℕ) → length (zip2 (λ b n. begins_before n b) a b) ≤ length a
length_zip [] b = omega arith
length_zip (x ∷ a) [] = omega arith
length_zip (x ∷ a) (y ∷ b) = omega (arith, length_zip a b)

pub lanes_special : (a b p q r s : List ℕ) → length a ≤ 64 → p ≡ map (λ x. marked (eqb x 39)) a → q ≡ map (λ x. marked (eqb x 59)) a → r ≡ map (λ x. marked (eqb x 45)) a → s ≡ map (λ x. marked (eqb x 45)) b → mask_l (map (top 7) (zip2 bit_or (zip2 bit_or p q) (zip2 bit_and r s))) % 2 ^ 64 ≡ mask_l (zip2 (λ b n. begins_before n b) a b)
lanes_special a b p q r s short e f g h =
    rw (e, f, g, h) (ap (λ l. mask_l l % 2 ^ 64) (tops_are a b) ∙ mask_l-mod (zip2 (λ b n. begins_before n b) a b) 64 (omega (arith, short, length_zip a b)))

bit_back : (t : Bool) → t ≡ not (cond t 1 0 == 0)
bit_back true = refl
bit_back false = refl

pairs : (n : ℕ) (d : List ℕ) → suc n ≤ length d → zip2 (λ b n. begins_before n b) (take n d) (take n (drop 1 d)) ≡ map (λ x. not (x == 0)) (take n (specials d))
pairs zero d h = refl
pairs (suc n) [] h = absurd (omega (arith, h))
pairs (suc n) (x ∷ []) h = absurd (omega (arith, h))
pairs (suc n) (x ∷ y ∷ d) h = ap₂ (λ t l. t ∷ l) (bit_back (begins_before y x)) (pairs n (y ∷ d) (omega (arith, h)))

drop_specials : (i : ℕ) (d : List ℕ) → specials (drop i d) ≡ drop i (specials d)
drop_specials zero d = refl
drop_specials (suc i) [] = refl
drop_specials (suc i) (x ∷ d) = drop_specials i d

pub length_specials : (d : List ℕ) → length (specials d) ≡ length d
length_specials [] = refl
length_specials (x ∷ d) = ap suc (length_specials d)

pub chunk_pairs : (i n : ℕ) (d : List ℕ) → i + n < length d → zip2 (λ b n. begins_before n b) (chunk i n d) (chunk (i + 1) n d) ≡ map (λ x. not (x == 0)) (chunk i n (specials d))
chunk_pairs i n d h =
    ap (λ l. zip2 (λ b n. begins_before n b) (take n (drop i d)) (take n l)) (sym (drop-drop 1 i d)) ∙ pairs n (drop i d) (omega (arith, h, length-drop i d))
    ∙ ap (λ l. map (λ x. not (x == 0)) (take n l)) (drop_specials i d)

plain_first : (x : ℕ) (d : List ℕ) → is_plain x ≡ true → is_special x d ≡ false
plain_first x [] e = rw e refl
plain_first x (y ∷ d) e =
    let both = and_parts (not (x == 39) && not (x == 59)) (not (x == 45)) e in
    let first = and_parts (not (x == 39)) (not (x == 59)) both.0 in
    rw (not-true (x == 39) first.0, not-true (x == 59) first.1, not-true (x == 45) both.1) refl

plain_step : (x : ℕ) (d : List ℕ) (t : Bool) → is_plain x ≡ t → plain_len d ≤ ordinary_len d → cond t (1 + plain_len d) 0 ≤ ordinary_len (x ∷ d)
plain_step x d true e rest = rw (plain_first x d e) (omega (arith, rest))
plain_step x d false e rest = omega arith

pub plain_ordinary : (d : List ℕ) → plain_len d ≤ ordinary_len d
plain_ordinary [] = omega arith
plain_ordinary (x ∷ d) = plain_step x d (is_plain x) refl (plain_ordinary d)

-- what is left from an index on, as the code cuts it
pub rest_ordinary : (d : List ℕ) (i : ℕ) → plain_len (take (length d - i) (drop i d)) ≤ prefix_len (λ x. x == 0) (drop i (specials d))
rest_ordinary d i =
    omega (arith, plain_ordinary (drop i d), ap plain_len (take_all (length d - i) (drop i d) (omega (arith, length-drop i d))), ap (prefix_len (λ x. x == 0)) (drop_specials i d))
