-- The longest front of a list whose bytes all pass a test.
use Rattle.std.proofs.Common.{◌≡◌, ℕ, ◌+◌, ◌<◌, ◌≤◌, Bool, true, false, ◌||◌, cond, List, [], ◌∷◌, ◌++◌, length, take, refl, arith}
use Rattle.std.specs.List.{list_all, prefix_len}
use Rattle.std.specs.Bool.{IsTrue}
use Rattle.std.proofs.Math.Numerals.{one-add}
use Rattle.std.proofs.lemmas.Bool.{and_from, and_parts}

all_step : (p : ℕ → Bool) (x : ℕ) (xs : List ℕ) (t : Bool) → p x ≡ t → list_all p (take (prefix_len p xs) xs) ≡ true → list_all p (take (cond t (1 + prefix_len p xs) 0) (x ∷ xs)) ≡ true
all_step p x xs true e rest = rw one-add (and_from (p x) _ e rest)
all_step p x xs false e rest = refl

pub all_prefix : (p : ℕ → Bool) (xs : List ℕ) → list_all p (take (prefix_len p xs) xs) ≡ true
all_prefix p [] = refl
all_prefix p (x ∷ xs) = all_step p x xs (p x) refl (all_prefix p xs)

pub starts : (p : ℕ → Bool) (b : ℕ) (bytes : List ℕ) → p b ≡ true → 0 < prefix_len p (b ∷ bytes)
starts p b bytes e = rw e (omega arith)

-- the first passes, and then the rest of the front
pub prefix_first : (p : ℕ → Bool) (x : ℕ) (xs : List ℕ) → p x ≡ true → take (prefix_len p (x ∷ xs)) (x ∷ xs) ≡ x ∷ take (prefix_len p xs) xs
prefix_first p x xs e = rw (e, one-add) refl

over_step : (p : ℕ → Bool) (x : ℕ) (xs more : List ℕ) → p x ≡ true → length xs ≤ prefix_len p (xs ++ more) → length (x ∷ xs) ≤ prefix_len p (x ∷ xs ++ more)
over_step p x xs more e rest = rw e (omega (arith, rest))

-- it goes over all bytes that pass
pub prefix_over : (p : ℕ → Bool) (xs more : List ℕ) → IsTrue (list_all p xs) → length xs ≤ prefix_len p (xs ++ more)
prefix_over p [] more h = omega arith
prefix_over p (x ∷ xs) more h =
    let both = and_parts (p x) (list_all p xs) h in
    over_step p x xs more both.0 (prefix_over p xs more both.1)

exact_step : (p : ℕ → Bool) (x : ℕ) (xs more : List ℕ) → p x ≡ true → prefix_len p (xs ++ more) ≡ length xs → prefix_len p (x ∷ xs ++ more) ≡ length (x ∷ xs)
exact_step p x xs more e rest = rw (e, rest, one-add) refl

-- it ends where what follows doesn't pass
pub prefix_exact : (p : ℕ → Bool) (xs more : List ℕ) → IsTrue (list_all p xs) → prefix_len p more ≡ 0 → prefix_len p (xs ++ more) ≡ length xs
prefix_exact p [] more h e = e
prefix_exact p (x ∷ xs) more h e =
    let both = and_parts (p x) (list_all p xs) h in
    exact_step p x xs more both.0 (prefix_exact p xs more both.1 e)

-- a letter is a word byte
pub letter : (d u l x : Bool) → (u || l) ≡ true → (((d || u) || l) || x) ≡ true
letter true u l x e = refl
letter false true l x e = refl
letter false false true x e = refl
letter false false false x e = cc

-- what is no word byte is no digit
pub no_digit : (d u l x : Bool) → (((d || u) || l) || x) ≡ false → d ≡ false
no_digit true u l x e = cc
no_digit false u l x e = refl
