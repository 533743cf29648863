-- A number of digits, read until it is too large for each type.
use Rattle.std.proofs.Common.{Bool, List, Option, [], add-one, ap, arith, drop, drop-cons, false, get_or, length, min, refl, suc, sym, take, take-append-drop, true, ℕ, ◌<◌, ◌&&◌, ◌*◌, ◌+◌, ◌++◌, ◌-◌, ◌≡◌, ◌∙◌, ◌∷◌, ◌≤◌}
use Rattle.std.proofs.lemmas.Bool.Decides.{nat_tests}
use Rattle.std.proofs.lemmas.List.{take_rest}
use Rattle.std.proofs.lemmas.List.Folds.{list_all-append}
use Rattle.std.proofs.lemmas.Str.{digit_value_digit}
use Rattle.std.specs.Bool.{then_some}
use Rattle.std.specs.Char.{digit_value, is_ascii_digit}
use Rattle.std.specs.Int.{IsInRange}
use Rattle.std.specs.List.{list_all}
use Rattle.std.specs.Option.{option_and_then}
use Rattle.std.specs.Str.Parse.{digits_value, digits_value_after}
use Rattle.bw_csvload.specs.Sizes.{size_after, size_of, too_large}

-- digits never make a number less
digits-grow : (digits : List ℕ) (n : ℕ) → n ≤ digits_value_after 10 n digits
digits-grow [] n = omega arith
digits-grow (d ∷ digits) n = let more = digits-grow digits (n * 10 + digit_value d) in omega arith

-- what is too large stays so
size_after-large : (text : List ℕ) (n : ℕ) → too_large ≤ n → size_after n text ≡ then_some (list_all is_ascii_digit text) too_large
size_after-large text n large =
    let most : min (digits_value_after 10 n text) too_large ≡ too_large = omega (arith, digits-grow text n) in
    ap (λ k. then_some (list_all is_ascii_digit text) k) most

digit : (c : ℕ) → is_ascii_digit c ≡ true → digit_value c ≡ c - 48
digit c h = let inside : IsInRange 48 57 c = grind (arith, nat_tests, h) in omega (arith, digit_value_digit c inside)

-- a digit, taken from the front of what is left
pub next_digit : (xs : List ℕ) (i size : ℕ) → i < length xs → is_ascii_digit (get_or xs i 0) ≡ true
    → size_after (size * 10 + (get_or xs i 0 - 48)) (drop (i + 1) xs) ≡ size_after size (drop i xs)
next_digit xs i size there is =
    let more : size_after (size * 10 + digit_value (get_or xs i 0)) (drop (suc i) xs) ≡ size_after size (get_or xs i 0 ∷ drop (suc i) xs) = rw is refl in
    rw (add-one i) (ap (λ d. size_after (size * 10 + d) (drop (suc i) xs)) (sym (digit (get_or xs i 0) is))
    ∙ more
    ∙ ap (size_after size) (sym (drop-cons xs i 0 there)))

-- a digit that makes it too large
pub last_digit : (xs : List ℕ) (i size : ℕ) → i < length xs → is_ascii_digit (get_or xs i 0) ≡ true → too_large ≤ size * 10 + (get_or xs i 0 - 48)
    → then_some (list_all is_ascii_digit (take (length xs - (i + 1)) (drop (i + 1) xs))) too_large ≡ size_after size (drop i xs)
last_digit xs i size there is large =
    rw (take_rest xs (i + 1)) (sym (size_after-large (drop (i + 1) xs) (size * 10 + (get_or xs i 0 - 48)) large) ∙ next_digit xs i size there is)

digits_value_after-append : (xs ys : List ℕ) (n : ℕ) → digits_value_after 10 n (xs ++ ys) ≡ digits_value_after 10 (digits_value_after 10 n xs) ys
digits_value_after-append [] ys n = refl
digits_value_after-append (x ∷ xs) ys n = digits_value_after-append xs ys (n * 10 + digit_value x)

-- what the first bytes spell, and what is left after them
size_of-append : (xs ys : List ℕ) → option_and_then (λ n. size_after n ys) (then_some (list_all is_ascii_digit xs) (digits_value 10 xs)) ≡ size_of (xs ++ ys)
size_of-append xs ys = rw (list_all-append is_ascii_digit xs ys, digits_value_after-append xs ys 0) (by_case (list_all is_ascii_digit xs))
  where
    by_case : (b : Bool) → option_and_then (λ n. size_after n ys) (then_some b (digits_value 10 xs)) ≡ then_some (b && list_all is_ascii_digit ys) (min (digits_value_after 10 (digits_value 10 xs) ys) too_large)
    by_case true = refl
    by_case false = refl

-- the same of the first eight
pub size_of-front : (text : List ℕ) (front : Option ℕ) → front ≡ then_some (list_all is_ascii_digit (take 8 text)) (digits_value 10 (take 8 text))
    → option_and_then (λ n. size_after n (drop 8 text)) front ≡ size_of text
size_of-front text front e =
    ap (option_and_then (λ n. size_after n (drop 8 text))) e ∙ size_of-append (take 8 text) (drop 8 text) ∙ ap size_of (take-append-drop 8 text)
