-- A word that isn't reserved is a name.
use Rattle.std.proofs.Common.{◌≡◌, ℕ, ◌≤◌, Bool, true, false, ◌&&◌, List, [], ◌∷◌, length, map, refl, arith, None, nat_le}
use Rattle.std.specs.List.{list_all}
use Rattle.std.specs.Char.{is_ascii_alphabetic, is_ascii_uppercase, to_ascii_uppercase}
use Rattle.std.proofs.lemmas.Grind.{common_steps}
use Rattle.std.proofs.lemmas.List.{length-map}
use Rattle.std.proofs.lemmas.Bool.{le-leb}
use Rattle.bw_lex.specs.Spellings.{IsWord, is_word_byte}
use Rattle.bw_sql.specs.Names.{IsName, is_name, is_name_byte, keyword_of}

letter_up : (b : ℕ) → is_ascii_alphabetic b ≡ true → is_ascii_uppercase (to_ascii_uppercase b) ≡ true
letter_up b h = grind (arith, common_steps)

byte_up : (b : ℕ) → is_word_byte b ≡ true → is_name_byte (to_ascii_uppercase b) ≡ true
byte_up b h = grind (arith, common_steps)

and_left : (a b : Bool) → (a && b) ≡ true → a ≡ true
and_left true b h = refl
and_left false b h = h

and_right : (a b : Bool) → (a && b) ≡ true → b ≡ true
and_right true b h = h
and_right false b h = cc

both : (a b : Bool) → a ≡ true → b ≡ true → (a && b) ≡ true
both a b h k = rw (h, k) refl

bytes_up : (bytes : List ℕ) → list_all is_word_byte bytes ≡ true → list_all is_name_byte (map to_ascii_uppercase bytes) ≡ true
bytes_up [] h = refl
bytes_up (b ∷ bytes) h =
    both _ _ (byte_up b (and_left (is_word_byte b) (list_all is_word_byte bytes) h)) (bytes_up bytes (and_right (is_word_byte b) (list_all is_word_byte bytes) h))

is_word_letter : (b : ℕ) → is_ascii_alphabetic b ≡ true → is_word_byte b ≡ true
is_word_letter b h = grind (arith, common_steps)

pub word_is_name : (bytes : List ℕ) → IsWord bytes → length bytes ≤ 128 → keyword_of (map to_ascii_uppercase bytes) ≡ None → IsName (map to_ascii_uppercase bytes)
unfolding is_name
word_is_name [] word short free = absurd word
word_is_name (b ∷ bytes) word short free =
    let first = letter_up b word.0 in
    let all = bytes_up (b ∷ bytes) (both _ _ (is_word_letter b word.0) word.1) in
    let few : nat_le (length (map to_ascii_uppercase (b ∷ bytes))) 128 ≡ true = rw (length-map (b ∷ bytes) to_ascii_uppercase) (le-leb (length (b ∷ bytes)) 128 short) in
    both _ _ (both _ _ (both _ _ first all) few) (rw free refl)

same_byte : (b : ℕ) → is_name_byte b ≡ true → to_ascii_uppercase b ≡ b
same_byte b h = grind (arith, common_steps)

-- what a name is made of is in upper case
pub name_is_upper : (bytes : List ℕ) → list_all is_name_byte bytes ≡ true → map to_ascii_uppercase bytes ≡ bytes
name_is_upper [] h = refl
name_is_upper (b ∷ bytes) h =
    let first = same_byte b (and_left (is_name_byte b) (list_all is_name_byte bytes) h) in
    let rest = name_is_upper bytes (and_right (is_name_byte b) (list_all is_name_byte bytes) h) in
    cc
