-- What stands at the front of a text, limits aside, as a computation.
use Rattle.std.proofs.Common.{◌≡◌, ℕ, ◌<◌, ◌≤◌, Bool, true, false, ◌&&◌, ◌==◌, not, cond, if◌then◌else◌, List, [], ◌∷◌, length, take, drop, Option, Some, None, refl, sym, ap, subst, arith, eqb-true, nat_le, inl, inr}
use Rattle.std.specs.List.{prefix_len}
use Rattle.std.specs.Char.{is_ascii_alphabetic, is_ascii_digit}
use Rattle.std.specs.Int.{is_in_range}
use Rattle.std.proofs.Math.Numerals.{one-add}
use Rattle.std.proofs.lemmas.Bool.{and_from, and_parts, cond_both}
use Rattle.std.proofs.lemmas.List.Sums.{prefix_len-le-length}
use Rattle.bw_lex.specs.declared.token.TokenKind.TheVariants as k
use Rattle.bw_lex.specs.declared.token.Symbol.{Symbol}
use Rattle.bw_lex.specs.declared.piece.Piece.{Piece}
use Rattle.bw_lex.specs.declared.piece.Piece.TheVariants as p
use Rattle.bw_lex.specs.Pieces.{closed_text, comment_len, contents, first_piece, is_alone, is_comment, pair_of, pair_piece, quoted_end, single_of, single_piece, symbol_piece}
use Rattle.bw_lex.specs.Spellings.{IsNumber, IsWord, is_blank, is_good_text, is_word_byte, word_goes_on}
use Rattle.bw_lex.specs.Tokens.{Fits, Shape, separator, token}
use Rattle.bw_lex.proofs.Prefixes.{all_prefix, letter, prefix_first, starts}
use Rattle.bw_lex.proofs.Quotes.{quoted_end_spelled, text_after, text_spelled}

-- a shape and how many bytes have it
pub record Sized : Type 0 where
  pub shape : Shape
  pub len : ℕ

abbrev pub sized : Shape → ℕ → Option Sized
sized shape n = Some (record { shape = shape; len = n })

abbrev pub number_shape : List ℕ → Option Sized
number_shape bytes = if word_goes_on (drop (prefix_len is_ascii_digit bytes) bytes) then None else sized (token k.Number) (prefix_len is_ascii_digit bytes)

abbrev pub text_shape : Option ℕ → Option Sized
text_shape None = None
text_shape (Some n) = sized (token k.Text) n

abbrev pub single_shape : Option Symbol → Option Sized
single_shape None = None
single_shape (Some symbol) = sized (token (k.Symbol symbol)) 1

abbrev pub pair_shape : Option Symbol → ℕ → Option Sized
pair_shape None a = single_shape (single_of a)
pair_shape (Some symbol) a = sized (token (k.Symbol symbol)) 2

abbrev pub symbol_shape : List ℕ → Option Sized
symbol_shape [] = None
symbol_shape (a ∷ []) = single_shape (single_of a)
symbol_shape (a ∷ b ∷ bytes) = pair_shape (pair_of a b) a

abbrev pub shape_from : ℕ → List ℕ → Option Sized
shape_from b bytes =
    if is_alone b then single_shape (single_of b)
    else (if is_ascii_digit b then number_shape (b ∷ bytes)
    else (if is_blank b then sized separator 1
    else (if is_ascii_alphabetic b then sized (token k.Word) (prefix_len is_word_byte (b ∷ bytes))
    else (if b == 39 then text_shape (quoted_end 1 bytes)
    else (if is_comment (b ∷ bytes) then sized separator (comment_len (b ∷ bytes))
    else symbol_shape (b ∷ bytes))))))

abbrev pub first_shape : List ℕ → Option Sized
first_shape [] = None
first_shape (b ∷ bytes) = shape_from b bytes

-- The limits make a piece of it.

abbrev pub judge_shape : Shape → ℕ → List ℕ → Piece
judge_shape separator n text = p.Separator n
judge_shape (token k.Word) n text = if nat_le n 128 then p.Token k.Word n else p.Bad
judge_shape (token k.Number) n text = p.Token k.Number n
judge_shape (token k.Text) n text = if is_good_text (contents (drop 1 text)) then p.Token k.Text n else p.Bad
judge_shape (token (k.Symbol symbol)) n text = p.Token (k.Symbol symbol) n

abbrev pub judge : List ℕ → Option Sized → Piece
judge text None = p.Bad
judge text (Some s) = judge_shape s.shape s.len text

-- the same choice on both sides
same_choice : (text : List ℕ) (t : Bool) (x y : Piece) (u v : Option Sized) → x ≡ judge text u → y ≡ judge text v → cond t x y ≡ judge text (cond t u v)
same_choice text true x y u v f g = f
same_choice text false x y u v f g = g

judged_single : (text : List ℕ) (o : Option Symbol) → single_piece o ≡ judge text (single_shape o)
judged_single text None = refl
judged_single text (Some symbol) = refl

judged_pair : (text : List ℕ) (o : Option Symbol) (a : ℕ) → pair_piece o a ≡ judge text (pair_shape o a)
judged_pair text None a = judged_single text (single_of a)
judged_pair text (Some symbol) a = refl

judged_symbol : (text bytes : List ℕ) → symbol_piece bytes ≡ judge text (symbol_shape bytes)
judged_symbol text [] = refl
judged_symbol text (a ∷ []) = judged_single text (single_of a)
judged_symbol text (a ∷ b ∷ bytes) = judged_pair text (pair_of a b) a

judged_text : (b : ℕ) (bytes : List ℕ) (end : Option ℕ) → closed_text bytes end ≡ judge (b ∷ bytes) (text_shape end)
judged_text b bytes None = refl
judged_text b bytes (Some n) = refl

pub judged : (text : List ℕ) → first_piece text ≡ judge text (first_shape text)
judged [] = refl
judged (b ∷ bytes) =
    let t = b ∷ bytes in
    same_choice t (is_alone b) _ _ _ _ (judged_single t (single_of b))
    (same_choice t (is_ascii_digit b) _ _ _ _ (same_choice t (word_goes_on (drop (prefix_len is_ascii_digit t) t)) _ _ _ _ refl refl)
    (same_choice t (is_blank b) _ _ _ _ refl (same_choice t (is_ascii_alphabetic b) _ _ _ _ refl
    (same_choice t (b == 39) _ _ _ _ (judged_text b bytes (quoted_end 1 bytes))
    (same_choice t (is_comment t) _ _ _ _ refl (judged_symbol t t))))))

-- It fits, and lies in the text.

pub record Stands (text : List ℕ) (s : Sized) : Type 0 where
  pub fits : Fits s.shape (take s.len text) (drop s.len text)
  pub some : 0 < s.len
  pub within : s.len ≤ length text

abbrev pub Holds : List ℕ → Option Sized → Type 0
Holds text None = Unit {0}
Holds text (Some s) = Stands text s

blank_holds : (b : ℕ) (bytes : List ℕ) → is_blank b ≡ true → Holds (b ∷ bytes) (sized separator 1)
blank_holds b bytes e = record { fits = inl (b, refl, e); some = omega arith; within = omega arith }

word_holds : (b : ℕ) (bytes : List ℕ) → is_ascii_alphabetic b ≡ true → Holds (b ∷ bytes) (sized (token k.Word) (prefix_len is_word_byte (b ∷ bytes)))
word_holds b bytes is =
    let first : is_word_byte b ≡ true = letter (is_in_range 48 57 b) (is_in_range 65 90 b) (is_in_range 97 122 b) (b == 95) is in
    record {
      fits = subst IsWord (sym (prefix_first is_word_byte b bytes first)) (is, all_prefix is_word_byte bytes);
      some = starts is_word_byte b bytes first;
      within = prefix_len-le-length is_word_byte (b ∷ bytes);
    }

number_holds : (b : ℕ) (bytes : List ℕ) → is_ascii_digit b ≡ true → Holds (b ∷ bytes) (number_shape (b ∷ bytes))
number_holds b bytes is =
    let n = prefix_len is_ascii_digit (b ∷ bytes) in
    cond_both (word_goes_on (drop n (b ∷ bytes))) None (sized (token k.Number) n) (Holds (b ∷ bytes)) (λ _. tt)
    (λ e. record {
      fits = (subst IsNumber (sym (prefix_first is_ascii_digit b bytes is)) ((λ h. cc), and_from _ _ is (all_prefix is_ascii_digit bytes)), e);
      some = starts is_ascii_digit b bytes is;
      within = prefix_len-le-length is_ascii_digit (b ∷ bytes);
    })

text_holds : (b : ℕ) (bytes : List ℕ) (end : Option ℕ) → (b == 39) ≡ true → quoted_end 1 bytes ≡ end → Holds (b ∷ bytes) (text_shape end)
text_holds b bytes None e h = tt
text_holds b bytes (Some n) e h =
    let ends = quoted_end_spelled 1 bytes n h in
    record {
      fits = (contents bytes, text_spelled b n bytes e h, text_after b n bytes h);
      some = omega (arith, ends.place);
      within = omega (arith, ends.place, ends.within);
    }

comment_holds : (b : ℕ) (bytes : List ℕ) → is_comment (b ∷ bytes) ≡ true → Holds (b ∷ bytes) (sized separator (comment_len (b ∷ bytes)))
comment_holds b [] h = cc
comment_holds b (c ∷ bytes) h =
    let both = and_parts (b == 45) (c == 45) h in
    let one : b ≡ 45 = eqb-true b 45 both.0 in
    let two : c ≡ 45 = eqb-true c 45 both.1 in
    rw (one, two) (record {
      fits = inr (take (prefix_len (λ x. not (x == 10)) bytes) bytes, simp one-add refl, all_prefix (λ x. not (x == 10)) bytes);
      some = omega arith;
      within = prefix_len-le-length (λ x. not (x == 10)) (45 ∷ 45 ∷ bytes);
    })

one_stands : (b : ℕ) (bytes : List ℕ) (symbol : Symbol) → Fits (token (k.Symbol symbol)) (b ∷ []) bytes → Stands (b ∷ bytes) (record { shape = token (k.Symbol symbol); len = 1 })
one_stands b bytes symbol is = record { fits = is; some = omega arith; within = omega arith }

-- one test of a symbol more
try_one : (bytes : List ℕ) (b c : ℕ) (symbol : Symbol) (o : Option Symbol) → (b ≡ c → Fits (token (k.Symbol symbol)) (b ∷ []) bytes) → Holds (b ∷ bytes) (single_shape o) → Holds (b ∷ bytes) (single_shape (cond (b == c) (Some symbol) o))
try_one bytes b c symbol o this rest = cond_both (b == c) (Some symbol) o (λ x. Holds (b ∷ bytes) (single_shape x)) (λ e. one_stands b bytes symbol (this (eqb-true b c e))) (λ e. rest)

single_holds : (b : ℕ) (bytes : List ℕ) → Holds (b ∷ bytes) (single_shape (single_of b))
single_holds b bytes =
    let one = λ (c : ℕ) (e : b ≡ c). ap (λ x. x ∷ []) e in
    try_one bytes b 40 _ _ (one 40) (try_one bytes b 41 _ _ (one 41) (try_one bytes b 44 _ _ (one 44)
    (try_one bytes b 42 _ _ (one 42) (try_one bytes b 43 _ _ (one 43) (try_one bytes b 45 _ _ (one 45)
    (try_one bytes b 60 _ _ (one 60) (try_one bytes b 61 _ _ (one 61) (try_one bytes b 62 _ _ (one 62) tt))))))))

two : (a b c d : ℕ) → ((a == c) && (b == d)) ≡ true → a ∷ b ∷ [] ≡ c ∷ d ∷ []
two a b c d e =
    let both = and_parts (a == c) (b == d) e in
    rw (eqb-true a c both.0, eqb-true b d both.1) refl

two_stands : (a b : ℕ) (bytes : List ℕ) (symbol : Symbol) → Fits (token (k.Symbol symbol)) (a ∷ b ∷ []) bytes → Stands (a ∷ b ∷ bytes) (record { shape = token (k.Symbol symbol); len = 2 })
two_stands a b bytes symbol is = record { fits = is; some = omega arith; within = omega arith }

try_two : (bytes : List ℕ) (a b c d : ℕ) (symbol : Symbol) (o : Option Symbol) → (a ∷ b ∷ [] ≡ c ∷ d ∷ [] → Fits (token (k.Symbol symbol)) (a ∷ b ∷ []) bytes) → Holds (a ∷ b ∷ bytes) (pair_shape o a) → Holds (a ∷ b ∷ bytes) (pair_shape (cond ((a == c) && (b == d)) (Some symbol) o) a)
try_two bytes a b c d symbol o this rest = cond_both ((a == c) && (b == d)) (Some symbol) o (λ x. Holds (a ∷ b ∷ bytes) (pair_shape x a)) (λ t. two_stands a b bytes symbol (this (two a b c d t))) (λ _. rest)

symbol_holds : (b : ℕ) (bytes : List ℕ) → Holds (b ∷ bytes) (symbol_shape (b ∷ bytes))
symbol_holds b [] = single_holds b []
symbol_holds b (c ∷ bytes) =
    try_two bytes b c 60 62 _ _ inl (try_two bytes b c 33 61 _ _ inr (try_two bytes b c 60 61 _ _ (λ e. e) (try_two bytes b c 62 61 _ _ (λ e. e) (single_holds b (c ∷ bytes)))))

pub holds : (text : List ℕ) → Holds text (first_shape text)
holds [] = tt
holds (b ∷ bytes) =
    let H = Holds (b ∷ bytes) in
    cond_both (is_alone b) _ _ H (λ _. single_holds b bytes) (λ _.
    cond_both (is_ascii_digit b) _ _ H (number_holds b bytes) (λ _.
    cond_both (is_blank b) _ _ H (blank_holds b bytes) (λ _.
    cond_both (is_ascii_alphabetic b) _ _ H (word_holds b bytes) (λ _.
    cond_both (b == 39) _ _ H (λ e. text_holds b bytes _ e refl) (λ _.
    cond_both (is_comment (b ∷ bytes)) _ _ H (comment_holds b bytes) (λ _. symbol_holds b bytes))))))

pub stands : (text : List ℕ) (s : Sized) → first_shape text ≡ Some s → Stands text s
stands text s e = subst (Holds text) e (holds text)
