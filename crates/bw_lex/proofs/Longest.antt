-- The first piece of a text is the longest that fits, within its limits.
use Rattle.std.proofs.Common.{◌≡◌, ◌≢◌, ◌⊎◌, ℕ, ◌<◌, ◌≤◌, Bool, true, false, ◌==◌, ◌||◌, not, cond, List, [], ◌∷◌, ◌++◌, length, take, drop, Option, Some, None, refl, sym, ap, ◌∙◌, subst, arith, inl, inr, nat_le, Result, append_assoc, eqb-true, length-append, length-take}
use Rattle.std.specs.List.{list_all, prefix_len}
use Rattle.std.specs.Char.{is_ascii_alphabetic, is_ascii_digit}
use Rattle.std.specs.Bool.{IsTrue, IsFalse}
use Rattle.std.specs.Int.{is_in_range}
use Rattle.std.specs.Result.{IfOk}
use Rattle.std.proofs.Math.Seq.{drop-append_seam}
use Rattle.std.proofs.lemmas.Bool.{and_from, and_left, and_parts, and_right, cond_both, le-leb, leb-true, lt-leb, ne_eqb, or_cases}
use Rattle.std.proofs.lemmas.List.{take-append-drop}
use Rattle.std.proofs.lemmas.Result.{IfOk-weaker}
use Rattle.bw_lex.specs.declared.token.TokenKind.TheVariants as k
use Rattle.bw_lex.specs.declared.token.Symbol.{Symbol}
use Rattle.bw_lex.specs.declared.token.Symbol.TheVariants.{Open, Close, Comma, Star, Plus, Minus, Compare}
use Rattle.bw_lex.specs.declared.token.CompareOp.TheVariants.{Eq, Ne, Lt, Le, Gt, Ge}
use Rattle.bw_lex.specs.declared.piece.Piece.{Piece}
use Rattle.bw_lex.specs.declared.piece.Piece.TheVariants as p
use Rattle.bw_lex.specs.Pieces.{FitsIn, comment_len, contents, first_piece, is_alone, pair_of, single_of}
use Rattle.bw_lex.specs.Spellings.{IsSymbol, begins_with, doubled, is_blank, is_good_text, is_word_byte, quoted, word_goes_on}
use Rattle.bw_lex.specs.Tokens.{Fits, IsAllowed, IsNext, Shape, separator, token}
use Rattle.bw_lex.proofs.Prefixes.{letter, no_digit, prefix_exact, prefix_over}
use Rattle.bw_lex.proofs.Quotes.{doubled_ends, doubled_says}
use Rattle.bw_lex.proofs.Shapes.{Holds, Sized, first_shape, holds, judge, judge_shape, judged, pair_shape, sized, stands}

abbrev pub piece_of : Shape → ℕ → Piece
piece_of separator n = p.Separator n
piece_of (token kind) n = p.Token kind n

-- What fits is no longer than the first shape, and of that shape where it is as long.

abbrev pub Reaches : Shape → ℕ → Option Sized → Type 0
Reaches shape n None = ⊥
Reaches shape n (Some s) = (n ≤ s.len) × (s.len ≡ n → s.shape ≡ shape)

not_blank : (b : ℕ) → 48 ≤ b → is_blank b ≡ false
not_blank b h =
    let tab : (b == 9) ≡ false = ne_eqb b 9 (λ e. omega arith) in
    let newline : (b == 10) ≡ false = ne_eqb b 10 (λ e. omega arith) in
    let return : (b == 13) ≡ false = ne_eqb b 13 (λ e. omega arith) in
    let space : (b == 32) ≡ false = ne_eqb b 32 (λ e. omega arith) in
    rw (tab, newline, return, space) refl

not_in_range : (low high b : ℕ) → b < low → is_in_range low high b ≡ false
not_in_range low high b h = and_left _ _ (lt-leb low b h)

pub in_range : (low high b : ℕ) → is_in_range low high b ≡ true → (low ≤ b) × (b ≤ high)
in_range low high b h =
    let both = and_parts _ _ h in
    (leb-true low b both.0, leb-true b high both.1)

above_range : (low high b : ℕ) → high < b → is_in_range low high b ≡ false
above_range low high b h = and_right _ _ (lt-leb b high h)

-- one test fails, or holds
skip : (P : Option Sized → Type 0) (t : Bool) (x y : Option Sized) → t ≡ false → P y → P (cond t x y)
skip P true x y e h = cc
skip P false x y e h = h

here : (P : Option Sized → Type 0) (t : Bool) (x y : Option Sized) → t ≡ true → P x → P (cond t x y)
here P true x y e h = h
here P false x y e h = cc

-- a byte below or above these is none of the lone symbols
not_alone : (b : ℕ) → (b < 40) ⊎ (44 < b) → is_alone b ≡ false
not_alone b h =
    let open' : (b == 40) ≡ false = ne_eqb b 40 (λ e. elim h [ inl x ↦ omega arith | inr x ↦ omega arith ]) in
    let close : (b == 41) ≡ false = ne_eqb b 41 (λ e. elim h [ inl x ↦ omega arith | inr x ↦ omega arith ]) in
    let comma : (b == 44) ≡ false = ne_eqb b 44 (λ e. elim h [ inl x ↦ omega arith | inr x ↦ omega arith ]) in
    let star : (b == 42) ≡ false = ne_eqb b 42 (λ e. elim h [ inl x ↦ omega arith | inr x ↦ omega arith ]) in
    let plus : (b == 43) ≡ false = ne_eqb b 43 (λ e. elim h [ inl x ↦ omega arith | inr x ↦ omega arith ]) in
    rw (open', close, comma, star, plus) refl

blank_below : (b : ℕ) → is_blank b ≡ true → b < 40
blank_below b h =
    elim (or_cases ((b == 9 || b == 10) || b == 13) (b == 32) h) [
      | inl f ↦ elim (or_cases (b == 9 || b == 10) (b == 13) f) [
        | inl g ↦ elim (or_cases (b == 9) (b == 10) g) [
          | inl e ↦ omega (arith, eqb-true b 9 e)
          | inr e ↦ omega (arith, eqb-true b 10 e)
        ]
        | inr e ↦ omega (arith, eqb-true b 13 e)
      ]
      | inr e ↦ omega (arith, eqb-true b 32 e)
    ]

blank_reaches : (b : ℕ) (rest : List ℕ) → is_blank b ≡ true → Reaches separator 1 (first_shape (b ∷ rest))
blank_reaches b rest e =
    let R = Reaches separator 1 in
    let below = blank_below b e in
    skip R (is_alone b) _ _ (not_alone b (inl below)) (skip R (is_ascii_digit b) _ _ (not_in_range 48 57 b (omega (arith, below)))
    (here R (is_blank b) _ _ e (omega arith, λ _. refl)))

comment_reaches : (says rest : List ℕ) → IsTrue (list_all (λ b. not (b == 10)) says) → Reaches separator (length (45 ∷ 45 ∷ says)) (first_shape (45 ∷ 45 ∷ says ++ rest))
comment_reaches says rest h = (omega (arith, prefix_over (λ b. not (b == 10)) says rest h), λ _. refl)

from_letter : (b : ℕ) → is_ascii_alphabetic b ≡ true → 65 ≤ b
from_letter b h =
    elim (or_cases (is_in_range 65 90 b) (is_in_range 97 122 b) h) [
      | inl e ↦ let r = in_range 65 90 b e in omega (arith, r.0)
      | inr e ↦ let r = in_range 97 122 b e in omega (arith, r.0)
    ]

word_reaches : (b : ℕ) (bytes rest : List ℕ) → is_ascii_alphabetic b ≡ true → IsTrue (list_all is_word_byte bytes) → Reaches (token k.Word) (length (b ∷ bytes)) (first_shape (b ∷ bytes ++ rest))
word_reaches b bytes rest is all =
    let R = Reaches (token k.Word) (length (b ∷ bytes)) in
    let first : is_word_byte b ≡ true = letter (is_in_range 48 57 b) (is_in_range 65 90 b) (is_in_range 97 122 b) (b == 95) is in
    let from = from_letter b is in
    skip R (is_alone b) _ _ (not_alone b (inr (omega (arith, from)))) (skip R (is_ascii_digit b) _ _ (above_range 48 57 b (omega (arith, from)))
    (skip R (is_blank b) _ _ (not_blank b (omega (arith, from))) (here R (is_ascii_alphabetic b) _ _ is
    (prefix_over is_word_byte (b ∷ bytes) rest (and_from _ _ first all), λ _. refl))))

ends_number : (rest : List ℕ) → word_goes_on rest ≡ false → prefix_len is_ascii_digit rest ≡ 0
ends_number [] h = refl
ends_number (b ∷ rest) h =
    let none : is_ascii_digit b ≡ false = no_digit (is_in_range 48 57 b) (is_in_range 65 90 b) (is_in_range 97 122 b) (b == 95) h in
    rw none refl

number_step : (text : List ℕ) (n m : ℕ) → n ≡ m → word_goes_on (drop m text) ≡ false → Reaches (token k.Number) m (cond (word_goes_on (drop n text)) None (sized (token k.Number) n))
number_step text n m e ends = rw (e, ends) (omega arith, λ _. refl)

number_reaches : (b : ℕ) (bytes rest : List ℕ) → IsTrue (list_all is_ascii_digit (b ∷ bytes)) → word_goes_on rest ≡ false → Reaches (token k.Number) (length (b ∷ bytes)) (first_shape (b ∷ bytes ++ rest))
number_reaches b bytes rest all ends =
    let R = Reaches (token k.Number) (length (b ∷ bytes)) in
    let digit : is_ascii_digit b ≡ true = (and_parts (is_ascii_digit b) (list_all is_ascii_digit bytes) all).0 in
    let range = in_range 48 57 b digit in
    skip R (is_alone b) _ _ (not_alone b (inr (omega (arith, range.0)))) (here R (is_ascii_digit b) _ _ digit
    (number_step (b ∷ bytes ++ rest) _ (length (b ∷ bytes)) (prefix_exact is_ascii_digit (b ∷ bytes) rest all (ends_number rest ends)) (ap word_goes_on (drop-append_seam (b ∷ bytes) rest) ∙ ends)))

text_reaches : (says rest : List ℕ) → IsFalse (begins_with 39 rest) → Reaches (token k.Text) (length (quoted says)) (first_shape (quoted says ++ rest))
text_reaches says rest after =
    rw (append_assoc (doubled says) (39 ∷ []) rest, doubled_ends says rest after 1) (omega (arith, length-append (doubled says) (39 ∷ [])), λ _. refl)

pair_reaches : (a : ℕ) (symbol : Symbol) (o : Option Symbol) → single_of a ≡ Some symbol → Reaches (token (k.Symbol symbol)) 1 (pair_shape o a)
pair_reaches a symbol None e = rw e (omega arith, λ _. refl)
pair_reaches a symbol (Some other) e = (omega arith, λ h. absurd (omega arith))

-- a symbol that begins nothing longer
alone : (a : ℕ) (symbol : Symbol) (rest : List ℕ) → is_alone a ≡ true → single_of a ≡ Some symbol → Reaches (token (k.Symbol symbol)) 1 (first_shape (a ∷ rest))
alone a symbol rest is e = here (Reaches (token (k.Symbol symbol)) 1) (is_alone a) _ _ is (pair_reaches a symbol None e)

-- one that may begin a longer symbol
less : (a : ℕ) (symbol : Symbol) (rest : List ℕ) → is_alone a ≡ false → is_ascii_digit a ≡ false → is_blank a ≡ false → is_ascii_alphabetic a ≡ false → (a == 39) ≡ false → (a == 45) ≡ false → single_of a ≡ Some symbol → Reaches (token (k.Symbol symbol)) 1 (first_shape (a ∷ rest))
less a symbol [] other digit blank letter quote dash e =
    let R = Reaches (token (k.Symbol symbol)) 1 in
    skip R _ _ _ other (skip R _ _ _ digit (skip R _ _ _ blank (skip R _ _ _ letter (skip R _ _ _ quote (pair_reaches a symbol None e)))))
less a symbol (c ∷ rest) other digit blank letter quote dash e =
    let R = Reaches (token (k.Symbol symbol)) 1 in
    skip R _ _ _ other (skip R _ _ _ digit (skip R _ _ _ blank (skip R _ _ _ letter (skip R _ _ _ quote (skip R _ _ _ (and_left (a == 45) (c == 45) dash) (pair_reaches a symbol (pair_of a c) e))))))

comment_more : (c : ℕ) (rest : List ℕ) → (c == 45) ≡ true → Reaches (token (k.Symbol Minus)) 1 (sized separator (comment_len (45 ∷ c ∷ rest)))
comment_more c rest e =
    let is : c ≡ 45 = eqb-true c 45 e in
    rw is (omega arith, λ h. absurd (omega arith))

minus_reaches : (rest : List ℕ) → Reaches (token (k.Symbol Minus)) 1 (first_shape (45 ∷ rest))
minus_reaches [] = (omega arith, λ _. refl)
minus_reaches (c ∷ rest) =
    cond_both (c == 45) _ _ (Reaches (token (k.Symbol Minus)) 1) (comment_more c rest) (λ _. (omega arith, λ _. refl))

symbol_reaches : (symbol : Symbol) (bytes rest : List ℕ) → IsSymbol symbol bytes → Reaches (token (k.Symbol symbol)) (length bytes) (first_shape (bytes ++ rest))
symbol_reaches Open bytes rest is = rw is (alone 40 Open rest refl refl)
symbol_reaches Close bytes rest is = rw is (alone 41 Close rest refl refl)
symbol_reaches Comma bytes rest is = rw is (alone 44 Comma rest refl refl)
symbol_reaches Star bytes rest is = rw is (alone 42 Star rest refl refl)
symbol_reaches Plus bytes rest is = rw is (alone 43 Plus rest refl refl)
symbol_reaches Minus bytes rest is = rw is (minus_reaches rest)
symbol_reaches (Compare Eq) bytes rest is = rw is (less 61 (Compare Eq) rest refl refl refl refl refl refl refl)
symbol_reaches (Compare Ne) bytes rest (inl is) = rw is (omega arith, λ _. refl)
symbol_reaches (Compare Ne) bytes rest (inr is) = rw is (omega arith, λ _. refl)
symbol_reaches (Compare Lt) bytes rest is = rw is (less 60 (Compare Lt) rest refl refl refl refl refl refl refl)
symbol_reaches (Compare Le) bytes rest is = rw is (omega arith, λ _. refl)
symbol_reaches (Compare Gt) bytes rest is = rw is (less 62 (Compare Gt) rest refl refl refl refl refl refl refl)
symbol_reaches (Compare Ge) bytes rest is = rw is (omega arith, λ _. refl)

reaches : (shape : Shape) (bytes rest : List ℕ) → Fits shape bytes rest → Reaches shape (length bytes) (first_shape (bytes ++ rest))
reaches separator bytes rest (inl fits) = rw fits.1 (blank_reaches fits.0 rest fits.2)
reaches separator bytes rest (inr fits) = rw fits.1 (comment_reaches fits.0 rest fits.2)
reaches (token k.Word) [] rest fits = absurd fits
reaches (token k.Word) (b ∷ bytes) rest fits = word_reaches b bytes rest fits.0 fits.1
reaches (token k.Number) [] rest fits = absurd (fits.0.0 refl)
reaches (token k.Number) (b ∷ bytes) rest fits = number_reaches b bytes rest fits.0.1 fits.1
reaches (token k.Text) bytes rest fits = rw fits.1 (text_reaches fits.0 rest fits.2)
reaches (token (k.Symbol symbol)) bytes rest fits = symbol_reaches symbol bytes rest fits

-- The first piece is next.

pub record NextPiece (text : List ℕ) (piece : Piece) : Type 0 where
  pub shape : Shape
  pub len : ℕ
  pub piece_is : piece ≡ piece_of shape len
  pub next : IsNext shape (take len text) (drop len text)
  pub size : length (take len text) ≡ len
  pub some : 0 < len

-- a text says what its bytes spell
said : (says left : List ℕ) → IsFalse (begins_with 39 left) → contents (drop 1 (quoted says ++ left)) ≡ says
said says left after = ap contents (append_assoc (doubled says) (39 ∷ []) left) ∙ doubled_says says left after

-- a piece that isn't bad is within the limits
pub record Allowed (shape : Shape) (n : ℕ) (text : List ℕ) : Type 0 where
  pub judged : judge_shape shape n text ≡ piece_of shape n
  pub allowed : IsAllowed shape (take n text)

word_allowed : (n : ℕ) (text : List ℕ) (t : Bool) → nat_le n 128 ≡ t → n ≤ length text → cond t (p.Token k.Word n) p.Bad ≢ p.Bad → (cond t (p.Token k.Word n) p.Bad ≡ p.Token k.Word n) × (length (take n text) ≤ 128)
word_allowed n text true e within good = (refl, omega (arith, leb-true n 128 e, length-take n text))
word_allowed n text false e within good = absurd (good refl)

text_allowed : (n : ℕ) (says bytes : List ℕ) (t : Bool) → is_good_text says ≡ t → bytes ≡ quoted says → cond t (p.Token k.Text n) p.Bad ≢ p.Bad → (cond t (p.Token k.Text n) p.Bad ≡ p.Token k.Text n) × IsAllowed (token k.Text) bytes
text_allowed n says bytes true e is good = (refl, (says, is, e))
text_allowed n says bytes false e is good = absurd (good refl)

allowed_from : (shape : Shape) (n : ℕ) (text : List ℕ) → Fits shape (take n text) (drop n text) → n ≤ length text → judge_shape shape n text ≢ p.Bad → Allowed shape n text
allowed_from separator n text fits within good = record { judged = refl; allowed = tt }
allowed_from (token k.Word) n text fits within good =
    let both = word_allowed n text (nat_le n 128) refl within good in
    record { judged = both.0; allowed = both.1 }
allowed_from (token k.Number) n text fits within good = record { judged = refl; allowed = tt }
allowed_from (token k.Text) n text fits within good =
    let whole : text ≡ quoted fits.0 ++ drop n text = sym (take-append-drop n text) ∙ ap (λ l. l ++ drop n text) fits.1 in
    let says : contents (drop 1 text) ≡ fits.0 = ap (λ l. contents (drop 1 l)) whole ∙ said fits.0 (drop n text) fits.2 in
    let both = text_allowed n fits.0 (take n text) (is_good_text (contents (drop 1 text))) (ap is_good_text (sym says)) fits.1 good in
    record { judged = both.0; allowed = both.1 }
allowed_from (token (k.Symbol symbol)) n text fits within good = record { judged = refl; allowed = tt }

longest_from : (text : List ℕ) (s : Sized) → first_shape text ≡ Some s → (other : Shape) (more left : List ℕ) → more ++ left ≡ take s.len text ++ drop s.len text → Fits other more left → length more ≤ s.len
longest_from text s e other more left is fits =
    (subst (Reaches other (length more)) (ap first_shape (is ∙ take-append-drop s.len text) ∙ e) (reaches other more left fits)).0

next_from : (text : List ℕ) (piece : Piece) (o : Option Sized) → first_shape text ≡ o → piece ≡ judge text o → piece ≢ p.Bad → NextPiece text piece
next_from text piece None e is good = absurd (good is)
next_from text piece (Some s) e is good =
    let st = stands text s e in
    let allowed = allowed_from s.shape s.len text st.fits st.within (λ h. good (is ∙ h)) in
    let size : length (take s.len text) ≡ s.len = omega (arith, length-take s.len text, st.within) in
    record {
      shape = s.shape;
      len = s.len;
      piece_is = is ∙ allowed.judged;
      next = (record { fits = st.fits; longest = λ other more left same fits. omega (arith, size, longest_from text s e other more left same fits) }, allowed.allowed);
      size = size;
      some = st.some;
    }

pub next_piece : (text : List ℕ) (piece : Piece) → piece ≡ first_piece text → piece ≢ p.Bad → NextPiece text piece
next_piece text piece is good = next_from text piece (first_shape text) refl (is ∙ judged text) good

-- What is next is the first piece.

judge_allowed : (shape : Shape) (bytes left : List ℕ) → Fits shape bytes left → IsAllowed shape bytes → judge_shape shape (length bytes) (bytes ++ left) ≡ piece_of shape (length bytes)
judge_allowed separator bytes left fits allowed = refl
judge_allowed (token k.Word) bytes left fits allowed = rw (le-leb (length bytes) 128 allowed) refl
judge_allowed (token k.Number) bytes left fits allowed = refl
judge_allowed (token k.Text) bytes left fits allowed =
    let says : contents (drop 1 (bytes ++ left)) ≡ allowed.0 = ap (λ l. contents (drop 1 (l ++ left))) allowed.1 ∙ said allowed.0 left fits.2 in
    rw (says, allowed.2) refl
judge_allowed (token (k.Symbol symbol)) bytes left fits allowed = refl

same_shape : (shape : Shape) (bytes left : List ℕ) → IsNext shape bytes left → (o : Option Sized) → first_shape (bytes ++ left) ≡ o → Reaches shape (length bytes) o → judge (bytes ++ left) o ≡ piece_of shape (length bytes)
same_shape shape bytes left next None e reach = absurd reach
same_shape shape bytes left next (Some s) e reach =
    let text = bytes ++ left in
    let st = stands text s e in
    let no_longer = next.0.longest s.shape (take s.len text) (drop s.len text) (take-append-drop s.len text) st.fits in
    let size : s.len ≡ length bytes = omega (arith, reach.0, no_longer, st.within, length-take s.len text) in
    let same = reach.1 size in
    (λ i. judge_shape (same i) (size i) text) ∙ judge_allowed shape bytes left next.0.fits next.1

pub piece_next : (shape : Shape) (bytes left : List ℕ) → IsNext shape bytes left → first_piece (bytes ++ left) ≡ piece_of shape (length bytes)
piece_next shape bytes left next =
    judged (bytes ++ left) ∙ same_shape shape bytes left next (first_shape (bytes ++ left)) refl (reaches shape bytes left next.0.fits)

-- A piece lies in the text.

shape_fits : (shape : Shape) (n : ℕ) (text : List ℕ) → 0 < n → n ≤ length text → FitsIn (judge_shape shape n text) text
shape_fits separator n text some within = (some, within)
shape_fits (token k.Word) n text some within = cond_both (nat_le n 128) _ _ (λ x. FitsIn x text) (λ _. (some, within)) (λ _. tt)
shape_fits (token k.Number) n text some within = (some, within)
shape_fits (token k.Text) n text some within = cond_both (is_good_text (contents (drop 1 text))) _ _ (λ x. FitsIn x text) (λ _. (some, within)) (λ _. tt)
shape_fits (token (k.Symbol symbol)) n text some within = (some, within)

judge_fits : (text : List ℕ) (o : Option Sized) → Holds text o → FitsIn (judge text o) text
judge_fits text None h = tt
judge_fits text (Some s) h = shape_fits s.shape s.len text h.some h.within

pub first_piece_fits : (bytes : List ℕ) → FitsIn (first_piece bytes) bytes
first_piece_fits bytes = subst (λ x. FitsIn x bytes) (sym (judged bytes)) (judge_fits bytes (first_shape bytes) (holds bytes))

pub within : {E : Type 0} (bytes : List ℕ) (r : Result Piece E) → IfOk r (λ piece. piece ≡ first_piece bytes) → IfOk r (λ piece. FitsIn piece bytes)
within bytes r = IfOk-weaker r (λ piece. piece ≡ first_piece bytes) (λ piece. FitsIn piece bytes) (λ piece is. subst (λ x. FitsIn x bytes) (sym is) (first_piece_fits bytes))
