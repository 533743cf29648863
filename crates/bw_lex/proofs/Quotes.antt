-- Texts in quotes: where one ends, and what it says.
use Rattle.std.proofs.Common.{◌≡◌, ℕ, ◌+◌, suc, Bool, true, false, ◌==◌, cond, List, [], ◌∷◌, ◌++◌, length, ◌≤◌, take, drop, Option, Some, IsTrue, refl, ap, sym, subst, ◌∙◌, ◌-◌, arith, eqb-true}
use Rattle.std.specs.Bool.{IsFalse}
use Rattle.std.proofs.Math.Numerals.{one-add}
use Rattle.std.proofs.Math.Seq.{take-length}
use Rattle.bw_lex.specs.Pieces.{contents, quote_contents, quote_end, quoted_end, text_says}
use Rattle.bw_lex.specs.Spellings.{IsSpelled, begins_with, doubled, is_good_text, quoted}
use Rattle.bw_lex.specs.declared.token.TokenKind.TheVariants as k

-- one of two ends is found, and what was said goes with it
by_quote : (q : Bool) (x y : Option ℕ) (n : ℕ) (u v : List ℕ) (P : List ℕ → Type 0) → (q ≡ true → x ≡ Some n → P u) → (q ≡ false → y ≡ Some n → P v) → cond q x y ≡ Some n → P (cond q u v)
by_quote true x y n u v P on_true on_false h = on_true refl h
by_quote false x y n u v P on_true on_false h = on_false refl h

-- the text that says this ends so many bytes on, and no quote follows
pub record Ends (at n : ℕ) (bytes says : List ℕ) : Type 0 where
  pub more : ℕ
  pub place : n ≡ at + more
  pub within : more ≤ length bytes
  pub spells : take more bytes ≡ doubled says ++ 39 ∷ []
  pub after : begins_with 39 (drop more bytes) ≡ false

-- the same just past a quote
pub record Closes (at n : ℕ) (bytes says : List ℕ) : Type 0 where
  pub more : ℕ
  pub place : n ≡ at + more
  pub within : more ≤ length bytes
  pub spells : 39 ∷ take more bytes ≡ doubled says ++ 39 ∷ []
  pub after : begins_with 39 (drop more bytes) ≡ false

quote_first : (at n b : ℕ) (bytes says : List ℕ) → (b == 39) ≡ true → Closes (at + 1) n bytes says → Ends at n (b ∷ bytes) says
quote_first at n b bytes says e h =
    let is : b ≡ 39 = eqb-true b 39 e in
    record { more = suc h.more; place = omega (arith, h.place); within = omega (arith, h.within); spells = rw is h.spells; after = h.after }

other_first : (at n b : ℕ) (bytes says : List ℕ) → (b == 39) ≡ false → Ends (at + 1) n bytes says → Ends at n (b ∷ bytes) (b ∷ says)
other_first at n b bytes says e h =
    record { more = suc h.more; place = omega (arith, h.place); within = omega (arith, h.within); spells = rw e (ap (λ l. b ∷ l) h.spells); after = h.after }

quote_second : (at n b : ℕ) (bytes says : List ℕ) → (b == 39) ≡ true → Ends (at + 1) n bytes says → Closes at n (b ∷ bytes) (39 ∷ says)
quote_second at n b bytes says e h =
    let is : b ≡ 39 = eqb-true b 39 e in
    record { more = suc h.more; place = omega (arith, h.place); within = omega (arith, h.within); spells = rw is (ap (λ l. 39 ∷ 39 ∷ l) h.spells); after = h.after }

at_end : (at n : ℕ) → Some at ≡ Some n → Closes at n [] []
at_end at n e =
    let same : at ≡ n = cc in
    record { more = 0; place = omega arith; within = omega arith; spells = refl; after = refl }

other_second : (at n b : ℕ) (bytes : List ℕ) → (b == 39) ≡ false → Some at ≡ Some n → Closes at n (b ∷ bytes) []
other_second at n b bytes none e =
    let same : at ≡ n = cc in
    record { more = 0; place = omega arith; within = omega arith; spells = refl; after = none }

mutual
  pub quoted_end_spelled : (at : ℕ) (bytes : List ℕ) (n : ℕ) → quoted_end at bytes ≡ Some n → Ends at n bytes (contents bytes)
  quoted_end_spelled at [] n h = cc
  quoted_end_spelled at (b ∷ bytes) n h =
      by_quote (b == 39) _ _ n (quote_contents bytes) (b ∷ contents bytes) (λ says. Ends at n (b ∷ bytes) says)
      (λ e g. quote_first at n b bytes _ e (quote_end_spelled (at + 1) bytes n g))
      (λ e g. other_first at n b bytes _ e (quoted_end_spelled (at + 1) bytes n g)) h

  quote_end_spelled : (at : ℕ) (bytes : List ℕ) (n : ℕ) → quote_end at bytes ≡ Some n → Closes at n bytes (quote_contents bytes)
  quote_end_spelled at [] n h = at_end at n h
  quote_end_spelled at (b ∷ bytes) n h =
      by_quote (b == 39) _ _ n (39 ∷ contents bytes) [] (λ says. Closes at n (b ∷ bytes) says)
      (λ e g. quote_second at n b bytes _ e (quoted_end_spelled (at + 1) bytes n g))
      (λ e g. other_second at n b bytes e g) h

-- a quote that no quote follows ends the text
quote_ends : (at : ℕ) (left : List ℕ) → IsFalse (begins_with 39 left) → quote_end at left ≡ Some at
quote_ends at [] h = refl
quote_ends at (b ∷ left) h = rw h refl

quote_says : (left : List ℕ) → IsFalse (begins_with 39 left) → quote_contents left ≡ []
quote_says [] h = refl
quote_says (b ∷ left) h = rw h refl

end_step : (at b : ℕ) (says left : List ℕ) (t : Bool) → (b == 39) ≡ t → ((m : ℕ) → quoted_end m (doubled says ++ 39 ∷ left) ≡ Some (m + length (doubled says) + 1)) → quoted_end at (doubled (b ∷ says) ++ 39 ∷ left) ≡ Some (at + length (doubled (b ∷ says)) + 1)
end_step at b says left true e rest = rw e (rest (at + 1 + 1) ∙ ap Some (omega arith))
end_step at b says left false e rest = rw (e, e) (rest (at + 1) ∙ ap Some (omega arith))

-- what is doubled, and then a quote, ends there
pub doubled_ends : (says left : List ℕ) → IsFalse (begins_with 39 left) → (at : ℕ) → quoted_end at (doubled says ++ 39 ∷ left) ≡ Some (at + length (doubled says) + 1)
doubled_ends [] left h at = quote_ends (at + 1) left h ∙ ap Some (omega arith)
doubled_ends (b ∷ says) left h at = end_step at b says left (b == 39) refl (doubled_ends says left h)

says_step : (b : ℕ) (says left : List ℕ) (t : Bool) → (b == 39) ≡ t → contents (doubled says ++ 39 ∷ left) ≡ says → contents (doubled (b ∷ says) ++ 39 ∷ left) ≡ b ∷ says
says_step b says left true e rest =
    let is : b ≡ 39 = eqb-true b 39 e in
    rw is (ap (λ l. 39 ∷ l) rest)
says_step b says left false e rest = rw (e, e) (ap (λ l. b ∷ l) rest)

-- and says it
pub doubled_says : (says left : List ℕ) → IsFalse (begins_with 39 left) → contents (doubled says ++ 39 ∷ left) ≡ says
doubled_says [] left h = quote_says left h
doubled_says (b ∷ says) left h = says_step b says left (b == 39) refl (doubled_says says left h)

-- so a text says what was quoted
pub text_says-quoted : (says : List ℕ) → text_says (quoted says) ≡ says
text_says-quoted says = doubled_says says [] refl

-- what a token says, where it quotes something good
module _ (token says : List ℕ) (spelled : IsSpelled k.Text token) (same : says ≡ text_says token) where
  said : says ≡ spelled.0
  said = same ∙ ap text_says spelled.1 ∙ text_says-quoted spelled.0

  pub is_quoted : token ≡ quoted says
  is_quoted = spelled.1 ∙ ap quoted (sym said)

  pub is_good : IsTrue (is_good_text says)
  is_good = subst (λ l. IsTrue (is_good_text l)) (sym said) spelled.2

-- what is after the first byte
pub behind_first : (token : List ℕ) → contents (take (length token - 1) (drop 1 token)) ≡ text_says token
behind_first [] = refl
behind_first (b ∷ bytes) =
    let e : length (b ∷ bytes) - 1 ≡ length bytes = omega arith in
    ap contents (ap (λ n. take n bytes) e ∙ take-length bytes)

pub text_spelled : (b n : ℕ) (bytes : List ℕ) → (b == 39) ≡ true → quoted_end 1 bytes ≡ Some n → take n (b ∷ bytes) ≡ quoted (contents bytes)
text_spelled b n bytes e h =
    let is : b ≡ 39 = eqb-true b 39 e in
    let ends = quoted_end_spelled 1 bytes n h in
    rw (ends.place, one-add, is) (ap (λ l. 39 ∷ l) ends.spells)

pub text_after : (b n : ℕ) (bytes : List ℕ) → quoted_end 1 bytes ≡ Some n → begins_with 39 (drop n (b ∷ bytes)) ≡ false
text_after b n bytes h =
    let ends = quoted_end_spelled 1 bytes n h in
    rw (ends.place, one-add) ends.after
