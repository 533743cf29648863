-- Numbers, and the limits on tokens.
use Rattle.std.proofs.Common.{◌≡◌, ℕ, ◌+◌, ◌-◌, ◌*◌, ◌^◌, ◌<◌, ◌≤◌, suc, Bool, true, false, cond, List, [], ◌∷◌, ◌++◌, length, take, drop, get_or, refl, sym, ap, ◌∙◌, subst, arith, append-nil, append_assoc, zero-add, drop-cons, length-append, Option, Some, None, count_by, slice_range}
use Rattle.std.specs.Bool.{IsTrue}
use Rattle.std.specs.Char.{is_ascii_digit}
use Rattle.std.specs.List.{list_all}
use Rattle.std.proofs.Math.Nat.{add-sub_cancel_left, mul-le-mul_right, mul_assoc, pow-le-pow_right, pow-succ', pow-zero}
use Rattle.std.proofs.lemmas.Bool.{and_parts}
use Rattle.std.proofs.lemmas.List.{map-append}
use Rattle.std.proofs.lemmas.List.Sums.{sum_by-append, sum_by-cons}
use Rattle.bw_lex.specs.declared.fault.SqlFault.{SqlFault}
use Rattle.bw_lex.specs.declared.fault.SqlFault.TheVariants as faults
use Rattle.bw_lex.specs.declared.piece.Piece.TheVariants as p
use Rattle.bw_lex.specs.declared.token.Token.{Token}
use Rattle.bw_lex.specs.declared.token.TokenKind.{TokenKind}
use Rattle.bw_lex.specs.Pieces.{FitsIn, first_piece}
use Rattle.bw_lex.specs.Spellings.{IsSpelled}
use Rattle.bw_lex.specs.Tokens.{AreTokensFrom, done, token}
use Rattle.bw_lex.proofs.Lexing.{Progress, finished, next_at, over_separator, over_token, spelled_next, start, stopped, token_at}
use Rattle.bw_lex.proofs.Longest.{first_piece_fits, in_range}
use Rattle.bw_sql.specs.declared.terminal.Terminal.{Terminal}
use Rattle.bw_sql.specs.Statements.{AreTerminals, HasBadFirst, IsOverLimit}
use Rattle.bw_sql.specs.Terminals.{depth_fault, ends_in_minus, first_limit_fault, is_close, is_minus, is_open, limit_fault, number_fault, or_else, terminal_of, terminals_of, token_terminal, value_after}

-- a number grows with each digit
pub value_after-ge : (n : ℕ) (digits : List ℕ) → n ≤ value_after n digits
value_after-ge n [] = omega arith
value_after-ge n (d ∷ digits) = let h = value_after-ge (10 * n + (d - 48)) digits in omega (arith, h)

-- a number with this many digits after it is below the power of ten
value_after-lt : (n : ℕ) (digits : List ℕ) → IsTrue (list_all is_ascii_digit digits) → value_after n digits < (n + 1) * 10 ^ length digits
value_after-lt n [] h = rw pow-zero (omega arith)
value_after-lt n (d ∷ digits) h =
    let both = and_parts (is_ascii_digit d) (list_all is_ascii_digit digits) h in
    let digit = in_range 48 57 d both.0 in
    let rest = value_after-lt (10 * n + (d - 48)) digits both.1 in
    let more : (10 * n + (d - 48) + 1) * 10 ^ length digits ≤ ((n + 1) * 10) * 10 ^ length digits = mul-le-mul_right (10 ^ length digits) (omega (arith, digit.1)) in
    let step : (n + 1) * 10 ^ suc (length digits) ≡ ((n + 1) * 10) * 10 ^ length digits = ap (λ x. (n + 1) * x) (pow-succ' 10 (length digits)) ∙ sym (mul_assoc (n + 1) 10 (10 ^ length digits)) in
    rw step (omega (arith, rest, more))

-- 64 bits hold a number of 19 digits
pub few_digits : (digits : List ℕ) → IsTrue (list_all is_ascii_digit digits) → length digits ≤ 19 → value_after 0 digits < 2 ^ 64
few_digits digits h few =
    let power : 10 ^ length digits ≤ 10 ^ 19 = pow-le-pow_right (omega arith) few in
    let below : value_after 0 digits < 1 * 10 ^ length digits = value_after-lt 0 digits h in
    omega (arith, below, power)

-- a number of 19 digits has room for each of them
pub digit_fits : (n i : ℕ) (digits : List ℕ) → value_after n (drop i digits) ≡ value_after 0 digits → i < length digits → IsTrue (list_all is_ascii_digit digits) → length digits ≤ 19 → 10 * n + (get_or digits i 0 - 48) < 2 ^ 64
digit_fits n i digits so_far more h few =
    let rest = value_after-ge (10 * n + (get_or digits i 0 - 48)) (drop (suc i) digits) in
    let same : value_after n (drop i digits) ≡ value_after (10 * n + (get_or digits i 0 - 48)) (drop (suc i) digits) = ap (value_after n) (drop-cons digits i 0 more) in
    omega (arith, rest, same, so_far, few_digits digits h few)

-- one more digit is too much for 64 bits, so the whole number is
pub too_large : (n : ℕ) (rest digits : List ℕ) → 1 ≤ length rest → value_after n rest ≡ value_after 0 digits → (10 * n + (get_or rest 0 0 - 48) < 2 ^ 64 → ⊥) → value_after 0 digits < 2 ^ 64 → ⊥
too_large n [] digits some same over fits = omega arith
too_large n (d ∷ rest) digits some same over fits =
    over (let h = value_after-ge (10 * n + (d - 48)) rest in omega (arith, h, same))

-- with no digit left the number so far is the whole
pub all_read : (n : ℕ) (rest digits : List ℕ) → value_after n rest ≡ value_after 0 digits → length rest < 1 → n < 2 ^ 64 → (value_after 0 digits < 2 ^ 64) × (n ≡ value_after 0 digits)
all_read n [] digits same none fits = (omega (arith, same), same)
all_read n (d ∷ rest) digits same none fits = absurd (omega (arith, none))

one_at_most : (b : Bool) → cond b 1 0 ≤ 1
one_at_most true = omega arith
one_at_most false = omega arith

take_none : {A : Type 0} (xs : List A) → take 0 xs ≡ []
take_none [] = refl
take_none (x ∷ xs) = refl

pub ends_in_minus-push : (before : List Terminal) (x : Terminal) → ends_in_minus (before ++ x ∷ []) ≡ is_minus x
ends_in_minus-push [] x = refl
ends_in_minus-push (y ∷ []) x = refl
ends_in_minus-push (y ∷ z ∷ before) x = ends_in_minus-push (z ∷ before) x

pub count_by-push : {A : Type 0} (p : A → Bool) (xs : List A) (x : A) → count_by p (xs ++ x ∷ []) ≡ count_by p xs + cond (p x) 1 0
count_by-push p xs x = sum_by-append (λ y. cond (p y) 1 0) xs (x ∷ []) ∙ ap (λ n. count_by p xs + n) (zero-add (cond (p x) 1 0))

or_else-assoc : (a b c : Option SqlFault) → or_else (or_else a b) c ≡ or_else a (or_else b c)
or_else-assoc None b c = refl
or_else-assoc (Some f) b c = refl

or_else-none : (a : Option SqlFault) → or_else a None ≡ a
or_else-none None = refl
or_else-none (Some f) = refl

-- the faults of the first, and then of the others
pub first_limit_fault-append : (before xs ys : List Terminal) → first_limit_fault before (xs ++ ys) ≡ or_else (first_limit_fault before xs) (first_limit_fault (before ++ xs) ys)
first_limit_fault-append before [] ys = ap (λ b. first_limit_fault b ys) (sym (append-nil before))
first_limit_fault-append before (x ∷ xs) ys =
    ap (or_else (limit_fault before x)) (first_limit_fault-append (before ++ x ∷ []) xs ys)
    ∙ sym (or_else-assoc (limit_fault before x) (first_limit_fault (before ++ x ∷ []) xs) (first_limit_fault ((before ++ x ∷ []) ++ xs) ys))
    ∙ ap (λ b. or_else (first_limit_fault before (x ∷ xs)) (first_limit_fault b ys)) (append_assoc before (x ∷ []) xs)

-- one more that is within the limits
pub within-push : (xs : List Terminal) (x : Terminal) → first_limit_fault [] xs ≡ None → limit_fault xs x ≡ None → first_limit_fault [] (xs ++ x ∷ []) ≡ None
within-push xs x e f = first_limit_fault-append [] xs (x ∷ []) ∙ rw (e, f) refl

-- one more that is over a limit
pub fault-at : (xs : List Terminal) (x : Terminal) (ys : List Terminal) (fault : SqlFault) → first_limit_fault [] xs ≡ None → limit_fault xs x ≡ Some fault → first_limit_fault [] (xs ++ x ∷ ys) ≡ Some fault
fault-at xs x ys fault e f = first_limit_fault-append [] xs (x ∷ ys) ∙ rw (e, f) refl

-- the text was seen up to this place, and no token is over a limit
pub record Seen (text : List ℕ) (at : ℕ) (items : List Terminal) (opened closed : ℕ) (minus : Bool) : Type 0 where
  pub tokens : List Token
  pub progress : Progress text tokens at
  pub found : items ≡ terminals_of text tokens
  pub within : first_limit_fault [] items ≡ None
  pub few : length items ≤ at
  pub opened_is : opened ≡ count_by is_open items
  pub closed_is : closed ≡ count_by is_close items
  pub minus_is : minus ≡ ends_in_minus items

pub count_by-le : {A : Type 0} (p : A → Bool) (xs : List A) → count_by p xs ≤ length xs
count_by-le p [] = omega arith
count_by-le p (x ∷ xs) = omega (arith, sum_by-cons (λ y. cond (p y) 1 0) x xs, count_by-le p xs, one_at_most (p x))

pub seen_none : (text : List ℕ) (items : List Terminal) → items ≡ [] → Seen text 0 items 0 0 false
seen_none text items e = record { tokens = []; progress = start text; found = e; within = rw e refl; few = rw e (omega arith); opened_is = rw e refl; closed_is = rw e refl; minus_is = rw e refl }

-- the bytes of a token are spelled as it is
pub spelled_at : (text : List ℕ) (at n : ℕ) (kind : TokenKind) → first_piece (drop at text) ≡ p.Token kind n → IsSpelled kind (slice_range text at (at + n))
spelled_at text at n kind first = rw (add-sub_cancel_left at n) (spelled_next kind _ _ (next_at (drop at text) (token kind) n first).next)

module _ (text : List ℕ) (at : ℕ) (items : List Terminal) (opened closed : ℕ) (minus : Bool) (so_far : Seen text at items opened closed minus) where
  pub opened_few : opened ≤ at
  opened_few = omega (arith, so_far.few, so_far.opened_is, count_by-le is_open items)

  pub closed_few : closed ≤ at
  closed_few = omega (arith, so_far.few, so_far.closed_is, count_by-le is_close items)

  pub seen_separator : (n : ℕ) → first_piece (drop at text) ≡ p.Separator n → Seen text (at + n) items opened closed minus
  seen_separator n first = record {
    tokens = so_far.tokens;
    progress = over_separator text so_far.tokens at n so_far.progress first;
    found = so_far.found;
    within = so_far.within;
    few = omega (arith, so_far.few);
    opened_is = so_far.opened_is;
    closed_is = so_far.closed_is;
    minus_is = so_far.minus_is;
  }

  pub seen_all : length text ≤ at → AreTerminals text items
  seen_all over = record { tokens = so_far.tokens; are_tokens = finished text so_far.tokens at so_far.progress over; seen = so_far.found; within_limits = so_far.within }

  pub bad_first : at < length text → first_piece (drop at text) ≡ p.Bad → HasBadFirst text
  bad_first some bad = (so_far.tokens, stopped text so_far.tokens at so_far.progress some bad, rw so_far.found at so_far.within)

  module _ (kind : TokenKind) (n : ℕ) (first : first_piece (drop at text) ≡ p.Token kind n) where
    abbrev here : Terminal
    here = terminal_of kind (slice_range text at (at + n))

    -- the fault of the next one, from what was kept
    next_fault : (x : Terminal) → limit_fault items x ≡ or_else (number_fault (cond minus (2 ^ 63) (2 ^ 63 - 1)) x) (depth_fault opened closed x)
    next_fault x = rw (so_far.opened_is, so_far.closed_is, so_far.minus_is) refl

    seen_tokens : terminals_of text (so_far.tokens ++ token_at kind at n ∷ []) ≡ items ++ here ∷ []
    seen_tokens = map-append (token_terminal text) so_far.tokens (token_at kind at n ∷ []) ∙ ap (λ l. l ++ here ∷ []) (sym so_far.found)

    some : 0 < n
    some = (subst (λ x. FitsIn x (drop at text)) first (first_piece_fits (drop at text))).0

    pub seen_next : (x : Terminal) (new_items : List Terminal) (new_opened new_closed : ℕ) (new_minus : Bool) → x ≡ here → number_fault (cond minus (2 ^ 63) (2 ^ 63 - 1)) x ≡ None → depth_fault opened closed x ≡ None → new_items ≡ items ++ x ∷ [] → new_opened ≡ opened + cond (is_open x) 1 0 → new_closed ≡ closed + cond (is_close x) 1 0 → new_minus ≡ is_minus x → Seen text (at + n) new_items new_opened new_closed new_minus
    seen_next x new_items new_opened new_closed new_minus is fits shallow e o c m = record {
      tokens = so_far.tokens ++ token_at kind at n ∷ [];
      progress = over_token text so_far.tokens at n so_far.progress kind first;
      found = e ∙ ap (λ y. items ++ y ∷ []) is ∙ sym seen_tokens;
      within = rw e (within-push items x so_far.within (next_fault x ∙ rw (fits, shallow) refl));
      few = omega (arith, some, so_far.few, ap length e, length-append items (x ∷ []));
      opened_is = o ∙ rw (e, count_by-push is_open items x) (ap (λ k. k + cond (is_open x) 1 0) so_far.opened_is);
      closed_is = c ∙ rw (e, count_by-push is_close items x) (ap (λ k. k + cond (is_close x) 1 0) so_far.closed_is);
      minus_is = m ∙ rw e (sym (ends_in_minus-push items x));
    }

    seen_fault : (x : Terminal) (fault : SqlFault) → x ≡ here → or_else (number_fault (cond minus (2 ^ 63) (2 ^ 63 - 1)) x) (depth_fault opened closed x) ≡ Some fault → IsOverLimit fault text
    seen_fault x fault is f = (
      so_far.tokens ++ token_at kind at n ∷ [],
      drop (at + n) text,
      subst (AreTokensFrom 0 text (drop (at + n) text)) (append-nil (so_far.tokens ++ token_at kind at n ∷ []))
          ((over_token text so_far.tokens at n so_far.progress kind first).goes_on (drop (at + n) text) [] (done refl)),
      rw seen_tokens (fault-at items here [] fault so_far.within (rw (← is) (next_fault x ∙ f))),
    )

    pub seen_big_number : number_fault (cond minus (2 ^ 63) (2 ^ 63 - 1)) here ≡ Some faults.BigNumber → IsOverLimit faults.BigNumber text
    seen_big_number big = seen_fault here faults.BigNumber refl (rw big refl)

    pub seen_too_deep : (x : Terminal) → x ≡ here → number_fault (cond minus (2 ^ 63) (2 ^ 63 - 1)) x ≡ None → depth_fault opened closed x ≡ Some faults.TooDeep → IsOverLimit faults.TooDeep text
    seen_too_deep x is fits deep = seen_fault x faults.TooDeep is (rw (fits, deep) refl)
