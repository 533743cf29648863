-- The front of a script, in pieces.
use Rattle.std.proofs.Common.{◌≡◌, ℕ, ◌+◌, ◌-◌, ◌<◌, Bool, true, false, ◌&&◌, ◌==◌, not, cond, List, [], ◌∷◌, ◌++◌, length, map, take, drop, Option, Some, None, refl, sym, ap, ◌∙◌, subst, arith, inl, inr, eqb-true, append_assoc, length-append, length-drop, drop-drop, nat_lt, ltb-true, ltb-false, ◌⊎◌}
use Rattle.std.specs.List.{prefix_len}
use Rattle.std.specs.Bool.{IsTrue}
use Rattle.std.proofs.Math.Numerals.{one-add}
use Rattle.std.proofs.Math.Seq.{drop-append_seam}
use Rattle.std.proofs.lemmas.Bool.{and_parts, cond_both, eqb-false, not-true}
use Rattle.std.proofs.lemmas.List.{drop_all, take-append-drop, take_all}
use Rattle.std.proofs.lemmas.List.Folds.{length-prefix_len, list_all-append, list_all-map}
use Rattle.std.proofs.lemmas.List.Sums.{prefix_len-le-length}
use Rattle.bw_lex.specs.declared.script.Front.{Front}
use Rattle.bw_lex.specs.Fronts.{EndsRun, IsFront, first_front, front, is_plain, plain_front, plain_len, says_len, text_len}
use Rattle.bw_lex.specs.Parts.{IsRun, Piece, StandsBefore, bytes_of, comment, is_blank_piece, open_text, other, text}
use Rattle.bw_lex.specs.Pieces.{comment_len}
use Rattle.bw_lex.specs.Spellings.{begins_with}
use Rattle.bw_lex.proofs.Prefixes.{all_prefix, starts}

run_append : (a b : List Piece) (script mid rest : List ℕ) → IsRun a script mid → IsRun b mid rest → IsRun (a ++ b) script rest
run_append [] b script mid rest x y = subst (λ s. IsRun b s rest) (sym x) y
run_append (piece ∷ a) b script mid rest x y = (x.0, x.1, x.2, run_append a b x.0 mid rest x.3 y)

pub no_front : (script : List ℕ) → IsFront script (front 0 true)
no_front [] = record { pieces = []; run = refl; within = omega arith; blank = refl }
no_front (b ∷ script) = record { pieces = []; run = refl; within = omega arith; blank = refl }

-- a front, and then another
pub join : (script : List ℕ) (m n : ℕ) (x y : Bool) → IsFront script (front m x) → IsFront (drop m script) (front n y) → IsFront script (front (m + n) (x && y))
join script m n x y f g =
    record {
      pieces = f.pieces ++ g.pieces;
      run = run_append f.pieces g.pieces script (drop m script) (drop (m + n) script) f.run (subst (IsRun g.pieces (drop m script)) (drop-drop n m script) g.run);
      within = omega (arith, f.within, g.within, length-drop m script);
      blank = rw (f.blank, g.blank) (sym (list_all-append is_blank_piece f.pieces g.pieces));
    }

and_true : (b : Bool) → b ≡ b && true
and_true true = refl
and_true false = refl

one_piece : (piece : Piece) (script left : List ℕ) (n : ℕ) → script ≡ bytes_of piece ++ left → n ≡ length (bytes_of piece) → StandsBefore left piece → IsFront script (front n (is_blank_piece piece))
one_piece piece script left n is size stands =
    record {
      pieces = piece ∷ [];
      run = (left, is, stands, rw (size, is) (sym (drop-append_seam (bytes_of piece) left)));
      within = omega (arith, ap length is, length-append (bytes_of piece) left, size);
      blank = and_true (is_blank_piece piece);
    }

-- what follows a front without a byte begins with that byte
after_step : (c x : ℕ) (xs : List ℕ) (t : Bool) → (x == c) ≡ t → (drop (prefix_len (λ b. not (b == c)) xs) xs ≡ []) ⊎ IsTrue (begins_with c (drop (prefix_len (λ b. not (b == c)) xs) xs)) → (drop (cond (not t) (1 + prefix_len (λ b. not (b == c)) xs) 0) (x ∷ xs) ≡ []) ⊎ IsTrue (begins_with c (drop (cond (not t) (1 + prefix_len (λ b. not (b == c)) xs) 0) (x ∷ xs)))
after_step c x xs true e rest = inr e
after_step c x xs false e rest = rw one-add rest

after_prefix : (c : ℕ) (xs : List ℕ) → (drop (prefix_len (λ b. not (b == c)) xs) xs ≡ []) ⊎ IsTrue (begins_with c (drop (prefix_len (λ b. not (b == c)) xs) xs))
after_prefix c [] = inl refl
after_prefix c (x ∷ xs) = after_step c x xs (x == c) refl (after_prefix c xs)

-- the first byte, and what is left
pub head_is : (c : ℕ) (xs : List ℕ) → IsTrue (begins_with c xs) → (left : List ℕ) × (xs ≡ c ∷ left)
head_is c [] h = cc
head_is c (x ∷ xs) h = (xs, ap (λ b. b ∷ xs) (eqb-true x c h))

closed_front : (after : List ℕ) → says_len after < length after → (left : List ℕ) × (drop (says_len after) after ≡ 39 ∷ left)
closed_front after some =
    elim (after_prefix 39 after) [
      | inl e ↦ absurd (omega (arith, ap length e, length-drop (says_len after) after))
      | inr e ↦ head_is 39 (drop (says_len after) after) e
    ]

text_front : (after : List ℕ) → IsFront (39 ∷ after) (front (text_len after) false)
text_front after =
    let n = says_len after in
    let says = take n after in
    let size : length says ≡ n = length-prefix_len (λ b. not (b == 39)) after in
    let whole : says ++ drop n after ≡ after = take-append-drop n after in
    cond_both (nat_lt n (length after)) (n + 2) (n + 1) (λ k. IsFront (39 ∷ after) (front k false))
    (λ e.
    let left = closed_front after (ltb-true n (length after) e) in
    one_piece (text says) (39 ∷ after) left.0 (n + 2)
    (ap (λ l. 39 ∷ l) (sym whole ∙ ap (λ l. says ++ l) left.1 ∙ sym (append_assoc says (39 ∷ []) left.0)))
    (omega (arith, length-append says (39 ∷ []), size))
    (all_prefix (λ b. not (b == 39)) after))
    (λ e.
    let none : drop n after ≡ [] = drop_all n after (ltb-false n (length after) e) in
    one_piece (open_text says) (39 ∷ after) [] (n + 1)
    (ap (λ l. 39 ∷ l) (sym whole ∙ ap (λ l. says ++ l) none))
    (omega (arith, size))
    (all_prefix (λ b. not (b == 39)) after, refl))

comment_front : (bytes : List ℕ) → IsFront (45 ∷ 45 ∷ bytes) (front (comment_len (45 ∷ 45 ∷ bytes)) true)
comment_front bytes =
    let n = prefix_len (λ b. not (b == 10)) bytes in
    one_piece (comment (take n bytes)) (45 ∷ 45 ∷ bytes) (drop n bytes) (comment_len (45 ∷ 45 ∷ bytes))
    (ap (λ l. 45 ∷ 45 ∷ l) (sym (take-append-drop n bytes)))
    (omega (arith, length-prefix_len (λ b. not (b == 10)) bytes))
    (all_prefix (λ b. not (b == 10)) bytes, after_prefix 10 bytes)

minus_front : (bytes : List ℕ) → begins_with 45 bytes ≡ false → IsFront (45 ∷ bytes) (front 1 false)
minus_front bytes e = one_piece (other 45) (45 ∷ bytes) bytes 1 refl refl ((λ h. cc), (λ h. cc), (λ h. e))

dash_front : (bytes : List ℕ) (t : Bool) → begins_with 45 bytes ≡ t → IsFront (45 ∷ bytes) (cond t (front (comment_len (45 ∷ bytes)) true) (front 1 false))
dash_front bytes false e = minus_front bytes e
dash_front bytes true e =
    let left = head_is 45 bytes e in
    subst (λ l. IsFront (45 ∷ l) (front (comment_len (45 ∷ l)) true)) (sym left.1) (comment_front left.0)

plain_stands : (b : ℕ) (left : List ℕ) → is_plain b ≡ true → StandsBefore left (other b)
plain_stands b left e =
    let ends = and_parts (not (b == 39) && not (b == 59)) (not (b == 45)) e in
    let both = and_parts (not (b == 39)) (not (b == 59)) ends.0 in
    (eqb-false b 39 (not-true _ both.0), eqb-false b 59 (not-true _ both.1), (λ h. absurd (eqb-false b 45 (not-true _ ends.1) h)))

plain_step : (x : ℕ) (xs : List ℕ) (t : Bool) → is_plain x ≡ t → IsRun (map other (take (plain_len xs) xs)) xs (drop (plain_len xs) xs) → IsRun (map other (take (cond t (1 + plain_len xs) 0) (x ∷ xs))) (x ∷ xs) (drop (cond t (1 + plain_len xs) 0) (x ∷ xs))
plain_step x xs true e rest = rw one-add (xs, refl, plain_stands x xs e, rest)
plain_step x xs false e rest = refl

plain_run : (xs : List ℕ) → IsRun (map other (take (plain_len xs) xs)) xs (drop (plain_len xs) xs)
plain_run [] = refl
plain_run (x ∷ xs) = plain_step x xs (is_plain x) refl (plain_run xs)

plain_is_front : (bytes : List ℕ) → IsFront bytes (plain_front bytes)
plain_is_front bytes =
    record {
      pieces = map other (take (plain_len bytes) bytes);
      run = plain_run bytes;
      within = prefix_len-le-length is_plain bytes;
      blank = sym (list_all-map is_blank_piece other (take (plain_len bytes) bytes));
    }

-- a front with a byte, or none where there is a cut or the end
pub record IsFirst (script : List ℕ) (f : Front) : Type 0 where
  pub is : IsFront script f
  pub some : 0 < f.len

abbrev pub Finds : List ℕ → Option Front → Type 0
Finds script None = EndsRun script
Finds script (Some f) = IsFirst script f

text_len_some : (after : List ℕ) → 0 < text_len after
text_len_some after = cond_both (nat_lt (says_len after) (length after)) (says_len after + 2) (says_len after + 1) (λ k. 0 < k) (λ _. omega arith) (λ _. omega arith)

dash_some : (bytes : List ℕ) (t : Bool) → 0 < (cond t (front (comment_len (45 ∷ bytes)) true) (front 1 false)).len
dash_some bytes true = omega arith
dash_some bytes false = omega arith

is_plain_from : (b : ℕ) → (b == 59) ≡ false → (b == 39) ≡ false → (b == 45) ≡ false → is_plain b ≡ true
is_plain_from b x y z = rw (x, y, z) refl

pub found : (script : List ℕ) → Finds script (first_front script)
found [] = inl refl
found (b ∷ bytes) =
    let F = Finds (b ∷ bytes) in
    cond_both (b == 59) _ _ F (λ e. inr e) (λ not_cut.
    cond_both (b == 39) _ _ F (λ e. record { is = subst (λ x. IsFront (x ∷ bytes) (front (text_len bytes) false)) (sym (eqb-true b 39 e)) (text_front bytes); some = text_len_some bytes }) (λ not_text.
    cond_both (b == 45) _ _ F (λ e. subst (λ x. IsFirst (x ∷ bytes) (cond (begins_with 45 bytes) (front (comment_len (x ∷ bytes)) true) (front 1 false))) (sym (eqb-true b 45 e)) (record { is = dash_front bytes (begins_with 45 bytes) refl; some = dash_some bytes (begins_with 45 bytes) }))
    (λ not_dash. record { is = plain_is_front (b ∷ bytes); some = starts is_plain b bytes (is_plain_from b not_cut not_text not_dash) })))

pub found_some : (script : List ℕ) (f : Front) → first_front script ≡ Some f → IsFirst script f
found_some script f e = subst (Finds script) e (found script)

pub found_none : (script : List ℕ) → first_front script ≡ None → EndsRun script
found_none script e = subst (Finds script) e (found script)

-- the front so far, and then the first front of what is left, as the code cuts it
pub onward : (script : List ℕ) (at : ℕ) (x : Bool) (f : Front) → IsFront script (front at x) → first_front (take (length script - at) (drop at script)) ≡ Some f → IsFront script (front (at + f.len) (x && f.is_blank))
onward script at x f before e =
    join script at f.len x f.is_blank before (found_some (drop at script) f (ap first_front (sym (take_all (length script - at) (drop at script) (omega (arith, length-drop at script)))) ∙ e)).is

pub at_end : (script : List ℕ) (at : ℕ) → first_front (take (length script - at) (drop at script)) ≡ None → EndsRun (drop at script)
at_end script at e = found_none (drop at script) (ap first_front (sym (take_all (length script - at) (drop at script) (omega (arith, length-drop at script)))) ∙ e)

pub some_onward : (script : List ℕ) (at : ℕ) (f : Front) → first_front (take (length script - at) (drop at script)) ≡ Some f → 0 < f.len
some_onward script at f e = (found_some (take (length script - at) (drop at script)) f e).some

pub second_of : (script : List ℕ) (n : ℕ) (x y : Bool) → IsFront script (front n (x && y)) → x ≡ true → IsFront script (front n y)
second_of script n true y f e = f
second_of script n false y f e = cc

pub first_of_both : (script : List ℕ) (n : ℕ) (x y : Bool) → IsFront script (front n (x && y)) → x ≡ false → IsFront script (front n x)
first_of_both script n true y f e = cc
first_of_both script n false y f e = f
