-- Stretches of bytes without a cut.
use Rattle.std.proofs.Common.{◌≡◌, ℕ, suc, ◌+◌, ◌-◌, ◌<◌, ◌≤◌, Bool, true, false, ◌&&◌, ◌||◌, ◌==◌, not, cond, List, [], ◌∷◌, length, take, drop, slice_index, Option, Some, None, refl, sym, ap, ◌∙◌, subst, arith, inl, inr, eqb-true}
use Rattle.std.specs.List.{list_all, prefix_len}
use Rattle.std.proofs.Math.Bool.{and-true}
use Rattle.std.proofs.Math.Numerals.{one-add}
use Rattle.std.proofs.Math.Seq.{drop-cons, take-add}
use Rattle.std.proofs.lemmas.Bool.{and_from, and_parts, cases_order, false≢true, ne_eqb, not-true, or_cases}
use Rattle.std.proofs.lemmas.List.{drop_all, length-drop, take_all}
use Rattle.std.proofs.lemmas.List.Sums.{prefix_len-le-length, prefix_len_passes, prefix_len_stops}
use Rattle.std.specs.Option.{unwrap_or}
use Rattle.memchr.specs.Find.{IsFirstByte, is_byte}
use Rattle.bw_lex.proofs.Prefixes.{all_prefix}
use Rattle.bw_lex.specs.Spellings.{is_blank}
use Rattle.bw_split.specs.declared.progress.LexicalState.{LexicalState}
use Rattle.bw_split.specs.declared.progress.LexicalState.TheVariants.{Outside, Comment, Text}
use Rattle.bw_split.specs.declared.progress.Progress.{Progress}
use Rattle.bw_split.specs.declared.stretch.Stretch.{Stretch}
use Rattle.bw_split.specs.Splitting.{is_cut, progress_from, step}
use Rattle.bw_split.specs.Stretches.{IsStretch, StopsBefore, has_no_cut}
use Rattle.bw_split.proofs.Progresses.{no_cut-append, progress-append}

-- where the first byte that fails the test lies
prefix_is : (p : ℕ → Bool) (xs : List ℕ) (n : ℕ) → n ≤ length xs → ((k : ℕ) → k < n → p (slice_index xs k) ≡ true) → (n < length xs → p (slice_index xs n) ≡ false) → prefix_len p xs ≡ n
prefix_is p xs n within passes fails =
    let most = prefix_len-le-length p xs in
    elim (cases_order (prefix_len p xs) n) [
      | inl same ↦ same
      | inr (inl below) ↦ absurd (false≢true (sym (prefix_len_stops p xs 0 (omega arith)) ∙ passes (prefix_len p xs) below))
      | inr (inr above) ↦ absurd (false≢true (sym (fails (omega arith)) ∙ prefix_len_passes p xs n 0 above))
    ]

is_not : (b byte : ℕ) (t : Bool) → (b == byte) ≡ t → ((b == byte) ≡ true → ⊥) → not (b == byte) ≡ true
is_not b byte true e never = absurd (never e)
is_not b byte false e never = rw e refl

pub first_len : (byte : ℕ) (xs : List ℕ) (r : Option ℕ) (n : ℕ) → IsFirstByte (is_byte byte) xs r → n ≡ unwrap_or r (length xs) → n ≡ prefix_len (λ b. not (b == byte)) xs
first_len byte xs None n h e =
    e ∙ sym (prefix_is (λ b. not (b == byte)) xs (length xs) (omega arith) (λ k l. is_not (slice_index xs k) byte _ refl (h k (omega arith) l)) (λ l. absurd (omega arith)))
first_len byte xs (Some k) n h e =
    e ∙ sym (prefix_is (λ b. not (b == byte)) xs k (omega (arith, h.0.high)) (λ i l. is_not (slice_index xs i) byte _ refl (h.0.before i (omega arith) l)) (λ l. ap not h.1))

-- bytes that pass a test and leave the progress as it is
pub record Steady (p : Progress) (bytes : List ℕ) : Type 0 where
  pub uncut : has_no_cut p bytes ≡ true
  pub stays : progress_from p bytes ≡ p

module _ (p : Progress) (q : ℕ → Bool) (uncut : (b : ℕ) → q b ≡ true → is_cut p.state b ≡ false) (stays : (b : ℕ) → q b ≡ true → step p b ≡ p) where
  steady : (bytes : List ℕ) → list_all q bytes ≡ true → Steady p bytes
  steady [] h = record { uncut = refl; stays = refl }
  steady (b ∷ bytes) h =
      let both = and_parts (q b) (list_all q bytes) h in
      let rest = steady bytes both.1 in
      record {
        uncut = and_from _ _ (ap not (uncut b both.0)) (ap (λ r. has_no_cut r bytes) (stays b both.0) ∙ rest.uncut);
        stays = ap (λ r. progress_from r bytes) (stays b both.0) ∙ rest.stays;
      }

  pub run : (bytes : List ℕ) → IsStretch p bytes (record { len = prefix_len q bytes; progress = p })
  run bytes =
      let s = steady (take (prefix_len q bytes) bytes) (all_prefix q bytes) in
      record { within = prefix_len-le-length q bytes; uncut = s.uncut; ends = sym s.stays }

abbrev pub at : LexicalState → Bool → Progress
at state blank = record { state = state; is_blank = blank }

no_stretch : (p : Progress) (bytes : List ℕ) → IsStretch p bytes (record { len = 0; progress = p })
no_stretch p bytes = record { within = omega arith; uncut = refl; ends = refl }

-- after a quote

text_cut : (b : ℕ) → not (b == 39) ≡ true → is_cut Text b ≡ false
text_cut b h = refl

text_stays : (b : ℕ) → not (b == 39) ≡ true → step (at Text false) b ≡ at Text false
text_stays b h = rw (not-true (b == 39) h) refl

text_more : (b n : ℕ) (bytes : List ℕ) → (b == 39) ≡ false → n ≡ prefix_len (λ c. not (c == 39)) bytes → IsStretch (at Text true) (b ∷ bytes) (record { len = suc n; progress = at Text false })
text_more b n bytes e same =
    let s = steady (at Text false) (λ c. not (c == 39)) text_cut text_stays (take (prefix_len (λ c. not (c == 39)) bytes) bytes) (all_prefix (λ c. not (c == 39)) bytes) in
    let first : step (at Text true) b ≡ at Text false = rw e refl in
    record {
      within = omega (arith, prefix_len-le-length (λ c. not (c == 39)) bytes, same);
      uncut = ap (λ r. has_no_cut r (take n bytes)) first ∙ ap (λ k. has_no_cut (at Text false) (take k bytes)) same ∙ s.uncut;
      ends = sym (ap (λ r. progress_from r (take n bytes)) first ∙ ap (λ k. progress_from (at Text false) (take k bytes)) same ∙ s.stays);
    }

text_first : (b : ℕ) (bytes : List ℕ) (t : Bool) → (b == 39) ≡ t → IsStretch (at Text true) (b ∷ bytes) (record { len = cond (not t) (1 + prefix_len (λ c. not (c == 39)) bytes) 0; progress = at Text (cond (not t) (1 + prefix_len (λ c. not (c == 39)) bytes) 0 == 0) })
text_first b bytes true e = no_stretch (at Text true) (b ∷ bytes)
text_first b bytes false e =
    let n = prefix_len (λ c. not (c == 39)) bytes in
    let some : (suc n == 0) ≡ false = ne_eqb (suc n) 0 (λ (z : suc n ≡ 0). omega (arith, z)) in
    rw (one-add, some) (text_more b n bytes e refl)

text_run : (blank : Bool) (bytes : List ℕ) → IsStretch (at Text blank) bytes (record { len = prefix_len (λ c. not (c == 39)) bytes; progress = at Text (blank && (prefix_len (λ c. not (c == 39)) bytes == 0)) })
text_run false bytes = run (at Text false) (λ c. not (c == 39)) text_cut text_stays bytes
text_run true [] = no_stretch (at Text true) []
text_run true (b ∷ bytes) = text_first b bytes (b == 39) refl

pub in_text : (state : LexicalState) (blank after : Bool) (bytes : List ℕ) (n : ℕ) → state ≡ Text → n ≡ prefix_len (λ c. not (c == 39)) bytes → after ≡ (blank && (n == 0)) → IsStretch (at state blank) bytes (record { len = n; progress = at Text after })
in_text state blank after bytes n e same is = rw (e, is, same) (text_run blank bytes)

-- in a comment

comment_stays : (blank : Bool) (b : ℕ) → not (b == 10) ≡ true → step (at Comment blank) b ≡ at Comment blank
comment_stays blank b h = rw (not-true (b == 10) h, and-true blank) refl

pub in_comment : (state : LexicalState) (blank : Bool) (bytes : List ℕ) (n : ℕ) → state ≡ Comment → n ≡ prefix_len (λ c. not (c == 10)) bytes → IsStretch (at state blank) bytes (record { len = n; progress = at state blank })
in_comment state blank bytes n e same = rw (e, same) (run (at Comment blank) (λ c. not (c == 10)) (λ b h. refl) (comment_stays blank) bytes)

-- outside both

pub not_blank : (blank : Bool) → not blank ≡ true → blank ≡ false
not_blank = not-true

pub outside : (state : LexicalState) (blank : Bool) (bytes : List ℕ) (stretch : Stretch) → state ≡ Outside → blank ≡ false → IsStretch (at Outside false) bytes stretch → IsStretch (at state blank) bytes stretch
outside state blank bytes stretch e says w = rw (e, says) w

-- a blank is one of four bytes
blank_case : (P : ℕ → Type 0) → P 9 → P 10 → P 13 → P 32 → (b : ℕ) → is_blank b ≡ true → P b
blank_case P tab newline return space b h =
    elim (or_cases ((b == 9 || b == 10) || b == 13) (b == 32) h) [
      | inl f ↦ elim (or_cases (b == 9 || b == 10) (b == 13) f) [
        | inl g ↦ elim (or_cases (b == 9) (b == 10) g) [
          | inl e ↦ subst P (sym (eqb-true b 9 e)) tab
          | inr e ↦ subst P (sym (eqb-true b 10 e)) newline
        ]
        | inr e ↦ subst P (sym (eqb-true b 13 e)) return
      ]
      | inr e ↦ subst P (sym (eqb-true b 32 e)) space
    ]

blank_uncut : (b : ℕ) → is_blank b ≡ true → is_cut Outside b ≡ false
blank_uncut = blank_case (λ b. is_cut Outside b ≡ false) refl refl refl refl

blank_stays : (b : ℕ) → is_blank b ≡ true → step (at Outside true) b ≡ at Outside true
blank_stays = blank_case (λ b. step (at Outside true) b ≡ at Outside true) refl refl refl refl

pub in_blanks : (state : LexicalState) (blank : Bool) (bytes : List ℕ) (n : ℕ) → state ≡ Outside → blank ≡ true → n ≡ prefix_len is_blank bytes → IsStretch (at state blank) bytes (record { len = n; progress = at state blank })
in_blanks state blank bytes n e says same = rw (e, says, same) (run (at Outside true) is_blank blank_uncut blank_stays bytes)

-- one stretch, and then another
pub join : (p q r : Progress) (bytes : List ℕ) (m n : ℕ) → IsStretch p bytes (record { len = m; progress = q }) → IsStretch q (drop m bytes) (record { len = n; progress = r }) → IsStretch p bytes (record { len = m + n; progress = r })
join p q r bytes m n a b =
    record {
      within = omega (arith, a.within, b.within, length-drop m bytes);
      uncut = ap (has_no_cut p) (take-add m n bytes) ∙ no_cut-append p (take m bytes) (take n (drop m bytes))
          ∙ and_from _ _ a.uncut (ap (λ s. has_no_cut s (take n (drop m bytes))) (sym a.ends) ∙ b.uncut);
      ends = b.ends ∙ ap (λ s. progress_from s (take n (drop m bytes))) a.ends ∙ sym (progress-append p (take m bytes) (take n (drop m bytes))) ∙ ap (progress_from p) (sym (take-add m n bytes));
    }

one_byte : (q : Progress) (b : ℕ) (rest : List ℕ) → is_cut q.state b ≡ false → IsStretch q (b ∷ rest) (record { len = 1; progress = step q b })
one_byte q b rest e = record { within = omega arith; uncut = rw e refl; ends = refl }

-- one byte more, which is no cut
pub further : (p q : Progress) (bytes : List ℕ) (m : ℕ) → IsStretch p bytes (record { len = m; progress = q }) → m < length bytes → is_cut q.state (slice_index bytes m) ≡ false → IsStretch p bytes (record { len = m + 1; progress = step q (slice_index bytes m) })
further p q bytes m a some e =
    join p q _ bytes m 1 a (subst (λ l. IsStretch q l (record { len = 1; progress = step q (slice_index bytes m) })) (sym (drop-cons bytes m 0 some)) (one_byte q (slice_index bytes m) _ e))

-- where it stops
pub at_cut : (q : Progress) (bytes : List ℕ) (m : ℕ) → m < length bytes → is_cut q.state (slice_index bytes m) ≡ true → StopsBefore q (drop m bytes)
at_cut q bytes m some e = subst (StopsBefore q) (sym (drop-cons bytes m 0 some)) e

pub at_end : (q : Progress) (bytes : List ℕ) (m : ℕ) → length bytes ≤ m → StopsBefore q (drop m bytes)
at_end q bytes m over = subst (StopsBefore q) (sym (drop_all m bytes over)) tt

-- the bytes from an index on, as the code cuts them
pub rest_is : (bytes : List ℕ) (i : ℕ) → take (length bytes - i) (drop i bytes) ≡ drop i bytes
rest_is bytes i = take_all (length bytes - i) (drop i bytes) (omega (arith, length-drop i bytes))

pub join_rest : (p q : Progress) (bytes : List ℕ) (m : ℕ) (more : Stretch) → IsStretch p bytes (record { len = m; progress = q }) → IsStretch q (take (length bytes - m) (drop m bytes)) more → IsStretch p bytes (record { len = m + more.len; progress = more.progress })
join_rest p q bytes m more a b = join p q more.progress bytes m more.len a (subst (λ l. IsStretch q l more) (rest_is bytes m) b)

-- what a comment and a text say
pub comment_steady : (blank : Bool) (says : List ℕ) → list_all (λ b. not (b == 10)) says ≡ true → Steady (at Comment blank) says
comment_steady blank says h = steady (at Comment blank) (λ b. not (b == 10)) (λ b e. refl) (comment_stays blank) says h

pub text_steady : (says : List ℕ) → list_all (λ b. not (b == 39)) says ≡ true → Steady (at Text false) says
text_steady says h = steady (at Text false) (λ b. not (b == 39)) text_cut text_stays says h
