-- A script is split in one way only.
use Rattle.std.proofs.Common.{◌≡◌, ℕ, ◌+◌, Bool, true, false, ◌&&◌, ◌==◌, not, List, [], ◌∷◌, ◌++◌, length, take, drop, if◌then◌else◌, refl, sym, ap, ◌∙◌, subst, inl, inr, append_assoc, append-nil, ◌⊎◌}
use Rattle.std.specs.List.{prefix_len}
use Rattle.std.specs.Bool.{IsTrue}
use Rattle.std.proofs.Math.Numerals.{one-add}
use Rattle.std.proofs.Math.Seq.{drop-append_seam, take-append_seam}
use Rattle.std.proofs.lemmas.Bool.{and_parts, eqb-true, ne_eqb}
use Rattle.bw_lex.specs.declared.script.Part.{Part}
use Rattle.bw_lex.specs.Fronts.{EndsRun}
use Rattle.bw_lex.specs.Spellings.{begins_with, has_no}
use Rattle.bw_lex.specs.Parts.{ArePartsFrom, IsJoined, IsRun, Piece, StandsBefore, bytes_of, comment, cut, last, open_text, other, run_bytes, run_len, text, with_part}

text_next : List ℕ → List ℕ → Piece × List ℕ
text_next says [] = (open_text says, [])
text_next says (x ∷ left) = (text says, left)

free_len : ℕ → List ℕ → ℕ
free_len c bytes = prefix_len (λ b. not (b == c)) bytes

comment_next : List ℕ → Piece × List ℕ
comment_next [] = (comment [], [])
comment_next (b ∷ bytes) = (comment (take (free_len 10 bytes) bytes), drop (free_len 10 bytes) bytes)

-- the piece that begins with these bytes, and what follows it
next_from : ℕ → List ℕ → Piece × List ℕ
next_from b bytes =
    if b == 39 then text_next (take (free_len 39 bytes) bytes) (drop (free_len 39 bytes) bytes)
    else (if b == 45 && begins_with 45 bytes then comment_next bytes
    else (other b, bytes))

next : List ℕ → Piece × List ℕ
next [] = (other 0, [])
next (b ∷ bytes) = next_from b bytes

free_step : (c x : ℕ) (says left : List ℕ) → not (x == c) ≡ true → free_len c (says ++ left) ≡ length says → free_len c (x ∷ says ++ left) ≡ length (x ∷ says)
unfolding free_len
free_step c x says left e rest = rw (e, rest, one-add) refl

free_end : (c : ℕ) (left : List ℕ) → (left ≡ []) ⊎ IsTrue (begins_with c left) → free_len c left ≡ 0
unfolding free_len
free_end c [] h = refl
free_end c (x ∷ left) (inl e) = cc
free_end c (x ∷ left) (inr e) = rw e refl

-- bytes without this one, up to it or the end
free_is : (c : ℕ) (says left : List ℕ) → IsTrue (has_no c says) → (left ≡ []) ⊎ IsTrue (begins_with c left) → free_len c (says ++ left) ≡ length says
free_is c [] left h e = free_end c left e
free_is c (x ∷ says) left h e =
    let both = and_parts (not (x == c)) (has_no c says) h in
    free_step c x says left both.0 (free_is c says left both.1 e)

other_next : (b : ℕ) (left : List ℕ) (t : Bool) → (b == 45) ≡ t → StandsBefore left (other b) → next (b ∷ left) ≡ (other b, left)
unfolding next next_from
other_next b left true e h =
    let no_quote : (b == 39) ≡ false = ne_eqb b 39 h.0 in
    let no_dash : begins_with 45 left ≡ false = h.2 (eqb-true b 45 e) in
    rw (no_quote, no_dash, e) refl
other_next b left false e h =
    let no_quote : (b == 39) ≡ false = ne_eqb b 39 h.0 in
    rw (no_quote, e) refl

next_is : (piece : Piece) (left : List ℕ) → StandsBefore left piece → next (bytes_of piece ++ left) ≡ (piece, left)
unfolding next next_from text_next comment_next
next_is (comment says) left h =
    let n = free_is 10 says left h.0 h.1 in
    rw (n, take-append_seam says left, drop-append_seam says left) refl
next_is (text says) left h =
    let n = free_is 39 says (39 ∷ left) h (inr refl) in
    rw (append_assoc says (39 ∷ []) left, n, take-append_seam says (39 ∷ left), drop-append_seam says (39 ∷ left)) refl
next_is (open_text says) left h =
    let n = free_is 39 says left h.0 (inl h.1) in
    rw (n, take-append_seam says left, drop-append_seam says left, h.1) refl
next_is (other b) left h = other_next b left (b == 45) refl h

-- a piece is neither the end nor a cut
no_end : (piece : Piece) (left : List ℕ) → StandsBefore left piece → EndsRun (bytes_of piece ++ left) → ⊥
no_end (comment says) left h (inl e) = cc
no_end (comment says) left h (inr e) = cc
no_end (text says) left h (inl e) = cc
no_end (text says) left h (inr e) = cc
no_end (open_text says) left h (inl e) = cc
no_end (open_text says) left h (inr e) = cc
no_end (other b) left h (inl e) = cc
no_end (other b) left h (inr e) = h.1 (eqb-true b 59 e)

-- two runs up to an end or a cut are one
pub record SameRun (a b : List Piece) (x y : List ℕ) : Type 0 where
  pub runs : a ≡ b
  pub rests : x ≡ y

same_run : (a b : List Piece) (script x y : List ℕ) → IsRun a script x → IsRun b script y → EndsRun x → EndsRun y → SameRun a b x y
same_run [] [] script x y p q ex ey = record { runs = refl; rests = sym p ∙ q }
same_run [] (r ∷ b) script x y p q ex ey = absurd (no_end r q.0 q.2 (subst EndsRun (sym p ∙ q.1) ex))
same_run (r ∷ a) [] script x y p q ex ey = absurd (no_end r p.0 p.2 (subst EndsRun (sym q ∙ p.1) ey))
same_run (r ∷ a) (s ∷ b) script x y p q ex ey =
    let e : ◌≡◌ {A = Piece × List ℕ} (r, p.0) (s, q.0) = sym (next_is r p.0 p.2) ∙ ap next (sym p.1 ∙ q.1) ∙ next_is s q.0 q.2 in
    let same = same_run a b p.0 x y p.3 (subst (λ l. IsRun b l y) (sym (ap (λ w. w.1) e)) q.3) ex ey in
    record { runs = λ i. (e i).0 ∷ same.runs i; rests = same.rests }

cons_nil : (x : ℕ) (xs : List ℕ) → x ∷ xs ≡ [] → ⊥
cons_nil x xs e = cc

pub same_parts : (at : ℕ) (script : List ℕ) (a b : List Part) → ArePartsFrom at script a → ArePartsFrom at script b → a ≡ b
same_parts at script a b (cut {parts = p} r x f d) (cut {parts = q} s y g e) =
    let same = same_run r s script (59 ∷ x) (59 ∷ y) f g (inr refl) (inr refl) in
    let rests : x ≡ y = ap (drop 1) same.rests in
    let there : ArePartsFrom (at + run_len r + 1) x q =
    subst (λ l. ArePartsFrom (at + run_len r + 1) l q) (sym rests) (subst (λ run. ArePartsFrom (at + run_len run + 1) y q) (sym same.runs) e) in
    let parts = same_parts (at + run_len r + 1) x p q d there in
    (λ i. with_part at (same.runs i) true (parts i))
same_parts at script a b (cut r x f d) (last s g) =
    let same = same_run r s script (59 ∷ x) [] f g (inr refl) (inl refl) in
    absurd (cons_nil 59 x same.rests)
same_parts at script a b (last r f) (cut s y g e) =
    let same = same_run r s script [] (59 ∷ y) f g (inl refl) (inr refl) in
    absurd (cons_nil 59 y (sym same.rests))
same_parts at script a b (last r f) (last s g) =
    let same = same_run r s script [] [] f g (inl refl) (inl refl) in
    ap (λ run. with_part at run false []) same.runs

run_whole : (run : List Piece) (script rest : List ℕ) → IsRun run script rest → script ≡ run_bytes run ++ rest
run_whole [] script rest is = is
run_whole (piece ∷ run) script rest is =
    is.1 ∙ ap (λ l. bytes_of piece ++ l) (run_whole run is.0 rest is.3) ∙ sym (append_assoc (bytes_of piece) (run_bytes run) rest)

pub put_together : (at : ℕ) (script : List ℕ) (parts : List Part) → ArePartsFrom at script parts → IsJoined at script parts
put_together at script parts (cut run rest is after) =
    let more = put_together (at + run_len run + 1) rest _ after in
    record {
      run = run;
      runs = more.run ∷ more.runs;
      whole = run_whole run script (59 ∷ rest) is ∙ ap (λ l. run_bytes run ++ 59 ∷ l) more.whole;
      parts_are = ap (with_part at run true) more.parts_are;
    }
put_together at script parts (last run is) =
    record { run = run; runs = []; whole = run_whole run script [] is ∙ append-nil (run_bytes run); parts_are = refl }
