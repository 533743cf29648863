-- Lines of one width that lie flat.
use Rattle.std.proofs.Common.{◌≡◌, ℕ, ◌+◌, ◌*◌, ◌<◌, ◌≤◌, Bool, false, List, [], ◌∷◌, ◌++◌, append_assoc, append-nil, map, ◌==◌, length, replicate, take, drop, zero, suc, refl, sym, ap, ◌∙◌, arith, length-append, length-drop}
use Rattle.std.proofs.lemmas.List.{take-append-le, drop-append-le}
use Rattle.std.proofs.lemmas.Bool.{true≢false}
use Rattle.bw_sql.specs.Rows.{joined, rows_of}
use Rattle.bw_model.specs.Answers.{AreWholeLines, lines_of}
use Rattle.bw_model.proofs.Lines.{count-of, lines_of-first, lines_of-nil, whole_rest}

module _ {A : Type 0} where
  pub rows_of-append : (w n m : ℕ) (a b : List A) → length a ≡ n * w → rows_of (replicate (n + m) w) (a ++ b) ≡ rows_of (replicate n w) a ++ rows_of (replicate m w) b
  rows_of-append w zero m [] b e = let none : 0 + m ≡ m = omega arith in ap (λ k. rows_of (replicate k w) b) none
  rows_of-append w zero m (x ∷ a) b e = absurd (omega arith)
  rows_of-append w (suc n) m a b e =
      let fits : w ≤ length a = omega arith in
      let rest : length (drop w a) ≡ n * w = omega (arith, length-drop w a) in
      let count : suc n + m ≡ suc (n + m) = omega arith in
      ap (λ k. rows_of (replicate k w) (a ++ b)) count
      ∙ ap (λ row. row ∷ rows_of (replicate (n + m) w) (drop w (a ++ b))) (take-append-le w a b fits)
      ∙ ap (λ l. take w a ∷ rows_of (replicate (n + m) w) l) (drop-append-le w a b fits)
      ∙ ap (λ l. take w a ∷ l) (rows_of-append w n m (drop w a) b rest)

  pub lines_of-append : (w n m : ℕ) (a b : List A) → 0 < w → length a ≡ n * w → length b ≡ m * w → lines_of w (a ++ b) ≡ lines_of w a ++ lines_of w b
  lines_of-append w n m a b some ea eb =
      let whole : length (a ++ b) ≡ (n + m) * w = omega (arith, length-append a b) in
      ap (λ k. rows_of (replicate k w) (a ++ b)) (count-of w (n + m) (a ++ b) some whole)
      ∙ rows_of-append w n m a b ea
      ∙ ap (λ k. rows_of (replicate k w) a ++ rows_of (replicate m w) b) (sym (count-of w n a some ea))
      ∙ ap (λ k. lines_of w a ++ rows_of (replicate k w) b) (sym (count-of w m b some eb))

  -- whole lines, with one line more
  pub one_line : (w : ℕ) (a b : List A) → AreWholeLines w a → length b ≡ w → AreWholeLines w (a ++ b)
  one_line w a b lines e = record { some = lines.some; count = lines.count + 1; whole = omega (arith, length-append a b, lines.whole) }

-- What a walk over lines has made of those so far, and what it will make of the rest, is what it makes of all.
module _ {A B : Type 0} (f : List A → List B) (w : ℕ) (all : List A) where
  pub record Walks (rest : List A) (cells : List B) : Type 0 where
    pub whole : AreWholeLines w rest
    pub same : cells ++ joined (map f (lines_of w rest)) ≡ joined (map f (lines_of w all))

  pub walk_starts : AreWholeLines w all → Walks all []
  walk_starts lines = record { whole = lines; same = refl }

  pub walk_goes_on : (rest : List A) (cells more : List B) → Walks rest cells → 0 < length rest → more ≡ f (take w rest) → Walks (drop w rest) (cells ++ more)
  walk_goes_on rest cells more walk some e = record {
    whole = whole_rest w rest walk.whole some;
    same =
        append_assoc cells more (joined (map f (lines_of w (drop w rest))))
        ∙ ap (λ m. cells ++ (m ++ joined (map f (lines_of w (drop w rest))))) e
        ∙ ap (λ l. cells ++ joined (map f l)) (sym (lines_of-first w rest walk.whole some))
        ∙ walk.same;
  }

  pub walk_skips : (rest : List A) (cells : List B) → Walks rest cells → 0 < length rest → f (take w rest) ≡ [] → Walks (drop w rest) cells
  walk_skips rest cells walk some e = rw (append-nil cells) at (walk_goes_on rest cells [] walk some (sym e))

  pub walk_ends : (rest : List A) (cells : List B) → Walks rest cells → length rest ≡ 0 → cells ≡ joined (map f (lines_of w all))
  walk_ends [] cells walk none = sym (append-nil cells) ∙ ap (λ l. cells ++ joined (map f l)) (sym (lines_of-nil w walk.whole.some)) ∙ walk.same
  walk_ends (x ∷ rest) cells walk none = absurd (omega arith)

-- what a walk leaves out

-- what isn't empty
pub nonempty : (n : ℕ) (b : Bool) → b ≡ (n == 0) → b ≡ false → 0 < n
nonempty zero b e f = absurd (true≢false (sym e ∙ f))
nonempty (suc n) b e f = omega arith
