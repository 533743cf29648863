-- The nearest of some codes, by the nearest of parts.
use Rattle.std.proofs.Common.{Bool, List, ap, arith, cond, count_by, false, get_or, if◌then◌else◌, inl, inr, length, min, nat_le, nat_lt, refl, subst, sym, true, ℕ, ◌&&◌, ◌+◌, ◌-◌, ◌<◌, ◌==◌, ◌≡◌, ◌≤◌, ◌∙◌}
use Rattle.std.proofs.lemmas.Bool.{cases_lt, true≢false}
use Rattle.std.proofs.lemmas.Bool.Decides.{nat_tests}
use Rattle.std.proofs.lemmas.List.{take_all}
use Rattle.std.specs.List.{items_where_true}
use Rattle.std.specs.Prelude.{All}
use Rattle.bw_aggregate.specs.Descents.{IsNthCode, end_of}
use Rattle.bw_aggregate.specs.Ends.{AreNearest, IsNearest, distance}
use Rattle.bw_aggregate.specs.Marks.{marked}
use Rattle.bw_aggregate.specs.declared.end.Distances.{Distances}
use Rattle.bw_aggregate.specs.declared.end.End.{End}
use Rattle.bw_aggregate.specs.declared.end.End.TheVariants.{Greatest, Least}
use Rattle.bw_aggregate.proofs.Counting.{count_all, count_split}
use Rattle.bw_aggregate.proofs.LeftRows.{marked_codes}
use Rattle.bw_aggregate.proofs.Marks.{marked_add, marked_more, marked_none, marked_same, marked_within}
use Rattle.bw_aggregate.proofs.Parts.{upto_split}

-- where no row is in
pub nearest_none : (n : ℕ) (f : ℕ → Bool) (code : ℕ → ℕ) (end : End) (top best : ℕ) → ((j : ℕ) → j < n → f j ≡ false) → IsNearest n f code end top best best
nearest_none n f code end top best out = record { upto = omega arith; none = λ j h t. absurd (true≢false (sym t ∙ out j h)); there = λ h. absurd (omega (arith, h)) }

-- nearer than a distance of 0 none is
pub nearest_zero : (n : ℕ) (f : ℕ → Bool) (code : ℕ → ℕ) (end : End) (top best : ℕ) → best ≡ 0 → IsNearest n f code end top best best
nearest_zero n f code end top best none = record { upto = omega arith; none = λ j h t. omega (arith, none); there = λ h. absurd (omega (arith, h)) }

-- of the same rows
pub nearest_in : (n : ℕ) (f g : ℕ → Bool) (code : ℕ → ℕ) (end : End) (top best a : ℕ) → ((j : ℕ) → f j ≡ g j) → IsNearest n f code end top best a → IsNearest n g code end top best a
nearest_in n f g code end top best a same nearest = record {
  upto = nearest.upto;
  none = λ j h t. nearest.none j h (same j ∙ t);
  there = λ h.
      let alike = marked_same n (λ j. f j && (distance end top (code j) == a)) (λ j. g j && (distance end top (code j) == a)) (λ j k. rw (same j) refl) in
      omega (arith, alike, nearest.there h);
}

-- where all rows are in
nearest_all_in : (n : ℕ) (f : ℕ → Bool) (code : ℕ → ℕ) (end : End) (top best a : ℕ) → ((j : ℕ) → j < n → f j ≡ true) → IsNearest n (λ (j : ℕ). true) code end top best a → IsNearest n f code end top best a
nearest_all_in n f code end top best a all nearest = record {
  upto = nearest.upto;
  none = λ j h t. nearest.none j h refl;
  there = λ h.
      let alike = marked_same n (λ j. true && (distance end top (code j) == a)) (λ j. f j && (distance end top (code j) == a)) (λ j k. rw (all j k) refl) in
      omega (arith, alike, nearest.there h);
}

-- of the same codes
pub nearest_same : (n : ℕ) (f : ℕ → Bool) (code other : ℕ → ℕ) (end : End) (top best a : ℕ) → ((j : ℕ) → j < n → code j ≡ other j) → IsNearest n f code end top best a → IsNearest n f other end top best a
nearest_same n f code other end top best a same nearest = record {
  upto = nearest.upto;
  none = λ j h t. subst (λ c. a ≤ distance end top c) (same j h) (nearest.none j h t);
  there = λ h.
      let alike = marked_same n (λ j. f j && (distance end top (code j) == a)) (λ j. f j && (distance end top (other j) == a)) (λ j k. rw (same j k) refl) in
      omega (arith, alike, nearest.there h);
}

-- of m rows, and then of n more
pub nearest_more : (m n : ℕ) (f g : ℕ → Bool) (code more : ℕ → ℕ) (end : End) (top start a b : ℕ) → ((j : ℕ) → j < n → g j ≡ f (m + j)) → ((j : ℕ) → j < n → more j ≡ code (m + j))
    → IsNearest m f code end top start a → IsNearest n g more end top a b → IsNearest (m + n) f code end top start b
nearest_more m n f g code more end top start a b rows codes first rest = record {
  upto = omega (arith, first.upto, rest.upto);
  none = λ j h is_in.
      elim (cases_lt j m) [
        | inl under ↦ omega (arith, first.none j under is_in, rest.upto)
        | inr over ↦
            let place : m + (j - m) ≡ j = omega (arith, over) in
            let within : j - m < n = omega (arith, h, over) in
            let here : g (j - m) ≡ true = rows (j - m) within ∙ ap f place ∙ is_in in
            let same : more (j - m) ≡ code j = codes (j - m) within ∙ ap code place in
            subst (λ c. b ≤ distance end top c) same (rest.none (j - m) within here)
      ];
  there = λ h.
      let hit = λ (x r : ℕ). f r && (distance end top (code r) == x) in
      elim (cases_lt b a) [
        | inl less ↦
            let part : marked n (λ j. g j && (distance end top (more j) == b)) ≡ marked n (λ j. hit b (m + j)) =
            marked_same n (λ j. g j && (distance end top (more j) == b)) (λ j. hit b (m + j)) (λ j k. rw (rows j k, codes j k) refl) in
            omega (arith, marked_add m n (hit b), part, rest.there less)
        | inr same ↦
            let e : a ≡ b = omega (arith, same, rest.upto) in
            let earlier : 0 < marked m (hit a) = first.there (omega (arith, h, e)) in
            let moved : marked m (hit a) ≡ marked m (hit b) = ap (λ x. marked m (hit x)) e in
            omega (arith, marked_add m n (hit b), earlier, moved)
      ];
}

-- of one row more
pub nearest_one : (n : ℕ) (f : ℕ → Bool) (code : ℕ → ℕ) (end : End) (top start a b : ℕ) → b ≡ (if f n then min a (distance end top (code n)) else a)
    → IsNearest n f code end top start a → IsNearest (n + 1) f code end top start b
nearest_one n f code end top start a b is first =
    nearest_more n 1 f (λ j. f n) code (λ j. code n) end top start a b
    (λ j h. let e : n ≡ n + j = omega (arith, h) in ap f e) (λ j h. let e : n ≡ n + j = omega (arith, h) in ap code e) first (one (f n) refl is)
  where
    one : (m : Bool) → f n ≡ m → b ≡ (if m then min a (distance end top (code n)) else a) → IsNearest 1 (λ j. f n) (λ j. code n) end top a b
    one true at is = record {
      upto = omega (arith, is);
      none = λ j h t. omega (arith, is);
      there = λ h.
          let hit : ((distance end top (code n)) == b) ≡ true = grind (arith, nat_tests, is, h) in
          let here : (f n && (distance end top (code n) == b)) ≡ true = rw (at, hit) refl in
          let more = marked_more 0 (λ j. f n && (distance end top (code n) == b)) in
          let counted : ◌≡◌ {A = ℕ} (cond (f n && (distance end top (code n) == b)) 1 0) 1 = ap (λ x. cond {A = ℕ} x 1 0) here in
          omega (arith, more, counted);
    }
    one false at is = record {
      upto = omega (arith, is);
      none = λ j h t. absurd (true≢false (sym t ∙ at));
      there = λ h. absurd (omega (arith, h, is));
    }

-- where no row from n on is in
pub nearest_cut : (m n : ℕ) (f : ℕ → Bool) (code : ℕ → ℕ) (end : End) (top start a : ℕ) → n ≤ m → ((j : ℕ) → n ≤ j → f j ≡ false) → IsNearest m f code end top start a → IsNearest n f code end top start a
nearest_cut m n f code end top start a fewer out nearest = record {
  upto = nearest.upto;
  none = λ j h. nearest.none j (omega (arith, h, fewer));
  there = λ h.
      let hit = λ (r : ℕ). f r && (distance end top (code r) == a) in
      let e : n + (m - n) ≡ m = omega (arith, fewer) in
      let parts : marked m hit ≡ marked n hit + marked (m - n) (λ j. hit (n + j)) = ap (λ k. marked k hit) (sym e) ∙ marked_add n (m - n) hit in
      let other : marked (m - n) (λ j. hit (n + j)) ≡ 0 = marked_none (m - n) (λ j. hit (n + j)) (λ j k. rw (out (n + j) (omega arith)) refl) in
      omega (arith, parts, other, nearest.there h);
}

-- of all rows, where those that are left out are no nearer
pub nearest_of_all : (n : ℕ) (f left : ℕ → Bool) (code : ℕ → ℕ) (end : End) (top best a : ℕ) → ((j : ℕ) → j < n → left j ≡ true → f j ≡ true)
    → ((j : ℕ) → j < n → f j ≡ true → left j ≡ false → best ≤ distance end top (code j)) → IsNearest n left code end top best a → IsNearest n f code end top best a
nearest_of_all n f left code end top best a within out nearest = record {
  upto = nearest.upto;
  none = λ j h t. by (left j) j refl h t;
  there = λ h.
      let more = marked_within n (λ j. left j && (distance end top (code j) == a)) (λ j. f j && (distance end top (code j) == a)) (λ j k t. both (left j) (f j) _ (within j k) t) in
      omega (arith, more, nearest.there h);
}
  where
    by : (b : Bool) → (j : ℕ) → left j ≡ b → j < n → f j ≡ true → a ≤ distance end top (code j)
    by true j is h t = nearest.none j h is
    by false j is h t = omega (arith, out j h t is, nearest.upto)

    both : (l g x : Bool) → (l ≡ true → g ≡ true) → (l && x) ≡ true → (g && x) ≡ true
    both true g x h e = rw (h refl) e
    both false g x h e = absurd (true≢false (sym e))

-- so is the code at the end
module _ (rows : List Bool) (codes : List ℕ) (same : length rows ≡ length codes) (top : ℕ) (low : All (λ c. c ≤ top) codes) where
  abbrev held : List ℕ
  held = items_where_true rows codes

  counted : (p : ℕ → Bool) → marked (length codes) (λ r. get_or rows r false && p (get_or codes r 0)) ≡ count_by p held
  counted p = marked_codes (length codes) rows codes p same ∙ rw (take_all (length codes) rows (omega (arith, same)), take_all (length codes) codes (omega arith)) refl

  -- tests that say the same of the codes of rows that are in
  alike : (p q : ℕ → Bool) → ((r : ℕ) → r < length codes → get_or rows r false ≡ true → p (get_or codes r 0) ≡ q (get_or codes r 0)) → count_by p held ≡ count_by q held
  alike p q each =
      sym (counted p) ∙ marked_same (length codes) (λ r. get_or rows r false && p (get_or codes r 0)) (λ r. get_or rows r false && q (get_or codes r 0)) (λ r h. both (get_or rows r false) (λ t. each r h t)) ∙ counted q
    where
      both : (b : Bool) {x y : Bool} → (b ≡ true → x ≡ y) → (b && x) ≡ (b && y)
      both true e = e refl
      both false e = refl

  no_codes : (p : ℕ → Bool) → ((r : ℕ) → r < length codes → get_or rows r false ≡ true → p (get_or codes r 0) ≡ false) → count_by p held ≡ 0
  no_codes p each = alike p (λ c. false) each ∙ none held
    where
      none : (xs : List ℕ) → count_by (λ c. false) xs ≡ 0
      none xs = omega (arith, count_split (λ c. false) (λ c. true) (λ c. true) xs (λ c. refl))

  low_at : (r : ℕ) → r < length codes → get_or codes r 0 ≤ top
  low_at r h = low r 0 h

  near : (e : End) (c : ℕ) → c ≤ top → distance e top c ≤ top
  near Least c h = h
  near Greatest c h = omega arith

  module _ (end : End) (start nearest : ℕ) (beyond : top ≤ start) (is : IsNearest (length codes) (λ r. get_or rows r false) (λ r. get_or codes r 0) end top start nearest) (some : 0 < length held) where
    pub is_there : nearest ≤ top
    is_there =
        elim (cases_lt nearest (top + 1)) [
          | inl less ↦ omega (arith, less)
          | inr far ↦
              let none : count_by (λ c. true) held ≡ 0 = no_codes (λ c. true) (λ r h t. absurd (omega (arith, is.none r h t, far, near end (get_or codes r 0) (low_at r h)))) in
              absurd (omega (arith, some, none, count_all held))
        ]

    -- where no row is nearer than the start, each is as far as a code can be
    near_there : 0 < count_by (λ c. distance end top c == nearest) held
    near_there =
        elim (cases_lt nearest start) [
          | inl less ↦ omega (arith, is.there less, counted (λ c. distance end top c == nearest))
          | inr far ↦
              let each = alike (λ c. distance end top c == nearest) (λ c. true) (λ r h t.
              let least = is.none r h t in
              let most = near end (get_or codes r 0) (low_at r h) in
              let same : distance end top (get_or codes r 0) ≡ nearest = omega (arith, least, most, far, beyond, is_there) in
              grind (arith, nat_tests, same)) in
              omega (arith, each, count_all held, some)
        ]

  pub nearest_code : (end : End) (start nearest : ℕ) → top ≤ start → IsNearest (length codes) (λ r. get_or rows r false) (λ r. get_or codes r 0) end top start nearest → 0 < length held
      → IsNthCode held (end_of end (length held)) (distance end top nearest)
  nearest_code Least start nearest beyond is some =
      let there = near_there Least start nearest beyond is some in
      let none = no_codes (λ c. nat_lt c nearest) (λ r h t. let order = is.none r h t in grind (arith, nat_tests, order)) in
      record { below = omega (arith, none); upto = omega (arith, upto_split nearest held, there); there = there }
  nearest_code Greatest start nearest beyond is some =
      let code = top - nearest in
      let within = is_there Greatest start nearest beyond is some in
      let turned = alike (λ c. (top - c) == nearest) (λ c. c == code) (λ r h t. let small = low_at r h in grind (arith, nat_tests, small, within)) in
      let there : 0 < count_by (λ c. c == code) held = omega (arith, turned, near_there Greatest start nearest beyond is some) in
      let all = alike (λ c. nat_le c code) (λ c. true) (λ r h t. let order = is.none r h t in let small = low_at r h in grind (arith, nat_tests, order, small)) in
      record { below = omega (arith, upto_split code held, all, count_all held, there); upto = omega (arith, all, count_all held, some); there = there }

-- so for both ends
pub ends_none : (n : ℕ) (f : ℕ → Bool) (code : ℕ → ℕ) (top : ℕ) (best : Distances) → ((j : ℕ) → j < n → f j ≡ false) → AreNearest n f code top best best
ends_none n f code top best out = record { least = nearest_none n f code Least top best.least out; greatest = nearest_none n f code Greatest top best.greatest out }

pub ends_zero : (n : ℕ) (f : ℕ → Bool) (code : ℕ → ℕ) (top : ℕ) (best : Distances) → best.least ≡ 0 → best.greatest ≡ 0 → AreNearest n f code top best best
ends_zero n f code top best low high = record { least = nearest_zero n f code Least top best.least low; greatest = nearest_zero n f code Greatest top best.greatest high }

pub ends_all_in : (n : ℕ) (f : ℕ → Bool) (code : ℕ → ℕ) (top : ℕ) (best a : Distances) → ((j : ℕ) → j < n → f j ≡ true) → AreNearest n (λ (j : ℕ). true) code top best a → AreNearest n f code top best a
ends_all_in n f code top best a all nearest = record {
  least = nearest_all_in n f code Least top best.least a.least all nearest.least;
  greatest = nearest_all_in n f code Greatest top best.greatest a.greatest all nearest.greatest;
}

pub ends_same : (n : ℕ) (f : ℕ → Bool) (code other : ℕ → ℕ) (top : ℕ) (best a : Distances) → ((j : ℕ) → j < n → code j ≡ other j) → AreNearest n f code top best a → AreNearest n f other top best a
ends_same n f code other top best a same nearest = record {
  least = nearest_same n f code other Least top best.least a.least same nearest.least;
  greatest = nearest_same n f code other Greatest top best.greatest a.greatest same nearest.greatest;
}

pub ends_more : (m n : ℕ) (f g : ℕ → Bool) (code more : ℕ → ℕ) (top : ℕ) (start a b : Distances) → ((j : ℕ) → j < n → g j ≡ f (m + j)) → ((j : ℕ) → j < n → more j ≡ code (m + j))
    → AreNearest m f code top start a → AreNearest n g more top a b → AreNearest (m + n) f code top start b
ends_more m n f g code more top start a b rows codes first rest = record {
  least = nearest_more m n f g code more Least top start.least a.least b.least rows codes first.least rest.least;
  greatest = nearest_more m n f g code more Greatest top start.greatest a.greatest b.greatest rows codes first.greatest rest.greatest;
}

pub ends_cut : (m n : ℕ) (f : ℕ → Bool) (code : ℕ → ℕ) (top : ℕ) (start a : Distances) → n ≤ m → ((j : ℕ) → n ≤ j → f j ≡ false) → AreNearest m f code top start a → AreNearest n f code top start a
ends_cut m n f code top start a fewer out nearest = record {
  least = nearest_cut m n f code Least top start.least a.least fewer out nearest.least;
  greatest = nearest_cut m n f code Greatest top start.greatest a.greatest fewer out nearest.greatest;
}
