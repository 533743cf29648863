-- The bits of words of sections, and the rows of a segment.
use Rattle.std.proofs.Common.{◌≡◌, ◌≢◌, ℕ, ◌+◌, ◌-◌, ◌*◌, ◌/◌, ◌%◌, ◌^◌, ◌<◌, ◌≤◌, Bool, true, false, cond, ◌&&◌, ◌||◌, ltb, ◌==◌, inl, inr, bit_or, refl, sym, ap, subst, ◌∙◌, arith, List, get_or}
use Rattle.std.proofs.lemmas.Nat.{shr-shr, shr_split, div-add-mod', div-mul-add, mod-mul-add}
use Rattle.std.proofs.lemmas.Nat.Bits.{bit_at_or, bit_at-lt, bit_at_cat_low, bit_at-pow_same, bit_at-pow_other, bit_at-zero, bit_at_above}
use Rattle.std.proofs.lemmas.Bool.{cases_lt, cases_eq}
use Rattle.std.proofs.lemmas.Bool.Decides.{nat_tests}
use Rattle.std.specs.Int.{bit_at}
use Rattle.std.proofs.Math.Nat.{mul-le-mul_right}
use Rattle.bw_lane.specs.declared.sections.LaneOp.{LaneOp}
use Rattle.bw_lane.specs.Sections.{on, section_of, sections_in, holds, rows_in, AreRowsWhere, IsCompared}

-- a bit of a section
pub bit_of_section : (k t e n : ℕ) → e < k + 1 → bit_at (section_of k t n) e ≡ bit_at n (t * (k + 1) + e)
bit_of_section k t e n h =
    let m = n / 2 ^ (t * (k + 1)) in
    sym (bit_at_cat_low (m / 2 ^ (k + 1)) (k + 1) (m % 2 ^ (k + 1)) e h)
    ∙ ap (λ w. bit_at w e) (shr_split m (k + 1))
    ∙ ap (λ w. w % 2) (shr-shr n (t * (k + 1)) e)

-- a bit of a word shifted down
pub bit_shifted : (n d r : ℕ) → bit_at (n / 2 ^ d) r ≡ bit_at n (d + r)
bit_shifted n d r = ap (λ w. w % 2) (shr-shr n d r)

bit_of_mark : (k e : ℕ) (b : Bool) → bit_at (cond b (2 ^ k) 0) e ≡ cond (e == k && b) 1 0
bit_of_mark k e b = elim (cases_eq e k) [ inl q ↦ at_mark k e b q | inr ne ↦ off_mark k e b ne ]
  where
    at_mark : (k e : ℕ) (b : Bool) → e ≡ k → bit_at (cond b (2 ^ k) 0) e ≡ cond (e == k && b) 1 0
    at_mark k e true q = let bit = subst (λ i. bit_at (2 ^ k) i ≡ 1) (sym q) (bit_at-pow_same k) in grind (arith, nat_tests)
    at_mark k e false q = let bit = bit_at-zero e in grind (arith, nat_tests)

    off_mark : (k e : ℕ) (b : Bool) → e ≢ k → bit_at (cond b (2 ^ k) 0) e ≡ cond (e == k && b) 1 0
    off_mark k e true ne = let bit = bit_at-pow_other k e ne in grind (arith, nat_tests)
    off_mark k e false ne = let bit = bit_at-zero e in grind (arith, nat_tests)

on_of : (n : ℕ) (b : Bool) → n ≡ cond b 1 0 → (n == 1) ≡ b
on_of n true e = ap (λ m. m == 1) e
on_of n false e = ap (λ m. m == 1) e

-- in the word no bit is set but delimiters: that of section t where f t is true
pub record IsMarked (k : ℕ) (f : ℕ → Bool) (word : ℕ) : Type 0 where
  pub marks : (p : ℕ) → on word p ≡ (p % (k + 1) == k && f (p / (k + 1)))

pub compared_marks : (op : LaneOp) (k x y out : ℕ) → IsCompared op k x y out
    → IsMarked k (λ t. ltb t (sections_in k) && holds op (section_of k t x) (section_of k t y)) out
compared_marks op k x y out h = record {
  marks = λ p.
      let w = k + 1 in
      let t = p / w in
      let e = p % w in
      let small : e < k + 1 = omega arith in
      let place : t * w + e ≡ p = div-add-mod' p w in
      elim (cases_lt t (sections_in k)) [
        | inl lt ↦
            let section = h.delimiters t lt in
            let bit : bit_at out p ≡ cond (e == k && holds op (section_of k t x) (section_of k t y)) 1 0 =
            ap (bit_at out) (sym place) ∙ sym (bit_of_section k t e out small) ∙ ap (λ n. bit_at n e) section ∙ bit_of_mark k e _ in
            on_of (bit_at out p) _ bit ∙ within (e == k) t (sections_in k) _ lt
        | inr ge ↦
            let far : sections_in k * w ≤ p = omega (arith, mul-le-mul_right w ge) in
            ap (λ n. n == 1) (bit_at_above out (sections_in k * w) p h.no_spare far) ∙ beyond (e == k) t (sections_in k) _ ge
      ];
}
  where
    within : (a : Bool) (t s : ℕ) (b : Bool) → t < s → (a && b) ≡ (a && (ltb t s && b))
    within a t s b h = grind (arith, nat_tests)

    beyond : (a : Bool) (t s : ℕ) (b : Bool) → s ≤ t → false ≡ (a && (ltb t s && b))
    beyond true t s b h = grind (arith, nat_tests)
    beyond false t s b h = refl

on_or : (a b i : ℕ) → on (bit_or a b) i ≡ (on a i || on b i)
on_or a b i = grind (arith, bit_at_or a b i, bit_at-lt a i, bit_at-lt b i)

-- The rows of the words so far. f i t says whether section t of word i is marked
pub record AreJoined (k : ℕ) (f : ℕ → ℕ → Bool) (i rows : ℕ) : Type 0 where
  pub each : (r : ℕ) → on rows r ≡ (ltb (r % (k + 1)) i && f (r % (k + 1)) (r / (k + 1)))

pub none_joined : (k : ℕ) (f : ℕ → ℕ → Bool) → AreJoined k f 0 0
none_joined k f = record { each = λ r. ap (λ n. n == 1) (bit_at-zero r) ∙ none_below (r % (k + 1)) (f (r % (k + 1)) (r / (k + 1))) }
  where
    none_below : (e : ℕ) (b : Bool) → false ≡ (ltb e 0 && b)
    none_below e b = grind (arith, nat_tests)

-- where the bit of row r lies in a word, shifted by k - i
module _ (k i r : ℕ) (within : i ≤ k) where
  abbrev t : ℕ
  t = r / (k + 1)

  abbrev e : ℕ
  e = r % (k + 1)

  place : t * (k + 1) + e ≡ r
  place = div-add-mod' r (k + 1)

  own : e ≡ i → (((k - i) + r) % (k + 1) ≡ k) × (((k - i) + r) / (k + 1) ≡ t)
  own q =
      let at : t * (k + 1) + k ≡ (k - i) + r = omega (arith, place) in
      (ap (λ n. n % (k + 1)) (sym at) ∙ mod-mul-add t (k + 1) k (omega arith), ap (λ n. n / (k + 1)) (sym at) ∙ div-mul-add t (k + 1) k (omega arith))

  other : e ≢ i → ((k - i) + r) % (k + 1) ≢ k
  other ne =
      let small : e < k + 1 = omega arith in
      elim (cases_lt e i) [
        | inl lt ↦
            let at : t * (k + 1) + (e + (k - i)) ≡ (k - i) + r = omega (arith, place) in
            let m : (t * (k + 1) + (e + (k - i))) % (k + 1) ≡ e + (k - i) = mod-mul-add t (k + 1) (e + (k - i)) (omega arith) in
            let m' : ((k - i) + r) % (k + 1) ≡ e + (k - i) = subst (λ n. n % (k + 1) ≡ e + (k - i)) at m in
            omega (arith, m')
        | inr ge ↦
            let at : (t + 1) * (k + 1) + (e - i - 1) ≡ (k - i) + r = omega (arith, place) in
            let m : ((t + 1) * (k + 1) + (e - i - 1)) % (k + 1) ≡ e - i - 1 = mod-mul-add (t + 1) (k + 1) (e - i - 1) (omega arith) in
            let m' : ((k - i) + r) % (k + 1) ≡ e - i - 1 = subst (λ n. n % (k + 1) ≡ e - i - 1) at m in
            omega (arith, m')
      ]

  shifted_bit : (f : ℕ → Bool) (word : ℕ) → IsMarked k f word → on (word / 2 ^ (k - i)) r ≡ (e == i && f t)
  shifted_bit f word h =
      ap (λ n. n == 1) (bit_shifted word (k - i) r) ∙ h.marks ((k - i) + r)
      ∙ elim (cases_eq e i) [
        | inl q ↦ ap (λ n. n == k && f (((k - i) + r) / (k + 1))) (own q).0 ∙ ap (λ n. k == k && f n) (own q).1 ∙ both k e i (f t) q
        | inr ne ↦ neither (((k - i) + r) % (k + 1)) k e i (f (((k - i) + r) / (k + 1))) (f t) (other ne) ne
      ]
    where
      both : (k e i : ℕ) (b : Bool) → e ≡ i → (k == k && b) ≡ (e == i && b)
      both k e i b q = grind (arith, nat_tests)

      neither : (p k e i : ℕ) (a b : Bool) → p ≢ k → e ≢ i → (p == k && a) ≡ (e == i && b)
      neither p k e i a b x y = grind (arith, nat_tests)

-- one word more
pub word_joined : (k : ℕ) (f : ℕ → ℕ → Bool) (i rows word : ℕ) → i ≤ k → AreJoined k f i rows → IsMarked k (f i) word → AreJoined k f (i + 1) (bit_or rows (word / 2 ^ (k - i)))
word_joined k f i rows word within h m = record {
  each = λ r.
      let e = r % (k + 1) in
      let t = r / (k + 1) in
      on_or rows (word / 2 ^ (k - i)) r
      ∙ ap (λ b. b || on (word / 2 ^ (k - i)) r) (h.each r)
      ∙ ap (λ b. (ltb e i && f e t) || b) (shifted_bit k i r within (f i) word m ∙ same e i (λ n. f n t))
      ∙ one_more e i (f e t);
}
  where
    same : (e i : ℕ) (f : ℕ → Bool) → (e == i && f i) ≡ (e == i && f e)
    same e i f = elim (cases_eq e i) [ inl q ↦ ap (λ n. e == i && f n) (sym q) | inr ne ↦ off e i (f i) (f e) ne ]
      where
        off : (e i : ℕ) (a b : Bool) → e ≢ i → (e == i && a) ≡ (e == i && b)
        off e i a b ne = grind (arith, nat_tests)

    one_more : (e i : ℕ) (b : Bool) → ((ltb e i && b) || (e == i && b)) ≡ (ltb e (i + 1) && b)
    one_more e i true = grind (arith, nat_tests)
    one_more e i false = grind (arith, nat_tests)

-- all words
pub all_joined : (k : ℕ) (f : ℕ → ℕ → Bool) (rows : ℕ) → AreJoined k f (k + 1) rows → (r : ℕ) → on rows r ≡ f (r % (k + 1)) (r / (k + 1))
all_joined k f rows h r = let small : r % (k + 1) < k + 1 = omega arith in h.each r ∙ inside (r % (k + 1)) (k + 1) _ small
  where
    inside : (e n : ℕ) (b : Bool) → e < n → (ltb e n && b) ≡ b
    inside e n b h = grind (arith, nat_tests)

-- the rows of a segment, where each section of y holds the code c
pub rows_of : (op : LaneOp) (k : ℕ) (words : List ℕ) (y c rows : ℕ) → ((t : ℕ) → t < sections_in k → section_of k t y ≡ c)
    → ((r : ℕ) → on rows r ≡ (ltb (r / (k + 1)) (sections_in k) && holds op (section_of k (r / (k + 1)) (get_or words (r % (k + 1)) 0)) (section_of k (r / (k + 1)) y)))
    → AreRowsWhere op k words c rows
rows_of op k words y c rows same each r =
    let t = r / (k + 1) in
    each r
    ∙ elim (cases_lt t (sections_in k)) [
      | inl lt ↦
          let in_rows : r < rows_in k = omega (arith, mul-le-mul_right (k + 1) lt, div-add-mod' r (k + 1)) in
          ap (λ n. ltb t (sections_in k) && holds op (section_of k t (get_or words (r % (k + 1)) 0)) n) (same t lt)
          ∙ among t (sections_in k) r (rows_in k) _ lt in_rows
      | inr ge ↦
          let past : rows_in k ≤ r = omega (arith, mul-le-mul_right (k + 1) ge, div-add-mod' r (k + 1)) in
          outside t (sections_in k) r (rows_in k) _ _ ge past
    ]
  where
    among : (t s r n : ℕ) (b : Bool) → t < s → r < n → (ltb t s && b) ≡ (ltb r n && b)
    among t s r n b x y = grind (arith, nat_tests)

    outside : (t s r n : ℕ) (a b : Bool) → s ≤ t → n ≤ r → (ltb t s && a) ≡ (ltb r n && b)
    outside t s r n a b x y = grind (arith, nat_tests)

pub rows_found : (op : LaneOp) (k : ℕ) (words : List ℕ) (y c rows : ℕ) → ((t : ℕ) → t < sections_in k → section_of k t y ≡ c)
    → AreJoined k (λ i t. ltb t (sections_in k) && holds op (section_of k t (get_or words i 0)) (section_of k t y)) (k + 1) rows
    → AreRowsWhere op k words c rows
rows_found op k words y c rows same h =
    rows_of op k words y c rows same (all_joined k (λ i t. ltb t (sections_in k) && holds op (section_of k t (get_or words i 0)) (section_of k t y)) rows h)

pub marks_alone : (k : ℕ) (f : ℕ → Bool) (word : ℕ) → IsMarked k f word → (p : ℕ) → p % (k + 1) ≢ k → on word p ≡ false
marks_alone k f word h p ne = h.marks p ∙ nowhere (p % (k + 1)) k (f (p / (k + 1))) ne
  where
    nowhere : (e k : ℕ) (b : Bool) → e ≢ k → (e == k && b) ≡ false
    nowhere e k b q = grind (arith, nat_tests)

pub mark_at : (k : ℕ) (f : ℕ → Bool) (word t : ℕ) → IsMarked k f word → on word (t * (k + 1) + k) ≡ f t
mark_at k f word t h =
    h.marks (t * (k + 1) + k) ∙ ap (λ n. n == k && f ((t * (k + 1) + k) / (k + 1))) (mod-mul-add t (k + 1) k (omega arith))
    ∙ ap (λ n. k == k && f n) (div-mul-add t (k + 1) k (omega arith)) ∙ surely k (f t)
  where
    surely : (k : ℕ) (b : Bool) → (k == k && b) ≡ b
    surely k b = grind (arith, nat_tests)

-- a word with delimiters alone, by its own bits
pub own_marks : (k word : ℕ) → ((p : ℕ) → p % (k + 1) ≢ k → on word p ≡ false) → IsMarked k (λ t. on word (t * (k + 1) + k)) word
own_marks k word h = record {
  marks = λ p.
      let place : p / (k + 1) * (k + 1) + p % (k + 1) ≡ p = div-add-mod' p (k + 1) in
      elim (cases_eq (p % (k + 1)) k) [
        | inl q ↦
            let at : p ≡ p / (k + 1) * (k + 1) + k = omega (arith, place) in
            ap (on word) at ∙ here (p % (k + 1)) k (on word (p / (k + 1) * (k + 1) + k)) q
        | inr ne ↦ h p ne ∙ there (p % (k + 1)) k (on word (p / (k + 1) * (k + 1) + k)) ne
      ];
}
  where
    here : (e k : ℕ) (b : Bool) → e ≡ k → b ≡ (e == k && b)
    here e k b q = grind (arith, nat_tests)

    there : (e k : ℕ) (b : Bool) → e ≢ k → false ≡ (e == k && b)
    there e k b q = grind (arith, nat_tests)
