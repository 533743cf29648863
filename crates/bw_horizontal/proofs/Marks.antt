-- The delimiters of the sections that pass, and the rows of a segment that they stand for.
use Rattle.std.proofs.Common.{Bool, List, ap, arith, bit_and, bit_or, false, get_or, inl, inr, length, ltb, refl, subst, sym, true, ℕ, ◌%◌, ◌&&◌, ◌*◌, ◌+◌, ◌-◌, ◌/◌, ◌<◌, ◌==◌, ◌^◌, ◌≡◌, ◌≤◌, ◌∙◌}
use Rattle.std.proofs.lemmas.Bool.{cases_eq, cases_lt, le-ltb, lt-ltb, ne_eqb}
use Rattle.std.proofs.lemmas.List.{get_or_default}
use Rattle.std.proofs.lemmas.Nat.{div-add-mod'}
use Rattle.std.proofs.Math.Nat.{mul-le-mul_right}
use Rattle.bw_mask.proofs.Bits.{bit_of_and, bit_of_shl}
use Rattle.bw_lane.specs.declared.sections.LaneOp.{LaneOp}
use Rattle.bw_lane.specs.Sections.{IsCompared, holds, on, section_of, sections_in}
use Rattle.bw_lane.proofs.Joins.{AreJoined, all_joined, bit_of_section, compared_marks, word_joined}
use Rattle.bw_lane.proofs.Codes.{place_fits}
use Rattle.bw_horizontal.specs.Words.{AreDelimiters, code_at, segment_rows}

pub compared_delimiters : (op : LaneOp) (k x y found : ℕ) (passes : ℕ → Bool) → ((t : ℕ) → t < sections_in k → holds op (section_of k t x) (section_of k t y) ≡ passes (section_of k t x)) → IsCompared op k x y found → AreDelimiters k passes x found
compared_delimiters op k x y found passes same compared p =
    let t = p / (k + 1) in
    let d = p % (k + 1) == k in
    (compared_marks op k x y found compared).marks p
    ∙ elim (cases_lt t (sections_in k)) [
      | inl lt ↦ ap (λ b. d && (ltb t (sections_in k) && b)) (same t lt)
      | inr ge ↦ rw (le-ltb t (sections_in k) ge) refl
    ]

pub both_delimiters : (k x a b : ℕ) (f g : ℕ → Bool) → AreDelimiters k f x a → AreDelimiters k g x b → AreDelimiters k (λ c. f c && g c) x (bit_and a b)
both_delimiters k x a b f g one other p = bit_of_and a b p ∙ rw (one p, other p) (both (p % (k + 1) == k) (ltb (p / (k + 1)) (sections_in k)) _ _)
  where
    both : (d l u v : Bool) → ((d && (l && u)) && (d && (l && v))) ≡ (d && (l && (u && v)))
    both true true u v = refl
    both true false u v = refl
    both false l u v = refl

-- the delimiters of the sections whose code has bit i, of all delimiters
pub bit_delimiters : (k i word all : ℕ) → i < k → AreDelimiters k (λ code. true) 0 all → AreDelimiters k (λ code. on code i) word (bit_and (word * 2 ^ (k - i) % 2 ^ 64) all)
bit_delimiters k i word all low is p =
    let t = p / (k + 1) in
    let e = p % (k + 1) in
    let up = word * 2 ^ (k - i) % 2 ^ 64 in
    bit_of_and up all p ∙ ap (λ b. on up p && b) (is p)
    ∙ elim (cases_eq e k) [
      | inl last ↦
          elim (cases_lt t (sections_in k)) [
            | inl lt ↦
                let place : t * (k + 1) + k ≡ p = omega (arith, div-add-mod' p (k + 1)) in
                let within : p < 64 = omega (arith, place, place_fits k t lt) in
                let from : p - (k - i) ≡ t * (k + 1) + i = omega (arith, place, low) in
                let bit : on up p ≡ on (section_of k t word) i =
                bit_of_shl word (k - i) p (omega (arith, place, low)) within ∙ ap (on word) from ∙ ap (λ n. n == 1) (sym (bit_of_section k t i word (omega (arith, low)))) in
                rw (bit, lt-ltb t (sections_in k) lt) (here (e == k) (on (section_of k t word) i))
            | inr ge ↦ rw (le-ltb t (sections_in k) ge) (past (e == k) (on up p))
          ]
      | inr ne ↦ rw (ne_eqb e k ne) (out (on up p))
    ]
  where
    here : (d b : Bool) → (b && (d && (true && true))) ≡ (d && (true && b))
    here true true = refl
    here true false = refl
    here false true = refl
    here false false = refl

    past : (d b : Bool) → (b && (d && false)) ≡ (d && false)
    past true true = refl
    past true false = refl
    past false true = refl
    past false false = refl

    out : (b : Bool) → (b && false) ≡ false
    out true = refl
    out false = refl

-- whether section t of word i of segment q is there and passes
abbrev pub passing : ℕ → (ℕ → Bool) → List ℕ → ℕ → ℕ → ℕ → Bool
passing k passes units q i t = ltb t (sections_in k) && passes (section_of k t (get_or units (q * (k + 1) + i) 0))

-- the word that was read is the unit
pub unit_is : (units now : List ℕ) (i word : ℕ) → i < length units → now ≡ units → word ≡ get_or now i word → word ≡ get_or units i 0
unit_is units now i word low kept is = is ∙ ap (λ us. get_or us i word) kept ∙ get_or_default units i word 0 low

-- the rows of the segment by one word more
pub rows_joined : (k q i rows word found : ℕ) (passes : ℕ → Bool) (units : List ℕ) → i ≤ k → word ≡ get_or units (q * (k + 1) + i) 0 → AreDelimiters k passes word found → AreJoined k (passing k passes units q) i rows → AreJoined k (passing k passes units q) (i + 1) (bit_or rows (found / 2 ^ (k - i)))
rows_joined k q i rows word found passes units within is marks before =
    word_joined k (passing k passes units q) i rows found within before (record { marks = subst (λ w. AreDelimiters k passes w found) is marks })

below_is : (s w r : ℕ) → ltb (r / (w + 1)) s ≡ ltb r ((w + 1) * s)
below_is s w r =
    elim (cases_lt (r / (w + 1)) s) [
      | inl lt ↦ rw (lt-ltb (r / (w + 1)) s lt, lt-ltb r ((w + 1) * s) (omega (arith, mul-le-mul_right (w + 1) lt, div-add-mod' r (w + 1)))) refl
      | inr ge ↦ rw (le-ltb (r / (w + 1)) s ge, le-ltb r ((w + 1) * s) (omega (arith, mul-le-mul_right (w + 1) ge, div-add-mod' r (w + 1)))) refl
    ]

-- the rows of the segment by all its words
pub all_rows : (k i rows : ℕ) (passes : ℕ → ℕ → Bool) → i ≡ k + 1 → AreJoined k (λ n t. ltb t (sections_in k) && passes n t) i rows → (r : ℕ) → on rows r ≡ (ltb r (segment_rows k) && passes (r % (k + 1)) (r / (k + 1)))
all_rows k i rows passes all joined r =
    all_joined k (λ n t. ltb t (sections_in k) && passes n t) rows (subst (λ n. AreJoined k (λ m t. ltb t (sections_in k) && passes m t) n rows) all joined) r
    ∙ ap (λ b. b && passes (r % (k + 1)) (r / (k + 1))) (below_is (sections_in k) k r)

pub rows_all : (k q i rows : ℕ) (passes : ℕ → Bool) (units : List ℕ) → i ≡ k + 1 → AreJoined k (passing k passes units q) i rows → (r : ℕ) → on rows r ≡ (ltb r (segment_rows k) && passes (code_at k units q r))
rows_all k q i rows passes units all joined r = all_rows k i rows (λ n t. passes (section_of k t (get_or units (q * (k + 1) + n) 0))) all joined r
