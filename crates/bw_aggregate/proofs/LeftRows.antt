-- Rows that are left, counted by their codes: segments that are kept, and parts of a column.
use Rattle.std.proofs.Common.{Bool, List, [], ap, arith, cond, count_by, drop, false, get_or, if◌then◌else◌, length, length-drop, length-set, ltb, not, refl, set, suc, sum_by, sym, take, true, zero, zero-add, ℕ, ◌&&◌, ◌*◌, ◌+◌, ◌-◌, ◌<◌, ◌≡◌, ◌≤◌, ◌∙◌, ◌∷◌}
use Rattle.std.proofs.lemmas.Bool.Decides.{nat_tests}
use Rattle.std.proofs.lemmas.List.{get_or-drop, get_or-set_same, take-set}
use Rattle.std.proofs.lemmas.List.Sums.{sum_by_more}
use Rattle.std.specs.List.{items_where_true}
use mir.Val.{bool_byte}
use Rattle.bw_mask.specs.Masks.{bit_of, row_in}
use Rattle.bw_aggregate.specs.Left.{codes_between, segment_count}
use Rattle.bw_aggregate.specs.Planes.{IsPlane, has_bit, is_in}
use Rattle.bw_aggregate.specs.declared.plane.Plane.{Plane}
use Rattle.bw_aggregate.specs.declared.segments.Segment.{Segment}
use Rattle.bw_aggregate.specs.Marks.{marked}
use Rattle.bw_aggregate.proofs.Counting.{count_cons}
use Rattle.bw_aggregate.proofs.Marks.{marked_more, marked_none, marked_same, marked_zero, none_marked}

-- an item put behind those that are kept, and kept where it counts
pub kept_more : {X : Type 0} (f : X → ℕ) (xs : List X) (kept : ℕ) (x d : X) (some : Bool) → kept < length xs → (some ≡ false → f x ≡ 0)
    → sum_by f (take (kept + bool_byte some) (set xs kept x)) ≡ sum_by f (take kept xs) + f x
kept_more f xs kept x d true there none =
    sum_by_more f (set xs kept x) kept d (omega (arith, there, length-set xs kept x))
    ∙ rw (take-set xs kept x, get_or-set_same xs kept x d there) refl
kept_more f xs kept x d false there none =
    let e : kept + 0 ≡ kept = omega arith in
    ap (λ n. sum_by f (take n (set xs kept x))) e ∙ ap (sum_by f) (take-set xs kept x) ∙ omega (arith, none refl)

-- one place in front
marked_first : (n : ℕ) (f : ℕ → Bool) → marked (suc n) f ≡ cond (f 0) 1 0 + marked n (λ j. f (suc j))
marked_first zero f = omega (arith, marked_more 0 f, marked_zero f, marked_zero (λ j. f (suc j)))
marked_first (suc n) f =
    let d : suc (suc n) ≡ suc n + 1 = omega arith in
    let e : suc n ≡ n + 1 = omega arith in
    let one = marked_more (suc n) f in
    let two = marked_more n (λ j. f (suc j)) in
    let three = ap (λ k. marked k (λ j. f (suc j))) e in
    ap (λ k. marked k f) d ∙ omega (arith, one, two, three, marked_first n f)

-- the rows among the first n that are in and whose code passes
pub marked_codes : (n : ℕ) (rows : List Bool) (codes : List ℕ) (p : ℕ → Bool) → length rows ≡ length codes
    → marked n (λ r. get_or rows r false && p (get_or codes r 0)) ≡ count_by p (items_where_true (take n rows) (take n codes))
marked_codes zero rows codes p same = marked_zero (λ r. get_or rows r false && p (get_or codes r 0))
marked_codes (suc n) [] [] p same = marked_none (suc n) (λ r. get_or [] r false && p (get_or [] r 0)) (λ j h. refl)
marked_codes (suc n) [] (c ∷ codes) p same = absurd (omega (arith, same))
marked_codes (suc n) (b ∷ rows) [] p same = absurd (omega (arith, same))
marked_codes (suc n) (true ∷ rows) (c ∷ codes) p same =
    marked_first n (λ r. get_or (true ∷ rows) r false && p (get_or (c ∷ codes) r 0))
    ∙ ap (λ m. cond (p c) 1 0 + m) (marked_codes n rows codes p (omega (arith, same)))
    ∙ sym (count_cons p c (items_where_true (take n rows) (take n codes)))
marked_codes (suc n) (false ∷ rows) (c ∷ codes) p same =
    marked_first n (λ r. get_or (false ∷ rows) r false && p (get_or (c ∷ codes) r 0))
    ∙ zero-add _ ∙ marked_codes n rows codes p (omega (arith, same))

-- those of a part
pub marked_between : (rows : List Bool) (codes : List ℕ) (p : ℕ → Bool) (from to : ℕ) → length rows ≡ length codes
    → marked (to - from) (λ r. get_or rows (from + r) false && p (get_or codes (from + r) 0)) ≡ count_by p (codes_between rows codes from to)
marked_between rows codes p from to same =
    marked_same (to - from) (λ r. get_or rows (from + r) false && p (get_or codes (from + r) 0)) (λ r. get_or (drop from rows) r false && p (get_or (drop from codes) r 0))
    (λ r h. rw (get_or-drop from rows r false, get_or-drop from codes r 0) refl)
    ∙ marked_codes (to - from) (drop from rows) (drop from codes) p (omega (arith, length-drop from rows, length-drop from codes, same))

pub one_at_most : (b : Bool) → bool_byte b ≤ 1
one_at_most true = omega arith
one_at_most false = omega arith

pub is_some : (n : ℕ) → ltb 0 n ≡ true → 0 < n
is_some n some = grind (arith, nat_tests, some)

pub none_of : (n : ℕ) → ltb 0 n ≡ false → n ≡ 0
none_of n none = grind (arith, nat_tests, none)

and_true : (b : Bool) → (b && true) ≡ b
and_true true = refl
and_true false = refl

grouped : (a b c : Bool) → ((a && b) && c) ≡ (a && (b && c))
grouped true b c = refl
grouped false b c = refl

-- none counts where none is in
pub segment_none : (codes : List ℕ) (p : ℕ → Bool) (segment : Segment) → marked 256 (row_in segment.rows) ≡ 0 → segment_count codes p segment ≡ 0
segment_none codes p segment none =
    marked_none 256 (λ j. row_in segment.rows j && p (get_or codes (256 * segment.number + j) 0))
    (λ j h. ap (λ b. b && p (get_or codes (256 * segment.number + j) 0)) (none_marked 256 (row_in segment.rows) none j h))

-- those of its rows whose code has a bit
pub segment_in : (codes : List ℕ) (i : ℕ) (plane : Plane) → IsPlane codes i plane → (segment : Segment) (part : List ℕ)
    → ((j : ℕ) → j < 256 → row_in part j ≡ is_in plane (256 * segment.number + j))
    → marked 256 (λ j. row_in segment.rows j && row_in part j) ≡ segment_count codes (λ code. bit_of code i) segment
segment_in codes i plane is segment part of_plane =
    marked_same 256 (λ j. row_in segment.rows j && row_in part j) (λ j. row_in segment.rows j && bit_of (get_or codes (256 * segment.number + j) 0) i)
    (λ j h. ap (λ b. row_in segment.rows j && b) (of_plane j h ∙ is (256 * segment.number + j)))

-- those of its rows whose code has a bit, or lacks it
module _ (codes : List ℕ) (i : ℕ) (plane : Plane) (is : IsPlane codes i plane) (bit : Bool) (segment : Segment) (part rows : List ℕ)
    (of_plane : (j : ℕ) → j < 256 → row_in part j ≡ is_in plane (256 * segment.number + j))
    (each : (j : ℕ) → j < 256 → row_in rows j ≡ (row_in segment.rows j && (if bit then row_in part j else not (row_in part j)))) where
  row_with : (j : ℕ) → j < 256 → row_in rows j ≡ (row_in segment.rows j && has_bit i bit (get_or codes (256 * segment.number + j) 0))
  row_with j h = each j h ∙ ap (λ b. row_in segment.rows j && (if bit then b else not b)) (of_plane j h ∙ is (256 * segment.number + j))

  pub segment_with : (p : ℕ → Bool) → segment_count codes p (record { number = segment.number; rows = rows }) ≡ segment_count codes (λ code. has_bit i bit code && p code) segment
  segment_with p =
      marked_same 256 (λ j. row_in rows j && p (get_or codes (256 * segment.number + j) 0)) (λ j. row_in segment.rows j && (has_bit i bit (get_or codes (256 * segment.number + j) 0) && p (get_or codes (256 * segment.number + j) 0)))
      (λ j h. ap (λ b. b && p (get_or codes (256 * segment.number + j) 0)) (row_with j h) ∙ grouped (row_in segment.rows j) (has_bit i bit (get_or codes (256 * segment.number + j) 0)) (p (get_or codes (256 * segment.number + j) 0)))
