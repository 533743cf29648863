-- A list that is made from a function of the place.
use Rattle.std.proofs.Common.{◌≡◌, ◌≢◌, ℕ, ◌+◌, ◌-◌, ◌<◌, List, ◌++◌, length, get_or, set, inl, inr, sym, ap, ◌∙◌, append_assoc, arith, drop, length-append, length-drop, length-set, length-take, take, ◌≤◌}
use Rattle.std.proofs.lemmas.Bool.{cases_eq, cases_lt}
use Rattle.std.proofs.Math.Seq.{take-append_seam}
use Rattle.std.proofs.lemmas.List.{drop-drop, take-append-drop, get_or-append_right, get_or-drop, get_or-take, get_or_default, same_lists, get_or-set_same, get_or-set_other, get_or_append_left}
use Rattle.std.proofs.lemmas.List.FromFn.{length-map-range_with_len, get_or-map-range_with_len, fill_by_all}
use Rattle.bw_code.specs.Lists.{made}

pub made_len : {X : Type 0} (n : ℕ) (f : ℕ → X) → length (made n f) ≡ n
made_len n f = length-map-range_with_len f 0 n

pub made_at : {X : Type 0} (n : ℕ) (f : ℕ → X) (i : ℕ) (d : X) → i < n → get_or (made n f) i d ≡ f i
made_at n f i d h = get_or-map-range_with_len f 0 n i i d h (omega arith)

pub made_is : {X : Type 0} (n : ℕ) (f : ℕ → X) (xs : List X) (d : X) → length xs ≡ n → ((i : ℕ) → i < n → get_or xs i d ≡ f i) → xs ≡ made n f
made_is n f xs d len each = fill_by_all f xs n d len each

-- n entries unchanged, and a list after them
pub made_more : {X : Type 0} (n : ℕ) (f g : ℕ → X) (xs : List X) (d : X) → ((i : ℕ) → i < n → g i ≡ f i) → ((i : ℕ) → i < length xs → g (n + i) ≡ get_or xs i d) → made (n + length xs) g ≡ made n f ++ xs
made_more n f g xs d old new =
    sym (made_is (n + length xs) g (made n f ++ xs) d (length-append (made n f) xs ∙ ap (λ k. k + length xs) (made_len n f)) (λ i h.
    elim (cases_lt i n) [
      | inl l ↦ get_or_append_left (made n f) xs d i (omega (arith, made_len n f)) ∙ made_at n f i d l ∙ sym (old i l)
      | inr l ↦
          let here : n + (i - n) ≡ i = omega arith in
          get_or-append_right (made n f) xs n i d (made_len n f) l ∙ sym (new (i - n) (omega arith)) ∙ ap g here
    ]))

pub made_set : {X : Type 0} (n : ℕ) (f g : ℕ → X) (i : ℕ) (x : X) → i < n → g i ≡ x → ((j : ℕ) → j < n → j ≢ i → g j ≡ f j) → made n g ≡ set (made n f) i x
made_set n f g i x h here other =
    sym (made_is n g (set (made n f) i x) x (length-set (made n f) i x ∙ made_len n f) (λ j l.
    elim (cases_eq j i) [
      | inl e ↦ rw e (get_or-set_same (made n f) i x x (omega (arith, made_len n f)) ∙ sym here)
      | inr d ↦ get_or-set_other (made n f) i j x x d ∙ made_at n f j x l ∙ sym (other j l d)
    ]))

-- a part of a list, by its elements
pub part_is : {X : Type 0} (xs ys : List X) (at : ℕ) (d : X) → at + length ys ≤ length xs → ((k : ℕ) → k < length ys → get_or ys k d ≡ get_or xs (at + k) d) → ys ≡ take (length ys) (drop at xs)
part_is xs ys at d fits each =
    same_lists ys (take (length ys) (drop at xs)) (omega (arith, length-take (length ys) (drop at xs), length-drop at xs)) (λ k e h.
    get_or_default ys k e d h ∙ each k h ∙ get_or_default xs (at + k) d e (omega arith) ∙ sym (get_or-take (length ys) (drop at xs) k e h ∙ get_or-drop at xs k e))

pub part_at : {X : Type 0} (xs ys : List X) (at n k : ℕ) (d : X) → ys ≡ take n (drop at xs) → k < length ys → get_or ys k d ≡ get_or xs (at + k) d
part_at xs ys at n k d is h =
    let long : length ys ≡ length (take n (drop at xs)) = ap length is in
    ap (λ zs. get_or zs k d) is ∙ get_or-take n (drop at xs) k d (omega (arith, long, length-take n (drop at xs))) ∙ get_or-drop at xs k d

-- the front of a buffer, once a part of a list is written there
pub front_is : {X : Type 0} (buffer out xs : List X) (at n : ℕ) → n ≤ length buffer → at + n ≤ length xs → out ≡ take (length (take n buffer)) (drop at xs) → take n (out ++ drop n buffer) ≡ take n (drop at xs)
front_is buffer out xs at n fits inside is =
    let count : length (take n buffer) ≡ n = omega (arith, length-take n buffer) in
    let same : out ≡ take n (drop at xs) = is ∙ ap (λ k. take k (drop at xs)) count in
    let long : length out ≡ n = ap length same ∙ omega (arith, length-take n (drop at xs), length-drop at xs) in
    ap (λ k. take k (out ++ drop n buffer)) (sym long) ∙ take-append_seam out (drop n buffer) ∙ same

-- a list after others is appended to them part by part
pub part_over : {X : Type 0} (whole done xs : List X) (at n : ℕ) → done ++ drop at xs ≡ whole → (done ++ take n (drop at xs)) ++ drop (at + n) xs ≡ whole
part_over whole done xs at n is =
    append_assoc done (take n (drop at xs)) (drop (at + n) xs)
    ∙ ap (λ ys. done ++ (take n (drop at xs) ++ ys)) (sym (drop-drop n at xs))
    ∙ ap (λ ys. done ++ ys) (take-append-drop n (drop at xs))
    ∙ is

-- no part of what is left is longer than the whole
pub part_fits : {X : Type 0} (done rest old xs : List X) (n : ℕ) → done ++ rest ≡ old ++ xs → length done + length (take n rest) ≤ length old + length xs
part_fits done rest old xs n is = omega (arith, length-take n rest, length-append done rest, ap length is, length-append old xs)
