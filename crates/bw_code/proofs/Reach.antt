-- How far the codes of needed rows agree: the greatest agreement by the masks that are left after n digits.
use Rattle.std.proofs.Common.{Bool, ap, arith, inl, inr, false, if◌then◌else◌, leb, max, refl, suc, true, zero, ℕ, ◌&&◌, ◌+◌, ◌<◌, ◌||◌, ◌≡◌, ◌∙◌, add-one}
use Rattle.std.proofs.lemmas.Bool.{cases_eq}
use Rattle.std.proofs.lemmas.Bool.Decides.{nat_tests}
use Rattle.bw_code.specs.Units.{greatest_below, some_below, sum_below}
use Rattle.bw_code.proofs.UnitLemmas.{some_same}

pub sum_none : (f : ℕ → ℕ) → sum_below 0 f ≡ 0
unfolding sum_below
sum_none f = refl

pub sum_more : (n : ℕ) (f : ℕ → ℕ) → sum_below (n + 1) f ≡ sum_below n f + f n
unfolding sum_below
sum_more n f = rw add-one refl

pub or_left : (a b : Bool) → (a || b) ≡ false → a ≡ false
or_left true b h = h
or_left false b h = refl

pub or_right : (a b : Bool) → (a || b) ≡ false → b ≡ false
or_right true b h = grind arith
or_right false b h = h

pub none_at : (n : ℕ) (test : ℕ → Bool) → some_below n test ≡ false → (j : ℕ) → j < n → test j ≡ false
unfolding some_below
none_at zero test none j h = absurd (omega arith)
none_at (suc n) test none j h =
    elim (cases_eq j n) [
      | inl e ↦ rw e (or_right (some_below n test) (test n) none)
      | inr d ↦ none_at n test (or_left (some_below n test) (test n) none) j (omega arith)
    ]

pub none_if : (n : ℕ) (test : ℕ → Bool) → ((j : ℕ) → j < n → test j ≡ false) → some_below n test ≡ false
unfolding some_below
none_if zero test each = refl
none_if (suc n) test each = rw (none_if n test (λ j h. each j (omega arith)), each n (omega arith)) refl

none_agrees : (n : ℕ) (needed : ℕ → Bool) (agreed : ℕ → ℕ) → some_below n needed ≡ false → greatest_below n (λ j. if needed j then agreed j else 0) ≡ 0
unfolding some_below greatest_below
none_agrees zero needed agreed none = refl
none_agrees (suc n) needed agreed none =
    rw (none_agrees n needed agreed (or_left (some_below n needed) (needed n) none), or_right (some_below n needed) (needed n) none) refl

one_more : (m g a : ℕ) (s b : Bool) → (s ≡ false → g ≡ 0) → ((s && leb m g) || (b && leb m a)) ≡ ((s || b) && leb m (max g (if b then a else 0)))
one_more m g a true true none = grind (arith, nat_tests)
one_more m g a true false none = grind (arith, nat_tests)
one_more m g a false true none = let e : g ≡ 0 = none refl in grind (arith, nat_tests)
one_more m g a false false none = refl

-- a needed row agrees in m digits exactly if there is a needed row and the greatest agreement is at least m
pub reach : (n m : ℕ) (needed : ℕ → Bool) (agreed : ℕ → ℕ) → some_below n (λ j. needed j && leb m (agreed j)) ≡ (some_below n needed && leb m (greatest_below n (λ j. if needed j then agreed j else 0)))
unfolding some_below greatest_below
reach zero m needed agreed = refl
reach (suc n) m needed agreed =
    ap (λ s. s || (needed n && leb m (agreed n))) (reach n m needed agreed)
    ∙ one_more m (greatest_below n (λ j. if needed j then agreed j else 0)) (agreed n) (some_below n needed) (needed n) (none_agrees n needed agreed)

-- the same, of the rows that are left after m digits, where a row is needed
pub left_is : (n m : ℕ) (left needed : ℕ → Bool) (agreed : ℕ → ℕ) → ((j : ℕ) → j < n → left j ≡ (needed j && leb m (agreed j))) → some_below n needed ≡ true → some_below n left ≡ leb m (greatest_below n (λ j. if needed j then agreed j else 0))
left_is n m left needed agreed each some =
    some_same n left (λ j. needed j && leb m (agreed j)) each ∙ reach n m needed agreed ∙ ap (λ b. b && leb m (greatest_below n (λ j. if needed j then agreed j else 0))) some
