-- The rows of a segment compared with a constant or with those of another column, digit by digit, in any cut.
use Rattle.std.proofs.Common.{Bool, arith, eqb, false, if◌then◌else◌, leb, ltb, max, not, refl, sym, true, ℕ, ◌&&◌, ◌<◌, ◌^◌, ◌||◌, ◌≡◌, ◌≤◌, ◌⊎◌, ◌∙◌, inl, inr}
use Rattle.std.proofs.lemmas.Bool.Decides.{nat_tests}
use Rattle.bw_code.specs.Units.{agreement, greatest_below, some_below}
use Rattle.bw_code.proofs.Reach.{left_is, none_at, none_if, or_left, or_right}
use Rattle.bw_code.proofs.Digits.{Compared, final, left_after}

-- each row's masks after n of m digits, of two numbers
abbrev pub AreSidesCompared : ℕ → ℕ → ℕ → (ℕ → Bool) → (ℕ → ℕ) → (ℕ → ℕ) → (ℕ → Bool) → (ℕ → Bool) → ℕ → Type 0
AreSidesCompared size b m need code other lt eq n = (j : ℕ) → j < size → Compared (lt j) (eq j) (need j) b m n (code j) (other j)

-- the same of a number and a constant
abbrev pub AreCompared : ℕ → ℕ → ℕ → (ℕ → Bool) → (ℕ → ℕ) → ℕ → (ℕ → Bool) → (ℕ → Bool) → ℕ → Type 0
AreCompared size b m need code c lt eq n = AreSidesCompared size b m need code (λ _. c) lt eq n

-- how far the needed row that agrees farthest does so
abbrev pub farthest : ℕ → (ℕ → Bool) → (ℕ → ℕ) → ℕ
farthest size need agreed = greatest_below size (λ j. if need j then agreed j else 0)

module _ (size b m : ℕ) (need : ℕ → Bool) (code other : ℕ → ℕ) (n : ℕ) (lt eq : ℕ → Bool) (pos : 0 < b) (below : (j : ℕ) → code j < b ^ m) (also_below : (j : ℕ) → other j < b ^ m) (compared : AreSidesCompared size b m need code other lt eq n) where
  pub side_left : n ≤ m → (j : ℕ) → j < size → eq j ≡ (need j && leb n (agreement b m (code j) (other j)))
  side_left le j h = left_after b m (code j) (other j) pos (below j) (also_below j) (eq j) (need j) (lt j) n le (compared j h)

  -- whether a row is left
  pub sides_left : n ≤ m → some_below size need ≡ true → some_below size eq ≡ leb n (farthest size need (λ j. agreement b m (code j) (other j)))
  sides_left le some = left_is size n eq need (λ j. agreement b m (code j) (other j)) (side_left le) some

  -- after all digits, and where no row is left, the masks are final
  pub sides_final : (n ≡ m) ⊎ (some_below size eq ≡ false) → (j : ℕ) → j < size → (lt j ≡ (need j && ltb (code j) (other j))) × (eq j ≡ (need j && eqb (code j) (other j)))
  sides_final (inl all) j h = final b m (code j) (other j) pos (below j) (also_below j) (lt j) (eq j) (need j) n (inl all) (compared j h)
  sides_final (inr none) j h = final b m (code j) (other j) pos (below j) (also_below j) (lt j) (eq j) (need j) n (inr (none_at size eq none j h)) (compared j h)

-- the same of numbers and a constant
module _ (size b m : ℕ) (need : ℕ → Bool) (code : ℕ → ℕ) (c n : ℕ) (lt eq : ℕ → Bool) (pos : 0 < b) (below : (j : ℕ) → code j < b ^ m) (small : c < b ^ m) (compared : AreCompared size b m need code c lt eq n) where
  pub row_left : n ≤ m → (j : ℕ) → j < size → eq j ≡ (need j && leb n (agreement b m (code j) c))
  row_left = side_left size b m need code (λ _. c) n lt eq pos below (λ _. small) compared

  pub rows_left : n ≤ m → some_below size need ≡ true → some_below size eq ≡ leb n (farthest size need (λ j. agreement b m (code j) c))
  rows_left = sides_left size b m need code (λ _. c) n lt eq pos below (λ _. small) compared

  pub rows_final : (n ≡ m) ⊎ (some_below size eq ≡ false) → (j : ℕ) → j < size → (lt j ≡ (need j && ltb (code j) c)) × (eq j ≡ (need j && eqb (code j) c))
  rows_final = sides_final size b m need code (λ _. c) n lt eq pos below (λ _. small) compared

-- of two constants: whether a row is left for either
pub rows_left_of_two : (size n : ℕ) (need : ℕ → Bool) (left a b : ℕ → Bool) (agreed also : ℕ → ℕ)
    → ((j : ℕ) → j < size → left j ≡ (a j || b j))
    → ((j : ℕ) → j < size → a j ≡ (need j && leb n (agreed j))) → ((j : ℕ) → j < size → b j ≡ (need j && leb n (also j)))
    → some_below size need ≡ true → some_below size left ≡ leb n (farthest size need (λ j. max (agreed j) (also j)))
rows_left_of_two size n need left a b agreed also join first second some =
    left_is size n left need (λ j. max (agreed j) (also j)) (λ j h. join j h ∙ rw (first j h, second j h) (either (need j) (agreed j) (also j))) some
  where
    either : (d : Bool) (x y : ℕ) → ((d && leb n x) || (d && leb n y)) ≡ (d && leb n (max x y))
    either true x y = grind (arith, nat_tests)
    either false x y = refl

pub none_of_two : (size : ℕ) (left a b : ℕ → Bool) → ((j : ℕ) → j < size → left j ≡ (a j || b j)) → some_below size left ≡ false → (some_below size a ≡ false) × (some_below size b ≡ false)
none_of_two size left a b join none = (
  none_if size a (λ j h. or_left (a j) (b j) (sym (join j h) ∙ none_at size left none j h)),
  none_if size b (λ j h. or_right (a j) (b j) (sym (join j h) ∙ none_at size left none j h)),
)

-- a range by the masks of its two ends
pub within_ends : (below lt eq need : Bool) (x lo hi : ℕ) → below ≡ (need && ltb x lo) → lt ≡ (need && ltb x hi) → eq ≡ (need && eqb x hi) → ((lt || eq) && not below) ≡ (need && (leb lo x && leb x hi))
within_ends below lt eq need x lo hi a b c = rw (a, b, c) (ends need)
  where
    ends : (d : Bool) → (((d && ltb x hi) || (d && eqb x hi)) && not (d && ltb x lo)) ≡ (d && (leb lo x && leb x hi))
    ends true = grind (arith, nat_tests)
    ends false = refl
