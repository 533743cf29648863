-- Words taken one section at a time, from the low end.
use Rattle.std.proofs.Common.{◌≡◌, ℕ, zero, suc, ◌+◌, ◌*◌, ◌/◌, ◌%◌, ◌^◌, ◌<◌, refl, sym, ap, subst, ◌∙◌, arith}
use Rattle.std.proofs.lemmas.Nat.{pow_pos, pow-add, shr-shr, shr_split, shr_below, shr_high, mod_low, mul-add-lt}
use Rattle.std.proofs.Math.Nat.{div-one}
use Rattle.bw_lane.specs.Sections.{section_of}

-- the base: what one section counts up to
abbrev pub base : ℕ → ℕ
base k = 2 ^ (k + 1)

pub section_first : (k n : ℕ) → section_of k 0 n ≡ n % base k
section_first k n = ap (λ e. n / 2 ^ e % base k) {x = 0 * (k + 1)} {y = 0} (omega arith) ∙ ap (λ m. m % base k) (div-one n)

pub section_next : (k t n : ℕ) → section_of k (suc t) n ≡ section_of k t (n / base k)
section_next k t n =
    let e : suc t * (k + 1) ≡ (k + 1) + t * (k + 1) = omega arith in
    ap (λ e. n / 2 ^ e % base k) e ∙ sym (ap (λ m. m % base k) (shr-shr n (k + 1) (t * (k + 1))))

pub room_more : (k s : ℕ) → 2 ^ (suc s * (k + 1)) ≡ 2 ^ (s * (k + 1)) * base k
room_more k s =
    let e : suc s * (k + 1) ≡ s * (k + 1) + (k + 1) = omega arith in
    ap (λ e. 2 ^ e) e ∙ pow-add 2 (s * (k + 1)) (k + 1)

-- the s lowest sections hold codes, and nothing is above them
pub record HoldsCodes (k s word : ℕ) : Type 0 where
  pub no_spare : word < 2 ^ (s * (k + 1))
  pub codes : (t : ℕ) → t < s → section_of k t word < 2 ^ k

-- the s lowest sections of out are f of those of x and y, and nothing is above them
pub record IsSectionwise (k : ℕ) (f : ℕ → ℕ → ℕ) (s x y out : ℕ) : Type 0 where
  pub no_spare : out < 2 ^ (s * (k + 1))
  pub each : (t : ℕ) → t < s → section_of k t out ≡ f (section_of k t x) (section_of k t y)

codes_above : (k s word : ℕ) → HoldsCodes k (suc s) word → HoldsCodes k s (word / base k)
codes_above k s word h = record {
  no_spare = shr_below word (s * (k + 1)) (k + 1) (subst (λ n. word < n) (room_more k s ∙ sym (pow-add 2 (s * (k + 1)) (k + 1))) (h.no_spare));
  codes = λ t lt. subst (λ n. n < 2 ^ k) (section_next k t word) (h.codes (suc t) (omega arith));
}

code_lowest : (k s word : ℕ) → HoldsCodes k (suc s) word → word % base k < 2 ^ k
code_lowest k s word h = subst (λ n. n < 2 ^ k) (section_first k word) (h.codes 0 (omega arith))

nothing : (k word : ℕ) → HoldsCodes k 0 word → word ≡ 0
nothing k word h =
    let e : 0 * (k + 1) ≡ 0 = omega arith in
    let lt : word < 1 = subst (λ n. word < 2 ^ n) e (h.no_spare) in
    omega arith

-- An operation on words that takes their lowest sections apart from the rest, with no carry between them, works section by section.
module _ (k : ℕ) (op : ℕ → ℕ → ℕ → ℕ) (f : ℕ → ℕ → ℕ)
    (none : op 0 0 0 ≡ 0)
    (more : (s x y a b : ℕ) → a < 2 ^ k → b < 2 ^ k → op (suc s) (x * base k + a) (y * base k + b) ≡ op s x y * base k + f a b)
    (fits : (a b : ℕ) → a < 2 ^ k → b < 2 ^ k → f a b < base k) where
  step : (s x y : ℕ) → x % base k < 2 ^ k → y % base k < 2 ^ k → op (suc s) x y ≡ op s (x / base k) (y / base k) * base k + f (x % base k) (y % base k)
  step s x y a b =
      ap (λ n. op (suc s) n y) (sym (shr_split x (k + 1)))
      ∙ ap (λ n. op (suc s) (x / base k * base k + x % base k) n) (sym (shr_split y (k + 1)))
      ∙ more s (x / base k) (y / base k) (x % base k) (y % base k) a b

  sections_from : (s x y out r : ℕ) → r < base k → r ≡ f (x % base k) (y % base k) → IsSectionwise k f s (x / base k) (y / base k) out
      → (t : ℕ) → t < suc s → section_of k t (out * base k + r) ≡ f (section_of k t x) (section_of k t y)
  sections_from s x y out r lt e rest zero h = rw (section_first k (out * base k + r), section_first k x, section_first k y, mod_low out (k + 1) r lt) e
  sections_from s x y out r lt e rest (suc t) h =
      rw (section_next k t (out * base k + r), section_next k t x, section_next k t y, shr_high out (k + 1) r lt) (rest.each t (omega arith))

  pub sectionwise : (s x y : ℕ) → HoldsCodes k s x → HoldsCodes k s y → IsSectionwise k f s x y (op s x y)
  sectionwise zero x y p q =
      let at : op 0 x y ≡ 0 = ap (λ n. op 0 n y) (nothing k x p) ∙ ap (λ n. op 0 0 n) (nothing k y q) ∙ none in
      record {
        no_spare = subst (λ n. n < 2 ^ (0 * (k + 1))) (sym at) (pow_pos (0 * (k + 1)));
        each = λ t h. absurd (omega arith);
      }
  sectionwise (suc s) x y p q =
      let a = code_lowest k s x p in
      let b = code_lowest k s y q in
      let below = fits _ _ a b in
      let rest = sectionwise s (x / base k) (y / base k) (codes_above k s x p) (codes_above k s y q) in
      subst (λ n. IsSectionwise k f (suc s) x y n) (sym (step s x y a b)) (record {
        no_spare = subst (λ n. op s (x / base k) (y / base k) * base k + f (x % base k) (y % base k) < n) (sym (room_more k s)) (omega (arith, mul-add-lt (op s (x / base k) (y / base k)) (base k) (f (x % base k) (y % base k)) (2 ^ (s * (k + 1))) rest.no_spare below));
        each = sections_from s x y (op s (x / base k) (y / base k)) (f (x % base k) (y % base k)) below refl rest;
      })
