-- The codes of two words added section by section.
use Rattle.std.proofs.Common.{Bool, ap, arith, bit_and, false, if◌then◌else◌, refl, sym, true, ℕ, ◌%◌, ◌+◌, ◌-◌, ◌<◌, ◌^◌, ◌≡◌, ◌∙◌}
use Rattle.std.proofs.Math.Nat.{add-mod-mod, mod-eq_of_lt}
use Rattle.std.proofs.lemmas.Nat.{and_le_l, and_mask, mod_below, pow_pos}
use Rattle.bw_lane.specs.Sections.{IsStored, section_of, sections_in}
use Rattle.bw_lane.proofs.Kernels.{doubled, room}
use Rattle.bw_lane.proofs.Sectionwise.{HoldsCodes, IsSectionwise, sectionwise}
use Rattle.bw_horizontal.proofs.Blends.{section_and}

holds : (k word : ℕ) → IsStored k word → HoldsCodes k (sections_in k) word
holds k word h = record { no_spare = h.no_spare; codes = h.codes }

-- two codes fit a section together, so that none is carried into the next
sum_sections : (k word more : ℕ) → IsStored k word → IsStored k more → IsSectionwise k (λ a b. a + b) (sections_in k) word more (word + more)
sum_sections k word more here there =
    sectionwise k (λ s x y. x + y) (λ a b. a + b) (omega arith) (λ s x y a b p q. omega arith) (λ a b p q. omega (arith, doubled k, p, q)) (sections_in k) word more (holds k word here) (holds k more there)

pub sum_fits : (k word more : ℕ) → IsStored k word → IsStored k more → word + more < 2 ^ 64
sum_fits k word more here there = omega (arith, (sum_sections k word more here there).no_spare, room k)

-- the bits of the codes of the sum
module _ (k word more codes : ℕ) (here : IsStored k word) (there : IsStored k more) (each : (t : ℕ) → t < sections_in k → section_of k t codes ≡ 2 ^ k - 1) where
  pub sum_at : (t : ℕ) → t < sections_in k → section_of k t (bit_and (word + more) codes) ≡ (section_of k t word + section_of k t more) % 2 ^ k
  sum_at t h =
      section_and k t (word + more) codes
      ∙ ap (bit_and (section_of k t (word + more))) (each t h)
      ∙ and_mask (section_of k t (word + more)) k
      ∙ ap (λ n. n % 2 ^ k) ((sum_sections k word more here there).each t h)

  pub sum_stored : IsStored k (bit_and (word + more) codes)
  sum_stored = record {
    no_spare = omega (arith, and_le_l (word + more) codes, (sum_sections k word more here there).no_spare);
    codes = λ t h. rw (sum_at t h) (mod_below (section_of k t word + section_of k t more) (2 ^ k) (pow_pos k));
  }

-- a code to which another is added if it is chosen
pub added_if : (b : Bool) (k a c sum : ℕ) → a < 2 ^ k → sum ≡ (a + c) % 2 ^ k → (if b then sum else a) ≡ (a + (if b then c else 0)) % 2 ^ k
added_if true k a c sum low is = is
added_if false k a c sum low is =
    let none : a + 0 ≡ a = omega arith in
    sym (ap (λ n. n % 2 ^ k) none ∙ mod-eq_of_lt low)

-- of what is added, the lowest bits are enough
pub lowest_added : (b : Bool) (k a by : ℕ) → (a + (if b then by % 2 ^ k else 0)) % 2 ^ k ≡ (a + (if b then by else 0)) % 2 ^ k
lowest_added true k a by = add-mod-mod a by (2 ^ k)
lowest_added false k a by = refl
