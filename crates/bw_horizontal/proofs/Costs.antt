-- What a segment costs: all its words where a row is needed, whatever the codes.
use Rattle.std.proofs.Common.{Bool, List, get_or, length, ap, arith, eqb, false, if◌then◌else◌, refl, true, ℕ, ◌*◌, ◌+◌, ◌<◌, ◌≡◌, ◌≤◌, ◌∙◌, inl, inr}
use mathlib.Core.Logic.{◌≢◌}
use Rattle.std.proofs.lemmas.Bool.{cases_lt}
use Rattle.std.proofs.lemmas.Nat.Bits.{bit_at-lt, bit_at-zero, same_from_bits}
use Rattle.bw_lane.specs.Sections.{on}
use Rattle.bw_code.specs.declared.compare.CodeTest.{CodeTest}
use Rattle.bw_code.specs.declared.compare.CodeTest.TheVariants.{None, All, Cmp, Range}
use Rattle.bw_code.specs.declared.kind.Layout.TheVariants.{H}
use Rattle.bw_code.specs.Meters.{raised}
use Rattle.bw_code.specs.Units.{by_words, cost_of, scan_units, segment_units, segments_of, side_units, some_below, units_of_pair, units_of_scan}
use Rattle.bw_code.proofs.Reach.{none_at, none_if}
use Rattle.bw_code.proofs.UnitLemmas.{cost_same, sum_same}
use Rattle.bw_horizontal.specs.Words.{segment_rows}

pub cost_by_need : (k : ℕ) (test : CodeTest) (f g : ℕ → Bool) (a b : ℕ → ℕ) → ((r : ℕ) → r < segment_rows k → f r ≡ g r) → segment_units (by_words k) test f a ≡ segment_units (by_words k) test g b
cost_by_need k None f g a b same = refl
cost_by_need k All f g a b same = refl
cost_by_need k (Cmp op c) f g a b same = cost_same (by_words k) f g (λ r. 0) (λ r. 0) same (λ r h. refl)
cost_by_need k (Range lo hi) f g a b same = cost_same (by_words k) f g (λ r. 0) (λ r. 0) same (λ r h. refl)

at_most : (b : Bool) (k : ℕ) → (if b then k + 1 else 0) ≤ k + 1
at_most true k = omega arith
at_most false k = omega arith

-- by the rows that are needed of a segment
module _ (k : ℕ) (needed : ℕ → Bool) (agreed : ℕ → ℕ) where
  pub words_most : cost_of (by_words k) needed agreed ≤ k + 1
  words_most = at_most (some_below (segment_rows k) needed) k

-- by the rows that are needed of a segment, as a word
module _ (k need : ℕ) (agreed : ℕ → ℕ) where
  pub words_none : need ≡ 0 → cost_of (by_words k) (on need) agreed ≡ 0
  words_none empty = rw (none_if (segment_rows k) (on need) (λ r h. rw empty (ap (λ b. eqb b 1) (bit_at-zero r)))) refl

  pub words_all : need ≢ 0 → ((r : ℕ) → segment_rows k ≤ r → on need r ≡ false) → cost_of (by_words k) (on need) agreed ≡ k + 1
  words_all some clean = by_cases (some_below (segment_rows k) (on need)) refl
    where
      by_cases : (b : Bool) → some_below (segment_rows k) (on need) ≡ b → (if some_below (segment_rows k) (on need) then k + 1 else 0) ≡ k + 1
      by_cases true e = rw e refl
      by_cases false e =
          absurd (some (same_from_bits need 0 (λ r.
          let out : on need r ≡ false = elim (cases_lt r (segment_rows k)) [ inl h ↦ none_at (segment_rows k) (on need) e r h | inr h ↦ clean r h ] in
          grind (arith, out, bit_at-lt need r, bit_at-zero r))))

pub cost_most : (k : ℕ) (test : CodeTest) (f : ℕ → Bool) (code : ℕ → ℕ) → segment_units (by_words k) test f code ≤ k + 1
cost_most k None f code = omega arith
cost_most k All f code = omega arith
cost_most k (Cmp op c) f code = words_most k f (λ r. 0)
cost_most k (Range lo hi) f code = words_most k f (λ r. 0)

module _ (k : ℕ) (test : CodeTest) (need : ℕ) (code : ℕ → ℕ) (not_none : test ≢ None) (not_all : test ≢ All) where
  cost_is : (t : CodeTest) → t ≢ None → t ≢ All → segment_units (by_words k) t (on need) code ≡ cost_of (by_words k) (on need) (λ r. 0)
  cost_is None one other = absurd (one refl)
  cost_is All one other = absurd (other refl)
  cost_is (Cmp op c) one other = refl
  cost_is (Range lo hi) one other = refl

  pub cost_none : need ≡ 0 → segment_units (by_words k) test (on need) code ≡ 0
  cost_none empty = cost_is test not_none not_all ∙ words_none k need (λ r. 0) empty

  pub cost_some : need ≢ 0 → ((r : ℕ) → segment_rows k ≤ r → on need r ≡ false) → segment_units (by_words k) test (on need) code ≡ k + 1
  cost_some some clean = cost_is test not_none not_all ∙ words_all k need (λ r. 0) some clean

-- what a scan of a column costs, by its words
pub units_are : (k n : ℕ) (test : CodeTest) (needed : ℕ → Bool) (codes : List ℕ) (code : ℕ → ℕ) → length codes ≡ n → units_of_scan H k test needed codes ≡ scan_units (by_words k) test needed code (segments_of (segment_rows k) n)
unfolding units_of_scan
units_are k n test needed codes code len =
    ap (λ m. scan_units (by_words k) test needed (λ i. get_or codes i 0) (segments_of (segment_rows k) m)) len
    ∙ sum_same (segments_of (segment_rows k) n) _ _ (λ q h. cost_by_need k test _ _ _ _ (λ r l. refl))

-- what a scan of two columns costs, by their words
pub pair_units_are : (k n : ℕ) (needed : ℕ → Bool) (codes others : List ℕ) (code other : ℕ → ℕ) → length codes ≡ n → units_of_pair H k needed codes others ≡ 2 * side_units (by_words k) needed code other (segments_of (segment_rows k) n)
unfolding units_of_pair
pair_units_are k n needed codes others code other len = ap (λ m. 2 * side_units (by_words k) needed code other (segments_of (segment_rows k) m)) len

pub raised_twice : (units more : ℕ) → raised (raised units more) more ≡ raised units (2 * more)
raised_twice units more = omega arith
