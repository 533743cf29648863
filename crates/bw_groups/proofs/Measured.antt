-- Runs that are measured: their values by bits and distances.
use Rattle.std.proofs.Common.{All, FitsSigned, List, None, Option, Some, [], ap, arith, cond, false, get_or, inl, inr, is_some, length, length-append, nat_lt, of_z, pos, refl, set, suc, sym, to_z, true, w64, zero, ℕ, ℤ, ◌%◌, ◌++◌, ◌+◌, ◌<◌, ◌^◌, ◌∙◌, ◌∷◌, ◌≡◌}
use Rattle.std.proofs.Math.Seq.{get_or-append_seam}
use Rattle.std.proofs.lemmas.Bool.{cases_lt, true≢false}
use Rattle.std.proofs.lemmas.Int.{ints, to_z-of_z}
use Rattle.std.proofs.lemmas.List.{get_or-append-add, get_or-set_other, get_or_append_left, get_or_past}
use Rattle.std.proofs.lemmas.Grind.{get_or-set_at}
use Rattle.std.proofs.lemmas.List.Elements.{All-contains, filter_map-append}
use Rattle.bw_mask.specs.Masks.{bit_of}
use Rattle.bw_cells.specs.Distances.{distance_from}
use Rattle.bw_cells.specs.SetFunctions.{known}
use Rattle.bw_cells.proofs.Known.{known_at}
use Rattle.bw_groups.specs.Runs.{AreFilled, IsMeasured, values_in}
use Rattle.bw_groups.specs.Scales.{IsBelowNull, number_on}

-- values that were put, once the place behind them is written
module _ (base : ℤ) (run : List (Option ℤ)) (len : ℕ) (distances bytes : List ℕ) (are : AreFilled base run len distances bytes) (long : length distances ≡ 64) (wide : length bytes ≡ 64) (room : len < 64) (distance byte : ℕ) where
  before_byte : (i : ℕ) → i < length run → nat_lt 0 (get_or (set bytes len byte) i 0) ≡ is_some (get_or run i None)
  before_byte i h = ap (nat_lt 0) (get_or-set_other bytes len i byte 0 (omega (arith, h, are.long))) ∙ are.there i h

  before_far : (i : ℕ) → i < length run → get_or (set distances len distance) i 0 ≡ distance_from base (get_or run i None)
  before_far i h = get_or-set_other distances len i distance 0 (omega (arith, h, are.long)) ∙ are.far i h

  pub still_filled : AreFilled base run len (set distances len distance) (set bytes len byte)
  still_filled = record {
    few = are.few;
    long = are.long;
    fits = are.fits;
    there = before_byte;
    far = before_far;
  }

  module _ (value : Option ℤ) where
    abbrev more : List (Option ℤ)
    more = run ++ value ∷ []

    count : length more ≡ len + 1
    count = omega (arith, length-append run (value ∷ []), are.long)

    front : (i : ℕ) → i < len → get_or more i None ≡ get_or run i None
    front i h = get_or_append_left run (value ∷ []) None i (omega (arith, h, are.long))

    last : (i : ℕ) → i ≡ len → get_or more i None ≡ value
    last i h = ap (λ j. get_or more j None) (omega (arith, h, are.long)) ∙ get_or-append_seam run value [] None

    past : (i : ℕ) → len < i → get_or more i None ≡ None
    past i h = get_or_past more i None (omega (arith, h, count))

    pub filled_more : ((x : ℤ) → value ≡ Some x → FitsSigned w64 x) → distance ≡ distance_from base value → nat_lt 0 byte ≡ is_some value → AreFilled base more (len + 1) (set distances len distance) (set bytes len byte)
    filled_more fit far there = record {
      few = omega (arith, count, room);
      long = sym count;
      fits = λ i x is. elim (cases_lt i len) [
        | inl low ↦ are.fits i x (sym (front i low) ∙ is)
        | inr high ↦ elim (cases_lt len i) [
          | inl over ↦ absurd (let none = past i over in cc)
          | inr upto ↦ fit x (sym (last i (omega (arith, high, upto))) ∙ is)
        ]
      ];
      there = λ i h. elim (cases_lt i len) [
        | inl low ↦ before_byte i (omega (arith, low, are.long)) ∙ ap is_some (sym (front i low))
        | inr high ↦
            let here : i ≡ len = omega (arith, h, count, high) in
            ap (nat_lt 0) (get_or-set_at bytes len i byte 0 here (omega (arith, room, wide))) ∙ there ∙ ap is_some (sym (last i here))
      ];
      far = λ i h. elim (cases_lt i len) [
        | inl low ↦ before_far i (omega (arith, low, are.long)) ∙ ap (distance_from base) (sym (front i low))
        | inr high ↦
            let here : i ≡ len = omega (arith, h, count, high) in
            get_or-set_at distances len i distance 0 here (omega (arith, room, long)) ∙ far ∙ ap (distance_from base) (sym (last i here))
      ];
    }

-- no values
pub none_filled : (base : ℤ) (distances bytes : List ℕ) → AreFilled base [] 0 distances bytes
none_filled base distances bytes = record {
  few = omega arith;
  long = refl;
  fits = λ i x is. absurd cc;
  there = λ i h. absurd (omega (arith, h));
  far = λ i h. absurd (omega (arith, h));
}

pub none_measured : (base : ℤ) (present : ℕ) (distances : List ℕ) → IsMeasured base [] 0 present distances
none_measured base present distances = record {
  few = omega arith;
  long = refl;
  fits = λ i x is. absurd cc;
  there = λ i h. absurd (omega (arith, h));
  far = λ i h. absurd (omega (arith, h));
}

-- bits in place of the bytes
pub by_bits : (base : ℤ) (run : List (Option ℤ)) (len present : ℕ) (distances bytes : List ℕ) → AreFilled base run len distances bytes → ((i : ℕ) → i < 64 → bit_of present i ≡ nat_lt 0 (get_or bytes i 0)) → IsMeasured base run len present distances
by_bits base run len present distances bytes are bits = record {
  few = are.few;
  long = are.long;
  fits = are.fits;
  there = λ i h. bits i (omega (arith, h, are.few)) ∙ are.there i h;
  far = are.far;
}

-- values by their distances from 0
module _ (run : List (Option ℤ)) (len present : ℕ) (distances : List ℕ) (m : IsMeasured (pos 0) run len present distances) (i : ℕ) (h : i < length run) where
  pub measured_some : bit_of present i ≡ true → get_or run i None ≡ Some (to_z w64 (get_or distances i 0))
  measured_some there = by (get_or run i None) (λ x is. m.fits i x is) (sym (m.there i h) ∙ there) (m.far i h)
    where
      by : (v : Option ℤ) → ((x : ℤ) → v ≡ Some x → FitsSigned w64 x) → is_some v ≡ true → get_or distances i 0 ≡ distance_from (pos 0) v → v ≡ Some (to_z w64 (get_or distances i 0))
      by None fit some far = absurd (true≢false (sym some))
      by (Some x) fit some far =
          let own : FitsSigned w64 x = fit x refl in
          let whole : distance_from (pos 0) (Some x) ≡ of_z w64 x = omega (arith, ints, own) in
          sym (ap (λ n. Some (to_z w64 n)) (far ∙ whole) ∙ ap (λ y. Some y) (to_z-of_z w64 x own))

  pub measured_none : bit_of present i ≡ false → get_or run i None ≡ None
  measured_none away = by (get_or run i None) (sym (m.there i h) ∙ away)
    where
      by : (v : Option ℤ) → is_some v ≡ false → v ≡ None
      by None none = refl
      by (Some x) none = absurd (true≢false none)

-- values by their distances from the least of a scale
module _ (least : ℤ) (null : ℕ) (narrow : null < 2 ^ 32) (low : FitsSigned w64 least) (run : List (Option ℤ)) (len present : ℕ) (distances : List ℕ) (m : IsMeasured least run len present distances) (all : All (IsBelowNull least null) (known run)) where
  number_of_value : (v : Option ℤ) → ((x : ℤ) → v ≡ Some x → FitsSigned w64 x) → ((x : ℤ) → v ≡ Some x → IsBelowNull least null x) → cond (is_some v) (distance_from least v % 2 ^ 32) null ≡ number_on least null v
  number_of_value None fit below = refl
  number_of_value (Some x) fit below =
      let own : FitsSigned w64 x = fit x refl in
      let here : IsBelowNull least null x = below x refl in
      omega (arith, ints, narrow, low, own, here.0, here.1)

  pub measured_number : (i : ℕ) → i < length run → cond (bit_of present i) (get_or distances i 0 % 2 ^ 32) null ≡ number_on least null (get_or run i None)
  measured_number i h =
      ap (λ b. cond b (get_or distances i 0 % 2 ^ 32) null) (m.there i h)
      ∙ ap (λ n. cond (is_some (get_or run i None)) (n % 2 ^ 32) null) (m.far i h)
      ∙ number_of_value (get_or run i None) (λ x is. m.fits i x is) (λ x is. All-contains (IsBelowNull least null) (known run) x all (known_at run i x is))

-- what holds of all values holds of those of a run
module _ (P : ℤ → Type 0) where
  left : (xs ys : List ℤ) → All P (xs ++ ys) → All P xs
  left xs ys all k d l = rw (← get_or_append_left xs ys d k l) (all k d (omega (arith, l, length-append xs ys)))

  right : (xs ys : List ℤ) → All P (xs ++ ys) → All P ys
  right xs ys all k d l = rw (← get_or-append-add xs ys k d) (all (length xs + k) d (omega (arith, l, length-append xs ys)))

  pub run_known : (runs : List (List (Option ℤ))) (q : ℕ) → q < length runs → All P (known (values_in runs)) → All P (known (get_or runs q []))
  run_known [] q low all = absurd (omega (arith, low))
  run_known (run ∷ runs) zero low all = left (known run) (known (values_in runs)) (rw (← filter_map-append (λ (value : Option ℤ). value) run (values_in runs)) all)
  run_known (run ∷ runs) (suc q) low all = run_known runs q (omega (arith, low)) (right (known run) (known (values_in runs)) (rw (← filter_map-append (λ (value : Option ℤ). value) run (values_in runs)) all))
