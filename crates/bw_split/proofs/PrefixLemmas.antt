-- What is kept of a part.
use Rattle.std.proofs.Common.{◌≡◌, ℕ, ◌+◌, ◌-◌, ◌≤◌, Bool, false, ◌||◌, not, List, ◌++◌, length, take, min, nat_le, nat_lt, refl, sym, ap, ◌∙◌, arith, inl, inr, length-append, ltb-false}
use Rattle.std.proofs.Math.Seq.{take-append-add}
use Rattle.std.proofs.lemmas.Bool.{cases_lt, le-leb, le-ltb, lt-leb, lt-ltb}
use Rattle.std.proofs.lemmas.List.{length-take, length-take-le, take-append-le, take-take, take_all}
use Rattle.bw_split.specs.Prefixes.{Holds, longest_part}

-- no more than there is
take_min : (n : ℕ) (bytes : List ℕ) → take (min (length bytes) n) bytes ≡ take n bytes
take_min n bytes =
    elim (cases_lt n (length bytes)) [
      | inl less ↦ ap (λ k. take k bytes) (omega arith)
      | inr all ↦ take_all _ bytes (omega arith) ∙ sym (take_all n bytes all)
    ]

-- bytes are added as far as there is room
pub prefix_kept : (n m : ℕ) (prefix bytes : List ℕ) → length prefix ≤ n → m ≡ min (length bytes) (n - length prefix) → prefix ++ take m bytes ≡ take n (prefix ++ bytes)
prefix_kept n m prefix bytes short size =
    ap (λ k. prefix ++ take k bytes) size ∙ ap (λ l. prefix ++ l) (take_min (n - length prefix) bytes) ∙ sym (take-append-add prefix bytes (n - length prefix))
    ∙ ap (λ k. take k (prefix ++ bytes)) (omega arith)

-- the prefix of a part and more bytes have the same prefix as the part with them
prefix_more : (n : ℕ) (part bytes : List ℕ) → take n (take n part ++ bytes) ≡ take n (part ++ bytes)
prefix_more n part bytes =
    elim (cases_lt n (length part)) [
      | inl less ↦ take-append-le n (take n part) bytes (omega (arith, length-take-le n part (omega arith))) ∙ take-take n n part (omega arith) ∙ sym (take-append-le n part bytes (omega arith))
      | inr all ↦ ap (λ l. take n (l ++ bytes)) (take_all n part all)
    ]

not_le : (a n : ℕ) → not (nat_le a n) ≡ nat_lt n a
not_le a n =
    elim (cases_lt n a) [
      | inl less ↦ rw (lt-ltb n a less, lt-leb a n less) refl
      | inr all ↦ rw (le-ltb n a all, le-leb a n all) refl
    ]

longer_more : (n : ℕ) (part bytes : List ℕ) → (nat_lt n (length part) || not (nat_le (length (take n part) + length bytes) n)) ≡ nat_lt n (length (part ++ bytes))
longer_more n part bytes =
    elim (cases_lt n (length part)) [
      | inl less ↦ rw (lt-ltb n (length part) less) (sym (lt-ltb n (length (part ++ bytes)) (omega (arith, length-append part bytes))))
      | inr all ↦ rw (le-ltb n (length part) all, take_all n part all, length-append part bytes) (not_le (length part + length bytes) n)
    ]

-- what is held of a part, and bytes added as far as there is room
pub held_more : (part bytes prefix after : List ℕ) (longer fits : Bool) → Holds (record { bytes = prefix; is_longer = longer }) part → after ≡ take longest_part (prefix ++ bytes) → fits ≡ nat_le (length prefix + length bytes) longest_part → Holds (record { bytes = after; is_longer = longer || not fits }) (part ++ bytes)
held_more part bytes prefix after longer fits held is fit =
    record {
      bytes = is ∙ ap (λ l. take longest_part (l ++ bytes)) held.bytes ∙ prefix_more longest_part part bytes;
      is_longer = ap (λ t. t || not fits) held.is_longer ∙ ap (λ t. nat_lt longest_part (length part) || not t) (fit ∙ ap (λ l. nat_le (length l + length bytes) longest_part) held.bytes) ∙ longer_more longest_part part bytes;
    }

-- the whole part, where it isn't longer
pub held_whole : (part prefix : List ℕ) (longer : Bool) → Holds (record { bytes = prefix; is_longer = longer }) part → longer ≡ false → (length part ≤ longest_part) × (prefix ≡ part)
held_whole part prefix longer held fits =
    let short = ltb-false longest_part (length part) (sym held.is_longer ∙ fits) in
    (short, held.bytes ∙ take_all longest_part part short)

pub prefix_short : (prefix bytes after : List ℕ) → after ≡ take longest_part (prefix ++ bytes) → length after ≤ longest_part
prefix_short prefix bytes after is = omega (arith, ap length is, length-take longest_part (prefix ++ bytes))
