-- Stretches of bytes that begin nothing.
use Rattle.std.proofs.Common.{◌≡◌, ℕ, zero, suc, ◌+◌, ◌-◌, ◌<◌, ◌≤◌, Bool, true, false, ◌&&◌, ◌||◌, ◌==◌, not, cond, List, [], ◌∷◌, length, take, slice_index, refl, sym, ap, ◌∙◌, arith}
use Rattle.std.proofs.lemmas.Bool.{and_from, false≢true}
use Rattle.std.proofs.lemmas.List.Sums.{prefix_len-le-length}
use Rattle.bw_split.specs.declared.progress.LexicalState.{LexicalState}
use Rattle.bw_split.specs.declared.progress.LexicalState.TheVariants.{Outside, Dash}
use Rattle.bw_split.specs.Ordinary.{is_special, specials, ordinary_len}
use Rattle.bw_split.specs.Splitting.{is_cut, next_state, opened_by, progress_from}
use Rattle.bw_split.specs.Stretches.{IsStretch, has_no_cut}
use Rattle.bw_split.proofs.SpecialBytes.{length_specials}
use Rattle.bw_split.proofs.StretchLemmas.{at}

-- the first of the bytes is seen here as it is outside texts and comments
abbrev Opens : LexicalState → List ℕ → Type 0
Opens state [] = Unit {0}
Opens state (b ∷ rest) = (next_state state b ≡ opened_by b) × (is_cut state b ≡ (b == 59))

or_parts : (a b : Bool) → (a || b) ≡ false → (a ≡ false) × (b ≡ false)
or_parts false b h = (refl, h)
or_parts true b h = absurd (false≢true (sym h))

-- a byte that begins nothing is no quote and no cut, and no `-` follows where it is one
record IsOrdinary (b : ℕ) (rest : List ℕ) : Type 0 where
  quote : (b == 39) ≡ false
  cut : (b == 59) ≡ false
  opens : Opens (opened_by b) rest

opens_after : (dash : Bool) (next : ℕ) (rest : List ℕ) → (dash && next == 45) ≡ false → Opens (cond dash Dash Outside) (next ∷ rest)
opens_after false next rest h = (refl, refl)
opens_after true next rest h = (rw h refl, refl)

plain_parts : (a b c : Bool) → not ((not a && not b) && not c) ≡ false → (a ≡ false) × (b ≡ false)
plain_parts false false c h = (refl, refl)
plain_parts false true c h = absurd (false≢true (sym h))
plain_parts true b c h = absurd (false≢true (sym h))

ordinary : (b : ℕ) (rest : List ℕ) → is_special b rest ≡ false → IsOrdinary b rest
ordinary b [] h = let both = plain_parts (b == 39) (b == 59) (b == 45) h in record { quote = both.0; cut = both.1; opens = tt }
ordinary b (next ∷ rest) h =
    let both = or_parts (b == 39 || b == 59) (b == 45 && next == 45) h in
    let first = or_parts (b == 39) (b == 59) both.0 in
    record { quote = first.0; cut = first.1; opens = rw first.0 (opens_after (b == 45) next rest both.1) }

-- the first byte is ordinary, and so are the others
first_ordinary : (t : Bool) (n m : ℕ) → suc n ≤ cond (cond t 1 0 == 0) (1 + m) 0 → (t ≡ false) × (n ≤ m)
first_ordinary false n m h = (refl, omega (arith, h))
first_ordinary true n m h = absurd (omega (arith, h))

-- the state after this many bytes
abbrev ends_at : LexicalState → List ℕ → ℕ → LexicalState
ends_at state bytes zero = state
ends_at state bytes (suc n) = opened_by (slice_index bytes n)

-- where this many bytes end, and that none of them cuts
record Goes (state after : LexicalState) (bytes : List ℕ) : Type 0 where
  uncut : has_no_cut (at state false) bytes ≡ true
  ends : progress_from (at state false) bytes ≡ at after false

same_end : (b : ℕ) (rest : List ℕ) (n : ℕ) → ends_at (opened_by b) rest n ≡ opened_by (slice_index (b ∷ rest) n)
same_end b rest zero = refl
same_end b rest (suc n) = refl

goes : (state : LexicalState) (bytes : List ℕ) (n : ℕ) → Opens state bytes → n ≤ ordinary_len bytes → Goes state (ends_at state bytes n) (take n bytes)
goes state bytes zero o h = record { uncut = refl; ends = refl }
goes state [] (suc n) o h = absurd (omega (arith, h))
goes state (b ∷ rest) (suc n) o h =
    let both = first_ordinary (is_special b rest) n (ordinary_len rest) h in
    let q = ordinary b rest both.0 in
    let more = goes (opened_by b) rest n q.opens both.1 in
    record {
      uncut = and_from _ _ (ap not (o.1 ∙ q.cut)) (ap (λ p. has_no_cut (at p false) (take n rest)) o.0 ∙ more.uncut);
      ends = ap (λ p. progress_from (at p false) (take n rest)) o.0 ∙ more.ends ∙ ap (λ p. at p false) (same_end b rest n);
    }

opens_outside : (bytes : List ℕ) → Opens Outside bytes
opens_outside [] = tt
opens_outside (b ∷ rest) = (refl, refl)

pub ordinary_within : (bytes : List ℕ) (n : ℕ) → n ≤ ordinary_len bytes → n ≤ length bytes
ordinary_within bytes n h = omega (arith, h, prefix_len-le-length (λ x. x == 0) (specials bytes), length_specials bytes)

pub ordinary_stretch : (bytes : List ℕ) (n : ℕ) → n ≤ ordinary_len bytes → 0 < n → IsStretch (at Outside false) bytes (record { len = n; progress = at (opened_by (slice_index bytes (n - 1))) false })
ordinary_stretch bytes zero h some = absurd (omega (arith, some))
ordinary_stretch bytes (suc n) h some =
    let g = goes Outside bytes (suc n) (opens_outside bytes) h in
    let last : suc n - 1 ≡ n = omega arith in
    record { within = ordinary_within bytes (suc n) h; uncut = g.uncut; ends = ap (λ k. at (opened_by (slice_index bytes k)) false) last ∙ sym g.ends }
