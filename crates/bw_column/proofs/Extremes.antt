-- The least and the greatest of some codes, once one code more is looked at or passed over.
use Rattle.std.proofs.Common.{◌-◌, ap, subst, Bool, arith, false, inl, inr, max, min, sym, true, ℕ, ◌+◌, ◌<◌, ◌∙◌, ◌≡◌, ◌≤◌, ◌⊎◌, below_more}
use Rattle.std.proofs.lemmas.Bool.{cases_lt}
use Rattle.bw_column.specs.Extremes.{IsGreatestFrom, IsLeastFrom, IsReached}

still_reached : (n : ℕ) (marked : ℕ → Bool) (code : ℕ → ℕ) (x start : ℕ) → (x ≡ start) ⊎ IsReached n marked code x → (x ≡ start) ⊎ IsReached (n + 1) marked code x
still_reached n marked code x start (inl first) = inl first
still_reached n marked code x start (inr (i, low, is, here)) = inr (i, omega arith, is, here)

module _ (start n : ℕ) (marked : ℕ → Bool) (code : ℕ → ℕ) (old r : ℕ) where
  bound_by : (low : ℕ → ℕ → Type 0) → ((i : ℕ) → i < n → marked i ≡ true → low r (code i)) → (marked n ≡ true → low r (code n)) → (i : ℕ) → i < n + 1 → marked i ≡ true → low r (code i)
  bound_by low before here = below_more (λ i. marked i ≡ true → low r (code i)) n before here

  pub least_seen : IsLeastFrom start n marked code old → marked n ≡ true → r ≡ min old (code n) → IsLeastFrom start (n + 1) marked code r
  least_seen is there here = record {
    from = omega (arith, here, is.from);
    bound = bound_by (λ x y. x ≤ y) (λ i h m. omega (arith, here, is.bound i h m)) (λ m. omega (arith, here));
    reached =
        elim (cases_lt (code n) old) [
          | inl less ↦ inr (n, omega arith, there, omega (arith, here, less))
          | inr other ↦ still_reached n marked code r start (rw (the_old other) is.reached)
        ];
  }
    where
      the_old : old ≤ code n → r ≡ old
      the_old h = omega (arith, here, h)

  pub least_skipped : IsLeastFrom start n marked code old → marked n ≡ false → r ≡ old → IsLeastFrom start (n + 1) marked code r
  least_skipped is away here = rw here (record {
    from = is.from;
    bound = below_more (λ i. marked i ≡ true → old ≤ code i) n is.bound (λ m. absurd (let both = sym away ∙ m in cc));
    reached = still_reached n marked code old start is.reached;
  })

  pub greatest_seen : IsGreatestFrom start n marked code old → marked n ≡ true → r ≡ max old (code n) → IsGreatestFrom start (n + 1) marked code r
  greatest_seen is there here = record {
    from = omega (arith, here, is.from);
    bound = bound_by (λ x y. y ≤ x) (λ i h m. omega (arith, here, is.bound i h m)) (λ m. omega (arith, here));
    reached =
        elim (cases_lt old (code n)) [
          | inl more ↦ inr (n, omega arith, there, omega (arith, here, more))
          | inr other ↦ still_reached n marked code r start (rw (the_old other) is.reached)
        ];
  }
    where
      the_old : code n ≤ old → r ≡ old
      the_old h = omega (arith, here, h)

  pub greatest_skipped : IsGreatestFrom start n marked code old → marked n ≡ false → r ≡ old → IsGreatestFrom start (n + 1) marked code r
  greatest_skipped is away here = rw here (record {
    from = is.from;
    bound = below_more (λ i. marked i ≡ true → code i ≤ old) n is.bound (λ m. absurd (let both = sym away ∙ m in cc));
    reached = still_reached n marked code old start is.reached;
  })

-- the same, once a run of codes more is looked at, whose extremes from there on are known
module _ (start a n : ℕ) (marked here : ℕ → Bool) (code run : ℕ → ℕ) (old r : ℕ) (same : (i : ℕ) → i < n → here i ≡ marked (a + i)) (codes : (i : ℕ) → i < n → run i ≡ code (a + i)) where
  reached_over : (x : ℕ) → ((old ≡ start) ⊎ IsReached a marked code old) → ((x ≡ old) ⊎ IsReached n here run x) → (x ≡ start) ⊎ IsReached (a + n) marked code x
  reached_over x before (inr (i, low, is, at)) = inr (a + i, omega arith, sym (same i low) ∙ is, sym (codes i low) ∙ at)
  reached_over x (inl first) (inl none) = inl (none ∙ first)
  reached_over x (inr (i, low, is, at)) (inl none) = inr (i, omega arith, is, at ∙ sym none)

  bound_over : (low : ℕ → Type 0) → ((i : ℕ) → i < a → marked i ≡ true → low (code i)) → ((i : ℕ) → i < n → here i ≡ true → low (run i)) → (i : ℕ) → i < a + n → marked i ≡ true → low (code i)
  bound_over low before behind i h m =
      elim (cases_lt i a) [
        | inl l ↦ before i l m
        | inr l ↦
            let at : a + (i - a) ≡ i = omega arith in
            let inside : i - a < n = omega arith in
            subst low (codes (i - a) inside ∙ ap code at) (behind (i - a) inside (same (i - a) inside ∙ ap marked at ∙ m))
      ]

  pub least_over : IsLeastFrom start a marked code old → IsLeastFrom old n here run r → IsLeastFrom start (a + n) marked code r
  least_over before more = record {
    from = omega (arith, before.from, more.from);
    bound = bound_over (λ x. r ≤ x) (λ i h m. omega (arith, before.bound i h m, more.from)) more.bound;
    reached = reached_over r before.reached more.reached;
  }

  pub greatest_over : IsGreatestFrom start a marked code old → IsGreatestFrom old n here run r → IsGreatestFrom start (a + n) marked code r
  greatest_over before more = record {
    from = omega (arith, before.from, more.from);
    bound = bound_over (λ x. x ≤ r) (λ i h m. omega (arith, before.bound i h m, more.from)) more.bound;
    reached = reached_over r before.reached more.reached;
  }
