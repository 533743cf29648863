-- What a test of all rows tells, row by row.
use Rattle.std.proofs.Common.{Bool, List, arith, get_or, length, refl, slice_set, subst, sym, true, false, ℕ, ◌&&◌, ◌+◌, ◌<◌, ◌≡◌}
use Rattle.std.proofs.lemmas.List.{get_or-set_other, get_or-set_same}
use borrow.Author.Count.{below_more}

pub both : (a b : Bool) → (a && b) ≡ true → (a ≡ true) × (b ≡ true)
both true b h = (refl, h)
both false b h = cc

pub still : (a b : Bool) → a ≡ true → b ≡ true → (a && b) ≡ true
still true b h e = e
still false b h e = cc

-- one place more is filled
pub filled_more : {X : Type 0} (P : ℕ → X → Type 0) (xs : List X) (i : ℕ) (x d : X) → i < length xs → ((k : ℕ) → k < i → P k (get_or xs k d)) → P i x → (k : ℕ) → k < i + 1 → P k (get_or (slice_set xs i x) k d)
filled_more P xs i x d there before now =
    below_more (λ k. P k (get_or (slice_set xs i x) k d)) i (λ k h. subst (P k) (sym (get_or-set_other xs i k x d (omega arith))) (before k h)) (subst (P i) (sym (get_or-set_same xs i x d there)) now)
