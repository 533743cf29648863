-- What a value that comes several times asks of an encoding, it asks once.
use Rattle.std.proofs.Common.{List, None, Option, Some, [], Contains, arith, get_or, inl, inr, length, refl, replicate, subst, sym, ℕ, ℤ, ◌++◌, ◌+◌, ◌-◌, ◌<◌, ◌∷◌, ◌↔◌, ◌≡◌, ◌≤ℤ◌, ◌∙◌}
use Rattle.std.specs.List.{All}
use Rattle.std.proofs.lemmas.Bool.{cases_lt}
use Rattle.std.proofs.lemmas.List.{get_or-append_right, get_or-replicate, get_or-append-add, get_or_append_left, get_or_past, length-replicate}
use Rattle.std.proofs.lemmas.List.Elements.{All-contains, All-contains_itself}
use Rattle.bw_cells.proofs.Known.{all_known, known_at}
use Rattle.bw_code.specs.Encodings.{IsFit, IsOffsetFit}
use Rattle.bw_code.specs.declared.encoding.Encoding.{Encoding}
use Rattle.bw_code.specs.declared.encoding.Encoding.TheVariants as by
use Rattle.bw_code.specs.declared.offset.Offset.{Offset}
use Rattle.bw_column.specs.Values.{known}

-- what does not hold of a value that comes n times, of which there is then one
pub some_times : {A : Type 0} (P : A → Type 0) (n : ℕ) (value : A) → (All P (replicate n value) → ⊥) → 0 < n
some_times P n value none =
    elim (cases_lt 0 n) [
      | inl h ↦ h
      | inr h ↦ absurd (none (λ k d l. absurd (omega (arith, l, h, length-replicate n value))))
    ]

pub once : {A : Type 0} (P : A → Type 0) (n : ℕ) (value : A) → 0 < n → All P (replicate n value) → P value
once P n value some all = subst P (get_or-replicate n 0 value value some) (all 0 value (omega (arith, some, length-replicate n value)))

all_alike : (P : ℤ → Type 0) (xs ys : List ℤ) → ((x : ℤ) → Contains ys x → Contains xs x) → All P xs → All P ys
all_alike P xs ys same all k d h = All-contains P xs (get_or ys k d) all (same (get_or ys k d) (All-contains_itself ys k d h))

-- an encoding fits by which values there are
offset_alike : (xs ys : List ℤ) (o : Offset) → ((x : ℤ) → (Contains xs x ↔ Contains ys x)) → IsOffsetFit xs o → IsOffsetFit ys o
offset_alike [] [] o same fit = fit
offset_alike [] (y ∷ ys) o same fit = absurd (let some = (same y).1 (0, omega arith, refl) in omega (arith, some.1))
offset_alike (x ∷ xs) [] o same fit = absurd (let some = (same x).0 (0, omega arith, refl) in omega (arith, some.1))
offset_alike (x ∷ xs) (y ∷ ys) o same fit = record {
  greatest = fit.greatest;
  starts = record { reached = (same o.base).0 fit.starts.reached; bound = all_alike (λ z. o.base ≤ℤ z) (x ∷ xs) (y ∷ ys) (λ z. (same z).1) fit.starts.bound };
  ends = record { reached = (same fit.greatest).0 fit.ends.reached; bound = all_alike (λ z. z ≤ℤ fit.greatest) (x ∷ xs) (y ∷ ys) (λ z. (same z).1) fit.ends.bound };
  wide = fit.wide;
}

pub fit_alike : (xs ys : List ℤ) (e : Encoding) → ((x : ℤ) → (Contains xs x ↔ Contains ys x)) → IsFit xs e → IsFit ys e
fit_alike xs ys (by.Offset o) same fit = offset_alike xs ys o same fit
fit_alike xs ys (by.Dictionary entries) same fit = record {
  ascending = fit.ascending;
  same = λ x. (λ h. (same x).0 ((fit.same x).0 h), λ h. (fit.same x).1 ((same x).1 h));
}

-- where a value of a list stands
abbrev Stands : List (Option ℤ) → ℤ → Type 0
Stands xs x = (i : ℕ) × (get_or xs i None ≡ Some x)

known_stands : (xs : List (Option ℤ)) (x : ℤ) → Contains (known xs) x → Stands xs x
known_stands xs x has = All-contains (Stands xs) (known xs) x (all_known (Stands xs) xs (λ i y is. (i, is))) has

known_alike : (xs ys : List (Option ℤ)) (x : ℤ) → (Stands xs x → Stands ys x) → Contains (known xs) x → Contains (known ys) x
known_alike xs ys x to has = let there = to (known_stands xs x has) in known_at ys there.0 x there.1

stands_in : (xs ys : List (Option ℤ)) (x : ℤ) → Stands xs x → Stands (xs ++ ys) x
stands_in xs ys x at =
    elim (cases_lt at.0 (length xs)) [
      | inl h ↦ (at.0, get_or_append_left xs ys None at.0 h ∙ at.1)
      | inr h ↦ let none : None ≡ Some x = sym (get_or_past xs at.0 None h) ∙ at.1 in absurd cc
    ]

module _ (old : List (Option ℤ)) (value : Option ℤ) (x : ℤ) where
  last : (n : ℕ) → 0 < n → value ≡ Some x → Stands (old ++ replicate n value) x
  last n some is = (length old + 0, get_or-append-add old (replicate n value) 0 None ∙ get_or-replicate n 0 value None some ∙ is)

  one_of : (m i : ℕ) → get_or (replicate m value) i None ≡ Some x → value ≡ Some x
  one_of m i is =
      elim (cases_lt i m) [
        | inl h ↦ sym (get_or-replicate m i value None h) ∙ is
        | inr h ↦ let none : None ≡ Some x = sym (get_or_past (replicate m value) i None (omega (arith, h, length-replicate m value))) ∙ is in absurd cc
      ]

  stands_times : (m n : ℕ) → 0 < n → Stands (old ++ replicate m value) x → Stands (old ++ replicate n value) x
  stands_times m n some at =
      elim (cases_lt at.0 (length old)) [
        | inl h ↦ stands_in old (replicate n value) x (at.0, sym (get_or_append_left old (replicate m value) None at.0 h) ∙ at.1)
        | inr h ↦ last n some (one_of m (at.0 - length old) (sym (get_or-append_right old (replicate m value) (length old) at.0 None refl h) ∙ at.1))
      ]

  known_times : (m n : ℕ) → 0 < n → Contains (known (old ++ replicate m value)) x → Contains (known (old ++ replicate n value)) x
  known_times m n some = known_alike (old ++ replicate m value) (old ++ replicate n value) x (stands_times m n some)

-- what fits a value once fits it several times
pub fit_times : (old : List (Option ℤ)) (value : Option ℤ) (n : ℕ) (e : Encoding) → 0 < n → IsFit (known (old ++ value ∷ [])) e → IsFit (known (old ++ replicate n value)) e
fit_times old value n e some fit = fit_alike (known (old ++ replicate 1 value)) (known (old ++ replicate n value)) e (λ x. (known_times old value x 1 n some, known_times old value x n 1 (omega arith))) fit
