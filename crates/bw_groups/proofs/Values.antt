-- Values as integers, and as which of them are integers.
use Rattle.std.proofs.Common.{Bool, List, None, Option, Some, [], ap, arith, false, get_or, if◌then◌else◌, is_some, length, map, pos, refl, suc, sym, take, zero, ℕ, ℤ, ◌++◌, ◌<◌, ◌∙◌, ◌∷◌, ◌≡◌, ◌≤◌}
use Rattle.std.specs.Prelude.{unwrap_or}
use Rattle.std.proofs.lemmas.List.{ext_get_or, get_or-map, get_or-take, length-map, length-take-le}
use Rattle.bw_groups.specs.Values.{values_of}

pub values_length : (numbers : List ℤ) (known : List Bool) → length known ≡ length numbers → length (values_of numbers known) ≡ length numbers
values_length [] known e = refl
values_length (x ∷ numbers) [] e = absurd (omega (arith, e))
values_length (x ∷ numbers) (k ∷ known) e = ap suc (values_length numbers known (omega (arith, e)))

pub value_in : (numbers : List ℤ) (known : List Bool) (i : ℕ) → length known ≡ length numbers → i < length numbers → get_or (values_of numbers known) i None ≡ (if get_or known i false then Some (get_or numbers i (pos 0)) else None)
value_in [] known i e l = absurd (omega (arith, l))
value_in (x ∷ numbers) [] i e l = absurd (omega (arith, e))
value_in (x ∷ numbers) (k ∷ known) zero e l = refl
value_in (x ∷ numbers) (k ∷ known) (suc i) e l = value_in numbers known i (omega (arith, e)) (omega (arith, l))

abbrev pub number_of : Option ℤ → ℤ
number_of value = unwrap_or value (pos 0)

values_again : (run : List (Option ℤ)) → values_of (map number_of run) (map is_some run) ≡ run
values_again [] = refl
values_again (None ∷ run) = ap (λ vs. None ∷ vs) (values_again run)
values_again (Some x ∷ run) = ap (λ vs. Some x ∷ vs) (values_again run)

pub values_more : (numbers : List ℤ) (known : List Bool) (run : List (Option ℤ)) → length known ≡ length numbers → values_of (numbers ++ map number_of run) (known ++ map is_some run) ≡ values_of numbers known ++ run
values_more [] [] run e = values_again run
values_more [] (k ∷ known) run e = absurd (omega (arith, e))
values_more (x ∷ numbers) [] run e = absurd (omega (arith, e))
values_more (x ∷ numbers) (k ∷ known) run e = ap (λ vs. (if k then Some x else None) ∷ vs) (values_more numbers known run (omega (arith, e)))

-- the front of a list that was filled so far
pub front_is : {A : Type 0} (f : Option ℤ → A) (d : A) (run : List (Option ℤ)) (list : List A) → length run ≤ length list → ((k : ℕ) → k < length run → get_or list k d ≡ f (get_or run k None)) → take (length run) list ≡ map f run
front_is f d run list long each =
    let count = length-take-le (length run) list long in
    ext_get_or d (take (length run) list) (map f run) (count ∙ sym (length-map run f)) (λ k h.
    let low : k < length run = omega (arith, h, count) in
    get_or-take (length run) list k d low ∙ each k low ∙ sym (get_or-map f run k None d low))
