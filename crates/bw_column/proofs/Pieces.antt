-- What holds of a list, part by part.
use Rattle.std.proofs.Common.{All, List, drop, length, map, take, ap, subst, sym, ◌+◌, ◌≡◌, ◌≤◌, ◌∙◌, ℕ}
use Rattle.std.proofs.Math.Seq.{take-add}
use Rattle.std.proofs.lemmas.List.{drop-map, take-map, take_all}
use Rattle.std.proofs.lemmas.List.Elements.{All-append, All-drop, All-take}

pub all_more : {A : Type 0} (P : A → Type 0) (xs : List A) (at n : ℕ) → All P (take at xs) → All P (take n (drop at xs)) → All P (take (at + n) xs)
all_more P xs at n before here = rw (take-add at n xs) (All-append P (take at xs) (take n (drop at xs)) before here)

pub all_here : {A : Type 0} (P : A → Type 0) (xs : List A) (at n : ℕ) → All P xs → All P (take n (drop at xs))
all_here P xs at n all = All-take P n (drop at xs) (All-drop P at xs all)

pub all_of : {A : Type 0} (P : A → Type 0) (xs : List A) (n : ℕ) → length xs ≤ n → All P (take n xs) → All P xs
all_of P xs n h all = subst (All P) (take_all n xs h) all

-- a part of the results is the results of the part
pub map_part : {A B : Type 0} (f : A → B) (xs : List A) (at n : ℕ) → map f (take n (drop at xs)) ≡ take n (drop at (map f xs))
map_part f xs at n = sym (ap (take n) (drop-map f at xs) ∙ take-map f n (drop at xs))
