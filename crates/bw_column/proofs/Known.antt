-- Where the values that are not null have codes, all have.
use Rattle.std.proofs.Common.{◌≡◌, ℕ, suc, zero, ℤ, ◌+◌, List, [], ◌∷◌, ◌++◌, length, get_or, refl, ap, ◌∙◌, arith, length-append, Option, Some, None}
use Rattle.std.specs.List.{All}
use Rattle.std.proofs.lemmas.List.{get_or_append_left, get_or-append_right}
use Rattle.std.proofs.lemmas.List.Elements.{All-head, All-tail}
use Rattle.bw_code.specs.Encodings.{HasCode}
use Rattle.bw_code.specs.declared.encoding.Encoding.{Encoding}
use Rattle.bw_cells.specs.Known.{known}
use Rattle.bw_column.specs.Codes.{IsCoded}

pub all_coded : (e : Encoding) (xs : List (Option ℤ)) → All (HasCode e) (known xs) → All (IsCoded e) xs
all_coded e [] h k d l = absurd (omega arith)
all_coded e (None ∷ xs) h zero d l = tt
all_coded e (None ∷ xs) h (suc k) d l = all_coded e xs h k d (omega arith)
all_coded e (Some x ∷ xs) h zero d l = All-head (HasCode e) x (known xs) h
all_coded e (Some x ∷ xs) h (suc k) d l = all_coded e xs (All-tail (HasCode e) x (known xs) h) k d (omega arith)

-- of two lists, one after the other
pub both_coded : (e : Encoding) (xs ys : List (Option ℤ)) (zs : List ℤ) → zs ≡ known (xs ++ ys) → All (HasCode e) zs → All (IsCoded e) xs × All (IsCoded e) ys
both_coded e xs ys zs same h =
    let all = all_coded e (xs ++ ys) (rw same at h) in (
      λ k d l. rw (← get_or_append_left xs ys d k l) (all k d (omega (arith, length-append xs ys))),
      λ k d l.
          let here : get_or (xs ++ ys) (length xs + k) d ≡ get_or ys k d = get_or-append_right xs ys (length xs) (length xs + k) d refl (omega arith) ∙ ap (λ (j : ℕ). get_or ys j d) (omega arith) in
          rw (← here) (all (length xs + k) d (omega (arith, length-append xs ys))),
    )
