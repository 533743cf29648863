-- Planes appended to others.
use Rattle.std.proofs.Common.{List, [], ◌∷◌, ◌++◌, Vec, Global, ap, arith, get_or, inl, inr, length, refl, replicate, set, sym, ℕ, ◌%◌, ◌*◌, ◌+◌, ◌-◌, ◌/◌, ◌<◌, ◌≡◌, ◌≤◌, ◌∙◌}
use Rattle.std.proofs.Math.Seq.{map-set_same}
use Rattle.std.proofs.lemmas.Bool.{cases_eq, cases_lt}
use Rattle.std.proofs.lemmas.List.{get_or-append_right, get_or-replicate, get_or_append_left, get_or_past, get_or_push, length-replicate, length_push, map_push}
use Rattle.bw_vertical.specs.Storage.{lists, planes_in, word_of}
use Rattle.bw_vertical.proofs.Placing.{elsewhere, group_is, here}

pub empty_more : (vs : List (Vec (List ℕ) Global)) (v : Vec (List ℕ) Global) → v.items ≡ [] → ((g : ℕ) → get_or (lists vs) g [] ≡ []) → (g : ℕ) → get_or (lists (vs ++ v ∷ [])) g [] ≡ []
empty_more vs v e none g =
    ap (λ gs. get_or gs g []) (map_push (λ x. x.items) vs v ∙ ap (λ x. lists vs ++ x ∷ []) e)
    ∙ elim (cases_lt g (length (lists vs))) [
      | inl h ↦ get_or_append_left (lists vs) ([] ∷ []) [] g h ∙ none g
      | inr h ↦
          elim (cases_eq (length (lists vs)) g) [
            | inl q ↦ get_or_push (lists vs) [] [] g q
            | inr d ↦
                let past : length (lists vs ++ [] ∷ []) ≤ g = omega (arith, length_push (lists vs) []) in
                get_or_past (lists vs ++ [] ∷ []) g [] past
          ]
    ]

-- group g gets capacity and keeps its planes
module _ (vs : List (Vec (List ℕ) Global)) (g : ℕ) (v w : Vec (List ℕ) Global) (within : g < length vs) (read : v ≡ get_or vs g v) (same : w.items ≡ v.items) where
  pub lists_kept : lists (set vs g w) ≡ lists vs
  lists_kept = map-set_same (λ (x : Vec (List ℕ) Global). x.items) vs g w v (same ∙ ap (λ x. x.items) read)

zeros : (n i : ℕ) → ◌≡◌ {A = ℕ} (get_or (replicate n 0) i 0) 0
zeros n i =
    elim (cases_lt i n) [
      | inl h ↦ get_or-replicate n i 0 0 h
      | inr h ↦ get_or_past (replicate n 0) i 0 (omega (arith, length-replicate {A = ℕ} n 0))
    ]

-- planes of zeros change no word
pub zeros_behind : (xs : List (List ℕ)) (m a n : ℕ) → get_or (get_or (xs ++ replicate m (replicate 4 0)) a []) n 0 ≡ get_or (get_or xs a []) n 0
zeros_behind xs m a n =
    elim (cases_lt a (length xs)) [
      | inl h ↦ ap (λ p. get_or p n 0) (get_or_append_left xs (replicate m (replicate 4 0)) [] a h)
      | inr h ↦
          ap (λ p. get_or p n 0) (get_or-append_right xs (replicate m (replicate 4 0)) (length xs) a [] refl h)
          ∙ elim (cases_lt (a - length xs) m) [
            | inl l ↦ ap (λ p. get_or p n 0) (get_or-replicate m (a - length xs) (replicate 4 0) [] l) ∙ zeros 4 n
            | inr l ↦ ap (λ p. get_or p n 0) (get_or_past (replicate m (replicate 4 0)) (a - length xs) [] (omega (arith, length-replicate {A = List ℕ} m (replicate 4 0))))
          ]
          ∙ sym (ap (λ p. get_or p n 0) (get_or_past xs a [] h))
    ]

-- group g becomes a list of the same words
module _ (vs : List (Vec (List ℕ) Global)) (g : ℕ) (v w : Vec (List ℕ) Global) (within : g < length vs) (read : v ≡ get_or vs g v)
    (words : (a n : ℕ) → get_or (get_or w.items a []) n 0 ≡ get_or (get_or v.items a []) n 0) where
  pub words_kept : (k i n : ℕ) → word_of k (lists (set vs g w)) i n ≡ word_of k (lists vs) i n
  words_kept k i n =
      elim (cases_eq (i / 4) g) [
        | inl e ↦
            let a = n / 4 * planes_in k (i / 4) + i % 4 in
            let at = λ (xs : List (List ℕ)). get_or (get_or xs a []) (n % 4) 0 in
            ap (λ h. at (get_or (lists (set vs g w)) h [])) e ∙ ap at (here vs g v w within read) ∙ words a (n % 4)
            ∙ ap at (sym (group_is vs g v within read)) ∙ ap (λ h. at (get_or (lists vs) h [])) (sym e)
        | inr d ↦ ap (λ xs. get_or (get_or xs (n / 4 * planes_in k (i / 4) + i % 4) []) (n % 4) 0) (elsewhere vs g v w within read (i / 4) d)
      ]
