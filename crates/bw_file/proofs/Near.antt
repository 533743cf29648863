-- A column of planes as it is written.
use Rattle.std.proofs.Common.{All, FitsSigned, List, None, Option, Some, [], ap, append_assoc, arith, drop, drop-cons, get_or, length, pow_pos, refl, set, subst, sym, w64, ℕ, ℤ, ◌++◌, ◌<◌, ◌≡◌, ◌∙◌, ◌∷◌}
use Rattle.std.specs.Int.{cast_unsigned}
use Rattle.std.proofs.lemmas.Int.{ints}
use Rattle.std.proofs.lemmas.List.{drop_all, get_or-set_same, length-set}
use Rattle.std.proofs.lemmas.List.Elements.{All-contains, All-from_get_or, All-get_or}
use Rattle.byteorder.specs.Endian.{little_bytes}
use Rattle.bw_cells.specs.Known.{known}
use Rattle.bw_code.specs.Encodings.{IsWithin}
use Rattle.bw_code.specs.declared.offset.Offset.{Offset}
use Rattle.bw_cells.proofs.Known.{known_at}
use Rattle.bw_file.specs.Cells.{presence_bytes, presence_size}
use Rattle.bw_file.specs.Planes.{IsNear, IsWideCell, column_bytes, frame_of, plane_bytes}
use Rattle.bw_file.proofs.Frames.{HasPlace, is_framed}

-- each cell lies near above the base
pub near_all : (cells : List (Option ℤ)) → All IsWideCell cells → All (IsNear (frame_of (known cells)).base (frame_of (known cells)).width) cells
near_all cells all = All-from_get_or (IsNear (frame_of (known cells)).base (frame_of (known cells)).width) cells None (λ i h. go i h (get_or cells i None) refl)
  where
    go : (i : ℕ) → i < length cells → (c : Option ℤ) → get_or cells i None ≡ c → IsNear (frame_of (known cells)).base (frame_of (known cells)).width (get_or cells i None)
    go i h None e = rw e tt
    go i h (Some z) e =
        let place = All-contains (HasPlace (frame_of (known cells)).base (frame_of (known cells)).width) (known cells) z (is_framed cells all).places (known_at cells i z e) in
        let fits : FitsSigned w64 z = subst IsWideCell e (All-get_or IsWideCell cells i None h all) in
        rw e (fits, place.above, place.low)

-- so does each that has a code by an offset
pub near_within : (o : Offset) (cells : List (Option ℤ)) → All IsWideCell cells → All (IsWithin o) (known cells) → All (IsNear o.base o.width) cells
near_within o cells all within = All-from_get_or (IsNear o.base o.width) cells None (λ i h. go i h (get_or cells i None) refl)
  where
    go : (i : ℕ) → i < length cells → (c : Option ℤ) → get_or cells i None ≡ c → IsNear o.base o.width (get_or cells i None)
    go i h None e = rw e tt
    go i h (Some z) e =
        let place = All-contains (IsWithin o) (known cells) z within (known_at cells i z e) in
        let fits : FitsSigned w64 z = subst IsWideCell e (All-get_or IsWideCell cells i None h all) in
        rw e (fits, place.0, omega (arith, ints, place.0, place.1, pow_pos o.width))

pub last_of_nine : (xs : List ℕ) (x : ℕ) → length xs ≡ 9 → drop 8 (set xs 8 x) ≡ x ∷ []
last_of_nine xs x long =
    let there : 8 < length (set xs 8 x) = omega (arith, long, length-set xs 8 x) in
    drop-cons (set xs 8 x) 8 0 there ∙ ap (λ y. y ∷ drop 9 (set xs 8 x)) (get_or-set_same xs 8 x 0 (omega (arith, long))) ∙ ap (λ ys. x ∷ ys) (drop_all 9 (set xs 8 x) (omega (arith, long, length-set xs 8 x)))

-- bits, base, width and planes make a column
pub column_is : (cells : List (Option ℤ)) (rows : ℕ) (out present head planes last : List ℕ) (base : ℤ) (width : ℕ) → length cells ≡ rows → base ≡ (frame_of (known cells)).base → width ≡ (frame_of (known cells)).width
    → out ≡ present ++ (head ++ planes) → present ≡ presence_bytes (presence_size rows) cells → head ≡ little_bytes 8 (cast_unsigned w64 base) ++ last → last ≡ width ∷ [] → planes ≡ plane_bytes base width (presence_size rows) cells
    → out ≡ column_bytes cells
column_is cells rows out present head planes last base width count b w whole p h l q =
    let f = frame_of (known cells) in
    let start = presence_bytes (presence_size (length cells)) cells in
    let eight = little_bytes 8 (cast_unsigned w64 f.base) in
    whole ∙ ap (λ xs. xs ++ (head ++ planes)) (p ∙ ap (λ n. presence_bytes (presence_size n) cells) (sym count))
    ∙ ap (λ xs. start ++ (xs ++ planes)) (h ∙ ap (λ xs. little_bytes 8 (cast_unsigned w64 base) ++ xs) l ∙ ap (λ z. little_bytes 8 (cast_unsigned w64 z) ++ (width ∷ [])) b ∙ ap (λ k. eight ++ (k ∷ [])) w)
    ∙ ap (λ xs. start ++ ((eight ++ (f.width ∷ [])) ++ xs)) (q ∙ ap (λ z. plane_bytes z width (presence_size rows) cells) b ∙ ap (λ k. plane_bytes f.base k (presence_size rows) cells) w ∙ ap (λ n. plane_bytes f.base f.width (presence_size n) cells) (sym count))
    ∙ ap (λ xs. start ++ xs) (append_assoc eight (f.width ∷ []) (plane_bytes f.base f.width (presence_size (length cells)) cells))
