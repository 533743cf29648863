-- Bytes spell one column.
use Rattle.std.proofs.Common.{All, List, None, Option, ap, arith, drop, FitsSigned, get_or, length, of_z, sym, take, to_z, w64, ℕ, ℤ, ◌++◌, ◌<◌, ◌≡◌, ◌∙◌, ◌∷◌}
use Rattle.std.specs.Int.{cast_unsigned}
use Rattle.std.proofs.Math.Facts.{Fits-lt-pow, Fits-of_z}
use Rattle.std.proofs.lemmas.Int.{to_z-of_z}
use Rattle.std.proofs.lemmas.List.{append_cancel_left, get_or_default, same_lists, take-append-le, take_all}
use Rattle.std.proofs.lemmas.List.Elements.{All-contains}
use Rattle.byteorder.specs.Endian.{little_bytes, little_number}
use Rattle.byteorder.specs.Numbers.{little_number-reads_back}
use Rattle.bw_cells.specs.Known.{known}
use Rattle.bw_cells.proofs.Known.{known_at}
use Rattle.bw_file.specs.Cells.{presence_bytes, presence_size}
use Rattle.bw_file.proofs.Places.{length-presence_bytes}
use Rattle.bw_file.specs.Planes.{Frame, IsWideCell, column_bytes, frame_of, plane_bytes, read_cell}
use Rattle.bw_file.proofs.Frames.{HasPlace, is_framed}
use Rattle.bw_file.proofs.PlanePlaces.{read-spelled}

-- the part of a column past the bits of its rows
abbrev rest_of : Frame → ℕ → List (Option ℤ) → List ℕ
rest_of frame size cells = little_bytes 8 (cast_unsigned w64 frame.base) ++ (frame.width ∷ plane_bytes frame.base frame.width size cells)

-- base, width and planes, by their bytes
pub rest_parts : (f g : Frame) (xs ys : List ℕ) → FitsSigned w64 f.base → FitsSigned w64 g.base
    → little_bytes 8 (cast_unsigned w64 f.base) ++ (f.width ∷ xs) ≡ little_bytes 8 (cast_unsigned w64 g.base) ++ (g.width ∷ ys) → (f.base ≡ g.base) × (f.width ≡ g.width) × (xs ≡ ys)
rest_parts f g xs ys p q e =
    let read : (z : ℤ) (tail : List ℕ) → FitsSigned w64 z → little_number 8 (little_bytes 8 (cast_unsigned w64 z) ++ tail) ≡ cast_unsigned w64 z = λ z tail fits.
    little_number-reads_back 8 (cast_unsigned w64 z) tail (Fits-lt-pow {w = w64} (Fits-of_z {w = w64} {z = z} fits)) in
    let number : of_z w64 f.base ≡ of_z w64 g.base = sym (read f.base (f.width ∷ xs) p) ∙ ap (little_number 8) e ∙ read g.base (g.width ∷ ys) q in
    let base : f.base ≡ g.base = sym (to_z-of_z w64 f.base p) ∙ ap (to_z w64) number ∙ to_z-of_z w64 g.base q in
    let tail : f.width ∷ xs ≡ g.width ∷ ys = ap (drop 8) e in
    (base, ap (λ l. get_or l 0 0) tail, ap (drop 1) tail)

-- what is read at a row of a column
pub read_back : (cells : List (Option ℤ)) → All IsWideCell cells → (i : ℕ) → i < length cells
    → read_cell (frame_of (known cells)).base (frame_of (known cells)).width (presence_size (length cells)) (presence_bytes (presence_size (length cells)) cells) (plane_bytes (frame_of (known cells)).base (frame_of (known cells)).width (presence_size (length cells)) cells) i ≡ get_or cells i None
read_back cells all i h =
    let f = frame_of (known cells) in
    let framed = is_framed cells all in
    read-spelled (frame_of (known cells)).base (frame_of (known cells)).width i cells h (λ z is.
    let place = All-contains (HasPlace (frame_of (known cells)).base (frame_of (known cells)).width) (known cells) z framed.places (known_at cells i z is) in
    (place.above, place.low))

pub same_column : (a b : List (Option ℤ)) → All IsWideCell a → All IsWideCell b → length a ≡ length b → column_bytes a ≡ column_bytes b → a ≡ b
same_column a b all also long columns =
    let size = presence_size (length b) in
    let f = frame_of (known a) in
    let g = frame_of (known b) in
    let whole : presence_bytes (presence_size (length b)) a ++ rest_of (frame_of (known a)) (presence_size (length b)) a ≡ presence_bytes (presence_size (length b)) b ++ rest_of (frame_of (known b)) (presence_size (length b)) b =
    ap (λ n. presence_bytes (presence_size n) a ++ rest_of (frame_of (known a)) (presence_size n) a) (sym long) ∙ columns in
    let present : presence_bytes (presence_size (length b)) a ≡ presence_bytes (presence_size (length b)) b =
    sym (take-append-le (presence_size (length b)) _ (rest_of (frame_of (known a)) (presence_size (length b)) a) (omega (arith, length-presence_bytes (presence_size (length b)) a)) ∙ take_all (presence_size (length b)) _ (omega (arith, length-presence_bytes (presence_size (length b)) a)))
    ∙ ap (take (presence_size (length b))) whole
    ∙ take-append-le (presence_size (length b)) _ (rest_of (frame_of (known b)) (presence_size (length b)) b) (omega (arith, length-presence_bytes (presence_size (length b)) b)) ∙ take_all (presence_size (length b)) _ (omega (arith, length-presence_bytes (presence_size (length b)) b)) in
    let rest : rest_of (frame_of (known a)) (presence_size (length b)) a ≡ rest_of (frame_of (known b)) (presence_size (length b)) b =
    append_cancel_left (presence_bytes (presence_size (length b)) b) _ _ (ap (λ ps. ps ++ rest_of (frame_of (known a)) (presence_size (length b)) a) (sym present) ∙ whole) in
    let parts = rest_parts (frame_of (known a)) (frame_of (known b)) _ _ (is_framed a all).base (is_framed b also).base rest in
    same_lists a b long (λ k d h.
    let there : k < length b = omega (arith, h, long) in
    get_or_default a k d None h ∙ sym (read_back a all k h)
    ∙ ap (λ n. read_cell (frame_of (known a)).base (frame_of (known a)).width (presence_size n) (presence_bytes (presence_size n) a) (plane_bytes (frame_of (known a)).base (frame_of (known a)).width (presence_size n) a) k) long
    ∙ ap (λ ps. read_cell (frame_of (known a)).base (frame_of (known a)).width (presence_size (length b)) ps (plane_bytes (frame_of (known a)).base (frame_of (known a)).width (presence_size (length b)) a) k) present
    ∙ ap (λ ps. read_cell (frame_of (known a)).base (frame_of (known a)).width (presence_size (length b)) (presence_bytes (presence_size (length b)) b) ps k) parts.2
    ∙ ap (λ z. read_cell z (frame_of (known a)).width (presence_size (length b)) (presence_bytes (presence_size (length b)) b) (plane_bytes (frame_of (known b)).base (frame_of (known b)).width (presence_size (length b)) b) k) parts.0
    ∙ ap (λ n. read_cell (frame_of (known b)).base n (presence_size (length b)) (presence_bytes (presence_size (length b)) b) (plane_bytes (frame_of (known b)).base (frame_of (known b)).width (presence_size (length b)) b) k) parts.1
    ∙ read_back b also k there ∙ get_or_default b k None d there)
