-- The parts of a column of planes, where it stands first among bytes.
use Rattle.std.proofs.Common.{All, FitsSigned, List, Option, [], ap, append_assoc, arith, drop, drop-cons, fold, get_or, length, length-append, length-drop, length-take, refl, slice_index, subst, sym, take, take-append-drop, w64, ℕ, ℤ, ◌%◌, ◌*◌, ◌+◌, ◌++◌, ◌/◌, ◌<◌, ◌≡◌, ◌≤◌, ◌∙◌, ◌∷◌}
use Rattle.std.specs.Int.{cast_signed, cast_unsigned, int_max, int_min}
use Rattle.std.proofs.Math.Facts.{sfits_to_z}
use Rattle.std.proofs.lemmas.Int.{of_z-to_z}
use Rattle.byteorder.specs.Endian.{little_bytes, little_number}
use Rattle.byteorder.specs.Numbers.{little_from-lt}
use Rattle.bw_cells.specs.Known.{known}
use Rattle.bw_code.specs.Encodings.{bits_of, distance}
use Rattle.bw_file.specs.Cells.{presence_bytes, presence_size}
use Rattle.bw_file.specs.Planes.{IsWideCell, column_bytes, column_size, frame_of, plane_bytes}
use Rattle.bw_file.specs.declared.version.Version.TheVariants.{Second}
use Rattle.bw_file.proofs.FirstColumn.{fronts, length-column}
use Rattle.bw_file.proofs.Lent.{back_small}
use Rattle.bw_file.proofs.Frames.{is_framed}
use Rattle.bw_file.proofs.Places.{length-presence_bytes}
use Rattle.bw_file.proofs.PlaneColumns.{rest_parts}
use Rattle.bw_file.proofs.PlanePlaces.{length-planes}

-- eight bytes are those of their number
pub eight : (a b c d e f g h : ℕ) (rest : List ℕ) → a < 256 → b < 256 → c < 256 → d < 256 → e < 256 → f < 256 → g < 256 → h < 256
    → little_bytes 8 (little_number 8 (a ∷ b ∷ c ∷ d ∷ e ∷ f ∷ g ∷ h ∷ rest)) ≡ a ∷ b ∷ c ∷ d ∷ e ∷ f ∷ g ∷ h ∷ []
eight a b c d e f g h rest ha hb hc hd he hf hg hh =
    let n = a + 256 * (b + 256 * (c + 256 * (d + 256 * (e + 256 * (f + 256 * (g + 256 * (h + 256 * 0))))))) in
    let p0 : n % 256 ≡ a = omega arith in
    let p1 : n / 256 % 256 ≡ b = omega arith in
    let p2 : n / 65536 % 256 ≡ c = omega arith in
    let p3 : n / 16777216 % 256 ≡ d = omega arith in
    let p4 : n / 4294967296 % 256 ≡ e = omega arith in
    let p5 : n / 1099511627776 % 256 ≡ f = omega arith in
    let p6 : n / 281474976710656 % 256 ≡ g = omega arith in
    let p7 : n / 72057594037927936 % 256 ≡ h = omega arith in
    rw (p0, p1, p2, p3, p4, p5, p6, p7) refl

pub first_eight : (bytes : List ℕ) → ((k : ℕ) → slice_index bytes k < 256) → 8 ≤ length bytes → little_bytes 8 (little_number 8 bytes) ≡ take 8 bytes
first_eight (a ∷ b ∷ c ∷ d ∷ e ∷ f ∷ g ∷ h ∷ rest) small long = eight a b c d e f g h rest (small 0) (small 1) (small 2) (small 3) (small 4) (small 5) (small 6) (small 7)
first_eight [] small long = absurd (omega arith)
first_eight (a ∷ []) small long = absurd (omega arith)
first_eight (a ∷ b ∷ []) small long = absurd (omega arith)
first_eight (a ∷ b ∷ c ∷ []) small long = absurd (omega arith)
first_eight (a ∷ b ∷ c ∷ d ∷ []) small long = absurd (omega arith)
first_eight (a ∷ b ∷ c ∷ d ∷ e ∷ []) small long = absurd (omega arith)
first_eight (a ∷ b ∷ c ∷ d ∷ e ∷ f ∷ []) small long = absurd (omega arith)
first_eight (a ∷ b ∷ c ∷ d ∷ e ∷ f ∷ g ∷ []) small long = absurd (omega arith)

-- and of the integer that is read there
pub base_bytes : (bytes : List ℕ) → ((k : ℕ) → slice_index bytes k < 256) → 8 ≤ length bytes → little_bytes 8 (cast_unsigned w64 (cast_signed w64 (little_number 8 bytes))) ≡ take 8 bytes
base_bytes bytes small long = ap (little_bytes 8) (of_z-to_z w64 (little_number 8 bytes) (little_from-lt 0 8 bytes small)) ∙ first_eight bytes small long

-- the base, the width and the planes after the bits
pub after_bits : (rest behind : List ℕ) (base : ℤ) (width : ℕ) → 9 ≤ length rest → ((k : ℕ) → slice_index rest k < 256) → base ≡ cast_signed w64 (little_number 8 rest)
    → width ≡ get_or rest 8 0 → drop 9 rest ≡ behind → rest ≡ little_bytes 8 (cast_unsigned w64 base) ++ (width ∷ behind)
after_bits rest behind base width long small is wide next =
    let bytes : little_bytes 8 (cast_unsigned w64 base) ≡ take 8 rest = ap (λ z. little_bytes 8 (cast_unsigned w64 z)) is ∙ base_bytes rest small (omega (arith, long)) in
    let after : drop 8 rest ≡ get_or rest 8 0 ∷ drop 9 rest = drop-cons rest 8 0 (omega (arith, long)) in
    sym (take-append-drop 8 rest) ∙ ap (λ xs. xs ++ drop 8 rest) (sym bytes) ∙ ap (λ xs. little_bytes 8 (cast_unsigned w64 base) ++ xs) (after ∙ ap (λ w. w ∷ drop 9 rest) (sym wide) ∙ ap (λ xs. width ∷ xs) next)

-- what a column has where these parts stand
pub record AreParts (cells : List (Option ℤ)) (present : List ℕ) (base : ℤ) (width : ℕ) (rest : List ℕ) (tail : List ℕ) : Type 0 where
  pub bits : present ≡ presence_bytes (presence_size (length cells)) cells
  pub base_is : base ≡ (frame_of (known cells)).base
  pub width_is : width ≡ (frame_of (known cells)).width
  pub rest_is : rest ≡ plane_bytes (frame_of (known cells)).base (frame_of (known cells)).width (presence_size (length cells)) cells ++ tail

pub parts_are : (cells : List (Option ℤ)) (present rest tail : List ℕ) (base : ℤ) (width : ℕ) → All IsWideCell cells → FitsSigned w64 base → length present ≡ presence_size (length cells)
    → present ++ (little_bytes 8 (cast_unsigned w64 base) ++ (width ∷ rest)) ≡ column_bytes cells ++ tail → AreParts cells present base width rest tail
parts_are cells present rest tail base width all fits long same =
    let f = frame_of (known cells) in
    let p = presence_bytes (presence_size (length cells)) cells in
    let planes = plane_bytes f.base f.width (presence_size (length cells)) cells in
    let middle = little_bytes 8 (cast_unsigned w64 f.base) ++ (f.width ∷ planes) in
    let cut = fronts present p (little_bytes 8 (cast_unsigned w64 base) ++ (width ∷ rest)) (middle ++ tail) (long ∙ sym (length-presence_bytes (presence_size (length cells)) cells)) (same ∙ append_assoc p middle tail) in
    let parts = rest_parts (record { base = base; width = width }) f rest (planes ++ tail) fits (is_framed cells all).base (cut.1 ∙ append_assoc (little_bytes 8 (cast_unsigned w64 f.base)) (f.width ∷ planes) tail) in
    record { bits = cut.0; base_is = parts.0; width_is = parts.1; rest_is = parts.2 }

-- how long a column is at least
pub long_enough : (cells : List (Option ℤ)) (bytes tail : List ℕ) → bytes ≡ column_bytes cells ++ tail → 9 + presence_size (length cells) ≤ length bytes
long_enough cells bytes tail e =
    let size : length (column_bytes cells) ≡ column_size (frame_of (known cells)).width (length cells) = length-column Second cells in
    omega (arith, ap length e, length-append (column_bytes cells) tail, size)

few_bits : (n : ℕ) → bits_of n ≤ 64
unfolding bits_of
few_bits n = omega arith

pub few_wide : (values : List ℤ) → (frame_of values).width ≤ 64
few_wide [] = omega arith
few_wide (x ∷ xs) = few_bits (distance (fold int_max x xs) (fold int_min x xs))

-- bits, and after them the base, the width and the rest
module _ (bytes present rest : List ℕ) (size : ℕ) (base : ℤ) (width : ℕ) (small : (k : ℕ) → slice_index bytes k < 256) (front : present ≡ take size bytes) (back : rest ≡ drop size bytes)
    (room : size + 9 ≤ length bytes) (is : base ≡ cast_signed w64 (little_number 8 rest)) (wide : width ≡ get_or rest 8 0) where
  small_rest : (k : ℕ) → slice_index rest k < 256
  small_rest k = subst (λ xs. slice_index xs k < 256) (sym back) (back_small size bytes small k)

  long_rest : 9 ≤ length rest
  long_rest = omega (arith, ap length back, length-drop size bytes, room)

  pub joined : (behind : List ℕ) → drop 9 rest ≡ behind → bytes ≡ present ++ (little_bytes 8 (cast_unsigned w64 base) ++ (width ∷ behind))
  joined behind next =
      sym (take-append-drop size bytes) ∙ ap (λ xs. xs ++ drop size bytes) (sym front) ∙ ap (λ xs. present ++ xs) (sym back ∙ after_bits rest behind base width long_rest small_rest is wide next)

  pub told : (cells : List (Option ℤ)) (tail : List ℕ) → All IsWideCell cells → size ≡ presence_size (length cells) → bytes ≡ column_bytes cells ++ tail → AreParts cells present base width (drop 9 rest) tail
  told cells tail all count same =
      let fits : FitsSigned w64 base = subst (FitsSigned w64) (sym is) (sfits_to_z {w = w64} {n = little_number 8 rest} (omega (arith, little_from-lt 0 8 rest small_rest))) in
      let long : length present ≡ presence_size (length cells) = omega (arith, ap length front, length-take size bytes, room, count) in
      parts_are cells present (drop 9 rest) tail base width all fits long (sym (joined (drop 9 rest) refl) ∙ same)

-- the bytes after them are as many as the planes have
pub planes_there : (cells : List (Option ℤ)) (present rest tail : List ℕ) (base : ℤ) (width : ℕ) → AreParts cells present base width rest tail → width * presence_size (length cells) ≤ length rest
planes_there cells present rest tail base width are =
    let f = frame_of (known cells) in
    let planes = plane_bytes (frame_of (known cells)).base (frame_of (known cells)).width (presence_size (length cells)) cells in
    omega (arith, ap length are.rest_is, length-append planes tail, length-planes (frame_of (known cells)).base (frame_of (known cells)).width (presence_size (length cells)) cells, ap (λ k. k * presence_size (length cells)) are.width_is)
