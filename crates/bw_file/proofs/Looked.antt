-- What was looked at in a column of planes, and what it tells.
use Rattle.std.proofs.Common.{All, FitsSigned, List, Option, ap, arith, get_or, inl, inr, length, of_z, subst, sym, to_z, w64, ℕ, ℤ, ◌*◌, ◌+◌, ◌++◌, ◌<◌, ◌≡◌, ◌∙◌, ◌∷◌, slice_index, append_assoc}
use Rattle.std.specs.Int.{cast_unsigned}
use Rattle.std.proofs.Math.ListN.{get_or-eq_default}
use Rattle.std.proofs.lemmas.Bool.{cases_lt}
use Rattle.std.proofs.lemmas.Int.{to_z-of_z}
use Rattle.std.proofs.lemmas.List.{get_or-append-add, get_or_append_left}
use Rattle.byteorder.specs.Endian.{little_bytes}
use Rattle.bw_cells.specs.Known.{known}
use Rattle.bw_code.specs.Encodings.{IsOffsetFit}
use Rattle.bw_code.specs.declared.offset.Offset.{Offset}
use Rattle.bw_file.specs.Cells.{presence_bytes, presence_size}
use Rattle.bw_file.specs.Planes.{ArePlanes, IsWideCell, cells_in, column_bytes, frame_of, plane_bytes}
use Rattle.bw_file.proofs.Complete.{are_planes, cells_back}
use Rattle.bw_file.proofs.FirstColumn.{fronts}
use Rattle.bw_file.proofs.Frames.{frame_fits}
use Rattle.bw_file.proofs.Parts.{AreParts, parts_are}
use Rattle.bw_file.proofs.PlaneEnds.{length-plane_cells}
use Rattle.bw_file.proofs.PlanePlaces.{length-planes}
use Rattle.bw_file.proofs.Spelled.{planes-spelled, presence-spelled}

-- integers by their words
pub same_integer : (x y : ℤ) → FitsSigned w64 x → FitsSigned w64 y → of_z w64 x ≡ of_z w64 y → x ≡ y
same_integer x y p q e = sym (to_z-of_z w64 x p) ∙ ap (to_z w64) e ∙ to_z-of_z w64 y q

-- parts of bytes are bytes
pub small_front : (a b bytes : List ℕ) → bytes ≡ a ++ b → ((k : ℕ) → slice_index bytes k < 256) → (k : ℕ) → slice_index a k < 256
small_front a b bytes e small k =
    elim (cases_lt k (length a)) [
      | inl here ↦ subst (λ x. x < 256) (ap (λ xs. get_or xs k 0) e ∙ get_or_append_left a b 0 k here) (small k)
      | inr past ↦ subst (λ x. x < 256) (sym (get_or-eq_default a 0 past)) (omega arith)
    ]

pub small_back : (a b bytes : List ℕ) → bytes ≡ a ++ b → ((k : ℕ) → slice_index bytes k < 256) → (k : ℕ) → slice_index b k < 256
small_back a b bytes e small k = subst (λ x. x < 256) (ap (λ xs. get_or xs (length a + k) 0) e ∙ get_or-append-add a b k 0) (small (length a + k))

-- where bytes are those of a column
module _ (rows : ℕ) (bytes present planes after tail : List ℕ) (base : ℤ) (width : ℕ) (cells : List (Option ℤ)) (count : length cells ≡ rows) (all : All IsWideCell cells) (fits : FitsSigned w64 base)
    (bits : length present ≡ presence_size rows) (long : length planes ≡ width * presence_size rows)
    (spelled : bytes ≡ present ++ (little_bytes 8 (cast_unsigned w64 base) ++ (width ∷ (planes ++ after)))) (same : bytes ≡ column_bytes cells ++ tail) where
  size : presence_size rows ≡ presence_size (length cells)
  size = ap presence_size (sym count)

  are : AreParts cells present base width (planes ++ after) tail
  are = parts_are cells present (planes ++ after) tail base width all fits (bits ∙ size) (sym spelled ∙ same)

  planes_are : planes ≡ plane_bytes (frame_of (known cells)).base (frame_of (known cells)).width (presence_size (length cells)) cells
  planes_are =
      (fronts planes (plane_bytes (frame_of (known cells)).base (frame_of (known cells)).width (presence_size (length cells)) cells) after tail
      (long ∙ ap (λ k. k * presence_size rows) are.width_is ∙ ap (λ n. (frame_of (known cells)).width * n) size ∙ sym (length-planes (frame_of (known cells)).base (frame_of (known cells)).width (presence_size (length cells)) cells))
      are.rest_is).0

  pub that_presence : present ≡ presence_bytes (presence_size rows) cells
  that_presence = are.bits ∙ ap (λ n. presence_bytes n cells) (sym size)

  pub that_planes : ArePlanes rows width present planes
  that_planes =
      subst (λ n. ArePlanes n width present planes) count
      (rw (are.bits, planes_are, are.width_is) (are_planes (frame_of (known cells)).base (frame_of (known cells)).width cells))

  pub that_cells : cells_in rows base width present planes ≡ cells
  that_cells =
      ap (λ n. cells_in n base width present planes) (sym count)
      ∙ rw (are.bits, planes_are, are.width_is, are.base_is) (cells_back cells all)

  pub that_base : (o : Offset) → IsOffsetFit (known (cells_in rows base width present planes)) o → o.base ≡ base
  that_base o fit = (frame_fits (known cells) o (subst (λ xs. IsOffsetFit (known xs) o) that_cells fit)).0 ∙ sym are.base_is

  pub that_width : (o : Offset) → IsOffsetFit (known (cells_in rows base width present planes)) o → o.width ≡ width
  that_width o fit = (frame_fits (known cells) o (subst (λ xs. IsOffsetFit (known xs) o) that_cells fit)).1 ∙ sym are.width_is

-- where base and width are those of the cells that are read
pub column_spelled : (rows : ℕ) (bytes present planes after : List ℕ) (base : ℤ) (width : ℕ) (o : Offset) → ArePlanes rows width present planes → ((k : ℕ) → slice_index present k < 256) → ((k : ℕ) → slice_index planes k < 256)
    → bytes ≡ present ++ (little_bytes 8 (cast_unsigned w64 base) ++ (width ∷ (planes ++ after)))
    → IsOffsetFit (known (cells_in rows base width present planes)) o → o.base ≡ base → o.width ≡ width → bytes ≡ column_bytes (cells_in rows base width present planes) ++ after
column_spelled rows bytes present planes after base width o are small low spelled fit same_base same_width =
    let cells = cells_in rows base width present planes in
    let f = frame_of (known cells) in
    let long : length cells ≡ rows = length-plane_cells rows base width present planes in
    let fits = frame_fits (known cells) o fit in
    let z : base ≡ f.base = sym same_base ∙ fits.0 in
    let k : width ≡ f.width = sym same_width ∙ fits.1 in
    let p : present ≡ presence_bytes (presence_size (length cells)) cells = presence-spelled rows base width present planes are small ∙ ap (λ n. presence_bytes (presence_size n) cells) (sym long) in
    let q : planes ≡ plane_bytes f.base f.width (presence_size (length cells)) cells =
    planes-spelled rows base width present planes are low ∙ ap (λ b. plane_bytes b width (presence_size rows) cells) z ∙ ap (λ w. plane_bytes f.base w (presence_size rows) cells) k ∙ ap (λ n. plane_bytes f.base f.width (presence_size n) cells) (sym long) in
    let head = little_bytes 8 (cast_unsigned w64 f.base) in
    spelled ∙ ap (λ b. present ++ (little_bytes 8 (cast_unsigned w64 b) ++ (width ∷ (planes ++ after)))) z
    ∙ ap (λ w. present ++ (head ++ (w ∷ (planes ++ after)))) k
    ∙ ap (λ xs. present ++ xs) (sym (append_assoc head (f.width ∷ planes) after))
    ∙ sym (append_assoc present (head ++ (f.width ∷ planes)) after)
    ∙ ap (λ xs. (xs ++ (head ++ (f.width ∷ planes))) ++ after) p
    ∙ ap (λ xs. (presence_bytes (presence_size (length cells)) cells ++ (head ++ (f.width ∷ xs))) ++ after) q
