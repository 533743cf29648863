-- A column that stands first among bytes, whatever follows it.
use Rattle.std.proofs.Common.{All, List, Option, None, Some, [], ap, append_assoc, arith, get_or, length, length-append, refl, subst, suc, sym, zero, ℕ, ℤ, ◌+◌, ◌++◌, ◌<◌, ◌≡◌, ◌∙◌, ◌∷◌}
use Rattle.std.specs.Int.{cast_unsigned, w64}
use Rattle.std.specs.List.{AllZip}
use Rattle.std.proofs.lemmas.Int.{ints}
use Rattle.std.proofs.lemmas.List.Elements.{All-cons, All-head, All-nil, All-tail}
use Rattle.byteorder.specs.Endian.{little_bytes}
use Rattle.byteorder.specs.Numbers.{length-bytes_low_first}
use Rattle.bw_cells.specs.Known.{known}
use Rattle.bw_code.specs.Types.{IsNullOrOfType, IsTyped}
use Rattle.bw_code.specs.declared.kind.ColumnType.{ColumnType}
use Rattle.bw_code.specs.declared.kind.ColumnType.TheVariants.{BigInt, Integer}
use Rattle.bw_file.specs.Cells.{IsCell, presence_bytes, presence_size}
use Rattle.bw_file.specs.Cells as cells
use Rattle.bw_file.specs.Format.{HasType, column_bytes, column_size}
use Rattle.bw_file.specs.Planes.{IsWideCell, frame_of, plane_bytes}
use Rattle.bw_file.specs.Planes as planes
use Rattle.bw_file.specs.Table.{Header}
use Rattle.bw_file.specs.declared.version.Version.{Version}
use Rattle.bw_file.specs.declared.version.Version.TheVariants.{First, Second}
use Rattle.bw_file.proofs.PlaneColumns.{same_column}
use Rattle.bw_file.proofs.Places.{length-column_bytes, length-presence_bytes, same-column}
use Rattle.bw_file.proofs.PlanePlaces.{length-planes}

-- fronts of one length, and what follows them
pub fronts : (a b r s : List ℕ) → length a ≡ length b → a ++ r ≡ b ++ s → (a ≡ b) × (r ≡ s)
fronts [] [] r s e same = (refl, same)
fronts [] (y ∷ b) r s e same = absurd (omega arith)
fronts (x ∷ a) [] r s e same = absurd (omega arith)
fronts (x ∷ a) (y ∷ b) r s e same =
    let tails : a ++ r ≡ b ++ s = cc in
    let head : x ≡ y = cc in
    let more = fronts a b r s (omega arith) tails in
    (let front = more.0 in cc, more.1)

-- cells that a version can spell
abbrev pub Fits : Version → List (Option ℤ) → Type 0
Fits First list = All IsCell list
Fits Second list = All IsWideCell list

pub as_cell : (c : Option ℤ) → IsNullOrOfType Integer c → IsCell c
as_cell None h = h
as_cell (Some z) h = h

pub as_wide : (t : ColumnType) (c : Option ℤ) → IsNullOrOfType t c → IsWideCell c
as_wide t None h = tt
as_wide Integer (Some z) h = omega (arith, ints, h)
as_wide BigInt (Some z) h = h

pub all_wide : (t : ColumnType) (list : List (Option ℤ)) → All (IsNullOrOfType t) list → All IsWideCell list
all_wide t list all = λ k d h. as_wide t (get_or list k d) (all k d h)

pub fits_typed : (version : Version) (h : Header) (list : List (Option ℤ)) → HasType version h → IsTyped h list → Fits version list
fits_typed First h list t all = λ k d l. as_cell (get_or list k d) (subst (λ u. IsNullOrOfType u (get_or list k d)) t (all k d l))
fits_typed Second h list t all = all_wide h.column_type list all

pub all_fit : (version : Version) (hs : List Header) (cs : List (List (Option ℤ))) → All (HasType version) hs → AllZip IsTyped hs cs → All (Fits version) cs
all_fit version [] [] t typed = All-nil (Fits version)
all_fit version [] (c ∷ cs) t typed = absurd typed
all_fit version (h ∷ hs) [] t typed = absurd typed
all_fit version (h ∷ hs) (c ∷ cs) t typed =
    All-cons (Fits version) c cs (fits_typed version h c (All-head (HasType version) h hs t) typed.0) (all_fit version hs cs (All-tail (HasType version) h hs t) typed.1)

pub typed_at : (hs : List Header) (cs : List (List (Option ℤ))) (i : ℕ) (d : Header) → AllZip IsTyped hs cs → i < length hs → IsTyped (get_or hs i d) (get_or cs i [])
typed_at [] cs i d typed h = absurd (omega arith)
typed_at (x ∷ hs) [] i d typed h = absurd typed
typed_at (x ∷ hs) (c ∷ cs) zero d typed h = typed.0
typed_at (x ∷ hs) (c ∷ cs) (suc i) d typed h = typed_at hs cs i d typed.1 (omega arith)

-- the part of a column of planes past the bits of its rows
abbrev framed : ℤ → ℕ → List ℕ → List ℕ
framed base width planes = little_bytes 8 (cast_unsigned w64 base) ++ (width ∷ planes)

length-framed : (base : ℤ) (width : ℕ) (planes : List ℕ) → length (framed base width planes) ≡ 9 + length planes
length-framed base width planes = omega (arith, length-append (little_bytes 8 (cast_unsigned w64 base)) (width ∷ planes), length-bytes_low_first 0 8 (cast_unsigned w64 base))

pub length-column : (version : Version) (list : List (Option ℤ)) → length (column_bytes version list) ≡ column_size version list
length-column First list = length-column_bytes list
length-column Second list =
    let f = frame_of (known list) in
    let size = presence_size (length list) in
    omega (
      arith,
      length-append (presence_bytes (presence_size (length list)) list) (framed (frame_of (known list)).base (frame_of (known list)).width (plane_bytes (frame_of (known list)).base (frame_of (known list)).width (presence_size (length list)) list)),
      length-presence_bytes (presence_size (length list)) list,
      length-framed (frame_of (known list)).base (frame_of (known list)).width (plane_bytes (frame_of (known list)).base (frame_of (known list)).width (presence_size (length list)) list),
      length-planes (frame_of (known list)).base (frame_of (known list)).width (presence_size (length list)) list,
    )

-- the width of a column, by its bytes
same_width : (p q : List ℕ) (y z : ℤ) (m n : ℕ) (xs ys r s : List ℕ) → length p ≡ length q → (p ++ framed y m xs) ++ r ≡ (q ++ framed z n ys) ++ s → m ≡ n
same_width p q y z m n xs ys r s long same =
    let a = little_bytes 8 (cast_unsigned w64 y) in
    let b = little_bytes 8 (cast_unsigned w64 z) in
    let rest = (fronts p q (framed y m xs ++ r) (framed z n ys ++ s) long (sym (append_assoc p (framed y m xs) r) ∙ same ∙ append_assoc q (framed z n ys) s)).1 in
    let eight : length (little_bytes 8 (cast_unsigned w64 y)) ≡ length (little_bytes 8 (cast_unsigned w64 z)) = length-bytes_low_first 0 8 (cast_unsigned w64 y) ∙ sym (length-bytes_low_first 0 8 (cast_unsigned w64 z)) in
    let tail : m ∷ (xs ++ r) ≡ n ∷ (ys ++ s) = (fronts a b (m ∷ (xs ++ r)) (n ∷ (ys ++ s)) eight (sym (append_assoc a (m ∷ xs) r) ∙ rest ∙ append_assoc b (n ∷ ys) s)).1 in
    cc

pub column-first : (version : Version) (c d : List (Option ℤ)) (r s : List ℕ) → length c ≡ length d → Fits version c → Fits version d
    → column_bytes version c ++ r ≡ column_bytes version d ++ s → (c ≡ d) × (r ≡ s)
column-first First c d r s long f g same =
    let size : length (cells.column_bytes c) ≡ length (cells.column_bytes d) = length-column_bytes c ∙ ap cells.column_size long ∙ sym (length-column_bytes d) in
    let parts = fronts (cells.column_bytes c) (cells.column_bytes d) r s size same in
    (same-column c d f g long parts.0, parts.1)
column-first Second c d r s long f g same =
    let p = presence_bytes (presence_size (length c)) c in
    let q = presence_bytes (presence_size (length d)) d in
    let sizes : length p ≡ length q = length-presence_bytes (presence_size (length c)) c ∙ ap presence_size long ∙ sym (length-presence_bytes (presence_size (length d)) d) in
    let width : (frame_of (known c)).width ≡ (frame_of (known d)).width =
    same_width p q (frame_of (known c)).base (frame_of (known d)).base (frame_of (known c)).width (frame_of (known d)).width
    (plane_bytes (frame_of (known c)).base (frame_of (known c)).width (presence_size (length c)) c) (plane_bytes (frame_of (known d)).base (frame_of (known d)).width (presence_size (length d)) d) r s sizes same in
    let size : length (planes.column_bytes c) ≡ length (planes.column_bytes d) =
    length-column Second c ∙ ap (λ k. planes.column_size k (length c)) width ∙ ap (planes.column_size (frame_of (known d)).width) long ∙ sym (length-column Second d) in
    let parts = fronts (planes.column_bytes c) (planes.column_bytes d) r s size same in
    (same_column c d f g long parts.0, parts.1)
