-- The view of a column of slices.
use Rattle.std.proofs.Common.{List, [], ◌∷◌, suc, zero, vec_capacity, Vec, Global, ap, arith, get_or, length, sym, subst, ℕ, ◌*◌, ◌+◌, ◌<◌, ◌^◌, ◌≡◌, ◌≤◌, ◌∙◌, take, drop}
use Rattle.std.proofs.lemmas.List.{get_or_default, length-map}
use Rattle.bw_code.specs.Columns.{CodeList, Fit}
use Rattle.bw_code.specs.Lists.{made}
use Rattle.bw_code.specs.Units.{digit, segments_of}
use Rattle.bw_code.proofs.Lists.{made_len, part_is}
use Rattle.bw_byteslice.specs.Slices.{shift_of, slices_of}
use Rattle.bw_byteslice.specs.Storing.{AreSlices, bytes_of, capacities_of, code_of, room_of}
use Rattle.bw_byteslice.proofs.Keeping.{byte_is_digit, code_fits, codes_at}
use Rattle.bw_byteslice.proofs.Replacing.{read_is}

abbrev pub view_of : ℕ → ℕ → List (Vec ℕ Global) → CodeList
view_of k n slices = record { width = k; codes = made n (code_of k (bytes_of slices)); room = room_of (capacities_of slices) }

module _ (k n : ℕ) (slices : List (Vec ℕ Global)) (column : CodeList) (stored : AreSlices k n (bytes_of slices)) (is : view_of k n slices ≡ column) where
  pub count_is : length column.codes ≡ n
  count_is = sym (ap (λ v. length v.codes) is) ∙ made_len n (code_of k (bytes_of slices))

  pub width_is : k ≡ column.width
  width_is = ap (λ v. v.width) is

  pub slices_count : length slices ≡ slices_of k
  slices_count = sym (length-map slices (λ v. v.items)) ∙ stored.count

  pub slice_in : (i : ℕ) → i < slices_of column.width → i < slices_of k
  slice_in i h = subst (λ w. i < slices_of w) (sym width_is) h

  pub code_is : (i : ℕ) → code_of k (bytes_of slices) i ≡ get_or column.codes i 0
  code_is i = sym (codes_at k n (bytes_of slices) stored i) ∙ ap (λ v. get_or v.codes i 0) is

  pub code_small : (i : ℕ) → code_of k (bytes_of slices) i < 2 ^ column.width
  code_small i = subst (λ w. code_of k (bytes_of slices) i < 2 ^ w) width_is (code_fits k n (bytes_of slices) stored i)

  -- the bytes that are lent
  module _ (j : ℕ) (slice : Vec ℕ Global) (low : j < slices_of k) (read : slice ≡ get_or slices j slice) where
    slice_is : slice.items ≡ get_or (bytes_of slices) j []
    slice_is = sym (read_is (λ v. v.items) [] slices j (omega (arith, low, slices_count)) slice read)

    pub slice_len : length slice.items ≡ 32 * segments_of 32 (length column.codes)
    slice_len = ap length slice_is ∙ stored.long j low ∙ ap (λ m. 32 * segments_of 32 m) (sym count_is)

    pub slice_bytes : (r : ℕ) → get_or slice.items r 0 ≡ digit 256 (slices_of column.width) (get_or column.codes r 0 * 2 ^ shift_of column.width) j
    slice_bytes r =
        ap (λ xs. get_or xs r 0) slice_is
        ∙ byte_is_digit k n (bytes_of slices) stored j r low
        ∙ ap (λ x. digit 256 (slices_of k) (x * 2 ^ shift_of k) j) (code_is r)
        ∙ ap (λ w. digit 256 (slices_of w) (get_or column.codes r 0 * 2 ^ shift_of w) j) width_is

  -- codes that are read
  module _ (at : ℕ) (out : List ℕ) (fits : at + length out ≤ length column.codes) (each : (r : ℕ) → r < length out → get_or out r 0 ≡ code_of k (bytes_of slices) (at + r)) where
    pub codes_read : out ≡ take (length out) (drop at column.codes)
    codes_read = part_is column.codes out at 0 fits (λ r h. each r h ∙ code_is (at + r))

    pub codes_small : Fit column.width out
    codes_small r d h = subst (λ x. x < 2 ^ column.width) (sym (get_or_default out r d 0 h ∙ each r h)) (code_small (at + r))

  pub room_is : room_of (capacities_of slices) ≡ column.room
  room_is = ap (λ v. v.room) is

-- a column beside one whose codes have k bits
module _ (k own n : ℕ) (slices : List (Vec ℕ Global)) (column : CodeList) (stored : AreSlices own n (bytes_of slices)) (is : view_of own n slices ≡ column) (same : column.width ≡ k) where
  own_is : own ≡ k
  own_is = width_is own n slices column stored is ∙ same

  pub also_stored : AreSlices k n (bytes_of slices)
  also_stored = subst (λ w. AreSlices w n (bytes_of slices)) own_is stored

  pub also_code : (i : ℕ) → code_of k (bytes_of slices) i ≡ get_or column.codes i 0
  also_code i = subst (λ w. code_of w (bytes_of slices) i ≡ get_or column.codes i 0) own_is (code_is own n slices column stored is i)

  -- and that has as many codes as m
  pub stored_beside : (m : ℕ) → length column.codes ≡ m → AreSlices k m (bytes_of slices)
  stored_beside m long = subst (λ r. AreSlices k r (bytes_of slices)) (sym (count_is own n slices column stored is) ∙ long) also_stored

pub capacity_count : (slices : List (Vec ℕ Global)) → length (capacities_of slices) ≡ length slices
capacity_count slices = length-map slices (λ v. vec_capacity v)

pub byte_count : (slices : List (Vec ℕ Global)) → length (bytes_of slices) ≡ length slices
byte_count slices = length-map slices (λ v. v.items)

-- a list of one code
pub fit_one : (k code : ℕ) → code < 2 ^ k → Fit k (code ∷ [])
fit_one k code h zero d l = h
fit_one k code h (suc i) d l = absurd (omega arith)
