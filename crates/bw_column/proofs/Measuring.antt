-- How far the values of a dictionary's codes lie above a base.
use Rattle.std.proofs.Common.{Bool, List, None, Some, ap, arith, cond, drop, false, get_or, length, map, pos, refl, sym, take, true, ℕ, ℤ, ◌+◌, ◌<◌, ◌==◌, ◌∙◌, ◌≡◌, ◌≤◌}
use Rattle.std.proofs.lemmas.Bool.Decides.{nat_tests}
use Rattle.std.proofs.lemmas.List.{get_or-map, length-map}
use Rattle.bw_mask.specs.Masks.{MaskRows, row_at}
use Rattle.bw_cells.specs.Distances.{distance_from}
use Rattle.bw_code.specs.Columns.{CodeList, code_at, count}
use Rattle.bw_code.specs.Encodings.{IsEncoding}
use Rattle.bw_code.specs.declared.encoding.Encoding.{Encoding}
use Rattle.bw_code.specs.declared.encoding.Encoding.TheVariants as by
use Rattle.bw_code.specs.declared.kind.Layout.{Layout}
use Rattle.bw_code.proofs.Entries.{entry_is}
use Rattle.bw_code.proofs.Lists.{made_len, part_is}
use Rattle.bw_column.specs.Codes.{AreRowCodes, IsRowCode, value_from, values_from}
use Rattle.bw_column.proofs.Pieces.{map_part}
use Rattle.bw_column.proofs.Rows.{value_of_row}

pub none_left : (n : ℕ) → (n == 0) ≡ true → n ≡ 0
none_left n h = grind (arith, nat_tests, h)

pub some_left : (n : ℕ) → (n == 0) ≡ false → 0 < n
some_left n h = grind (arith, nat_tests, h)

-- the code of a row is the place of an entry, where there is any
pub entry_inside : (entries : List ℤ) → IsEncoding (by.Dictionary entries) → 0 < length entries → (code : ℕ) (there : Bool) → IsRowCode (by.Dictionary entries) code there → code < length entries
entry_inside entries sound some code true is = (entry_is entries (get_or entries code (pos 0)) code sound.ascending is.0).within
entry_inside entries sound some code false is = omega (arith, is, some)

pub distance_of_entry : (entries : List ℤ) (base : ℤ) (code : ℕ) (there : Bool) → cond there (distance_from base (Some (get_or entries code (pos 0)))) 0 ≡ distance_from base (value_from (by.Dictionary entries) code there)
distance_of_entry entries base code true = refl
distance_of_entry entries base code false = refl

-- without entries each row is null
pub distance_of_none : (entries : List ℤ) → IsEncoding (by.Dictionary entries) → length entries ≡ 0 → (base : ℤ) (code : ℕ) (there : Bool) → IsRowCode (by.Dictionary entries) code there → code ≡ distance_from base (value_from (by.Dictionary entries) code there)
distance_of_none entries sound none base code true is = let low = (entry_is entries (get_or entries code (pos 0)) code sound.ascending is.0).within in absurd (omega (arith, low, none))
distance_of_none entries sound none base code false is = is

-- numbers that are the distances of a run of rows, one by one
pub measured_run : {l : Layout} (e : Encoding) (codes : CodeList) (nonnull : MaskRows) → AreRowCodes l e codes nonnull → (base : ℤ) (out : List ℕ) (at n : ℕ) → length out ≡ n → at + n ≤ count codes
    → ((k : ℕ) → k < n → get_or out k 0 ≡ distance_from base (value_from e (code_at codes (at + k)) (row_at nonnull (at + k))))
    → out ≡ map (distance_from base) (take n (drop at (values_from e codes nonnull)))
measured_run e codes nonnull are base out at n many inside each =
    let values = values_from e codes nonnull in
    let f = distance_from base in
    let long : length values ≡ count codes = made_len (count codes) (λ i. value_from e (code_at codes i) (row_at nonnull i)) in
    part_is (map f values) out at 0 (omega (arith, many, inside, long, length-map values f)) (λ k h.
    each k (omega (arith, h, many))
    ∙ ap f (sym (value_of_row e codes nonnull are (at + k)))
    ∙ sym (get_or-map f values (at + k) None 0 (omega (arith, h, many, inside, long))))
    ∙ ap (λ m. take m (drop at (map f values))) many
    ∙ sym (map_part f values at n)
