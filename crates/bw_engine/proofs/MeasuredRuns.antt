-- The values of a column in the found slots, measured in runs.
use Rattle.std.proofs.Common.{All, Bool, FitsSigned, IfSome, List, None, Some, [], ap, append-nil, arith, drop, get_or, if◌then◌else◌, is_some, length, map, nat_lt, subst, sym, take, true, false, w64, ℕ, ℤ, ◌&&◌, ◌++◌, ◌+◌, ◌<◌, ◌∙◌, ◌∷◌, ◌≡◌, ◌≤◌}
use Rattle.std.specs.Int.{from_bool}
use Rattle.std.proofs.lemmas.Bool.{lt-ltb}
use Rattle.std.proofs.lemmas.List.{get_or-drop, get_or-map, get_or-take, length-drop, length-take-le}
use Rattle.std.proofs.lemmas.List.Elements.{All-cons, All-head, All-nil, All-tail}
use Rattle.bw_mask.specs.Masks.{MaskRows, bit_of, row_at}
use Rattle.bw_cells.specs.Distances.{distance_from}
use Rattle.bw_cells.specs.SetFunctions.{known}
use Rattle.bw_code.specs.declared.kind.Layout.{Layout}
use Rattle.bw_column.specs.Values as columns
use Rattle.bw_column.proofs.Held.{storable}
use Rattle.bw_table.specs.Slots.{Slot, slot_at}
use Rattle.bw_groups.specs.Runs.{AreFilled, IsMeasured}
use Rattle.bw_groups.proofs.Entries.{known_at}
use Rattle.bw_model.specs.Store.{Value, value_at}
use Rattle.bw_engine.specs.Runs.{lines_from, slot_line, value_line}
use Rattle.bw_engine.proofs.CellLaws.{drop_all, take_all}
use Rattle.bw_engine.proofs.RunLaws.{lines_more, lines_same}

pub values_fit : (layout : Layout) (values : List Value) → All (columns.IsNullOrHeld layout) values → All (FitsSigned w64) (known values)
values_fit layout [] held = All-nil (FitsSigned w64)
values_fit layout (None ∷ values) held = values_fit layout values (All-tail (columns.IsNullOrHeld layout) None values held)
values_fit layout (Some x ∷ values) held =
    All-cons (FitsSigned w64) x (known values) (storable layout (Some x) (All-head (columns.IsNullOrHeld layout) (Some x) values held)) (values_fit layout values (All-tail (columns.IsNullOrHeld layout) (Some x) values held))

pub fits_at : (cells : List Value) → All (FitsSigned w64) (known cells) → (i : ℕ) (x : ℤ) → columns.value_at cells i ≡ Some x → FitsSigned w64 x
fits_at cells fit i x is = subst (λ cell. IfSome cell (FitsSigned w64)) is (known_at (FitsSigned w64) cells fit i)

-- a run of cells, measured as it lies
pub measured_whole : (base : ℤ) (cells run : List Value) (at present : ℕ) (out : List ℕ) → All (FitsSigned w64) (known cells) → at + 64 ≤ length cells → take 64 (drop at cells) ≡ run → out ≡ map (distance_from base) (take 64 (drop at cells))
    → ((i : ℕ) → bit_of present i ≡ is_some (get_or (take 64 (drop at cells)) i None)) → IsMeasured base run 64 present out
measured_whole base cells run at present out fit inside is far there =
    let own = take 64 (drop at cells) in
    let count : length own ≡ 64 = length-take-le 64 (drop at cells) (omega (arith, inside, length-drop at cells)) in
    subst (λ r. IsMeasured base r 64 present out) is (record {
      few = omega (arith, count);
      long = sym count;
      fits = fits_at own (take_all (FitsSigned w64) 64 (drop at cells) (drop_all (FitsSigned w64) at cells fit));
      there = λ i h. there i;
      far = λ i h. ap (λ ns. get_or ns i 0) far ∙ get_or-map (distance_from base) own i None 0 h;
    })

-- rows of a column one by one, of which those are taken that pass
module _ (base : ℤ) (values : List Value) (at : ℕ) (passes : ℕ → Bool) where
  abbrev line : ℕ → List Value
  line = value_line values at

  abbrev lines : ℕ → List Value
  lines n = lines_from line passes 0 n

  pub row_taken : (i len : ℕ) (distances bytes : List ℕ) → passes i ≡ true → AreFilled base (lines i ++ line i) len distances bytes → AreFilled base (lines (i + 1)) len distances bytes
  row_taken i len distances bytes there are =
      subst (λ r. AreFilled base r len distances bytes) (sym (lines_more line passes 0 i i (omega arith) ∙ ap (λ (b : Bool). lines i ++ (if b then line i else [])) there)) are

  pub row_left : (i len : ℕ) (distances bytes : List ℕ) → passes i ≡ false → AreFilled base (lines i) len distances bytes → AreFilled base (lines (i + 1)) len distances bytes
  row_left i len distances bytes away are =
      subst (λ r. AreFilled base r len distances bytes) (sym (lines_more line passes 0 i i (omega arith) ∙ ap (λ (b : Bool). lines i ++ (if b then line i else [])) away ∙ append-nil (lines i))) are

  -- a row whose value was put: it stays where the row passes
  pub row_step : (found : Bool) (i len : ℕ) (distances bytes : List ℕ) → passes i ≡ found → AreFilled base (lines i ++ line i) (len + 1) distances bytes → AreFilled base (lines i) len distances bytes → AreFilled base (lines (i + 1)) (len + from_bool found) distances bytes
  row_step true i len distances bytes is put keeps = row_taken i (len + 1) distances bytes is put
  row_step false i len distances bytes is put keeps = subst (λ n. AreFilled base (lines (i + 1)) n distances bytes) (omega arith) (row_left i len distances bytes is keeps)

pub one_at_most : (found : Bool) → from_bool found ≤ 1
one_at_most true = omega arith
one_at_most false = omega arith

-- the rows of a word are the slots that are found
pub found_lines : (place : ℕ) (slots : List Slot) (values : List Value) (found : MaskRows) (word at n : ℕ) → ((i : ℕ) → bit_of word i ≡ (nat_lt i n && row_at found (at + i))) → at + n ≤ length values → ((i : ℕ) → i < length values → columns.value_at values i ≡ value_at (slot_at slots i).row place)
    → lines_from (value_line values at) (bit_of word) 0 n ≡ lines_from (slot_line (place ∷ []) slots) (row_at found) at n
found_lines place slots values found word at n bits inside are =
    lines_same (value_line values at) (slot_line (place ∷ []) slots) (bit_of word) (row_at found) n 0 at
    (λ i h. ap (bit_of word) (plain i) ∙ bits i ∙ ap (λ b. b && row_at found (at + i)) (lt-ltb i n h))
    (λ i h e. ap (value_line values at) (plain i) ∙ ap (λ (v : Value). v ∷ []) (are (at + i) (omega (arith, h, inside))))
  where
    plain : (i : ℕ) → 0 + i ≡ i
    plain i = omega arith

-- a run that was read: its values by their distances and their bits
pub read_far : (base : ℤ) (values : List Value) (at n i : ℕ) (out : List ℕ) → i < n → at + n ≤ length values → out ≡ map (distance_from base) (take n (drop at values)) → get_or out i 0 ≡ distance_from base (columns.value_at values (at + i))
read_far base values at n i out h inside far =
    let own = take n (drop at values) in
    let count : length own ≡ n = length-take-le n (drop at values) (omega (arith, inside, length-drop at values)) in
    ap (λ ns. get_or ns i 0) far
    ∙ get_or-map (distance_from base) own i None 0 (omega (arith, h, count))
    ∙ ap (distance_from base) (get_or-take n (drop at values) i None h ∙ get_or-drop at values i None)

pub read_there : (values : List Value) (at n i present : ℕ) → i < n → ((k : ℕ) → bit_of present k ≡ is_some (get_or (take n (drop at values)) k None)) → bit_of present i ≡ is_some (columns.value_at values (at + i))
read_there values at n i present h there = there i ∙ ap is_some (get_or-take n (drop at values) i None h ∙ get_or-drop at values i None)
