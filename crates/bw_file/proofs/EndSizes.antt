-- How many bytes columns have, by the ends of their values.
use Rattle.std.proofs.Common.{All, List, None, Option, [], ap, arith, drop, get_or, length, refl, subst, sym, take, ℕ, ℤ, ◌+◌, ◌-◌, ◌∙◌, ◌∷◌, ◌≡◌, ◌≤◌}
use Rattle.std.specs.List.{AllZip, sum_by}
use Rattle.std.proofs.lemmas.List.{take_all}
use Rattle.std.proofs.lemmas.List.Elements.{All-head, All-tail}
use Rattle.std.proofs.lemmas.List.Sums.{sum_by-cons}
use Rattle.bw_cells.specs.Known.{known}
use Rattle.bw_code.specs.Encodings.{IsOffsetFit}
use Rattle.bw_code.specs.Fittings.{AreEnds}
use Rattle.bw_code.specs.declared.ends.Ends.{Ends}
use Rattle.bw_code.specs.declared.offset.Offset.{Offset}
use Rattle.bw_file.specs.Format.{AreEndsOf, column_size}
use Rattle.bw_file.specs.Planes.{column_size as plane_column_size, frame_of}
use Rattle.bw_file.specs.declared.version.Version.TheVariants.{Second}
use Rattle.bw_file.proofs.Frames.{frame_fits}

pub none_sized : (columns : List (List (Option ℤ))) → AllZip AreEndsOf [] columns → 0 ≡ sum_by (column_size Second) columns
none_sized [] all = refl
none_sized (cells ∷ columns) all = absurd all

-- one column and others
next_sized : (rows : ℕ) (first : Option Ends) (rest : List (Option Ends)) (o : Offset) (size others : ℕ) → ((values : List ℤ) → AreEnds values first → IsOffsetFit values o) → size ≡ plane_column_size o.width rows
    → ((columns : List (List (Option ℤ))) → All (λ cells. length cells ≡ rows) columns → AllZip AreEndsOf rest columns → others ≡ sum_by (column_size Second) columns)
    → (columns : List (List (Option ℤ))) → All (λ cells. length cells ≡ rows) columns → AllZip AreEndsOf (first ∷ rest) columns → size + others ≡ sum_by (column_size Second) columns
next_sized rows first rest o size others fits is sized [] long all = absurd all
next_sized rows first rest o size others fits is sized (cells ∷ columns) long all =
    let width = (frame_fits (known cells) o (fits (known cells) all.0)).1 in
    let here : size ≡ column_size Second cells =
    is ∙ ap (λ k. plane_column_size k rows) width ∙ ap (plane_column_size (frame_of (known cells)).width) (sym (All-head (λ (c : List (Option ℤ)). length c ≡ rows) cells columns long)) in
    let later = sized columns (All-tail (λ (c : List (Option ℤ)). length c ≡ rows) cells columns long) all.1 in
    (λ j. here j + later j) ∙ sym (sum_by-cons (column_size Second) cells columns)

pub more_sized : (rows : ℕ) (ends : List (Option Ends)) → 1 ≤ length ends → (o : Offset) (size others : ℕ) → ((values : List ℤ) → AreEnds values (get_or ends 0 None) → IsOffsetFit values o) → size ≡ plane_column_size o.width rows
    → ((columns : List (List (Option ℤ))) → All (λ cells. length cells ≡ rows) columns → AllZip AreEndsOf (take (length ends - 1) (drop 1 ends)) columns → others ≡ sum_by (column_size Second) columns)
    → (columns : List (List (Option ℤ))) → All (λ cells. length cells ≡ rows) columns → AllZip AreEndsOf ends columns → size + others ≡ sum_by (column_size Second) columns
more_sized rows [] some o size others fits is sized columns long all = absurd (omega (arith, some))
more_sized rows (first ∷ rest) some o size others fits is sized columns long all =
    next_sized rows first rest o size others fits is (subst (λ l. (c : List (List (Option ℤ))) → All (λ cells. length cells ≡ rows) c → AllZip AreEndsOf l c → others ≡ sum_by (column_size Second) c) (ap (take (length (first ∷ rest) - 1)) (drop-nothing rest) ∙ take_all (length (first ∷ rest) - 1) rest (omega arith)) sized) columns long all
  where
    drop-nothing : (l : List (Option Ends)) → drop 0 l ≡ l
    drop-nothing [] = refl
    drop-nothing (x ∷ l) = refl
