-- A column that is read from its bits and words.
use Rattle.std.proofs.Common.{List, Option, ap, arith, drop, get_or, length, subst, sym, ℕ, ℤ, ◌*◌, ◌<◌, ◌≡◌, ◌∙◌, None, ◌++◌, slice_index}
use Rattle.std.specs.List.{flat_map}
use Rattle.std.specs.Prelude.{All}
use Rattle.byteorder.specs.Endian.{little_number}
use Rattle.bw_file.specs.Cells.{IsCell, cell_bytes, cell_number, column_bytes, presence_bytes, presence_size}
use Rattle.bw_file.specs.Reading.{AreSpelled, HasNoSpareBit, cells_in, read_cell}
use Rattle.bw_file.proofs.Lent.{cell_in, length-cells_in}
use Rattle.bw_file.proofs.Places.{read_cell-spelled}
use Rattle.bw_file.proofs.Spare.{column-by_bits}
use Rattle.bw_file.proofs.Words.{number_at, words-by_numbers}

-- the words of a column are those of the cells that are read there
pub spelled-numbers : (cells : List (Option ℤ)) (present words : List ℕ) → All IsCell cells → present ≡ presence_bytes (presence_size (length cells)) cells → words ≡ flat_map cell_bytes cells
    → AreSpelled (length cells) present words
spelled-numbers cells present words all p w i h =
    let read : read_cell present words i ≡ get_or cells i None = rw (p, w) (read_cell-spelled cells i all h) in
    ap (λ xs. little_number 4 (drop (4 * i) xs)) w ∙ number_at cells i all h ∙ ap cell_number (sym read)

-- bits and words spell the cells that are read there, where the words are theirs and no bit is spare
pub spelled-column : (rows : ℕ) (present words : List ℕ) → ((k : ℕ) → slice_index present k < 256) → ((k : ℕ) → slice_index words k < 256)
    → length present ≡ presence_size rows → length words ≡ 4 * rows → HasNoSpareBit rows present → AreSpelled rows present words
    → present ++ words ≡ column_bytes (cells_in rows present words)
spelled-column rows present words small small' bits numbers spare spelled =
    let cells = cells_in rows present words in
    let long : length cells ≡ rows = length-cells_in rows present words in
    let each : (i : ℕ) → i < length cells → get_or cells i None ≡ read_cell present words i = λ i h. cell_in rows present words i (omega arith) in
    column-by_bits present words cells small (bits ∙ ap presence_size (sym long)) (subst (λ n. HasNoSpareBit n present) (sym long) spare) each
    (words-by_numbers words cells small' (omega arith) (λ k h. spelled k (omega arith) ∙ ap cell_number (sym (each k h))))
