-- Codes from the words of their planes.
use Rattle.std.proofs.Common.{Bool, List, ap, get_or, nat_lt, sym, ℕ, ◌&&◌, ◌+◌, ◌-◌, ◌<◌, ◌==◌, ◌≡◌, ◌∙◌}
use Rattle.std.specs.Simd.Lanes.{mask_l}
use Rattle.std.proofs.lemmas.Bool.{lt-ltb}
use Rattle.bw_mask.specs.Masks.{bit_of, rows_of}
use Rattle.bw_mask.proofs.Bits.{and_true}
use Rattle.bw_mask.proofs.Views.{rows_are, rows_at, rows_len}
use Rattle.bw_vertical.specs.Planes.{code_by}
use Rattle.bw_file.specs.Planes.{code_in, plane_bit}

-- words that have the bits of planes in a row spell the code of the row
pub turned_code : (k size at r count : ℕ) (planes words : List ℕ) → r < count
    → ((b : ℕ) → b < k → bit_of (get_or words b 0) r ≡ ((plane_bit size planes (k - 1 - b) (at + r) == 1) && nat_lt r count)) → code_by k words r ≡ code_in k size planes (at + r)
turned_code k size at r count planes words low bits =
    let f : ℕ → Bool = λ b. bit_of (get_or words b 0) r in
    let g : ℕ → Bool = λ b. plane_bit size planes (k - 1 - b) (at + r) == 1 in
    ap mask_l (rows_are k f (rows_of k g) (rows_len k g) (λ b h. rows_at k g b h ∙ sym (bits b h ∙ rw (lt-ltb r count low) (and_true (g b)))))
