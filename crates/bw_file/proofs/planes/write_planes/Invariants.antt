use Rattle.std.proofs.Common.{None, get_or, is_some, length, true, ℕ, ◌%◌, ◌*◌, ◌-◌, ◌/◌, ◌<◌, ◌≡◌}
use Rattle.bw_mask.specs.Masks.{bit_of}
use Rattle.bw_file.specs.Cells.{presence_size}
use Rattle.bw_file.specs.Planes.{HasBase, HasTop, bit_in, plane_bit}
use Rattle.bw_file.proofs.planes.write_planes.Given as goal

-- the bits and the planes of the rows before the next two blocks are written
abbrev pub invariant-loop-j : goal.invariant-loop-j
invariant-loop-j g l = record {
  present : length l.present ≡ presence_size l.rows;
  whole : (m : ℕ) → get_or l.present m 0 < 256;
  told : (i : ℕ) → i < l.j * 4096 → i / 8 < presence_size l.rows → bit_of (get_or l.present (i / 8) 0) (i % 8) ≡ is_some (get_or (g.C.Cells.cells l.column) i None);
  long : length l.planes ≡ l.k * presence_size l.rows;
  small : (m : ℕ) → get_or l.planes m 0 < 256;
  bits : (p i : ℕ) → p < l.k → i < l.j * 4096 → i / 8 < presence_size l.rows → plane_bit (presence_size l.rows) l.planes p i ≡ bit_in l.base (l.k - 1 - p) (get_or (g.C.Cells.cells l.column) i None);
  base_seen : l.seen.base ≡ true → HasBase l.base (g.C.Cells.cells l.column);
  top_seen : l.seen.top ≡ true → HasTop l.base l.k (g.C.Cells.cells l.column);
}
