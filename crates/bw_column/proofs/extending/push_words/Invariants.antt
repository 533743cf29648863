use Rattle.std.proofs.Common.{min, ◌*◌, ◌++◌, ◌≡◌, ◌≤◌}
use Rattle.bw_mask.specs.Masks.{row_in}
use Rattle.bw_code.specs.Lists.{made}
use Rattle.bw_column.proofs.extending.push_words.Given as goal

-- the words so far
abbrev pub invariant-loop-j : goal.invariant-loop-j
invariant-loop-j l = record {
  rows : l.mask.rows ≡ l.fn.mask.rows ++ made (min (64 * l.j) l.n) (row_in l.words);
  room : l.fn.mask.room ≤ l.mask.room;
}
