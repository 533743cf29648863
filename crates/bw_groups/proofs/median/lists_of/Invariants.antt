use Rattle.std.proofs.Common.{[], get_or, length, take, ℕ, ◌<◌, ◌^◌, ◌≡◌}
use Rattle.bw_groups.specs.Parts.{numbers_at}
use Rattle.bw_groups.proofs.median.lists_of.Given as goal

-- the values of the rows before row i
abbrev pub invariant-rows : goal.invariant-rows
invariant-rows l = record {
  count : length l.lists.lists ≡ length l.counts;
  room : l.lists.room ≡ l.counts;
  lists : (k : ℕ) → k < length l.counts → get_or l.lists.lists k [] ≡ numbers_at (2 ^ l.bits) (take l.i l.rows) k;
}
