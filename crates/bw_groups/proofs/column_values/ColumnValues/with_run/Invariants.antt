use Rattle.std.proofs.Common.{None, false, get_or, is_some, length, pos, ℕ, ◌<◌, ◌≡◌}
use Rattle.bw_groups.proofs.Values.{number_of}
use Rattle.bw_groups.proofs.column_values.ColumnValues.with_run.Given as goal

-- the values before value i are taken
abbrev pub invariant-run : goal.invariant-run
invariant-run l = record {
  wide : length l.new_numbers ≡ 64;
  wide_too : length l.new_known ≡ 64;
  numbers : (k : ℕ) → k < l.i → get_or l.new_numbers k (pos 0) ≡ number_of (get_or l.run k None);
  known : (k : ℕ) → k < l.i → get_or l.new_known k false ≡ is_some (get_or l.run k None);
}
