use Rattle.std.proofs.Common.{take, ◌*◌, ◌≡◌, ◌≤◌}
use Rattle.std.specs.List.{sum_by}
use Rattle.bw_file.specs.Headers.{header_size}
use Rattle.bw_file.specs.declared.version.Version.TheVariants.{Second}
use Rattle.bw_file.proofs.headers.headers_size.Given as goal

abbrev pub invariant-headers : goal.invariant-headers
invariant-headers l = record {
  size : l.size ≡ sum_by (header_size Second) (take l.i l.headers);
  bound : l.size ≤ 132 * l.i;
}
