use Rattle.std.proofs.Common.{take, ◌++◌, ◌≡◌}
use Rattle.std.specs.List.{flat_map}
use Rattle.bw_file.specs.Headers.{header_bytes}
use Rattle.bw_file.specs.declared.version.Version.TheVariants.{Second}
use Rattle.bw_file.proofs.headers.put_headers.Given as goal

abbrev pub invariant-headers : goal.invariant-headers
invariant-headers l = l.bytes.items ≡ l.fn.bytes.items ++ flat_map (header_bytes Second) (take l.i l.headers)
