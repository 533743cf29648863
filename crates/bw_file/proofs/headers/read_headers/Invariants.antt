use Rattle.std.proofs.Common.{IsTrue, length, ◌++◌, ◌≡◌}
use Rattle.std.specs.List.{flat_map}
use Rattle.std.specs.Prelude.{All}
use Rattle.bw_file.specs.Format.{HasType}
use Rattle.bw_file.specs.Headers.{header_bytes}
use Rattle.bw_code.specs.Types.{holds_its_type}
use Rattle.bw_file.proofs.headers.read_headers.Given as goal

abbrev pub invariant-headers : goal.invariant-headers
invariant-headers l = record {
  count : length l.headers.items ≡ l.i;
  types : All (HasType l.version) l.headers.items;
  held : All (λ header. IsTrue (holds_its_type header)) l.headers.items;
  bytes : l.fn.bytes ≡ flat_map (header_bytes l.version) l.headers.items ++ l.rest;
}
