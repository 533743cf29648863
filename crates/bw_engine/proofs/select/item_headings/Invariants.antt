use Rattle.std.proofs.Common.{◌≡◌, map}
use Rattle.bw_model.specs.Select.{heading_of}
use Rattle.bw_engine.proofs.select.item_headings.Given as goal

abbrev pub invariant-loop-item : goal.invariant-loop-item
invariant-loop-item l = l.headings.items ≡ map heading_of l.yielded
