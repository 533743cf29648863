use Rattle.std.proofs.Common.{drop, ◌≡◌, ◌<◌}
use Rattle.bw_csvload.specs.Sizes.{size_after, too_large}
use Rattle.bw_csvload.proofs.field.size_after.Given as goal

-- what is left, read after the digits so far, makes the whole number
abbrev pub invariant-loop-i : goal.invariant-loop-i
invariant-loop-i l = record {
  small : l.size < too_large;
  goes_on : size_after l.size (drop l.i l.text) ≡ size_after l.fn.front l.text;
}
