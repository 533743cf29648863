-- The codes between two codes, both inclusive, or all others.
use Rattle.std.specs.Prelude.{Bool, if◌then◌else◌, nat_le, not, ℕ, ◌&&◌, ◌+◌}
use Rattle.bw_code.specs.declared.lanes.Interval.{Interval}
use Rattle.bw_code.specs.declared.wide_lanes.WideInterval.{WideInterval}

abbrev pub is_in : Interval → ℕ → Bool
is_in interval code =
    let lies_in = nat_le interval.low code && nat_le code (interval.low + interval.span) in
    if interval.is_inside then lies_in else not lies_in

abbrev pub is_in_wide : WideInterval → ℕ → Bool
is_in_wide interval code =
    let lies_in = nat_le interval.low code && nat_le code (interval.low + interval.span) in
    if interval.is_inside then lies_in else not lies_in
