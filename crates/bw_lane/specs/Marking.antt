-- What a prepared comparison says of a word.
use Rattle.std.specs.Prelude.{bit_and, bit_xor, ℕ, ◌%◌, ◌+◌, ◌^◌}
use Rattle.bw_lane.specs.declared.sections.SectionTest.{SectionTest}

abbrev pub marks : SectionTest → ℕ → ℕ
marks test word = bit_xor (bit_and ((bit_xor word test.flip + test.add) % 2 ^ 64) test.delimiters) test.turn
