-- What a prepared test asks of a word: the delimiters that it marks.
use Rattle.std.specs.Prelude.{bit_and, ℕ}
use Rattle.bw_lane.specs.Marking.{marks}
use Rattle.bw_horizontal.specs.declared.word_test.Between.{Between}
use Rattle.bw_horizontal.specs.declared.word_test.Prepared.{Prepared}
use Rattle.bw_horizontal.specs.declared.word_test.Prepared.TheVariants as prepared

abbrev pub marked_between : Between → ℕ → ℕ
marked_between both word = bit_and (marks both.low word) (marks both.high word)

abbrev pub asked : Prepared → ℕ → ℕ
asked (prepared.Compared test) word = marks test word
asked (prepared.Between both) word = marked_between both word
