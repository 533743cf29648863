use Rattle.std.proofs.Common.{None, ap, arith, drop, get_or, if◌then◌else◌, is_some, length, nat_lt, subst, sym, take, ℕ, ◌&&◌, ◌++◌, ◌+◌, ◌<◌, ◌≡◌, ◌∙◌}
use Rattle.std.specs.List.{All}
use Rattle.bw_mask.specs.Masks.{bit_of, row_at}
use Rattle.bw_code.specs.Columns.{code_at, count}
use Rattle.bw_code.specs.Encodings.{IsEncoding, width}
use Rattle.bw_code.specs.declared.kind.Layout.TheVariants as layouts
use Rattle.bw_code.proofs.Lists.{made_len}
use Rattle.bw_column.specs.Codes.{AreRowCodes, code_for, value_from, values_from}
use Rattle.bw_column.specs.Columns.{ColumnView}
use Rattle.bw_column.specs.Storing.{list_of}
use Rattle.bw_column.specs.Values.{IsNullOrHeld, value_at}
use Rattle.bw_column.proofs.Bases.{present_part}
use Rattle.bw_column.proofs.Chosen.{code_any}
use Rattle.bw_column.proofs.Held.{all_storable}
use Rattle.bw_column.proofs.Pieces.{all_here}
use Rattle.bw_column.proofs.Raised.{raised_rest, raised_rows, raised_values}
use Rattle.bw_column.proofs.Rows.{known_rows}
use Rattle.bw_column.proofs.Scans.{all_codes}
use Rattle.bw_vertical.specs.Planes.{code_by}
use Rattle.bw_column.proofs.column.Column.extend_raised.Goals as goal

pub read_words-requires : goal.read_words-requires
read_words-requires c =
    let s = c.other.inside in
    let many : length c.args.other.now.values ≡ count (list_of s.codes) = ap (λ (v : ColumnView). length v.values) (sym c.other.view_is) ∙ made_len (count (list_of s.codes)) (λ i. value_from s.encoding (code_at (list_of s.codes) i) (row_at s.nonnull i)) in
    let here : length c.args.other.now.values ≡ count c.in-V.codes = rw c.in-V.is at many in
    omega (arith, here, c.requires.inside, c.requires.some, c.requires.word)

pub extend_word-requires-clause-few : goal.extend_word-requires-clause-few
extend_word-requires-clause-few c = omega (arith, c.requires.here, c.requires.inside, c.len-few.ensures.count, c.len-few.ensures.few)

pub extend_word-requires-clause-rest : goal.extend_word-requires-clause-rest
extend_word-requires-clause-rest c b r low past h =
    let s = c.other.inside in
    let own = c.args.other.now.encoding in
    let e = c.args.self.now.encoding in
    let values = c.args.other.now.values in
    let codes = c.in-V.codes in
    let at = c.args.at in
    let n = c.args.n in
    let old = c.read_words.new.words in
    let words = c.shift_words.new.words in
    let enc : s.encoding ≡ own = ap (λ (v : ColumnView). v.encoding) c.other.view_is in
    let enc_new : c.self.inside.encoding ≡ e = ap (λ (v : ColumnView). v.encoding) c.self.view_is in
    let invariant : AreRowCodes layouts.V s.encoding codes s.nonnull = rw c.in-V.is at c.other.invariant in
    let codes_are : (i : ℕ) → code_at codes i ≡ code_for own (value_at values i) = λ i. rw (← c.other.view_is, c.in-V.is) (ap (λ xs. get_or xs i 0) (all_codes s.encoding codes s.nonnull invariant) ∙ code_any s.encoding (values_from s.encoding codes s.nonnull) i) in
    let read : (b r : ℕ) → b < width own → r < 64 → bit_of (get_or old b 0) r ≡ bit_of (code_at codes (at + r)) b = λ b r low h.
    c.read_words.ensures b r (omega (arith, low, invariant.width, ap width enc)) h ∙ ap (λ j. bit_of (code_at codes j) b) (omega (arith, c.requires.word)) in
    let shifted : (b r : ℕ) → b < width e → r < 64 → bit_of (get_or words b 0) r ≡ bit_of (code_by (width own) old r + (if bit_of c.bits.result r then 1 else 0)) b = λ b r low h.
    c.shift_words.ensures b r (omega (arith, low, c.width-k.ensures.is, ap width enc_new)) h ∙ ap (λ k. bit_of (code_by k old r + (if bit_of c.bits.result r then 1 else 0)) b) (c.width-own.ensures.is ∙ ap width enc) in
    let given = c.requires.raised in
    let above = λ (i : ℕ). c.bits.ensures i ∙ ap (λ x. nat_lt i n && x) (given.2 (at + i)) in
    let known : (k : ℕ) → row_at s.nonnull k ≡ is_some (value_at values k) = λ k. rw (← c.other.view_is) (known_rows s.encoding (list_of s.codes) s.nonnull c.other.invariant k) in
    let there : (i : ℕ) → bit_of c.bits-2.result i ≡ is_some (get_or (take n (drop at values)) i None) = λ i. c.bits-2.ensures i ∙ present_part values (row_at s.nonnull) at n i known in
    let sound : IsEncoding own = c.encoding-sound.ensures.sound in
    let sound_new : IsEncoding e = rw (← enc_new) c.width-k.ensures.sound in
    let storable = all_storable c.args.other.now.layout values c.len-few.ensures.held in
    raised_rest own e sound sound_new given.0 values c.encoding-sound.ensures.coded given.1 storable at n (λ i. code_at codes i) old words c.bits.result c.bits-2.result c.requires.inside c.requires.block c.requires.whole codes_are read shifted above there b r low past h

pub extend_word-requires-clause-rows : goal.extend_word-requires-clause-rows
extend_word-requires-clause-rows c =
    let s = c.other.inside in
    let own = c.args.other.now.encoding in
    let e = c.args.self.now.encoding in
    let values = c.args.other.now.values in
    let codes = c.in-V.codes in
    let at = c.args.at in
    let n = c.args.n in
    let old = c.read_words.new.words in
    let words = c.shift_words.new.words in
    let enc : s.encoding ≡ own = ap (λ (v : ColumnView). v.encoding) c.other.view_is in
    let enc_new : c.self.inside.encoding ≡ e = ap (λ (v : ColumnView). v.encoding) c.self.view_is in
    let invariant : AreRowCodes layouts.V s.encoding codes s.nonnull = rw c.in-V.is at c.other.invariant in
    let codes_are : (i : ℕ) → code_at codes i ≡ code_for own (value_at values i) = λ i. rw (← c.other.view_is, c.in-V.is) (ap (λ xs. get_or xs i 0) (all_codes s.encoding codes s.nonnull invariant) ∙ code_any s.encoding (values_from s.encoding codes s.nonnull) i) in
    let read : (b r : ℕ) → b < width own → r < 64 → bit_of (get_or old b 0) r ≡ bit_of (code_at codes (at + r)) b = λ b r low h.
    c.read_words.ensures b r (omega (arith, low, invariant.width, ap width enc)) h ∙ ap (λ j. bit_of (code_at codes j) b) (omega (arith, c.requires.word)) in
    let shifted : (b r : ℕ) → b < width e → r < 64 → bit_of (get_or words b 0) r ≡ bit_of (code_by (width own) old r + (if bit_of c.bits.result r then 1 else 0)) b = λ b r low h.
    c.shift_words.ensures b r (omega (arith, low, c.width-k.ensures.is, ap width enc_new)) h ∙ ap (λ k. bit_of (code_by k old r + (if bit_of c.bits.result r then 1 else 0)) b) (c.width-own.ensures.is ∙ ap width enc) in
    let given = c.requires.raised in
    let above = λ (i : ℕ). c.bits.ensures i ∙ ap (λ x. nat_lt i n && x) (given.2 (at + i)) in
    let known : (k : ℕ) → row_at s.nonnull k ≡ is_some (value_at values k) = λ k. rw (← c.other.view_is) (known_rows s.encoding (list_of s.codes) s.nonnull c.other.invariant k) in
    let there : (i : ℕ) → bit_of c.bits-2.result i ≡ is_some (get_or (take n (drop at values)) i None) = λ i. c.bits-2.ensures i ∙ present_part values (row_at s.nonnull) at n i known in
    let sound : IsEncoding own = c.encoding-sound.ensures.sound in
    let sound_new : IsEncoding e = rw (← enc_new) c.width-k.ensures.sound in
    let storable = all_storable c.args.other.now.layout values c.len-few.ensures.held in
    raised_rows own e sound sound_new given.0 values c.encoding-sound.ensures.coded given.1 storable at n (λ i. code_at codes i) old words c.bits.result c.bits-2.result c.requires.inside c.requires.block c.requires.whole codes_are read shifted above there

pub extend_word-requires-clause-held : goal.extend_word-requires-clause-held
extend_word-requires-clause-held c =
    let s = c.other.inside in
    let own = c.args.other.now.encoding in
    let e = c.args.self.now.encoding in
    let values = c.args.other.now.values in
    let codes = c.in-V.codes in
    let at = c.args.at in
    let n = c.args.n in
    let old = c.read_words.new.words in
    let words = c.shift_words.new.words in
    let enc : s.encoding ≡ own = ap (λ (v : ColumnView). v.encoding) c.other.view_is in
    let enc_new : c.self.inside.encoding ≡ e = ap (λ (v : ColumnView). v.encoding) c.self.view_is in
    let invariant : AreRowCodes layouts.V s.encoding codes s.nonnull = rw c.in-V.is at c.other.invariant in
    let codes_are : (i : ℕ) → code_at codes i ≡ code_for own (value_at values i) = λ i. rw (← c.other.view_is, c.in-V.is) (ap (λ xs. get_or xs i 0) (all_codes s.encoding codes s.nonnull invariant) ∙ code_any s.encoding (values_from s.encoding codes s.nonnull) i) in
    let read : (b r : ℕ) → b < width own → r < 64 → bit_of (get_or old b 0) r ≡ bit_of (code_at codes (at + r)) b = λ b r low h.
    c.read_words.ensures b r (omega (arith, low, invariant.width, ap width enc)) h ∙ ap (λ j. bit_of (code_at codes j) b) (omega (arith, c.requires.word)) in
    let shifted : (b r : ℕ) → b < width e → r < 64 → bit_of (get_or words b 0) r ≡ bit_of (code_by (width own) old r + (if bit_of c.bits.result r then 1 else 0)) b = λ b r low h.
    c.shift_words.ensures b r (omega (arith, low, c.width-k.ensures.is, ap width enc_new)) h ∙ ap (λ k. bit_of (code_by k old r + (if bit_of c.bits.result r then 1 else 0)) b) (c.width-own.ensures.is ∙ ap width enc) in
    let given = c.requires.raised in
    let above = λ (i : ℕ). c.bits.ensures i ∙ ap (λ x. nat_lt i n && x) (given.2 (at + i)) in
    let known : (k : ℕ) → row_at s.nonnull k ≡ is_some (value_at values k) = λ k. rw (← c.other.view_is) (known_rows s.encoding (list_of s.codes) s.nonnull c.other.invariant k) in
    let there : (i : ℕ) → bit_of c.bits-2.result i ≡ is_some (get_or (take n (drop at values)) i None) = λ i. c.bits-2.ensures i ∙ present_part values (row_at s.nonnull) at n i known in
    let sound : IsEncoding own = c.encoding-sound.ensures.sound in
    let sound_new : IsEncoding e = rw (← enc_new) c.width-k.ensures.sound in
    let storable = all_storable c.args.other.now.layout values c.len-few.ensures.held in
    let same = raised_values own e sound sound_new given.0 values c.encoding-sound.ensures.coded given.1 storable at n (λ i. code_at codes i) old words c.bits.result c.bits-2.result c.requires.inside c.requires.block c.requires.whole codes_are read shifted above there in
    let held : All (IsNullOrHeld c.args.self.now.layout) values = subst (λ l. All (IsNullOrHeld l) values) (c.requires.other ∙ sym c.requires.layout) c.len-few.ensures.held in
    rw same (all_here (IsNullOrHeld c.args.self.now.layout) values at n held)

pub returns-clause-values : goal.returns-clause-values
returns-clause-values c =
    let s = c.other.inside in
    let own = c.args.other.now.encoding in
    let e = c.args.self.now.encoding in
    let values = c.args.other.now.values in
    let codes = c.in-V.codes in
    let at = c.args.at in
    let n = c.args.n in
    let old = c.read_words.new.words in
    let words = c.shift_words.new.words in
    let enc : s.encoding ≡ own = ap (λ (v : ColumnView). v.encoding) c.other.view_is in
    let enc_new : c.self.inside.encoding ≡ e = ap (λ (v : ColumnView). v.encoding) c.self.view_is in
    let invariant : AreRowCodes layouts.V s.encoding codes s.nonnull = rw c.in-V.is at c.other.invariant in
    let codes_are : (i : ℕ) → code_at codes i ≡ code_for own (value_at values i) = λ i. rw (← c.other.view_is, c.in-V.is) (ap (λ xs. get_or xs i 0) (all_codes s.encoding codes s.nonnull invariant) ∙ code_any s.encoding (values_from s.encoding codes s.nonnull) i) in
    let read : (b r : ℕ) → b < width own → r < 64 → bit_of (get_or old b 0) r ≡ bit_of (code_at codes (at + r)) b = λ b r low h.
    c.read_words.ensures b r (omega (arith, low, invariant.width, ap width enc)) h ∙ ap (λ j. bit_of (code_at codes j) b) (omega (arith, c.requires.word)) in
    let shifted : (b r : ℕ) → b < width e → r < 64 → bit_of (get_or words b 0) r ≡ bit_of (code_by (width own) old r + (if bit_of c.bits.result r then 1 else 0)) b = λ b r low h.
    c.shift_words.ensures b r (omega (arith, low, c.width-k.ensures.is, ap width enc_new)) h ∙ ap (λ k. bit_of (code_by k old r + (if bit_of c.bits.result r then 1 else 0)) b) (c.width-own.ensures.is ∙ ap width enc) in
    let given = c.requires.raised in
    let above = λ (i : ℕ). c.bits.ensures i ∙ ap (λ x. nat_lt i n && x) (given.2 (at + i)) in
    let known : (k : ℕ) → row_at s.nonnull k ≡ is_some (value_at values k) = λ k. rw (← c.other.view_is) (known_rows s.encoding (list_of s.codes) s.nonnull c.other.invariant k) in
    let there : (i : ℕ) → bit_of c.bits-2.result i ≡ is_some (get_or (take n (drop at values)) i None) = λ i. c.bits-2.ensures i ∙ present_part values (row_at s.nonnull) at n i known in
    let sound : IsEncoding own = c.encoding-sound.ensures.sound in
    let sound_new : IsEncoding e = rw (← enc_new) c.width-k.ensures.sound in
    let storable = all_storable c.args.other.now.layout values c.len-few.ensures.held in
    c.extend_word.ensures.values ∙ ap (λ xs. c.args.self.now.values ++ xs) (raised_values own e sound sound_new given.0 values c.encoding-sound.ensures.coded given.1 storable at n (λ i. code_at codes i) old words c.bits.result c.bits-2.result c.requires.inside c.requires.block c.requires.whole codes_are read shifted above there)
