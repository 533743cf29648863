use Rattle.std.proofs.Common.{ap, arith, length, pow_pos, sym, take, ℕ, ◌&&◌, ◌*◌, ◌+◌, ◌-◌, ◌/◌, ◌<◌, ◌==◌, ◌≡◌, ◌∙◌}
use Rattle.std.proofs.lemmas.List.{get_or-take, length-take}
use Rattle.std.specs.List.{items_where_true}
use Rattle.bw_mask.specs.Masks.{row_at}
use Rattle.bw_code.specs.Columns.{code_at}
use Rattle.bw_aggregate.specs.Descents.{front}
use Rattle.bw_aggregate.proofs.DigitCounts.{front_of, goes_down, goes_on, implied_by, left_alike, narrower, rest_there, room, sizes, small_on}
use Rattle.bw_aggregate.proofs.nth_code.next_digit.Goals as goal

pub overflow_mul-first : goal.overflow_mul-first
overflow_mul-first g c =
    let column = g.C.CodeColumn.seen c.args.column.now in
    let way = c.args.way in
    let k = c.min-bits.result in
    let j = way.below - k in
    let many = c.digits_of-many.result in
    let down : way.below ≡ j + k = omega (arith, c.min-bits.ensures) in
    let some : 0 < many = omega (arith, c.digits_of-many.ensures.is, pow_pos k) in
    let fits = room way.below j k many way.found column.width down c.digits_of-many.ensures.is c.requires.small c.requires.narrow 0 some in
    omega (arith, fits)

pub count_digits-requires-clause-among : goal.count_digits-requires-clause-among
count_digits-requires-clause-among g c r h is_in =
    let column = g.C.CodeColumn.seen c.args.column.now in
    let way = c.args.way in
    let k = c.min-bits.result in
    let j = way.below - k in
    let many = c.digits_of-many.result in
    let down : way.below ≡ j + k = omega (arith, c.min-bits.ensures) in
    let some : 0 < many = omega (arith, c.digits_of-many.ensures.is, pow_pos k) in
    let size = sizes way.below j k many way.found column.width down c.digits_of-many.ensures.is c.requires.small c.requires.narrow in
    let code = code_at column r in
    let quotient : front j code / many ≡ way.found = sym (front_of way.below j many code size) ∙ c.requires.begin r h is_in in
    let within = goes_on (front j code) way.found many some quotient in
    record { from = within.0; upto = within.1 }

pub digit_of-place-requires : goal.digit_of-place-requires
digit_of-place-requires g c =
    let column = g.C.CodeColumn.seen c.args.column.now in
    let way = c.args.way in
    let k = c.min-bits.result in
    let j = way.below - k in
    let many = c.digits_of-many.result in
    let down : way.below ≡ j + k = omega (arith, c.min-bits.ensures) in
    let some : 0 < many = omega (arith, c.digits_of-many.ensures.is, pow_pos k) in
    let size = sizes way.below j k many way.found column.width down c.digits_of-many.ensures.is c.requires.small c.requires.narrow in
    let counts = take many c.count_digits.new.counts in
    let long : length counts ≡ many = omega (arith, length-take many c.count_digits.new.counts, c.count_digits.ensures.long, c.fill.ensures.len, length-take (many + 64) c.as_mut_slice.result.now, c.as_mut_slice.ensures.len, c.digits_of-many.ensures.most, c.requires.long) in
    let held = items_where_true c.args.left.now.rows column.codes in
    record { there = rest_there held j way.found many some counts long (λ d h. get_or-take many c.count_digits.new.counts d 0 h ∙ c.count_digits.ensures.counted d h) way.below size way.rest c.requires.there }

pub overflow_add-result : goal.overflow_add-result
overflow_add-result g c =
    let column = g.C.CodeColumn.seen c.args.column.now in
    let way = c.args.way in
    let k = c.min-bits.result in
    let j = way.below - k in
    let many = c.digits_of-many.result in
    let down : way.below ≡ j + k = omega (arith, c.min-bits.ensures) in
    let some : 0 < many = omega (arith, c.digits_of-many.ensures.is, pow_pos k) in
    let counts = take many c.count_digits.new.counts in
    let long : length counts ≡ many = omega (arith, length-take many c.count_digits.new.counts, c.count_digits.ensures.long, c.fill.ensures.len, length-take (many + 64) c.as_mut_slice.result.now, c.as_mut_slice.ensures.len, c.digits_of-many.ensures.most, c.requires.long) in
    let digit = c.digit_of-place.result.digit in
    let low : digit < many = omega (arith, c.digit_of-place.ensures.inside, long) in
    let fits = room way.below j k many way.found column.width down c.digits_of-many.ensures.is c.requires.small c.requires.narrow digit low in
    omega (arith, fits)

pub returns-clause-small : goal.returns-clause-small
returns-clause-small g c =
    let column = g.C.CodeColumn.seen c.args.column.now in
    let way = c.args.way in
    let k = c.min-bits.result in
    let j = way.below - k in
    let many = c.digits_of-many.result in
    let down : way.below ≡ j + k = omega (arith, c.min-bits.ensures) in
    let some : 0 < many = omega (arith, c.digits_of-many.ensures.is, pow_pos k) in
    let counts = take many c.count_digits.new.counts in
    let long : length counts ≡ many = omega (arith, length-take many c.count_digits.new.counts, c.count_digits.ensures.long, c.fill.ensures.len, length-take (many + 64) c.as_mut_slice.result.now, c.as_mut_slice.ensures.len, c.digits_of-many.ensures.most, c.requires.long) in
    let digit = c.digit_of-place.result.digit in
    let low : digit < many = omega (arith, c.digit_of-place.ensures.inside, long) in
    small_on way.below j k many way.found column.width down c.digits_of-many.ensures.is c.requires.small c.requires.narrow digit low

pub returns-clause-within : goal.returns-clause-within
returns-clause-within g c rows r left =
    let column = g.C.CodeColumn.seen c.args.column.now in
    let way = c.args.way in
    let k = c.min-bits.result in
    let j = way.below - k in
    let many = c.digits_of-many.result in
    let down : way.below ≡ j + k = omega (arith, c.min-bits.ensures) in
    let some : 0 < many = omega (arith, c.digits_of-many.ensures.is, pow_pos k) in
    let size = sizes way.below j k many way.found column.width down c.digits_of-many.ensures.is c.requires.small c.requires.narrow in
    let counts = take many c.count_digits.new.counts in
    let long : length counts ≡ many = omega (arith, length-take many c.count_digits.new.counts, c.count_digits.ensures.long, c.fill.ensures.len, length-take (many + 64) c.as_mut_slice.result.now, c.as_mut_slice.ensures.len, c.digits_of-many.ensures.most, c.requires.long) in
    let digit = c.digit_of-place.result.digit in
    let low : digit < many = omega (arith, c.digit_of-place.ensures.inside, long) in
    let code = code_at column r in
    let found = way.found * many + digit in
    ap (λ b. b && (front j code == found)) (left.each r)
    ∙ sym (narrower (row_at rows r) (front way.below code == way.found) (front j code == found) (implied_by way.below j many code way.found digit size low))

pub returns-clause-rest : goal.returns-clause-rest
returns-clause-rest g c rows n left is =
    let column = g.C.CodeColumn.seen c.args.column.now in
    let way = c.args.way in
    let k = c.min-bits.result in
    let j = way.below - k in
    let many = c.digits_of-many.result in
    let down : way.below ≡ j + k = omega (arith, c.min-bits.ensures) in
    let some : 0 < many = omega (arith, c.digits_of-many.ensures.is, pow_pos k) in
    let size = sizes way.below j k many way.found column.width down c.digits_of-many.ensures.is c.requires.small c.requires.narrow in
    let counts = take many c.count_digits.new.counts in
    let long : length counts ≡ many = omega (arith, length-take many c.count_digits.new.counts, c.count_digits.ensures.long, c.fill.ensures.len, length-take (many + 64) c.as_mut_slice.result.now, c.as_mut_slice.ensures.len, c.digits_of-many.ensures.most, c.requires.long) in
    let digit = c.digit_of-place.result.digit in
    let low : digit < many = omega (arith, c.digit_of-place.ensures.inside, long) in
    let held = items_where_true rows.rows column.codes in
    let same : length rows.rows ≡ length column.codes = omega (arith, left.len, c.requires.len) in
    let alike = λ (d : ℕ) (h : d < many). left_alike rows.rows c.args.left.now.rows column.codes same c.requires.len (λ x. front j x == way.found * many + d) (λ x. front way.below x == way.found) left.each
    (λ x. implied_by way.below j many x way.found d size h) in
    goes_down held j way.found many some counts long (λ d h. get_or-take many c.count_digits.new.counts d 0 h ∙ c.count_digits.ensures.counted d h ∙ alike d h) way.below size n way.rest digit c.digit_of-place.result.rest is low
    c.digit_of-place.ensures.before c.digit_of-place.ensures.there
