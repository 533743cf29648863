use Rattle.std.proofs.Common.{List, [], Global, Vec, ap, arith, get_or, length, refl, sym, ℕ, ◌+◌, ◌/◌, ◌<◌, ◌^◌, ◌≡◌, ◌∙◌}
use Rattle.std.proofs.Math.Nat.{zero-div}
use Rattle.bw_byteslice.specs.Storing.{byte_of, bytes_of, number_at}
use Rattle.bw_byteslice.proofs.Numbers.{number_none, number_of_four, number_of_one, number_of_three, number_of_two}
use Rattle.bw_byteslice.proofs.Replacing.{read_is}
use Rattle.bw_byteslice.proofs.reading.read_numbers.Goals as goal

-- a number of so many bytes, without its lowest bits
number_is : (n m s j number : ℕ) (slices : List (List ℕ)) → n ≡ m → number ≡ number_at m slices j → number / 2 ^ s ≡ number_at n slices j / 2 ^ s
number_is n m s j number slices count is = rw (is, count) refl

-- a byte of a slice that is lent
byte_here : (slices : List (Vec ℕ Global)) (i j : ℕ) (slice : Vec ℕ Global) (items : List ℕ) → i < length slices → slice ≡ get_or slices i slice → items ≡ slice.items → get_or items j 0 ≡ byte_of (bytes_of slices) j i
byte_here slices i j slice items within read lent = ap (λ xs. get_or xs j 0) (lent ∙ sym (read_is (λ v. v.items) [] slices i within slice read))

pub returns-in-len1-clause-numbers : goal.returns-in-len1-clause-numbers
returns-in-len1-clause-numbers c r h =
    let slices = c.args.slices.now in
    let j = c.args.at + r in
    let count : length c.args.slices.now ≡ 1 = omega arith in
    let first = byte_here slices 0 j c.first-item.result c.deref.result.now (omega arith) c.first-item.is c.deref.ensures.value in
    c.read_one.ensures.codes r h ∙ number_is (length slices) 1 c.args.spare j _ (bytes_of slices) count
    (rw first (sym (number_of_one (byte_of (bytes_of slices) j))))

pub returns-in-len2-clause-numbers : goal.returns-in-len2-clause-numbers
returns-in-len2-clause-numbers c r h =
    let slices = c.args.slices.now in
    let j = c.args.at + r in
    let count : length c.args.slices.now ≡ 2 = omega arith in
    let first = byte_here slices 0 j c.first-item-then-slices-lt3.result c.deref-in-len2.result.now (omega arith) c.first-item-then-slices-lt3.is c.deref-in-len2.ensures.value in
    let second = byte_here slices 1 j c.second-item.result c.deref-in-len2-2.result.now (omega arith) c.second-item.is c.deref-in-len2-2.ensures.value in
    c.read_two.ensures.codes r h ∙ number_is (length slices) 2 c.args.spare j _ (bytes_of slices) count
    (rw (first, second) (sym (number_of_two (byte_of (bytes_of slices) j))))

pub returns-in-len3-clause-numbers : goal.returns-in-len3-clause-numbers
returns-in-len3-clause-numbers c r h =
    let slices = c.args.slices.now in
    let j = c.args.at + r in
    let count : length c.args.slices.now ≡ 3 = omega arith in
    let first = byte_here slices 0 j c.first-item-then-slices-lt4.result c.deref-in-len3.result.now (omega arith) c.first-item-then-slices-lt4.is c.deref-in-len3.ensures.value in
    let second = byte_here slices 1 j c.second-item-then-slices-lt4.result c.deref-in-len3-2.result.now (omega arith) c.second-item-then-slices-lt4.is c.deref-in-len3-2.ensures.value in
    let third = byte_here slices 2 j c.third-item.result c.deref-in-len3-3.result.now (omega arith) c.third-item.is c.deref-in-len3-3.ensures.value in
    c.read_three.ensures.codes r h ∙ number_is (length slices) 3 c.args.spare j _ (bytes_of slices) count
    (rw (first, second, third) (sym (number_of_three (byte_of (bytes_of slices) j))))

pub returns-in-len4-clause-numbers : goal.returns-in-len4-clause-numbers
returns-in-len4-clause-numbers c r h =
    let slices = c.args.slices.now in
    let j = c.args.at + r in
    let count : length c.args.slices.now ≡ 4 = omega arith in
    let first = byte_here slices 0 j c.first-item-then-slices-lt5.result c.deref-in-len4.result.now (omega arith) c.first-item-then-slices-lt5.is c.deref-in-len4.ensures.value in
    let second = byte_here slices 1 j c.second-item-then-slices-lt5.result c.deref-in-len4-2.result.now (omega arith) c.second-item-then-slices-lt5.is c.deref-in-len4-2.ensures.value in
    let third = byte_here slices 2 j c.third-item-then-slices-lt5.result c.deref-in-len4-3.result.now (omega arith) c.third-item-then-slices-lt5.is c.deref-in-len4-3.ensures.value in
    let fourth = byte_here slices 3 j c.fourth-item.result c.deref-in-len4-4.result.now (omega arith) c.fourth-item.is c.deref-in-len4-4.ensures.value in
    c.read_four.ensures.codes r h ∙ number_is (length slices) 4 c.args.spare j _ (bytes_of slices) count
    (rw (first, second, third, fourth) (sym (number_of_four (byte_of (bytes_of slices) j))))

pub returns-in-empty-clause-numbers : goal.returns-in-empty-clause-numbers
returns-in-empty-clause-numbers c r h =
    let slices = bytes_of c.args.slices.now in
    let j = c.args.at + r in
    let count : length c.args.slices.now ≡ 0 = omega arith in
    c.fill.ensures.clones r 0 h refl ∙ sym (zero-div (2 ^ c.args.spare))
    ∙ number_is (length c.args.slices.now) 0 c.args.spare j 0 slices count (sym (number_none (byte_of slices j)))
