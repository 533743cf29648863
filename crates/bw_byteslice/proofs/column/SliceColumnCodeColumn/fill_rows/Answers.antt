use Rattle.std.proofs.Common.{ap, arith, length, pow_pos, refl, subst, ◌%◌, ◌*◌, ◌/◌, ◌<◌, ◌^◌, ◌∙◌, ◌≡◌, ◌≤◌, ℕ}
use Rattle.std.proofs.Math.Nat.{mod-lt, mul-div_cancel, mul-mod_left}
use Rattle.bw_mask.specs.Masks.{len}
use Rattle.bw_code.specs.Units.{digit}
use Rattle.bw_code.proofs.Lists.{made_len}
use Rattle.bw_byteslice.specs.Slices.{number_of, shift_of, slices_of}
use Rattle.bw_byteslice.specs.Storing.{bytes_of, capacities_of, code_of, room_of}
use Rattle.bw_byteslice.proofs.Mixed.{codes_mixed, slices_mixed}
use Rattle.bw_byteslice.proofs.Numbers.{number_of_digits}
use Rattle.bw_byteslice.proofs.Raised.{raised_fits}
use Rattle.bw_byteslice.proofs.Views.{byte_count, count_is}
use Rattle.bw_byteslice.proofs.column.SliceColumnCodeColumn.fill_rows.Goals as goal

-- the bytes of the code
abbrev byte : ℕ → ℕ → ℕ → ℕ → ℕ
byte k code j i = digit 256 (slices_of k) (code * 2 ^ shift_of k) i

number_is : (k code j : ℕ) → code < 2 ^ k → number_of (slices_of k) (byte k code j) ≡ code * 2 ^ shift_of k
number_is k code j small = number_of_digits (slices_of k) (code * 2 ^ shift_of k) (raised_fits k code small)

pub fill_codes-requires-clause-rows : goal.fill_codes-requires-clause-rows
fill_codes-requires-clause-rows c = c.requires.rows ∙ count_is c.self.inside.width c.self.inside.len c.self.inside.slices.items c.args.self.now c.self.invariant c.self.view_is

pub invariant_of-self : goal.invariant_of-self
invariant_of-self c =
    let s = c.self.inside in
    let k = s.width in
    let code = c.args.code in
    let before = bytes_of s.slices.items in
    let after = bytes_of c.fill_codes.new.slices.items in
    let small : code < 2 ^ k = rw (← c.self.view_is) at c.requires.fits in
    let long : len c.args.rows.now ≡ s.len = c.requires.rows ∙ count_is k s.len s.slices.items c.args.self.now c.self.invariant c.self.view_is in
    let same : length after ≡ length before = omega (arith, byte_count s.slices.items, byte_count c.fill_codes.new.slices.items, c.fill_codes.ensures.count) in
    slices_mixed k s.len before after c.args.rows.now (byte k code) c.self.invariant c.fill_codes.ensures.bytes long same c.fill_codes.ensures.len
    (λ i j. mod-lt _ (omega arith))
    (λ j. ap (λ x. x % 2 ^ shift_of k) (number_is k code j small) ∙ mul-mod_left code (2 ^ shift_of k))

pub returns-clause-shape : goal.returns-clause-shape
returns-clause-shape c =
    let more : room_of (capacities_of c.self.inside.slices.items) ≤ room_of (capacities_of c.fill_codes.new.slices.items) = omega (arith, ap room_of c.fill_codes.ensures.capacities) in
    rw (← c.self.view_is) (record { width = refl; room = more })

pub returns-clause-codes : goal.returns-clause-codes
returns-clause-codes c =
    let s = c.self.inside in
    let k = s.width in
    let code = c.args.code in
    let before = bytes_of s.slices.items in
    let after = bytes_of c.fill_codes.new.slices.items in
    let small : code < 2 ^ k = rw (← c.self.view_is) at c.requires.fits in
    rw (← c.self.view_is) (λ i h.
    codes_mixed k s.len before after c.args.rows.now (byte k code) c.self.invariant c.fill_codes.ensures.bytes i code (subst (λ m. i < m) (made_len s.len (code_of k before)) h)
    (ap (λ x. x / 2 ^ shift_of k) (number_is k code i small) ∙ mul-div_cancel code (pow_pos (shift_of k))))
