use Rattle.std.proofs.Common.{FitsSigned, None, arith, get_or, of_z, refl, rules, take, to_z, w64, ◌≡◌}
use Rattle.std.proofs.lemmas.Int.{ints, to_z-of_z}
use Rattle.std.proofs.lemmas.List.{take_all}
use Rattle.bw_cells.proofs.Known.{known_more}
use Rattle.bw_cells.proofs.KnownEnds.{fits_more, greatest_is, greatest_more, least_is, least_more, none_more, some_more}
use Rattle.bw_cells.specs.Known.{known}
use Rattle.bw_cells.proofs.ends.known_ends.Goals as goal

pub loop-i-init : goal.loop-i-init
loop-i-init c = record {
  least = refl;
  greatest = refl;
  fits = λ k d l. absurd (omega arith);
  some = λ h. absurd cc;
  none = λ _. refl;
}

pub loop-i-preserved : goal.loop-i-preserved
loop-i-preserved c =
    let values = c.args.values.now in
    let xs = known (take c.loop-i.i values) in
    let value = get_or values c.loop-i.i None in
    let fits_low : FitsSigned w64 c.unwrap_or.result = search rules in
    let fits_high : FitsSigned w64 c.unwrap_or-in-loop-i.result = search rules in
    let fits_least : FitsSigned w64 c.min-least.result = search rules in
    let fits_greatest : FitsSigned w64 c.max-greatest.result = search rules in
    let low : to_z w64 (of_z w64 c.unwrap_or.result) ≡ c.unwrap_or.result = to_z-of_z w64 c.unwrap_or.result fits_low in
    let high : to_z w64 (of_z w64 c.unwrap_or-in-loop-i.result) ≡ c.unwrap_or-in-loop-i.result = to_z-of_z w64 c.unwrap_or-in-loop-i.result fits_high in
    let least : to_z w64 (of_z w64 c.min-least.result) ≡ c.min-least.result = to_z-of_z w64 c.min-least.result fits_least in
    let greatest : to_z w64 (of_z w64 c.max-greatest.result) ≡ c.max-greatest.result = to_z-of_z w64 c.max-greatest.result fits_greatest in
    rw (least, greatest, known_more values c.loop-i.i c.loop-i-test.true, c.is_some-any.ensures) record {
      least = least_more _ xs value _ _ c.loop-i.invariant.least (rw (low, c.unwrap_or.ensures) at c.min-least.ensures.value);
      greatest = greatest_more _ xs value _ _ c.loop-i.invariant.greatest (rw (high, c.unwrap_or-in-loop-i.ensures) at c.max-greatest.ensures.value);
      fits = fits_more _ xs value c.loop-i.invariant.fits (rw c.unwrap_or.ensures at fits_low);
      some = some_more xs value c.loop-i.any c.loop-i.invariant.some;
      none = none_more xs value c.loop-i.any c.loop-i.invariant.none;
    }

pub returns-then-any : goal.returns-then-any
returns-then-any c =
    let values = c.args.values.now in
    let all : take c.loop-i.i values ≡ values = take_all c.loop-i.i values (omega (arith, c.loop-i-test.false)) in
    let some = rw all at (c.loop-i.invariant.some c.if-any.true) in
    let fits = rw all at c.loop-i.invariant.fits in (
      least_is _ (known values) _ some (λ k d l. let at : FitsSigned w64 (get_or (known values) k d) = fits k d l in omega (arith, ints, at)) (rw all at c.loop-i.invariant.least),
      greatest_is _ (known values) _ some (λ k d l. let at : FitsSigned w64 (get_or (known values) k d) = fits k d l in omega (arith, ints, at)) (rw all at c.loop-i.invariant.greatest),
    )
