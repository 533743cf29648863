use Rattle.std.proofs.Common.{[], ◌∷◌, ap, arith, length, subst, sym, ◌+◌, ◌<◌, ◌^◌, ◌≡◌, ◌∙◌}
use Rattle.bw_code.specs.Columns.{Fit}
use Rattle.bw_code.proofs.Lists.{made_set}
use Rattle.bw_byteslice.specs.Storing.{bytes_of, code_of}
use Rattle.bw_byteslice.proofs.Keeping.{code_inside, code_outside, slices_put}
use Rattle.bw_byteslice.proofs.Views.{byte_count, count_is, fit_one, width_is}
use Rattle.bw_byteslice.proofs.column.SliceColumnCodeColumn.set.Goals as goal

pub put-requires-clause-there : goal.put-requires-clause-there
put-requires-clause-there c i low = omega (arith, c.self.invariant.long i low, count_is c.self.inside.width c.self.inside.len c.self.inside.slices.items c.args.self.now c.self.invariant c.self.view_is, c.requires.there)

pub put-requires-clause-few : goal.put-requires-clause-few
put-requires-clause-few c = omega (arith, c.self.invariant.few, count_is c.self.inside.width c.self.inside.len c.self.inside.slices.items c.args.self.now c.self.invariant c.self.view_is, c.requires.there)

pub invariant_of-self : goal.invariant_of-self
invariant_of-self c =
    let k = c.self.inside.width in
    let codes = c.args.code ∷ [] in
    let before = bytes_of c.self.inside.slices.items in
    let after = bytes_of c.put.new.slices.items in
    let fit : Fit k codes = fit_one k c.args.code (subst (λ w. c.args.code < 2 ^ w) (sym (width_is c.self.inside.width c.self.inside.len c.self.inside.slices.items c.args.self.now c.self.invariant c.self.view_is)) c.requires.fits) in
    let count = count_is c.self.inside.width c.self.inside.len c.self.inside.slices.items c.args.self.now c.self.invariant c.self.view_is in
    let same : length after ≡ length before = omega (arith, byte_count c.self.inside.slices.items, byte_count c.put.new.slices.items, c.put.ensures.count) in
    slices_put k c.args.i codes before after fit c.put.ensures.inside c.put.ensures.outside c.self.inside.len c.self.inside.len c.self.invariant (omega arith) c.self.invariant.few (omega (arith, count, c.requires.there)) same
    (λ i low. c.put.ensures.len i ∙ c.self.invariant.long i low)

pub returns-clause-codes : goal.returns-clause-codes
returns-clause-codes c =
    let k = c.self.inside.width in
    let codes = c.args.code ∷ [] in
    let before = bytes_of c.self.inside.slices.items in
    let after = bytes_of c.put.new.slices.items in
    let fit : Fit k codes = fit_one k c.args.code (subst (λ w. c.args.code < 2 ^ w) (sym (width_is c.self.inside.width c.self.inside.len c.self.inside.slices.items c.args.self.now c.self.invariant c.self.view_is)) c.requires.fits) in
    let count = count_is c.self.inside.width c.self.inside.len c.self.inside.slices.items c.args.self.now c.self.invariant c.self.view_is in
    let place : c.args.i + 0 ≡ c.args.i = omega arith in
    let here : code_of k after c.args.i ≡ c.args.code = ap (code_of k after) (sym place) ∙ code_inside k c.args.i codes before after fit c.put.ensures.inside c.put.ensures.outside 0 (omega arith) in
    let other = code_outside k c.args.i codes before after fit c.put.ensures.inside c.put.ensures.outside in
    rw (← c.self.view_is) (made_set c.self.inside.len (code_of k before) (code_of k after) c.args.i c.args.code (omega (arith, count, c.requires.there)) here (λ j h apart. other j (λ up. omega (arith, up, apart))))
