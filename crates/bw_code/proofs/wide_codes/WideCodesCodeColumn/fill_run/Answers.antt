use Rattle.std.proofs.Common.{ap, arith, drop, length, sym, take, ◌++◌, ◌<◌, ◌^◌, ◌≡◌, ◌∙◌}
use Rattle.std.proofs.Math.Seq.{take-append_seam}
use Rattle.bw_code.specs.Columns.{filled_codes}
use Rattle.bw_code.proofs.Lists.{made_len}
use Rattle.bw_code.proofs.Runs.{put_wide, put_to}
use Rattle.bw_code.proofs.wide_codes.WideCodesCodeColumn.fill_run.Goals as goal

pub invariant_of-self : goal.invariant_of-self
invariant_of-self c =
    let w = c.self.inside.width in
    let at = c.args.at in
    let rows = c.args.rows in
    let code = c.args.code in
    let old = c.self.inside.codes.items in
    let new = c.fill_run.new.kept in
    let fits : code < 2 ^ w = rw (← c.self.view_is) at c.requires.fits in
    let is : new ≡ filled_codes old at rows code = c.fill_run.ensures ∙ ap (λ xs. filled_codes xs at rows code) c.deref_mut.ensures.value in
    let long : length new ≡ c.self.inside.codes.len = omega (arith, ap length is, made_len (length old) (put_to old at rows (λ j. code)), c.self.inside.codes.ok.0) in
    let whole : take c.self.inside.codes.len (new ++ drop (length new) old) ≡ filled_codes old at rows code = ap (λ n. take n (new ++ drop (length new) old)) (sym long) ∙ take-append_seam new (drop (length new) old) ∙ is in
    rw whole (put_wide old at rows (λ j. code) w c.self.invariant (λ j. fits))
