use Rattle.std.proofs.Common.{ap, arith, drop, get_or, length, sym, take, ◌++◌, ◌-◌, ◌≡◌, ◌∙◌}
use Rattle.std.proofs.Math.Seq.{take-append_seam}
use Rattle.bw_code.specs.Columns.{Fit, put_codes}
use Rattle.bw_code.proofs.Lists.{made_len}
use Rattle.bw_code.proofs.Runs.{fit_at, put_plain, put_to}
use Rattle.bw_code.proofs.narrow_codes.NarrowCodesCodeColumn.put_run.Goals as goal

pub invariant_of-self : goal.invariant_of-self
invariant_of-self c =
    let w = c.self.inside.width in
    let at = c.args.at in
    let rows = c.args.rows in
    let codes = c.args.codes.now in
    let old = c.self.inside.codes.items in
    let new = c.put_run.new.kept in
    let fit : Fit w codes = rw (← c.self.view_is) at c.requires.fit in
    let is : new ≡ put_codes old at rows codes = c.put_run.ensures ∙ ap (λ xs. put_codes xs at rows codes) c.deref_mut.ensures.value in
    let long : length new ≡ c.self.inside.codes.len = omega (arith, ap length is, made_len (length old) (put_to old at rows (λ j. get_or codes (j - at) 0)), c.self.inside.codes.ok.0) in
    let whole : take c.self.inside.codes.len (new ++ drop (length new) old) ≡ put_codes old at rows codes = ap (λ n. take n (new ++ drop (length new) old)) (sym long) ∙ take-append_seam new (drop (length new) old) ∙ is in
    rw whole (put_plain old at rows (λ j. get_or codes (j - at) 0) w c.self.invariant (λ j. fit_at w codes fit (j - at)))
