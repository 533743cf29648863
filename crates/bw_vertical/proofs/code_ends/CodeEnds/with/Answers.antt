use Rattle.std.proofs.Common.{min, subst, sym, true, ◌+◌}
use Rattle.bw_vertical.specs.Descents.{AreCodeEnds}
use Rattle.bw_vertical.proofs.JoinedEnds.{both_ends, on, only_first, only_second, turned}
use Rattle.bw_vertical.proofs.code_ends.CodeEnds.with.Goals as goal

pub returns-then-not-self : goal.returns-then-not-self
returns-then-not-self c has f code g n m bits codes first second =
    only_second has f code g n m bits codes c.args.self c.args.more first second (turned c.args.self.any c.if-not-self.true)

pub returns-then-not-more : goal.returns-then-not-more
returns-then-not-more c has f code g n m bits codes first second =
    only_first has f code g n m bits codes c.args.self c.args.more first second (turned c.args.more.any c.if-not-more.true)

pub returns : goal.returns
returns c has f code g n m bits codes first second =
    subst (λ l. AreCodeEnds has code (n + m) (record { any = true; least = l; greatest = c.max.result })) (sym c.min.ensures)
    (subst (λ h. AreCodeEnds has code (n + m) (record { any = true; least = min c.args.self.least c.args.more.least; greatest = h })) (sym c.max.ensures)
    (both_ends has f code g n m bits codes c.args.self c.args.more first second (on c.args.self.any c.if-not-self.false) (on c.args.more.any c.if-not-more.false)))
