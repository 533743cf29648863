use Rattle.bw_horizontal.proofs.Gathered.{kept_back, word_full}
use Rattle.bw_horizontal.proofs.gather.gather.Goals as goal

pub returns-then-begun-n-lt64-clause-rows : goal.returns-then-begun-n-lt64-clause-rows
returns-then-begun-n-lt64-clause-rows c wanted before here = kept_back c.args.out.now c.args.at c.args.n c.args.rest c.args.rows wanted before c.requires.clean here c.if-begun-n-lt64.true

pub returns-clause-rows : goal.returns-clause-rows
returns-clause-rows c wanted before here =
    word_full c.args.out.now c.args.at c.args.n c.args.rest c.args.rows wanted before c.requires.clean here c.put_word.new.self c.past.result c.if-begun-n-lt64.false c.requires.most c.put_word.ensures.shape.0 c.put_word.ensures.inside c.put_word.ensures.outside c.past.ensures
