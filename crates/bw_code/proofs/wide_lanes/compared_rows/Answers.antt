use Rattle.std.proofs.Common.{ap, get_or, nat_le, nat_lt, not, sym, ◌==◌, ◌∙◌}
use Rattle.bw_code.specs.Tests.{code_compares}
use Rattle.bw_code.proofs.LaneLemmas.{both_firsts_64}
use Rattle.bw_code.proofs.wide_lanes.compared_rows.Goals as goal

pub returns-in-Eq : goal.returns-in-Eq
returns-in-Eq c i h =
    both_firsts_64 (λ x y. x == y) c.args.codes.now c.args.others.now i c.requires.long c.requires.other h
    ∙ sym (ap (λ op. code_compares op (get_or c.args.codes.now i 0) (get_or c.args.others.now i 0)) c.in-Eq.is)

pub returns-in-Ne : goal.returns-in-Ne
returns-in-Ne c i h =
    both_firsts_64 (λ x y. not (x == y)) c.args.codes.now c.args.others.now i c.requires.long c.requires.other h
    ∙ sym (ap (λ op. code_compares op (get_or c.args.codes.now i 0) (get_or c.args.others.now i 0)) c.in-Ne.is)

pub returns-in-Lt : goal.returns-in-Lt
returns-in-Lt c i h =
    both_firsts_64 (nat_lt) c.args.codes.now c.args.others.now i c.requires.long c.requires.other h
    ∙ sym (ap (λ op. code_compares op (get_or c.args.codes.now i 0) (get_or c.args.others.now i 0)) c.in-Lt.is)

pub returns-in-Le : goal.returns-in-Le
returns-in-Le c i h =
    both_firsts_64 (nat_le) c.args.codes.now c.args.others.now i c.requires.long c.requires.other h
    ∙ sym (ap (λ op. code_compares op (get_or c.args.codes.now i 0) (get_or c.args.others.now i 0)) c.in-Le.is)

pub returns-in-Gt : goal.returns-in-Gt
returns-in-Gt c i h =
    both_firsts_64 (nat_lt) c.args.others.now c.args.codes.now i c.requires.other c.requires.long h
    ∙ sym (ap (λ op. code_compares op (get_or c.args.codes.now i 0) (get_or c.args.others.now i 0)) c.in-Gt.is)

pub returns-in-Ge : goal.returns-in-Ge
returns-in-Ge c i h =
    both_firsts_64 (nat_le) c.args.others.now c.args.codes.now i c.requires.other c.requires.long h
    ∙ sym (ap (λ op. code_compares op (get_or c.args.codes.now i 0) (get_or c.args.others.now i 0)) c.in-Ge.is)
