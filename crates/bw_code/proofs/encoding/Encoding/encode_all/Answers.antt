use Rattle.bw_code.proofs.encoding.Encoding.encode_all.Goals as goal

pub returns-in-Dictionary-clause-all : goal.returns-in-Dictionary-clause-all
returns-in-Dictionary-clause-all c = rw c.in-Dictionary.is c.encode_all-in-Dictionary.ensures.all
