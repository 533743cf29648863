use Rattle.std.proofs.Common.{Bool, refl, false, true, ◌≡◌}
use Rattle.std.specs.Bool.{MatchBool}
use Rattle.bw_csvload.proofs.Fuel.{read-found, read-none}
use Rattle.csv.specs.Records.{fields_of}
use Rattle.bw_csvload.proofs.records.read_next.Goals as goal

pub returns-clause-reading : goal.returns-clause-reading
returns-clause-reading c found =
    let read = c.in-Ok.ensures.reads c.requires.trim c.requires.ready in
    (read-found c.args.reader.now c.read_byte_record.new.self (fields_of c.read_byte_record.new.row) c.requires (rw found at read) (c.in-Ok.ensures.ready c.requires.trim) c.in-Ok.ensures.flexible).0

pub returns-clause-next : goal.returns-clause-next
returns-clause-next c =
    let read = c.in-Ok.ensures.reads c.requires.trim c.requires.ready in
    by c.in-Ok.found
    (λ found. (read-found c.args.reader.now c.read_byte_record.new.self (fields_of c.read_byte_record.new.row) c.requires (rw found at read) (c.in-Ok.ensures.ready c.requires.trim) c.in-Ok.ensures.flexible).1)
    (λ none. read-none c.args.reader.now c.read_byte_record.new.self (fields_of c.read_byte_record.new.row) c.requires (rw none at read))
  where
    by : {P Q : Type 0} (b : Bool) → (b ≡ true → P) → (b ≡ false → Q) → MatchBool b P Q
    by true p q = p refl
    by false p q = q refl
