use Rattle.std.proofs.Common.{Err, Ok, ap, arith, subst}
use Rattle.bw_sql.specs.Tree.{statement_of}
use Rattle.bw_model.specs.FileUse.{file_read, file_use}
use Rattle.bw_model.specs.Filing.{file_limit}
use Rattle.bw_engine.specs.Stores.{store_of}
use Rattle.bw_shell.specs.Answers.{Answers}
use Rattle.bw_shell.specs.States.{FolderState, seen, with_tables}
use Rattle.bw_shell.proofs.ByFolder.{WasRead, by_fault, failures_upto, has_bytes, keeps_read, read_none, read_some, reading_bytes, with_bytes}
use Rattle.bw_shell.proofs.executing.execute.Goals as goal

pub execute_alone-requires-clause-few : goal.execute_alone-requires-clause-few
execute_alone-requires-clause-few g c =
    let same = ap (λ (f : FolderState). f.failures) (read_none _ _ _ c.in-None.ensures).1 in
    omega (arith, same, c.requires)

pub execute_alone-requires-clause-alone : goal.execute_alone-requires-clause-alone
execute_alone-requires-clause-alone g c = (read_none _ _ _ c.in-None.ensures).0

pub returns-in-None-clause-answers : goal.returns-in-None-clause-answers
returns-in-None-clause-answers g c =
    let after = with_tables c.execute_alone.new.engine (seen (g.F.Folder.files c.execute_alone.new.folder) (g.F.Folder.failure_count c.execute_alone.new.folder)) in
    subst (λ (f : FolderState). Answers (with_tables c.args.engine.now f) (statement_of c.args.statement) c.execute_alone.result after) (read_none _ _ _ c.in-None.ensures).1 c.execute_alone.ensures.answers

pub returns-in-None-clause-failures : goal.returns-in-None-clause-failures
returns-in-None-clause-failures g c =
    let same = ap (λ (f : FolderState). f.failures) (read_none _ _ _ c.in-None.ensures).1 in
    omega (arith, same, c.execute_alone.ensures.failures)

pub returns-in-Some-Ok-clause-answers : goal.returns-in-Some-Ok-clause-answers
returns-in-Some-Ok-clause-answers g c =
    let bytes = c.in-Some-Ok.bytes in
    let before = seen (g.F.Folder.files c.args.folder.now) (g.F.Folder.failure_count c.args.folder.now) in
    let read = seen (g.F.Folder.files c.read_wanted.new.folder) (g.F.Folder.failure_count c.read_wanted.new.folder) in
    let was : WasRead (file_read (file_use (store_of c.args.engine.now) (statement_of c.args.statement))) before read (Ok bytes) =
    subst (WasRead (file_read (file_use (store_of c.args.engine.now) (statement_of c.args.statement))) before read) c.in-Some-Ok.field-0-is (read_some _ _ _ c.in-Some-Ok.field-0 c.in-Some-Ok.ensures) in
    with_bytes c.args.engine.now (statement_of c.args.statement) before.files before.failures was.name read.files read.failures bytes.items c.as_slice.result.now c.answer_of.result c.answer_of.new.engine
    was.is_wanted c.as_slice.ensures.value (has_bytes file_limit was.name before.files read.files bytes was.is.files) (keeps_read file_limit was.name before.files read.files (Ok bytes) was.is.files) was.is.failures (reading_bytes _ _ _ _ _ _ was.is_wanted c.answer_of.ensures.replies) c.answer_of.ensures.stored

pub returns-in-Some-Ok-clause-failures : goal.returns-in-Some-Ok-clause-failures
returns-in-Some-Ok-clause-failures g c =
    let before = seen (g.F.Folder.files c.args.folder.now) (g.F.Folder.failure_count c.args.folder.now) in
    let read = seen (g.F.Folder.files c.read_wanted.new.folder) (g.F.Folder.failure_count c.read_wanted.new.folder) in
    let was : WasRead (file_read (file_use (store_of c.args.engine.now) (statement_of c.args.statement))) before read (Ok c.in-Some-Ok.bytes) =
    subst (WasRead (file_read (file_use (store_of c.args.engine.now) (statement_of c.args.statement))) before read) c.in-Some-Ok.field-0-is (read_some _ _ _ c.in-Some-Ok.field-0 c.in-Some-Ok.ensures) in
    omega (arith, was.is.failures)

pub returns-in-Some-Err-clause-answers : goal.returns-in-Some-Err-clause-answers
returns-in-Some-Err-clause-answers g c =
    let before = seen (g.F.Folder.files c.args.folder.now) (g.F.Folder.failure_count c.args.folder.now) in
    let read = seen (g.F.Folder.files c.read_wanted.new.folder) (g.F.Folder.failure_count c.read_wanted.new.folder) in
    let was : WasRead (file_read (file_use (store_of c.args.engine.now) (statement_of c.args.statement))) before read (Err c.in-Some-Err.fault) =
    subst (WasRead (file_read (file_use (store_of c.args.engine.now) (statement_of c.args.statement))) before read) c.in-Some-Err.field-0-is (read_some _ _ _ c.in-Some-Err.field-0 c.in-Some-Err.ensures) in
    by_fault c.args.engine.now (statement_of c.args.statement) before.files read.files before.failures read.failures c.in-Some-Err.fault c.answer_fault.result c.answer_fault.new.engine was c.answer_fault.ensures.replies c.answer_fault.ensures.stored

pub returns-in-Some-Err-clause-failures : goal.returns-in-Some-Err-clause-failures
returns-in-Some-Err-clause-failures g c =
    let before = seen (g.F.Folder.files c.args.folder.now) (g.F.Folder.failure_count c.args.folder.now) in
    let read = seen (g.F.Folder.files c.read_wanted.new.folder) (g.F.Folder.failure_count c.read_wanted.new.folder) in
    let was : WasRead (file_read (file_use (store_of c.args.engine.now) (statement_of c.args.statement))) before read (Err c.in-Some-Err.fault) =
    subst (WasRead (file_read (file_use (store_of c.args.engine.now) (statement_of c.args.statement))) before read) c.in-Some-Err.field-0-is (read_some _ _ _ c.in-Some-Err.field-0 c.in-Some-Err.ensures) in
    omega (arith, was.is.failures, failures_upto c.in-Some-Err.fault before.failures)
