use Rattle.std.proofs.Common.{sym}
use Rattle.bw_sql.specs.Tree.{statement_of}
use Rattle.bw_shell.proofs.ByFolder.{no_read}
use Rattle.bw_shell.proofs.executing.execute_alone.Goals as goal

pub returns-in-Reply-clause-answers : goal.returns-in-Reply-clause-answers
returns-in-Reply-clause-answers g c =
    no_read c.args.engine.now (statement_of c.args.statement) (g.F.Folder.files c.args.folder.now) (g.F.Folder.failure_count c.args.folder.now) c.in-Reply.reply c.execute.new.self
    (sym c.requires.alone) c.in-Reply.ensures.outcome.0 c.in-Reply.ensures.stored c.in-Reply.ensures.outcome.1
