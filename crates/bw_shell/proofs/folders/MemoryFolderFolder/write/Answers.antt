use Rattle.bw_shell.proofs.FileMaps.{set_by}
use Rattle.bw_shell.proofs.folders.MemoryFolderFolder.write.Goals as goal

pub returns-clause-files : goal.returns-clause-files
returns-clause-files c = rw (← c.self.view_is, ← c.in_ok-name.ensures.ok, ← c.in_ok-bytes.ensures.items) (set_by c.self.inside.files c.insert.new.self _ c.in_ok-bytes.bytes c.in_ok-insert.ensures.updates)
