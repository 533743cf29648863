use Rattle.std.proofs.Common.{◌≡◌, ◌∙◌, None, Some, ap, sym}
use Rattle.bw_shell.specs.Folders.{file_of}
use Rattle.bw_shell.proofs.FileMaps.{file_is}
use Rattle.bw_shell.proofs.folders.MemoryFolder.file.Goals as goal

pub returns-in_err-bytes : goal.returns-in_err-bytes
returns-in_err-bytes c =
    let file : file_of c.args.self.now c.args.name.now ≡ None = rw (← c.self.view_is) (file_is c.self.inside.files.entries c.args.name.now None c.in_err-bytes.ensures.value) in
    rw c.from_residual.ensures file

pub returns : goal.returns
returns c =
    let file : file_of c.args.self.now c.args.name.now ≡ Some c.in_ok-bytes.bytes.now.items = rw (← c.self.view_is) (file_is c.self.inside.files.entries c.args.name.now (Some c.in_ok-bytes.bytes.now) c.in_ok-bytes.ensures.value) in
    file ∙ ap (λ l. Some l) (sym c.as_slice.ensures.value)
