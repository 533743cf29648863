use Rattle.std.proofs.Common.{◌≡◌, ◌∙◌, Some, None, ap, arith, length, refl, sym}
use Rattle.bw_shell.specs.Folders.{file_of}
use Rattle.bw_shell.proofs.FileMaps.{file_is}
use Rattle.bw_shell.proofs.folders.MemoryFolderFolder.read.Goals as goal

pub returns-in_default-clause-files : goal.returns-in_default-clause-files
returns-in_default-clause-files c =
    let file : file_of c.args.self.now c.args.name.now ≡ None = rw (← c.self.view_is) (file_is c.self.inside.files.entries c.args.name.now None c.in_default.ensures.value) in
    (refl, file)

pub returns-then-len-limit-clause-files : goal.returns-then-len-limit-clause-files
returns-then-len-limit-clause-files c =
    let file : file_of c.args.self.now c.args.name.now ≡ Some c.in-Some.bytes.now.items = rw (← c.self.view_is) (file_is c.self.inside.files.entries c.args.name.now (Some c.in-Some.bytes.now) c.in-Some.ensures.value) in
    (refl, rw file (omega (arith, c.len.ensures, c.if-len-limit.true)))

pub returns-clause-files : goal.returns-clause-files
returns-clause-files c =
    let file : file_of c.args.self.now c.args.name.now ≡ Some c.in-Some.bytes.now.items = rw (← c.self.view_is) (file_is c.self.inside.files.entries c.args.name.now (Some c.in-Some.bytes.now) c.in-Some.ensures.value) in
    let copied = c.in_ok-from_slice.ensures.items ∙ c.as_slice.ensures.value in
    (refl, file ∙ ap (λ l. Some l) (sym copied))

pub returns-clause-within : goal.returns-clause-within
returns-clause-within c =
    let copied = c.in_ok-from_slice.ensures.items ∙ c.as_slice.ensures.value in
    omega (arith, ap length copied, c.len.ensures, c.if-len-limit.false)
