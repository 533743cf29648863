use Rattle.std.proofs.Common.{ap, arith, drop, length, nat_eq, ◌*◌, ◌-◌, ◌∙◌}
use Rattle.std.proofs.lemmas.List.{length-drop, take_all}
use Rattle.byteorder.specs.Endian.{little_number}
use Rattle.bw_file.proofs.cells.is_zero.Goals as goal

pub returns : goal.returns
returns c =
    let words = c.args.words.now in
    let at = 4 * c.args.i in
    ap (λ n. nat_eq n 0) (c.read_u32.ensures ∙ ap (little_number 4) (take_all (length words - at) (drop at words) (omega (arith, length-drop at words))))
