use Rattle.std.proofs.Common.{ap, bit_or, of_z, pos, rules, to_z, w32, ◌≡◌, ◌∙◌}
use Rattle.std.proofs.lemmas.Int.{to_z-of_z}
use Rattle.std.specs.Int.Bits.{or_zero_l}
use Rattle.bw_file.proofs.ends.word_or.Goals as goal

-- 0 leaves what it is joined with as it is
pub returns-else-there : goal.returns-else-there
returns-else-there c gone =
    let null : to_z w32 (of_z w32 c.args.null) ≡ c.args.null = to_z-of_z w32 c.args.null (search rules) in
    let joined : to_z w32 (bit_or (of_z w32 (pos 0)) (of_z w32 c.args.null)) ≡ c.args.null = ap (to_z w32) (or_zero_l (of_z w32 c.args.null)) ∙ null in
    rw (c.if-there.false, gone c.if-there.false) joined
