use Rattle.std.proofs.Common.{ap, append_assoc, arith, drop, take, ◌++◌, ◌<◌, ◌^◌, ◌∙◌, ℕ}
use Rattle.std.proofs.lemmas.List.{take-append-drop}
use Rattle.std.proofs.lemmas.List.Elements.{All-drop}
use Rattle.bw_code.proofs.Lists.{part_fits}
use Rattle.bw_vertical.proofs.column.VerticalColumnCodeColumn.extend.Goals as goal

pub append-requires-clause-room : goal.append-requires-clause-room
append-requires-clause-room c =
    let i = c.parts.invariant in
    rw c.split_at.ensures.front (omega (arith, part_fits c.parts.self.codes c.parts.rest.now c.args.self.now.codes c.args.codes.now c.min.result i.codes, c.requires.room, i.shape.room))

pub append-requires-clause-few : goal.append-requires-clause-few
append-requires-clause-few c =
    let i = c.parts.invariant in
    rw c.split_at.ensures.front (omega (arith, part_fits c.parts.self.codes c.parts.rest.now c.args.self.now.codes c.args.codes.now c.min.result i.codes, c.requires.few))

pub parts-preserved : goal.parts-preserved
parts-preserved c =
    let i = c.parts.invariant in
    let now = c.parts.self.codes in
    let rest = c.parts.rest.now in
    let n = c.min.result in
    record {
      codes = rw (c.split_at.ensures.back, c.append.ensures.codes, c.split_at.ensures.front) (append_assoc now (take n rest) (drop n rest) ∙ ap (λ ys. now ++ ys) (take-append-drop n rest) ∙ i.codes);
      fit = rw c.split_at.ensures.back (All-drop (λ (code : ℕ). code < 2 ^ c.args.self.now.width) n rest i.fit);
      shape = record { width = c.append.ensures.shape.width ∙ i.shape.width; room = omega (arith, c.append.ensures.shape.room, i.shape.room) };
    }
