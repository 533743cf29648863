use Rattle.std.proofs.Common.{All, length, sym, true, ◌<◌, ◌∙◌, ◌≡◌}
use Rattle.bw_mask.specs.Masks.{len}
use Rattle.bw_code.specs.Types.{types_of}
use Rattle.bw_table.specs.Changes.{copies_fit}
use Rattle.bw_table.proofs.Heads.{fits_held, headers_kept}
use Rattle.bw_table.proofs.Typed.{typed_updated}
use Rattle.bw_table.proofs.table.Table.update.Goals as goal

pub update-requires-clause-held : goal.update-requires-clause-held
update-requires-clause-held g c =
    let headers = c.self.inside.headers.items in
    let fit : copies_fit (types_of headers) c.args.found.now c.args.sets.now c.self.inside.slots.slots ≡ true = rw c.deref.ensures.value at (sym c.copies_fit.ensures ∙ c.if-not-copies_fit.false) in
    let named : All (λ set. set.0 < length headers) c.args.sets.now = rw (← c.self.view_is) at c.requires.named in
    fits_held headers c.self.inside.slots c.self.invariant c.args.found.now c.args.sets.now named fit

pub invariant_of-self-2 : goal.invariant_of-self-2
invariant_of-self-2 g c =
    let headers = c.self.inside.headers.items in
    let fit : copies_fit (types_of headers) c.args.found.now c.args.sets.now c.self.inside.slots.slots ≡ true = rw c.deref.ensures.value at (sym c.copies_fit.ensures ∙ c.if-not-copies_fit.false) in
    let slots = c.self.inside.slots in
    let found = c.args.found.now in
    let long : len found ≡ length slots.slots = rw (← c.self.view_is) at c.requires.found in
    headers_kept headers slots c.update.new.self c.self.invariant c.update.ensures.layouts c.update.ensures.kinds
    (rw c.in_ok-update.ensures.updated.slots_are (typed_updated (types_of headers) found c.args.sets.now slots.slots long c.self.invariant.typed fit))
