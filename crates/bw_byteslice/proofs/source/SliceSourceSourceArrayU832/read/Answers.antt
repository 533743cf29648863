use Rattle.std.proofs.Common.{ap, get_or, length, subst, sym, ◌<◌, ◌∙◌}
use Rattle.bw_byteslice.specs.Storing.{units_of}
use Rattle.bw_byteslice.proofs.InUnits.{slice_unit, slice_wide}
use Rattle.bw_byteslice.proofs.source.SliceSourceSourceArrayU832.read.Goals as goal

pub bytes_at-requires : goal.bytes_at-requires
bytes_at-requires c =
    let there = subst (λ s. c.args.i < length (units_of s)) (sym (ap (λ s. s.slices) c.self.view_is)) c.requires.there in
    slice_wide _ (λ v. v.items) c.self.inside.slices.now c.self.invariant.even c.args.i there c.place-q.result.0 c.place-q.result.1 c.place-q.ensures.segment c.place-q.ensures.start c.deref.result.now _ c.deref.ensures.value

pub returns-clause-unit : goal.returns-clause-unit
returns-clause-unit c =
    let there = subst (λ s. c.args.i < length (units_of s)) (sym (ap (λ s. s.slices) c.self.view_is)) c.requires.there in
    c.bytes_at.ensures
    ∙ slice_unit _ (λ v. v.items) c.self.inside.slices.now c.self.invariant.even c.args.i there c.place-q.result.0 c.place-q.result.1 c.place-q.ensures.segment c.place-q.ensures.start c.deref.result.now _ c.deref.ensures.value c.bytes_at.result
    ∙ ap (λ s. get_or (units_of s.slices) c.args.i c.bytes_at.result) c.self.view_is
