use Rattle.std.proofs.Common.{ap, get_or, length, subst, sym, ◌<◌, ◌^◌, ◌∙◌}
use Rattle.bw_code.specs.Units.{PlanesRead}
use Rattle.bw_byteslice.specs.Storing.{bytes_of}
use Rattle.bw_byteslice.proofs.BitPlanes.{plane_is, plane_read, segment_small, slice_at, slice_whole}
use Rattle.bw_byteslice.proofs.plane_source.SlicePlanesSourceArrayU644.read.Goals as goal

pub plane_at-requires-clause-small : goal.plane_at-requires-clause-small
plane_at-requires-clause-small c =
    let there = subst (λ (s : PlanesRead). c.args.i < length s.units) (sym c.self.view_is) c.requires.there in
    subst (λ q. q < 2 ^ 32) (sym c.place-segment.ensures.segment) (segment_small c.self.inside.width c.self.inside.len (bytes_of c.self.inside.slices.now) c.args.i c.self.invariant.stored.some c.self.invariant.stored.few there)

pub plane_at-requires-clause-whole : goal.plane_at-requires-clause-whole
plane_at-requires-clause-whole c =
    slice_whole _ (λ v. v.items) c.self.inside.slices.now c.self.inside.width c.self.inside.len c.args.i c.place-segment.result.1 c.self.invariant.stored c.place-segment.ensures.start c.deref.result.now _ c.deref.ensures.value

pub returns-clause-unit : goal.returns-clause-unit
returns-clause-unit c =
    let there = subst (λ (s : PlanesRead). c.args.i < length s.units) (sym c.self.view_is) c.requires.there in
    let slice = slice_at _ (λ v. v.items) c.self.inside.slices.now c.self.inside.width c.self.inside.len c.args.i c.place-segment.result.1 c.self.invariant.stored c.place-segment.ensures.start c.deref.result.now _ c.deref.ensures.value in
    let plane = plane_is _ (λ v. v.items) c.self.inside.slices.now c.self.inside.width c.self.inside.len c.args.i c.place-segment.result.1 c.self.invariant.stored c.place-segment.ensures.start in
    c.plane_at.ensures
    ∙ plane_read c.self.inside.width c.self.inside.len (bytes_of c.self.inside.slices.now) c.args.i c.place-segment.result.0 _ c.deref.result.now c.plane_at.result c.place-segment.ensures.segment plane slice there
    ∙ ap (λ (s : PlanesRead). get_or s.units c.args.i c.plane_at.result) c.self.view_is
