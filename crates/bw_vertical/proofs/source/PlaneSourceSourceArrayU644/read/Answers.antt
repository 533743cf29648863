use Rattle.std.proofs.Common.{Global, List, Vec, [], ap, arith, drop, get_or, length, subst, sym, ℕ, ◌%◌, ◌*◌, ◌+◌, ◌-◌, ◌/◌, ◌<◌, ◌≡◌, ◌∙◌}
use Rattle.std.proofs.Math.Nat.{div-lt_iff_lt-mul, mul-le-mul_left}
use Rattle.std.proofs.lemmas.List.{length-drop, length-take}
use Rattle.bw_vertical.specs.declared.source.Standing.{Standing}
use Rattle.bw_code.specs.Units.{PlanesRead, segments_of}
use Rattle.bw_vertical.specs.Storage.{Stands, lists, plane_at}
use Rattle.bw_vertical.proofs.Holding.{has_segment, held_past, unit_at, units_len}
use Rattle.bw_vertical.proofs.source.PlaneSourceSourceArrayU644.read.Goals as goal
use Rattle.bw_vertical.proofs.source.PlaneSourceSourceArrayU644.read.Goals.{then-i-at, else-i-at+then-is_empty, else-i-at+else-is_empty}

pub moved-at-requires-clause-low : goal.moved-at-requires-clause-low
moved-at-requires-clause-low c =
    let k = c.self.inside.width in
    let n = c.self.inside.len in
    let gs = lists c.self.inside.groups.now in
    let there : c.args.i < segments_of 256 n * k =
    subst (λ m. c.args.i < m) (units_len k n gs) (subst (λ (s : PlanesRead). c.args.i < length s.units) (sym c.self.view_is) c.requires.there) in
    omega (arith, there, mul-le-mul_left (segments_of 256 n) c.self.invariant.planes.narrow, c.self.invariant.planes.few)

pub moved-at-requires-clause-there : goal.moved-at-requires-clause-there
moved-at-requires-clause-there c =
    let k = c.self.inside.width in
    let n = c.self.inside.len in
    let gs = lists c.self.inside.groups.now in
    let there : c.args.i < segments_of 256 n * k =
    subst (λ m. c.args.i < m) (units_len k n gs) (subst (λ (s : PlanesRead). c.args.i < length s.units) (sym c.self.view_is) c.requires.there) in
    let inside : c.args.i / k < segments_of 256 n = (div-lt_iff_lt-mul {k = k} {x = c.args.i} {y = segments_of 256 n} c.self.invariant.planes.some).1 there in
    has_segment k n gs c.self.invariant.planes (c.args.i / k) inside

pub stepped-at-requires-clause-low : goal.stepped-at-requires-clause-low
stepped-at-requires-clause-low c =
    let k = c.self.inside.width in
    let n = c.self.inside.len in
    let gs = lists c.self.inside.groups.now in
    let there : c.args.i < segments_of 256 n * k =
    subst (λ m. c.args.i < m) (units_len k n gs) (subst (λ (s : PlanesRead). c.args.i < length s.units) (sym c.self.view_is) c.requires.there) in
    omega (arith, there, mul-le-mul_left (segments_of 256 n) c.self.invariant.planes.narrow, c.self.invariant.planes.few)

pub stepped-at-requires-clause-there : goal.stepped-at-requires-clause-there
stepped-at-requires-clause-there c =
    let k = c.self.inside.width in
    let n = c.self.inside.len in
    let gs = lists c.self.inside.groups.now in
    let there : c.args.i < segments_of 256 n * k =
    subst (λ m. c.args.i < m) (units_len k n gs) (subst (λ (s : PlanesRead). c.args.i < length s.units) (sym c.self.view_is) c.requires.there) in
    let inside : c.args.i / k < segments_of 256 n = (div-lt_iff_lt-mul {k = k} {x = c.args.i} {y = segments_of 256 n} c.self.invariant.planes.some).1 there in
    has_segment k n gs c.self.invariant.planes (c.args.i / k) inside

-- where the source stands to read unit i
record Ready (k : ℕ) (vs : List (Vec (List ℕ) Global)) (i : ℕ) (at : Standing) : Type 0 where
  stands : Stands k vs at.segment at.start at.left at.behind.now at.rest.now i
  some : 0 < length at.rest.now

ready : (c : goal.After-result-1) → Ready c.self.inside.width c.self.inside.groups.now c.args.i c.if-i-at.at
ready c =
    let k = c.self.inside.width in
    let vs = c.self.inside.groups.now in
    elim c.if-i-at.branch [
      | then-i-at w ↦
          let m = w.moved-at.result in
          rw (w.at-is) (record { stands = subst (Stands k vs m.segment m.start m.left m.behind.now m.rest.now) w.moved-at.ensures.next w.moved-at.ensures.stands; some = w.moved-at.ensures.some })
      | else-i-at+then-is_empty w ↦
          let m = w.stepped-at.result in
          rw (w.at-is) (record { stands = subst (Stands k vs m.segment m.start m.left m.behind.now m.rest.now) w.stepped-at.ensures.next w.stepped-at.ensures.stands; some = w.stepped-at.ensures.some })
      | else-i-at+else-is_empty w ↦
          let m = c.self.inside.standing in
          rw (w.at-is) (record {
            stands = subst (Stands k vs m.segment m.start m.left m.behind.now m.rest.now) (sym (w.if-i-at.false)) c.self.invariant.stands;
            some = grind (arith, w.is_empty.ensures, w.if-is_empty.false);
          })
    ]

pub invariant_of-self : goal.invariant_of-self
invariant_of-self c =
    let k = c.self.inside.width in
    let gs = lists c.self.inside.groups.now in
    let p = ready c in
    let rest = c.if-i-at.at.rest.now in
    record {
      planes = c.self.invariant.planes;
      stands = record {
        start_is = p.stands.start_is;
        small = p.stands.small;
        within = p.stands.within;
        ahead = p.stands.ahead;
        units = held_past k c.args.i 1 gs rest p.stands.units;
        end = omega (arith, p.stands.end, p.some, length-take (length rest - 1) (drop 1 rest), length-drop 1 rest);
      };
    }

pub returns-clause-unit : goal.returns-clause-unit
returns-clause-unit c =
    let k = c.self.inside.width in
    let n = c.self.inside.len in
    let gs = lists c.self.inside.groups.now in
    let there : c.args.i < segments_of 256 n * k =
    subst (λ m. c.args.i < m) (units_len k n gs) (subst (λ (s : PlanesRead). c.args.i < length s.units) (sym c.self.view_is) c.requires.there) in
    let p = ready c in
    let zero : c.args.i + 0 ≡ c.args.i = omega arith in
    let d = get_or c.if-i-at.at.rest.now 0 [] in
    p.stands.units 0 p.some
    ∙ ap (λ v. plane_at k gs (v / k) (v % k)) zero
    ∙ sym (unit_at k n gs c.args.i d there)
    ∙ ap (λ (s : PlanesRead). get_or s.units c.args.i d) c.self.view_is
